-- `profile::profile_entries` meets its contract. The loop's invariant: the entries that are left, with the nodes met and the items to come,
-- decide the whole; and no more conditions are around them than nodes were met, the whole aside.
use Prim.Native.Nat.{◌+◌, ◌-◌, ◌≤◌}
use mathlib.Core.Path.{◌≡◌}
use mathlib.Core.List.{reverse}
use Rattle.arrayvec.specs.ArrayVec.{array_vec_len}
use Rattle.profile.specs.Entries.{heads_at, profile_heads, profile_all}
use Rattle.profile.specs.Spans.{spans_in}
use Rattle.profile.proofs.profile_entries.Given as goal

abbrev pub invariant-loop-at : goal.invariant-loop-at
invariant-loop-at l = (l.nodes ≤ 16) × (array_vec_len l.around ≤ l.nodes + 1)
    × (profile_heads l.nodes (spans_in (reverse l.around.items)) (heads_at l.held.tape.bytes.now l.held.tape.layout l.at (l.held.tape.layout.entries - l.at)) ≡ profile_all l.held.tape.bytes.now l.held.tape.layout)
