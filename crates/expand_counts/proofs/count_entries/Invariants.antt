-- `expand_counts::count_entries` meets its contract. The invariant: the entries that are left make of the counts so far what all make of
-- those given.
use Prim.Native.Nat.{◌-◌, ◌*◌, ◌≤◌}
use mathlib.Core.Path.{◌≡◌}
use lib.ListN.{length}
use Rattle.tape.proofs.Runs.{place}
use Rattle.registry.specs.Places.{origin}
use Rattle.expand_counts.specs.Counting.{passing, count_from}
use Rattle.expand_counts.proofs.count_entries.Given as goal

abbrev pub invariant-loop-at : goal.invariant-loop-at
invariant-loop-at l = (count_from l.index.tape.bytes.now l.index.tape.layout l.index.rows.now l.held.tape.bytes.now l.held.tape.layout (l.held.tape.layout.entries - l.at) (place l.at l.text) l.w l.counts
    ≡ count_from l.index.tape.bytes.now l.index.tape.layout l.index.rows.now l.held.tape.bytes.now l.held.tape.layout l.held.tape.layout.entries origin (passing 0 0) l.initial.counts)
    × (l.w.items ≤ 2048 * l.at) × (length l.counts ≡ length l.initial.counts) × (l.text ≤ l.held.tape.layout.size)
