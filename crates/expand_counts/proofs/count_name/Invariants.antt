-- `expand_counts::count_name` meets its contract. The invariant: the counts that are done, and the others raised by the rows that are left.
use Prim.Native.Nat.{◌≤◌}
use mathlib.Core.Path.{◌≡◌}
use mathlib.Core.List.{◌++◌}
use lib.ListN.{length, take, drop}
use Rattle.expand_counts.specs.Counting.{raised_at}
use Rattle.expand_counts.proofs.count_name.Given as goal

abbrev pub invariant-loop-i : goal.invariant-loop-i
invariant-loop-i l = (take l.i l.counts ++ raised_at l.index.tape.bytes.now l.index.tape.layout (drop l.i l.rows) l.name (drop l.i l.counts) ≡ raised_at l.index.tape.bytes.now l.index.tape.layout l.rows l.name l.initial.counts)
    × (length l.counts ≡ length l.initial.counts) × (length l.rows ≤ length l.initial.counts)
