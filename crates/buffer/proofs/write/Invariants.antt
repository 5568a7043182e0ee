-- `buffer::write` meets its contract. The loop's invariant: the stores that are left take `s` to what is promised.
use mathlib.Core.Path.{◌≡◌}
use Prim.Native.Nat.{◌+◌}
use lib.ListN.{drop}
use lib.Seq.{sets}
use Rattle.buffer.proofs.write.Given as goal

abbrev pub invariant-loop-j : goal.invariant-loop-j
invariant-loop-j l = sets l.s (l.at + l.j) (drop l.j l.piece) ≡ sets l.initial.s l.at l.piece
