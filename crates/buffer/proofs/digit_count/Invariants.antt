-- `buffer::digit_count` meets its contract. The loop's invariant: the digits counted and those of what is left, together one too many.
use mathlib.Core.Path.{◌≡◌}
use Prim.Native.Nat.{◌+◌}
use lib.ListN.{length}
use Rattle.definition.specs.Text.{decimal}
use Rattle.buffer.proofs.digit_count.Given as goal

abbrev pub invariant-loop-left : goal.invariant-loop-left
invariant-loop-left l = l.count + length (decimal l.left) ≡ 1 + length (decimal l.n)

abbrev pub decreases-loop-left : goal.decreases-loop-left
decreases-loop-left l = l.left
