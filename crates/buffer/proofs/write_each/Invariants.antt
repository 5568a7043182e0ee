-- `buffer::write_each` meets its contract. The loop's invariant: for each f that the calls agree with, the stores that are left take `s` to
-- what is promised.
use mathlib.Core.Path.{◌≡◌}
use mathlib.Core.List.{map}
use Prim.Native.Nat.{ℕ, ◌+◌}
use lib.ListN.{drop}
use lib.Seq.{sets}
use Rattle.buffer.proofs.write_each.Given as goal

abbrev pub invariant-loop-j : goal.invariant-loop-j
invariant-loop-j g l =
    (f : ℕ → ℕ) → ((b x : ℕ) → goal.F-post g l.becomes b x → x ≡ f b)
    → sets l.s (l.at + l.j) (drop l.j (map f l.piece)) ≡ sets l.initial.s l.at (map f l.piece)
