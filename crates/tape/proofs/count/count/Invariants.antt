-- The loop's invariant: n, and the codes that pass from the index on, are all of them.
use Prim.Native.Nat.{ℕ, ◌+◌, ◌≤◌}
use mathlib.Core.Path.{◌≡◌}
use mathlib.Core.Bool.{Bool}
use lib.ListN.{drop}
use Rattle.format.specs.Limits.{weigh}
use Rattle.tape.specs.Flat.{sum_of}
use Rattle.tape.proofs.count.count.Given as goal

abbrev pub invariant-loop-code : goal.invariant-loop-code
invariant-loop-code g l = (l.n ≤ l.code-index)
    × ((f : ℕ → Bool) → ((c : ℕ) (b : Bool) → goal.F-post g l.passes c b → b ≡ f c)
    → l.n + sum_of (λ (c : ℕ). weigh (f c)) (drop l.code-index l.codes) ≡ sum_of (λ (c : ℕ). weigh (f c)) l.codes)
