-- A test that the prover computes at each number of a range, and the rule that it gives there.
-- Assumes nothing.
use mathlib.Core.Path.{◌≡◌, refl, subst}
use mathlib.Core.Bool.{Bool, true, false, ◌&&◌}
use Prim.Native.Nat.{ℕ, zero, suc, ◌+◌, ◌≤◌, ◌<◌}
use native.Mathlib.Decide.{ℕ_discrete}
use native.Mathlib.Omega.{arith}
use lib.Dec.{T}
use Rattle.format.proofs.Tests.{and_left, and_right}

-- the test passes at each of the n numbers from `low` on
abbrev pub every : (ℕ → Bool) → ℕ → ℕ → Bool
every f low zero = true
every f low (suc n) = f low && every f (suc low) n

pub at : (f : ℕ → Bool) (low n : ℕ) → T (every f low n) → (k : ℕ) → low ≤ k → k < low + n → T (f k)
at f low zero t k h₁ h₂ = absurd (omega arith)
at f low (suc n) t k h₁ h₂ = go (ℕ_discrete low k) (at f (suc low) n (and_right (f low) (every f (suc low) n) t) k)
  where
    go : Dec (low ≡ k) → (suc low ≤ k → k < suc low + n → T (f k)) → T (f k)
    go (yes e) next = subst (λ (m : ℕ). T (f m)) e (and_left (f low) (every f (suc low) n) t)
    go (no ne) next = next (omega arith) (omega arith)

-- the same of a test of two numbers
pub at_both : (f : ℕ → ℕ → Bool) (m n : ℕ) → T (every (λ (k : ℕ). every (f k) 0 n) 0 m) → (i j : ℕ) → i < m → j < n → T (f i j)
at_both f m n t i j g h = at (f i) 0 n (at (λ (k : ℕ). every (f k) 0 n) 0 m t i (omega arith) (omega arith)) j (omega arith) (omega arith)

abbrev pub same : Bool → Bool → Bool
same true b = b
same false true = false
same false false = true

pub same_eq : (a b : Bool) → T (same a b) → a ≡ b
same_eq true true t = refl
same_eq true false t = absurd t
same_eq false true t = absurd t
same_eq false false t = refl
