-- Tests: by their outcomes, and what two of them decide together.
-- Assumes nothing.
use mathlib.Core.Path.{◌≡◌, refl}
use mathlib.Core.Bool.{Bool, true, false, ◌&&◌}
use Prim.Native.Nat.{ℕ, ◌≤◌, ◌<◌}
use native.Mathlib.Omega.{arith}
use lib.Dec.{leb, ltb}
use borrow.Author.Tests.{leb-true, leb-false, ltb-true, ltb-false}
use Rattle.buffer.specs.Buffer.{Decides}

pub both : {b : Bool} → b ≡ true → b ≡ false → ⊥
both p q = let z : ◌≡◌ {A = ℕ} 0 1 = cc in omega arith

pub cases : (b : Bool) {A : Type 0} → (b ≡ true → A) → (b ≡ false → A) → A
cases true t f = t refl
cases false t f = f refl

pub le_or : (a b : ℕ) {A : Type 0} → (a ≤ b → A) → (b < a → A) → A
le_or a b t f = cases (leb a b) (λ e. t (leb-true a b e)) (λ e. f (leb-false a b e))

pub refuted : {P : Type 0} → (P → ⊥) → Decides P false
refuted h = record { holds = λ e. absurd (both e refl); fails = λ _. h }

-- the test has the value that it has to have
pub true_of : {P : Type 0} {r : Bool} → Decides P r → P → r ≡ true
true_of {P} {r} d p = cases r (λ e. e) (λ e. absurd (d.fails e p))

pub false_of : {P : Type 0} {r : Bool} → Decides P r → (P → ⊥) → r ≡ false
false_of {P} {r} d n = cases r (λ e. absurd (n (d.holds e))) (λ e. e)

pub decides_le : (m n : ℕ) → Decides (m ≤ n) (leb m n)
decides_le m n = record { holds = λ e. leb-true m n e; fails = λ e h. absurd (omega (arith, leb-false m n e)) }

pub decides_lt : (m n : ℕ) → Decides (m < n) (ltb m n)
decides_lt m n = record { holds = λ e. ltb-true m n e; fails = λ e h. absurd (omega (arith, ltb-false m n e)) }

pub decides_and : {P Q : Type 0} {a b : Bool} → Decides P a → Decides Q b → Decides (P × Q) (a && b)
decides_and {P} {Q} {a} {b} p q =
    cases a
    (λ e. rw e (record { holds = λ h. (p.holds e, q.holds h); fails = λ h pq. q.fails h pq.1 }))
    (λ e. rw e (refuted (λ pq. p.fails e pq.0)))
