-- Byte order on texts: of two texts one comes before the other, or they are equal; and it is the order of specs/Declared.antt.
-- Assumes nothing.
use Prim.Native.Nat.{ℕ, ◌≤◌, ◌<◌}
use native.Mathlib.Omega.{arith}
use mathlib.Core.Path.{◌≡◌, refl, sym, ap, ◌∙◌}
use mathlib.Core.List.{[], ◌∷◌}
use mathlib.Core.Bool.{Bool, true, false}
use mathlib.Core.Logic.{◌⊎◌, inl, inr, ⊎_elim}
use borrow.Author.Tests.{lt-ltb, le-ltb, eq-eqb, ne_eqb, leb-true, leb-false}
use lib.Dec.{leb}
use Rattle.format.specs.Entry.{Text}
use Rattle.definition.specs.Text.{eq_text, lt_text}
use Rattle.definition.specs.Declared.{Before}

both : {b : Bool} → b ≡ true → b ≡ false → ⊥
both p q = let z : ◌≡◌ {A = ℕ} 0 1 = cc in omega arith

cases : (b : Bool) {A : Type 0} → (b ≡ true → A) → (b ≡ false → A) → A
cases true t f = t refl
cases false t f = f refl

le_or : (a b : ℕ) {A : Type 0} → (a ≤ b → A) → (b < a → A) → A
le_or a b t f = cases (leb a b) (λ e. t (leb-true a b e)) (λ e. f (leb-false a b e))

-- ------------------------------------------------------------------ by the first bytes

pub lt_first : (a b : ℕ) (s t : Text) → a < b → lt_text (a ∷ s) (b ∷ t) ≡ true
unfolding lt_text
lt_first a b s t h = rw (lt-ltb a b h)

pub not_lt_first : (a b : ℕ) (s t : Text) → b < a → lt_text (a ∷ s) (b ∷ t) ≡ false
unfolding lt_text
not_lt_first a b s t h = rw (le-ltb a b (omega arith), ne_eqb a b (λ e. omega arith))

pub lt_later : (a : ℕ) (s t : Text) → lt_text (a ∷ s) (a ∷ t) ≡ lt_text s t
unfolding lt_text
lt_later a s t = rw (le-ltb a a (omega arith), eq-eqb a a refl)

by_bytes : (a b : ℕ) {A : Type 0} → (a < b → A) → (a ≡ b → A) → (b < a → A) → A
by_bytes a b less same more = le_or a b (λ h. le_or b a (λ k. same (omega arith)) less) more

-- a comes before b, is equal, or comes after
pub data Ordered (a b : Text) : Type 0 where
  before : lt_text a b ≡ true → Ordered a b
  same : a ≡ b → Ordered a b
  after : lt_text b a ≡ true → Ordered a b

pub order : (a b : Text) → Ordered a b
unfolding lt_text
order [] [] = same refl
order [] (b ∷ t) = before refl
order (a ∷ s) [] = after refl
order (a ∷ s) (b ∷ t) = by_bytes a b (λ h. before (lt_first a b s t h)) (λ e. rw (← e) (go (order s t))) (λ h. after (lt_first b a t s h))
  where
    go : Ordered s t → Ordered (a ∷ s) (a ∷ t)
    go (before h) = before (lt_later a s t ∙ h)
    go (same e) = same (ap (◌∷◌ a) e)
    go (after h) = after (lt_later a t s ∙ h)

lt_split : (a b : ℕ) (s t : Text) → lt_text (a ∷ s) (b ∷ t) ≡ true → (a < b) ⊎ ((a ≡ b) × (lt_text s t ≡ true))
lt_split a b s t h =
    by_bytes a b inl (λ e. inr (e, sym (lt_later b s t) ∙ rw e at h)) (λ k. absurd (both h (not_lt_first a b s t k)))

pub lt_trans : (a b c : Text) → lt_text a b ≡ true → lt_text b c ≡ true → lt_text a c ≡ true
unfolding lt_text
lt_trans a [] c h k = absurd (both h refl)
lt_trans a (y ∷ t) [] h k = absurd (both k refl)
lt_trans [] (y ∷ t) (z ∷ u) h k = refl
lt_trans (x ∷ s) (y ∷ t) (z ∷ u) h k =
    ⊎_elim
    (λ p. ⊎_elim (λ q. lt_first x z s u (omega arith)) (λ q. lt_first x z s u (omega arith)) (lt_split y z t u k))
    (λ p.
    ⊎_elim (λ q. lt_first x z s u (omega arith))
    (λ q. rw (p.0, q.0) (lt_later z s u ∙ lt_trans s t u p.1 q.1))
    (lt_split y z t u k))
    (lt_split x y s t h)

pub lt_irrefl : (a : Text) → lt_text a a ≡ false
unfolding lt_text
lt_irrefl [] = refl
lt_irrefl (x ∷ s) = lt_later x s s ∙ lt_irrefl s

pub lt_asym : (a b : Text) → lt_text a b ≡ true → lt_text b a ≡ false
lt_asym a b h = cases (lt_text b a) (λ k. absurd (both (lt_trans a b a h k) (lt_irrefl a))) (λ k. k)

-- ------------------------------------------------------------------ equality

pub eq_refl : (a : Text) → eq_text a a ≡ true
unfolding eq_text
eq_refl [] = refl
eq_refl (x ∷ s) = rw (eq-eqb x x refl) (eq_refl s)

-- what comes after is not equal
pub eq_after : (a b : Text) → lt_text b a ≡ true → eq_text a b ≡ false
unfolding lt_text eq_text
eq_after [] b h = absurd (both h refl)
eq_after (x ∷ s) [] h = refl
eq_after (x ∷ s) (y ∷ t) h =
    ⊎_elim (λ p. rw (ne_eqb x y (λ e. omega arith))) (λ p. rw (p.0, eq-eqb x x refl) (eq_after s t p.1)) (lt_split y x t s h)

-- ------------------------------------------------------------------ in the words of the paper

pub lt_before : (s t : Text) → lt_text s t ≡ true → Before s t
unfolding lt_text
lt_before s [] h = absurd (both h refl)
lt_before [] (b ∷ t) h = Before.ends
lt_before (a ∷ s) (b ∷ t) h = ⊎_elim Before.lower (λ p. rw (p.0) (Before.behind (lt_before s t p.1))) (lt_split a b s t h)

pub before_lt : {s t : Text} → Before s t → lt_text s t ≡ true
unfolding lt_text
before_lt Before.ends = refl
before_lt (Before.lower {a} {b} {s} {t} h) = lt_first a b s t h
before_lt (Before.behind {a} {s} {t} b) = lt_later a s t ∙ before_lt b
