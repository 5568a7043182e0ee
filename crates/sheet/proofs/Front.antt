-- What stands at the front of a list: a condition with its length, or none. A law for each way in which a function over it returns.
-- Assumes nothing.
use Prim.Native.Nat.{ℕ, zero, suc, ◌+◌, ◌-◌, ◌≤◌, ◌<◌}
use mathlib.Core.Path.{◌≡◌, refl, sym, ap, ◌∙◌}
use mathlib.Core.List.{List, []}
use mathlib.Core.Bool.{Bool, true, false, ◌&&◌}
use native.Mathlib.Omega.{arith}
use borrow.Author.Tests.{le-leb, lt-leb, leb-true}
use lib.Dec.{leb, eqb}
use lib.ListN.{length, take, drop, length-take, length-drop}
use lib.Seq.{drop-drop}
use Rattle.format.proofs.Tests.{from_true}
use Rattle.std.specs.Prelude.{Option, Some, None}
use Rattle.std.specs.Option.{MatchOption}
use Rattle.std.specs.List.{IsSplitAt}
use Rattle.sheet.specs.Sheet.{size_of, begins_with_one, first_of, width_of, filled_by}

pub tells_one : (s : List ℕ) (n : ℕ) → 4 ≤ length s → n ≡ size_of s → leb n (length s - 4) ≡ begins_with_one s
unfolding begins_with_one
tells_one s n h e = sym (rw (le-leb 4 (length s) h) (ap (λ (k : ℕ). leb k (length s - 4)) (sym e)))

-- where one stands, its length and its bytes are there
pub one_stands : (s : List ℕ) → begins_with_one s ≡ true → 4 + size_of s ≤ length s
unfolding begins_with_one
one_stands s e = go (leb 4 (length s)) refl e
  where
    go : (t : Bool) → leb 4 (length s) ≡ t → (t && leb (size_of s) (length s - 4)) ≡ true → 4 + size_of s ≤ length s
    go true h k = omega (arith, leb-true 4 (length s) h, leb-true (size_of s) (length s - 4) k)
    go false h k = absurd (from_true k)

pub first_one : (s : List ℕ) (n : ℕ) → begins_with_one s ≡ true → n ≡ size_of s → take n (drop 4 s) ≡ first_of s
unfolding first_of
first_one s n e h = sym (rw (first_of, e) (ap (λ (k : ℕ). take k (drop 4 s)) (sym h)))

pub width_one : (s : List ℕ) (n : ℕ) → begins_with_one s ≡ true → n ≡ size_of s → 4 + n ≡ width_of s
unfolding width_of
width_one s n e h = sym (rw (width_of, e) (ap (λ (k : ℕ). 4 + k) (sym h)))

-- ------------------------------------------------------------------ split off

module _ (s : List ℕ) where
  pub none_short : length s < 4 → begins_with_one s ≡ false
  unfolding begins_with_one
  none_short h = rw (lt-leb 4 (length s) h) refl

  pub split_none : {A : Type 0} (front back : A → List ℕ) (r : Option A) → r ≡ None → length s < 4
      → MatchOption r (begins_with_one s ≡ false) (λ p. (begins_with_one s ≡ true) × (front p ≡ first_of s) × (back p ≡ drop (width_of s) s))
  split_none front back r e h = rw e (none_short h)

  -- from behind the length on
  pub split_behind : {A : Type 0} (front back : A → List ℕ) (r : Option A) {b : List ℕ} {n : ℕ} → 4 ≤ length s → b ≡ drop 4 s → n ≡ size_of s
      → MatchOption r (length b < n) (λ p. IsSplitAt b n (front p) (back p))
      → MatchOption r (begins_with_one s ≡ false) (λ p. (begins_with_one s ≡ true) × (front p ≡ first_of s) × (back p ≡ drop (width_of s) s))
  unfolding begins_with_one
  split_behind front back None h e q k =
      rw (le-leb 4 (length s) h) (lt-leb (size_of s) (length s - 4) (omega (arith, k, q, ap length e, length-drop 4 s)))
  split_behind front back (Some p) {b} {n} h e q k =
      let begins : begins_with_one s ≡ true =
      rw (le-leb 4 (length s) h) (le-leb (size_of s) (length s - 4) (omega (arith, k.0, q, ap length e, length-drop 4 s))) in (
        begins,
        k.1 ∙ ap (take n) e ∙ first_one s n begins q,
        k.2 ∙ ap (drop n) e ∙ drop-drop n 4 s ∙ ap (λ (x : ℕ). drop x s) (width_one s n begins q),
      )

pub first_none : (s : List ℕ) → begins_with_one s ≡ false → [] ≡ first_of s
unfolding first_of
first_none s e = sym (rw (first_of, e) refl)

-- the place behind the one that begins at a place
module _ (s : List ℕ) (at : ℕ) where
  pub behind_none : begins_with_one (drop at s) ≡ false → at ≡ at + width_of (drop at s)
  unfolding width_of
  behind_none e = omega (arith, width_none)
    where
      width_none : width_of (drop at s) ≡ 0
      width_none = rw (width_of, e) refl

  module _ {c : List ℕ} (e : begins_with_one (drop at s) ≡ true) (q : c ≡ first_of (drop at s)) where
    long : length c ≡ size_of (drop at s)
    long =
        ap length (q ∙ sym (first_one (drop at s) (size_of (drop at s)) e refl))
        ∙ omega (arith, one_stands (drop at s) e, length-take (size_of (drop at s)) (drop 4 (drop at s)), length-drop 4 (drop at s))

    pub behind_one : at + 4 + length c ≡ at + width_of (drop at s)
    behind_one = omega (arith, long, width_one (drop at s) (size_of (drop at s)) e refl)

    pub behind_fits : at + 4 + length c ≤ length s
    behind_fits = omega (arith, long, one_stands (drop at s) e, length-drop at s)

-- ------------------------------------------------------------------ so many conditions

pub filled_none : (n : ℕ) (s : List ℕ) → 0 < n → begins_with_one s ≡ false → filled_by n s ≡ false
unfolding filled_by
filled_none zero s h e = absurd (omega arith)
filled_none (suc n) s h e = rw e refl

pub filled_one : (n : ℕ) (s : List ℕ) → 0 < n → begins_with_one s ≡ true → filled_by n s ≡ filled_by (n - 1) (drop (width_of s) s)
unfolding filled_by
filled_one zero s h e = absurd (omega arith)
filled_one (suc n) s h e =
    let less : suc n - 1 ≡ n = omega arith in
    rw (e, less) refl

-- a turn of the loop: what is left of the slice, and one condition less
pub filled_turn : (n i : ℕ) (s : List ℕ) {b : List ℕ} {t : Bool} → i < n → begins_with_one s ≡ true → b ≡ drop (width_of s) s
    → filled_by (n - i) s ≡ t → filled_by (n - (i + 1)) b ≡ t
filled_turn n i s h e q k =
    let less : n - (i + 1) ≡ n - i - 1 = omega arith in
    ap (filled_by (n - (i + 1))) q
    ∙ ap (λ (j : ℕ). filled_by j (drop (width_of s) s)) less
    ∙ sym (filled_one (n - i) s (omega arith) e)
    ∙ k

pub filled_end : (n : ℕ) (s : List ℕ) → n ≤ 0 → eqb (length s) 0 ≡ filled_by n s
unfolding filled_by
filled_end zero s h = refl
filled_end (suc n) s h = absurd (omega arith)
