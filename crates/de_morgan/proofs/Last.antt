-- A vector whose last item is on top, as a list whose first item is: what `push`, `pop` and `last` are there.
-- Assumes nothing.
use Rattle.std.proofs.Common.{Some, None}
use Prim.Native.Nat.{ℕ, zero, suc, ◌-◌}
use mathlib.Core.Path.{◌≡◌, refl, sym, ap, ◌∙◌}
use mathlib.Core.List.{List, [], ◌∷◌, ◌++◌, reverse}
use native.Mathlib.Omega.{arith}
use lib.ListN.{length, take}
use Rattle.std.specs.List.{slice_get}
use Rattle.std.proofs.lemmas.List.{reverse-append}
use Rattle.std.proofs.lemmas.Option.{none-some, slice_get-get_or, slice_get_within, get_or_from_slice_get}

module _ {X : Type 0} where
  -- an item behind the others is on top
  pub on_top : (xs : List X) (x : X) → reverse (xs ++ x ∷ []) ≡ x ∷ reverse xs
  on_top xs x = reverse-append xs (x ∷ [])

  last_at : (xs : List X) (n : ℕ) {x : X} → length xs ≡ suc n → slice_get xs n ≡ Some x → xs ≡ take n xs ++ x ∷ []
  last_at [] n h e = absurd (omega (arith, h))
  last_at (y ∷ []) zero {x} h e = ap (λ (z : X). z ∷ []) (get_or_from_slice_get (y ∷ []) 0 x y e)
  last_at (y ∷ []) (suc n) h e = absurd (omega (arith, h))
  last_at (y ∷ z ∷ xs) zero h e = absurd (omega (arith, h))
  last_at (y ∷ z ∷ xs) (suc n) h e = ap (λ (l : List X). y ∷ l) (last_at (z ∷ xs) n (omega (arith, h)) e)

  -- none is
  pub last_none : (xs : List X) → slice_get xs (length xs - 1) ≡ None → xs ≡ []
  last_none [] e = refl
  last_none (x ∷ xs) e = absurd (none-some _ (sym e ∙ slice_get-get_or (x ∷ xs) (length (x ∷ xs) - 1) x (omega arith)))

  -- the last one is
  pub last_some : (xs : List X) (x : X) → slice_get xs (length xs - 1) ≡ Some x → reverse xs ≡ x ∷ reverse (take (length xs - 1) xs)
  last_some xs x e =
      let n = length xs - 1 in
      ap reverse (last_at xs n (omega (arith, slice_get_within xs n x e)) e) ∙ on_top (take n xs) x
