-- The library's order of slices is the definition's byte order of texts.
-- Assumes nothing.
use Rattle.std.proofs.Common.{◌≡◌, ◌&&◌, ◌||◌, Bool, true, false, cond, [], ◌∷◌, refl, Some, Option, Ordering, Less, Equal, Greater}
use Rattle.std.specs.Ordering.{is_lt, is_some_and, nat_cmp, partial_lt, partial_ordering_then}
use Rattle.std.specs.Cmp.Lexicographic.{slice_partial_cmp}
use lib.Dec.{eqb, ltb}
use Rattle.format.specs.Entry.{Text}
use Rattle.definition.specs.Text.{lt_text}

-- the first bytes decide where they differ
first_decides : (less same : Bool) (r : Option Ordering)
    → is_some_and is_lt (partial_ordering_then (Some (cond less Less (cond same Equal Greater))) r) ≡ less || (same && is_some_and is_lt r)
first_decides true same r = refl
first_decides false true r = refl
first_decides false false r = refl

pub less_texts : (a b : Text) → partial_lt (slice_partial_cmp (λ x y. Some (nat_cmp x y))) a b ≡ lt_text a b
unfolding lt_text
less_texts [] [] = refl
less_texts [] (y ∷ b) = refl
less_texts (x ∷ a) [] = refl
less_texts (x ∷ a) (y ∷ b) = rw (← less_texts a b) (first_decides (ltb x y) (eqb x y) _)
