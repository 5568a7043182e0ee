-- The library's equality of slices is the definition's of texts.
-- Assumes nothing.
use Rattle.std.proofs.Common.{◌≡◌, ◌&&◌, [], ◌∷◌, nat_eq, refl, ap}
use lib.Pointwise.{pointwise}
use lib.Dec.{eqb}
use Rattle.format.specs.Entry.{Text}
use Rattle.definition.specs.Text.{eq_text}

pub equal_texts : (a b : Text) → pointwise nat_eq a b ≡ eq_text a b
unfolding eq_text
equal_texts [] [] = refl
equal_texts [] (y ∷ b) = refl
equal_texts (x ∷ a) [] = refl
equal_texts (x ∷ a) (y ∷ b) = ap (λ e. eqb x y && e) (equal_texts a b)
