-- The list of the declared names, written name by name.
-- Assumes nothing.
use Prim.Native.Nat.{◌<◌}
use native.Mathlib.Omega.{arith}
use mathlib.Core.Path.{◌≡◌, refl, ap, ◌∙◌}
use mathlib.Core.List.{List, [], ◌∷◌, ◌++◌, append-nil, append_assoc, flatten}
use mathlib.Core.Option.{Option, none, some}
use lib.ListN.{length}
use Rattle.format.specs.Entry.{Text}
use Rattle.definition.specs.Text.{utf8, open_text}
use Rattle.definition.specs.Messages.{sort_texts, list_params, fmt_params}
use Rattle.buffer.specs.Buffer.{Message, write_in}
use Rattle.buffer.proofs.Messages.{write_append}
use Rattle.message_parts.specs.Names.{least_in, rest, mark, list_above}
use Rattle.message_parts.proofs.Sorted.{no_rest, next_rest, rest_all}

module _ (f : Option Text) (names : List Text) where
  -- no name is left
  pub list_last : (closing : Text) (m : Message) → least_in f none names ≡ none
      → write_in (flatten (list_above f (rest f names) ∷ closing ∷ [])) m ≡ write_in closing m
  unfolding flatten list_above
  list_last closing m h = rw (no_rest f names h, list_above, append-nil) refl

  -- the least name, and what is left above it
  pub list_next : (closing : Text) (m m₁ : Message) {t : Text} → least_in f none names ≡ some t → m₁ ≡ write_in (flatten (mark f ∷ t ∷ [])) m
      → write_in (flatten (list_above (some t) (rest (some t) names) ∷ closing ∷ [])) m₁
      ≡ write_in (flatten (list_above f (rest f names) ∷ closing ∷ [])) m
  unfolding flatten list_above
  list_next closing m m₁ {t} h a =
      let left = list_above (some t) (rest (some t) names) ∷ closing ∷ [] in
      rw (a, next_rest f names h, list_above) (write_append (flatten (mark f ∷ t ∷ [])) (flatten left) m
      ∙ ap (λ (x : Text). write_in x m) (simp (append-nil, append_assoc)))

  pub list_falls : {t : Text} → least_in f none names ≡ some t → length (rest (some t) names) < length (rest f names)
  list_falls h = rw (next_rest f names h) (omega arith)

-- the list is that of the Rust
list_params_lem : (ts : List Text) → list_above none ts ≡ list_params ts
unfolding open_text list_params list_above
list_params_lem [] = refl
list_params_lem (t ∷ []) = rw append-nil
list_params_lem (t ∷ u ∷ us) = ap (λ (x : Text). utf8 "?" ++ (t ++ (utf8 ", " ++ x))) (list_params_lem (u ∷ us))

pub list_all : (names : List Text) → list_above none (rest none names) ≡ fmt_params names
unfolding fmt_params
list_all names = ap (list_above none) (rest_all names) ∙ list_params_lem (sort_texts names)
