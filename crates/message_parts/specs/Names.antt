-- The names of a list of parameters on a tape, and the least of those above another.
-- Assumes nothing.
use Rattle.nodes.specs.declared.Name.{Name}
use Rattle.std.specs.Prelude.{ℕ, zero, suc, List, [], ◌∷◌, ◌++◌, Bool, true, false, ◌&&◌, Some, None, Option}
use Rattle.std.proofs.Math.Option.{Option as Maybe, none, some}
use Rattle.format.specs.Entry.{Text}
use Rattle.definition.specs.Text.{utf8, lt_text}
use Rattle.definition.specs.Messages.{sort_texts}
use Rattle.nodes.specs.Node.{name_at, param_at}
use Rattle.tape.specs.declared.layout.Layout.{Layout}
use Rattle.tape.specs.declared.layout.Place.{Place}

-- the names of that many parameters
unfoldable pub names_at : List ℕ → Layout → Place → ℕ → List Text
names_at s l p zero = []
names_at s l p (suc n) = elim (param_at s l p) [ Some (name, next) ↦ name_at s l name ∷ names_at s l next n | None ↦ [] ]

abbrev pub spelled : List ℕ → Layout → Option Name → Maybe Text
spelled s l (Some name) = some (name_at s l name)
spelled s l None = none

-- every name is above nothing, and below nothing
abbrev pub above : Maybe Text → Text → Bool
above none t = true
above (some floor) t = lt_text floor t

abbrev pub below : Maybe Text → Text → Bool
below none t = true
below (some best) t = lt_text t best

-- the least name above a floor, so far, and with one name more
unfoldable pub lower : Maybe Text → Maybe Text → Text → Maybe Text
lower floor best t = elim (above floor t && below best t) [ true ↦ some t | false ↦ best ]

unfoldable pub least_in : Maybe Text → Maybe Text → List Text → Maybe Text
least_in floor best [] = best
least_in floor best (t ∷ ts) = least_in floor (lower floor best t) ts

-- those of a list that are above a floor
unfoldable pub all_above : Maybe Text → List Text → List Text
all_above floor [] = []
all_above floor (t ∷ ts) = elim (above floor t) [ true ↦ t ∷ all_above floor ts | false ↦ all_above floor ts ]

-- what is left to be listed behind a floor
unfoldable pub rest : Maybe Text → List Text → List Text
rest floor names = all_above floor (sort_texts names)

-- what stands before a name: a comma too, behind an earlier one
abbrev pub mark : Maybe Text → Text
mark none = utf8 "?"
mark (some last) = utf8 ", ?"

unfoldable pub list_above : Maybe Text → List Text → Text
list_above floor [] = []
list_above floor (t ∷ ts) = mark floor ++ (t ++ list_above (some t) ts)
