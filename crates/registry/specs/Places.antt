-- A registry by the places of its definitions: where they stand, the one that a name finds, and the first name that is refused.
-- Assumes nothing.
use Rattle.messages.specs.declared.Refused.{Refused}
use Rattle.std.specs.Prelude.{ℕ, zero, suc, ◌+◌, ◌*◌, ◌%◌, List, [], ◌∷◌, ◌++◌, Bool, true, false, leb, eqb, take, Option, Some, None, Result, Ok, Err}
use Rattle.format.specs.Entry.{Text}
use Rattle.definition.specs.Text.{eq_text}
use Rattle.definition.specs.Check.{contains}
use Rattle.definition.specs.Registry.{reserved_names}
use Rattle.tape.specs.Pick.{pick}
use Rattle.tape.specs.Layouts.{holds, code_at, value_at, width_at, onward}
use Rattle.nodes.specs.Node.{on_heading, heading_at, name_at}
use Rattle.tape.specs.declared.layout.Layout.{Layout}
use Rattle.tape.specs.declared.layout.Place.{Place}
use Rattle.nodes.specs.declared.Heading.{Heading}
use Rattle.messages.specs.Reason.{refused_at}
use Rattle.messages.specs.declared.Reason.TheVariants.{WithoutMessage, Reserved, Duplicate}
use Rattle.nodes.specs.declared.Definition.{Definition}
use Rattle.registry.specs.declared.rows.Row.{Row}

-- ------------------------------------------------------------------ names and places

-- a name's key is made of its bytes, so that names with other keys are other names
unfoldable pub key_from : ℕ → Text → ℕ
key_from h [] = h
key_from h (b ∷ bs) = key_from ((h * 16777619 + b) % 4294967296) bs

unfoldable pub key_of : Text → ℕ
key_of name = key_from 0 name

abbrev pub origin : Place
origin = record { at = 0; text = 0 }

-- the rows from the first one on that has a key
unfoldable pub from_key : ℕ → List Row → List Row
from_key key [] = []
from_key key (r ∷ rs) = pick (eqb r.key key) (r ∷ rs) (from_key key rs)

-- where a definition ends, by the rows behind its own
unfoldable pub end_of : Layout → List Row → ℕ
end_of l [] = l.entries
end_of l (r ∷ rs) = r.place.at

abbrev pub cons_if : {A : Type 0} → Bool → A → List A → List A
cons_if true a rest = a ∷ rest
cons_if false a rest = rest

-- the span is the later definition's, and the message has the start of the earlier one
abbrev pub duplicate_of : Heading → Option Definition → Result Unit Refused
duplicate_of h None = (Ok tt)
duplicate_of h (Some first) = Err (refused_at h.span (Duplicate h.name first.heading.span))

abbrev pub and_then_in : Result Unit Refused → Result Unit Refused → Result Unit Refused
and_then_in (Ok tt) v = v
and_then_in (Err r) v = Err r

module _ (s : List ℕ) (l : Layout) where
  -- ------------------------------------------------------------------ where the definitions stand

  -- the name stands in the entry behind the 60, which has no text
  unfoldable pub key_at : Place → ℕ
  key_at p = key_of (name_at s l (record { text = p.text; size = value_at s l (p.at + 1) }))

  -- the 60s among n entries from a place on, up to a text that runs past the end
  unfoldable pub rows_from : ℕ → Place → List Row
  rows_from zero p = []
  rows_from (suc n) p =
      pick (leb (p.text + width_at s l p.at) l.size)
      (cons_if (eqb (code_at s l p.at) 60) (record { place = p; key = key_at p }) (rows_from n (onward p (width_at s l p.at))))
      []

  -- in a table that has room for so many
  unfoldable pub index_at : (room : ℕ) → List Row
  index_at room = pick (holds s l) (take room (rows_from l.entries origin)) []

  -- ------------------------------------------------------------------ the definition of a name

  -- the first row whose definition has the name; where the key is another one, so is the name
  unfoldable pub get_at : List Row → Text → Option Definition
  get_at [] name = None
  get_at (r ∷ rs) name =
      pick (eqb r.key (key_of name))
      (on_heading None (λ h params. pick (eq_text (name_at s l h.name) name) (Some (record { heading = h; params = params; end = end_of l rs })) (get_at rs name))
      (heading_at s l r.place 60))
      (get_at rs name)

  -- ------------------------------------------------------------------ reserved names and duplicates

  abbrev pub name_check : List Row → Heading → Result Unit Refused
  name_check seen h =
      let name = name_at s l h.name in
      pick (contains reserved_names name) (Err (refused_at h.span (Reserved h.name))) (duplicate_of h (get_at seen name))

  -- the definition at a place, with the earlier ones in `seen`; a place without definition is none of an accepted tape
  unfoldable pub check_at : List Row → Place → Result Unit Refused
  check_at seen p = on_heading (Err (refused_at 0 (WithoutMessage 2))) (λ h params. name_check seen h) (heading_at s l p 60)

  unfoldable pub build_from_at : (seen rest : List Row) → Result Unit Refused
  build_from_at seen [] = (Ok tt)
  build_from_at seen (r ∷ rs) = and_then_in (check_at seen r.place) (build_from_at (seen ++ r ∷ []) rs)

  unfoldable pub build_at : List Row → Result Unit Refused
  build_at rs = build_from_at [] rs
