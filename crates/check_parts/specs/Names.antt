-- The check of sigils, withins and slots as a function of the tape and a place: what stands there is checked against the names that
-- the definition declares.
-- Assumes nothing.
use Rattle.nodes.specs.declared.Refusal.{Refusal}
use Rattle.messages.specs.declared.Refused.{Refused}
use Rattle.std.specs.Prelude.{ℕ, List, Result, Ok, Err}
use Rattle.format.specs.Entry.{Text}
use Rattle.definition.specs.Check.{contains}
use Rattle.tape.specs.Pick.{pick}
use Rattle.nodes.specs.Node.{on_value, expect_at, slot_at, within_at, name_at}
use Rattle.tape.specs.declared.layout.Layout.{Layout}
use Rattle.tape.specs.declared.layout.Place.{Place}
use Rattle.nodes.specs.declared.Name.{Name}
use Rattle.nodes.specs.declared.Sigil.{Sigil}
use Rattle.nodes.specs.declared.Sigil.TheVariants.{Param, Binder}
use Rattle.nodes.specs.declared.SlotNode.{SlotNode}
use Rattle.nodes.specs.declared.SlotNode.TheVariants as slot
use Rattle.nodes.specs.declared.WithinNode.{WithinNode}
use Rattle.nodes.specs.declared.WithinNode.TheVariants as within
use Rattle.message_parts.specs.Names.{names_at}
use Rattle.message_parts.specs.declared.names.Params.{Params}
use Rattle.messages.specs.declared.Reason.TheVariants.{Undeclared, PlainIdentifier}
use Rattle.walk_state.specs.Reading.{after, items_in, refused_in, without_message_of, malformed_in, past_type_in}
use Rattle.check_parts.specs.declared.Declared.{Declared}

-- How a definition's tape is laid out, and its parameters: what the code's `Declared` has beside the slice.
pub record Declaration : Type 0 where
  pub layout : Layout
  pub params : Params

abbrev pub declaration : Declared → Declaration
declaration d = record { layout = d.tape.layout; params = d.params }

-- "A plain Var or Name slot is 21."
abbrev pub plain_in : Name → ℕ → Result Place Refused
plain_in name span = refused_in span (PlainIdentifier name)

module _ (s : List ℕ) (d : Declaration) where
  -- the declared names
  abbrev pub declared_in : List Text
  declared_in = names_at s d.layout d.params.place d.params.count

  -- `?name`, in any of its places
  unfoldable pub param_in : ℕ → Name → Place → Result Place Refused
  param_in span name next =
      pick (contains declared_in (name_at s d.layout name)) (Ok next) (refused_in span (Undeclared name d.params))

  unfoldable pub sigil_in : ℕ → Sigil → Name → Place → Result Place Refused
  sigil_in span Param name next = param_in span name next
  sigil_in span Binder name next = Ok next

  -- ------------------------------------------------------------------ withins

  abbrev pub on_within : ℕ → WithinNode → Place → Result Place Refused
  on_within span within.Concrete next = Ok next
  on_within span (within.ParamRef name) next = param_in span name next

  abbrev pub on_within_read : ℕ → Result (WithinNode × Place) Refusal → Result Place Refused
  on_within_read span (Ok (node, next)) = on_within span node next
  on_within_read span (Err f) = without_message_of f

  unfoldable pub within_in : ℕ → Result Place Refused → Result Place Refused
  within_in span = after λ p. on_within_read span (within_at s d.layout p)

  -- ------------------------------------------------------------------ slots

  abbrev pub on_slot : ℕ → SlotNode → Place → Result Place Refused
  on_slot span (slot.Name name) next = plain_in name span
  on_slot span (slot.ParamRef name) next = param_in span name next
  on_slot span (slot.BinderRef name) next = Ok next

  abbrev pub on_slot_read : ℕ → Result (SlotNode × Place) Refusal → Result Place Refused
  on_slot_read span (Ok (node, next)) = on_slot span node next
  on_slot_read span (Err f) = without_message_of f

  unfoldable pub slot_in : ℕ → Result Place Refused → Result Place Refused
  slot_in span = after λ p. on_slot_read span (slot_at s d.layout p)

  -- a slot and its type
  unfoldable pub binder_in : ℕ → Result Place Refused → Result Place Refused
  binder_in span w = past_type_in s d.layout (slot_in span w)

  -- a list of them
  unfoldable pub binders_in : ℕ → Result Place Refused → Result Place Refused
  binders_in span =
      after λ p.
      on_value malformed_in (λ count first. items_in (binder_in span) count (Ok first)) (expect_at s d.layout p 41)
