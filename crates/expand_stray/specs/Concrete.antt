-- The check for stray sigils as a function of the tape and a place, by recursion on the nesting that is left: what the code computes,
-- clause by clause.
-- Assumes nothing.
use Rattle.nodes.specs.declared.Refusal.{Refusal}
use Rattle.messages.specs.declared.Refused.{Refused}
use Rattle.std.specs.Prelude.{ℕ, zero, suc, List, Result, Ok, Err}
use Rattle.grammar.specs.Grammar as grammar
use Rattle.nodes.specs.Node.{on_value, expect_at, slot_at, within_at, term_at}
use Rattle.tape.specs.Scan.{skip_at}
use Rattle.tape.specs.declared.layout.Layout.{Layout}
use Rattle.tape.specs.declared.layout.Place.{Place}
use Rattle.nodes.specs.declared.Sigil.TheVariants as sigil
use Rattle.nodes.specs.declared.SlotNode.{SlotNode}
use Rattle.nodes.specs.declared.SlotNode.TheVariants as slot
use Rattle.nodes.specs.declared.WithinNode.{WithinNode}
use Rattle.nodes.specs.declared.WithinNode.TheVariants as within
use Rattle.nodes.specs.declared.TermNode.{TermNode}
use Rattle.nodes.specs.declared.TermNode.TheVariants as term
use Rattle.messages.specs.declared.Reason.TheVariants.{StrayWithin, StraySlot, StrayField}
use Rattle.walk_state.specs.Reading.{after, items_in, refused_in, without_message_of, malformed_in, too_deep_in, passed_in, past_type_in, past_name_in}

-- ------------------------------------------------------------------ withins and slots, once they are read

abbrev pub on_concrete_within : ℕ → WithinNode → Place → Result Place Refused
on_concrete_within span within.Concrete next = Ok next
on_concrete_within span (within.ParamRef name) next = refused_in span (StrayWithin name)

abbrev pub on_concrete_within_read : ℕ → Result (WithinNode × Place) Refusal → Result Place Refused
on_concrete_within_read span (Ok (node, next)) = on_concrete_within span node next
on_concrete_within_read span (Err f) = without_message_of f

abbrev pub on_concrete_slot : ℕ → SlotNode → Place → Result Place Refused
on_concrete_slot span (slot.Name name) next = Ok next
on_concrete_slot span (slot.ParamRef name) next = refused_in span (StraySlot sigil.Param name)
on_concrete_slot span (slot.BinderRef name) next = refused_in span (StraySlot sigil.Binder name)

abbrev pub on_concrete_slot_read : ℕ → Result (SlotNode × Place) Refusal → Result Place Refused
on_concrete_slot_read span (Ok (node, next)) = on_concrete_slot span node next
on_concrete_slot_read span (Err f) = without_message_of f

-- ------------------------------------------------------------------ withins and slots at a place

module _ (s : List ℕ) (l : Layout) where
  unfoldable pub concrete_within_in : ℕ → Result Place Refused → Result Place Refused
  concrete_within_in span = after λ p. on_concrete_within_read span (within_at s l p)

  unfoldable pub concrete_slot_in : ℕ → Result Place Refused → Result Place Refused
  concrete_slot_in span = after λ p. on_concrete_slot_read span (slot_at s l p)

  -- a slot and its type
  unfoldable pub concrete_binder_in : ℕ → Result Place Refused → Result Place Refused
  concrete_binder_in span w = past_type_in s l (concrete_slot_in span w)

  -- a list of them
  unfoldable pub concrete_binders_in : ℕ → Result Place Refused → Result Place Refused
  concrete_binders_in span =
      after λ p. on_value malformed_in (λ count first. items_in (concrete_binder_in span) count (Ok first)) (expect_at s l p 41)

  -- ------------------------------------------------------------------ terms

  -- "In a field only arrays are entered": the items by f, and an aggregate or arithmetic at p is passed whole
  unfoldable pub concrete_node_in : ((Result Place Refused) → Result Place Refused) → ℕ → Place → TermNode → Place → Result Place Refused
  concrete_node_in f span p term.Plain next = Ok next
  concrete_node_in f span p (term.Var name) next = Ok next
  concrete_node_in f span p (term.Array count) next = items_in f count (Ok next)
  concrete_node_in f span p term.Agg next = passed_in (skip_at s l p grammar.term)
  concrete_node_in f span p term.Arith next = passed_in (skip_at s l p grammar.term)
  concrete_node_in f span p (term.ParamRef name) next = refused_in span (StrayField sigil.Param name)
  concrete_node_in f span p (term.BinderRef name) next = refused_in span (StrayField sigil.Binder name)

  abbrev pub on_concrete_term : ((Result Place Refused) → Result Place Refused) → ℕ → Place → Result (TermNode × Place) Refusal → Result Place Refused
  on_concrete_term f span p (Ok (node, next)) = concrete_node_in f span p node next
  on_concrete_term f span p (Err r) = without_message_of r

  unfoldable pub concrete_term_in : ℕ → ℕ → Result Place Refused → Result Place Refused
  concrete_term_in zero span = after λ p. too_deep_in
  concrete_term_in (suc n) span = after λ p. on_concrete_term (concrete_term_in n span) span p (term_at s l p)

  -- ------------------------------------------------------------------ fields

  -- a field's term
  abbrev pub concrete_field_in : ℕ → ℕ → Result Place Refused → Result Place Refused
  concrete_field_in n span w = concrete_term_in n span (past_name_in s l w)

  -- a list of fields
  unfoldable pub concrete_fields_in : ℕ → ℕ → Result Place Refused → Result Place Refused
  concrete_fields_in n span =
      after λ p. on_value malformed_in (λ count first. items_in (concrete_field_in n span) count (Ok first)) (expect_at s l p 41)
