-- The body check as a function of the tape and a place, by recursion on the nesting that is left: what the walkers of the code compute,
-- clause by clause.
-- Assumes nothing.
use Rattle.nodes.specs.declared.Refusal.{Refusal}
use Rattle.messages.specs.declared.Refused.{Refused}
use Rattle.std.specs.Prelude.{ℕ, zero, suc, List, Result, Ok, Err}
use Rattle.nodes.specs.Node.{on_value, expect_at, condition_at, term_at, agg_at}
use Rattle.tape.specs.declared.layout.Place.{Place}
use Rattle.nodes.specs.declared.ConditionNode.{ConditionNode}
use Rattle.nodes.specs.declared.ConditionNode.TheVariants as condition
use Rattle.nodes.specs.declared.TermNode.{TermNode}
use Rattle.nodes.specs.declared.TermNode.TheVariants as term
use Rattle.nodes.specs.declared.AggNode.{AggNode}
use Rattle.nodes.specs.declared.AggNode.TheVariants as agg
use Rattle.messages.specs.declared.Reason.TheVariants.{MacroInMacro}
use Rattle.walk_state.specs.Reading.{
  after,
  and_then_in,
  items_in,
  refused_in,
  without_message_of,
  malformed_in,
  too_deep_in,
  behind_in,
  past_name_in,
}
use Rattle.check_parts.specs.Names.{Declaration, plain_in, param_in, sigil_in, within_in, slot_in, binder_in, binders_in}

-- the walkers one level down
pub record Walkers : Type 0 where
  pub condition : Result Place Refused → Result Place Refused
  pub term : ℕ → Result Place Refused → Result Place Refused
  pub agg : Result Place Refused → Result Place Refused

-- a call, whose arguments are not looked at
abbrev pub call_in : ℕ → Result Place Refused
call_in span = refused_in span MacroInMacro

module _ (s : List ℕ) (d : Declaration) where
  -- a field's term
  abbrev pub field_in : Walkers → ℕ → Result Place Refused → Result Place Refused
  field_in W span w = W.term span (past_name_in s d.layout w)

  unfoldable pub fields_in : Walkers → ℕ → Result Place Refused → Result Place Refused
  fields_in W span =
      after λ p.
      on_value malformed_in (λ count first. items_in (field_in W span) count (Ok first)) (expect_at s d.layout p 41)

  -- the tape has left, within, right; a refusal of the within comes before one of the left side
  unfoldable pub since_in : Walkers → ℕ → Place → Result Place Refused
  since_in W span left =
      let l : (Result Place Refused) = W.condition (Ok left) in
      let interval : (Result Place Refused) = within_in s d span (behind_in s d.layout left l) in
      W.condition (and_then_in (and_then_in interval l) interval)

  unfoldable pub condition_node_in : Walkers → ConditionNode → Place → Result Place Refused
  condition_node_in W (condition.And span) next = W.condition (W.condition (Ok next))
  condition_node_in W (condition.Or span) next = W.condition (W.condition (Ok next))
  condition_node_in W (condition.Not span) next = W.condition (Ok next)
  condition_node_in W (condition.Formerly span) next = W.condition (within_in s d span (Ok next))
  condition_node_in W (condition.Previous span) next = W.condition (within_in s d span (Ok next))
  condition_node_in W (condition.Since span) next = since_in W span next
  condition_node_in W (condition.Predicate span) next = fields_in W span (Ok next)
  condition_node_in W (condition.Comparison span) next = W.term span (W.term span (Ok next))
  condition_node_in W (condition.Exists span) next = W.condition (binder_in s d span (Ok next))
  condition_node_in W (condition.Tp span) next = slot_in s d span (Ok next)
  condition_node_in W (condition.Call span) next = call_in span
  condition_node_in W (condition.SigilRef span sigil name) next = sigil_in s d span sigil name next
  condition_node_in W (condition.Refine span own) next = fields_in W span (W.condition (Ok next))

  unfoldable pub term_node_in : Walkers → ℕ → TermNode → Place → Result Place Refused
  term_node_in W span term.Plain next = Ok next
  term_node_in W span (term.Var name) next = plain_in name span
  term_node_in W span (term.Array count) next = items_in (W.term span) count (Ok next)
  term_node_in W span term.Agg next = W.agg (Ok next)
  term_node_in W span term.Arith next = W.term span (W.term span (Ok next))
  term_node_in W span (term.ParamRef name) next = param_in s d span name next
  term_node_in W span (term.BinderRef name) next = Ok next

  unfoldable pub agg_node_in : Walkers → AggNode → Place → Result Place Refused
  agg_node_in W (agg.Sum span) next = W.condition (binders_in s d span (slot_in s d span (Ok next)))
  agg_node_in W (agg.Count span) next = W.condition (binders_in s d span (Ok next))
  agg_node_in W (agg.Call span) next = call_in span

  abbrev pub on_condition : Walkers → Result (ConditionNode × Place) Refusal → Result Place Refused
  on_condition W (Ok (node, next)) = condition_node_in W node next
  on_condition W (Err f) = without_message_of f

  abbrev pub on_term : Walkers → ℕ → Result (TermNode × Place) Refusal → Result Place Refused
  on_term W span (Ok (node, next)) = term_node_in W span node next
  on_term W span (Err f) = without_message_of f

  abbrev pub on_agg : Walkers → Result (AggNode × Place) Refusal → Result Place Refused
  on_agg W (Ok (node, next)) = agg_node_in W node next
  on_agg W (Err f) = without_message_of f

  -- one level more
  abbrev pub deeper : Walkers → Walkers
  deeper W =
      record {
        condition = after λ p. on_condition W (condition_at s d.layout p);
        term = λ span. after λ p. on_term W span (term_at s d.layout p);
        agg = after λ p. on_agg W (agg_at s d.layout p);
      }

  abbrev pub exhausted : Result Place Refused → Result Place Refused
  exhausted = after λ p. too_deep_in

  unfoldable pub walkers : ℕ → Walkers
  walkers zero = record { condition = exhausted; term = λ span. exhausted; agg = exhausted }
  walkers (suc n) = deeper (walkers n)
