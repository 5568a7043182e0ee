-- Substitution as a function of the tapes, a place and the output: what the walkers compute, by recursion on the nesting that is left.
-- Assumes nothing.
use Rattle.nodes.specs.declared.Refusal.{Refusal}
use Rattle.std.specs.Prelude.{ℕ, zero, suc, List, Result, Ok, Err}
use Rattle.nodes.specs.Node.{on_value, expect_at, condition_at, term_at, agg_at}
use Rattle.tape.specs.declared.layout.Place.{Place}
use Rattle.nodes.specs.declared.ConditionNode.{ConditionNode}
use Rattle.nodes.specs.declared.ConditionNode.TheVariants as condition
use Rattle.nodes.specs.declared.TermNode.{TermNode}
use Rattle.nodes.specs.declared.TermNode.TheVariants as term
use Rattle.nodes.specs.declared.AggNode.{AggNode}
use Rattle.nodes.specs.declared.AggNode.TheVariants as agg
use Rattle.walk_state.specs.Writing.{Progress, progress, state, after, without_message_at, unread}
use Rattle.subst_state.specs.Output.{copy_own_in, gensym_in}
use Rattle.subst_places.specs.Parameters.{
  Tapes,
  items_in,
  sigil_ref_in,
  param_term_in,
  within_in,
  since_within_in,
  put_within_in,
  binder_slot_in,
  binder_in,
  binders_in,
}
use Rattle.subst_places.specs.Refines.{shape_in, fold_in}
use Rattle.walk_state.specs.Walk.{State}
use Rattle.walk_state.specs.Walk as walk
use Rattle.subst_places.specs.declared.places.Interval.{Interval}
use Rattle.messages.specs.declared.Refused.{Refused}

-- the walkers one level down; a term has the span that its refusals name
pub record Walkers : Type 0 where
  pub condition : Progress → Progress
  pub agg : Progress → Progress
  pub term : ℕ → Progress → Progress

abbrev pub own_copied : Tapes → State → Place → List ℕ → Progress
own_copied T st next bytes = copy_own_in T.definition T.maps st next bytes

unfoldable pub tp_in : Tapes → ℕ → State → Place → List ℕ → Progress
tp_in T span st next bytes = binder_slot_in T span (own_copied T st next bytes)

module _ (T : Tapes) (W : Walkers) where
  -- ---------------------------------------------------------------- conditions

  unfoldable pub both_in : State → Place → List ℕ → Progress
  both_in st next bytes = W.condition (W.condition (own_copied T st next bytes))

  unfoldable pub inner_in : State → Place → List ℕ → Progress
  inner_in st next bytes = W.condition (own_copied T st next bytes)

  unfoldable pub formerly_in : ℕ → State → Place → List ℕ → Progress
  formerly_in span st next bytes = W.condition (put_within_in T.definition T.call T.maps (within_in T.definition T.table T.maps span next) st.charged (own_copied T st next bytes))

  -- the tape has left, within, right; a refusal of the within comes before one of the left side, with what was charged before both
  unfoldable pub since_in : ℕ → State → Place → List ℕ → Progress
  since_in span st left bytes =
      let l : Progress = W.condition (own_copied T st left bytes) in
      let i : Result Interval Refused = since_within_in T.definition T.table T.maps span left l.walk in
      W.condition (put_within_in T.definition T.call T.maps i st.charged l)

  -- a name and a term
  unfoldable pub field_in : ℕ → Progress → Progress
  field_in span =
      after λ st bytes.
      on_value (unread st bytes) (λ size value. W.term span (own_copied T st value bytes))
      (expect_at T.definition T.maps.definition st.place 40)

  unfoldable pub predicate_in : ℕ → State → Place → List ℕ → Progress
  predicate_in span st next bytes =
      on_value (unread st bytes) (λ count first. items_in (field_in span) count (own_copied T st first bytes))
      (expect_at T.definition T.maps.definition next 41)

  unfoldable pub sides_in : ℕ → State → Place → List ℕ → Progress
  sides_in span st next bytes = W.term span (W.term span (own_copied T st next bytes))

  unfoldable pub exists_in : ℕ → State → Place → List ℕ → Progress
  exists_in span st next bytes = W.condition (binder_in T span (own_copied T st next bytes))

  -- the fields behind a base that was written at entry `base`, and their fold
  unfoldable pub inject_in : ℕ → ℕ → ℕ → ℕ → Progress → Progress
  inject_in span base own shape =
      after λ st bytes.
      on_value (unread st bytes)
      (λ count first.
      fold_in base count own shape
      (items_in (field_in span) count (progress (walk.Going (state first st.out st.charged)) bytes)))
      (expect_at T.definition T.maps.definition st.place 41)

  -- base, fields, then the fold
  unfoldable pub refine_in : ℕ → ℕ → State → Place → List ℕ → Progress
  refine_in span own st next bytes =
      inject_in span st.out.n own (shape_in T.definition T.table T.maps next)
      (W.condition (progress (walk.Going (state next st.out st.charged)) bytes))

  unfoldable pub condition_node_in : ConditionNode → State → Place → List ℕ → Progress
  condition_node_in (condition.And s) st next bytes = both_in st next bytes
  condition_node_in (condition.Or s) st next bytes = both_in st next bytes
  condition_node_in (condition.Not s) st next bytes = inner_in st next bytes
  condition_node_in (condition.Formerly s) st next bytes = formerly_in s st next bytes
  condition_node_in (condition.Previous s) st next bytes = formerly_in s st next bytes
  condition_node_in (condition.Since s) st next bytes = since_in s st next bytes
  condition_node_in (condition.Predicate s) st next bytes = predicate_in s st next bytes
  condition_node_in (condition.Comparison s) st next bytes = sides_in s st next bytes
  condition_node_in (condition.Tp s) st next bytes = tp_in T s st next bytes
  condition_node_in (condition.Exists s) st next bytes = exists_in s st next bytes
  condition_node_in (condition.Refine s own) st next bytes = refine_in s own st next bytes
  condition_node_in (condition.SigilRef s sigil name) st next bytes = sigil_ref_in T s sigil name st next bytes
  condition_node_in (condition.Call s) st next bytes = progress (without_message_at 48 s st.charged) bytes

  -- ---------------------------------------------------------------- aggregates and terms

  unfoldable pub agg_node_in : AggNode → State → Place → List ℕ → Progress
  agg_node_in (agg.Sum s) st next bytes = W.condition (binders_in T s (binder_slot_in T s (own_copied T st next bytes)))
  agg_node_in (agg.Count s) st next bytes = W.condition (binders_in T s (own_copied T st next bytes))
  agg_node_in (agg.Call s) st next bytes = progress (without_message_at 48 s st.charged) bytes

  unfoldable pub term_node_in : ℕ → TermNode → State → Place → List ℕ → Progress
  term_node_in span (term.ParamRef name) st next bytes = param_term_in T span name st next bytes
  term_node_in span (term.BinderRef name) st next bytes = gensym_in T.definition T.maps 27 name st next bytes
  term_node_in span (term.Array count) st next bytes = items_in (W.term span) count (own_copied T st next bytes)
  term_node_in span term.Agg st next bytes = W.agg (own_copied T st next bytes)
  term_node_in span term.Arith st next bytes = sides_in span st next bytes
  term_node_in span (term.Var name) st next bytes = own_copied T st next bytes
  term_node_in span term.Plain st next bytes = own_copied T st next bytes

  -- ---------------------------------------------------------------- one level more

  abbrev pub on_condition : State → List ℕ → Result (ConditionNode × Place) Refusal → Progress
  on_condition st bytes (Ok (node, next)) = condition_node_in node st next bytes
  on_condition st bytes (Err r) = unread st bytes

  abbrev pub on_agg : State → List ℕ → Result (AggNode × Place) Refusal → Progress
  on_agg st bytes (Ok (node, next)) = agg_node_in node st next bytes
  on_agg st bytes (Err r) = unread st bytes

  abbrev pub on_term : ℕ → State → List ℕ → Result (TermNode × Place) Refusal → Progress
  on_term span st bytes (Ok (node, next)) = term_node_in span node st next bytes
  on_term span st bytes (Err r) = unread st bytes

  abbrev pub deeper : Walkers
  deeper =
      record {
        condition =
            after λ st bytes. on_condition st bytes (condition_at T.definition T.maps.definition st.place);
        agg = after λ st bytes. on_agg st bytes (agg_at T.definition T.maps.definition st.place);
        term =
            λ span.
            after λ st bytes. on_term span st bytes (term_at T.definition T.maps.definition st.place);
      }

-- no nesting is left
abbrev pub too_deep : Progress → Progress
too_deep = after λ st bytes. progress (without_message_at 3 0 st.charged) bytes

unfoldable pub walkers : Tapes → ℕ → Walkers
walkers T zero = record { condition = too_deep; agg = too_deep; term = λ span. too_deep }
walkers T (suc n) = deeper T (walkers T n)
