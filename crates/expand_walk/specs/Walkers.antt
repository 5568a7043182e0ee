-- Expansion as a function of the tapes, a place and the output: what the walkers compute, by recursion on the nesting that is left.
-- Assumes nothing.
use Rattle.nodes.specs.declared.Refusal.{Refusal}
use Rattle.messages.specs.declared.Refused.{Refused}
use Rattle.std.specs.Prelude.{ℕ, zero, suc, List, eqb, Result, Ok, Err}
use Rattle.grammar.specs.Grammar as grammar
use Rattle.tape.specs.Pick.{pick}
use Rattle.nodes.specs.Node.{on_value, on_heading, expect_at, heading_at, condition_at, term_at, agg_at, argument_at}
use Rattle.tape.specs.Scan.{skip_at}
use Rattle.tape.specs.declared.layout.Layout.{Layout}
use Rattle.tape.specs.declared.layout.Place.{Place}
use Rattle.nodes.specs.declared.Sigil.TheVariants.{Param, Binder}
use Rattle.nodes.specs.declared.ConditionNode.{ConditionNode}
use Rattle.nodes.specs.declared.ConditionNode.TheVariants as condition
use Rattle.nodes.specs.declared.TermNode.{TermNode}
use Rattle.nodes.specs.declared.TermNode.TheVariants as term
use Rattle.nodes.specs.declared.AggNode.{AggNode}
use Rattle.nodes.specs.declared.AggNode.TheVariants as agg
use Rattle.nodes.specs.declared.ArgNode.{ArgNode}
use Rattle.nodes.specs.declared.ArgNode.TheVariants as argument
use Rattle.nodes.specs.declared.Heading.{Heading}
use Rattle.area.specs.Area.{Area, area_in, put_in}
use Rattle.messages.specs.Reason.{refused_at}
use Rattle.messages.specs.declared.Reason.TheVariants.{StrayCondition, StrayOperand}
use Rattle.walk_state.specs.Reading.{refused_in, passed_in, behind_in}
use Rattle.walk_state.specs.Writing.{state, place_of, without_message_at}
use Rattle.subst_call.specs.Front.{wrong_count}
use Rattle.subst_call.specs.declared.Macro.{Macro}
use Rattle.walk_state.specs.Walk.{State}
use Rattle.walk_state.specs.Walk as walk
use Rattle.expand_stray.specs.Concrete.{
  concrete_within_in,
  concrete_slot_in,
  concrete_binder_in,
  concrete_binders_in,
  concrete_fields_in,
}
use Rattle.expand_calls.specs.Output.{Reads, Progress, progress, after, stop, unread, with, on_work, copy_own_in, copy_own_after_in, refold_in}
use Rattle.expand_calls.specs.Calls.{condition_macro_in, value_macro_in, calls_value_in, above, outcome_in}

-- the walkers one level down: a condition, an operand, the aggregate behind a 30, a bare call as a term, the fields of a predicate
pub record Walkers : Type 0 where
  pub condition : Progress → Progress
  pub operand : Progress → Progress
  pub agg : State → Place → List ℕ → List ℕ → Progress
  pub value_arg : State → Place → List ℕ → List ℕ → Progress
  pub fields : ℕ → Result Place Refused → Result Place Refused

-- f along n items, up to the first refusal
unfoldable pub items_in : (Progress → Progress) → ℕ → Progress → Progress
items_in f zero X = X
items_in f (suc n) X = after (λ st work result. items_in f n (f (progress (walk.Going st) work result))) X

-- what is looked at of a condition before it is walked, and where it ends
module _ (cond : List ℕ) (l : Layout) where
  unfoldable pub stray_in : ℕ → ConditionNode → Place → Result Place Refused
  stray_in n (condition.And s) next = Ok next
  stray_in n (condition.Or s) next = Ok next
  stray_in n (condition.Not s) next = Ok next
  stray_in n (condition.Formerly s) next = concrete_within_in cond l s (Ok next)
  stray_in n (condition.Previous s) next = concrete_within_in cond l s (Ok next)
  stray_in n (condition.Since s) next = Ok next
  stray_in n (condition.Predicate s) next = concrete_fields_in cond l n s (Ok next)
  stray_in n (condition.Tp s) next = concrete_slot_in cond l s (Ok next)
  stray_in n (condition.Comparison s) next = Ok next
  stray_in n (condition.Exists s) next = concrete_binder_in cond l s (Ok next)
  stray_in n (condition.Call s) next = Ok next
  stray_in n (condition.SigilRef s sigil name) next = refused_in s (StrayCondition sigil name)
  stray_in n (condition.Refine s own) next = Ok next

  -- where a term at p ends that is not walked
  unfoldable pub stray_term_in : TermNode → Place → Place → Result Place Refused
  stray_term_in term.Agg p next = Ok next
  stray_term_in term.Arith p next = Ok next
  stray_term_in (term.ParamRef name) p next = refused_in 0 (StrayOperand Param name)
  stray_term_in (term.BinderRef name) p next = refused_in 0 (StrayOperand Binder name)
  stray_term_in (term.Array count) p next = passed_in (skip_at cond l p grammar.term)
  stray_term_in (term.Var name) p next = Ok next
  stray_term_in term.Plain p next = Ok next

module _ (R : Reads) where
  -- the condition's own entries up to the place where a check came
  abbrev pub own_copied : State → Result Place Refused → List ℕ → List ℕ → Progress
  own_copied st found work result = with result (copy_own_in R.condition R.layout st found work)

  abbrev pub own_copied_after : Result Place Refused → ℕ → Progress → Progress
  own_copied_after found charged = on_work (copy_own_after_in R.condition R.layout found charged)

  -- past all that stands at a place
  abbrev pub past_all : Place → ℕ → Result Place Refused
  past_all p sort = passed_in (skip_at R.condition R.layout p sort)

  module _ (W : Walkers) where
    -- -------------------------------------------------------------- conditions

    unfoldable pub both_in : State → Place → List ℕ → List ℕ → Progress
    both_in st next work result = W.condition (W.condition (own_copied st (Ok next) work result))

    unfoldable pub inner_in : State → Result Place Refused → List ℕ → List ℕ → Progress
    inner_in st found work result = W.condition (own_copied st found work result)

    -- the tape has left, within, right; a refusal of the within comes before one of the left side, with what was charged before both
    unfoldable pub since_in : ℕ → State → Place → List ℕ → List ℕ → Progress
    since_in span st left work result =
        let l : Progress = W.condition (own_copied st (Ok left) work result) in
        let within : (Result Place Refused) = behind_in R.condition R.layout left (place_of l.walk) in
        W.condition (own_copied_after (concrete_within_in R.condition R.layout span within) st.charged l)

    -- the base, then the fold
    abbrev pub refold : ℕ → ℕ → Place → Progress → Progress
    refold own base p X = on_work (refold_in R.condition R.layout X.result own base p) X

    unfoldable pub refine_in : ℕ → State → Place → List ℕ → List ℕ → Progress
    refine_in own st next work result =
        refold own st.out.n next (W.condition (progress (walk.Going (state next st.out st.charged)) work result))

    -- the two sides of a comparison or of arithmetic
    unfoldable pub sides_in : State → Place → List ℕ → List ℕ → Progress
    sides_in st next work result = W.operand (W.operand (own_copied st (Ok next) work result))

    -- -------------------------------------------------------------- calls

    unfoldable pub condition_arg_in : State → Place → List ℕ → List ℕ → Progress
    condition_arg_in st p work result =
        pick (calls_value_in R p) (W.value_arg st p work result) (inner_in st (Ok p) work result)

    abbrev pub on_argument : State → List ℕ → List ℕ → ArgNode → Place → Progress
    on_argument st work result argument.Condition next = condition_arg_in st next work result
    on_argument st work result argument.Term next = W.operand (own_copied st (Ok next) work result)
    on_argument st work result argument.Within next = own_copied st (past_all st.place grammar.argument) work result

    abbrev pub on_arg : State → List ℕ → List ℕ → Result (ArgNode × Place) Refusal → Progress
    on_arg st work result (Ok (kind, next)) = on_argument st work result kind next
    on_arg st work result (Err r) = unread st work result

    unfoldable pub arg_in : Progress → Progress
    arg_in = after λ st work result. on_arg st work result (argument_at R.condition R.layout st.place)

    -- 34; the call with its arguments at the next level; what it becomes
    unfoldable pub called_in : Macro → Heading → State → Place → Place → List ℕ → List ℕ → Progress
    called_in def call st p first work result =
        pick (eqb def.definition.heading.count call.count)
        (outcome_in R.registry R.definitions R.limit R.file def call st.out
        (items_in arg_in call.count (own_copied (state p (above st.out) st.charged) (Ok first) work result)))
        (stop (wrong_count def.definition.heading call) st work result)

    abbrev pub on_callee : Heading → State → Place → Place → List ℕ → List ℕ → Result Macro Refused → Progress
    on_callee call st p first work result (Ok def) = called_in def call st p first work result
    on_callee call st p first work result (Err f) = stop f st work result

    unfoldable pub to_condition_in : State → Place → List ℕ → List ℕ → Progress
    to_condition_in st p work result =
        on_heading (unread st work result)
        (λ call first. on_callee call st p first work result (condition_macro_in R call))
        (heading_at R.condition R.layout p 54)

    unfoldable pub to_value_in : State → Place → List ℕ → List ℕ → Progress
    to_value_in st p work result =
        on_heading (unread st work result)
        (λ call first. on_callee call st p first work result (value_macro_in R call))
        (heading_at R.condition R.layout p 54)

    -- a 56 takes the place of the 55, and the call's outcome that of its 11
    unfoldable pub value_arg_in : State → Place → List ℕ → List ℕ → Progress
    value_arg_in st p work result =
        on_value (unread st work result)
        (λ value call.
        let P : Area = put_in 56 0 (area_in st.out work) in
        to_value_in (state p P.out st.charged) call P.bytes result)
        (expect_at R.condition R.layout p 11)

    -- -------------------------------------------------------------- nodes

    unfoldable pub condition_node_in : ConditionNode → State → Place → List ℕ → List ℕ → Progress
    condition_node_in (condition.And s) st next work result = both_in st next work result
    condition_node_in (condition.Or s) st next work result = both_in st next work result
    condition_node_in (condition.Not s) st next work result = inner_in st (Ok next) work result
    condition_node_in (condition.Formerly s) st next work result =
        inner_in st (concrete_within_in R.condition R.layout s (Ok next)) work result
    condition_node_in (condition.Previous s) st next work result =
        inner_in st (concrete_within_in R.condition R.layout s (Ok next)) work result
    condition_node_in (condition.Since s) st next work result = since_in s st next work result
    condition_node_in (condition.Predicate s) st next work result = own_copied st (W.fields s (Ok next)) work result
    condition_node_in (condition.Tp s) st next work result =
        own_copied st (concrete_slot_in R.condition R.layout s (Ok next)) work result
    condition_node_in (condition.Comparison s) st next work result = sides_in st next work result
    condition_node_in (condition.Exists s) st next work result =
        inner_in st (concrete_binder_in R.condition R.layout s (Ok next)) work result
    condition_node_in (condition.Call s) st next work result = to_condition_in st next work result
    condition_node_in (condition.SigilRef s sigil name) st next work result =
        stop (refused_at s (StrayCondition sigil name)) st work result
    condition_node_in (condition.Refine s own) st next work result = refine_in own st next work result

    unfoldable pub operand_node_in : TermNode → State → Place → List ℕ → List ℕ → Progress
    operand_node_in term.Agg st next work result = W.agg st next work result
    operand_node_in term.Arith st next work result = sides_in st next work result
    operand_node_in (term.ParamRef name) st next work result = stop (refused_at 0 (StrayOperand Param name)) st work result
    operand_node_in (term.BinderRef name) st next work result = stop (refused_at 0 (StrayOperand Binder name)) st work result
    operand_node_in (term.Array count) st next work result = own_copied st (past_all st.place grammar.term) work result
    operand_node_in (term.Var name) st next work result = own_copied st (Ok next) work result
    operand_node_in term.Plain st next work result = own_copied st (Ok next) work result

    unfoldable pub agg_node_in : AggNode → State → Place → List ℕ → List ℕ → Progress
    agg_node_in (agg.Sum s) st next work result =
        inner_in st
        (concrete_binders_in R.condition R.layout s
        (concrete_slot_in R.condition R.layout s (Ok next)))
        work result
    agg_node_in (agg.Count s) st next work result =
        inner_in st (concrete_binders_in R.condition R.layout s (Ok next)) work result
    agg_node_in (agg.Call s) st next work result = to_value_in st next work result

    -- -------------------------------------------------------------- one level more

    abbrev pub on_condition : State → List ℕ → List ℕ → Result (ConditionNode × Place) Refusal → Progress
    on_condition st work result (Ok (node, next)) = condition_node_in node st next work result
    on_condition st work result (Err r) = unread st work result

    abbrev pub on_operand : State → List ℕ → List ℕ → Result (TermNode × Place) Refusal → Progress
    on_operand st work result (Ok (node, next)) = operand_node_in node st next work result
    on_operand st work result (Err r) = unread st work result

    abbrev pub on_agg : State → List ℕ → List ℕ → Result (AggNode × Place) Refusal → Progress
    on_agg st work result (Ok (node, next)) = agg_node_in node st next work result
    on_agg st work result (Err r) = unread st work result

    abbrev pub deeper : ℕ → Walkers
    deeper n =
        record {
          condition =
              after λ st work result.
              on_condition st work result (condition_at R.condition R.layout st.place);
          operand =
              after λ st work result. on_operand st work result (term_at R.condition R.layout st.place);
          agg = λ st p work result. on_agg st work result (agg_at R.condition R.layout p);
          value_arg = value_arg_in;
          fields = λ span. concrete_fields_in R.condition R.layout n span;
        }

  -- no nesting is left
  abbrev pub exhausted : State → List ℕ → List ℕ → Progress
  exhausted st work result = progress (without_message_at 3 0 st.charged) work result

  unfoldable pub walkers : ℕ → Walkers
  walkers zero =
      record {
        condition = after exhausted;
        operand = after exhausted;
        agg = λ st p work result. exhausted st work result;
        value_arg = λ st p work result. exhausted st work result;
        fields = λ span. concrete_fields_in R.condition R.layout zero span;
      }
  walkers (suc n) = deeper (walkers n) (suc n)
