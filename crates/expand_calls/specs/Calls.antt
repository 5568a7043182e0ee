-- A call: which macro it names, and what it becomes once its arguments are expanded.
-- Assumes nothing.
use Rattle.messages.specs.declared.Refused.{Refused}
use Rattle.std.specs.Prelude.{ℕ, ◌+◌, Bool, true, false, List, leb, Option, Some, None, Result, Ok, Err}
use Rattle.grammar.specs.Grammar as grammar
use Rattle.tape.specs.Pick.{pick}
use Rattle.tape.specs.Layouts.{area_layout}
use Rattle.nodes.specs.Node.{on_value, on_heading, expect_at, heading_at, name_at}
use Rattle.tape.specs.declared.layout.Layout.{Layout}
use Rattle.tape.specs.declared.layout.Place.{Place}
use Rattle.nodes.specs.declared.BodyNode.{BodyNode}
use Rattle.nodes.specs.declared.BodyNode.TheVariants as body
use Rattle.nodes.specs.declared.Heading.{Heading}
use Rattle.nodes.specs.declared.Name.{Name}
use Rattle.area.specs.Area.{Area, area_in, empty_at, append_out_in}
use Rattle.area.specs.declared.Writer.{Writer}
use Rattle.messages.specs.Reason.{refused_at}
use Rattle.messages.specs.declared.Reason.{Reason}
use Rattle.messages.specs.declared.Reason.TheVariants.{UnknownMacro, CedarInCondition, CedarInValue, ValueAsCondition, ConditionAsValue}
use Rattle.registry.specs.Places.{get_at}
use Rattle.nodes.specs.declared.Definition.{Definition}
use Rattle.walk_state.specs.Writing as one
use Rattle.walk_state.specs.Writing.{state}
use Rattle.subst_call.specs.Front.{on_macro, macro_from, refuse_too_large_in, call_in}
use Rattle.subst_call.specs.declared.Macro.{Macro}
use Rattle.walk_state.specs.Walk.{State}
use Rattle.walk_state.specs.Walk.{Walk}
use Rattle.walk_state.specs.Walk as walk
use Rattle.expand_calls.specs.Output.{Reads, Progress, progress, after, on_work}

-- ------------------------------------------------------------------ the macro that is called

abbrev pub on_found : {A : Type 0} → A → (Heading → Place → ℕ → A) → Option Definition → A
on_found none f None = none
on_found none f (Some found) = f found.heading found.params found.end

module _ (R : Reads) where
  unfoldable pub resolve_in : Heading → Option Macro
  resolve_in call =
      on_found None (macro_from R.registry R.definitions)
      (get_at R.registry R.definitions R.places (name_at R.condition R.layout call.name))

  abbrev pub refused_call : Heading → (Name → Reason) → Result Macro Refused
  refused_call call reason = Err (refused_at call.span (reason call.name))

  -- 30, 31 or 32
  abbrev pub on_condition_kind : Heading → Macro → BodyNode → Result Macro Refused
  on_condition_kind call def body.Condition = Ok def
  on_condition_kind call def body.Cedar = refused_call call CedarInCondition
  on_condition_kind call def body.Value = refused_call call ValueAsCondition

  unfoldable pub condition_macro_in : Heading → Result Macro Refused
  condition_macro_in call = on_macro (refused_call call UnknownMacro) (λ def. on_condition_kind call def def.kind) (resolve_in call)

  -- 30, 31 or 33
  abbrev pub on_value_kind : Heading → Macro → BodyNode → Result Macro Refused
  on_value_kind call def body.Value = Ok def
  on_value_kind call def body.Cedar = refused_call call CedarInValue
  on_value_kind call def body.Condition = refused_call call ConditionAsValue

  unfoldable pub value_macro_in : Heading → Result Macro Refused
  value_macro_in call = on_macro (refused_call call UnknownMacro) (λ def. on_value_kind call def def.kind) (resolve_in call)

  abbrev pub is_value : BodyNode → Bool
  is_value body.Cedar = false
  is_value body.Condition = false
  is_value body.Value = true

  -- whether the condition at a place is a bare call of a value macro
  unfoldable pub calls_value_in : Place → Bool
  calls_value_in p =
      on_value false
      (λ value call.
      on_heading false (λ head first. on_macro false (λ def. is_value def.kind) (resolve_in head))
      (heading_at R.condition R.layout call 54))
      (expect_at R.condition R.layout p 11)

-- ------------------------------------------------------------------ what a call becomes

-- the area of the next level, with nothing in it
unfoldable pub above : Writer → Writer
above out = record { base = pick (leb out.base 65536) (out.base + 12288) out.base; n = 0; t = 0; overflowed = false }

-- the call in the work buffer is substituted into the area at the start of the result buffer
unfoldable pub apply_in : List ℕ → Layout → (limit file : ℕ) → List ℕ → Macro → Heading → State → List ℕ → one.Progress
apply_in reg d limit file work def call filled result =
    call_in reg d work (area_layout filled.out.base filled.out.n filled.out.t) limit file def call
    (record { at = 3; text = call.name.size }) filled.charged (empty_at 0) result

-- the outcome, behind what its level holds already
abbrev pub on_made : Writer → Place → List ℕ → List ℕ → Walk → Progress
on_made out next work result (walk.Going made) =
    let P : Area = append_out_in (area_in made.out result) (area_in out work) in
    progress (walk.Going (state next P.out made.charged)) P.bytes result
on_made out next work result (walk.Refused f k) = progress (walk.Refused f k) work result

unfoldable pub into_in : Writer → Place → List ℕ → one.Progress → Progress
into_in out next work Y = on_made out next work Y.bytes Y.walk

-- 3 if the call with its expanded arguments is too large; then the substitution
unfoldable pub outcome_in : List ℕ → Layout → (limit file : ℕ) → Macro → Heading → Writer → Progress → Progress
outcome_in reg d limit file def call out X =
    after (λ filled work result. into_in out filled.place work (apply_in reg d limit file work def call filled result))
    (on_work (refuse_too_large_in call.span grammar.call) X)
