-- The front of a substitution: which macro is called, what is charged for its body, and whether the result is too large.
-- Assumes nothing.
use Rattle.std.specs.Prelude.{ℕ, ◌||◌, List, eqb, replicate, Option, Some, None}
use Rattle.grammar.specs.Grammar as grammar
use Rattle.tape.specs.Pick.{pick}
use Rattle.tape.specs.Layouts.{area_layout, size_between}
use Rattle.nodes.specs.Node.{on_place, on_heading, on_body, heading_at, past_params_at, body_at}
use Rattle.tape.specs.Scan.{too_deep}
use Rattle.tape.specs.declared.layout.Layout.{Layout}
use Rattle.tape.specs.declared.layout.Place.{Place}
use Rattle.nodes.specs.declared.BodyNode.{BodyNode}
use Rattle.nodes.specs.declared.BodyNode.TheVariants as body
use Rattle.nodes.specs.declared.Heading.{Heading}
use Rattle.area.specs.Area.{empty_at}
use Rattle.area.specs.declared.Writer.{Writer}
use Rattle.messages.specs.Reason.{refused_at}
use Rattle.messages.specs.declared.Reason.TheVariants.{CedarInCondition, ArgumentCount}
use Rattle.messages.specs.declared.Refused.{Refused}
use Rattle.subst_state.specs.Arguments.{table_from}
use Rattle.walk_state.specs.Writing.{Progress, progress, state, after, without_message_at}
use Rattle.subst_state.specs.Output.{charged_for}
use Rattle.subst_places.specs.Parameters.{Tapes, tapes}
use Rattle.subst_walk.specs.Walkers.{walkers}
use Rattle.subst_call.specs.declared.Macro.{Macro}
use Rattle.subst_state.specs.Maps.{SubstMaps}
use Rattle.subst_state.specs.declared.maps.Argument.{Argument}
use Rattle.walk_state.specs.Walk.{State}
use Rattle.walk_state.specs.Walk.{Walk}
use Rattle.walk_state.specs.Walk as walk

-- ------------------------------------------------------------------ cases

abbrev pub on_macro : {A : Type 0} → A → (Macro → A) → Option Macro → A
on_macro none f (Some called) = f called
on_macro none f None = none

-- ------------------------------------------------------------------ a macro

-- the one whose definition has this head, its parameters at this place, and ends in front of this entry
abbrev pub macro_from : List ℕ → Layout → Heading → Place → ℕ → Option Macro
macro_from s l head params end =
    on_place None
    (λ next.
    on_body None
    (λ kind body. Some (record { definition = record { heading = head; params = params; end = end }; kind = kind; body = body }))
    (body_at s l next))
    (past_params_at s l params head.count)

-- a definition behind which nothing stands
unfoldable pub macro_at : List ℕ → Layout → Place → Option Macro
macro_at s l p = on_heading None (λ head params. macro_from s l head params l.entries) (heading_at s l p 60)

abbrev pub wrong_count : Heading → Heading → Refused
wrong_count def call = refused_at call.span (ArgumentCount def.name def.count call.count)

-- ------------------------------------------------------------------ its body

-- the size of a body that stands up to `end` is charged
unfoldable pub charge_body_in : List ℕ → SubstMaps → ℕ → State → Walk
charge_body_in def m end st = charged_for m (size_between def m.definition st.place.at end) st

-- 3, where the output was too small, or what it holds passes nesting 64 or a 54 inside the arguments of 3 others
unfoldable pub refuse_too_large_in : ℕ → ℕ → Progress → Progress
refuse_too_large_in span sort =
    after λ st bytes.
    pick (st.out.overflowed || too_deep bytes (area_layout st.out.base st.out.n st.out.t) sort)
    (progress (without_message_at 3 span st.charged) bytes)
    (progress (walk.Going st) bytes)

module _ (T : Tapes) where
  unfoldable pub temporal_condition_in : Progress → Progress
  temporal_condition_in X = refuse_too_large_in T.maps.call_span grammar.condition ((walkers T 64).condition X)

  -- a value body's terms outside aggregates have the call's span
  unfoldable pub temporal_value_in : Progress → Progress
  temporal_value_in X = refuse_too_large_in T.maps.call_span grammar.term ((walkers T 64).term T.maps.call_span X)

  unfoldable pub substitute_body_in : BodyNode → ℕ → State → List ℕ → Progress
  substitute_body_in body.Cedar end st bytes = progress (without_message_at 2 0 st.charged) bytes
  substitute_body_in body.Condition end st bytes = temporal_condition_in (progress (charge_body_in T.definition T.maps end st) bytes)
  substitute_body_in body.Value end st bytes = temporal_value_in (progress (charge_body_in T.definition T.maps end st) bytes)

-- ------------------------------------------------------------------ a call

-- what a substitution knows of the macro and of the call
abbrev pub maps_for : Layout → Layout → (limit file : ℕ) → Macro → Heading → SubstMaps
maps_for d c limit file called head =
    record {
      definition = d;
      call = c;
      params = called.definition.params;
      count = called.definition.heading.count;
      macro_name = called.definition.heading.name;
      call_span = head.span;
      limit = limit;
      file = file;
    }

-- the table of up to sixteen arguments, before they are found
abbrev pub no_argument : Argument
no_argument = record { from = record { at = 0; text = 0 }; to = record { at = 0; text = 0 }; root = 0; size = 0 }

abbrev pub table_of : List ℕ → Layout → Heading → Place → List Argument
table_of call c head first = table_from call c head.count first 0 (replicate 16 no_argument)

unfoldable pub call_in : List ℕ → Layout → List ℕ → Layout → (limit file : ℕ) → Macro → Heading → Place → ℕ → Writer → List ℕ → Progress
call_in def d call c limit file called head first charged out bytes =
    substitute_body_in (tapes def call (table_of call c head first) (maps_for d c limit file called head)) called.kind called.definition.end
    (state called.body out charged) bytes

-- ------------------------------------------------------------------ the two tapes

abbrev pub origin : Place
origin = record { at = 0; text = 0 }

-- Cedar is 31, another number of arguments 34
abbrev pub cedar_at : Heading → Walk
cedar_at head = walk.Refused (refused_at head.span (CedarInCondition head.name)) 0

unfoldable pub counted_in : List ℕ → Layout → List ℕ → Layout → (limit file : ℕ) → Macro → Heading → Place → List ℕ → Progress
counted_in def d call c limit file called head first bytes =
    pick (eqb called.definition.heading.count head.count) (call_in def d call c limit file called head first 0 (empty_at 0) bytes)
    (progress (walk.Refused (wrong_count called.definition.heading head) 0) bytes)

abbrev pub on_kind : Heading → Progress → List ℕ → BodyNode → Progress
on_kind head X bytes body.Cedar = progress (cedar_at head) bytes
on_kind head X bytes body.Condition = X
on_kind head X bytes body.Value = X

unfoldable pub tapes_in : List ℕ → Layout → List ℕ → Layout → (limit file : ℕ) → List ℕ → Progress
tapes_in def d call c limit file bytes =
    on_macro (progress (without_message_at 2 0 0) bytes)
    (λ called.
    on_heading (progress (without_message_at 2 0 0) bytes)
    (λ head first. on_kind head (counted_in def d call c limit file called head first bytes) bytes called.kind)
    (heading_at call c origin 54))
    (macro_at def d origin)
