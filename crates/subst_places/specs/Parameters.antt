-- The places of a parameter and of a binder's name: what a `?` or a `$` becomes there.
-- Assumes nothing.
use Rattle.nodes.specs.declared.WithinNode.{WithinNode}
use Rattle.nodes.specs.declared.SlotNode.{SlotNode}
use Rattle.nodes.specs.declared.Refusal.{Refusal}
use Rattle.std.specs.Prelude.{ℕ, zero, suc, ◌+◌, List, Bool, ◌&&◌, ◌||◌, leb, Result, Ok, Err}
use Rattle.std.proofs.Math.Seq.{slice}
use Rattle.tape.specs.Pick.{pick}
use Rattle.nodes.specs.Node.{on_value, on_place, expect_at, past_type_at, slot_at, within_at}
use Rattle.tape.specs.declared.layout.Place.{Place}
use Rattle.nodes.specs.declared.Name.{Name}
use Rattle.nodes.specs.declared.Sigil.{Sigil}
use Rattle.nodes.specs.declared.Sigil.TheVariants as sigil
use Rattle.nodes.specs.declared.SlotNode.TheVariants as slot
use Rattle.nodes.specs.declared.WithinNode.TheVariants as within
use Rattle.area.specs.Area.{area_in, put_text_in}
use Rattle.messages.specs.Reason.{refused_at}
use Rattle.messages.specs.declared.Reason.{Reason}
use Rattle.messages.specs.declared.Reason.TheVariants.{
  WithoutMessage,
  Unbound,
  NotACondition,
  BinderAsCondition,
  NotAnInterval,
  NotATerm,
  NotAnIdentifier,
}
use Rattle.messages.specs.declared.Refused.{Refused}
use Rattle.subst_state.specs.Arguments.{on_found, arg_for}
use Rattle.walk_state.specs.Reading.{behind_in}
use Rattle.walk_state.specs.Writing.{Progress, progress, going, after, place_of, stop, unread}
use Rattle.subst_state.specs.Output.{copy_own_in, paste_in, charge_paste_in, gensym_in}
use Rattle.subst_state.specs.declared.maps.Argument.{Argument}
use Rattle.subst_state.specs.Maps.{SubstMaps, maps_at}
use Rattle.subst_state.specs.declared.maps.Substitution.{Substitution}
use Rattle.walk_state.specs.Walk.{State}
use Rattle.walk_state.specs.Walk.{Walk}
use Rattle.walk_state.specs.Walk as walk
use Rattle.subst_places.specs.declared.places.Interval.{Interval}
use Rattle.subst_places.specs.declared.places.Interval.TheVariants as interval

-- what a walk reads: the definition's tape and the call's, the table of the call's arguments, and where all stands
pub record Tapes : Type 0 where
  pub definition : List ℕ
  pub call : List ℕ
  pub table : List Argument
  pub maps : SubstMaps

abbrev pub tapes : List ℕ → List ℕ → List Argument → SubstMaps → Tapes
tapes definition call table maps = record { definition = definition; call = call; table = table; maps = maps }

-- those of a substitution
abbrev pub tapes_of : Substitution → Tapes
tapes_of s = tapes s.definition.bytes.now s.call.bytes.now s.args.now (maps_at s)

-- f along n items, up to the first refusal
unfoldable pub items_in : (Progress → Progress) → ℕ → Progress → Progress
items_in f zero X = X
items_in f (suc n) X = after (λ st bytes. items_in f n (f (progress (walk.Going st) bytes))) X

abbrev pub unbound_at : SubstMaps → ℕ → Name → Refused
unbound_at m span name = refused_at span (Unbound m.macro_name name)

-- the code of an argument's root is one of those from `low` to `high`
abbrev pub has_root : Argument → ℕ → ℕ → Bool
has_root arg low high = leb low arg.root && leb arg.root high

-- an interval: 48 to 51, or 64
abbrev pub is_interval : Argument → Bool
is_interval arg = has_root arg 48 51 || has_root arg 64 64

-- ------------------------------------------------------------------ a within

-- what stands at a place that was read, or the refusal of the read
unfoldable pub at_read : (Place → Result Interval Refused) → Result Place Refused → Result Interval Refused
at_read f (Ok p) = f p
at_read f (Err r) = Err r

module _ (def : List ℕ) (table : List Argument) (m : SubstMaps) where
  unfoldable pub param_within_in : ℕ → Name → Place → Result Interval Refused
  param_within_in span name next =
      on_found (Err (unbound_at m span name))
      (λ arg.
      pick (is_interval arg) (Ok (interval.Given arg next))
      (Err (refused_at span (NotAnInterval m.macro_name name))))
      (arg_for def table m name)

  abbrev pub on_within : ℕ → Result (WithinNode × Place) Refusal → Result Interval Refused
  on_within span (Ok (within.Concrete, next)) = Ok (interval.Own next)
  on_within span (Ok (within.ParamRef name, next)) = param_within_in span name next
  on_within span (Err r) = Err (refused_at 0 (WithoutMessage 2))

  unfoldable pub within_in : ℕ → Place → Result Interval Refused
  within_in span p = on_within span (within_at def m.definition p)

  -- that of a Since, which stands behind its left side
  unfoldable pub since_within_in : ℕ → Place → Walk → Result Interval Refused
  since_within_in span left w = at_read (within_in span) (behind_in def m.definition left (place_of w))

-- what a within became, behind a walk; a refusal of the within comes before one of the walk, with what was charged before it
module _ (def call : List ℕ) (m : SubstMaps) where
  unfoldable pub put_within_in : Result Interval Refused → ℕ → Progress → Progress
  put_within_in (Ok (interval.Own next)) charged X = after (λ st bytes. copy_own_in def m st next bytes) X
  put_within_in (Ok (interval.Given arg next)) charged X = paste_in call m arg next X
  put_within_in (Err r) charged X = progress (walk.Refused r charged) X.bytes

module _ (T : Tapes) where
  -- what a `?` with this name finds, or `none`
  abbrev pub on_parameter : Progress → (Argument → Progress) → Name → Progress
  on_parameter none f name = on_found none f (arg_for T.definition T.table T.maps name)

  -- ---------------------------------------------------------------- a condition, a term

  -- a `?` where the root of an argument is of a code from `low` to `high`; of any other, `other` is said
  unfoldable pub param_in : (low high : ℕ) → Reason → ℕ → Name → State → Place → List ℕ → Progress
  param_in low high other span name st next bytes =
      on_parameter (stop (unbound_at T.maps span name) st bytes)
      (λ arg. pick (has_root arg low high) (charge_paste_in T.call T.maps arg st next bytes) (stop (refused_at span other) st bytes))
      name

  unfoldable pub param_condition_in : ℕ → Name → State → Place → List ℕ → Progress
  param_condition_in span name st next bytes =
      on_parameter (stop (unbound_at T.maps span name) st bytes)
      (λ arg.
      pick (has_root arg 1 13) (charge_paste_in T.call T.maps arg st next bytes)
      (stop (refused_at span (NotACondition T.maps.macro_name name)) st bytes))
      name

  unfoldable pub sigil_ref_in : ℕ → Sigil → Name → State → Place → List ℕ → Progress
  sigil_ref_in span sigil.Param name st next bytes = param_condition_in span name st next bytes
  sigil_ref_in span sigil.Binder name st next bytes = stop (refused_at span (BinderAsCondition name)) st bytes

  unfoldable pub param_term_in : ℕ → Name → State → Place → List ℕ → Progress
  param_term_in span name st next bytes =
      on_parameter (stop (unbound_at T.maps span name) st bytes)
      (λ arg.
      pick (has_root arg 20 33) (charge_paste_in T.call T.maps arg st next bytes)
      (stop (refused_at span (NotATerm T.maps.macro_name name)) st bytes))
      name

  -- ---------------------------------------------------------------- a slot

  -- the text from one place to another of the call's tape
  abbrev pub text_in : Argument → List ℕ
  text_in arg = slice (T.maps.call.text + arg.from.text) (T.maps.call.text + arg.to.text) T.call

  unfoldable pub param_slot_in : ℕ → Name → State → Place → List ℕ → Progress
  param_slot_in span name st next bytes =
      on_parameter (stop (unbound_at T.maps span name) st bytes)
      (λ arg.
      pick (has_root arg 27 27) (going next st.charged (put_text_in 43 (text_in arg) (area_in st.out bytes)))
      (stop (refused_at T.maps.call_span (NotAnIdentifier T.maps.macro_name name)) st bytes))
      name

  abbrev pub on_slot : ℕ → State → List ℕ → Result (SlotNode × Place) Refusal → Progress
  on_slot span st bytes (Ok (slot.Name name, next)) = copy_own_in T.definition T.maps st next bytes
  on_slot span st bytes (Ok (slot.ParamRef name, next)) = param_slot_in span name st next bytes
  on_slot span st bytes (Ok (slot.BinderRef name, next)) = gensym_in T.definition T.maps 43 name st next bytes
  on_slot span st bytes (Err r) = unread st bytes

  unfoldable pub binder_slot_in : ℕ → Progress → Progress
  binder_slot_in span = after λ st bytes. on_slot span st bytes (slot_at T.definition T.maps.definition st.place)

  -- a slot and its type
  unfoldable pub binder_in : ℕ → Progress → Progress
  binder_in span X =
      after
      (λ st bytes.
      on_place (unread st bytes) (λ next. copy_own_in T.definition T.maps st next bytes)
      (past_type_at T.definition T.maps.definition st.place))
      (binder_slot_in span X)

  -- a list of them
  unfoldable pub binders_in : ℕ → Progress → Progress
  binders_in span =
      after λ st bytes.
      on_value (unread st bytes)
      (λ count first. items_in (binder_in span) count (copy_own_in T.definition T.maps st first bytes))
      (expect_at T.definition T.maps.definition st.place 41)
