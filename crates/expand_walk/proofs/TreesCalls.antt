-- Where a call stands, the code makes of it what the definition says: which macro it names, its arguments at the next level, and what it
-- becomes.
-- Assumes nothing.
use Rattle.std.proofs.Common.{Result, Ok, Err, Option}
use Prim.Native.Nat.{ℕ, suc, ◌+◌, ◌≤◌}
use native.Mathlib.Omega.{arith}
use mathlib.Core.Path.{◌≡◌, refl, sym, ap, subst, ◌∙◌}
use mathlib.Core.List.{List, [], ◌∷◌, ◌++◌}
use mathlib.Core.Option.{Option as Maybe, none, some}
use lib.Dec.{eqb}
use lib.ListN.{length}
use borrow.Author.Tests.{eqb-true}
use Rattle.format.specs.Entry.{Text, Entry, entry, text_entry}
use Rattle.format.specs.Ast.{Call, CallArgs, MacroBody, MacroDef}
use Rattle.format.specs.Flat.{length_args, flat_condition, flat_term, flat_args, flat_call, flat_body, flat_def, open_flat}
use Rattle.format.specs.Limits.{node_weight, call_weight, deep_args, deep_call, deep_body, open_limits}
use Rattle.definition.specs.Messages.{unknown_macro, cedar_in_condition, cedar_in_value, value_as_condition, condition_as_value}
use Rattle.definition.specs.Registry.{get}
use Rattle.definition.specs.Outcome.{Refusal, Outcome, Walk as Walks, pure, refuse, proceed, open_outcome}
use Rattle.definition.specs.Substitute.{SubstMaps, check_arity}
use Rattle.definition.specs.Expand.{
  Registry,
  resolve,
  condition_body,
  value_body,
  expand_temporal_condition,
  expand_temporal_call_arg,
  expand_temporal_call_args,
  expand_temporal_call_to_condition,
  expand_temporal_call_to_value,
}
use Rattle.buffer.proofs.Decides.{cases}
use Rattle.nodes.specs.Node.{on_heading, named, heading_at}
use Rattle.tape.specs.declared.layout.Layout.{Layout}
use Rattle.tape.specs.declared.layout.Place.{Place}
use Rattle.nodes.specs.declared.BodyNode.{BodyNode}
use Rattle.nodes.specs.declared.Heading.{Heading}
use Rattle.nodes.specs.declared.Refusal.{Refusal as Misread}
use Rattle.tape.proofs.Located.{past, Inside, inside_next}
use Rattle.nodes.proofs.Entries.{is_expected}
use Rattle.nodes.proofs.Placed.{heading_entries, parts_call, parts_def}
use Rattle.area.specs.Area.{Area, area_in}
use Rattle.area.specs.declared.Writer.{Writer}
use Rattle.messages.specs.Reason.{message_of}
use Rattle.messages.specs.declared.Reason.TheVariants.{UnknownMacro}
use Rattle.messages.specs.declared.Refused.{Refused}
use Rattle.walk_state.specs.Writing.{state}
use Rattle.subst_state.specs.Output.{copy_in}
use Rattle.subst_call.specs.Front.{on_macro, refuse_too_large_in}
use Rattle.subst_call.specs.declared.Macro.{Macro}
use Rattle.subst_call.proofs.TreesFront.{kind_of, body_start, called, count_refusal_matches}
use Rattle.subst_places.proofs.TreesWalk.{Written, within_copy, copied_written, written_none, AllDone, all_bind, all_map, all_of, rewritten}
use Rattle.expand_calls.specs.Output.{Reads, Progress, copy_own_in}
use Rattle.expand_calls.specs.Calls.{resolve_in, refused_call, on_condition_kind, condition_macro_in, on_value_kind, value_macro_in, above, outcome_in}
use Rattle.expand_walk.specs.Walkers.{Walkers, items_in, arg_in, called_in, on_callee, to_condition_in, to_value_in}
use Rattle.expand_calls.proofs.TreesWalk.{going, Above, above_within, above_trans, Room, Ready, Nothing, RefusalMatchesIn, WalkMatches, writes, refuses, stops, starting, ending}
use Rattle.expand_calls.proofs.TreesLevels.{above_is, written_kept, above_kept}
use Rattle.expand_calls.proofs.TreesOutcome.{checked, outcome}
use Rattle.expand_calls.proofs.TreesResolve.{Settled, Resolved, unresolved, resolved, resolves}
use Rattle.expand_calls.proofs.TreesBodies.{Rooted, Kind, conditions, values}

-- ------------------------------------------------------------------ arguments

module _ (R : Reads) (reg : Registry) (W : Walkers) where
  -- a walk over arguments gives them expanded
  abbrev pub ArgsRight : CallArgs → Type 0
  ArgsRight args =
      (P : Area) (es : List Entry) (result : List ℕ) (p : Place) (k : ℕ) → Inside R.condition R.layout p (flat_args args)
      → Room P (deep_args call_weight args) → Ready result → Written P es
      → WalkMatches R Nothing flat_args P es (items_in (arg_in R W) (length_args args) (going p k P result)) (past (flat_args args) p)
      (expand_temporal_call_args reg args k)

-- there are as many as before
same_count : (reg : Registry) (args : CallArgs) (k : ℕ)
    → AllDone (λ (made : CallArgs). length_args made ≡ length_args args) (expand_temporal_call_args reg args k)
unfolding expand_temporal_condition open_outcome AllDone length_args
same_count reg CallArgs.no_args k = refl
same_count reg (CallArgs.cons_arg a rest) k =
    let Same : CallArgs → Type 0 = λ made. length_args made ≡ suc (length_args rest) in
    all_bind Same _ (expand_temporal_call_arg reg a k) (λ a' k₁.
    all_map (λ (made : CallArgs). length_args made ≡ length_args rest) Same (λ made. CallArgs.cons_arg a' made)
    (expand_temporal_call_args reg rest k₁) (λ made e. ap suc e) (same_count reg rest k₁))

-- the name of a call's head is as long as the call's name
name_size : {s : List ℕ} {l : Layout} {p : Place} (span : ℕ) (name : Text) (args : CallArgs)
    (i : Inside s l p (flat_call (Call.MacroCall span name args))) → (parts_call span name args i).its_name.size ≡ length name
unfolding heading_at open_flat
name_size {s} {l} {p} span name args i =
    let h = inside_next (entry 54 span) (text_entry 40 name ∷ entry 41 (length_args args) ∷ flat_args args) i in
    let list = inside_next (text_entry 40 name) (entry 41 (length_args args) ∷ flat_args args) h in
    let read : heading_at s l p 54
    ≡ Ok (record { span = span; name = named (past (entry 54 span ∷ []) p) (length name); count = length_args args }, past (entry 41 (length_args args) ∷ []) (past (text_entry 40 name ∷ []) (past (entry 54 span ∷ []) p))) =
    rw (is_expected i, is_expected h, is_expected list) in
    ap (λ (r : Result (Heading × Place) Misread). on_heading 0 (λ head next. head.name.size) r) (sym (parts_call span name args i).parts.read ∙ read)

-- ------------------------------------------------------------------ the arguments at the next level

-- what a call may use of a body: its body, if it is one of the kind, or a refusal
data Chosen (R : Reads) {A : Type 0} (body : A → MacroBody) : MacroBody → (Macro → Result Macro Refused) → Walks A → Type 0 where
  chosen : (b : A) → Chosen R body (body b) (λ def. Ok def) (pure b)
  declined : {m : MacroBody} {f : Refused} {r : Refusal} → RefusalMatchesIn R f r
      → Chosen R body m (λ def. Err f) (λ k. Outcome.refused r k)

module _ {R : Reads} {reg : Registry} (S : Settled R reg) (W : Walkers) {A : Type 0} {Also : List ℕ → A → Type 0} {flat : A → List Entry}
    {body : A → MacroBody} {become : A → SubstMaps → Walks A} (K : Kind Also flat body become) (span : ℕ) (name : Text) (args : CallArgs)
    {p : Place} (i : Inside R.condition R.layout p (flat_call (Call.MacroCall span name args))) (right : ArgsRight R reg W args) where
  abbrev its_head : Heading
  its_head = record { span = span; name = (parts_call span name args i).its_name; count = length_args args }

  abbrev own : List Entry
  own = heading_entries 54 span name (length_args args)

  abbrev end : Place
  end = past (flat_call (Call.MacroCall span name args)) p

  -- the definition's walk behind the choice of a body
  abbrev rest : (limit file : ℕ) → MacroDef → A → Walks A
  rest limit file dm b k =
      proceed (check_arity dm (length_args args) span k)
      (λ u k₁. proceed (expand_temporal_call_args reg args k₁) (checked R K span name limit file dm b))

  module _ {P : Area} {es : List Entry} (result : List ℕ) (k : ℕ) (room : Room P (deep_call call_weight (Call.MacroCall span name args)))
      (ready : Ready result) (w : Written P es) where
    -- the next level, with nothing in it, and with the call's own entries
    abbrev next : Area
    next = area_in (above P.out) P.bytes

    abbrev begun : Area
    begun = copy_in R.condition R.layout p (past own p) next

    lifted : (above P.out).base ≡ P.out.base + 12288
    lifted = ap (λ (out : Writer). out.base) (above_is P.out (omega (arith, room.0)))

    deeper : deep_call call_weight (Call.MacroCall span name args) ≡ 1 + deep_args call_weight args
    unfolding open_limits
    deeper = refl

    began : Above next begun
    began = above_within (within_copy (parts_call span name args i).parts.head {P = next})

    begun_written : Written begun own
    begun_written =
        let nothing : Written next [] =
        rw (above_is P.out (omega (arith, room.0)))
        (written_none (P.out.base + 12288) P.bytes (omega (arith, room.0, room.1, deeper)) (omega (arith, room.0, deeper))) in
        copied_written (parts_call span name args i).parts.head nothing

    args_room : Room begun (deep_args call_weight args)
    args_room = (omega (arith, began.base, lifted, room.0, deeper), omega (arith, began.size, room.1))

    module _ (dm : MacroDef) {d : Place} (h : Inside R.registry R.definitions d (flat_def dm)) (few : length dm.params ≤ 16) (b : A)
        (stands : Inside R.registry R.definitions (body_start dm h) (flat_body (body b))) (deep : deep_body node_weight (body b) ≤ 64) where
      expanded : length_args args ≡ length dm.params → {X : Progress} (o : Outcome CallArgs) → expand_temporal_call_args reg args k ≡ o
          → WalkMatches R Nothing flat_args begun own X end o
          → WalkMatches R Also flat P es
          (outcome_in R.registry R.definitions R.limit R.file (called dm h (body b)) its_head P.out X) end
          (proceed o (checked R K span name R.limit R.file dm b))
      unfolding outcome_in refuse_too_large_in open_outcome open_flat
      expanded same o e (refuses work result' x q) =
          refuses work result'
          (ap (outcome_in R.registry R.definitions R.limit R.file (called dm h (body b)) its_head P.out) x) q
      expanded same o e (writes {a = args'} {k = k₁} Q result' x q a ready' also) =
          let counts : length_args args' ≡ length_args args =
          all_of (λ (made : CallArgs). length_args made ≡ length_args args) (same_count reg args k) e in
          let whole : own ++ flat_args args' ≡ flat_call (Call.MacroCall span name args') =
          ap (λ (n : ℕ). heading_entries 54 span name n ++ flat_args args') (sym counts) in
          let since = above_trans began a in
          starting R (ap (outcome_in R.registry R.definitions R.limit R.file (called dm h (body b)) its_head P.out) x)
          (outcome R K span name R.limit R.file dm b h few stands deep (parts_call span name args i).its_name (name_size span name args i)
          (length_args args) same result' k₁ args' counts (rewritten whole q)
          (written_kept P.out next.out.base (omega (arith, lifted)) since.size since.front w)
          (above_kept next.out.base (omega (arith, lifted)) since.size since.front) ready')

      -- 34
      counted : (q : Place)
          → WalkMatches R Also flat P es
          (called_in R W (called dm h (body b)) its_head (state q P.out k) p (past own p) P.bytes result) end
          (rest R.limit R.file dm b k)
      unfolding called_in copy_own_in check_arity open_outcome
      counted q =
          let parts = (parts_call span name args i).parts in
          cases (eqb (length dm.params) (length_args args))
          (λ e. rw (e, check_arity)
          (expanded (sym (eqb-true (length dm.params) (length_args args) e)) (expand_temporal_call_args reg args k) refl
          (ending R parts.runs.ends (right begun own result (past own p) k parts.runs.first args_room ready begun_written))))
          (λ e. rw (e, check_arity)
          (stops R (count_refusal_matches dm span name args R.limit R.file (parts_call span name args i).its_name h i few R.condition R.layout)))

    -- ---------------------------------------------------------------- which macro it is

    module _ (q : Place) (on_kind : Macro → BodyNode → Result Macro Refused) (body_of : MacroBody → Walks A)
        (choice : (m : MacroBody) → Chosen R body m (λ def. on_kind def (kind_of m)) (body_of m)) where
      by_choice : (dm : MacroDef) {d : Place} (h : Inside R.registry R.definitions d (flat_def dm)) → length dm.params ≤ 16
          → (m : MacroBody) {c : Macro → Result Macro Refused} {g : Walks A} → Chosen R body m c g
          → Inside R.registry R.definitions (body_start dm h) (flat_body m) → deep_body node_weight m ≤ 64
          → WalkMatches R Also flat P es
          (on_callee R W its_head (state q P.out k) p (past own p) P.bytes result (c (called dm h m))) end
          (proceed (g k) (rest R.limit R.file dm))
      unfolding open_outcome
      by_choice dm h few m (chosen b) stands deep = counted dm h few b stands deep q
      by_choice dm h few m (declined same) stands deep = stops R same

      abbrev stepped : Option Macro → Progress
      stepped m =
          on_callee R W its_head (state q P.out k) p (past own p) P.bytes result
          (on_macro (refused_call R its_head UnknownMacro) (λ def. on_kind def def.kind) m)

      abbrev resolving : (limit file : ℕ) → Maybe MacroDef → Outcome A
      resolving limit file o =
          proceed ((elim o as (λ x. Walks MacroDef) [ some d ↦ pure d | none ↦ refuse 30 span (unknown_macro name) ]) k)
          (λ dm k₁. proceed (body_of dm.body k₁) (rest limit file dm))

      by_name : {m : Option Macro} {o : Maybe MacroDef} → Resolved R m o → WalkMatches R Also flat P es (stepped m) end (resolving R.limit R.file o)
      unfolding open_outcome message_of
      by_name unresolved =
          stops R (record { its_number = refl; its_span = refl; its_message = ap unknown_macro (parts_call span name args i).spelled })
      by_name (resolved dm h few deep) =
          by_choice dm h few dm.body (choice dm.body) (parts_def dm h).parts.runs.second deep

      call_matches : WalkMatches R Also flat P es (stepped (resolve_in R its_head)) end (resolving reg.limit reg.file (get reg.defs name))
      call_matches =
          subst (λ (file : ℕ). WalkMatches R Also flat P es (stepped (resolve_in R its_head)) end (resolving reg.limit file (get reg.defs name)))
          S.its_file
          (subst (λ (limit : ℕ). WalkMatches R Also flat P es (stepped (resolve_in R its_head)) end (resolving limit R.file (get reg.defs name)))
          S.its_limit (by_name (resolves S its_head (parts_call span name args i).spelled)))

-- ------------------------------------------------------------------ calls in place of a condition, and of a value

module _ {R : Reads} {reg : Registry} (S : Settled R reg) (W : Walkers) (span : ℕ) (name : Text) (args : CallArgs) {p : Place}
    (i : Inside R.condition R.layout p (flat_call (Call.MacroCall span name args))) where
  abbrev call_of : Heading
  call_of = record { span = span; name = (parts_call span name args i).its_name; count = length_args args }

  condition_choice : (m : MacroBody)
      → Chosen R (λ b. MacroBody.TemporalCondition b) m (λ def. on_condition_kind R call_of def (kind_of m)) (condition_body m name span)
  unfolding condition_body message_of
  condition_choice MacroBody.Cedar =
      declined (record { its_number = refl; its_span = refl; its_message = ap cedar_in_condition (parts_call span name args i).spelled })
  condition_choice (MacroBody.TemporalCondition c) = chosen c
  condition_choice (MacroBody.TemporalValue t) =
      declined (record { its_number = refl; its_span = refl; its_message = ap value_as_condition (parts_call span name args i).spelled })

  value_choice : (m : MacroBody)
      → Chosen R (λ b. MacroBody.TemporalValue b) m (λ def. on_value_kind R call_of def (kind_of m)) (value_body m name span)
  unfolding value_body message_of
  value_choice MacroBody.Cedar =
      declined (record { its_number = refl; its_span = refl; its_message = ap cedar_in_value (parts_call span name args i).spelled })
  value_choice (MacroBody.TemporalCondition c) =
      declined (record { its_number = refl; its_span = refl; its_message = ap condition_as_value (parts_call span name args i).spelled })
  value_choice (MacroBody.TemporalValue t) = chosen t

  module _ (right : ArgsRight R reg W args) {P : Area} {es : List Entry} (result : List ℕ) (q : Place) (k : ℕ)
      (room : Room P (deep_call call_weight (Call.MacroCall span name args))) (ready : Ready result) (w : Written P es) where
    pub condition_call : WalkMatches R Rooted flat_condition P es (to_condition_in R W (state q P.out k) p P.bytes result)
        (past (flat_call (Call.MacroCall span name args)) p) (expand_temporal_call_to_condition reg (Call.MacroCall span name args) k)
    unfolding to_condition_in condition_macro_in expand_temporal_condition resolve open_outcome
    condition_call =
        rw (parts_call span name args i).parts.read
        (call_matches S W conditions span name args i right result k room ready w q (on_condition_kind R call_of)
        (λ m. condition_body m name span) condition_choice)

    pub value_call : WalkMatches R Nothing flat_term P es (to_value_in R W (state q P.out k) p P.bytes result)
        (past (flat_call (Call.MacroCall span name args)) p) (expand_temporal_call_to_value reg (Call.MacroCall span name args) k)
    unfolding to_value_in value_macro_in expand_temporal_condition resolve open_outcome
    value_call =
        rw (parts_call span name args i).parts.read
        (call_matches S W values span name args i right result k room ready w q (on_value_kind R call_of)
        (λ m. value_body m name span) value_choice)
