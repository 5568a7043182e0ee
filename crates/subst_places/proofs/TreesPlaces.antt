-- The places of a parameter and of a binder's name, where they stand in a body: a `?` gives the argument or the definition's refusal,
-- a `$` the generated name, and all else is kept.
-- Assumes nothing.
use Rattle.std.proofs.Common.{Some, None, Result, Ok, Err}
use Prim.Native.Nat.{ℕ, suc, ◌+◌}
use mathlib.Core.Path.{◌≡◌, refl, sym, ap, ◌∙◌}
use mathlib.Core.List.{List, [], ◌∷◌, ◌++◌, append-nil, append_assoc}
use mathlib.Core.Bool.{Bool, true, false}
use mathlib.Core.Option.{Option as Maybe}
use lib.Dec.{leb}
use native.Mathlib.Omega.{arith}
use lib.ListN.{length, length-append}
use Rattle.format.specs.Entry.{Text, Entry, text_entry, text_of}
use Rattle.format.specs.Ast.{Interval as Duration, WithinSpec, BinderSlot, TypedBinder, Sigil, CallArg}
use Rattle.format.specs.Flat.{flat_within, flat_slot, flat_type, flat_binder, flat_binders, flat_condition, flat_term}
use Rattle.format.proofs.All.{all_nil, all_cons, all_append}
use Rattle.format.proofs.Stands.{text_append}
use Rattle.format.proofs.Spells.{flat_within_list, flat_slot_list}
use Rattle.definition.specs.Outcome.{Refusal, Outcome, pure, refusal, proceed, open_outcome}
use Rattle.definition.specs.Messages.{budget_exceeded, unbound_parameter, not_a_condition, binder_as_condition, not_an_interval, not_a_term, not_an_identifier}
use Rattle.definition.specs.Substitute.{
  SubstMaps,
  charge,
  lookup,
  arg_for,
  charge_paste,
  gensym_for,
  paste_condition,
  paste_term,
  paste_within,
  paste_slot,
  identifier,
  subst_binder_slot,
  subst_binder,
  subst_binders,
  subst_within,
  subst_sigil_ref,
}
use Rattle.tape.specs.Pick.{pick}
use Rattle.nodes.specs.Node.{name_at, past_type_at, on_place}
use Rattle.tape.specs.declared.layout.Layout.{Layout}
use Rattle.tape.specs.declared.layout.Place.{Place}
use Rattle.nodes.specs.declared.Name.{Name}
use Rattle.tape.proofs.Located.{past, Inside, inside_sections}
use Rattle.nodes.proofs.Placed.{sigil_node, binder_list, parts_list, parts_slot, parts_within, past_type, parts_binders}
use Rattle.area.specs.Area.{Area, put_text_in}
use Rattle.area.proofs.Appends.{out_put_text, fits_front}
use Rattle.area.proofs.Room.{fits_decides}
use Rattle.area.proofs.Within.{within_put_text, within_refl}
use Rattle.messages.specs.Reason.{number_of, message_of, refused_at}
use Rattle.messages.specs.declared.Reason.{Reason}
use Rattle.messages.specs.declared.Reason.TheVariants.{
  Budget,
  NotACondition,
  BinderAsCondition,
  NotAnInterval,
  NotATerm,
  NotAnIdentifier,
}
use Rattle.messages.specs.declared.Refused.{Refused}
use Rattle.subst_state.specs.Arguments.{arg_for as find}
use Rattle.walk_state.specs.Writing.{Progress, progress, state, going, after, stop, unread}
use Rattle.subst_state.specs.Output.{on_charged, charge_of, charged_for, copy_own_in, paste_in, charge_paste_in, gensym_in}
use Rattle.subst_places.specs.Parameters.{
  Tapes,
  items_in,
  unbound_at,
  has_root,
  param_within_in,
  within_in,
  put_within_in,
  param_condition_in,
  sigil_ref_in,
  param_term_in,
  text_in,
  param_slot_in,
  binder_slot_in,
  binder_in,
  binders_in,
}
use Rattle.subst_state.specs.declared.maps.Argument.{Argument}
use Rattle.walk_state.specs.Walk.{State}
use Rattle.walk_state.specs.Walk as walk
use Rattle.subst_places.specs.declared.places.Interval.{Interval}
use Rattle.subst_places.specs.declared.places.Interval.TheVariants as interval
use Rattle.subst_places.proofs.TreesWalk.{
  strict_items,
  Written,
  rewritten,
  within_copy,
  copied_written,
  RefusalMatchesIn,
  WalkMatches,
  writes,
  stops,
  starting,
  ending,
  bind_matches,
  map_matches,
  whole_matches,
  copy_own_matches,
  own_matches,
  AllDone,
  all_bind,
  all_map,
  all_of,
}
use Rattle.subst_places.proofs.TreesBound.{
  root_of,
  between,
  ranges_condition,
  ranges_term,
  ranges_unit,
  Identifies,
  is_name,
  no_name,
  identifies,
  entries_of,
  ranged,
  ArgumentIs,
  FoundIs,
  nothing,
  argument,
  Bound,
}

module _ {T : Tapes} {maps : SubstMaps} (B : Bound T maps) where
  -- what the messages call a name
  abbrev spells : Name → Text
  spells name = name_at T.definition T.maps.definition name

  abbrev Finds : Name → Text → Type 0
  Finds name n = FoundIs T.call T.maps.call (lookup maps.params maps.args n) (find T.definition T.table T.maps name)

  -- one entry with text
  text_matches : {A : Type 0} {flat : A → List Entry} (a : A) (code : ℕ) (text : Text) {P : Area} {es : List Entry} {next : Place} {k : ℕ}
      → Written P es → text_entry code text ∷ [] ≡ flat a → WalkMatches T flat P es (going next k (put_text_in code text P)) next (Outcome.done a k)
  unfolding text_of
  text_matches a code text {P} {es} w e =
      let changed = within_put_text code text P in
      let own = text_entry code text ∷ [] in
      let fits = fits_decides (length (es ++ own)) (length (text_of (es ++ own))) in
      let size : length (text_of (es ++ own)) ≡ length (text_of es) + length text =
      ap length (text_append es own) ∙ length-append (text_of es) (text_of own)
      ∙ ap (λ (x : Text). length (text_of es) + length x) (append-nil text) in
      writes _ refl
      (rewritten (ap (λ (x : List Entry). es ++ x) e)
      (record {
        out = out_put_text code text w.out;
        near = rw changed.base w.near;
        small = λ f.
            all_append (w.small (fits_front es own f))
            (all_cons {a = text_entry code text} (omega (arith, size, (fits.holds f).1)) all_nil);
      }))
      changed

  pub gensym_matches : {A : Type 0} {flat : A → List Entry} (a : A) (code : ℕ) {n : Text} (name : Name) (p : Place) {P : Area} {es : List Entry}
      {next : Place} {k : ℕ} → spells name ≡ n → Written P es → text_entry code (gensym_for maps n) ∷ [] ≡ flat a
      → WalkMatches T flat P es (gensym_in T.definition T.maps code name (state p P.out k) next P.bytes) next (Outcome.done a k)
  unfolding gensym_in gensym_for open_outcome
  gensym_matches a code {n} name p {P} {next = next} {k} h w e =
      starting T (ap (λ (t : Text). going next k (put_text_in code t P)) (rw (h, B.its_span, B.its_file)))
      (text_matches a code (gensym_for maps n) w e)

  -- ------------------------------------------------------------------ pastes

  -- an argument that stands on the call's tape
  paste_written : (arg : Argument) {own : List Entry} → Inside T.call T.maps.call arg.from own → arg.to ≡ past own arg.from
      → {A : Type 0} {flat : A → List Entry} (a : A) (p : Place) {P : Area} {es : List Entry} {next : Place} {k : ℕ} → own ≡ flat a
      → Written P es
      → WalkMatches T flat P es (paste_in T.call T.maps arg next (progress (walk.Going (state p P.out k)) P.bytes)) next (Outcome.done a k)
  unfolding paste_in
  paste_written arg i q a p {P} {es} e w =
      rw q (writes _ refl (rewritten (ap (λ (x : List Entry). es ++ x) e) (copied_written i w)) (within_copy i {P = P}))

  -- "a charge that would take it above the limit is 35 and is not added"
  pub charged_matches : (nodes : ℕ) (p : Place) (k : ℕ) {P : Area} {es : List Entry} → Written P es
      → WalkMatches T (λ (u : Unit {0}). []) P es (progress (charged_for T.maps nodes (state p P.out k)) P.bytes) p
      (charge maps.limit nodes maps.call_span k)
  unfolding charged_for charge_of charge message_of
  charged_matches nodes p k {P} {es} w = starting T (rw (B.its_limit, B.its_span)) (go (leb (k + nodes) maps.limit))
    where
      go : (b : Bool) → WalkMatches T (λ (u : Unit {0}). []) P es
          (progress (on_charged (refused_at maps.call_span (Budget maps.limit)) (state p P.out k)
          (pick b (Some (k + nodes)) None)) P.bytes) p
          (elim b [
            | true ↦ Outcome.done tt (k + nodes)
            | false ↦ Outcome.refused (refusal 35 maps.call_span (budget_exceeded maps.limit)) k
          ])
      go true = writes P refl (rewritten (sym (append-nil es)) w) within_refl
      go false = stops T (λ t c. record { its_number = refl; its_span = refl; its_message = refl })

  -- the charge for an argument, and then the paste
  charge_paste_matches : (arg : Argument) {own : List Entry} (size : ℕ) → Inside T.call T.maps.call arg.from own
      → arg.to ≡ past own arg.from
      → arg.size ≡ size → {A : Type 0} {flat : A → List Entry} (a : A) (p : Place) (k : ℕ) {P : Area} {es : List Entry} {next : Place}
      → own ≡ flat a → Written P es
      → WalkMatches T flat P es (charge_paste_in T.call T.maps arg (state p P.out k) next P.bytes) next
      (proceed (charge maps.limit size maps.call_span k) (λ _. pure a))
  unfolding charge_paste_in paste_in
  charge_paste_matches arg size i q z a p k {P} {es} {next} e w =
      starting T (ap (λ (n : ℕ). paste_in T.call T.maps arg next (progress (charged_for T.maps n (state p P.out k)) P.bytes)) z)
      (bind_matches T (paste_in T.call T.maps arg next) (λ r c bytes. refl) (λ _. pure a) (charged_matches size p k w)
      (λ u k₁ Q d x. paste_written arg i q a p e (rewritten (append-nil es) x)))

  -- the name has no parameter, or its argument is of another kind
  module _ (span : ℕ) (name : Name) {n : Text} (e : spells name ≡ n) where
    unbound_refusal_matches : RefusalMatchesIn T (unbound_at T.maps span name) (refusal 41 span (unbound_parameter maps.macro_name n))
    unfolding message_of
    unbound_refusal_matches = λ t c. record { its_number = refl; its_span = refl; its_message = rw (B.its_name, e) }

    kind_refusal_matches : (reason : Name → Name → Reason) (number : ℕ) (message : Text → Text → Text)
        → ((m n : Name) → number_of (reason m n) ≡ number)
        → ((t : List ℕ) (c : Layout) (m n : Name) → message_of T.definition T.maps.definition t c (reason m n) ≡ message (spells m)
        (spells n))
        → RefusalMatchesIn T (refused_at span (reason T.maps.macro_name name)) (refusal number span (message maps.macro_name n))
    kind_refusal_matches reason number message f g =
        λ t c. record { its_number = f _ name; its_span = refl; its_message = g t c _ name ∙ rw (B.its_name, e) }

  module _ (span : ℕ) (name : Name) {n : Text} (e : spells name ≡ n) where
    -- a `?` in a condition's place, and in a term's: the argument is charged and pasted
    pub param_condition : (p : Place) (k : ℕ) {P : Area} {es : List Entry} {next : Place} → Written P es → Finds name n
        → WalkMatches T flat_condition P es (param_condition_in T span name (state p P.out k) next P.bytes) next
        (subst_sigil_ref maps span Sigil.Param n k)
    unfolding param_condition_in subst_sigil_ref arg_for open_outcome paste_condition charge_paste message_of root_of entries_of
    param_condition p k w (nothing o x) = rw (o, arg_for, x) (stops T (unbound_refusal_matches span name e))
    param_condition p k w (argument (CallArg.ConditionArg c) arg o x h) =
        rw (o, arg_for, x) (rw (ranged h (ranges_condition c)).0 (charge_paste_matches arg _ h.inside h.ends h.its_size c p k refl w))
    param_condition p k w (argument (CallArg.TermArg t) arg o x h) =
        rw (o, arg_for, x)
        (rw (ranged h (ranges_term t)).0 (stops T (kind_refusal_matches span name e NotACondition 42 not_a_condition (λ m n. refl) (λ t c m n. refl))))
    param_condition p k w (argument (CallArg.WithinArg i) arg o x h) =
        rw (o, arg_for, x)
        (rw (ranged h (ranges_unit i.unit)).0
        (stops T (kind_refusal_matches span name e NotACondition 42 not_a_condition (λ m n. refl) (λ t c m n. refl))))

    pub param_term : (p : Place) (k : ℕ) {P : Area} {es : List Entry} {next : Place} → Written P es → Finds name n
        → WalkMatches T flat_term P es (param_term_in T span name (state p P.out k) next P.bytes) next
        (proceed (arg_for maps n span k) (paste_term maps span n))
    unfolding param_term_in arg_for open_outcome paste_term charge_paste message_of root_of entries_of
    param_term p k w (nothing o x) = rw (o, arg_for, x) (stops T (unbound_refusal_matches span name e))
    param_term p k w (argument (CallArg.TermArg t) arg o x h) =
        rw (o, arg_for, x) (rw (ranged h (ranges_term t)).1 (charge_paste_matches arg _ h.inside h.ends h.its_size t p k refl w))
    param_term p k w (argument (CallArg.ConditionArg c) arg o x h) =
        rw (o, arg_for, x)
        (rw (ranged h (ranges_condition c)).1 (stops T (kind_refusal_matches span name e NotATerm 45 not_a_term (λ m n. refl) (λ t c m n. refl))))
    param_term p k w (argument (CallArg.WithinArg i) arg o x h) =
        rw (o, arg_for, x)
        (rw (ranged h (ranges_unit i.unit)).1 (stops T (kind_refusal_matches span name e NotATerm 45 not_a_term (λ m n. refl) (λ t c m n. refl))))

    -- in a slot's place: the argument's name, if it is one
    slot_found : {a : CallArg} {o : Maybe Text} {b : Bool} (arg : Argument) (p : Place)
        (k : ℕ) {P : Area} {es : List Entry} {next : Place} → Written P es
        → Identifies a o b → has_root arg 27 27 ≡ b → identifier a ≡ o → ArgumentIs T.call T.maps.call a arg
        → WalkMatches T flat_slot_list P es
        (pick (has_root arg 27 27) (going next k (put_text_in 43 (text_in T arg) P))
        (stop (refused_at T.maps.call_span (NotAnIdentifier T.maps.macro_name name)) (state p P.out k) P.bytes))
        next (paste_slot maps n a k)
    unfolding paste_slot entries_of message_of flat_slot flat_condition text_of
    slot_found arg p k {P} {next = next} w (is_name {n = m}) r q h =
        let text : text_in T arg ≡ m = rw h.ends ((inside_sections h.inside).text ∙ append-nil m) in
        rw (r, q, paste_slot) (starting T (ap (λ (t : Text). going next k (put_text_in 43 t P)) text)
        (text_matches (BinderSlot.Name m) 43 m w refl))
    slot_found arg p k {P} {next = next} w no_name r q h =
        rw (r, q, paste_slot)
        (starting T (ap (λ (s : ℕ). progress (walk.Refused (refused_at s (NotAnIdentifier T.maps.macro_name name)) k) P.bytes)
        B.its_span)
        (stops T (kind_refusal_matches maps.call_span name e NotAnIdentifier 46 not_an_identifier (λ m n. refl) (λ t c m n. refl))))

    param_slot : (p : Place) (k : ℕ) {P : Area} {es : List Entry} {next : Place} → Written P es → Finds name n
        → WalkMatches T flat_slot_list P es (param_slot_in T span name (state p P.out k) next P.bytes) next
        (subst_binder_slot maps (BinderSlot.ParamRef n) span k)
    unfolding param_slot_in subst_binder_slot arg_for open_outcome
    param_slot p k w (nothing o x) = rw (o, arg_for, x) (stops T (unbound_refusal_matches span name e))
    param_slot p k w (argument a arg o x h) =
        rw (o, arg_for, x) (slot_found arg p k w (identifies a) (ap (between 27 27) h.its_root) refl h)

  binder_refusal_matches : (span : ℕ) (name : Name) {n : Text} → spells name ≡ n
      → RefusalMatchesIn T (refused_at span (BinderAsCondition name)) (refusal 43 span (binder_as_condition n))
  unfolding message_of
  binder_refusal_matches span name e = λ t c. record { its_number = refl; its_span = refl; its_message = rw e }

  pub sigil_matches : (g : Sigil) (span : ℕ) (name : Name) {n : Text} (p : Place) (k : ℕ) {P : Area} {es : List Entry} {next : Place}
      → spells name ≡ n
      → Written P es → WalkMatches T flat_condition P es (sigil_ref_in T span (sigil_node g) name (state p P.out k) next P.bytes) next
      (subst_sigil_ref maps span g n k)
  unfolding sigil_ref_in subst_sigil_ref message_of
  sigil_matches Sigil.Param span name p k e w = param_condition span name e p k w (B.finds name e)
  sigil_matches Sigil.Binder span name p k e w = stops T (binder_refusal_matches span name e)

  -- ------------------------------------------------------------------ slots and binders

  pub slot_matches : (v : BinderSlot) (span : ℕ) {p : Place} (k : ℕ) {P : Area} {es : List Entry}
      → Inside T.definition T.maps.definition p (flat_slot v ∷ []) → Written P es
      → WalkMatches T flat_slot_list P es (binder_slot_in T span (going p k P)) (past (flat_slot v ∷ []) p) (subst_binder_slot maps v span k)
  unfolding binder_slot_in subst_binder_slot flat_slot
  slot_matches (BinderSlot.Name n) span k i w = rw (parts_slot (BinderSlot.Name n) i).read (own_matches T (BinderSlot.Name n) i w refl)
  slot_matches (BinderSlot.ParamRef n) span {p} k i w =
      let v = parts_slot (BinderSlot.ParamRef n) i in
      rw v.read (param_slot span v.name v.spelled p k w (B.finds v.name v.spelled))
  slot_matches (BinderSlot.BinderRef n) span {p} k i w =
      let v = parts_slot (BinderSlot.BinderRef n) i in
      rw v.read (gensym_matches (BinderSlot.Name (gensym_for maps n)) 43 v.name p v.spelled w refl)

  -- what follows the slot
  abbrev type_in : State → List ℕ → Progress
  type_in st bytes =
      on_place (unread st bytes) (λ next. copy_own_in T.definition T.maps st next bytes)
      (past_type_at T.definition T.maps.definition st.place)

  pub binder_matches : (b : TypedBinder) (span : ℕ) {p : Place} (k : ℕ) {P : Area} {es : List Entry}
      → Inside T.definition T.maps.definition p (flat_slot b.slot ∷ [])
      → Inside T.definition T.maps.definition (past (flat_slot b.slot ∷ []) p) (flat_type b.ty) → Written P es
      → WalkMatches T flat_binder P es (binder_in T span (going p k P)) (past (flat_type b.ty) (past (flat_slot b.slot ∷ []) p))
      (subst_binder maps b span k)
  unfolding binder_in subst_binder open_outcome flat_binder
  binder_matches b span k {es = es} i j w =
      bind_matches T (after type_in) (λ r c bytes. refl) _ (slot_matches b.slot span k i w)
      (λ v k₁ Q e x. rw (past_type b.ty j) (own_matches T _ j x (append_assoc es (flat_slot v ∷ []) (flat_type b.ty))))

  each_binder : (bs : List TypedBinder) (span : ℕ) {p : Place} (k : ℕ) {P : Area} {es : List Entry}
      → Inside T.definition T.maps.definition p (flat_binders bs) → Written P es
      → WalkMatches T flat_binders P es (items_in (binder_in T span) (length bs) (going p k P)) (past (flat_binders bs) p)
      (subst_binders maps bs span k)
  unfolding items_in subst_binders open_outcome flat_binders
  each_binder [] span k {P} {es} i w = ending T (parts_binders [] i) (writes P refl (rewritten (sym (append-nil es)) w) within_refl)
  each_binder (b ∷ bs) span k {es = es} i w =
      let runs = parts_binders (b ∷ bs) i in
      ending T runs.ends
      (bind_matches T (items_in (binder_in T span) (length bs)) (strict_items (binder_in T span) (length bs)) _
      (binder_matches b span k runs.first runs.second w)
      (λ v k₁ Q e x.
      map_matches T (λ vs. v ∷ vs) (λ vs k₂ e. append_assoc es (flat_binder v) (flat_binders vs)) (each_binder bs span k₁ runs.third x)))

  same_binders : (bs : List TypedBinder) (span k : ℕ)
      → AllDone (λ (vs : List TypedBinder). length vs ≡ length bs) (subst_binders maps bs span k)
  unfolding subst_binders open_outcome AllDone
  same_binders [] span k = refl
  same_binders (b ∷ bs) span k =
      all_bind (λ (vs : List TypedBinder). length vs ≡ suc (length bs)) _ (subst_binder maps b span k)
      (λ v k₁. all_map (λ (vs : List TypedBinder). length vs ≡ length bs) (λ (vs : List TypedBinder). length vs ≡ suc (length bs))
      (λ vs. v ∷ vs)
      (subst_binders maps bs span k₁) (λ vs e. ap suc e) (same_binders bs span k₁))

  pub binders_matches : (bs : List TypedBinder) (span : ℕ) {p : Place} (k : ℕ) {P : Area} {es : List Entry}
      → Inside T.definition T.maps.definition p (binder_list bs) → Written P es
      → WalkMatches T binder_list P es (binders_in T span (going p k P)) (past (binder_list bs) p) (subst_binders maps bs span k)
  unfolding binders_in
  binders_matches bs span k {es = es} i w =
      let list = parts_list (length bs) (flat_binders bs) i in
      rw list.read
      (ending T list.runs.ends
      (copy_own_matches T (items_in (binder_in T span) (length bs)) list.head w
      (λ Q x. whole_matches T (λ vs k₁ e. rw (all_of (λ (vs : List TypedBinder). length vs ≡ length bs) (same_binders bs span k) e)
      (append_assoc es _ (flat_binders vs)))
      (each_binder bs span k list.runs.first x))))

  -- ------------------------------------------------------------------ withins

  -- what an interval stands for
  pub data WithinMatches (p end : Place) (k : ℕ) : Result Interval Refused → Outcome WithinSpec → Type 0 where
    own : {w : WithinSpec} → Inside T.definition T.maps.definition p (flat_within w ∷ []) → end ≡ past (flat_within w ∷ []) p
        → WithinMatches p end k (Ok (interval.Own end)) (Outcome.done w k)
    given : {i : Duration} {arg : Argument} → ArgumentIs T.call T.maps.call (CallArg.WithinArg i) arg
        → WithinMatches p end k (Ok (interval.Given arg end)) (Outcome.done (WithinSpec.Concrete i) k)
    refused : {f : Refused} {r : Refusal} → RefusalMatchesIn T f r → WithinMatches p end k (Err f) (Outcome.refused r k)

  param_within : (span : ℕ) (name : Name) {n : Text} (p end : Place) (k : ℕ) → spells name ≡ n → Finds name n
      → WithinMatches p end k (param_within_in T.definition T.table T.maps span name end) (subst_within maps (WithinSpec.ParamRef n) span k)
  unfolding param_within_in subst_within arg_for open_outcome paste_within message_of root_of
  param_within span name p end k e (nothing o x) =
      rw (o, arg_for, x) (refused (unbound_refusal_matches span name e))
  param_within span name p end k e (argument (CallArg.WithinArg i) arg o x h) =
      rw (o, arg_for, x) (rw (ranged h (ranges_unit i.unit)).2 (given h))
  param_within span name p end k e (argument (CallArg.ConditionArg c) arg o x h) =
      rw (o, arg_for, x)
      (rw (ranged h (ranges_condition c)).2 (refused (kind_refusal_matches span name e NotAnInterval 44 not_an_interval (λ m n. refl) (λ t c m n. refl))))
  param_within span name p end k e (argument (CallArg.TermArg t) arg o x h) =
      rw (o, arg_for, x)
      (rw (ranged h (ranges_term t)).2 (refused (kind_refusal_matches span name e NotAnInterval 44 not_an_interval (λ m n. refl) (λ t c m n. refl))))

  pub within_found : (v : WithinSpec) (span : ℕ) {p : Place} (k : ℕ) → Inside T.definition T.maps.definition p (flat_within v ∷ [])
      → WithinMatches p (past (flat_within v ∷ []) p) k (within_in T.definition T.table T.maps span p) (subst_within maps v span k)
  unfolding within_in subst_within
  within_found (WithinSpec.Concrete i) span k h = rw (parts_within (WithinSpec.Concrete i) h) (own h refl)
  within_found (WithinSpec.ParamRef n) span {p} k h =
      let v = parts_within (WithinSpec.ParamRef n) h in
      rw v.read (param_within span v.name p _ k v.spelled (B.finds v.name v.spelled))

  pub within_matches : {p end : Place} {k : ℕ} {i : Result Interval Refused} {o : Outcome WithinSpec} {P : Area} {es : List Entry} → WithinMatches p end k i o
      → Written P es
      → WalkMatches T flat_within_list P es (put_within_in T.definition T.call T.maps i k (going p k P)) end o
  unfolding put_within_in entries_of flat_within
  within_matches {p} {end} (own {w = v} h e) w = rw e (own_matches T v h w refl)
  within_matches {p} (given {i} {arg} h) w = paste_written arg h.inside h.ends (WithinSpec.Concrete i) p refl w
  within_matches {P = P} (refused h) w = stops T h
