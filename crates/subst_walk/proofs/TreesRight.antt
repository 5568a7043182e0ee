-- Where a body's tree stands, the walkers write the entries of the substituted tree behind what was written, or refuse as the tree's
-- definition does. By induction on the nesting that is left; each node is one clause.
-- Assumes nothing.
use Rattle.std.proofs.Common.{Result, Ok}
use Prim.Native.Nat.{ℕ, zero, suc, ◌≤◌}
use native.Mathlib.Omega.{arith}
use mathlib.Core.Path.{◌≡◌, refl, sym, ap, ◌∙◌}
use mathlib.Core.List.{List, [], ◌∷◌, ◌++◌, append-nil, append_assoc}
use Rattle.format.specs.Entry.{Text, Entry, entry, text_entry}
use Rattle.format.specs.Ast.{WithinSpec, Condition, Term, AggExpr, NamedArgs, Terms}
use Rattle.format.specs.Flat.{
  flat_texts,
  flat_within,
  flat_binder,
  length_terms,
  length_fields,
  flat_condition,
  flat_term,
  flat_agg,
  flat_fields,
  flat_terms,
}
use Rattle.format.proofs.Deep.{deep_condition_lem, deep_term_lem, deep_agg_lem}
use Rattle.format.specs.Limits.{is_node, node_weight, weigh, deep_condition, deep_term, deep_agg, deep_fields, deep_terms}
use Rattle.format.proofs.Spells.{flat_within_list}
use Rattle.definition.specs.Outcome.{refusal, Outcome, pure, proceed, ◌>>=◌, open_outcome}
use Rattle.definition.specs.Substitute.{
  SubstMaps,
  gensym_for,
  subst_temporal_condition,
  subst_temporal_agg,
  subst_temporal_term,
  subst_temporal_terms,
  subst_temporal_fields,
}
use Rattle.nodes.specs.Node.{condition_at, term_at, agg_at}
use Rattle.tape.specs.declared.layout.Place.{Place}
use Rattle.tape.proofs.Located.{past, past_append, Inside, inside_front, inside_back, inside_skip}
use Rattle.nodes.proofs.Placed.{predicate_head, parts_list, parts_condition, parts_term, parts_agg, parts_fields, parts_terms}
use Rattle.tape.proofs.Trees.{passes_condition}
use Rattle.area.specs.Area.{Area}
use Rattle.area.proofs.Within.{within_refl}
use Rattle.messages.specs.Reason.{refused_at, message_of}
use Rattle.messages.specs.declared.Reason.TheVariants.{WithoutMessage}
use Rattle.messages.specs.declared.Refused.{Refused}
use Rattle.walk_state.specs.Writing.{Progress, state, going}
use Rattle.subst_state.specs.Output.{paste_in}
use Rattle.subst_places.specs.Parameters.{Tapes, items_in, at_read, within_in, since_within_in, put_within_in, binder_slot_in, binder_in, binders_in}
use Rattle.subst_walk.specs.Walkers.{
  Walkers,
  tp_in,
  both_in,
  inner_in,
  formerly_in,
  since_in,
  field_in,
  predicate_in,
  sides_in,
  exists_in,
  inject_in,
  refine_in,
  condition_node_in,
  agg_node_in,
  term_node_in,
  on_condition,
  on_agg,
  on_term,
  walkers,
}
use Rattle.subst_places.specs.Refines.{shape_in, fold_in}
use Rattle.subst_places.specs.declared.places.Interval.{Interval}
use Rattle.subst_places.specs.declared.places.Interval.TheVariants as interval
use Rattle.subst_places.proofs.TreesWalk.{
  Strict,
  strict_items,
  Written,
  rewritten,
  RefusalMatchesIn,
  WalkMatches,
  writes,
  refuses,
  stops,
  ending,
  gives_kept,
  gives_behind,
  bind_matches,
  map_matches,
  whole_matches,
  copy_own_matches,
  own_matches,
  AllDone,
  all_bind,
  all_map,
  all_of,
}
use Rattle.subst_places.proofs.TreesBound.{Bound}
use Rattle.subst_places.proofs.TreesPlaces.{
  gensym_matches,
  param_term,
  sigil_matches,
  slot_matches,
  binder_matches,
  binders_matches,
  WithinMatches,
  own,
  given,
  refused,
  within_found,
  within_matches,
}
use Rattle.subst_places.proofs.TreesFold.{strict_fold, fold_matches}
use Rattle.subst_places.proofs.TreesShape.{HasShape, shape_right}

module _ {T : Tapes} {maps : SubstMaps} (B : Bound T maps) where
  -- the entries stand at a place of the body
  abbrev At : Place → List Entry → Type 0
  At p es = Inside T.definition T.maps.definition p es

  -- the Rust's `unreachable!`
  call_refusal_matches : (span : ℕ) → RefusalMatchesIn T (refused_at span (WithoutMessage 48)) (refusal 48 span [])
  unfolding message_of
  call_refusal_matches span = λ t c. record { its_number = refl; its_span = refl; its_message = refl }

  -- lists keep their counts
  same_terms : (ts : Terms) (span k : ℕ) → AllDone (λ (us : Terms). length_terms us ≡ length_terms ts) (subst_temporal_terms maps ts span k)
  unfolding subst_temporal_condition open_outcome AllDone length_terms
  same_terms Terms.no_terms span k = refl
  same_terms (Terms.cons_term t ts) span k =
      all_bind (λ (us : Terms). length_terms us ≡ suc (length_terms ts)) _ (subst_temporal_term maps t span k)
      (λ u k₁. all_map (λ (us : Terms). length_terms us ≡ length_terms ts) (λ (us : Terms). length_terms us ≡ suc (length_terms ts))
      (λ us. Terms.cons_term u us)
      (subst_temporal_terms maps ts span k₁) (λ us e. ap suc e) (same_terms ts span k₁))

  same_fields : (fs : NamedArgs) (span k : ℕ)
      → AllDone (λ (gs : NamedArgs). length_fields gs ≡ length_fields fs) (subst_temporal_fields maps fs span k)
  unfolding subst_temporal_condition open_outcome AllDone length_fields
  same_fields NamedArgs.no_fields span k = refl
  same_fields (NamedArgs.cons_field n t fs) span k =
      all_bind (λ (gs : NamedArgs). length_fields gs ≡ suc (length_fields fs)) _ (subst_temporal_term maps t span k)
      (λ u k₁. all_map (λ (gs : NamedArgs). length_fields gs ≡ length_fields fs)
      (λ (gs : NamedArgs). length_fields gs ≡ suc (length_fields fs)) (λ gs. NamedArgs.cons_field n u gs)
      (subst_temporal_fields maps fs span k₁) (λ gs e. ap suc e) (same_fields fs span k₁))

  -- the walkers are right about trees that are at most n deep
  pub record Right (W : Walkers) (n : ℕ) : Type 0 where
    pub condition : (c : Condition) (k : ℕ) {p : Place} {P : Area} {es : List Entry} → At p (flat_condition c)
        → deep_condition node_weight c ≤ n → Written P es
        → WalkMatches T flat_condition P es (W.condition (going p k P)) (past (flat_condition c) p) (subst_temporal_condition maps c k)
    pub agg : (a : AggExpr) (k : ℕ) {p : Place} {P : Area} {es : List Entry} → At p (flat_agg a) → deep_agg node_weight a ≤ n → Written P es
        → WalkMatches T flat_agg P es (W.agg (going p k P)) (past (flat_agg a) p) (subst_temporal_agg maps a k)
    pub term : (t : Term) (span k : ℕ) {p : Place} {P : Area} {es : List Entry} → At p (flat_term t) → deep_term node_weight t ≤ n → Written P es
        → WalkMatches T flat_term P es (W.term span (going p k P)) (past (flat_term t) p) (subst_temporal_term maps t span k)
    pub strict_condition : Strict W.condition
    pub strict_term : (span : ℕ) → Strict (W.term span)

  module _ (W : Walkers) (n : ℕ) (R : Right W n) where
    each_term : (ts : Terms) (span k : ℕ) {p : Place} {P : Area} {es : List Entry} → At p (flat_terms ts) → deep_terms node_weight ts ≤ n
        → Written P es
        → WalkMatches T flat_terms P es (items_in (W.term span) (length_terms ts) (going p k P)) (past (flat_terms ts) p)
        (subst_temporal_terms maps ts span k)
    unfolding items_in subst_temporal_condition open_outcome deep_condition length_terms flat_condition
    each_term Terms.no_terms span k {P = P} {es} h d w = ending T (parts_terms Terms.no_terms h)
        (writes P refl (rewritten (sym (append-nil es)) w) within_refl)
    each_term (Terms.cons_term t ts) span k {es = es} h d w =
        let runs = parts_terms (Terms.cons_term t ts) h in
        ending T runs.ends
        (bind_matches T (items_in (W.term span) (length_terms ts)) (strict_items (W.term span) (length_terms ts)) _
        (R.term t span k runs.first (omega arith) w)
        (λ u k₁ Q e x.
        map_matches T (λ us. Terms.cons_term u us) (λ us k₂ e. append_assoc es (flat_term u) (flat_terms us))
        (each_term ts span k₁ runs.second (omega arith) x)))

    -- a name and a term
    abbrev field_entries : Text → Term → List Entry
    field_entries name t = text_entry 40 name ∷ flat_term t

    each_field : (fs : NamedArgs) (span k : ℕ) {p : Place} {P : Area} {es : List Entry} → At p (flat_fields fs)
        → deep_fields node_weight fs ≤ n → Written P es
        → WalkMatches T flat_fields P es (items_in (field_in T W span) (length_fields fs) (going p k P)) (past (flat_fields fs) p)
        (subst_temporal_fields maps fs span k)
    unfolding items_in field_in subst_temporal_condition open_outcome deep_condition length_fields flat_condition
    each_field NamedArgs.no_fields span k {P = P} {es} h d w = ending T (parts_fields NamedArgs.no_fields h)
        (writes P refl (rewritten (sym (append-nil es)) w) within_refl)
    each_field (NamedArgs.cons_field name t fs) span k {p} {P} {es} h d w =
        let i = parts_fields (NamedArgs.cons_field name t fs) h in
        let f = field_in T W span in
        let field : WalkMatches T (field_entries name) P es (f (going p k P)) (past (flat_term t) (past (text_entry 40 name ∷ []) p))
        (subst_temporal_term maps t span k) =
        rw i.read
        (copy_own_matches T (W.term span) i.head w
        (λ Q x. whole_matches T (λ u k₁ e. append_assoc es (text_entry 40 name ∷ []) (flat_term u))
        (R.term t span k i.runs.first (omega arith) x))) in
        ending T i.runs.ends
        (bind_matches T (items_in f (length_fields fs)) (strict_items f (length_fields fs)) _ field
        (λ u k₁ Q e x.
        map_matches T (λ gs. NamedArgs.cons_field name u gs) (λ gs k₂ e. append_assoc es (field_entries name u) (flat_fields gs))
        (each_field fs span k₁ i.runs.second (omega arith) x)))

    -- the within is looked at behind the left side, and its refusal comes first
    module _ (s : ℕ) (l : Condition) (v : WithinSpec) (r : Condition) (k : ℕ) (p : Place) where
      abbrev left : Place
      left = past (entry 6 s ∷ []) p

      abbrev within : Place
      within = past (flat_condition l) left

      abbrev behind : Place
      behind = past (flat_within v ∷ []) within

      abbrev walked : Area → Progress
      walked P = W.condition (going left k P)

      abbrev put : Result Interval Refused → Progress → Progress
      put i = put_within_in T.definition T.call T.maps i k

      module _ {P : Area} {es : List Entry} (lw : WalkMatches T flat_condition P (es ++ entry 6 s ∷ []) (walked P) within (subst_temporal_condition maps l k))
          (hr : At behind (flat_condition r)) (dr : deep_condition node_weight r ≤ n) where
        -- what the within became stands behind the left side, and the right side behind it
        since_sides_matches : (i : Result Interval Refused) (u : WithinSpec) → Strict (put i)
            → ((k₁ : ℕ) (Q : Area) (fs : List Entry) → Written Q fs
            → WalkMatches T flat_within_list Q fs (put i (going within k₁ Q)) behind (Outcome.done u k₁))
            → WalkMatches T flat_condition P es (W.condition (put i (walked P))) (past (flat_condition r) behind)
            (proceed (subst_temporal_condition maps l k) (λ l'. subst_temporal_condition maps r >>= λ r'. pure (Condition.Since s l' u r')))
        unfolding open_outcome flat_condition
        since_sides_matches i u strict look =
            bind_matches T (λ X. W.condition (put i X)) (λ f k₁ bytes. ap W.condition (strict f k₁ bytes) ∙ R.strict_condition f k₁ bytes) _ lw
            (λ l' k₁ Q₁ e₁ x₁.
            bind_matches T W.condition R.strict_condition
            (λ u k₂. proceed (subst_temporal_condition maps r k₂) (λ r' k₃. Outcome.done (Condition.Since s l' u r') k₃)) (look k₁ Q₁ _ x₁)
            (λ u' k₂ Q₂ e₂ x₂.
            map_matches T (λ r'. Condition.Since s l' u' r') (λ r' k₃ e₃. simp append_assoc) (R.condition r k₂ hr dr x₂)))

        since_matches : {i : Result Interval Refused} {o : Outcome WithinSpec} → WithinMatches B within behind k i o
            → WalkMatches T flat_condition P es (W.condition (put i (walked P))) (past (flat_condition r) behind)
            (proceed o (λ u. subst_temporal_condition maps l >>= λ l'. subst_temporal_condition maps r >>= λ r'. pure
            (Condition.Since s l' u r')))
        unfolding open_outcome put_within_in paste_in
        since_matches (own {w = u} i q) = since_sides_matches (Ok (interval.Own behind)) u (λ f k₁ bytes. refl) (λ k₁ Q fs x. within_matches B (own i q) x)
        since_matches (given {i = d} {arg} i) = since_sides_matches (Ok (interval.Given arg behind)) (WithinSpec.Concrete d) (λ f k₁ bytes. refl)
            (λ k₁ Q fs x. within_matches B {p = within} (given i) x)
        since_matches (refused q) = refuses (walked P).bytes (R.strict_condition _ k (walked P).bytes) q (gives_kept T lw)

      since_right : {P : Area} {es : List Entry} → At p (entry 6 s ∷ []) → At left (flat_condition l) → At within (flat_within v ∷ []) → At behind (flat_condition r)
          → deep_condition node_weight l ≤ n → deep_condition node_weight r ≤ n → Written P es
          → WalkMatches T flat_condition P es (since_in T W s (state p P.out k) left P.bytes) (past (flat_condition r) behind)
          (subst_temporal_condition maps (Condition.Since s l v r) k)
      unfolding since_in since_within_in at_read subst_temporal_condition open_outcome
      since_right h hl hv hr dl dr w =
          let found : Progress → Result Interval Refused = λ X. since_within_in T.definition T.table T.maps s left X.walk in
          copy_own_matches T (λ X. W.condition (put (found (W.condition X)) (W.condition X))) h w (λ Q x.
          let lw = R.condition l k hl dl x in
          rw (gives_behind T T.definition T.maps.definition left lw (inside_skip hl (passes_condition l) (omega arith))) (since_matches lw hr dr (within_found B v s k hv)))

    condition_right : (c : Condition) (k : ℕ) (p : Place) {P : Area} {es : List Entry} → At p (flat_condition c)
        → deep_condition node_weight c ≤ suc n → Written P es
        → WalkMatches T flat_condition P es (on_condition T W (state p P.out k) P.bytes (condition_at T.definition T.maps.definition p))
        (past (flat_condition c) p) (subst_temporal_condition maps c k)
    unfolding
        subst_temporal_condition open_outcome deep_condition is_node weigh flat_texts flat_condition flat_binder condition_node_in both_in inner_in
        formerly_in predicate_in sides_in exists_in tp_in inject_in refine_in
    condition_right (Condition.And s l r) k p h d w =
        let i = parts_condition (Condition.And s l r) h in
        rw i.read (ending T i.runs.ends
        (copy_own_matches T (λ X. W.condition (W.condition X)) i.head w (λ Q x.
        bind_matches T W.condition R.strict_condition _ (R.condition l k i.runs.first (omega arith) x) (λ l' k₁ Q₁ e x₁.
        map_matches T (λ r'. Condition.And s l' r') (λ r' k₂ e. simp append_assoc) (R.condition r k₁ i.runs.second (omega arith) x₁)))))
    condition_right (Condition.Or s l r) k p h d w =
        let i = parts_condition (Condition.Or s l r) h in
        rw i.read (ending T i.runs.ends
        (copy_own_matches T (λ X. W.condition (W.condition X)) i.head w (λ Q x.
        bind_matches T W.condition R.strict_condition _ (R.condition l k i.runs.first (omega arith) x) (λ l' k₁ Q₁ e x₁.
        map_matches T (λ r'. Condition.Or s l' r') (λ r' k₂ e. simp append_assoc) (R.condition r k₁ i.runs.second (omega arith) x₁)))))
    condition_right (Condition.Not s c) k p h d w =
        let i = parts_condition (Condition.Not s c) h in
        rw i.read (ending T i.runs.ends
        (copy_own_matches T W.condition i.head w (λ Q x.
        map_matches T (λ c'. Condition.Not s c') (λ c' k₁ e. simp append_assoc) (R.condition c k i.runs.first (omega arith) x))))
    condition_right (Condition.Formerly s v c) k p h d w =
        let i = parts_condition (Condition.Formerly s v c) h in
        let f = put_within_in T.definition T.call T.maps
        (within_in T.definition T.table T.maps s (past (entry 4 s ∷ []) p)) k in
        rw i.read (ending T i.runs.ends
        (copy_own_matches T (λ X. W.condition (f X)) i.head w (λ Q x.
        bind_matches T W.condition R.strict_condition _ (within_matches B (within_found B v s k i.runs.first) x) (λ v' k₁ Q₁ e x₁.
        map_matches T (λ c'. Condition.Formerly s v' c') (λ c' k₂ e. simp append_assoc)
        (R.condition c k₁ i.runs.second (omega arith) x₁)))))
    condition_right (Condition.Previous s v c) k p h d w =
        let i = parts_condition (Condition.Previous s v c) h in
        let f = put_within_in T.definition T.call T.maps
        (within_in T.definition T.table T.maps s (past (entry 5 s ∷ []) p)) k in
        rw i.read (ending T i.runs.ends
        (copy_own_matches T (λ X. W.condition (f X)) i.head w (λ Q x.
        bind_matches T W.condition R.strict_condition _ (within_matches B (within_found B v s k i.runs.first) x) (λ v' k₁ Q₁ e x₁.
        map_matches T (λ c'. Condition.Previous s v' c') (λ c' k₂ e. simp append_assoc)
        (R.condition c k₁ i.runs.second (omega arith) x₁)))))
    condition_right (Condition.Since s l v r) k p h d w =
        let i = parts_condition (Condition.Since s l v r) h in
        rw i.read (ending T i.runs.ends
        (since_right s l v r k p i.head i.runs.first i.runs.second i.runs.third (omega arith) (omega arith) w))
    condition_right (Condition.Predicate s o ns a kd fs) k p {es = es} h d w =
        let i = parts_condition (Condition.Predicate s o ns a kd fs) h in
        let list = parts_list (length_fields fs) (flat_fields fs) i.runs.first in
        let front = entry 7 s ∷ predicate_head o ns a kd in
        let count = entry 41 (length_fields fs) ∷ [] in
        let whole : At p ((front ++ count) ++ flat_fields fs) = simp append_assoc h in
        let here : past count (past front p) ≡ past (front ++ count) p = sym (past_append front count p) in
        rw (i.read, list.read, here) (ending T (i.runs.ends ∙ list.runs.ends ∙ ap (past (flat_fields fs)) here)
        (copy_own_matches T (items_in (field_in T W s) (length_fields fs)) (inside_front (front ++ count) (flat_fields fs) whole) w (λ Q x.
        map_matches T {flat = flat_fields} {es = es ++ (front ++ count)} (λ fs'. Condition.Predicate s o ns a kd fs')
        (λ fs' k₁ e. rw (all_of (λ (gs : NamedArgs). length_fields gs ≡ length_fields fs) (same_fields fs s k) e) (simp append_assoc))
        (each_field fs s k (inside_back (front ++ count) (flat_fields fs) whole) (omega arith) x))))
    condition_right (Condition.Comparison s op l r) k p h d w =
        let i = parts_condition (Condition.Comparison s op l r) h in
        rw i.read (ending T i.runs.ends
        (copy_own_matches T (λ X. W.term s (W.term s X)) i.head w (λ Q x.
        bind_matches T (W.term s) (R.strict_term s) _ (R.term l s k i.runs.first (omega arith) x) (λ l' k₁ Q₁ e x₁.
        map_matches T (λ r'. Condition.Comparison s op l' r') (λ r' k₂ e. simp append_assoc)
        (R.term r s k₁ i.runs.second (omega arith) x₁)))))
    condition_right (Condition.Tp s v) k p h d w =
        let i = parts_condition (Condition.Tp s v) h in
        rw i.read (ending T i.runs.ends
        (copy_own_matches T (binder_slot_in T s) i.head w (λ Q x.
        map_matches T (λ v'. Condition.Tp s v') (λ v' k₁ e. simp append_assoc) (slot_matches B v s k i.runs.first x))))
    condition_right (Condition.Exists s b c) k p h d w =
        let i = parts_condition (Condition.Exists s b c) h in
        rw i.read (ending T i.runs.ends
        (copy_own_matches T (λ X. W.condition (binder_in T s X)) i.head w (λ Q x.
        bind_matches T W.condition R.strict_condition _ (binder_matches B b s k i.runs.first i.runs.second x) (λ b' k₁ Q₁ e x₁.
        map_matches T (λ c'. Condition.Exists s b' c') (λ c' k₂ e. simp append_assoc)
        (R.condition c k₁ i.runs.third (omega arith) x₁)))))
    condition_right (Condition.Refine s o c fs) k p {P} h d w =
        let i = parts_condition (Condition.Refine s o c fs) h in
        let list = parts_list (length_fields fs) (flat_fields fs) i.runs.second in
        let base = past (entry 13 s ∷ entry 42 o ∷ []) p in
        let shape = shape_in T.definition T.table T.maps base in
        rw i.read (ending T (i.runs.ends ∙ list.runs.ends)
        (bind_matches T (inject_in T W s P.out.n o shape) (λ r k₁ bytes. refl) _ (R.condition c k i.runs.first (omega arith) w)
        (λ c' k₁ Q₁ e x₁.
        rw list.read
        (bind_matches T (fold_in P.out.n (length_fields fs) o shape) (strict_fold _ _ _ _) _
        (each_field fs s k₁ list.runs.first (omega arith) x₁) (λ fs' k₂ Q₂ e₂ x₂.
        fold_matches T c' fs' o k₂ (all_of (HasShape B base) (shape_right B c k i.runs.first) e)
        (sym (all_of (λ (gs : NamedArgs). length_fields gs ≡ length_fields fs) (same_fields fs s k₁) e₂)) w x₂)))))
    condition_right (Condition.SigilRef s g name) k p h d w =
        let i = parts_condition (Condition.SigilRef s g name) h in
        rw i.read (sigil_matches B g s i.name p k i.spelled w)
    condition_right (Condition.ConditionCall s c) k p h d w = rw (parts_condition (Condition.ConditionCall s c) h).read
        (stops T (call_refusal_matches s))

    term_right : (t : Term) (span k : ℕ) (p : Place) {P : Area} {es : List Entry} → At p (flat_term t) → deep_term node_weight t ≤ suc n
        → Written P es
        → WalkMatches T flat_term P es (on_term T W span (state p P.out k) P.bytes (term_at T.definition T.maps.definition p))
        (past (flat_term t) p)
        (subst_temporal_term maps t span k)
    unfolding subst_temporal_condition open_outcome deep_condition is_node weigh flat_condition term_node_in sides_in
    term_right (Term.Entity ty id) span k p h d w = rw (parts_term (Term.Entity ty id) h) (own_matches T (Term.Entity ty id) h w refl)
    term_right (Term.Integer v) span k p h d w = rw (parts_term (Term.Integer v) h) (own_matches T (Term.Integer v) h w refl)
    term_right (Term.Decimal t) span k p h d w = rw (parts_term (Term.Decimal t) h) (own_matches T (Term.Decimal t) h w refl)
    term_right (Term.String t) span k p h d w = rw (parts_term (Term.String t) h) (own_matches T (Term.String t) h w refl)
    term_right (Term.Bool b) span k p h d w = rw (parts_term (Term.Bool b) h) (own_matches T (Term.Bool b) h w refl)
    term_right (Term.ContextField path) span k p h d w = rw (parts_term (Term.ContextField path) h)
        (own_matches T (Term.ContextField path) h w refl)
    term_right (Term.ScopeField path) span k p h d w = rw (parts_term (Term.ScopeField path) h)
        (own_matches T (Term.ScopeField path) h w refl)
    term_right (Term.Var name) span k p h d w = rw (parts_term (Term.Var name) h).read (own_matches T (Term.Var name) h w refl)
    term_right Term.Wildcard span k p h d w = rw (parts_term Term.Wildcard h) (own_matches T Term.Wildcard h w refl)
    term_right (Term.Array ts) span k p {es = es} h d w =
        let i = parts_term (Term.Array ts) h in
        rw i.read (ending T i.runs.ends
        (copy_own_matches T (items_in (W.term span) (length_terms ts)) i.head w (λ Q x.
        map_matches T {flat = flat_terms} {es = es ++ entry 29 (length_terms ts) ∷ []} (λ us. Term.Array us)
        (λ us k₁ e. rw (all_of (λ (us : Terms). length_terms us ≡ length_terms ts) (same_terms ts span k) e) (simp append_assoc))
        (each_term ts span k i.runs.first (omega arith) x))))
    term_right (Term.Agg a) span k p h d w =
        let i = parts_term (Term.Agg a) h in
        rw i.read (ending T i.runs.ends
        (copy_own_matches T W.agg i.head w (λ Q x. map_matches T (λ b. Term.Agg b) (λ b k₁ e. simp append_assoc)
        (R.agg a k i.runs.first (omega arith) x))))
    term_right (Term.Arith op l r) span k p h d w =
        let i = parts_term (Term.Arith op l r) h in
        rw i.read (ending T i.runs.ends
        (copy_own_matches T (λ X. W.term span (W.term span X)) i.head w (λ Q x.
        bind_matches T (W.term span) (R.strict_term span) _ (R.term l span k i.runs.first (omega arith) x) (λ l' k₁ Q₁ e x₁.
        map_matches T (λ r'. Term.Arith op l' r') (λ r' k₂ e. simp append_assoc) (R.term r span k₁ i.runs.second (omega arith) x₁)))))
    term_right (Term.ParamRef name) span k p h d w =
        let i = parts_term (Term.ParamRef name) h in
        rw i.read (param_term B span i.name i.spelled p k w (B.finds i.name i.spelled))
    term_right (Term.BinderRef name) span k p h d w =
        let i = parts_term (Term.BinderRef name) h in
        rw i.read (gensym_matches B (Term.Var (gensym_for maps name)) 27 i.name p i.spelled w refl)

    agg_right : (a : AggExpr) (k : ℕ) (p : Place) {P : Area} {es : List Entry} → At p (flat_agg a) → deep_agg node_weight a ≤ suc n → Written P es
        → WalkMatches T flat_agg P es (on_agg T W (state p P.out k) P.bytes (agg_at T.definition T.maps.definition p))
        (past (flat_agg a) p)
        (subst_temporal_agg maps a k)
    unfolding subst_temporal_condition open_outcome deep_condition is_node weigh flat_condition agg_node_in binders_in
    agg_right (AggExpr.Sum s v bs c) k p h d w =
        let i = parts_agg (AggExpr.Sum s v bs c) h in
        rw i.read (ending T i.runs.ends
        (copy_own_matches T (λ X. W.condition (binders_in T s (binder_slot_in T s X))) i.head w (λ Q x.
        bind_matches T (λ X. W.condition (binders_in T s X)) R.strict_condition _ (slot_matches B v s k i.runs.first x) (λ v' k₁ Q₁ e x₁.
        bind_matches T W.condition R.strict_condition _ (binders_matches B bs s k₁ i.runs.second x₁) (λ bs' k₂ Q₂ e₂ x₂.
        map_matches T (λ c'. AggExpr.Sum s v' bs' c') (λ c' k₃ e. simp append_assoc)
        (R.condition c k₂ i.runs.third (omega arith) x₂))))))
    agg_right (AggExpr.Count s bs c) k p h d w =
        let i = parts_agg (AggExpr.Count s bs c) h in
        rw i.read (ending T i.runs.ends
        (copy_own_matches T (λ X. W.condition (binders_in T s X)) i.head w (λ Q x.
        bind_matches T W.condition R.strict_condition _ (binders_matches B bs s k i.runs.first x) (λ bs' k₁ Q₁ e x₁.
        map_matches T (λ c'. AggExpr.Count s bs' c') (λ c' k₂ e. simp append_assoc) (R.condition c k₁ i.runs.second (omega arith) x₁)))))
    agg_right (AggExpr.AggCall s c) k p h d w = rw (parts_agg (AggExpr.AggCall s c) h).read (stops T (call_refusal_matches s))

  pub right : (n : ℕ) → Right (walkers T n) n
  unfolding walkers
  right zero =
      record {
        condition = λ c k h d w. absurd (deep_condition_lem c d);
        agg = λ a k h d w. absurd (deep_agg_lem a d);
        term = λ t span k h d w. absurd (deep_term_lem t d);
        strict_condition = λ r k bytes. refl;
        strict_term = λ span r k bytes. refl;
      }
  right (suc n) =
      record {
        condition = λ c k {p} h d w. condition_right (walkers T n) n (right n) c k p h d w;
        agg = λ a k {p} h d w. agg_right (walkers T n) n (right n) a k p h d w;
        term = λ t span k {p} h d w. term_right (walkers T n) n (right n) t span k p h d w;
        strict_condition = λ r k bytes. refl;
        strict_term = λ span r k bytes. refl;
      }
