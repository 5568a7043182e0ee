-- Where a condition stands, the walkers of an expansion write the entries of the expanded condition behind what was written, or refuse as
-- its definition does. By induction on the nesting that is left; each node is one clause.
-- Assumes nothing.
use Rattle.messages.specs.declared.Refused.{Refused}
use Rattle.std.proofs.Common.{Result, Ok}
use Prim.Native.Nat.{ℕ, zero, suc, ◌≤◌, ◌<◌}
use native.Mathlib.Omega.{arith}
use mathlib.Core.Path.{◌≡◌, refl, sym, ap, ◌∙◌}
use mathlib.Core.Bool.{Bool, true, false}
use mathlib.Core.List.{List, [], ◌∷◌, ◌++◌, append-nil, append_assoc}
use lib.Dec.{eqb}
use Rattle.format.specs.Entry.{Text, Entry, entry}
use Rattle.format.specs.Ast.{WithinSpec, Sigil, Condition, Term, AggExpr, Call, CallArg, CallArgs}
use Rattle.format.specs.Flat.{
  flat_texts,
  flat_within,
  flat_slot,
  flat_type,
  flat_binder,
  length_args,
  flat_condition,
  flat_term,
  flat_agg,
  flat_arg,
  flat_args,
}
use Rattle.format.proofs.Deep.{deep_condition_lem, deep_term_lem, deep_agg_lem}
use Rattle.format.specs.Limits.{is_node, node_weight, is_call, call_weight, weigh, deep_condition, deep_term, deep_agg, deep_call, deep_arg, deep_args}
use Rattle.definition.specs.Outcome.{refusal, Outcome, Walk as Walks, pure, proceed, ◌>>=◌, open_outcome}
use Rattle.definition.specs.Messages.{stray_condition, stray_operand}
use Rattle.definition.specs.Expand.{
  Registry,
  check_concrete_slot,
  check_concrete_binders,
  calls_value,
  as_agg,
  as_condition_arg,
  as_term_arg,
  expand_temporal_condition,
  expand_temporal_agg,
  expand_temporal_operand,
  expand_agg_operand,
  expand_temporal_call_to_value,
  expand_temporal_call_arg,
  expand_condition_arg,
}
use Rattle.tape.specs.Pick.{pick}
use Rattle.nodes.specs.Node.{expect_at, condition_at, term_at, agg_at, name_at}
use Rattle.nodes.specs.declared.Name.{Name}
use Rattle.tape.specs.declared.layout.Place.{Place}
use Rattle.tape.proofs.Located.{past, inside_front, inside_skip}
use Rattle.nodes.proofs.Entries.{is_entry, is_expected}
use Rattle.nodes.proofs.Placed.{binder_list, sigil_node, parts_condition, parts_term, parts_agg, parts_args, parts_arg}
use Rattle.tape.proofs.Passing.{Passes}
use Rattle.tape.proofs.Trees.{passes_condition, passes_term, passes_arg}
use Rattle.area.specs.Area.{Area}
use Rattle.messages.specs.Reason.{refused_at, message_of}
use Rattle.messages.specs.declared.Reason.TheVariants.{StrayCondition, StrayOperand}
use Rattle.walk_state.specs.Reading.{passed_in, behind_in}
use Rattle.walk_state.specs.Writing.{state, place_of}
use Rattle.subst_places.proofs.TreesWalk.{Written, rewritten, regrouped, all_of}
use Rattle.subst_places.proofs.TreesBound.{root_condition}
use Rattle.subst_places.proofs.TreesShape.{folded_shape}
use Rattle.area.proofs.Within.{within_put}
use Rattle.expand_stray.specs.Concrete.{concrete_within_in, concrete_binders_in, concrete_fields_in}
use Rattle.expand_calls.specs.Output.{Reads, Progress, copy_own_in, copy_own_after_in, shape_in, refold_in}
use Rattle.expand_calls.specs.Calls.{calls_value_in}
use Rattle.expand_walk.specs.Walkers.{
  Walkers,
  items_in,
  own_copied,
  own_copied_after,
  past_all,
  both_in,
  inner_in,
  since_in,
  refold,
  refine_in,
  sides_in,
  condition_arg_in,
  arg_in,
  value_arg_in,
  condition_node_in,
  operand_node_in,
  agg_node_in,
  on_condition,
  on_operand,
  on_agg,
  walkers,
}
use Rattle.expand_stray.proofs.TreesConcrete.{
  passes,
  refuses,
  chain,
  within_concrete,
  slot_concrete,
  binder_concrete,
  binders_concrete,
  fields_concrete,
}
use Rattle.expand_calls.proofs.TreesWalk.{
  going,
  Strict,
  Above,
  above_refl,
  above_within,
  above_trans,
  Room,
  room_part,
  room_for,
  Ready,
  Nothing,
  RefusalMatchesIn,
  WalkMatches,
  writes,
  stops,
  ending,
  reaching,
  since,
  also_matches,
  gives_behind,
  bind_matches,
  map_matches,
}
use Rattle.expand_calls.proofs.TreesWalk as given
use Rattle.expand_calls.proofs.TreesResolve.{Settled, calls_value_lem}
use Rattle.expand_walk.proofs.TreesCalls.{ArgsRight, condition_call, value_call}
use Rattle.expand_walk.proofs.TreesOwn.{
  put_written,
  At,
  Checks,
  copy_own_matches,
  check_matches,
  own_matches,
  refold_matches,
}

-- a refusal is handed on past all items
strict_items : (f : Progress → Progress) (n : ℕ) → Strict (items_in f n)
unfolding items_in
strict_items f zero r k work result = refl
strict_items f (suc n) r k work result = refl

-- an entry, and what follows it
past_next : (e : Entry) (es : List Entry) (p : Place) → past es (past (e ∷ []) p) ≡ past (e ∷ es) p
unfolding past
past_next e es p = refl

module _ {R : Reads} {reg : Registry} (S : Settled R reg) where
  -- the code of the condition that the one at a place came out as
  abbrev pub Shaped : Place → List ℕ → Condition → Type 0
  Shaped p result c = shape_in R.condition R.layout result p ≡ root_condition c

  -- a sigil outside a macro's body
  stray_condition_lem : (g : Sigil) (span : ℕ) (name : Name) {text : Text} → name_at R.condition R.layout name ≡ text
      → RefusalMatchesIn R (refused_at span (StrayCondition (sigil_node g) name)) (refusal 36 span (stray_condition g text))
  unfolding message_of
  stray_condition_lem Sigil.Param span name e = record { its_number = refl; its_span = refl; its_message = ap (stray_condition Sigil.Param) e }
  stray_condition_lem Sigil.Binder span name e = record { its_number = refl; its_span = refl; its_message = ap (stray_condition Sigil.Binder) e }

  stray_operand_lem : (g : Sigil) (name : Name) {text : Text} → name_at R.condition R.layout name ≡ text
      → RefusalMatchesIn R (refused_at 0 (StrayOperand (sigil_node g) name)) (refusal 40 0 (stray_operand g text))
  unfolding message_of
  stray_operand_lem Sigil.Param name e = record { its_number = refl; its_span = refl; its_message = ap (stray_operand Sigil.Param) e }
  stray_operand_lem Sigil.Binder name e = record { its_number = refl; its_span = refl; its_message = ap (stray_operand Sigil.Binder) e }

  -- past a tree
  passed_all : {p : Place} {es : List Entry} {sort : ℕ} {d : (ℕ → ℕ) → ℕ} {x : Bool} → At R p es → Passes (sort ∷ []) es d x → sort < 32
      → past_all R p sort ≡ Ok (past es p)
  unfolding passed_in
  passed_all h b m = rw (inside_skip h b m) refl

  -- the walkers are right about trees that are at most n deep
  pub record Right (W : Walkers) (n : ℕ) : Type 0 where
    pub condition : (c : Condition) (k : ℕ) {p : Place} {P : Area} {es : List Entry} {result : List ℕ} → At R p (flat_condition c)
        → deep_condition node_weight c ≤ n → Room P (deep_condition call_weight c) → Ready result → Written P es
        → WalkMatches R (Shaped p) flat_condition P es (W.condition (going p k P result)) (past (flat_condition c) p)
        (expand_temporal_condition reg c k)
    pub operand : (t : Term) (k : ℕ) {p : Place} {P : Area} {es : List Entry} {result : List ℕ} → At R p (flat_term t)
        → deep_term node_weight t ≤ n → Room P (deep_term call_weight t) → Ready result → Written P es
        → WalkMatches R Nothing flat_term P es (W.operand (going p k P result)) (past (flat_term t) p) (expand_temporal_operand reg t k)
    pub agg : (a : AggExpr) (k : ℕ) {p : Place} {P : Area} {es : List Entry} {result : List ℕ} → At R p (flat_term (Term.Agg a))
        → deep_agg node_weight a ≤ n → Room P (deep_agg call_weight a) → Ready result → Written P es
        → WalkMatches R Nothing flat_term P es (W.agg (state p P.out k) (past (entry 30 0 ∷ []) p) P.bytes result)
        (past (flat_term (Term.Agg a)) p) (expand_agg_operand reg a (expand_temporal_agg reg a) k)
    pub value_arg : (s : ℕ) (c : Call) (k : ℕ) {p q : Place} {P : Area} {es : List Entry} {result : List ℕ}
        → At R p (flat_condition (Condition.ConditionCall s c)) → deep_condition node_weight (Condition.ConditionCall s c) ≤ n
        → Room P (deep_call call_weight c) → Ready result → Written P es
        → WalkMatches R Nothing flat_arg P es (W.value_arg (state q P.out k) p P.bytes result) (past (flat_condition (Condition.ConditionCall s c)) p)
        (as_term_arg (expand_temporal_call_to_value reg c) k)
    pub fields : (span : ℕ) → W.fields span ≡ concrete_fields_in R.condition R.layout n span
    pub strict_condition : Strict W.condition
    pub strict_operand : Strict W.operand

  module _ (W : Walkers) (n : ℕ) (ih : Right W n) where
    -- -------------------------------------------------------------- arguments

    -- a condition stays one
    cond_arg : (c : Condition) (k : ℕ) (result : List ℕ) {p : Place} {P : Area} {es : List Entry}
        → At R p (flat_arg (CallArg.ConditionArg c)) → deep_condition node_weight c ≤ n → Room P (deep_condition call_weight c) → Ready result → Written P es
        → WalkMatches R Nothing flat_arg P es (inner_in R W (state p P.out k) (Ok (past (entry 55 0 ∷ []) p)) P.bytes result)
        (past (flat_arg (CallArg.ConditionArg c)) p) (as_condition_arg (expand_temporal_condition reg c) k)
    unfolding inner_in as_condition_arg open_outcome flat_condition
    cond_arg c k result {P = P} {es} h d room ready w =
        let i = parts_arg (CallArg.ConditionArg c) h in
        ending R i.runs.ends
        (copy_own_matches R W.condition i.head w (λ Q x a.
        map_matches R (λ c'. CallArg.ConditionArg c') (λ c' k₁ z e s. (append_assoc es (entry 55 0 ∷ []) (flat_condition c'), tt))
        (ih.condition c k i.runs.first d (room_for _ _ (omega arith) a room) ready x)))

    -- a term
    term_arg_lem : (t : Term) (k : ℕ) (result : List ℕ) {p : Place} {P : Area} {es : List Entry} → At R p (flat_arg (CallArg.TermArg t))
        → deep_term node_weight t ≤ n → Room P (deep_term call_weight t) → Ready result → Written P es
        → WalkMatches R Nothing flat_arg P es (W.operand (own_copied R (state p P.out k) (Ok (past (entry 56 0 ∷ []) p)) P.bytes result))
        (past (flat_arg (CallArg.TermArg t)) p) (as_term_arg (expand_temporal_operand reg t) k)
    unfolding as_term_arg open_outcome flat_condition
    term_arg_lem t k result {P = P} {es} h d room ready w =
        let i = parts_arg (CallArg.TermArg t) h in
        ending R i.runs.ends
        (copy_own_matches R W.operand i.head w (λ Q x a.
        map_matches R (λ t'. CallArg.TermArg t') (λ t' k₁ z e s. (append_assoc es (entry 56 0 ∷ []) (flat_term t'), tt))
        (ih.operand t k i.runs.first d (room_for _ _ (omega arith) a room) ready x)))

    -- "An argument that is a bare call of a value macro becomes a term."
    call_arg : (s : ℕ) (c : Call) (k : ℕ) (result : List ℕ) {p : Place} {P : Area} {es : List Entry}
        → At R p (flat_arg (CallArg.ConditionArg (Condition.ConditionCall s c))) → deep_condition node_weight (Condition.ConditionCall s c) ≤ n
        → Room P (deep_condition call_weight (Condition.ConditionCall s c)) → Ready result → Written P es → (b : Bool)
        → WalkMatches R Nothing flat_arg P es
        (pick b (W.value_arg (state p P.out k) (past (entry 55 0 ∷ []) p) P.bytes result)
        (inner_in R W (state p P.out k) (Ok (past (entry 55 0 ∷ []) p)) P.bytes result))
        (past (flat_arg (CallArg.ConditionArg (Condition.ConditionCall s c))) p)
        ((elim b as (λ (x : Bool). Walks CallArg) [ true ↦ as_term_arg (expand_temporal_call_to_value reg c) | false ↦ as_condition_arg (expand_temporal_condition reg (Condition.ConditionCall s c)) ]) k)
    unfolding deep_condition is_call weigh
    call_arg s c k result {P = P} h d room ready w true =
        let i = parts_arg (CallArg.ConditionArg (Condition.ConditionCall s c)) h in
        ending R i.runs.ends (ih.value_arg s c k i.runs.first d (room_part P _ _ (omega arith) room) ready w)
    call_arg s c k result h d room ready w false = cond_arg (Condition.ConditionCall s c) k result h d room ready w

    -- no other condition is a bare call
    other_arg : (c : Condition) (k : ℕ) (result : List ℕ) {e : Entry} {fs : List Entry} {p : Place} {P : Area} {es : List Entry}
        → flat_condition c ≡ e ∷ fs → eqb e.code 11 ≡ false
        → At R p (flat_arg (CallArg.ConditionArg c)) → deep_condition node_weight c ≤ n → Room P (deep_condition call_weight c) → Ready result → Written P es
        → WalkMatches R Nothing flat_arg P es (condition_arg_in R W (state p P.out k) (past (entry 55 0 ∷ []) p) P.bytes result)
        (past (flat_arg (CallArg.ConditionArg c)) p) (as_condition_arg (expand_temporal_condition reg c) k)
    unfolding condition_arg_in calls_value_in expect_at
    other_arg c k result {e} {fs} {p} f other h d room ready w =
        let i = parts_arg (CallArg.ConditionArg c) h in
        let first : At R (past (entry 55 0 ∷ []) p) (e ∷ fs) = rw (← f) i.runs.first in
        rw (is_entry first, other) (cond_arg c k result h d room ready w)

    arg_right : (a : CallArg) (k : ℕ) (result : List ℕ) {p : Place} {P : Area} {es : List Entry} → At R p (flat_arg a)
        → deep_arg node_weight a ≤ n → Room P (deep_arg call_weight a) → Ready result → Written P es
        → WalkMatches R Nothing flat_arg P es (arg_in R W (going p k P result)) (past (flat_arg a) p) (expand_temporal_call_arg reg a k)
    unfolding arg_in condition_arg_in expand_temporal_condition open_outcome deep_condition flat_condition
    arg_right (CallArg.TermArg t) k result h d room ready w =
        rw (parts_arg (CallArg.TermArg t) h).read (term_arg_lem t k result h d room ready w)
    arg_right (CallArg.WithinArg i) k result h d room ready w =
        rw ((parts_arg (CallArg.WithinArg i) h).read, passed_all h (passes_arg (CallArg.WithinArg i)) (omega arith))
        (own_matches R (CallArg.WithinArg i) h w refl ready tt)
    arg_right (CallArg.ConditionArg c) k result h d room ready w =
        rw (parts_arg (CallArg.ConditionArg c) h).read (go c k result h d room ready w)
      where
        go : (c : Condition) (k : ℕ) (result : List ℕ) {p : Place} {P : Area} {es : List Entry}
            → At R p (flat_arg (CallArg.ConditionArg c)) → deep_condition node_weight c ≤ n → Room P (deep_condition call_weight c) → Ready result
            → Written P es
            → WalkMatches R Nothing flat_arg P es (condition_arg_in R W (state p P.out k) (past (entry 55 0 ∷ []) p) P.bytes result)
            (past (flat_arg (CallArg.ConditionArg c)) p) (expand_condition_arg reg c (expand_temporal_condition reg c) k)
        go (Condition.And s l r) k result h d room ready w = other_arg (Condition.And s l r) k result refl refl h d room ready w
        go (Condition.Or s l r) k result h d room ready w = other_arg (Condition.Or s l r) k result refl refl h d room ready w
        go (Condition.Not s c) k result h d room ready w = other_arg (Condition.Not s c) k result refl refl h d room ready w
        go (Condition.Formerly s v c) k result h d room ready w = other_arg (Condition.Formerly s v c) k result refl refl h d room ready w
        go (Condition.Previous s v c) k result h d room ready w = other_arg (Condition.Previous s v c) k result refl refl h d room ready w
        go (Condition.Since s l v r) k result h d room ready w = other_arg (Condition.Since s l v r) k result refl refl h d room ready w
        go (Condition.Predicate s o ns a kd fs) k result h d room ready w =
            other_arg (Condition.Predicate s o ns a kd fs) k result refl refl h d room ready w
        go (Condition.Comparison s op l r) k result h d room ready w = other_arg (Condition.Comparison s op l r) k result refl refl h d room ready w
        go (Condition.Exists s b c) k result h d room ready w = other_arg (Condition.Exists s b c) k result refl refl h d room ready w
        go (Condition.Tp s v) k result h d room ready w = other_arg (Condition.Tp s v) k result refl refl h d room ready w
        go (Condition.SigilRef s g name) k result h d room ready w = other_arg (Condition.SigilRef s g name) k result refl refl h d room ready w
        go (Condition.Refine s o c fs) k result h d room ready w = other_arg (Condition.Refine s o c fs) k result refl refl h d room ready w
        go (Condition.ConditionCall s c) k result h d room ready w =
            rw (calls_value_lem S s c (parts_arg (CallArg.ConditionArg (Condition.ConditionCall s c)) h).runs.first)
            (call_arg s c k result h d room ready w (calls_value reg c))

    args_right : (args : CallArgs) → deep_args node_weight args ≤ n → ArgsRight R reg W args
    unfolding items_in expand_temporal_condition open_outcome deep_condition length_args flat_condition
    args_right CallArgs.no_args d P es result p k h room ready w =
        ending R (parts_args CallArgs.no_args h) (writes P result refl (rewritten (sym (append-nil es)) w) above_refl ready tt)
    args_right (CallArgs.cons_arg a rest) d P es result p k h room ready w =
        let runs = parts_args (CallArgs.cons_arg a rest) h in
        ending R runs.ends
        (bind_matches R (items_in (arg_in R W) (length_args rest)) (strict_items (arg_in R W) (length_args rest)) _
        (arg_right a k result runs.first (omega arith) (room_part P _ _ (omega arith) room) ready w)
        (λ a' k₁ Q z e x b ready₁ s.
        map_matches R (λ rest'. CallArgs.cons_arg a' rest') (λ rest' k₂ z e s. (append_assoc es (flat_arg a') (flat_args rest'), tt))
        (args_right rest (omega arith) Q (es ++ flat_arg a') z _ k₁ runs.second (room_for _ _ (omega arith) b room) ready₁ x)))

    -- -------------------------------------------------------------- conditions

    -- the within is looked at behind the left side, and its refusal comes first
    module _ (s : ℕ) (l : Condition) (v : WithinSpec) (e : Condition) (k : ℕ) (p : Place) (result : List ℕ) where
      abbrev left : Place
      left = past (entry 6 s ∷ []) p

      abbrev within : Place
      within = past (flat_condition l) left

      abbrev behind : Place
      behind = past (flat_within v ∷ []) within

      sides_right : {P Q : Area} {es : List Entry} {x : Result Place Refused} {o : Outcome (Unit {0})} → At R p (entry 6 s ∷ [])
          → WalkMatches R (Shaped left) flat_condition Q (es ++ entry 6 s ∷ []) (W.condition (going left k Q result)) within (expand_temporal_condition reg l k)
          → At R within (flat_within v ∷ []) → At R behind (flat_condition e) → Checks R k x behind o → deep_condition node_weight e ≤ n
          → Above P Q → Room P (deep_condition call_weight (Condition.Since s l v e))
          → WalkMatches R (Shaped p) flat_condition Q es (W.condition (own_copied_after R x k (W.condition (going left k Q result)))) (past (flat_condition e) behind)
          (proceed o (λ u. expand_temporal_condition reg l >>= λ l'. expand_temporal_condition reg e >>= λ e'. pure (Condition.Since s l' v e')))
      unfolding open_outcome flat_condition deep_condition is_call weigh copy_own_after_in copy_own_in shape_in root_condition
      sides_right h lw hv he (passes y) de a room =
          rw y
          (bind_matches R (λ X. W.condition (own_copied_after R (Ok behind) k X)) ih.strict_condition _ lw (λ l' k₁ Q₁ z e₁ x₁ a₁ ready₁ s₁.
          copy_own_matches R W.condition hv x₁ (λ Q₂ x₂ a₂.
          map_matches R (λ e'. Condition.Since s l' v e') (λ e' k₂ z₂ q₂ s₂. (simp append_assoc, rw (is_entry h)))
          (ih.condition e k₁ he de (room_for _ _ (omega arith) (above_trans a (above_trans a₁ a₂)) room) ready₁ x₂))))
      sides_right h lw hv he (refuses {f} y q) de a room = rw y (given.refuses _ _ (ih.strict_condition f k _ _) q)

      since_right : {P : Area} {es : List Entry} → At R p (entry 6 s ∷ []) → At R left (flat_condition l) → At R within (flat_within v ∷ [])
          → At R behind (flat_condition e) → deep_condition node_weight l ≤ n → deep_condition node_weight e ≤ n
          → Room P (deep_condition call_weight (Condition.Since s l v e)) → Ready result → Written P es
          → WalkMatches R (Shaped p) flat_condition P es (since_in R W s (state p P.out k) left P.bytes result) (past (flat_condition e) behind)
          (expand_temporal_condition reg (Condition.Since s l v e) k)
      unfolding since_in passed_in expand_temporal_condition open_outcome deep_condition
      since_right h hl hv he dl de room ready w =
          let found : Progress → (Result Place Refused) =
          λ X. concrete_within_in R.condition R.layout s (behind_in R.condition R.layout left (place_of X.walk)) in
          copy_own_matches R (λ X. W.condition (own_copied_after R (found (W.condition X)) k (W.condition X))) h w (λ Q x a.
          let lw = ih.condition l k {result = result} hl dl (room_for _ _ (omega arith) a room) ready x in
          rw (gives_behind R R.condition R.layout left lw (inside_skip hl (passes_condition l) (omega arith)))
          (sides_right h lw hv he (within_concrete v s k hv) de a room))

    condition_right : (c : Condition) (k : ℕ) (p : Place) (result : List ℕ) {P : Area} {es : List Entry} → At R p (flat_condition c)
        → deep_condition node_weight c ≤ suc n → Room P (deep_condition call_weight c) → Ready result → Written P es
        → WalkMatches R (Shaped p) flat_condition P es
        (on_condition R W (state p P.out k) P.bytes result (condition_at R.condition R.layout p)) (past (flat_condition c) p)
        (expand_temporal_condition reg c k)
    unfolding
        expand_temporal_condition open_outcome deep_condition is_node is_call weigh flat_texts flat_condition flat_binder condition_node_in both_in inner_in
        sides_in refine_in refold_in shape_in root_condition
    condition_right (Condition.And s l r) k p result {P} h d room ready w =
        let i = parts_condition (Condition.And s l r) h in
        rw i.read (ending R i.runs.ends
        (copy_own_matches R (λ X. W.condition (W.condition X)) i.head w (λ Q x a.
        bind_matches R W.condition ih.strict_condition _
        (ih.condition l k i.runs.first (omega arith) (room_for _ _ (omega arith) a room) ready x) (λ l' k₁ Q₁ z e x₁ a₁ ready₁ s₁.
        map_matches R (λ r'. Condition.And s l' r') (λ r' k₂ z e s₂. (simp append_assoc, rw (is_entry h)))
        (ih.condition r k₁ i.runs.second (omega arith) (room_for _ _ (omega arith) (above_trans a a₁) room) ready₁ x₁)))))
    condition_right (Condition.Or s l r) k p result h d room ready w =
        let i = parts_condition (Condition.Or s l r) h in
        rw i.read (ending R i.runs.ends
        (copy_own_matches R (λ X. W.condition (W.condition X)) i.head w (λ Q x a.
        bind_matches R W.condition ih.strict_condition _
        (ih.condition l k i.runs.first (omega arith) (room_for _ _ (omega arith) a room) ready x) (λ l' k₁ Q₁ z e x₁ a₁ ready₁ s₁.
        map_matches R (λ r'. Condition.Or s l' r') (λ r' k₂ z e s₂. (simp append_assoc, rw (is_entry h)))
        (ih.condition r k₁ i.runs.second (omega arith) (room_for _ _ (omega arith) (above_trans a a₁) room) ready₁ x₁)))))
    condition_right (Condition.Not s c) k p result h d room ready w =
        let i = parts_condition (Condition.Not s c) h in
        rw i.read (ending R i.runs.ends
        (copy_own_matches R W.condition i.head w (λ Q x a.
        map_matches R (λ c'. Condition.Not s c') (λ c' k₁ z e s₁. (simp append_assoc, rw (is_entry h)))
        (ih.condition c k i.runs.first (omega arith) (room_for _ _ (omega arith) a room) ready x))))
    condition_right (Condition.Formerly s v c) k p result h d room ready w =
        let i = parts_condition (Condition.Formerly s v c) h in
        rw i.read (ending R i.runs.ends
        (check_matches R W.condition ih.strict_condition _ (inside_front (entry 4 s ∷ flat_within v ∷ []) (flat_condition c) h)
        (past_next (entry 4 s) (flat_within v ∷ []) p) (within_concrete v s k i.runs.first) w (λ Q x a.
        map_matches R (λ c'. Condition.Formerly s v c') (λ c' k₁ z e s₁. (simp append_assoc, rw (is_entry h)))
        (ih.condition c k i.runs.second (omega arith) (room_for _ _ (omega arith) a room) ready x))))
    condition_right (Condition.Previous s v c) k p result h d room ready w =
        let i = parts_condition (Condition.Previous s v c) h in
        rw i.read (ending R i.runs.ends
        (check_matches R W.condition ih.strict_condition _ (inside_front (entry 5 s ∷ flat_within v ∷ []) (flat_condition c) h)
        (past_next (entry 5 s) (flat_within v ∷ []) p) (within_concrete v s k i.runs.first) w (λ Q x a.
        map_matches R (λ c'. Condition.Previous s v c') (λ c' k₁ z e s₁. (simp append_assoc, rw (is_entry h)))
        (ih.condition c k i.runs.second (omega arith) (room_for _ _ (omega arith) a room) ready x))))
    condition_right (Condition.Since s l v r) k p result h d room ready w =
        let i = parts_condition (Condition.Since s l v r) h in
        rw i.read (ending R i.runs.ends
        (since_right s l v r k p result i.head i.runs.first i.runs.second i.runs.third (omega arith) (omega arith) room ready w))
    condition_right (Condition.Predicate s o ns a kd fs) k p result h d room ready w =
        let i = parts_condition (Condition.Predicate s o ns a kd fs) h in
        rw (i.read, ih.fields s) (ending R i.runs.ends
        (check_matches R (λ X. X) (λ f k₁ work z. refl) _ h (sym i.runs.ends) (fields_concrete fs n s k i.runs.first (omega arith)) w
        (λ Q x a. writes Q result refl x above_refl ready (rw (is_entry h)))))
    condition_right (Condition.Tp s v) k p result h d room ready w =
        let i = parts_condition (Condition.Tp s v) h in
        rw i.read (ending R i.runs.ends
        (check_matches R (λ X. X) (λ f k₁ work z. refl) _ h (sym i.runs.ends) (slot_concrete v s k i.runs.first) w
        (λ Q x a. writes Q result refl x above_refl ready (rw (is_entry h)))))
    condition_right (Condition.Comparison s op l r) k p result h d room ready w =
        let i = parts_condition (Condition.Comparison s op l r) h in
        rw i.read (ending R i.runs.ends
        (copy_own_matches R (λ X. W.operand (W.operand X)) i.head w (λ Q x a.
        bind_matches R W.operand ih.strict_operand _
        (ih.operand l k i.runs.first (omega arith) (room_for _ _ (omega arith) a room) ready x) (λ l' k₁ Q₁ z e x₁ a₁ ready₁ s₁.
        map_matches R (λ r'. Condition.Comparison s op l' r') (λ r' k₂ z e s₂. (simp append_assoc, rw (is_entry h)))
        (ih.operand r k₁ i.runs.second (omega arith) (room_for _ _ (omega arith) (above_trans a a₁) room) ready₁ x₁)))))
    condition_right (Condition.Exists s b c) k p result h d room ready w =
        let i = parts_condition (Condition.Exists s b c) h in
        let slot = flat_slot b.slot in
        rw i.read (ending R i.runs.ends
        (check_matches R W.condition ih.strict_condition _ (inside_front (entry 9 s ∷ flat_binder b) (flat_condition c) h)
        (past_next slot (flat_type b.ty) (past (entry 9 s ∷ []) p) ∙ past_next (entry 9 s) (slot ∷ flat_type b.ty) p)
        (binder_concrete b s k i.runs.first i.runs.second) w (λ Q x a.
        map_matches R (λ c'. Condition.Exists s b c') (λ c' k₁ z e s₁. (simp append_assoc, rw (is_entry h)))
        (ih.condition c k i.runs.third (omega arith) (room_for _ _ (omega arith) a room) ready x))))
    condition_right (Condition.ConditionCall s (Call.MacroCall span name args)) k p result {P} h d room ready w =
        let i = parts_condition (Condition.ConditionCall s (Call.MacroCall span name args)) h in
        rw i.read (ending R i.runs.ends
        (also_matches R (λ c' k₁ z e x first. rw (is_entry h) first)
        (condition_call S W span name args i.runs.first (args_right args (omega arith)) result p k (room_part P _ _ (omega arith) room)
        ready w)))
    condition_right (Condition.SigilRef s Sigil.Param name) k p result h d room ready w =
        let i = parts_condition (Condition.SigilRef s Sigil.Param name) h in
        rw i.read (stops R (stray_condition_lem Sigil.Param s i.name i.spelled))
    condition_right (Condition.SigilRef s Sigil.Binder name) k p result h d room ready w =
        let i = parts_condition (Condition.SigilRef s Sigil.Binder name) h in
        rw i.read (stops R (stray_condition_lem Sigil.Binder s i.name i.spelled))
    condition_right (Condition.Refine s o c fs) k p result {P} h d room ready w =
        let i = parts_condition (Condition.Refine s o c fs) h in
        let base = past (entry 13 s ∷ entry 42 o ∷ []) p in
        rw i.read (ending R i.runs.ends
        (bind_matches R (refold R W o P.out.n base) (λ f k₁ work z. refl) _
        (ih.condition c k i.runs.first (omega arith) (room_part P _ _ (omega arith) room) ready w) (λ c' k₁ Q z e x a ready₁ shape.
        refold_matches R W c' fs o k₁ base (past (flat_condition c) base) shape i.runs.second w x ready₁ (λ c'' k₂ e₂.
        rw (is_entry h) (all_of (λ (c : Condition). 7 ≡ root_condition c) (folded_shape c' fs o k₁) e₂)))))

    -- -------------------------------------------------------------- operands

    operand_right : (t : Term) (k : ℕ) (p : Place) (result : List ℕ) {P : Area} {es : List Entry} → At R p (flat_term t)
        → deep_term node_weight t ≤ suc n → Room P (deep_term call_weight t) → Ready result → Written P es
        → WalkMatches R Nothing flat_term P es (on_operand R W (state p P.out k) P.bytes result (term_at R.condition R.layout p))
        (past (flat_term t) p) (expand_temporal_operand reg t k)
    unfolding expand_temporal_condition open_outcome deep_condition is_node is_call weigh flat_condition operand_node_in sides_in
    operand_right (Term.Entity ty id) k p result h d room ready w =
        rw (parts_term (Term.Entity ty id) h) (own_matches R (Term.Entity ty id) h w refl ready tt)
    operand_right (Term.Integer v) k p result h d room ready w =
        rw (parts_term (Term.Integer v) h) (own_matches R (Term.Integer v) h w refl ready tt)
    operand_right (Term.Decimal t) k p result h d room ready w =
        rw (parts_term (Term.Decimal t) h) (own_matches R (Term.Decimal t) h w refl ready tt)
    operand_right (Term.String t) k p result h d room ready w =
        rw (parts_term (Term.String t) h) (own_matches R (Term.String t) h w refl ready tt)
    operand_right (Term.Bool b) k p result h d room ready w =
        rw (parts_term (Term.Bool b) h) (own_matches R (Term.Bool b) h w refl ready tt)
    operand_right (Term.ContextField path) k p result h d room ready w =
        rw (parts_term (Term.ContextField path) h) (own_matches R (Term.ContextField path) h w refl ready tt)
    operand_right (Term.ScopeField path) k p result h d room ready w =
        rw (parts_term (Term.ScopeField path) h) (own_matches R (Term.ScopeField path) h w refl ready tt)
    operand_right (Term.Var name) k p result h d room ready w =
        rw (parts_term (Term.Var name) h).read (own_matches R (Term.Var name) h w refl ready tt)
    operand_right Term.Wildcard k p result h d room ready w =
        rw (parts_term Term.Wildcard h) (own_matches R Term.Wildcard h w refl ready tt)
    operand_right (Term.Array ts) k p result h d room ready w =
        rw ((parts_term (Term.Array ts) h).read, passed_all h (passes_term (Term.Array ts)) (omega arith))
        (own_matches R (Term.Array ts) h w refl ready tt)
    operand_right (Term.Agg a) k p result {P} h d room ready w =
        rw (parts_term (Term.Agg a) h).read (ih.agg a k h (omega arith) (room_part P _ _ (omega arith) room) ready w)
    operand_right (Term.Arith op l r) k p result h d room ready w =
        let i = parts_term (Term.Arith op l r) h in
        rw i.read (ending R i.runs.ends
        (copy_own_matches R (λ X. W.operand (W.operand X)) i.head w (λ Q x a.
        bind_matches R W.operand ih.strict_operand _
        (ih.operand l k i.runs.first (omega arith) (room_for _ _ (omega arith) a room) ready x) (λ l' k₁ Q₁ z e x₁ a₁ ready₁ s₁.
        map_matches R (λ r'. Term.Arith op l' r') (λ r' k₂ z e s₂. (simp append_assoc, tt))
        (ih.operand r k₁ i.runs.second (omega arith) (room_for _ _ (omega arith) (above_trans a a₁) room) ready₁ x₁)))))
    operand_right (Term.ParamRef name) k p result h d room ready w =
        let i = parts_term (Term.ParamRef name) h in
        rw i.read (stops R (stray_operand_lem Sigil.Param i.name i.spelled))
    operand_right (Term.BinderRef name) k p result h d room ready w =
        let i = parts_term (Term.BinderRef name) h in
        rw i.read (stops R (stray_operand_lem Sigil.Binder i.name i.spelled))

    -- the aggregate behind a 30, with the 30
    abbrev agg_entries : AggExpr → List Entry
    agg_entries a = entry 30 0 ∷ flat_agg a

    agg_right : (a : AggExpr) (k : ℕ) (p : Place) (result : List ℕ) {P : Area} {es : List Entry} → At R p (flat_term (Term.Agg a))
        → deep_agg node_weight a ≤ suc n → Room P (deep_agg call_weight a) → Ready result → Written P es
        → WalkMatches R Nothing flat_term P es
        (on_agg R W (state p P.out k) P.bytes result (agg_at R.condition R.layout (past (entry 30 0 ∷ []) p)))
        (past (flat_term (Term.Agg a)) p) (expand_agg_operand reg a (expand_temporal_agg reg a) k)
    unfolding expand_temporal_condition as_agg open_outcome deep_condition is_node is_call weigh flat_condition agg_node_in inner_in concrete_binders_in
    agg_right (AggExpr.Sum s v bs c) k p result {es = es} h d room ready w =
        let j = parts_term (Term.Agg (AggExpr.Sum s v bs c)) h in
        let i = parts_agg (AggExpr.Sum s v bs c) j.runs.first in
        let slot = flat_slot v in
        let own = entry 30 0 ∷ entry 34 s ∷ slot ∷ binder_list bs in
        let next = past (entry 30 0 ∷ []) p in
        rw i.read (ending R (j.runs.ends ∙ i.runs.ends)
        (map_matches R {Also = Nothing} {flat = agg_entries} {es = es} (λ a. Term.Agg a) (λ a k₁ z e s₁. (refl, tt))
        (reaching R (regrouped (check_concrete_slot v s k) (λ u. check_concrete_binders bs s) _)
        (check_matches R W.condition ih.strict_condition _ (inside_front own (flat_condition c) h)
        (past_next slot (binder_list bs) (past (entry 34 s ∷ []) next) ∙ past_next (entry 34 s) (slot ∷ binder_list bs) next
        ∙ past_next (entry 30 0) (entry 34 s ∷ slot ∷ binder_list bs) p)
        (chain (concrete_binders_in R.condition R.layout s) (λ f. refl) (check_concrete_binders bs s) (slot_concrete v s k i.runs.first)
        (binders_concrete bs s k i.runs.second))
        w (λ Q x a.
        map_matches R (λ c'. AggExpr.Sum s v bs c') (λ c' k₁ z e s₁. (append_assoc es own (flat_condition c'), tt))
        (ih.condition c k i.runs.third (omega arith) (room_for _ _ (omega arith) a room) ready x))))))
    agg_right (AggExpr.Count s bs c) k p result {es = es} h d room ready w =
        let j = parts_term (Term.Agg (AggExpr.Count s bs c)) h in
        let i = parts_agg (AggExpr.Count s bs c) j.runs.first in
        let own = entry 30 0 ∷ entry 35 s ∷ binder_list bs in
        let next = past (entry 30 0 ∷ []) p in
        rw i.read (ending R (j.runs.ends ∙ i.runs.ends)
        (map_matches R {Also = Nothing} {flat = agg_entries} {es = es} (λ a. Term.Agg a) (λ a k₁ z e s₁. (refl, tt))
        (check_matches R W.condition ih.strict_condition _ (inside_front own (flat_condition c) h)
        (past_next (entry 35 s) (binder_list bs) next ∙ past_next (entry 30 0) (entry 35 s ∷ binder_list bs) p)
        (binders_concrete bs s k i.runs.first) w (λ Q x a.
        map_matches R (λ c'. AggExpr.Count s bs c') (λ c' k₁ z e s₁. (append_assoc es own (flat_condition c'), tt))
        (ih.condition c k i.runs.second (omega arith) (room_for _ _ (omega arith) a room) ready x)))))
    agg_right (AggExpr.AggCall s (Call.MacroCall span name args)) k p result {P} h d room ready w =
        let j = parts_term (Term.Agg (AggExpr.AggCall s (Call.MacroCall span name args))) h in
        let i = parts_agg (AggExpr.AggCall s (Call.MacroCall span name args)) j.runs.first in
        rw i.read (ending R (j.runs.ends ∙ i.runs.ends)
        (value_call S W span name args i.runs.first (args_right args (omega arith)) result p k (room_part P _ _ (omega arith) room) ready
        w))

    -- a 56 takes the place of the 55
    value_arg_right : (s : ℕ) (c : Call) (k : ℕ) (p q : Place) (result : List ℕ) {P : Area} {es : List Entry}
        → At R p (flat_condition (Condition.ConditionCall s c)) → deep_condition node_weight (Condition.ConditionCall s c) ≤ suc n
        → Room P (deep_call call_weight c) → Ready result → Written P es
        → WalkMatches R Nothing flat_arg P es (value_arg_in R W (state q P.out k) p P.bytes result)
        (past (flat_condition (Condition.ConditionCall s c)) p) (as_term_arg (expand_temporal_call_to_value reg c) k)
    unfolding as_term_arg open_outcome deep_condition is_node is_call weigh flat_condition value_arg_in
    value_arg_right s (Call.MacroCall span name args) k p q result {P} {es} h d room ready w =
        let i = parts_condition (Condition.ConditionCall s (Call.MacroCall span name args)) h in
        let a = above_within (within_put 56 0 P) in
        rw (is_expected h) (ending R i.runs.ends
        (since R a
        (map_matches R (λ t. CallArg.TermArg t) (λ t k₁ z e s₁. (append_assoc es (entry 56 0 ∷ []) (flat_term t), tt))
        (value_call S W span name args i.runs.first (args_right args (omega arith)) result p k (room_for _ _ (omega arith) a room) ready
        (put_written 56 0 (omega arith) w)))))

  pub right : (n : ℕ) → Right (walkers R n) n
  unfolding walkers
  right zero =
      record {
        condition = λ c k h d room ready w. absurd (deep_condition_lem c d);
        operand = λ t k h d room ready w. absurd (deep_term_lem t d);
        agg = λ a k h d room ready w. absurd (deep_agg_lem a d);
        value_arg = λ s c k h d room ready w. absurd (deep_condition_lem (Condition.ConditionCall s c) d);
        fields = λ span. refl;
        strict_condition = λ f k work result. refl;
        strict_operand = λ f k work result. refl;
      }
  right (suc n) =
      record {
        condition = λ c k {p} {P} {es} {result} h d room ready w. condition_right (walkers R n) n (right n) c k p result h d room ready w;
        operand = λ t k {p} {P} {es} {result} h d room ready w. operand_right (walkers R n) n (right n) t k p result h d room ready w;
        agg = λ a k {p} {P} {es} {result} h d room ready w. agg_right (walkers R n) n (right n) a k p result h d room ready w;
        value_arg = λ s c k {p} {q} {P} {es} {result} h d room ready w. value_arg_right (walkers R n) n (right n) s c k p q result h d room ready w;
        fields = λ span. refl;
        strict_condition = λ f k work result. refl;
        strict_operand = λ f k work result. refl;
      }
