-- What a substitution charges and how large its result is, by the entries of the body: the walk behind specs/ArgumentSize.antt.
-- Assumes nothing.
use Prim.Native.Nat.{ℕ, ◌+◌}
use native.Mathlib.Omega.{arith}
use mathlib.Core.Path.{◌≡◌, refl, sym, ◌∙◌}
use mathlib.Core.List.{List, [], ◌∷◌, ◌++◌}
use mathlib.Core.Bool.{Bool, true, false, not}
use mathlib.Core.Option.{Option, none, some}
use lib.Dec.{T, eqb, leb}
use lib.ListN.{length}
use Rattle.format.specs.Entry.{Text, Entry, entry, text_entry}
use Rattle.format.specs.Ast.{TimeUnit, WithinSpec, BinderSlot, BinderType, TypedBinder, Sigil, Condition, Term, AggExpr, Call, CallArg, CallArgs, NamedArgs, Terms, Tree, MacroParam, MacroBody, MacroDef, args_of}
use Rattle.format.specs.Flat.{flat_texts, flat_unit, flat_interval, flat_within, flat_slot, flat_type, flat_binder, flat_binders, flat_sigil, flat_condition, flat_term, flat_agg, flat_fields, flat_terms, flat_tree, flat_body, length_fields}
use Rattle.format.specs.Limits.{is_node, weigh, too_large_tree}
use Rattle.format.specs.Macro.{is_code}
use Rattle.format.proofs.Tests.{or_none}
use Rattle.definition.specs.Outcome.{Refusal, refusal, Outcome, Walk, pure, refuse, ◌>>=◌, ◌>>◌}
use Rattle.definition.specs.Messages.{budget_exceeded, argument_count, unbound_parameter, not_an_identifier}
use Rattle.definition.specs.Size.{size, body_size, call_arg_size, nodes_condition}
use Rattle.definition.specs.Substitute.{charge, charge_body, check_arity, check_limits, SubstMaps, maps_of, lookup, arg_for, charge_paste, paste_condition, paste_term, paste_within, identifier, paste_slot, subst_binder_slot, subst_binder, subst_binders, subst_within, subst_sigil_ref, append_fields, fold_refine, subst_temporal_condition, subst_temporal_agg, subst_temporal_term, subst_temporal_terms, subst_temporal_fields, substitute_temporal_condition, substitute_temporal_value, substitute_body, substitute}
use Rattle.definition.specs.ArgumentSize.{is_place, total, size_found, pasted, is_resolved, resolved}
use Rattle.definition.proofs.Good.{Good, good_done, good_refused, step, weaken}
use Rattle.definition.proofs.Size.{size_append, size_condition, size_fields}

-- a refusal is not 0, and of a value P
abbrev AnswersRefusal : Refusal → ℕ → Type 0
AnswersRefusal r n = T (not (eqb r.number 0))

abbrev pub Yields : {A : Type 0} → (A → ℕ → Type 0) → Outcome A → Type 0
Yields P o = Good AnswersRefusal P o

total_append : (f : Entry → ℕ) (es fs : List Entry) → total f (es ++ fs) ≡ total f es + total f fs
unfolding total
total_append f [] fs = omega arith
total_append f (e ∷ es) fs = omega (arith, total_append f es fs)

pasted_append : (ps : List MacroParam) (args : CallArgs) (es fs : List Entry) → pasted ps args (es ++ fs) ≡ pasted ps args es + pasted ps args fs
unfolding pasted
pasted_append ps args es fs = total_append _ es fs

resolved_append : (es fs : List Entry) → resolved (es ++ fs) ≡ resolved es + resolved fs
unfolding resolved
resolved_append es fs = total_append _ es fs

-- ------------------------------------------------------------------ the budget and the limits

-- nothing is charged
abbrev Same : {A : Type 0} → ℕ → A → ℕ → Type 0
Same n a m = m ≡ n

yields_charge : (limit k span n : ℕ) → Yields (λ (u : Unit {0}) m. m ≡ n + k) (charge limit k span n)
unfolding charge
yields_charge limit k span n = go (leb (n + k) limit)
  where
    go : (b : Bool) → Yields (λ (u : Unit {0}) m. m ≡ n + k) (elim b [
      | true ↦ Outcome.done tt (n + k)
      | false ↦ Outcome.refused (refusal 35 span (budget_exceeded limit)) n
    ])
    go true = good_done refl
    go false = good_refused tt

yields_arity : (def : MacroDef) (got span n : ℕ) → Yields (Same n) (check_arity def got span n)
unfolding check_arity
yields_arity def got span n = go (eqb (length def.params) got)
  where
    go : (b : Bool) → Yields (Same n) ((elim b as (λ x. Walk (Unit {0})) [
      | true ↦ pure tt
      | false ↦ refuse 34 span (argument_count def.name (length def.params) got)
    ]) n)
    go true = good_done refl
    go false = good_refused tt

yields_limits : (large : Bool) (span n : ℕ) → Yields (λ (u : Unit {0}) m. (m ≡ n) × (large ≡ false)) (check_limits large span n)
unfolding check_limits
yields_limits true span n = good_refused tt
yields_limits false span n = good_done (refl, refl)

-- ------------------------------------------------------------------ what counts nothing

quiet_unit : (u : TimeUnit) → (is_resolved (flat_unit u) ≡ false) × (is_node (flat_unit u) ≡ false)
unfolding flat_unit is_resolved is_place is_code is_node
quiet_unit TimeUnit.Seconds = (refl, refl)
quiet_unit TimeUnit.Minutes = (refl, refl)
quiet_unit TimeUnit.Hours = (refl, refl)
quiet_unit TimeUnit.Days = (refl, refl)
quiet_unit TimeUnit.Weeks = (refl, refl)

quiet_within : (w : WithinSpec) → (is_resolved (flat_within w).code ≡ false) × (is_node (flat_within w).code ≡ false)
unfolding flat_within flat_interval is_resolved is_place is_code is_node
quiet_within (WithinSpec.Concrete i) = quiet_unit i.unit
quiet_within (WithinSpec.ParamRef k) = (refl, refl)

quiet_slot : (v : BinderSlot) → (is_resolved (flat_slot v).code ≡ false) × (is_node (flat_slot v).code ≡ false)
unfolding flat_slot is_resolved is_place is_code is_node
quiet_slot (BinderSlot.Name k) = (refl, refl)
quiet_slot (BinderSlot.ParamRef k) = (refl, refl)
quiet_slot (BinderSlot.BinderRef k) = (refl, refl)

-- ------------------------------------------------------------------ refinements

-- a refinement: the fields of the predicate and those that are appended
size_append_fields : (fs gs : NamedArgs) → size (flat_fields (append_fields fs gs)) ≡ size (flat_fields fs) + size (flat_fields gs)
unfolding append_fields flat_fields size
size_append_fields NamedArgs.no_fields gs = omega arith
size_append_fields (NamedArgs.cons_field k t fs) gs =
    omega (arith, size_append (flat_term t) (flat_fields fs), size_append (flat_term t) (flat_fields (append_fields fs gs)), size_append_fields fs gs)

size_predicate : (s o : ℕ) (ns : List Text) (a k : Text) (fs : NamedArgs)
    → size (flat_condition (Condition.Predicate s o ns a k fs)) ≡ 1 + size (flat_fields fs)
unfolding nodes_condition
size_predicate s o ns a k fs = omega (arith, size_condition (Condition.Predicate s o ns a k fs), size_fields fs)

size_folded : (s o : ℕ) (ns : List Text) (a k : Text) (fs gs : NamedArgs)
    → size (flat_condition (Condition.Predicate s o ns a k (append_fields fs gs)))
    ≡ size (flat_condition (Condition.Predicate s o ns a k fs)) + size (flat_fields gs)
size_folded s o ns a k fs gs =
    omega (arith, size_predicate s o ns a k fs, size_predicate s o ns a k (append_fields fs gs), size_append_fields fs gs)

yields_refine : (c : Condition) (gs : NamedArgs) (o n : ℕ)
    → Yields (λ (c' : Condition) m. (m ≡ n) × (size (flat_condition c') ≡ size (flat_condition c) + size (flat_fields gs))) (fold_refine c gs o n)
unfolding fold_refine
yields_refine (Condition.Predicate s q ns a k fs) gs o n = good_done (refl, size_folded s q ns a k fs gs)
yields_refine (Condition.And s l r) gs o n = good_refused tt
yields_refine (Condition.Or s l r) gs o n = good_refused tt
yields_refine (Condition.Not s c) gs o n = good_refused tt
yields_refine (Condition.Formerly s w c) gs o n = good_refused tt
yields_refine (Condition.Previous s w c) gs o n = good_refused tt
yields_refine (Condition.Since s l w r) gs o n = good_refused tt
yields_refine (Condition.Comparison s op l r) gs o n = good_refused tt
yields_refine (Condition.Exists s b c) gs o n = good_refused tt
yields_refine (Condition.Tp s v) gs o n = good_refused tt
yields_refine (Condition.ConditionCall s c) gs o n = good_refused tt
yields_refine (Condition.SigilRef s h k) gs o n = good_refused tt
yields_refine (Condition.Refine s q c fs) gs o n = good_refused tt

-- ------------------------------------------------------------------ the walk

module _ (maps : SubstMaps) where
  -- Entries of the body became entries of the result: what was charged meanwhile, and how the sizes changed.
  record Spent (es es' : List Entry) (n n' : ℕ) : Type 0 where
    charges : n' ≡ n + pasted maps.params maps.args es
    sizes : n' + size es ≡ n + (size es' + resolved es)

  spent_nil : (n : ℕ) → Spent [] [] n n
  unfolding pasted resolved total size
  spent_nil n = record { charges = omega arith; sizes = omega arith }

  spent_append : {es es' fs fs' : List Entry} {n n₁ n₂ : ℕ} → Spent es es' n n₁ → Spent fs fs' n₁ n₂ → Spent (es ++ fs) (es' ++ fs') n n₂
  spent_append {es} {es'} {fs} {fs'} p q =
      record {
        charges = omega (arith, pasted_append maps.params maps.args es fs);
        sizes = omega (arith, resolved_append es fs, size_append es fs, size_append es' fs');
      }

  -- one entry in front, with nothing to paste and nothing to resolve
  spent_cons : {e e' : Entry} {es es' : List Entry} {n n' : ℕ} → is_resolved e.code ≡ false → is_node e.code ≡ is_node e'.code
      → Spent es es' n n' → Spent (e ∷ es) (e' ∷ es') n n'
  unfolding pasted resolved total size weigh size_found is_resolved
  spent_cons {e} {e'} h k p =
      record {
        charges = rw (or_none (is_place e.code) _ h, pasted) (omega arith);
        sizes = rw (h, k, resolved, size) (omega arith);
      }

  -- ------------------------------------------------------------------ what counts nothing

  spent_texts : (ts : List Text) (n : ℕ) → Spent (flat_texts ts) (flat_texts ts) n n
  unfolding flat_texts is_resolved is_place is_code is_node
  spent_texts [] n = spent_nil n
  spent_texts (t ∷ ts) n = spent_cons refl refl (spent_texts ts n)

  spent_type : (t : BinderType) (n : ℕ) → Spent (flat_type t) (flat_type t) n n
  unfolding flat_type is_resolved is_place is_code is_node
  spent_type BinderType.Timepoint n = spent_cons refl refl (spent_nil n)
  spent_type (BinderType.Named path) n = spent_cons refl refl (spent_texts path n)

  -- whatever within or slot takes the place of another
  spent_within : (w w' : WithinSpec) {es es' : List Entry} {n n' : ℕ} → Spent es es' n n' → Spent (flat_within w ∷ es) (flat_within w' ∷ es') n n'
  spent_within w w' p = spent_cons (quiet_within w).0 ((quiet_within w).1 ∙ sym (quiet_within w').1) p

  spent_slot : (v v' : BinderSlot) {es es' : List Entry} {n n' : ℕ} → Spent es es' n n' → Spent (flat_slot v ∷ es) (flat_slot v' ∷ es') n n'
  spent_slot v v' p = spent_cons (quiet_slot v).0 ((quiet_slot v).1 ∙ sym (quiet_slot v').1) p

  -- ------------------------------------------------------------------ the places

  yields_arg_for : (name : Text) (span n : ℕ)
      → Yields (λ (a : CallArg) m. (m ≡ n) × (lookup maps.params maps.args name ≡ some a)) (arg_for maps name span n)
  unfolding arg_for
  yields_arg_for name span n = go (lookup maps.params maps.args name)
    where
      go : (o : Option CallArg) → Yields (λ (a : CallArg) m. (m ≡ n) × (o ≡ some a)) ((elim o as (λ x. Walk CallArg) [
        | some a ↦ pure a
        | none ↦ refuse 41 span (unbound_parameter maps.macro_name name)
      ]) n)
      go (some a) = good_done (refl, refl)
      go none = good_refused tt

  yields_paste_condition : (span : ℕ) (name : Text) (a : CallArg) (n : ℕ)
      → Yields (λ (c : Condition) m. m ≡ n + call_arg_size a × (call_arg_size a ≡ size (flat_condition c))) (paste_condition maps span name a n)
  unfolding paste_condition charge_paste call_arg_size ◌>>=◌ ◌>>◌
  yields_paste_condition span name (CallArg.ConditionArg c) n = step (yields_charge _ _ _ n) λ u m e. good_done (e, refl)
  yields_paste_condition span name (CallArg.TermArg t) n = good_refused tt
  yields_paste_condition span name (CallArg.WithinArg i) n = good_refused tt

  yields_paste_term : (span : ℕ) (name : Text) (a : CallArg) (n : ℕ)
      → Yields (λ (t : Term) m. m ≡ n + call_arg_size a × (call_arg_size a ≡ size (flat_term t))) (paste_term maps span name a n)
  unfolding paste_term charge_paste call_arg_size ◌>>=◌ ◌>>◌
  yields_paste_term span name (CallArg.TermArg t) n = step (yields_charge _ _ _ n) λ u m e. good_done (e, refl)
  yields_paste_term span name (CallArg.ConditionArg c) n = good_refused tt
  yields_paste_term span name (CallArg.WithinArg i) n = good_refused tt

  yields_paste_within : (span : ℕ) (name : Text) (a : CallArg) (n : ℕ) → Yields (Same n) (paste_within maps span name a n)
  unfolding paste_within
  yields_paste_within span name (CallArg.WithinArg i) n = good_done refl
  yields_paste_within span name (CallArg.ConditionArg c) n = good_refused tt
  yields_paste_within span name (CallArg.TermArg t) n = good_refused tt

  yields_paste_slot : (name : Text) (a : CallArg) (n : ℕ) → Yields (Same n) (paste_slot maps name a n)
  unfolding paste_slot
  yields_paste_slot name a n = go (identifier a)
    where
      go : (i : Option Text) → Yields (Same n) ((elim i as (λ x. Walk BinderSlot) [
        | some k ↦ pure (BinderSlot.Name k)
        | none ↦ refuse 46 maps.call_span (not_an_identifier maps.macro_name name)
      ]) n)
      go (some k) = good_done refl
      go none = good_refused tt

  -- ------------------------------------------------------------------ slots, intervals, sigils, refinements

  yields_slot : (v : BinderSlot) (span n : ℕ) → Yields (Same n) (subst_binder_slot maps v span n)
  unfolding subst_binder_slot ◌>>=◌
  yields_slot (BinderSlot.Name k) span n = good_done refl
  yields_slot (BinderSlot.ParamRef k) span n = step (yields_arg_for k span n) λ a m e. rw (← e.0) (yields_paste_slot k a m)
  yields_slot (BinderSlot.BinderRef k) span n = good_done refl

  yields_within : (w : WithinSpec) (span n : ℕ) → Yields (Same n) (subst_within maps w span n)
  unfolding subst_within ◌>>=◌
  yields_within (WithinSpec.Concrete i) span n = good_done refl
  yields_within (WithinSpec.ParamRef k) span n = step (yields_arg_for k span n) λ a m e. rw (← e.0) (yields_paste_within span k a m)

  -- entries of the body, and the outcome that takes their place
  abbrev Becomes : {A : Type 0} → List Entry → (A → List Entry) → ℕ → Outcome A → Type 0
  Becomes es flat n o = Yields (λ a n'. Spent es (flat a) n n') o

  spent_binder : (b : TypedBinder) (span n : ℕ) → Becomes (flat_binder b) flat_binder n (subst_binder maps b span n)
  unfolding subst_binder ◌>>=◌ flat_binder
  spent_binder b span n = step (yields_slot b.slot span n) λ v m e. rw e (good_done (spent_slot b.slot v (spent_type b.ty n)))

  spent_binders : (bs : List TypedBinder) (span n : ℕ) → Becomes (flat_binders bs) flat_binders n (subst_binders maps bs span n)
  unfolding subst_binders ◌>>=◌ flat_binders
  spent_binders [] span n = good_done (spent_nil n)
  spent_binders (b ∷ bs) span n =
      step (spent_binder b span n) λ v n₁ p.
      step (spent_binders bs span n₁) λ vs n₂ q.
      good_done (spent_append p q)

  -- a place takes its argument
  spent_sigil : (span : ℕ) (g : Sigil) (k : Text) (n : ℕ)
      → Becomes (entry 12 span ∷ text_entry (flat_sigil g) k ∷ []) flat_condition n (subst_sigil_ref maps span g k n)
  unfolding subst_sigil_ref flat_sigil ◌>>=◌ pasted resolved total size is_resolved is_place is_code is_node weigh size_found
  spent_sigil span Sigil.Param k n =
      step (yields_arg_for k span n) λ a m e.
      let found : size_found (is_place 58) (lookup maps.params maps.args k) ≡ call_arg_size a = rw e.1 refl in
      weaken (λ c m₁ f. record { charges = omega (arith, found, e.0, f.0); sizes = omega (arith, e.0, f.0, f.1) })
      (yields_paste_condition span k a m)
  spent_sigil span Sigil.Binder k n = good_refused tt

  spent_param : (k : Text) (span n : ℕ) → Becomes (text_entry 32 k ∷ []) flat_term n (subst_temporal_term maps (Term.ParamRef k) span n)
  unfolding subst_temporal_term ◌>>=◌ pasted resolved total size is_resolved is_place is_code is_node weigh size_found
  spent_param k span n =
      step (yields_arg_for k span n) λ a m e.
      let found : size_found (is_place 32) (lookup maps.params maps.args k) ≡ call_arg_size a = rw e.1 refl in
      weaken (λ t m₁ f. record { charges = omega (arith, found, e.0, f.0); sizes = omega (arith, e.0, f.0, f.1) })
      (yields_paste_term span k a m)

  -- the base, the fields and what both came to: the refinement itself is resolved
  spent_refine : (s o : ℕ) (c c' c'' : Condition) (fs fs' : NamedArgs) {n n₁ n₂ : ℕ}
      → Spent (flat_condition c) (flat_condition c') n n₁ → Spent (flat_fields fs) (flat_fields fs') n₁ n₂
      → size (flat_condition c'') ≡ size (flat_condition c') + size (flat_fields fs')
      → Spent (flat_condition (Condition.Refine s o c fs)) (flat_condition c'') n n₂
  unfolding flat_condition pasted resolved total size is_resolved is_place is_code is_node weigh size_found
  spent_refine s o c c' c'' fs fs' p q e =
      let more : List Entry = entry 41 (length_fields fs) ∷ flat_fields fs in
      record {
        charges = omega (arith, pasted_append maps.params maps.args (flat_condition c) more);
        sizes = omega (arith, resolved_append (flat_condition c) more, size_append (flat_condition c) more);
      }

  -- ------------------------------------------------------------------ the trees

  mutual
    unfolding subst_temporal_condition ◌>>=◌ flat_condition flat_sigil is_resolved is_place is_code is_node

    spent_condition : (c : Condition) (n : ℕ) → Becomes (flat_condition c) flat_condition n (subst_temporal_condition maps c n)
    spent_condition (Condition.SigilRef s g k) n = spent_sigil s g k n
    spent_condition (Condition.And s l r) n =
        step (spent_condition l n) λ l' n₁ p.
        step (spent_condition r n₁) λ r' n₂ q.
        good_done (spent_cons refl refl (spent_append p q))
    spent_condition (Condition.Or s l r) n =
        step (spent_condition l n) λ l' n₁ p.
        step (spent_condition r n₁) λ r' n₂ q.
        good_done (spent_cons refl refl (spent_append p q))
    spent_condition (Condition.Not s c) n = step (spent_condition c n) λ c' n₁ p. good_done (spent_cons refl refl p)
    spent_condition (Condition.Formerly s w c) n =
        step (yields_within w s n) λ w' m e. rw e
        (step (spent_condition c n) λ c' n₁ p. good_done (spent_cons refl refl (spent_within w w' p)))
    spent_condition (Condition.Previous s w c) n =
        step (yields_within w s n) λ w' m e. rw e
        (step (spent_condition c n) λ c' n₁ p. good_done (spent_cons refl refl (spent_within w w' p)))
    spent_condition (Condition.Since s l w r) n =
        step (yields_within w s n) λ w' m e. rw e
        (step (spent_condition l n) λ l' n₁ p.
        step (spent_condition r n₁) λ r' n₂ q.
        good_done (spent_cons refl refl (spent_append p (spent_within w w' q))))
    spent_condition (Condition.Predicate s o ns a k fs) n =
        step (spent_fields fs s n) λ fs' n₁ p.
        good_done
        (spent_cons refl refl (spent_cons refl refl (spent_cons refl refl
        (spent_append (spent_texts ns n) (spent_cons refl refl (spent_cons refl refl (spent_cons refl refl p)))))))
    spent_condition (Condition.Comparison s op l r) n =
        step (spent_term l s n) λ l' n₁ p.
        step (spent_term r s n₁) λ r' n₂ q.
        good_done (spent_cons refl refl (spent_cons refl refl (spent_append p q)))
    spent_condition (Condition.Tp s v) n =
        step (yields_slot v s n) λ v' m e. rw e (good_done (spent_cons refl refl (spent_slot v v' (spent_nil n))))
    spent_condition (Condition.Exists s b c) n =
        step (spent_binder b s n) λ b' n₁ p.
        step (spent_condition c n₁) λ c' n₂ q.
        good_done (spent_cons refl refl (spent_append p q))
    spent_condition (Condition.Refine s o c fs) n =
        step (spent_condition c n) λ c' n₁ p.
        step (spent_fields fs s n₁) λ fs' n₂ q.
        weaken (λ c'' m e. rw e.0 (spent_refine s o c c' c'' fs fs' p q e.1)) (yields_refine c' fs' o n₂)
    spent_condition (Condition.ConditionCall s c) n = good_refused tt

    spent_agg : (a : AggExpr) (n : ℕ) → Becomes (flat_agg a) flat_agg n (subst_temporal_agg maps a n)
    spent_agg (AggExpr.Sum s v bs c) n =
        step (yields_slot v s n) λ v' m e. rw e
        (step (spent_binders bs s n) λ bs' n₁ p.
        step (spent_condition c n₁) λ c' n₂ q.
        good_done (spent_cons refl refl (spent_slot v v' (spent_cons refl refl (spent_append p q)))))
    spent_agg (AggExpr.Count s bs c) n =
        step (spent_binders bs s n) λ bs' n₁ p.
        step (spent_condition c n₁) λ c' n₂ q.
        good_done (spent_cons refl refl (spent_cons refl refl (spent_append p q)))
    spent_agg (AggExpr.AggCall s c) n = good_refused tt

    spent_term : (t : Term) (s n : ℕ) → Becomes (flat_term t) flat_term n (subst_temporal_term maps t s n)
    spent_term (Term.ParamRef k) s n = spent_param k s n
    spent_term (Term.BinderRef k) s n = good_done (spent_cons refl refl (spent_nil n))
    spent_term (Term.Array ts) s n = step (spent_terms ts s n) λ ts' n₁ p. good_done (spent_cons refl refl p)
    spent_term (Term.Agg a) s n = step (spent_agg a n) λ a' n₁ p. good_done (spent_cons refl refl p)
    spent_term (Term.Arith op l r) s n =
        step (spent_term l s n) λ l' n₁ p.
        step (spent_term r s n₁) λ r' n₂ q.
        good_done (spent_cons refl refl (spent_append p q))
    spent_term (Term.Entity ty id) s n = good_done (spent_cons refl refl (spent_cons refl refl (spent_cons refl refl (spent_nil n))))
    spent_term (Term.Integer k) s n = good_done (spent_cons refl refl (spent_nil n))
    spent_term (Term.Decimal t) s n = good_done (spent_cons refl refl (spent_nil n))
    spent_term (Term.String t) s n = good_done (spent_cons refl refl (spent_nil n))
    spent_term (Term.Bool b) s n = good_done (spent_cons refl refl (spent_nil n))
    spent_term (Term.ContextField path) s n = good_done (spent_cons refl refl (spent_texts path n))
    spent_term (Term.ScopeField path) s n = good_done (spent_cons refl refl (spent_texts path n))
    spent_term (Term.Var k) s n = good_done (spent_cons refl refl (spent_nil n))
    spent_term Term.Wildcard s n = good_done (spent_cons refl refl (spent_nil n))

    spent_terms : (ts : Terms) (s n : ℕ) → Becomes (flat_terms ts) flat_terms n (subst_temporal_terms maps ts s n)
    spent_terms Terms.no_terms s n = good_done (spent_nil n)
    spent_terms (Terms.cons_term t ts) s n =
        step (spent_term t s n) λ t' n₁ p.
        step (spent_terms ts s n₁) λ ts' n₂ q.
        good_done (spent_append p q)

    spent_fields : (fs : NamedArgs) (s n : ℕ) → Becomes (flat_fields fs) flat_fields n (subst_temporal_fields maps fs s n)
    spent_fields NamedArgs.no_fields s n = good_done (spent_nil n)
    spent_fields (NamedArgs.cons_field k t fs) s n =
        step (spent_term t s n) λ t' n₁ p.
        step (spent_fields fs s n₁) λ fs' n₂ q.
        good_done (spent_cons refl refl (spent_append p q))

-- ------------------------------------------------------------------ the operation

-- of a tree that is answered: the two accounts of what was charged, and that it fits
pub record Answered (body : MacroBody) (ps : List MacroParam) (args : CallArgs) (t : Tree) (charged : ℕ) : Type 0 where
  pub body_and_pasted : charged ≡ body_size body + pasted ps args (flat_body body)
  pub result_and_resolved : charged ≡ size (flat_tree t) + resolved (flat_body body)
  pub fits : too_large_tree t ≡ false

module _ (maps : SubstMaps) where
  yields_condition : (c : Condition) (n : ℕ)
      → Yields (λ c' n'. Spent maps (flat_condition c) (flat_condition c') n n' × (too_large_tree (Tree.condition c') ≡ false))
      (substitute_temporal_condition c maps n)
  unfolding substitute_temporal_condition ◌>>=◌ ◌>>◌
  yields_condition c n =
      step (spent_condition maps c n) λ c' n₁ p.
      step (yields_limits (too_large_tree (Tree.condition c')) maps.call_span n₁) λ u n₂ e.
      rw e.0 (good_done (p, e.1))

  yields_value : (t : Term) (n : ℕ)
      → Yields (λ t' n'. Spent maps (flat_term t) (flat_term t') n n' × (too_large_tree (Tree.term t') ≡ false))
      (substitute_temporal_value t maps n)
  unfolding substitute_temporal_value ◌>>=◌ ◌>>◌
  yields_value t n =
      step (spent_term maps t maps.call_span n) λ t' n₁ p.
      step (yields_limits (too_large_tree (Tree.term t')) maps.call_span n₁) λ u n₂ e.
      rw e.0 (good_done (p, e.1))

  -- the body's size was charged, then it was walked; the 62 or 63 in front of it counts nothing
  answered : (body : MacroBody) (t : Tree) (c : ℕ) (es : List Entry) {n n' : ℕ} → flat_body body ≡ entry c 0 ∷ es
      → is_place c ≡ false → is_resolved c ≡ false → body_size body ≡ size es → n ≡ body_size body
      → Spent maps es (flat_tree t) n n' → too_large_tree t ≡ false → Answered body maps.params maps.args t n'
  unfolding pasted resolved total weigh size_found
  answered body t c es f h k b e p fits =
      record {
        body_and_pasted = rw (f, h, pasted) (omega arith);
        result_and_resolved = rw (f, k, resolved) (omega arith);
        fits = fits;
      }

module _ (limit file : ℕ) (def : MacroDef) (span : ℕ) (name : Text) (args : CallArgs) where
  yields_body : (body : MacroBody)
      → Yields (Answered body def.params args) (substitute_body limit file def body (Call.MacroCall span name args) 0)
  unfolding substitute_body maps_of charge_body body_size ◌>>=◌ ◌>>◌ flat_tree flat_body is_resolved is_place is_code
  yields_body MacroBody.Cedar = good_refused tt
  yields_body (MacroBody.TemporalCondition c) =
      step (yields_arity def _ span 0) λ u₁ n₁ e₁.
      step (yields_charge limit _ span n₁) λ u₂ n₂ e₂.
      step (yields_condition (maps_of def limit file (Call.MacroCall span name args)) c n₂) λ c' n₃ p.
      good_done (answered _ (MacroBody.TemporalCondition c) (Tree.condition c') 62 _ refl refl refl refl (omega arith) p.0 p.1)
  yields_body (MacroBody.TemporalValue t) =
      step (yields_arity def _ span 0) λ u₁ n₁ e₁.
      step (yields_charge limit _ span n₁) λ u₂ n₂ e₂.
      step (yields_value (maps_of def limit file (Call.MacroCall span name args)) t n₂) λ t' n₃ p.
      good_done (answered _ (MacroBody.TemporalValue t) (Tree.term t') 63 _ refl refl refl refl (omega arith) p.0 p.1)

pub yields_substitute : (limit file : ℕ) (def : MacroDef) (call : Call)
    → Yields (Answered def.body def.params (args_of call)) (substitute limit file def call)
unfolding substitute args_of
yields_substitute limit file def (Call.MacroCall span name args) = yields_body limit file def span name args def.body
