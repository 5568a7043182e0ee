-- Substitution with days and weeks exchanged, walked beside the one as given: the outcomes are the same but for that.
-- Assumes nothing.
use Prim.Native.Nat.{ℕ}
use mathlib.Core.Path.{◌≡◌, refl, sym, ap, subst}
use mathlib.Core.List.{List, [], ◌∷◌}
use mathlib.Core.Bool.{Bool, true, false}
use mathlib.Core.Option.{Option, none, some}
use Rattle.format.specs.Entry.{Text}
use Rattle.format.specs.Ast.{WithinSpec, BinderSlot, TypedBinder, Sigil, Condition, Term, AggExpr, Call, CallArg, CallArgs, NamedArgs, Terms, MacroParam, MacroBody, MacroDef}
use Rattle.format.specs.Flat.{length_args}
use Rattle.format.specs.Replace.{replace_condition, replace_term, replace_agg, replace_call, replace_arg, replace_args, replace_fields, replace_terms, replace_tree, replace_body, replace_def}
use Rattle.format.proofs.Counts.{length_args_lem}
use Rattle.definition.specs.Text.{eq_text}
use Rattle.definition.specs.Outcome.{Refusal, Outcome, Walk, pure, refuse, proceed, ◌>>=◌, ◌>>◌}
use Rattle.definition.specs.Messages.{not_a_predicate, condition_shape, unbound_parameter, not_an_identifier}
use Rattle.definition.specs.Size.{body_size, call_arg_size}
use Rattle.definition.specs.Substitute.{charge, charge_body, check_arity, check_limits, SubstMaps, maps_of, ◌or_else◌, only_if, lookup, arg_for, charge_paste, gensym_for, paste_condition, paste_term, paste_within, identifier, paste_slot, subst_binder_slot, subst_binder, subst_binders, subst_within, subst_sigil_ref, append_fields, fold_refine, subst_temporal_condition, subst_temporal_agg, subst_temporal_term, subst_temporal_terms, subst_temporal_fields, substitute_temporal_condition, substitute_temporal_value, substitute_body, substitute}
use Rattle.definition.specs.Weeks.{exchanged_within, exchanged}
use Rattle.definition.proofs.Exchanged.{size_condition, size_term, large_condition, large_term}

-- ------------------------------------------------------------------ outcomes

-- a value and what f makes of it, or the same refusal, each with the same charge
pub data Mapped {A B : Type 0} (f : A → B) : Outcome A → Outcome B → Type 0 where
  mapped : {a : A} {b : B} {n : ℕ} → b ≡ f a → Mapped f (Outcome.done a n) (Outcome.done b n)
  mapped_refused : {r : Refusal} {n : ℕ} → Mapped f (Outcome.refused r n) (Outcome.refused r n)

pub step : {A B C D : Type 0} {f : A → B} {g : C → D} {o : Outcome A} {o' : Outcome B} {k : A → Walk C} (k' : B → Walk D)
    → Mapped f o o' → ((a : A) (n : ℕ) → Mapped g (k a n) (k' (f a) n)) → Mapped g (proceed o k) (proceed o' k')
unfolding proceed
step {g = g} {k = k} k' (mapped {a = a} {n = n} e) h = subst (λ y. Mapped g (k a n) (k' y n)) (sym e) (h a n)
step k' mapped_refused h = mapped_refused

-- both do the same
same_both : {A C D : Type 0} {g : C → D} (o : Outcome A) {k : A → Walk C} {k' : A → Walk D}
    → ((a : A) (n : ℕ) → Mapped g (k a n) (k' a n)) → Mapped g (proceed o k) (proceed o k')
unfolding proceed
same_both (Outcome.done a n) h = h a n
same_both (Outcome.refused r n) h = mapped_refused

pub step_same : {A C D : Type 0} {g : C → D} {o o' : Outcome A} {k : A → Walk C} {k' : A → Walk D}
    → o' ≡ o → ((a : A) (n : ℕ) → Mapped g (k a n) (k' a n)) → Mapped g (proceed o k) (proceed o' k')
step_same {A = A} {g = g} {o = o} {k = k} {k' = k'} e h =
    subst (λ (y : Outcome A). Mapped g (proceed o k) (proceed y k')) (sym e) (same_both o h)

-- ------------------------------------------------------------------ arguments

pub data FoundBoth {A : Type 0} (f : A → A) : Option A → Option A → Type 0 where
  not_found : FoundBoth f none none
  found : {a a' : A} → a' ≡ f a → FoundBoth f (some a) (some a')

abbrev FoundArg : Option CallArg → Option CallArg → Type 0
FoundArg o o' = FoundBoth (replace_arg exchanged) o o'

found_first : {o o' x x' : Option CallArg} → FoundArg o o' → FoundArg x x' → FoundArg (o or_else x) (o' or_else x')
unfolding ◌or_else◌
found_first not_found q = q
found_first (found e) q = found e

found_if : (b : Bool) (a : CallArg) → FoundArg (only_if b a) (only_if b (replace_arg exchanged a))
unfolding only_if
found_if true a = found refl
found_if false a = not_found

lookups : (ps : List MacroParam) (args : CallArgs) (name : Text)
    → FoundArg (lookup ps args name) (lookup ps (replace_args exchanged args) name)
unfolding lookup replace_args
lookups [] args name = not_found
lookups (q ∷ ps) CallArgs.no_args name = not_found
lookups (q ∷ ps) (CallArgs.cons_arg a rest) name = found_first (lookups ps rest name) (found_if (eq_text q.name name) a)

same_identifier : (a : CallArg) → identifier (replace_arg exchanged a) ≡ identifier a
unfolding identifier replace_arg
same_identifier (CallArg.ConditionArg c) = refl
same_identifier (CallArg.WithinArg i) = refl
same_identifier (CallArg.TermArg (Term.Var n)) = refl
same_identifier (CallArg.TermArg (Term.Entity ty id)) = refl
same_identifier (CallArg.TermArg (Term.Integer n)) = refl
same_identifier (CallArg.TermArg (Term.Decimal t)) = refl
same_identifier (CallArg.TermArg (Term.String t)) = refl
same_identifier (CallArg.TermArg (Term.Bool b)) = refl
same_identifier (CallArg.TermArg (Term.ContextField path)) = refl
same_identifier (CallArg.TermArg (Term.ScopeField path)) = refl
same_identifier (CallArg.TermArg Term.Wildcard) = refl
same_identifier (CallArg.TermArg (Term.Array ts)) = refl
same_identifier (CallArg.TermArg (Term.Agg a)) = refl
same_identifier (CallArg.TermArg (Term.Arith op l r)) = refl
same_identifier (CallArg.TermArg (Term.ParamRef n)) = refl
same_identifier (CallArg.TermArg (Term.BinderRef n)) = refl

-- ------------------------------------------------------------------ refinements

appended : (fs gs : NamedArgs)
    → append_fields (replace_fields exchanged fs) (replace_fields exchanged gs) ≡ replace_fields exchanged (append_fields fs gs)
unfolding append_fields replace_fields
appended NamedArgs.no_fields gs = refl
appended (NamedArgs.cons_field n t fs) gs = ap (NamedArgs.cons_field n (replace_term exchanged t)) (appended fs gs)

pub refined : (c : Condition) (gs : NamedArgs) (o n : ℕ)
    → Mapped (replace_condition exchanged) (fold_refine c gs o n) (fold_refine (replace_condition exchanged c) (replace_fields exchanged gs) o n)
unfolding fold_refine replace_condition exchanged not_a_predicate condition_shape
refined (Condition.Predicate s q ns a k fs) gs o n = mapped (ap (Condition.Predicate s q ns a k) (appended fs gs))
refined (Condition.And s l r) gs o n = mapped_refused
refined (Condition.Or s l r) gs o n = mapped_refused
refined (Condition.Not s c) gs o n = mapped_refused
refined (Condition.Formerly s w c) gs o n = mapped_refused
refined (Condition.Previous s w c) gs o n = mapped_refused
refined (Condition.Since s l w r) gs o n = mapped_refused
refined (Condition.Comparison s op l r) gs o n = mapped_refused
refined (Condition.Exists s b c) gs o n = mapped_refused
refined (Condition.Tp s v) gs o n = mapped_refused
refined (Condition.ConditionCall s c) gs o n = mapped_refused
refined (Condition.SigilRef s g k) gs o n = mapped_refused
refined (Condition.Refine s q c fs) gs o n = mapped_refused

-- ------------------------------------------------------------------ the walk of a body

module _ (file limit : ℕ) (ps : List MacroParam) (span : ℕ) (macro : Text) (args : CallArgs) where
  -- what the substitution knows, as given and exchanged
  abbrev m : SubstMaps
  m = record { params = ps; args = args; call_span = span; macro_name = macro; limit = limit; file = file }

  abbrev m' : SubstMaps
  m' = record { params = ps; args = replace_args exchanged args; call_span = span; macro_name = macro; limit = limit; file = file }

  both_arg_for : (k : Text) (s n : ℕ) → Mapped (replace_arg exchanged) (arg_for m k s n) (arg_for m' k s n)
  unfolding arg_for
  both_arg_for k s n = go (lookups ps args k)
    where
      go : {o o' : Option CallArg} → FoundArg o o'
          → Mapped (replace_arg exchanged)
          ((elim o as (λ x. Walk CallArg) [ some a ↦ pure a | none ↦ refuse 41 s (unbound_parameter macro k) ]) n)
          ((elim o' as (λ x. Walk CallArg) [ some a ↦ pure a | none ↦ refuse 41 s (unbound_parameter macro k) ]) n)
      go not_found = mapped_refused
      go (found e) = mapped e

  both_paste_condition : (s : ℕ) (k : Text) (a : CallArg) (n : ℕ)
      → Mapped (replace_condition exchanged) (paste_condition m s k a n) (paste_condition m' s k (replace_arg exchanged a) n)
  unfolding paste_condition charge_paste call_arg_size replace_arg ◌>>=◌ ◌>>◌
  both_paste_condition s k (CallArg.ConditionArg c) n =
      step_same (ap (λ (size : ℕ). charge limit size span n) (size_condition c)) λ u n₁. mapped refl
  both_paste_condition s k (CallArg.TermArg t) n = mapped_refused
  both_paste_condition s k (CallArg.WithinArg i) n = mapped_refused

  both_paste_term : (s : ℕ) (k : Text) (a : CallArg) (n : ℕ)
      → Mapped (replace_term exchanged) (paste_term m s k a n) (paste_term m' s k (replace_arg exchanged a) n)
  unfolding paste_term charge_paste call_arg_size replace_arg ◌>>=◌ ◌>>◌
  both_paste_term s k (CallArg.TermArg t) n =
      step_same (ap (λ (size : ℕ). charge limit size span n) (size_term t)) λ u n₁. mapped refl
  both_paste_term s k (CallArg.ConditionArg c) n = mapped_refused
  both_paste_term s k (CallArg.WithinArg i) n = mapped_refused

  -- an interval is pasted as it is
  both_paste_within : (s : ℕ) (k : Text) (a : CallArg) (n : ℕ)
      → Mapped exchanged_within (paste_within m s k a n) (paste_within m' s k (replace_arg exchanged a) n)
  unfolding paste_within replace_arg exchanged exchanged_within
  both_paste_within s k (CallArg.WithinArg i) n = mapped refl
  both_paste_within s k (CallArg.ConditionArg c) n = mapped_refused
  both_paste_within s k (CallArg.TermArg t) n = mapped_refused

  both_paste_slot : (k : Text) (a : CallArg) (n : ℕ)
      → Mapped (λ (v : BinderSlot). v) (paste_slot m k a n) (paste_slot m' k (replace_arg exchanged a) n)
  unfolding paste_slot
  both_paste_slot k a n = rw (same_identifier a, paste_slot) (go (identifier a))
    where
      go : (o : Option Text) → Mapped (λ (v : BinderSlot). v)
          ((elim o as (λ x. Walk BinderSlot) [ some i ↦ pure (BinderSlot.Name i) | none ↦ refuse 46 span (not_an_identifier macro k) ]) n)
          ((elim o as (λ x. Walk BinderSlot) [ some i ↦ pure (BinderSlot.Name i) | none ↦ refuse 46 span (not_an_identifier macro k) ]) n)
      go (some i) = mapped refl
      go none = mapped_refused

  both_slot : (v : BinderSlot) (s n : ℕ) → Mapped (λ (v : BinderSlot). v) (subst_binder_slot m v s n) (subst_binder_slot m' v s n)
  unfolding subst_binder_slot ◌>>=◌ gensym_for
  both_slot (BinderSlot.Name k) s n = mapped refl
  both_slot (BinderSlot.ParamRef k) s n = step _ (both_arg_for k s n) λ a n₁. both_paste_slot k a n₁
  both_slot (BinderSlot.BinderRef k) s n = mapped refl

  both_binder : (b : TypedBinder) (s n : ℕ) → Mapped (λ (b : TypedBinder). b) (subst_binder m b s n) (subst_binder m' b s n)
  unfolding subst_binder ◌>>=◌
  both_binder b s n = step _ (both_slot b.slot s n) λ v n₁. mapped refl

  both_binders : (bs : List TypedBinder) (s n : ℕ) → Mapped (λ (bs : List TypedBinder). bs) (subst_binders m bs s n) (subst_binders m' bs s n)
  unfolding subst_binders ◌>>=◌
  both_binders [] s n = mapped refl
  both_binders (b ∷ bs) s n = step _ (both_binder b s n) λ v n₁. step _ (both_binders bs s n₁) λ vs n₂. mapped refl

  both_within : (w : WithinSpec) (s n : ℕ) → Mapped exchanged_within (subst_within m w s n) (subst_within m' (exchanged_within w) s n)
  unfolding subst_within exchanged_within ◌>>=◌
  both_within (WithinSpec.Concrete i) s n = mapped refl
  both_within (WithinSpec.ParamRef k) s n = step _ (both_arg_for k s n) λ a n₁. both_paste_within s k a n₁

  both_sigil : (s : ℕ) (g : Sigil) (k : Text) (n : ℕ)
      → Mapped (replace_condition exchanged) (subst_sigil_ref m s g k n) (subst_sigil_ref m' s g k n)
  unfolding subst_sigil_ref ◌>>=◌
  both_sigil s Sigil.Param k n = step _ (both_arg_for k s n) λ a n₁. both_paste_condition s k a n₁
  both_sigil s Sigil.Binder k n = mapped_refused

  mutual
    unfolding subst_temporal_condition replace_condition exchanged ◌>>=◌ gensym_for

    both_condition : (c : Condition) (n : ℕ)
        → Mapped (replace_condition exchanged) (subst_temporal_condition m c n) (subst_temporal_condition m' (replace_condition exchanged c) n)
    both_condition (Condition.SigilRef s g k) n = both_sigil s g k n
    both_condition (Condition.And s l r) n = step _ (both_condition l n) λ l' n₁. step _ (both_condition r n₁) λ r' n₂. mapped refl
    both_condition (Condition.Or s l r) n = step _ (both_condition l n) λ l' n₁. step _ (both_condition r n₁) λ r' n₂. mapped refl
    both_condition (Condition.Not s c) n = step _ (both_condition c n) λ c' n₁. mapped refl
    both_condition (Condition.Formerly s w c) n = step _ (both_within w s n) λ w' n₁. step _ (both_condition c n₁) λ c' n₂. mapped refl
    both_condition (Condition.Previous s w c) n = step _ (both_within w s n) λ w' n₁. step _ (both_condition c n₁) λ c' n₂. mapped refl
    both_condition (Condition.Since s l w r) n =
        step _ (both_within w s n) λ w' n₁.
        step _ (both_condition l n₁) λ l' n₂.
        step _ (both_condition r n₂) λ r' n₃.
        mapped refl
    both_condition (Condition.Predicate s o ns a k fs) n = step _ (both_fields fs s n) λ fs' n₁. mapped refl
    both_condition (Condition.Comparison s op l r) n = step _ (both_term l s n) λ l' n₁. step _ (both_term r s n₁) λ r' n₂. mapped refl
    both_condition (Condition.Tp s v) n = step _ (both_slot v s n) λ v' n₁. mapped refl
    both_condition (Condition.Exists s b c) n = step _ (both_binder b s n) λ b' n₁. step _ (both_condition c n₁) λ c' n₂. mapped refl
    both_condition (Condition.Refine s o c fs) n =
        step _ (both_condition c n) λ c' n₁. step _ (both_fields fs s n₁) λ fs' n₂. refined c' fs' o n₂
    both_condition (Condition.ConditionCall s c) n = mapped_refused

    both_agg : (a : AggExpr) (n : ℕ)
        → Mapped (replace_agg exchanged) (subst_temporal_agg m a n) (subst_temporal_agg m' (replace_agg exchanged a) n)
    both_agg (AggExpr.Sum s v bs c) n =
        step _ (both_slot v s n) λ v' n₁.
        step _ (both_binders bs s n₁) λ bs' n₂.
        step _ (both_condition c n₂) λ c' n₃.
        mapped refl
    both_agg (AggExpr.Count s bs c) n = step _ (both_binders bs s n) λ bs' n₁. step _ (both_condition c n₁) λ c' n₂. mapped refl
    both_agg (AggExpr.AggCall s c) n = mapped_refused

    both_term : (t : Term) (s n : ℕ)
        → Mapped (replace_term exchanged) (subst_temporal_term m t s n) (subst_temporal_term m' (replace_term exchanged t) s n)
    both_term (Term.ParamRef k) s n = step _ (both_arg_for k s n) λ a n₁. both_paste_term s k a n₁
    both_term (Term.BinderRef k) s n = mapped refl
    both_term (Term.Array ts) s n = step _ (both_terms ts s n) λ ts' n₁. mapped refl
    both_term (Term.Agg a) s n = step _ (both_agg a n) λ a' n₁. mapped refl
    both_term (Term.Arith op l r) s n = step _ (both_term l s n) λ l' n₁. step _ (both_term r s n₁) λ r' n₂. mapped refl
    both_term (Term.Entity ty id) s n = mapped refl
    both_term (Term.Integer k) s n = mapped refl
    both_term (Term.Decimal t) s n = mapped refl
    both_term (Term.String t) s n = mapped refl
    both_term (Term.Bool b) s n = mapped refl
    both_term (Term.ContextField path) s n = mapped refl
    both_term (Term.ScopeField path) s n = mapped refl
    both_term (Term.Var k) s n = mapped refl
    both_term Term.Wildcard s n = mapped refl

    both_terms : (ts : Terms) (s n : ℕ)
        → Mapped (replace_terms exchanged) (subst_temporal_terms m ts s n) (subst_temporal_terms m' (replace_terms exchanged ts) s n)
    both_terms Terms.no_terms s n = mapped refl
    both_terms (Terms.cons_term t ts) s n = step _ (both_term t s n) λ t' n₁. step _ (both_terms ts s n₁) λ ts' n₂. mapped refl

    both_fields : (fs : NamedArgs) (s n : ℕ)
        → Mapped (replace_fields exchanged) (subst_temporal_fields m fs s n) (subst_temporal_fields m' (replace_fields exchanged fs) s n)
    both_fields NamedArgs.no_fields s n = mapped refl
    both_fields (NamedArgs.cons_field k t fs) s n = step _ (both_term t s n) λ t' n₁. step _ (both_fields fs s n₁) λ fs' n₂. mapped refl

  pub both_substitute_condition : (c : Condition) (n : ℕ)
      → Mapped (replace_condition exchanged)
      (substitute_temporal_condition c m n)
      (substitute_temporal_condition (replace_condition exchanged c) m' n)
  unfolding substitute_temporal_condition ◌>>=◌ ◌>>◌
  both_substitute_condition c n =
      step _ (both_condition c n) λ c' n₁.
      step_same (ap (λ (large : Bool). check_limits large span n₁) (large_condition c')) λ u n₂.
      mapped refl

  pub both_substitute_value : (t : Term) (n : ℕ)
      → Mapped (replace_term exchanged) (substitute_temporal_value t m n) (substitute_temporal_value (replace_term exchanged t) m' n)
  unfolding substitute_temporal_value ◌>>=◌ ◌>>◌
  both_substitute_value t n =
      step _ (both_term t span n) λ t' n₁.
      step_same (ap (λ (large : Bool). check_limits large span n₁) (large_term t')) λ u n₂.
      mapped refl

-- ------------------------------------------------------------------ substitution

pub same_arity : (def : MacroDef) (args : CallArgs) (span n : ℕ)
    → check_arity (replace_def exchanged def) (length_args (replace_args exchanged args)) span n ≡ check_arity def (length_args args) span n
unfolding check_arity replace_def
same_arity def args span n = rw (length_args_lem exchanged args) refl

pub same_charge_condition : (limit : ℕ) (c : Condition) (span n : ℕ)
    → charge_body limit (MacroBody.TemporalCondition (replace_condition exchanged c)) span n
    ≡ charge_body limit (MacroBody.TemporalCondition c) span n
unfolding charge_body body_size
same_charge_condition limit c span n = ap (λ (size : ℕ). charge limit size span n) (size_condition c)

pub same_charge_value : (limit : ℕ) (t : Term) (span n : ℕ)
    → charge_body limit (MacroBody.TemporalValue (replace_term exchanged t)) span n ≡ charge_body limit (MacroBody.TemporalValue t) span n
unfolding charge_body body_size
same_charge_value limit t span n = ap (λ (size : ℕ). charge limit size span n) (size_term t)

module _ (limit file : ℕ) (def : MacroDef) (span : ℕ) (name : Text) (args : CallArgs) where
  both_body : (body : MacroBody) (n : ℕ)
      → Mapped (replace_tree exchanged)
      (substitute_body limit file def body (Call.MacroCall span name args) n)
      (substitute_body limit file (replace_def exchanged def) (replace_body exchanged body)
      (Call.MacroCall span name (replace_args exchanged args)) n)
  unfolding substitute_body maps_of replace_tree replace_def replace_body ◌>>=◌ ◌>>◌
  both_body MacroBody.Cedar n = mapped_refused
  both_body (MacroBody.TemporalCondition c) n =
      step_same (same_arity def args span n) λ u₁ n₁.
      step_same (same_charge_condition limit c span n₁) λ u₂ n₂.
      step _ (both_substitute_condition file limit def.params span def.name args c n₂) λ c' n₃.
      mapped refl
  both_body (MacroBody.TemporalValue t) n =
      step_same (same_arity def args span n) λ u₁ n₁.
      step_same (same_charge_value limit t span n₁) λ u₂ n₂.
      step _ (both_substitute_value file limit def.params span def.name args t n₂) λ t' n₃.
      mapped refl

pub both_substitute : (limit file : ℕ) (def : MacroDef) (call : Call)
    → Mapped (replace_tree exchanged)
    (substitute limit file def call)
    (substitute limit file (replace_def exchanged def) (replace_call exchanged call))
unfolding substitute replace_call replace_def
both_substitute limit file def (Call.MacroCall span name args) = both_body limit file def span name args def.body 0
