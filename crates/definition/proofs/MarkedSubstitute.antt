-- Substitution of a definition with marked binders in file 0, and of the definition itself in a file above 0, walked at once: the
-- outcomes are the same but for the names that the binders made.
-- Assumes nothing.
use Prim.Native.Nat.{ℕ, zero, suc, ◌<◌}
use native.Mathlib.Omega.{arith}
use mathlib.Core.Path.{◌≡◌, refl, subst}
use mathlib.Core.List.{List, [], ◌∷◌, ◌++◌}
use mathlib.Core.Bool.{Bool, true, false}
use mathlib.Core.Option.{Option, none, some}
use lib.ListN.{length, length-append}
use Rattle.format.specs.Entry.{Text}
use Rattle.format.specs.Ast.{WithinSpec, BinderSlot, TypedBinder, Sigil, Condition, Term, AggExpr, Call, CallArg, CallArgs, NamedArgs, Terms, MacroParam, MacroBody, MacroDef}
use Rattle.format.specs.Flat.{length_args}
use Rattle.definition.specs.Text.{eq_text, utf8, decimal}
use Rattle.definition.specs.Outcome.{Refusal, Outcome, Walk, pure, refuse, proceed, ◌>>=◌, ◌>>◌, span_start}
use Rattle.definition.specs.Messages.{not_a_predicate, condition_shape, unbound_parameter, not_an_identifier}
use Rattle.definition.specs.Substitute.{charge, charge_body, check_arity, check_limits, SubstMaps, maps_of, ◌or_else◌, only_if, lookup, arg_for, charge_paste, start_name, in_file, generated, gensym_for, paste_condition, paste_term, paste_within, identifier, paste_slot, subst_binder_slot, subst_binder, subst_binders, subst_within, subst_sigil_ref, append_fields, fold_refine, subst_temporal_condition, subst_temporal_agg, subst_temporal_term, subst_temporal_terms, subst_temporal_fields, substitute_temporal_condition, substitute_temporal_value, substitute_body, substitute}
use Rattle.definition.specs.Files.{AsLong}
use Rattle.definition.proofs.Twins.{TwinSlot, TwinBinder, TwinBinders, TwinCondition, TwinTerm, TwinAgg, TwinTerms, TwinFields, TwinTree, TwinArg, same_arg, condition_arg, term_arg, TwinArgs, no_args, cons_arg, size_arg, same_large_condition, same_large_term}
use Rattle.definition.proofs.MarkedBinders.{mark_slot, mark_binder, mark_binders, mark_condition, mark_term, mark_agg, mark_fields, mark_terms, mark_body, mark_def, mark_size}

-- ------------------------------------------------------------------ outcomes

-- both come to values that R holds of, or to the same refusal, each with the same charge
pub data Both {A B : Type 0} (R : A → B → Type 0) : Outcome A → Outcome B → Type 0 where
  both : {a : A} {b : B} {n : ℕ} → R a b → Both R (Outcome.done a n) (Outcome.done b n)
  both_refused : {r : Refusal} {n : ℕ} → Both R (Outcome.refused r n) (Outcome.refused r n)

pub step : {A B C D : Type 0} {R : A → B → Type 0} {S : C → D → Type 0} {o : Outcome A} {o' : Outcome B} {f : A → Walk C} {f' : B → Walk D}
    → Both R o o' → ((a : A) (b : B) (n : ℕ) → R a b → Both S (f a n) (f' b n)) → Both S (proceed o f) (proceed o' f')
unfolding proceed
step (both {a = a} {b = b} {n = n} r) k = k a b n r
step both_refused k = both_refused

-- both do the same
pub step_same : {A C D : Type 0} {S : C → D → Type 0} (o : Outcome A) {f : A → Walk C} {f' : A → Walk D}
    → ((a : A) (n : ℕ) → Both S (f a n) (f' a n)) → Both S (proceed o f) (proceed o f')
unfolding proceed
step_same (Outcome.done a n) k = k a n
step_same (Outcome.refused r n) k = both_refused

-- the same figures are over a limit
pub step_limits : {C D : Type 0} {S : C → D → Type 0} {b b' : Bool} → b ≡ b' → (span n : ℕ)
    {f : Unit {0} → Walk C} {f' : Unit {0} → Walk D}
    → ((u : Unit {0}) (m : ℕ) → Both S (f u m) (f' u m)) → Both S (proceed (check_limits b span n) f) (proceed (check_limits b' span n) f')
step_limits {S = S} {b = b} e span n {f = f} {f' = f'} k =
    subst (λ (x : Bool). Both S (proceed (check_limits b span n) f) (proceed (check_limits x span n) f')) e
    (step_same (check_limits b span n) k)

-- ------------------------------------------------------------------ names

-- the name that a marked binder makes in file 0, and the one that the binder makes in the file
pub data MadeName (mark : Text) (file : ℕ) : Text → Text → Type 0 where
  made : (binder : Text) (start : ℕ) → MadeName mark file (generated (binder ++ mark) start 0) (generated binder start file)

pub made_long : (mark : Text) (file : ℕ) → 0 < file → AsLong file mark
    → (n n' : Text) → MadeName mark file n n' → length n ≡ length n'
unfolding generated in_file start_name
made_long mark file above h n n' (made binder start) = go file above h
  where
    go : (f : ℕ) → 0 < f → length mark ≡ length (utf8 "#" ++ decimal f)
        → length (generated (binder ++ mark) start 0) ≡ length (generated binder start f)
    go zero k e = absurd (omega arith)
    go (suc f) k e =
        omega (
          arith,
          e,
          length-append (binder ++ mark) (utf8 "$" ++ decimal start),
          length-append binder mark,
          length-append (binder ++ (utf8 "$" ++ decimal start)) (utf8 "#" ++ decimal (suc f)),
          length-append binder (utf8 "$" ++ decimal start),
        )

-- ------------------------------------------------------------------ arguments

data TwinFound (N : Text → Text → Type 0) : Option CallArg → Option CallArg → Type 0 where
  not_found : TwinFound N none none
  found : {a a' : CallArg} → TwinArg N a a' → TwinFound N (some a) (some a')

module _ {N : Text → Text → Type 0} where
  same_args : (args : CallArgs) → TwinArgs N args args
  same_args CallArgs.no_args = no_args
  same_args (CallArgs.cons_arg a rest) = cons_arg same_arg (same_args rest)

  found_first : {o o' x x' : Option CallArg} → TwinFound N o o' → TwinFound N x x' → TwinFound N (o or_else x) (o' or_else x')
  unfolding ◌or_else◌
  found_first not_found q = q
  found_first (found p) q = found p

  found_if : (b : Bool) {a a' : CallArg} → TwinArg N a a' → TwinFound N (only_if b a) (only_if b a')
  unfolding only_if
  found_if true p = found p
  found_if false p = not_found

  lookups : (ps : List MacroParam) {args args' : CallArgs} → TwinArgs N args args' → (name : Text)
      → TwinFound N (lookup ps args name) (lookup ps args' name)
  unfolding lookup
  lookups [] p name = not_found
  lookups (q ∷ ps) no_args name = not_found
  lookups (q ∷ ps) (cons_arg a rest) name = found_first (lookups ps rest name) (found_if (eq_text q.name name) a)

  -- ------------------------------------------------------------------ refinements

  appended : {fs fs' gs gs' : NamedArgs} → TwinFields N fs fs' → TwinFields N gs gs'
      → TwinFields N (append_fields fs gs) (append_fields fs' gs')
  unfolding append_fields
  appended (TwinFields.same_fields {fs = fs}) q = behind fs q
    where
      behind : {gs gs' : NamedArgs} (fs : NamedArgs) → TwinFields N gs gs' → TwinFields N (append_fields fs gs) (append_fields fs gs')
      behind NamedArgs.no_fields q = q
      behind (NamedArgs.cons_field n t fs) q = TwinFields.cons_field TwinTerm.same_term (behind fs q)
  appended (TwinFields.cons_field p ps) q = TwinFields.cons_field p (appended ps q)

  refined_same : (c : Condition) {gs gs' : NamedArgs} → TwinFields N gs gs' → (o n : ℕ)
      → Both (TwinCondition N) (fold_refine c gs o n) (fold_refine c gs' o n)
  unfolding fold_refine
  refined_same (Condition.Predicate s q ns a k fs) g o n = both (TwinCondition.Predicate (appended (TwinFields.same_fields {fs = fs}) g))
  refined_same (Condition.And s l r) g o n = both_refused
  refined_same (Condition.Or s l r) g o n = both_refused
  refined_same (Condition.Not s c) g o n = both_refused
  refined_same (Condition.Formerly s w c) g o n = both_refused
  refined_same (Condition.Previous s w c) g o n = both_refused
  refined_same (Condition.Since s l w r) g o n = both_refused
  refined_same (Condition.Comparison s op l r) g o n = both_refused
  refined_same (Condition.Exists s b c) g o n = both_refused
  refined_same (Condition.Tp s v) g o n = both_refused
  refined_same (Condition.ConditionCall s c) g o n = both_refused
  refined_same (Condition.SigilRef s h k) g o n = both_refused
  refined_same (Condition.Refine s q c fs) g o n = both_refused

  pub refined : {c c' : Condition} → TwinCondition N c c' → {gs gs' : NamedArgs} → TwinFields N gs gs' → (o n : ℕ)
      → Both (TwinCondition N) (fold_refine c gs o n) (fold_refine c' gs' o n)
  unfolding fold_refine not_a_predicate condition_shape
  refined (TwinCondition.same_condition {c = c}) g o n = refined_same c g o n
  refined (TwinCondition.Predicate p) g o n = both (TwinCondition.Predicate (appended p g))
  refined (TwinCondition.And p q) g o n = both_refused
  refined (TwinCondition.Or p q) g o n = both_refused
  refined (TwinCondition.Not p) g o n = both_refused
  refined (TwinCondition.Formerly p) g o n = both_refused
  refined (TwinCondition.Previous p) g o n = both_refused
  refined (TwinCondition.Since p q) g o n = both_refused
  refined (TwinCondition.Comparison p q) g o n = both_refused
  refined (TwinCondition.Exists b p) g o n = both_refused
  refined (TwinCondition.Tp v) g o n = both_refused

-- ------------------------------------------------------------------ the walk of a body

module _ (mark : Text) (file : ℕ) (above : 0 < file) (as_long : AsLong file mark) (limit : ℕ) (ps : List MacroParam)
    (span : ℕ) (macro : Text) (args args' : CallArgs) (given : TwinArgs (MadeName mark file) args args') where
  abbrev N : Text → Text → Type 0
  N = MadeName mark file

  long : (n n' : Text) → N n n' → length n ≡ length n'
  long = made_long mark file above as_long

  -- what the substitution of the marked body knows in file 0, and that of the body in the file
  abbrev m : SubstMaps
  m = record { params = ps; args = args; call_span = span; macro_name = macro; limit = limit; file = 0 }

  abbrev m' : SubstMaps
  m' = record { params = ps; args = args'; call_span = span; macro_name = macro; limit = limit; file = file }

  twin_arg_for : (k : Text) (s n : ℕ) → Both (TwinArg N) (arg_for m k s n) (arg_for m' k s n)
  unfolding arg_for
  twin_arg_for k s n = go (lookups ps given k)
    where
      go : {o o' : Option CallArg} → TwinFound N o o'
          → Both (TwinArg N)
          ((elim o as (λ x. Walk CallArg) [ some a ↦ pure a | none ↦ refuse 41 s (unbound_parameter macro k) ]) n)
          ((elim o' as (λ x. Walk CallArg) [ some a ↦ pure a | none ↦ refuse 41 s (unbound_parameter macro k) ]) n)
      go not_found = both_refused
      go (found p) = both p

  twin_paste_condition : (s : ℕ) (k : Text) {a a' : CallArg} (n : ℕ) → TwinArg N a a'
      → Both (TwinCondition N) (paste_condition m s k a n) (paste_condition m' s k a' n)
  unfolding paste_condition charge_paste ◌>>=◌ ◌>>◌
  twin_paste_condition s k n (condition_arg p) =
      rw (size_arg long (condition_arg p), charge_paste) (step_same (charge limit _ span n) λ u n₁. both p)
  twin_paste_condition s k n (term_arg p) = both_refused
  twin_paste_condition s k n (same_arg {a = CallArg.ConditionArg c}) =
      step_same (charge limit _ span n) λ u n₁. both TwinCondition.same_condition
  twin_paste_condition s k n (same_arg {a = CallArg.TermArg t}) = both_refused
  twin_paste_condition s k n (same_arg {a = CallArg.WithinArg i}) = both_refused

  twin_paste_term : (s : ℕ) (k : Text) {a a' : CallArg} (n : ℕ) → TwinArg N a a'
      → Both (TwinTerm N) (paste_term m s k a n) (paste_term m' s k a' n)
  unfolding paste_term charge_paste ◌>>=◌ ◌>>◌
  twin_paste_term s k n (term_arg p) = rw (size_arg long (term_arg p), charge_paste) (step_same (charge limit _ span n) λ u n₁. both p)
  twin_paste_term s k n (condition_arg p) = both_refused
  twin_paste_term s k n (same_arg {a = CallArg.TermArg t}) = step_same (charge limit _ span n) λ u n₁. both TwinTerm.same_term
  twin_paste_term s k n (same_arg {a = CallArg.ConditionArg c}) = both_refused
  twin_paste_term s k n (same_arg {a = CallArg.WithinArg i}) = both_refused

  twin_paste_within : (s : ℕ) (k : Text) {a a' : CallArg} (n : ℕ) → TwinArg N a a'
      → Both ◌≡◌ (paste_within m s k a n) (paste_within m' s k a' n)
  unfolding paste_within
  twin_paste_within s k n (condition_arg p) = both_refused
  twin_paste_within s k n (term_arg p) = both_refused
  twin_paste_within s k n (same_arg {a = CallArg.WithinArg i}) = both refl
  twin_paste_within s k n (same_arg {a = CallArg.ConditionArg c}) = both_refused
  twin_paste_within s k n (same_arg {a = CallArg.TermArg t}) = both_refused

  same_paste_slot : (k : Text) (a : CallArg) (n : ℕ) → Both (TwinSlot N) (paste_slot m k a n) (paste_slot m' k a n)
  unfolding paste_slot
  same_paste_slot k a n = go (identifier a)
    where
      go : (o : Option Text) → Both (TwinSlot N)
          ((elim o as (λ x. Walk BinderSlot) [ some i ↦ pure (BinderSlot.Name i) | none ↦ refuse 46 span (not_an_identifier macro k) ]) n)
          ((elim o as (λ x. Walk BinderSlot) [ some i ↦ pure (BinderSlot.Name i) | none ↦ refuse 46 span (not_an_identifier macro k) ]) n)
      go (some i) = both TwinSlot.same_slot
      go none = both_refused

  twin_paste_slot : (k : Text) {a a' : CallArg} (n : ℕ) → TwinArg N a a' → Both (TwinSlot N) (paste_slot m k a n) (paste_slot m' k a' n)
  unfolding paste_slot identifier
  twin_paste_slot k n (same_arg {a = a}) = same_paste_slot k a n
  twin_paste_slot k n (condition_arg p) = both_refused
  twin_paste_slot k n (term_arg (TwinTerm.same_term {t = t})) = same_paste_slot k (CallArg.TermArg t) n
  twin_paste_slot k n (term_arg (TwinTerm.Var p)) = both (TwinSlot.Name p)
  twin_paste_slot k n (term_arg (TwinTerm.Array p)) = both_refused
  twin_paste_slot k n (term_arg (TwinTerm.Agg p)) = both_refused
  twin_paste_slot k n (term_arg (TwinTerm.Arith p q)) = both_refused

  twin_slot : (v : BinderSlot) (s n : ℕ) → Both (TwinSlot N) (subst_binder_slot m (mark_slot mark v) s n) (subst_binder_slot m' v s n)
  unfolding subst_binder_slot ◌>>=◌ gensym_for mark_slot
  twin_slot (BinderSlot.Name k) s n = both TwinSlot.same_slot
  twin_slot (BinderSlot.ParamRef k) s n = step (twin_arg_for k s n) λ a a' n₁ p. twin_paste_slot k n₁ p
  twin_slot (BinderSlot.BinderRef k) s n = both (TwinSlot.Name (made k (span_start span)))

  twin_binder : (b : TypedBinder) (s n : ℕ) → Both (TwinBinder N) (subst_binder m (mark_binder mark b) s n) (subst_binder m' b s n)
  unfolding subst_binder ◌>>=◌ mark_binder
  twin_binder b s n = step (twin_slot b.slot s n) λ v v' n₁ p. both (TwinBinder.typed p)

  twin_binders : (bs : List TypedBinder) (s n : ℕ) → Both (TwinBinders N) (subst_binders m (mark_binders mark bs) s n)
      (subst_binders m' bs s n)
  unfolding subst_binders ◌>>=◌ mark_binders
  twin_binders [] s n = both TwinBinders.same_binders
  twin_binders (b ∷ bs) s n =
      step (twin_binder b s n) λ v v' n₁ p.
      step (twin_binders bs s n₁) λ vs vs' n₂ q.
      both (TwinBinders.cons_binder p q)

  twin_within : (w : WithinSpec) (s n : ℕ) → Both ◌≡◌ (subst_within m w s n) (subst_within m' w s n)
  unfolding subst_within ◌>>=◌
  twin_within (WithinSpec.Concrete i) s n = both refl
  twin_within (WithinSpec.ParamRef k) s n = step (twin_arg_for k s n) λ a a' n₁ p. twin_paste_within s k n₁ p

  twin_sigil : (s : ℕ) (g : Sigil) (k : Text) (n : ℕ) → Both (TwinCondition N) (subst_sigil_ref m s g k n) (subst_sigil_ref m' s g k n)
  unfolding subst_sigil_ref ◌>>=◌
  twin_sigil s Sigil.Param k n = step (twin_arg_for k s n) λ a a' n₁ p. twin_paste_condition s k n₁ p
  twin_sigil s Sigil.Binder k n = both_refused

  mutual
    unfolding subst_temporal_condition ◌>>=◌ gensym_for mark_condition

    twin_condition : (c : Condition) (n : ℕ) → Both (TwinCondition N) (subst_temporal_condition m (mark_condition mark c) n)
        (subst_temporal_condition m' c n)
    twin_condition (Condition.SigilRef s g k) n = twin_sigil s g k n
    twin_condition (Condition.And s l r) n =
        step (twin_condition l n) λ l' l'' n₁ p.
        step (twin_condition r n₁) λ r' r'' n₂ q.
        both (TwinCondition.And p q)
    twin_condition (Condition.Or s l r) n =
        step (twin_condition l n) λ l' l'' n₁ p.
        step (twin_condition r n₁) λ r' r'' n₂ q.
        both (TwinCondition.Or p q)
    twin_condition (Condition.Not s c) n = step (twin_condition c n) λ c' c'' n₁ p. both (TwinCondition.Not p)
    twin_condition (Condition.Formerly s w c) n =
        step (twin_within w s n) λ w' w'' n₁ e. rw e (step (twin_condition c n₁) λ c' c'' n₂ p. both (TwinCondition.Formerly p))
    twin_condition (Condition.Previous s w c) n =
        step (twin_within w s n) λ w' w'' n₁ e. rw e (step (twin_condition c n₁) λ c' c'' n₂ p. both (TwinCondition.Previous p))
    twin_condition (Condition.Since s l w r) n =
        step (twin_within w s n) λ w' w'' n₁ e. rw e
        (step (twin_condition l n₁) λ l' l'' n₂ p.
        step (twin_condition r n₂) λ r' r'' n₃ q.
        both (TwinCondition.Since p q))
    twin_condition (Condition.Predicate s o ns a k fs) n =
        step (twin_fields fs s n) λ fs' fs'' n₁ p. both (TwinCondition.Predicate p)
    twin_condition (Condition.Comparison s op l r) n =
        step (twin_term l s n) λ l' l'' n₁ p.
        step (twin_term r s n₁) λ r' r'' n₂ q.
        both (TwinCondition.Comparison p q)
    twin_condition (Condition.Tp s v) n = step (twin_slot v s n) λ v' v'' n₁ p. both (TwinCondition.Tp p)
    twin_condition (Condition.Exists s b c) n =
        step (twin_binder b s n) λ b' b'' n₁ p.
        step (twin_condition c n₁) λ c' c'' n₂ q.
        both (TwinCondition.Exists p q)
    twin_condition (Condition.Refine s o c fs) n =
        step (twin_condition c n) λ c' c'' n₁ p.
        step (twin_fields fs s n₁) λ fs' fs'' n₂ q.
        refined p q o n₂
    twin_condition (Condition.ConditionCall s c) n = both_refused

    twin_agg : (a : AggExpr) (n : ℕ) → Both (TwinAgg N) (subst_temporal_agg m (mark_agg mark a) n) (subst_temporal_agg m' a n)
    twin_agg (AggExpr.Sum s v bs c) n =
        step (twin_slot v s n) λ v' v'' n₁ p.
        step (twin_binders bs s n₁) λ bs' bs'' n₂ q.
        step (twin_condition c n₂) λ c' c'' n₃ r.
        both (TwinAgg.Sum p q r)
    twin_agg (AggExpr.Count s bs c) n =
        step (twin_binders bs s n) λ bs' bs'' n₁ q.
        step (twin_condition c n₁) λ c' c'' n₂ r.
        both (TwinAgg.Count q r)
    twin_agg (AggExpr.AggCall s c) n = both_refused

    twin_term : (t : Term) (s n : ℕ) → Both (TwinTerm N) (subst_temporal_term m (mark_term mark t) s n) (subst_temporal_term m' t s n)
    twin_term (Term.ParamRef k) s n = step (twin_arg_for k s n) λ a a' n₁ p. twin_paste_term s k n₁ p
    twin_term (Term.BinderRef k) s n = both (TwinTerm.Var (made k (span_start span)))
    twin_term (Term.Array ts) s n = step (twin_terms ts s n) λ ts' ts'' n₁ p. both (TwinTerm.Array p)
    twin_term (Term.Agg a) s n = step (twin_agg a n) λ a' a'' n₁ p. both (TwinTerm.Agg p)
    twin_term (Term.Arith op l r) s n =
        step (twin_term l s n) λ l' l'' n₁ p.
        step (twin_term r s n₁) λ r' r'' n₂ q.
        both (TwinTerm.Arith p q)
    twin_term (Term.Entity ty id) s n = both TwinTerm.same_term
    twin_term (Term.Integer k) s n = both TwinTerm.same_term
    twin_term (Term.Decimal t) s n = both TwinTerm.same_term
    twin_term (Term.String t) s n = both TwinTerm.same_term
    twin_term (Term.Bool b) s n = both TwinTerm.same_term
    twin_term (Term.ContextField path) s n = both TwinTerm.same_term
    twin_term (Term.ScopeField path) s n = both TwinTerm.same_term
    twin_term (Term.Var k) s n = both TwinTerm.same_term
    twin_term Term.Wildcard s n = both TwinTerm.same_term

    twin_terms : (ts : Terms) (s n : ℕ) → Both (TwinTerms N) (subst_temporal_terms m (mark_terms mark ts) s n)
        (subst_temporal_terms m' ts s n)
    twin_terms Terms.no_terms s n = both TwinTerms.no_terms
    twin_terms (Terms.cons_term t ts) s n =
        step (twin_term t s n) λ t' t'' n₁ p.
        step (twin_terms ts s n₁) λ ts' ts'' n₂ q.
        both (TwinTerms.cons_term p q)

    twin_fields : (fs : NamedArgs) (s n : ℕ) → Both (TwinFields N) (subst_temporal_fields m (mark_fields mark fs) s n)
        (subst_temporal_fields m' fs s n)
    twin_fields NamedArgs.no_fields s n = both TwinFields.same_fields
    twin_fields (NamedArgs.cons_field k t fs) s n =
        step (twin_term t s n) λ t' t'' n₁ p.
        step (twin_fields fs s n₁) λ fs' fs'' n₂ q.
        both (TwinFields.cons_field p q)

  pub twin_substitute_condition : (c : Condition) (n : ℕ)
      → Both (TwinCondition N) (substitute_temporal_condition (mark_condition mark c) m n) (substitute_temporal_condition c m' n)
  unfolding substitute_temporal_condition ◌>>=◌ ◌>>◌
  twin_substitute_condition c n =
      step (twin_condition c n) λ c' c'' n₁ p. step_limits (same_large_condition long p) span n₁ λ u n₂. both p

  pub twin_substitute_value : (t : Term) (n : ℕ) → Both (TwinTerm N) (substitute_temporal_value (mark_term mark t) m n)
      (substitute_temporal_value t m' n)
  unfolding substitute_temporal_value ◌>>=◌ ◌>>◌
  twin_substitute_value t n =
      step (twin_term t span n) λ t' t'' n₁ p. step_limits (same_large_term long p) span n₁ λ u n₂. both p

-- ------------------------------------------------------------------ substitution

module _ (mark : Text) (file : ℕ) (above : 0 < file) (as_long : AsLong file mark) where
  pub same_charge : {C D : Type 0} {S : C → D → Type 0} (limit : ℕ) (b : MacroBody) (span n : ℕ)
      {f : Unit {0} → Walk C} {f' : Unit {0} → Walk D}
      → ((u : Unit {0}) (m : ℕ) → Both S (f u m) (f' u m))
      → Both S (proceed (charge_body limit (mark_body mark b) span n) f) (proceed (charge_body limit b span n) f')
  unfolding charge_body
  same_charge limit b span n k = rw (mark_size mark b) (step_same (charge limit _ span n) k)

  twin_body : (limit : ℕ) (def : MacroDef) (span : ℕ) (name : Text) (args : CallArgs) (body : MacroBody) (n : ℕ)
      → Both (TwinTree (MadeName mark file))
      (substitute_body limit 0 (mark_def mark def) (mark_body mark body) (Call.MacroCall span name args) n)
      (substitute_body limit file def body (Call.MacroCall span name args) n)
  unfolding substitute_body maps_of mark_body mark_def check_arity ◌>>=◌ ◌>>◌
  twin_body limit def span name args MacroBody.Cedar n = both_refused
  twin_body limit def span name args (MacroBody.TemporalCondition c) n =
      step_same (check_arity def (length_args args) span n) λ u₁ n₁.
      same_charge limit (MacroBody.TemporalCondition c) span n₁ λ u₂ n₂.
      step (twin_substitute_condition mark file above as_long limit def.params span def.name args args
      (same_args args) c n₂) λ c' c'' n₃ p.
      both (TwinTree.condition p)
  twin_body limit def span name args (MacroBody.TemporalValue t) n =
      step_same (check_arity def (length_args args) span n) λ u₁ n₁.
      same_charge limit (MacroBody.TemporalValue t) span n₁ λ u₂ n₂.
      step (twin_substitute_value mark file above as_long limit def.params span def.name args args (same_args args) t n₂) λ t' t'' n₃ p.
      both (TwinTree.term p)

  pub twin_substitute : (limit : ℕ) (def : MacroDef) (call : Call)
      → Both (TwinTree (MadeName mark file)) (substitute limit 0 (mark_def mark def) call) (substitute limit file def call)
  unfolding substitute mark_def
  twin_substitute limit def (Call.MacroCall span name args) = twin_body limit def span name args def.body 0
