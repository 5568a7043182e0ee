-- Expansion with marked binders in file 0, and without marks in a file above 0, walked at once: the outcomes are the same but for the
-- names that the binders made.
-- Assumes nothing.
use Prim.Native.Nat.{ℕ, ◌<◌}
use mathlib.Core.Path.{◌≡◌, refl}
use mathlib.Core.List.{List, [], ◌∷◌}
use mathlib.Core.Bool.{Bool, true, false}
use mathlib.Core.Option.{Option, none, some}
use lib.ListN.{length}
use Rattle.format.specs.Entry.{Text}
use Rattle.format.specs.Ast.{Condition, Term, AggExpr, Call, CallArg, CallArgs, Tree, MacroBody, MacroDef}
use Rattle.format.specs.Flat.{length_args}
use Rattle.definition.specs.Text.{eq_text}
use Rattle.definition.specs.Outcome.{Walk, pure, refuse, ◌>>=◌, ◌>>◌}
use Rattle.definition.specs.Messages.{unknown_macro}
use Rattle.definition.specs.Check.{Verdict}
use Rattle.definition.specs.Registry.{get, check_reserved, check_duplicate, build_from, build}
use Rattle.definition.specs.Substitute.{check_arity, maps_of}
use Rattle.definition.specs.Expand.{Registry, check_concrete_within, check_concrete_slot, check_concrete_binders, check_concrete_fields, resolve, condition_body, value_body, is_value_body, calls_value, as_agg, as_condition_arg, as_term_arg, expand_temporal_condition, expand_temporal_agg, expand_temporal_operand, expand_agg_operand, expand_temporal_call_to_condition, expand_temporal_call_args, expand_temporal_call_arg, expand_condition_arg, expand_temporal_call_to_value, unless, expand_whole, expand}
use Rattle.definition.specs.Files.{AsLong}
use Rattle.definition.proofs.Twins.{TwinSlot, TwinBinder, TwinBinders, TwinCondition, TwinTerm, TwinAgg, TwinFields, TwinTree, TwinArg, same_arg, condition_arg, term_arg, TwinArgs, no_args, cons_arg, same_large_condition, same_large_call}
use Rattle.definition.proofs.MarkedBinders.{mark_condition, mark_term, mark_body, mark_def, mark_defs}
use Rattle.definition.proofs.MarkedSubstitute.{Both, both, both_refused, step, step_same, step_limits, MadeName, made_long, refined, twin_substitute_condition, twin_substitute_value, same_charge}

-- ------------------------------------------------------------------ the macro that is called

module _ (mark : Text) where
  pub data FoundDef : Option MacroDef → Option MacroDef → Type 0 where
    not_found : FoundDef none none
    found : (d : MacroDef) → FoundDef (some (mark_def mark d)) (some d)

  gets : (defs : List MacroDef) (name : Text) → FoundDef (get (mark_defs mark defs) name) (get defs name)
  unfolding get mark_defs mark_def
  gets [] name = not_found
  gets (d ∷ ds) name = go (eq_text d.name name) (gets ds name)
    where
      go : (b : Bool) → FoundDef (get (mark_defs mark ds) name) (get ds name)
          → FoundDef
          (elim b [ true ↦ some (mark_def mark d) | false ↦ get (mark_defs mark ds) name ])
          (elim b [ true ↦ some d | false ↦ get ds name ])
      go true h = found d
      go false h = h

  both_condition_body : (b : MacroBody) (name : Text) (span n : ℕ)
      → Both (λ (c c' : Condition). c ≡ mark_condition mark c') (condition_body (mark_body mark b) name span n)
      (condition_body b name span n)
  unfolding condition_body mark_body
  both_condition_body (MacroBody.TemporalCondition c) name span n = both refl
  both_condition_body MacroBody.Cedar name span n = both_refused
  both_condition_body (MacroBody.TemporalValue t) name span n = both_refused

  both_value_body : (b : MacroBody) (name : Text) (span n : ℕ)
      → Both (λ (t t' : Term). t ≡ mark_term mark t') (value_body (mark_body mark b) name span n) (value_body b name span n)
  unfolding value_body mark_body
  both_value_body (MacroBody.TemporalValue t) name span n = both refl
  both_value_body MacroBody.Cedar name span n = both_refused
  both_value_body (MacroBody.TemporalCondition c) name span n = both_refused

  same_kind : (b : MacroBody) → is_value_body (mark_body mark b) ≡ is_value_body b
  unfolding is_value_body mark_body
  same_kind MacroBody.Cedar = refl
  same_kind (MacroBody.TemporalCondition c) = refl
  same_kind (MacroBody.TemporalValue t) = refl

  same_duplicate : {o o' : Option MacroDef} (d : MacroDef) → FoundDef o o' → check_duplicate o (mark_def mark d) ≡ check_duplicate o' d
  unfolding check_duplicate mark_def
  same_duplicate d not_found = refl
  same_duplicate d (found e) = refl

  same_reserved : (d : MacroDef) → check_reserved (mark_def mark d) ≡ check_reserved d
  unfolding check_reserved mark_def
  same_reserved d = refl

  same_again : (seen : List MacroDef) (d : MacroDef)
      → check_duplicate (get (mark_defs mark seen) (mark_def mark d).name) (mark_def mark d) ≡ check_duplicate (get seen d.name) d
  unfolding mark_def
  same_again seen d = same_duplicate d (gets seen d.name)

  same_from : (seen defs : List MacroDef) → build_from (mark_defs mark seen) (mark_defs mark defs) ≡ build_from seen defs
  unfolding build_from mark_defs
  same_from seen [] = refl
  same_from seen (d ∷ ds) =
      rw (same_reserved d, same_again seen d, same_from (d ∷ seen) ds) refl

  same_build : (defs : List MacroDef) → build (mark_defs mark defs) ≡ build defs
  unfolding build mark_defs
  same_build defs = same_from [] defs

-- ------------------------------------------------------------------ the walk

module _ (mark : Text) (file : ℕ) (above : 0 < file) (as_long : AsLong file mark) (limit : ℕ) (defs : List MacroDef) where
  abbrev N : Text → Text → Type 0
  N = MadeName mark file

  long : (n n' : Text) → N n n' → length n ≡ length n'
  long = made_long mark file above as_long

  abbrev r : Registry
  r = record { defs = mark_defs mark defs; limit = limit; file = 0 }

  abbrev r' : Registry
  r' = record { defs = defs; limit = limit; file = file }

  twin_as_condition_arg : (w w' : Walk Condition) (n : ℕ) → Both (TwinCondition N) (w n) (w' n)
      → Both (TwinArg N) (as_condition_arg w n) (as_condition_arg w' n)
  unfolding as_condition_arg ◌>>=◌
  twin_as_condition_arg w w' n g = step g λ c c' n₁ p. both (condition_arg p)

  twin_as_term_arg : (w w' : Walk Term) (n : ℕ) → Both (TwinTerm N) (w n) (w' n) → Both (TwinArg N) (as_term_arg w n) (as_term_arg w' n)
  unfolding as_term_arg ◌>>=◌
  twin_as_term_arg w w' n g = step g λ t t' n₁ p. both (term_arg p)

  both_resolve : (name : Text) (span n : ℕ) → Both (λ (d d' : MacroDef). d ≡ mark_def mark d') (resolve r name span n)
      (resolve r' name span n)
  unfolding resolve
  both_resolve name span n = go (gets mark defs name)
    where
      go : {o o' : Option MacroDef} → FoundDef mark o o'
          → Both (λ (d d' : MacroDef). d ≡ mark_def mark d')
          ((elim o as (λ x. Walk MacroDef) [ some d ↦ pure d | none ↦ refuse 30 span (unknown_macro name) ]) n)
          ((elim o' as (λ x. Walk MacroDef) [ some d ↦ pure d | none ↦ refuse 30 span (unknown_macro name) ]) n)
      go not_found = both_refused
      go (found d) = both refl

  -- both know the same macros
  calls_same : (c : Call) → calls_value r c ≡ calls_value r' c
  unfolding calls_value mark_def
  calls_same (Call.MacroCall span name args) = go (gets mark defs name)
    where
      go : {o o' : Option MacroDef} → FoundDef mark o o'
          → ◌≡◌ {A = Bool}
          (elim o [ some d ↦ is_value_body d.body | none ↦ false ])
          (elim o' [ some d ↦ is_value_body d.body | none ↦ false ])
      go not_found = refl
      go (found d) = same_kind mark d.body

  mutual
    unfolding expand_temporal_condition as_agg ◌>>=◌ ◌>>◌ maps_of mark_body mark_def check_arity

    twin_condition : (c : Condition) (n : ℕ) → Both (TwinCondition N) (expand_temporal_condition r c n) (expand_temporal_condition r' c n)
    twin_condition (Condition.And s l x) n =
        step (twin_condition l n) λ l' l'' n₁ p.
        step (twin_condition x n₁) λ x' x'' n₂ q.
        both (TwinCondition.And p q)
    twin_condition (Condition.Or s l x) n =
        step (twin_condition l n) λ l' l'' n₁ p.
        step (twin_condition x n₁) λ x' x'' n₂ q.
        both (TwinCondition.Or p q)
    twin_condition (Condition.Not s c) n = step (twin_condition c n) λ c' c'' n₁ p. both (TwinCondition.Not p)
    twin_condition (Condition.Formerly s w c) n =
        step_same (check_concrete_within w s n) λ u n₁. step (twin_condition c n₁) λ c' c'' n₂ p. both (TwinCondition.Formerly p)
    twin_condition (Condition.Previous s w c) n =
        step_same (check_concrete_within w s n) λ u n₁. step (twin_condition c n₁) λ c' c'' n₂ p. both (TwinCondition.Previous p)
    twin_condition (Condition.Since s l w x) n =
        step_same (check_concrete_within w s n) λ u n₁.
        step (twin_condition l n₁) λ l' l'' n₂ p.
        step (twin_condition x n₂) λ x' x'' n₃ q.
        both (TwinCondition.Since p q)
    twin_condition (Condition.Predicate s o ns a k fs) n =
        step_same (check_concrete_fields fs s n) λ u n₁. both TwinCondition.same_condition
    twin_condition (Condition.Tp s v) n = step_same (check_concrete_slot v s n) λ u n₁. both TwinCondition.same_condition
    twin_condition (Condition.Comparison s op l x) n =
        step (twin_operand l n) λ l' l'' n₁ p.
        step (twin_operand x n₁) λ x' x'' n₂ q.
        both (TwinCondition.Comparison p q)
    twin_condition (Condition.Exists s b c) n =
        step_same (check_concrete_slot b.slot s n) λ u n₁.
        step (twin_condition c n₁) λ c' c'' n₂ p.
        both (TwinCondition.Exists (TwinBinder.typed TwinSlot.same_slot) p)
    twin_condition (Condition.ConditionCall s c) n = twin_call_to_condition c n
    twin_condition (Condition.SigilRef s g k) n = both_refused
    twin_condition (Condition.Refine s o c fs) n =
        step (twin_condition c n) λ c' c'' n₁ p. refined p (TwinFields.same_fields {fs = fs}) o n₁

    twin_operand : (t : Term) (n : ℕ) → Both (TwinTerm N) (expand_temporal_operand r t n) (expand_temporal_operand r' t n)
    twin_operand (Term.Agg a) n = twin_agg a n
    twin_operand (Term.Arith op l x) n =
        step (twin_operand l n) λ l' l'' n₁ p.
        step (twin_operand x n₁) λ x' x'' n₂ q.
        both (TwinTerm.Arith p q)
    twin_operand (Term.ParamRef k) n = both_refused
    twin_operand (Term.BinderRef k) n = both_refused
    twin_operand (Term.Entity ty id) n = both TwinTerm.same_term
    twin_operand (Term.Integer k) n = both TwinTerm.same_term
    twin_operand (Term.Decimal t) n = both TwinTerm.same_term
    twin_operand (Term.String t) n = both TwinTerm.same_term
    twin_operand (Term.Bool b) n = both TwinTerm.same_term
    twin_operand (Term.ContextField path) n = both TwinTerm.same_term
    twin_operand (Term.ScopeField path) n = both TwinTerm.same_term
    twin_operand (Term.Var k) n = both TwinTerm.same_term
    twin_operand Term.Wildcard n = both TwinTerm.same_term
    twin_operand (Term.Array ts) n = both TwinTerm.same_term

    twin_agg : (a : AggExpr) (n : ℕ)
        → Both (TwinTerm N) (expand_agg_operand r a (expand_temporal_agg r a) n) (expand_agg_operand r' a (expand_temporal_agg r' a) n)
    twin_agg (AggExpr.AggCall s c) n = twin_call_to_value c n
    twin_agg (AggExpr.Sum s v bs c) n =
        step {R = TwinAgg N}
        (step_same (check_concrete_slot v s n) λ u n₁.
        step_same (check_concrete_binders bs s n₁) λ u' n₂.
        step (twin_condition c n₂) λ c' c'' n₃ p.
        both (TwinAgg.Sum TwinSlot.same_slot TwinBinders.same_binders p))
        λ a' a'' n₄ p. both (TwinTerm.Agg p)
    twin_agg (AggExpr.Count s bs c) n =
        step {R = TwinAgg N}
        (step_same (check_concrete_binders bs s n) λ u n₁.
        step (twin_condition c n₁) λ c' c'' n₂ p.
        both (TwinAgg.Count TwinBinders.same_binders p))
        λ a' a'' n₃ p. both (TwinTerm.Agg p)

    twin_call_to_condition : (c : Call) (n : ℕ)
        → Both (TwinCondition N) (expand_temporal_call_to_condition r c n) (expand_temporal_call_to_condition r' c n)
    twin_call_to_condition (Call.MacroCall span name args) n =
        step (both_resolve name span n) λ d def n₁ e.
        rw e (step (both_condition_body mark def.body name span n₁) λ b body n₂ e'.
        rw e' (step_same (check_arity def (length_args args) span n₂) λ u₃ n₃.
        step (twin_args args n₃) λ args' args'' n₄ p.
        step_limits (same_large_call long span name p) span n₄ λ u₅ n₅.
        same_charge mark file above as_long limit (MacroBody.TemporalCondition body) span n₅ λ u₆ n₆.
        twin_substitute_condition mark file above as_long limit def.params span def.name args' args'' p body n₆))

    twin_call_to_value : (c : Call) (n : ℕ) → Both (TwinTerm N) (expand_temporal_call_to_value r c n)
        (expand_temporal_call_to_value r' c n)
    twin_call_to_value (Call.MacroCall span name args) n =
        step (both_resolve name span n) λ d def n₁ e.
        rw e (step (both_value_body mark def.body name span n₁) λ b body n₂ e'.
        rw e' (step_same (check_arity def (length_args args) span n₂) λ u₃ n₃.
        step (twin_args args n₃) λ args' args'' n₄ p.
        step_limits (same_large_call long span name p) span n₄ λ u₅ n₅.
        same_charge mark file above as_long limit (MacroBody.TemporalValue body) span n₅ λ u₆ n₆.
        twin_substitute_value mark file above as_long limit def.params span def.name args' args'' p body n₆))

    twin_args : (args : CallArgs) (n : ℕ) → Both (TwinArgs N) (expand_temporal_call_args r args n) (expand_temporal_call_args r' args n)
    twin_args CallArgs.no_args n = both no_args
    twin_args (CallArgs.cons_arg a rest) n =
        step (twin_arg a n) λ a' a'' n₁ p.
        step (twin_args rest n₁) λ rest' rest'' n₂ q.
        both (cons_arg p q)

    twin_arg : (a : CallArg) (n : ℕ) → Both (TwinArg N) (expand_temporal_call_arg r a n) (expand_temporal_call_arg r' a n)
    twin_arg (CallArg.ConditionArg c) n = twin_condition_arg c n (twin_condition c n)
    twin_arg (CallArg.TermArg t) n = twin_as_term_arg (expand_temporal_operand r t) (expand_temporal_operand r' t) n (twin_operand t n)
    twin_arg (CallArg.WithinArg i) n = both same_arg

    twin_condition_arg : (c : Condition) (n : ℕ) → Both (TwinCondition N) (expand_temporal_condition r c n)
        (expand_temporal_condition r' c n)
        → Both (TwinArg N) (expand_condition_arg r c (expand_temporal_condition r c) n)
        (expand_condition_arg r' c (expand_temporal_condition r' c) n)
    twin_condition_arg (Condition.ConditionCall s c) n g =
        rw (calls_same c, expand_condition_arg) (go (calls_value r' c) (twin_call_to_value c n))
      where
        go : (b : Bool) → Both (TwinTerm N) (expand_temporal_call_to_value r c n) (expand_temporal_call_to_value r' c n)
            → Both (TwinArg N)
            ((elim b as (λ x. Walk CallArg) [
              | true ↦ as_term_arg (expand_temporal_call_to_value r c)
              | false ↦ as_condition_arg (expand_temporal_condition r (Condition.ConditionCall s c))
            ]) n)
            ((elim b as (λ x. Walk CallArg) [
              | true ↦ as_term_arg (expand_temporal_call_to_value r' c)
              | false ↦ as_condition_arg (expand_temporal_condition r' (Condition.ConditionCall s c))
            ]) n)
        go true v = twin_as_term_arg (expand_temporal_call_to_value r c) (expand_temporal_call_to_value r' c) n v
        go false v = twin_as_condition_arg _ _ n g
    twin_condition_arg (Condition.And s l x) n g = twin_as_condition_arg _ _ n g
    twin_condition_arg (Condition.Or s l x) n g = twin_as_condition_arg _ _ n g
    twin_condition_arg (Condition.Not s c) n g = twin_as_condition_arg _ _ n g
    twin_condition_arg (Condition.Formerly s w c) n g = twin_as_condition_arg _ _ n g
    twin_condition_arg (Condition.Previous s w c) n g = twin_as_condition_arg _ _ n g
    twin_condition_arg (Condition.Since s l w x) n g = twin_as_condition_arg _ _ n g
    twin_condition_arg (Condition.Predicate s o ns a k fs) n g = twin_as_condition_arg _ _ n g
    twin_condition_arg (Condition.Comparison s op l x) n g = twin_as_condition_arg _ _ n g
    twin_condition_arg (Condition.Exists s b c) n g = twin_as_condition_arg _ _ n g
    twin_condition_arg (Condition.Tp s v) n g = twin_as_condition_arg _ _ n g
    twin_condition_arg (Condition.SigilRef s v k) n g = twin_as_condition_arg _ _ n g
    twin_condition_arg (Condition.Refine s o c fs) n g = twin_as_condition_arg _ _ n g

  twin_whole : (c : Condition) (n : ℕ) → Both (TwinTree N) (expand_whole r c n) (expand_whole r' c n)
  unfolding expand_whole ◌>>=◌ ◌>>◌
  twin_whole c n =
      step (twin_condition c n) λ c' c'' n₁ p.
      step_limits (same_large_condition long p) 0 n₁ λ u n₂.
      both (TwinTree.condition p)

  twin_unless : (v : Verdict) (w w' : Walk Tree) (n : ℕ) → Both (TwinTree N) (w n) (w' n)
      → Both (TwinTree N) (unless v w n) (unless v w' n)
  unfolding unless
  twin_unless none w w' n g = g
  twin_unless (some x) w w' n g = both_refused

  pub twin_expand : (c : Condition) → Both (TwinTree N) (expand limit 0 (mark_defs mark defs) c) (expand limit file defs c)
  unfolding expand
  twin_expand c = rw (same_build mark defs) (twin_unless (build defs) _ _ 0 (twin_whole c 0))
