-- Expansion with days and weeks exchanged, walked beside the one as given: the outcomes are the same but for that.
-- Assumes nothing.
use Prim.Native.Nat.{ℕ}
use mathlib.Core.Path.{◌≡◌, refl, ap}
use mathlib.Core.List.{List, [], ◌∷◌}
use mathlib.Core.Bool.{Bool, true, false}
use mathlib.Core.Option.{Option, none, some}
use Rattle.format.specs.Entry.{Text}
use Rattle.format.specs.Ast.{WithinSpec, Condition, Term, AggExpr, Call, CallArg, CallArgs, NamedArgs, Terms, MacroBody, MacroDef}
use Rattle.format.specs.Replace.{replace_condition, replace_term, replace_agg, replace_call, replace_arg, replace_args, replace_fields, replace_terms, replace_tree, replace_body, replace_def, replace_defs}
use Rattle.definition.specs.Text.{eq_text}
use Rattle.definition.specs.Outcome.{Walk, pure, refuse, ◌>>=◌, ◌>>◌}
use Rattle.definition.specs.Messages.{unknown_macro}
use Rattle.definition.specs.Check.{Verdict}
use Rattle.definition.specs.Registry.{get, build}
use Rattle.definition.specs.Substitute.{check_limits, maps_of}
use Rattle.definition.specs.Expand.{Registry, check_concrete_within, check_concrete_term, check_concrete_terms, check_concrete_fields, resolve, condition_body, value_body, is_value_body, calls_value, as_agg, as_condition_arg, as_term_arg, expand_temporal_condition, expand_temporal_agg, expand_temporal_operand, expand_agg_operand, expand_temporal_call_to_condition, expand_temporal_call_args, expand_temporal_call_arg, expand_condition_arg, expand_temporal_call_to_value, unless, expand_whole, expand}
use Rattle.definition.specs.Weeks.{exchanged_within, exchanged}
use Rattle.definition.proofs.SameVerdicts.{build_unseen}
use Rattle.definition.proofs.Exchanged.{large_condition, large_call}
use Rattle.definition.proofs.ExchangedSubstitute.{Mapped, mapped, mapped_refused, step, step_same, FoundBoth, not_found, found, refined, both_substitute_condition, both_substitute_value, same_arity, same_charge_condition, same_charge_value}

-- ------------------------------------------------------------------ stray sigils

same_within : (w : WithinSpec) (s n : ℕ) → check_concrete_within (exchanged_within w) s n ≡ check_concrete_within w s n
unfolding check_concrete_within exchanged_within
same_within (WithinSpec.Concrete i) s n = refl
same_within (WithinSpec.ParamRef k) s n = refl

mutual
  unfolding check_concrete_term replace_term

  same_term : (t : Term) (s : ℕ) → check_concrete_term (replace_term exchanged t) s ≡ check_concrete_term t s
  same_term (Term.ParamRef n) s = refl
  same_term (Term.BinderRef n) s = refl
  same_term (Term.Array ts) s = same_terms ts s
  same_term (Term.Entity ty id) s = refl
  same_term (Term.Integer n) s = refl
  same_term (Term.Decimal t) s = refl
  same_term (Term.String t) s = refl
  same_term (Term.Bool b) s = refl
  same_term (Term.ContextField path) s = refl
  same_term (Term.ScopeField path) s = refl
  same_term (Term.Var n) s = refl
  same_term Term.Wildcard s = refl
  same_term (Term.Agg a) s = refl
  same_term (Term.Arith op l r) s = refl

  same_terms : (ts : Terms) (s : ℕ) → check_concrete_terms (replace_terms exchanged ts) s ≡ check_concrete_terms ts s
  same_terms Terms.no_terms s = refl
  same_terms (Terms.cons_term t ts) s = rw (same_term t s, same_terms ts s) refl

same_fields : (fs : NamedArgs) (s : ℕ) → check_concrete_fields (replace_fields exchanged fs) s ≡ check_concrete_fields fs s
unfolding check_concrete_fields replace_fields
same_fields NamedArgs.no_fields s = refl
same_fields (NamedArgs.cons_field n t fs) s = rw (same_term t s, same_fields fs s) refl

-- ------------------------------------------------------------------ the macro that is called

gets : (defs : List MacroDef) (name : Text) → FoundBoth (replace_def exchanged) (get defs name) (get (replace_defs exchanged defs) name)
unfolding get replace_defs replace_def
gets [] name = not_found
gets (d ∷ ds) name = go (eq_text d.name name) (gets ds name)
  where
    go : (b : Bool) → FoundBoth (replace_def exchanged) (get ds name) (get (replace_defs exchanged ds) name)
        → FoundBoth (replace_def exchanged)
        (elim b [ true ↦ some d | false ↦ get ds name ])
        (elim b [ true ↦ some (replace_def exchanged d) | false ↦ get (replace_defs exchanged ds) name ])
    go true h = found refl
    go false h = h

both_condition_body : (b : MacroBody) (name : Text) (span n : ℕ)
    → Mapped (replace_condition exchanged) (condition_body b name span n) (condition_body (replace_body exchanged b) name span n)
unfolding condition_body replace_body
both_condition_body (MacroBody.TemporalCondition c) name span n = mapped refl
both_condition_body MacroBody.Cedar name span n = mapped_refused
both_condition_body (MacroBody.TemporalValue t) name span n = mapped_refused

both_value_body : (b : MacroBody) (name : Text) (span n : ℕ)
    → Mapped (replace_term exchanged) (value_body b name span n) (value_body (replace_body exchanged b) name span n)
unfolding value_body replace_body
both_value_body (MacroBody.TemporalValue t) name span n = mapped refl
both_value_body MacroBody.Cedar name span n = mapped_refused
both_value_body (MacroBody.TemporalCondition c) name span n = mapped_refused

same_kind : (b : MacroBody) → is_value_body (replace_body exchanged b) ≡ is_value_body b
unfolding is_value_body replace_body
same_kind MacroBody.Cedar = refl
same_kind (MacroBody.TemporalCondition c) = refl
same_kind (MacroBody.TemporalValue t) = refl

both_as_condition_arg : (w w' : Walk Condition) (n : ℕ) → Mapped (replace_condition exchanged) (w n) (w' n)
    → Mapped (replace_arg exchanged) (as_condition_arg w n) (as_condition_arg w' n)
unfolding as_condition_arg replace_arg ◌>>=◌
both_as_condition_arg w w' n g = step _ g λ c n₁. mapped refl

both_as_term_arg : (w w' : Walk Term) (n : ℕ) → Mapped (replace_term exchanged) (w n) (w' n)
    → Mapped (replace_arg exchanged) (as_term_arg w n) (as_term_arg w' n)
unfolding as_term_arg replace_arg ◌>>=◌
both_as_term_arg w w' n g = step _ g λ t n₁. mapped refl

-- ------------------------------------------------------------------ the walk

module _ (file limit : ℕ) (defs : List MacroDef) where
  abbrev r : Registry
  r = record { defs = defs; limit = limit; file = file }

  abbrev r' : Registry
  r' = record { defs = replace_defs exchanged defs; limit = limit; file = file }

  both_resolve : (name : Text) (span n : ℕ) → Mapped (replace_def exchanged) (resolve r name span n) (resolve r' name span n)
  unfolding resolve
  both_resolve name span n = go (gets defs name)
    where
      go : {o o' : Option MacroDef} → FoundBoth (replace_def exchanged) o o'
          → Mapped (replace_def exchanged)
          ((elim o as (λ x. Walk MacroDef) [ some d ↦ pure d | none ↦ refuse 30 span (unknown_macro name) ]) n)
          ((elim o' as (λ x. Walk MacroDef) [ some d ↦ pure d | none ↦ refuse 30 span (unknown_macro name) ]) n)
      go not_found = mapped_refused
      go (found e) = mapped e

  same_calls : (c : Call) → calls_value r' (replace_call exchanged c) ≡ calls_value r c
  unfolding calls_value replace_call replace_def
  same_calls (Call.MacroCall span name args) = go (gets defs name)
    where
      go : {o o' : Option MacroDef} → FoundBoth (replace_def exchanged) o o'
          → ◌≡◌ {A = Bool}
          (elim o' [ some d ↦ is_value_body d.body | none ↦ false ])
          (elim o [ some d ↦ is_value_body d.body | none ↦ false ])
      go not_found = refl
      go (found {a = d} e) = rw e (same_kind d.body)

  mutual
    unfolding expand_temporal_condition replace_condition replace_def exchanged as_agg maps_of ◌>>=◌ ◌>>◌

    both_condition : (c : Condition) (n : ℕ)
        → Mapped (replace_condition exchanged) (expand_temporal_condition r c n) (expand_temporal_condition r' (replace_condition exchanged c) n)
    both_condition (Condition.And s l x) n = step _ (both_condition l n) λ l' n₁. step _ (both_condition x n₁) λ x' n₂. mapped refl
    both_condition (Condition.Or s l x) n = step _ (both_condition l n) λ l' n₁. step _ (both_condition x n₁) λ x' n₂. mapped refl
    both_condition (Condition.Not s c) n = step _ (both_condition c n) λ c' n₁. mapped refl
    both_condition (Condition.Formerly s w c) n = step_same (same_within w s n) λ u n₁. step _ (both_condition c n₁) λ c' n₂. mapped refl
    both_condition (Condition.Previous s w c) n = step_same (same_within w s n) λ u n₁. step _ (both_condition c n₁) λ c' n₂. mapped refl
    both_condition (Condition.Since s l w x) n =
        step_same (same_within w s n) λ u n₁.
        step _ (both_condition l n₁) λ l' n₂.
        step _ (both_condition x n₂) λ x' n₃.
        mapped refl
    both_condition (Condition.Predicate s o ns a k fs) n =
        step_same (ap (λ (w : Walk (Unit {0})). w n) (same_fields fs s)) λ u n₁. mapped refl
    both_condition (Condition.Tp s v) n = step_same refl λ u n₁. mapped refl
    both_condition (Condition.Comparison s op l x) n = step _ (both_operand l n) λ l' n₁. step _ (both_operand x n₁) λ x' n₂. mapped refl
    both_condition (Condition.Exists s b c) n = step_same refl λ u n₁. step _ (both_condition c n₁) λ c' n₂. mapped refl
    both_condition (Condition.ConditionCall s c) n = both_call_to_condition c n
    both_condition (Condition.SigilRef s g k) n = mapped_refused
    both_condition (Condition.Refine s o c fs) n = step _ (both_condition c n) λ c' n₁. refined c' fs o n₁

    both_operand : (t : Term) (n : ℕ)
        → Mapped (replace_term exchanged) (expand_temporal_operand r t n) (expand_temporal_operand r' (replace_term exchanged t) n)
    both_operand (Term.Agg a) n = both_agg a n
    both_operand (Term.Arith op l x) n = step _ (both_operand l n) λ l' n₁. step _ (both_operand x n₁) λ x' n₂. mapped refl
    both_operand (Term.ParamRef k) n = mapped_refused
    both_operand (Term.BinderRef k) n = mapped_refused
    both_operand (Term.Entity ty id) n = mapped refl
    both_operand (Term.Integer k) n = mapped refl
    both_operand (Term.Decimal t) n = mapped refl
    both_operand (Term.String t) n = mapped refl
    both_operand (Term.Bool b) n = mapped refl
    both_operand (Term.ContextField path) n = mapped refl
    both_operand (Term.ScopeField path) n = mapped refl
    both_operand (Term.Var k) n = mapped refl
    both_operand Term.Wildcard n = mapped refl
    both_operand (Term.Array ts) n = mapped refl

    both_agg : (a : AggExpr) (n : ℕ)
        → Mapped (replace_term exchanged)
        (expand_agg_operand r a (expand_temporal_agg r a) n)
        (expand_agg_operand r' (replace_agg exchanged a) (expand_temporal_agg r' (replace_agg exchanged a)) n)
    both_agg (AggExpr.AggCall s c) n = both_call_to_value c n
    both_agg (AggExpr.Sum s v bs c) n =
        step {f = replace_agg exchanged} _
        (step_same refl λ u n₁.
        step_same refl λ u' n₂.
        step _ (both_condition c n₂) λ c' n₃.
        mapped refl)
        λ a' n₄. mapped refl
    both_agg (AggExpr.Count s bs c) n =
        step {f = replace_agg exchanged} _
        (step_same refl λ u n₁.
        step _ (both_condition c n₁) λ c' n₂.
        mapped refl)
        λ a' n₃. mapped refl

    both_call_to_condition : (c : Call) (n : ℕ)
        → Mapped (replace_condition exchanged)
        (expand_temporal_call_to_condition r c n)
        (expand_temporal_call_to_condition r' (replace_call exchanged c) n)
    both_call_to_condition (Call.MacroCall span name args) n =
        step _ (both_resolve name span n) λ def n₁.
        step _ (both_condition_body def.body name span n₁) λ body n₂.
        step_same (same_arity def args span n₂) λ u₃ n₃.
        step _ (both_args args n₃) λ args' n₄.
        step_same (ap (λ (large : Bool). check_limits large span n₄) (large_call (Call.MacroCall span name args'))) λ u₅ n₅.
        step_same (same_charge_condition limit body span n₅) λ u₆ n₆.
        both_substitute_condition file limit def.params span def.name args' body n₆

    both_call_to_value : (c : Call) (n : ℕ)
        → Mapped (replace_term exchanged) (expand_temporal_call_to_value r c n) (expand_temporal_call_to_value r' (replace_call exchanged c) n)
    both_call_to_value (Call.MacroCall span name args) n =
        step _ (both_resolve name span n) λ def n₁.
        step _ (both_value_body def.body name span n₁) λ body n₂.
        step_same (same_arity def args span n₂) λ u₃ n₃.
        step _ (both_args args n₃) λ args' n₄.
        step_same (ap (λ (large : Bool). check_limits large span n₄) (large_call (Call.MacroCall span name args'))) λ u₅ n₅.
        step_same (same_charge_value limit body span n₅) λ u₆ n₆.
        both_substitute_value file limit def.params span def.name args' body n₆

    both_args : (args : CallArgs) (n : ℕ)
        → Mapped (replace_args exchanged) (expand_temporal_call_args r args n) (expand_temporal_call_args r' (replace_args exchanged args) n)
    both_args CallArgs.no_args n = mapped refl
    both_args (CallArgs.cons_arg a rest) n = step _ (both_arg a n) λ a' n₁. step _ (both_args rest n₁) λ rest' n₂. mapped refl

    both_arg : (a : CallArg) (n : ℕ)
        → Mapped (replace_arg exchanged) (expand_temporal_call_arg r a n) (expand_temporal_call_arg r' (replace_arg exchanged a) n)
    both_arg (CallArg.ConditionArg c) n = both_condition_arg c n (both_condition c n)
    both_arg (CallArg.TermArg t) n = both_as_term_arg _ _ n (both_operand t n)
    both_arg (CallArg.WithinArg i) n = mapped refl

    both_condition_arg : (c : Condition) (n : ℕ)
        → Mapped (replace_condition exchanged) (expand_temporal_condition r c n) (expand_temporal_condition r' (replace_condition exchanged c) n)
        → Mapped (replace_arg exchanged)
        (expand_condition_arg r c (expand_temporal_condition r c) n)
        (expand_condition_arg r' (replace_condition exchanged c) (expand_temporal_condition r' (replace_condition exchanged c)) n)
    both_condition_arg (Condition.ConditionCall s c) n g = rw (same_calls c, expand_condition_arg) (go (calls_value r c) (both_call_to_value c n))
      where
        go : (b : Bool)
            → Mapped (replace_term exchanged) (expand_temporal_call_to_value r c n) (expand_temporal_call_to_value r' (replace_call exchanged c) n)
            → Mapped (replace_arg exchanged)
            ((elim b as (λ x. Walk CallArg) [
              | true ↦ as_term_arg (expand_temporal_call_to_value r c)
              | false ↦ as_condition_arg (expand_temporal_condition r (Condition.ConditionCall s c))
            ]) n)
            ((elim b as (λ x. Walk CallArg) [
              | true ↦ as_term_arg (expand_temporal_call_to_value r' (replace_call exchanged c))
              | false ↦ as_condition_arg (expand_temporal_condition r' (Condition.ConditionCall s (replace_call exchanged c)))
            ]) n)
        go true v = both_as_term_arg _ _ n v
        go false v = both_as_condition_arg _ _ n g
    both_condition_arg (Condition.And s l x) n g = both_as_condition_arg _ _ n g
    both_condition_arg (Condition.Or s l x) n g = both_as_condition_arg _ _ n g
    both_condition_arg (Condition.Not s c) n g = both_as_condition_arg _ _ n g
    both_condition_arg (Condition.Formerly s w c) n g = both_as_condition_arg _ _ n g
    both_condition_arg (Condition.Previous s w c) n g = both_as_condition_arg _ _ n g
    both_condition_arg (Condition.Since s l w x) n g = both_as_condition_arg _ _ n g
    both_condition_arg (Condition.Predicate s o ns a k fs) n g = both_as_condition_arg _ _ n g
    both_condition_arg (Condition.Comparison s op l x) n g = both_as_condition_arg _ _ n g
    both_condition_arg (Condition.Exists s b c) n g = both_as_condition_arg _ _ n g
    both_condition_arg (Condition.Tp s v) n g = both_as_condition_arg _ _ n g
    both_condition_arg (Condition.SigilRef s v k) n g = both_as_condition_arg _ _ n g
    both_condition_arg (Condition.Refine s o c fs) n g = both_as_condition_arg _ _ n g

  -- ------------------------------------------------------------------ the operation

  both_whole : (c : Condition) (n : ℕ)
      → Mapped (replace_tree exchanged) (expand_whole r c n) (expand_whole r' (replace_condition exchanged c) n)
  unfolding expand_whole replace_tree ◌>>=◌ ◌>>◌
  both_whole c n =
      step _ (both_condition c n) λ c' n₁.
      step_same (ap (λ (large : Bool). check_limits large 0 n₁) (large_condition c')) λ u n₂.
      mapped refl

both_unless : {A B : Type 0} {f : A → B} (v : Verdict) (w : Walk A) (w' : Walk B) (n : ℕ)
    → Mapped f (w n) (w' n) → Mapped f (unless v w n) (unless v w' n)
unfolding unless
both_unless none w w' n g = g
both_unless (some x) w w' n g = mapped_refused

pub both_expand : (limit file : ℕ) (defs : List MacroDef) (c : Condition)
    → Mapped (replace_tree exchanged)
    (expand limit file defs c)
    (expand limit file (replace_defs exchanged defs) (replace_condition exchanged c))
unfolding expand
both_expand limit file defs c =
    rw (build_unseen exchanged defs, expand) (both_unless (build defs) _ _ 0 (both_whole file limit defs c 0))
