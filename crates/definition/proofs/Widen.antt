-- A registry that finds all that another finds: expansion with it comes to the same, unless the other one gives 30.
-- Assumes nothing.
use Prim.Native.Nat.{ℕ}
use mathlib.Core.Path.{◌≡◌, refl, sym, subst}
use mathlib.Core.List.{List}
use mathlib.Core.Bool.{Bool, true, false}
use mathlib.Core.Option.{Option, none, some}
use Rattle.format.specs.Entry.{Text}
use Rattle.format.specs.Ast.{Condition, Term, AggExpr, Call, CallArg, CallArgs, MacroDef}
use Rattle.definition.specs.Outcome.{Refusal, Outcome, Walk, pure, refuse, proceed, ◌>>=◌, ◌>>◌}
use Rattle.definition.specs.Messages.{unknown_macro}
use Rattle.definition.specs.Registry.{get, build}
use Rattle.definition.specs.Expand.{Registry, resolve, is_value_body, calls_value, as_agg, as_condition_arg, as_term_arg, expand_temporal_condition, expand_temporal_agg, expand_temporal_operand, expand_agg_operand, expand_temporal_call_to_condition, expand_temporal_call_args, expand_temporal_call_arg, expand_condition_arg, expand_temporal_call_to_value, unless, expand_whole, expand}

-- the second outcome is the first, or the first is a 30
pub data Unknown {A : Type 0} : Outcome A → Type 0 where
  unknown : {r : Refusal} {n : ℕ} → r.number ≡ 30 → Unknown (Outcome.refused r n)

pub data Alike {A : Type 0} : Outcome A → Outcome A → Type 0 where
  alike : {o : Outcome A} → Alike o o
  differ : {o p : Outcome A} → Unknown o → Alike o p

-- one line of a `do`
stays : {A B : Type 0} {o : Outcome A} (f : A → Walk B) → Unknown o → Unknown (proceed o f)
unfolding proceed
stays f (unknown e) = unknown e

next : {A B : Type 0} {o p : Outcome A} {f g : A → Walk B} → Alike o p → ((a : A) (n : ℕ) → Alike (f a n) (g a n)) → Alike (proceed o f) (proceed p g)
unfolding proceed
next {o = Outcome.done a n} alike k = k a n
next {o = Outcome.refused r n} alike k = alike
next (differ u) k = differ (stays _ u)

module _ (limit file : ℕ) (few many : List MacroDef) (more : (name : Text) (d : MacroDef) → get few name ≡ some d → get many name ≡ some d) where
  abbrev small : Registry
  small = record { defs = few; limit = limit; file = file }

  abbrev large : Registry
  large = record { defs = many; limit = limit; file = file }

  abbrev Find : (name : Text) (span : ℕ) → Option MacroDef → Walk MacroDef
  Find name span o = elim o [ some d ↦ pure d | none ↦ refuse 30 span (unknown_macro name) ]

  of_resolve : (name : Text) (span n : ℕ) → Alike (resolve small name span n) (resolve large name span n)
  unfolding resolve
  of_resolve name span n = go (get few name) refl
    where
      go : (o : Option MacroDef) → get few name ≡ o → Alike (Find name span o n) (Find name span (get many name) n)
      go none e = differ (unknown refl)
      go (some d) e = subst (λ (o : Option MacroDef). Alike (Find name span (some d) n) (Find name span o n)) (sym (more name d e)) alike

  as_condition_lem : (v w : Walk Condition) (n : ℕ) → Alike (v n) (w n) → Alike (as_condition_arg v n) (as_condition_arg w n)
  unfolding as_condition_arg ◌>>=◌
  as_condition_lem v w n h = next h λ c n₁. alike

  as_term_lem : (v w : Walk Term) (n : ℕ) → Alike (v n) (w n) → Alike (as_term_arg v n) (as_term_arg w n)
  unfolding as_term_arg ◌>>=◌
  as_term_lem v w n h = next h λ t n₁. alike

  abbrev Value : Option MacroDef → Bool
  Value o = elim o [ some d ↦ is_value_body d.body | none ↦ false ]

  abbrev Choose : Bool → Walk Term → Walk Condition → Walk CallArg
  Choose b v c = elim b [ true ↦ as_term_arg v | false ↦ as_condition_arg c ]

  unknown_name : (name : Text) (span n : ℕ) → get few name ≡ none → Unknown (resolve small name span n)
  unfolding resolve
  unknown_name name span n e = subst (λ (o : Option MacroDef). Unknown (Find name span o n)) (sym e) (unknown refl)

  unknown_arg : (span : ℕ) (name : Text) (args : CallArgs) (n : ℕ) → get few name ≡ none
      → Unknown (as_condition_arg (expand_temporal_call_to_condition small (Call.MacroCall span name args)) n)
  unfolding as_condition_arg expand_temporal_call_to_condition ◌>>=◌
  unknown_arg span name args n e = stays _ (stays _ (unknown_name name span n e))

  mutual
    unfolding calls_value expand_temporal_condition as_agg ◌>>=◌ ◌>>◌

    of_condition : (c : Condition) (n : ℕ) → Alike (expand_temporal_condition small c n) (expand_temporal_condition large c n)
    of_condition (Condition.And s l r) n = next (of_condition l n) λ l' n₁. next (of_condition r n₁) λ r' n₂. alike
    of_condition (Condition.Or s l r) n = next (of_condition l n) λ l' n₁. next (of_condition r n₁) λ r' n₂. alike
    of_condition (Condition.Not s c) n = next (of_condition c n) λ c' n₁. alike
    of_condition (Condition.Formerly s w c) n = next alike λ u n₁. next (of_condition c n₁) λ c' n₂. alike
    of_condition (Condition.Previous s w c) n = next alike λ u n₁. next (of_condition c n₁) λ c' n₂. alike
    of_condition (Condition.Since s l w r) n =
        next alike λ u n₁. next (of_condition l n₁) λ l' n₂. next (of_condition r n₂) λ r' n₃. alike
    of_condition (Condition.Comparison s op l r) n = next (of_operand l n) λ l' n₁. next (of_operand r n₁) λ r' n₂. alike
    of_condition (Condition.Exists s b c) n = next alike λ u n₁. next (of_condition c n₁) λ c' n₂. alike
    of_condition (Condition.ConditionCall s c) n = of_call_to_condition c n
    of_condition (Condition.Refine s o c fs) n = next (of_condition c n) λ c' n₁. alike
    of_condition (Condition.Predicate s o ns a k fs) n = alike
    of_condition (Condition.Tp s v) n = alike
    of_condition (Condition.SigilRef s g i) n = alike

    of_operand : (t : Term) (n : ℕ) → Alike (expand_temporal_operand small t n) (expand_temporal_operand large t n)
    of_operand (Term.Agg a) n = of_agg a n
    of_operand (Term.Arith op l r) n = next (of_operand l n) λ l' n₁. next (of_operand r n₁) λ r' n₂. alike
    of_operand (Term.ParamRef i) n = alike
    of_operand (Term.BinderRef i) n = alike
    of_operand (Term.Entity ty id) n = alike
    of_operand (Term.Integer i) n = alike
    of_operand (Term.Decimal t) n = alike
    of_operand (Term.String t) n = alike
    of_operand (Term.Bool b) n = alike
    of_operand (Term.ContextField path) n = alike
    of_operand (Term.ScopeField path) n = alike
    of_operand (Term.Var i) n = alike
    of_operand Term.Wildcard n = alike
    of_operand (Term.Array ts) n = alike

    of_agg : (a : AggExpr) (n : ℕ) → Alike (expand_agg_operand small a (expand_temporal_agg small a) n) (expand_agg_operand large a (expand_temporal_agg large a) n)
    of_agg (AggExpr.AggCall s c) n = of_call_to_value c n
    of_agg (AggExpr.Sum s v bs c) n =
        next (next alike λ u n₁. next alike λ u' n₂. next (of_condition c n₂) λ c' n₃. alike) λ a n₄. alike
    of_agg (AggExpr.Count s bs c) n = next (next alike λ u n₁. next (of_condition c n₁) λ c' n₂. alike) λ a n₃. alike

    of_call_to_condition : (c : Call) (n : ℕ) → Alike (expand_temporal_call_to_condition small c n) (expand_temporal_call_to_condition large c n)
    of_call_to_condition (Call.MacroCall span name args) n =
        next (of_resolve name span n) λ def n₁.
        next alike λ body n₂.
        next alike λ u₃ n₃.
        next (of_args args n₃) λ args' n₄.
        alike

    of_call_to_value : (c : Call) (n : ℕ) → Alike (expand_temporal_call_to_value small c n) (expand_temporal_call_to_value large c n)
    of_call_to_value (Call.MacroCall span name args) n =
        next (of_resolve name span n) λ def n₁.
        next alike λ body n₂.
        next alike λ u₃ n₃.
        next (of_args args n₃) λ args' n₄.
        alike

    of_args : (args : CallArgs) (n : ℕ) → Alike (expand_temporal_call_args small args n) (expand_temporal_call_args large args n)
    of_args CallArgs.no_args n = alike
    of_args (CallArgs.cons_arg a rest) n = next (of_arg a n) λ a' n₁. next (of_args rest n₁) λ rest' n₂. alike

    of_arg : (a : CallArg) (n : ℕ) → Alike (expand_temporal_call_arg small a n) (expand_temporal_call_arg large a n)
    of_arg (CallArg.ConditionArg c) n = of_condition_arg c n (of_condition c n)
    of_arg (CallArg.TermArg t) n = as_term_lem _ _ n (of_operand t n)
    of_arg (CallArg.WithinArg i) n = alike

    of_condition_arg : (c : Condition) (n : ℕ) → Alike (expand_temporal_condition small c n) (expand_temporal_condition large c n)
        → Alike (expand_condition_arg small c (expand_temporal_condition small c) n) (expand_condition_arg large c (expand_temporal_condition large c) n)
    of_condition_arg (Condition.ConditionCall s c) n h = of_bare_call c n (of_call_to_condition c n) (of_call_to_value c n)
    of_condition_arg (Condition.And s l r) n h = as_condition_lem _ _ n h
    of_condition_arg (Condition.Or s l r) n h = as_condition_lem _ _ n h
    of_condition_arg (Condition.Not s c) n h = as_condition_lem _ _ n h
    of_condition_arg (Condition.Formerly s w c) n h = as_condition_lem _ _ n h
    of_condition_arg (Condition.Previous s w c) n h = as_condition_lem _ _ n h
    of_condition_arg (Condition.Since s l w r) n h = as_condition_lem _ _ n h
    of_condition_arg (Condition.Predicate s o ns a k fs) n h = as_condition_lem _ _ n h
    of_condition_arg (Condition.Comparison s op l r) n h = as_condition_lem _ _ n h
    of_condition_arg (Condition.Exists s b c) n h = as_condition_lem _ _ n h
    of_condition_arg (Condition.Tp s v) n h = as_condition_lem _ _ n h
    of_condition_arg (Condition.SigilRef s g i) n h = as_condition_lem _ _ n h
    of_condition_arg (Condition.Refine s o c fs) n h = as_condition_lem _ _ n h

    -- a number_alone call: where the smaller registry does not find it, it gives 30 as a condition
    of_bare_call : (c : Call) (n : ℕ)
        → Alike (expand_temporal_call_to_condition small c n) (expand_temporal_call_to_condition large c n)
        → Alike (expand_temporal_call_to_value small c n) (expand_temporal_call_to_value large c n)
        → Alike (Choose (calls_value small c) (expand_temporal_call_to_value small c) (expand_temporal_call_to_condition small c) n)
        (Choose (calls_value large c) (expand_temporal_call_to_value large c) (expand_temporal_call_to_condition large c) n)
    of_bare_call (Call.MacroCall span name args) n h v = go (get few name) refl
      where
        c : Call
        c = Call.MacroCall span name args

        same : (b : Bool)
            → Alike (Choose b (expand_temporal_call_to_value small c) (expand_temporal_call_to_condition small c) n)
            (Choose b (expand_temporal_call_to_value large c) (expand_temporal_call_to_condition large c) n)
        same true = as_term_lem _ _ n v
        same false = as_condition_lem _ _ n h

        go : (o : Option MacroDef) → get few name ≡ o
            → Alike (Choose (Value o) (expand_temporal_call_to_value small c) (expand_temporal_call_to_condition small c) n)
            (Choose (Value (get many name)) (expand_temporal_call_to_value large c) (expand_temporal_call_to_condition large c) n)
        go none e = differ (unknown_arg span name args n e)
        go (some d) e =
            subst
            (λ (o : Option MacroDef).
            Alike (Choose (Value (some d)) (expand_temporal_call_to_value small c) (expand_temporal_call_to_condition small c) n)
            (Choose (Value o) (expand_temporal_call_to_value large c) (expand_temporal_call_to_condition large c) n))
            (sym (more name d e)) (same (Value (some d)))

  of_whole : (c : Condition) (n : ℕ) → Alike (expand_whole small c n) (expand_whole large c n)
  unfolding expand_whole ◌>>=◌ ◌>>◌
  of_whole c n = next (of_condition c n) λ c' n₁. alike

  -- both registries built
  pub expand_alike : build few ≡ none → build many ≡ none → (c : Condition) → Alike (expand limit file few c) (expand limit file many c)
  unfolding expand unless
  expand_alike p q c = rw (p, q) (of_whole c 0)
