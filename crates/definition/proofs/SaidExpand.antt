-- What expansion answers, by the rules: every message has S, every entry of the tree M, and what is charged C.
-- Assumes nothing.
use Prim.Native.Nat.{ℕ}
use native.Mathlib.Omega.{arith}
use mathlib.Core.List.{List, [], ◌∷◌}
use mathlib.Core.Bool.{Bool, true, false}
use mathlib.Core.Option.{Option, none, some}
use Rattle.format.specs.Entry.{Text, Entry, entry}
use Rattle.format.specs.Ast.{WithinSpec, BinderSlot, TypedBinder, Sigil, Condition, Term, AggExpr, Call, CallArg, CallArgs, NamedArgs, Terms, Tree, MacroBody, MacroDef, args_of}
use Rattle.format.specs.Flat.{flat_texts, flat_within, flat_slot, flat_binder, flat_binders, flat_condition, flat_term, flat_agg, flat_call, flat_arg, flat_args, flat_fields, flat_terms, flat_tree, flat_body, flat_def, length_args}
use Rattle.format.proofs.All.{All, all_nil, all_cons, all_head, all_tail, all_append, all_left, all_right}
use Rattle.definition.specs.Outcome.{Outcome, Walk, pure, refuse, ◌>>=◌, ◌>>◌}
use Rattle.definition.specs.Messages.{unknown_macro}
use Rattle.definition.specs.Check.{Verdict}
use Rattle.definition.specs.Registry.{get, build}
use Rattle.definition.specs.Expand.{Registry, check_concrete_within, check_concrete_slot, check_concrete_binders, check_concrete_term, check_concrete_terms, check_concrete_fields, resolve, condition_body, value_body, calls_value, as_agg, as_condition_arg, as_term_arg, expand_temporal_condition, expand_temporal_agg, expand_temporal_operand, expand_agg_operand, expand_temporal_call_to_condition, expand_temporal_call_args, expand_temporal_call_arg, expand_condition_arg, expand_temporal_call_to_value, unless, expand_whole, expand}
use Rattle.definition.proofs.Good.{Good, good_done, good_refused, step, weaken}
use Rattle.definition.proofs.Lookup.{Found, not_found, found, found_in_lem}
use Rattle.definition.proofs.Verdicts.{Given, passes, refuses}
use Rattle.definition.specs.Ends.{expansion_numbers}
use Rattle.definition.proofs.Rules.{tabled, Includes, Rules, Known, RefusalMatches, Said, Answers, Fits}
use Rattle.definition.proofs.SaidSubstitute.{span_of, own, said_arity, said_limits, said_charge_body, said_refine, def_body, said_substitute_condition, said_substitute_value}

module _ {numbers : List ℕ} {N S : Text → Type 0} {B I M : Entry → Type 0} {K C : ℕ → Type 0} (defs : List MacroDef) (limit file : ℕ)
    (rules : Rules numbers N B I M S K C limit file) (wide : Includes numbers expansion_numbers) where
  abbrev reg : Registry
  reg = record { defs = defs; limit = limit; file = file }

  abbrev Tests : Outcome (Unit {0}) → Type 0
  Tests o = Good (Said numbers S C) (λ u n. C n) o

  -- ------------------------------------------------------------------ stray sigils

  said_check_within : (w : WithinSpec) → N (flat_within w).text → (span n : ℕ) → C n → Tests (check_concrete_within w span n)
  unfolding check_concrete_within flat_within
  said_check_within (WithinSpec.Concrete i) k span n h = good_done h
  said_check_within (WithinSpec.ParamRef i) k span n h = good_refused ((rules.says_37 i k, wide _ (tabled tt)), h)

  said_check_slot : (v : BinderSlot) → N (flat_slot v).text → (span n : ℕ) → C n → Tests (check_concrete_slot v span n)
  unfolding check_concrete_slot flat_slot
  said_check_slot (BinderSlot.Name i) k span n h = good_done h
  said_check_slot (BinderSlot.ParamRef i) k span n h = good_refused ((rules.says_38 i k Sigil.Param, wide _ (tabled tt)), h)
  said_check_slot (BinderSlot.BinderRef i) k span n h = good_refused ((rules.says_38 i k Sigil.Binder, wide _ (tabled tt)), h)

  said_check_binders : (bs : List TypedBinder) → All (Known N M K I) (flat_binders bs) → (span n : ℕ) → C n → Tests (check_concrete_binders bs span n)
  unfolding check_concrete_binders ◌>>=◌ ◌>>◌ flat_binders flat_binder
  said_check_binders [] k span n h = good_done h
  said_check_binders (b ∷ bs) k span n h =
      step (said_check_slot b.slot (all_head k).0 span n h) λ u n₁ h₁.
      said_check_binders bs (all_right (flat_binder b) k) span n₁ h₁

  mutual
    unfolding check_concrete_term ◌>>=◌ ◌>>◌ flat_term

    said_check_term : (t : Term) → All (Known N M K I) (flat_term t) → (span n : ℕ) → C n → Tests (check_concrete_term t span n)
    said_check_term (Term.ParamRef i) k span n h = good_refused ((rules.says_39 i (all_head k).0 Sigil.Param, wide _ (tabled tt)), h)
    said_check_term (Term.BinderRef i) k span n h = good_refused ((rules.says_39 i (all_head k).0 Sigil.Binder, wide _ (tabled tt)), h)
    said_check_term (Term.Array ts) k span n h = said_check_terms ts (all_tail k) span n h
    said_check_term (Term.Entity ty id) k span n h = good_done h
    said_check_term (Term.Integer i) k span n h = good_done h
    said_check_term (Term.Decimal t) k span n h = good_done h
    said_check_term (Term.String t) k span n h = good_done h
    said_check_term (Term.Bool b) k span n h = good_done h
    said_check_term (Term.ContextField path) k span n h = good_done h
    said_check_term (Term.ScopeField path) k span n h = good_done h
    said_check_term (Term.Var i) k span n h = good_done h
    said_check_term Term.Wildcard k span n h = good_done h
    said_check_term (Term.Agg a) k span n h = good_done h
    said_check_term (Term.Arith op l r) k span n h = good_done h

    said_check_terms : (ts : Terms) → All (Known N M K I) (flat_terms ts) → (span n : ℕ) → C n → Tests (check_concrete_terms ts span n)
    said_check_terms Terms.no_terms k span n h = good_done h
    said_check_terms (Terms.cons_term t ts) k span n h =
        step (said_check_term t (all_left (flat_term t) _ k) span n h) λ u n₁ h₁.
        said_check_terms ts (all_right (flat_term t) k) span n₁ h₁

  said_check_fields : (fs : NamedArgs) → All (Known N M K I) (flat_fields fs) → (span n : ℕ) → C n → Tests (check_concrete_fields fs span n)
  unfolding check_concrete_fields ◌>>=◌ ◌>>◌ flat_fields
  said_check_fields NamedArgs.no_fields k span n h = good_done h
  said_check_fields (NamedArgs.cons_field i t fs) k span n h =
      step (said_check_term t (all_left (flat_term t) _ (all_tail k)) span n h) λ u n₁ h₁.
      said_check_fields fs (all_right (flat_term t) (all_tail k)) span n₁ h₁

  -- ------------------------------------------------------------------ the macro that is called

  -- something of the registry's
  abbrev Takes : {A : Type 0} → (A → Type 0) → Outcome A → Type 0
  Takes P o = Good (Said numbers S C) (λ a n. C n × P a) o

  said_condition_body : (body : MacroBody) → All (Known N M K B) (flat_body body) → (name : Text) → N name → (span n : ℕ) → C n
      → Takes (λ (c : Condition). All (Known N M K B) (flat_condition c)) (condition_body body name span n)
  unfolding condition_body flat_body
  said_condition_body (MacroBody.TemporalCondition c) b name k span n h = good_done (h, all_tail b)
  said_condition_body MacroBody.Cedar b name k span n h = good_refused ((rules.says_31 name k, wide _ (tabled tt)), h)
  said_condition_body (MacroBody.TemporalValue t) b name k span n h = good_refused ((rules.says_32 name k, wide _ (tabled tt)), h)

  said_value_body : (body : MacroBody) → All (Known N M K B) (flat_body body) → (name : Text) → N name → (span n : ℕ) → C n
      → Takes (λ (t : Term). All (Known N M K B) (flat_term t)) (value_body body name span n)
  unfolding value_body flat_body
  said_value_body (MacroBody.TemporalValue t) b name k span n h = good_done (h, all_tail b)
  said_value_body MacroBody.Cedar b name k span n h = good_refused ((rules.says_31_value name k, wide _ (tabled tt)), h)
  said_value_body (MacroBody.TemporalCondition c) b name k span n h = good_refused ((rules.says_33 name k, wide _ (tabled tt)), h)

  said_as_agg : (w : Walk AggExpr) (n : ℕ) → M (entry 30 0) → Answers numbers S M C flat_agg (w n) → Answers numbers S M C flat_term (as_agg w n)
  unfolding as_agg ◌>>=◌ flat_term
  said_as_agg w n m g = step g λ a n₁ h₁. good_done (h₁.0, all_cons m h₁.1)

  said_as_condition_arg : (w : Walk Condition) (n : ℕ) → M (entry 55 0) → Answers numbers S M C flat_condition (w n) → Answers numbers S M C flat_arg (as_condition_arg w n)
  unfolding as_condition_arg ◌>>=◌ flat_arg
  said_as_condition_arg w n m g = step g λ c n₁ h₁. good_done (h₁.0, all_cons m h₁.1)

  said_as_term_arg : (w : Walk Term) (n : ℕ) → M (entry 56 0) → Answers numbers S M C flat_term (w n) → Answers numbers S M C flat_arg (as_term_arg w n)
  unfolding as_term_arg ◌>>=◌ flat_arg
  said_as_term_arg w n m g = step g λ t n₁ h₁. good_done (h₁.0, all_cons m h₁.1)

  module _ (known : All (λ (d : MacroDef). All (Known N M K B) (flat_def d)) defs) where
    said_resolve : (name : Text) → N name → (span n : ℕ) → C n
        → Takes (λ (d : MacroDef). All (Known N M K B) (flat_def d)) (resolve reg name span n)
    unfolding resolve
    said_resolve name k span n h = go (get defs name) (found_in_lem known name)
      where
        go : (o : Option MacroDef) → Found (λ (d : MacroDef). All (Known N M K B) (flat_def d)) o
            → Takes (λ (d : MacroDef). All (Known N M K B) (flat_def d)) ((elim o as (λ x. Walk MacroDef) [
              | some d ↦ pure d
              | none ↦ refuse 30 span (unknown_macro name)
            ]) n)
        go none not_found = good_refused ((rules.says_30 name k, wide _ (tabled tt)), h)
        go (some d) (found q) = good_done (h, q)

    -- ------------------------------------------------------------------ the walk

    mutual
      unfolding expand_temporal_condition ◌>>=◌ ◌>>◌ flat_condition flat_binder flat_tree args_of span_of

      said_condition : (c : Condition) → All (Known N M K I) (flat_condition c) → (n : ℕ) → C n
          → Answers numbers S M C flat_condition (expand_temporal_condition reg c n)
      said_condition (Condition.And s l r) k n h =
          step (said_condition l (all_left (flat_condition l) _ (all_tail k)) n h) λ l' n₁ h₁.
          step (said_condition r (all_right (flat_condition l) (all_tail k)) n₁ h₁.0) λ r' n₂ h₂.
          good_done (h₂.0, all_cons (all_head k).2 (all_append h₁.1 h₂.1))
      said_condition (Condition.Or s l r) k n h =
          step (said_condition l (all_left (flat_condition l) _ (all_tail k)) n h) λ l' n₁ h₁.
          step (said_condition r (all_right (flat_condition l) (all_tail k)) n₁ h₁.0) λ r' n₂ h₂.
          good_done (h₂.0, all_cons (all_head k).2 (all_append h₁.1 h₂.1))
      said_condition (Condition.Not s c) k n h = step (said_condition c (all_tail k) n h) λ c' n₁ h₁. good_done (h₁.0, all_cons (all_head k).2 h₁.1)
      said_condition (Condition.Formerly s w c) k n h =
          step (said_check_within w (all_head (all_tail k)).0 s n h) λ u n₁ h₁.
          step (said_condition c (all_tail (all_tail k)) n₁ h₁) λ c' n₂ h₂.
          good_done (h₂.0, all_cons (all_head k).2 (all_cons (all_head (all_tail k)).2 h₂.1))
      said_condition (Condition.Previous s w c) k n h =
          step (said_check_within w (all_head (all_tail k)).0 s n h) λ u n₁ h₁.
          step (said_condition c (all_tail (all_tail k)) n₁ h₁) λ c' n₂ h₂.
          good_done (h₂.0, all_cons (all_head k).2 (all_cons (all_head (all_tail k)).2 h₂.1))
      said_condition (Condition.Since s l w r) k n h =
          let right = all_right (flat_condition l) (all_tail k) in
          step (said_check_within w (all_head right).0 s n h) λ u n₁ h₁.
          step (said_condition l (all_left (flat_condition l) _ (all_tail k)) n₁ h₁) λ l' n₂ h₂.
          step (said_condition r (all_tail right) n₂ h₂.0) λ r' n₃ h₃.
          good_done (h₃.0, all_cons (all_head k).2 (all_append h₂.1 (all_cons (all_head right).2 h₃.1)))
      said_condition (Condition.Predicate s o ns a e fs) k n h =
          step (said_check_fields fs (all_tail (all_tail (all_tail (all_right (flat_texts ns) (all_tail (all_tail (all_tail k))))))) s n h)
          λ u n₁ h₁. good_done (h₁, own rules k)
      said_condition (Condition.Tp s v) k n h = step (said_check_slot v (all_head (all_tail k)).0 s n h) λ u n₁ h₁. good_done (h₁, own rules k)
      said_condition (Condition.Comparison s op l r) k n h =
          step (said_operand l (all_left (flat_term l) _ (all_tail (all_tail k))) n h) λ l' n₁ h₁.
          step (said_operand r (all_right (flat_term l) (all_tail (all_tail k))) n₁ h₁.0) λ r' n₂ h₂.
          good_done (h₂.0, all_cons (all_head k).2 (all_cons (all_head (all_tail k)).2 (all_append h₁.1 h₂.1)))
      said_condition (Condition.Exists s b c) k n h =
          step (said_check_slot b.slot (all_head (all_tail k)).0 s n h) λ u n₁ h₁.
          step (said_condition c (all_right (flat_binder b) (all_tail k)) n₁ h₁) λ c' n₂ h₂.
          good_done (h₂.0, all_cons (all_head k).2 (all_append (own rules (all_left (flat_binder b) _ (all_tail k))) h₂.1))
      said_condition (Condition.ConditionCall s c) k n h = said_call_to_condition c (all_tail k) n h
      said_condition (Condition.SigilRef s g name) k n h = good_refused ((rules.says_36 name (all_head (all_tail k)).0 g, wide _ (tabled tt)), h)
      said_condition (Condition.Refine s o c fs) k n h =
          step (said_condition c (all_left (flat_condition c) _ (all_tail (all_tail k))) n h) λ c' n₁ h₁.
          said_refine rules c' fs o n₁ h₁.0 h₁.1 (own rules (all_tail (all_right (flat_condition c) (all_tail (all_tail k)))))

      said_operand : (t : Term) → All (Known N M K I) (flat_term t) → (n : ℕ) → C n → Answers numbers S M C flat_term (expand_temporal_operand reg t n)
      said_operand (Term.Agg a) k n h = said_agg a (all_head k).2 (all_tail k) n h
      said_operand (Term.Arith op l r) k n h =
          step (said_operand l (all_left (flat_term l) _ (all_tail k)) n h) λ l' n₁ h₁.
          step (said_operand r (all_right (flat_term l) (all_tail k)) n₁ h₁.0) λ r' n₂ h₂.
          good_done (h₂.0, all_cons (all_head k).2 (all_append h₁.1 h₂.1))
      said_operand (Term.ParamRef i) k n h = good_refused ((rules.says_40 i (all_head k).0 Sigil.Param, wide _ (tabled tt)), h)
      said_operand (Term.BinderRef i) k n h = good_refused ((rules.says_40 i (all_head k).0 Sigil.Binder, wide _ (tabled tt)), h)
      said_operand (Term.Entity ty id) k n h = good_done (h, own rules k)
      said_operand (Term.Integer i) k n h = good_done (h, own rules k)
      said_operand (Term.Decimal t) k n h = good_done (h, own rules k)
      said_operand (Term.String t) k n h = good_done (h, own rules k)
      said_operand (Term.Bool b) k n h = good_done (h, own rules k)
      said_operand (Term.ContextField path) k n h = good_done (h, own rules k)
      said_operand (Term.ScopeField path) k n h = good_done (h, own rules k)
      said_operand (Term.Var i) k n h = good_done (h, own rules k)
      said_operand Term.Wildcard k n h = good_done (h, own rules k)
      said_operand (Term.Array ts) k n h = good_done (h, own rules k)

      said_agg : (a : AggExpr) → M (entry 30 0) → All (Known N M K I) (flat_agg a) → (n : ℕ) → C n
          → Answers numbers S M C flat_term (expand_agg_operand reg a (expand_temporal_agg reg a) n)
      said_agg (AggExpr.AggCall s c) m k n h = said_call_to_value c (all_tail k) n h
      said_agg (AggExpr.Sum s v bs c) m k n h =
          let rest = all_tail (all_tail (all_tail k)) in
          let binders = all_left (flat_binders bs) _ rest in
          said_as_agg (expand_temporal_agg reg (AggExpr.Sum s v bs c)) n m
          (step (said_check_slot v (all_head (all_tail k)).0 s n h) λ u n₁ h₁.
          step (said_check_binders bs binders s n₁ h₁) λ u' n₂ h₂.
          step (said_condition c (all_right (flat_binders bs) rest) n₂ h₂) λ c' n₃ h₃.
          good_done (h₃.0, all_cons (all_head k).2 (all_cons (all_head (all_tail k)).2 (all_cons (all_head (all_tail (all_tail k))).2 (all_append (own rules binders) h₃.1)))))
      said_agg (AggExpr.Count s bs c) m k n h =
          let rest = all_tail (all_tail k) in
          let binders = all_left (flat_binders bs) _ rest in
          said_as_agg (expand_temporal_agg reg (AggExpr.Count s bs c)) n m
          (step (said_check_binders bs binders s n h) λ u n₁ h₁.
          step (said_condition c (all_right (flat_binders bs) rest) n₁ h₁) λ c' n₂ h₂.
          good_done (h₂.0, all_cons (all_head k).2 (all_cons (all_head (all_tail k)).2 (all_append (own rules binders) h₂.1))))

      said_call_to_condition : (c : Call) → All (Known N M K I) (flat_call c) → (n : ℕ) → C n
          → Answers numbers S M C flat_condition (expand_temporal_call_to_condition reg c n)
      said_call_to_condition (Call.MacroCall span name args) k n h =
          let named = (all_head (all_tail k)).0 in
          step (said_resolve name named span n h) λ def n₁ h₁.
          step (said_condition_body def.body (def_body def h₁.1) name named span n₁ h₁.0) λ body n₂ h₂.
          step (said_arity rules def h₁.1 (length_args args) span n₂ (all_head (all_tail (all_tail k))).1 h₂.0) λ u₃ n₃ h₃.
          step (said_args args (all_tail (all_tail (all_tail k))) n₃ h₃) λ args' n₄ h₄.
          step (said_limits rules _ span n₄ h₄.0) λ u₅ n₅ h₅.
          step (said_charge_body rules _ span n₅ h₅.0) λ u₆ n₆ h₆.
          weaken (λ c' n₇ h₇. (h₇.0, h₇.1))
          (said_substitute_condition rules def h₁.1 body h₂.1 (Call.MacroCall span name args') (all_head k).3 h₄.1 n₆ h₆)

      said_call_to_value : (c : Call) → All (Known N M K I) (flat_call c) → (n : ℕ) → C n → Answers numbers S M C flat_term (expand_temporal_call_to_value reg c n)
      said_call_to_value (Call.MacroCall span name args) k n h =
          let named = (all_head (all_tail k)).0 in
          step (said_resolve name named span n h) λ def n₁ h₁.
          step (said_value_body def.body (def_body def h₁.1) name named span n₁ h₁.0) λ body n₂ h₂.
          step (said_arity rules def h₁.1 (length_args args) span n₂ (all_head (all_tail (all_tail k))).1 h₂.0) λ u₃ n₃ h₃.
          step (said_args args (all_tail (all_tail (all_tail k))) n₃ h₃) λ args' n₄ h₄.
          step (said_limits rules _ span n₄ h₄.0) λ u₅ n₅ h₅.
          step (said_charge_body rules _ span n₅ h₅.0) λ u₆ n₆ h₆.
          weaken (λ t' n₇ h₇. (h₇.0, h₇.1))
          (said_substitute_value rules def h₁.1 body h₂.1 (Call.MacroCall span name args') (all_head k).3 h₄.1 n₆ h₆)

      said_args : (args : CallArgs) → All (Known N M K I) (flat_args args) → (n : ℕ) → C n → Answers numbers S M C flat_args (expand_temporal_call_args reg args n)
      said_args CallArgs.no_args k n h = good_done (h, all_nil)
      said_args (CallArgs.cons_arg a rest) k n h =
          step (said_arg a (all_left (flat_arg a) _ k) n h) λ a' n₁ h₁.
          step (said_args rest (all_right (flat_arg a) k) n₁ h₁.0) λ rest' n₂ h₂.
          good_done (h₂.0, all_append h₁.1 h₂.1)

      said_arg : (a : CallArg) → All (Known N M K I) (flat_arg a) → (n : ℕ) → C n → Answers numbers S M C flat_arg (expand_temporal_call_arg reg a n)
      said_arg (CallArg.ConditionArg c) k n h = said_condition_arg c (all_head k).2 (all_tail k) n h (said_condition c (all_tail k) n h)
      said_arg (CallArg.TermArg t) k n h = said_as_term_arg (expand_temporal_operand reg t) n (all_head k).2 (said_operand t (all_tail k) n h)
      said_arg (CallArg.WithinArg i) k n h = good_done (h, own rules k)

      said_condition_arg : (c : Condition) → M (entry 55 0) → All (Known N M K I) (flat_condition c) → (n : ℕ) → C n
          → Answers numbers S M C flat_condition (expand_temporal_condition reg c n)
          → Answers numbers S M C flat_arg (expand_condition_arg reg c (expand_temporal_condition reg c) n)
      said_condition_arg (Condition.ConditionCall s c) m k n h g = go (calls_value reg c) (said_call_to_value c (all_tail k) n h)
        where
          go : (b : Bool) → Answers numbers S M C flat_term (expand_temporal_call_to_value reg c n)
              → Answers numbers S M C flat_arg ((elim b as (λ x. Walk CallArg) [
                | true ↦ as_term_arg (expand_temporal_call_to_value reg c)
                | false ↦ as_condition_arg (expand_temporal_condition reg (Condition.ConditionCall s c))
              ]) n)
          go true v = said_as_term_arg (expand_temporal_call_to_value reg c) n (rules.closed.call_term m) v
          go false v = said_as_condition_arg _ n m g
      said_condition_arg (Condition.And s l r) m k n h g = said_as_condition_arg _ n m g
      said_condition_arg (Condition.Or s l r) m k n h g = said_as_condition_arg _ n m g
      said_condition_arg (Condition.Not s c) m k n h g = said_as_condition_arg _ n m g
      said_condition_arg (Condition.Formerly s w c) m k n h g = said_as_condition_arg _ n m g
      said_condition_arg (Condition.Previous s w c) m k n h g = said_as_condition_arg _ n m g
      said_condition_arg (Condition.Since s l w r) m k n h g = said_as_condition_arg _ n m g
      said_condition_arg (Condition.Predicate s o ns a e fs) m k n h g = said_as_condition_arg _ n m g
      said_condition_arg (Condition.Comparison s op l r) m k n h g = said_as_condition_arg _ n m g
      said_condition_arg (Condition.Exists s b c) m k n h g = said_as_condition_arg _ n m g
      said_condition_arg (Condition.Tp s v) m k n h g = said_as_condition_arg _ n m g
      said_condition_arg (Condition.SigilRef s v name) m k n h g = said_as_condition_arg _ n m g
      said_condition_arg (Condition.Refine s o c fs) m k n h g = said_as_condition_arg _ n m g

    -- ------------------------------------------------------------------ the operation

    said_whole : (c : Condition) → All (Known N M K I) (flat_condition c) → (n : ℕ) → C n → Fits numbers S M C (λ t. t) (expand_whole reg c n)
    unfolding expand_whole ◌>>=◌ ◌>>◌ flat_tree
    said_whole c k n h =
        step (said_condition c k n h) λ c' n₁ h₁.
        step (said_limits rules _ 0 n₁ h₁.0) λ u n₂ h₂.
        good_done (h₂.0, h₁.1, h₂.1)

    said_unless : {v : Verdict} {w : Walk Tree} → Given (RefusalMatches numbers S) v
        → ((n : ℕ) → C n → Fits numbers S M C (λ t. t) (w n)) → (n : ℕ) → C n → Fits numbers S M C (λ t. t) (unless v w n)
    unfolding unless
    said_unless passes g n h = g n h
    said_unless (refuses t) g n h = good_refused (t, h)

    pub said_expand : Given (RefusalMatches numbers S) (build defs) → (c : Condition) → All (Known N M K I) (flat_condition c)
        → Fits numbers S M C (λ t. t) (expand limit file defs c)
    unfolding expand
    said_expand v c k = said_unless v (said_whole c k) 0 (rules.charged 0 (omega arith))
