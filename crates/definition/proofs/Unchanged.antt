-- A condition without macro syntax is its own expansion, with every registry and every limit, and nothing is charged.
-- Assumes nothing.
use Prim.Native.Nat.{ℕ}
use mathlib.Core.Path.{◌≡◌, refl, sym}
use mathlib.Core.List.{List, [], ◌∷◌}
use mathlib.Core.Bool.{true, false, false≢true}
use mathlib.Core.Option.{none}
use Rattle.format.specs.Ast.{WithinSpec, BinderSlot, TypedBinder, Condition, Term, AggExpr, NamedArgs, Terms, Tree, MacroDef}
use Rattle.format.specs.Flat.{flat_slot, flat_within, flat_binder, flat_binders, flat_condition, flat_term, flat_fields}
use Rattle.format.specs.Limits.{too_large_tree}
use Rattle.format.specs.Macro.{is_macro}
use Rattle.format.proofs.All.{all_head, all_tail, all_left, all_right}
use Rattle.definition.specs.Outcome.{Outcome, Walk, proceed, ◌>>=◌, ◌>>◌}
use Rattle.definition.specs.Registry.{build}
use Rattle.definition.specs.Substitute.{check_limits}
use Rattle.definition.specs.Expand.{Registry, check_concrete_within, check_concrete_slot, check_concrete_binders, check_concrete_term, check_concrete_terms, check_concrete_fields, as_agg, expand_temporal_condition, expand_temporal_agg, expand_temporal_operand, expand_agg_operand, unless, expand_whole, expand}
use Rattle.definition.proofs.FreeWalk.{FreeCondition, FreeTerm, FreeTerms, FreeFields, FreeAgg, FreeWithin, FreeSlot, FreeBinders, free_fields}

-- this value, and nothing charged
data WalkMatches {A : Type 0} (a : A) (n : ℕ) : Outcome A → Type 0 where
  gives : WalkMatches a n (Outcome.done a n)

next : {A B : Type 0} {a : A} {b : B} {n : ℕ} {o : Outcome A} (f : A → Walk B) → WalkMatches a n o → WalkMatches b n (f a n) → WalkMatches b n (proceed o f)
unfolding proceed
next f gives g = g

-- an entry of macro syntax is none
syntax : true ≡ false → ⊥
syntax e = false≢true (sym e)

passes_within : (w : WithinSpec) → FreeWithin w → (span n : ℕ) → WalkMatches tt n (check_concrete_within w span n)
unfolding check_concrete_within flat_within is_macro
passes_within (WithinSpec.Concrete i) f span n = gives
passes_within (WithinSpec.ParamRef k) f span n = absurd (syntax f)

passes_slot : (v : BinderSlot) → FreeSlot v → (span n : ℕ) → WalkMatches tt n (check_concrete_slot v span n)
unfolding check_concrete_slot flat_slot is_macro
passes_slot (BinderSlot.Name k) f span n = gives
passes_slot (BinderSlot.ParamRef k) f span n = absurd (syntax f)
passes_slot (BinderSlot.BinderRef k) f span n = absurd (syntax f)

passes_binders : (bs : List TypedBinder) → FreeBinders bs → (span n : ℕ) → WalkMatches tt n (check_concrete_binders bs span n)
unfolding check_concrete_binders flat_binders flat_binder ◌>>=◌ ◌>>◌
passes_binders [] f span n = gives
passes_binders (b ∷ bs) f span n = next _ (passes_slot b.slot (all_head f) span n) (passes_binders bs (all_right (flat_binder b) f) span n)

mutual
  unfolding check_concrete_term flat_condition is_macro ◌>>=◌ ◌>>◌

  passes_term : (t : Term) → FreeTerm t → (span n : ℕ) → WalkMatches tt n (check_concrete_term t span n)
  passes_term (Term.ParamRef k) f span n = absurd (syntax (all_head f))
  passes_term (Term.BinderRef k) f span n = absurd (syntax (all_head f))
  passes_term (Term.Array ts) f span n = passes_terms ts (all_tail f) span n
  passes_term (Term.Entity ty id) f span n = gives
  passes_term (Term.Integer k) f span n = gives
  passes_term (Term.Decimal t) f span n = gives
  passes_term (Term.String t) f span n = gives
  passes_term (Term.Bool b) f span n = gives
  passes_term (Term.ContextField path) f span n = gives
  passes_term (Term.ScopeField path) f span n = gives
  passes_term (Term.Var k) f span n = gives
  passes_term Term.Wildcard f span n = gives
  passes_term (Term.Agg a) f span n = gives
  passes_term (Term.Arith op l r) f span n = gives

  passes_terms : (ts : Terms) → FreeTerms ts → (span n : ℕ) → WalkMatches tt n (check_concrete_terms ts span n)
  passes_terms Terms.no_terms f span n = gives
  passes_terms (Terms.cons_term t ts) f span n =
      next _ (passes_term t (all_left (flat_term t) _ f) span n) (passes_terms ts (all_right (flat_term t) f) span n)

passes_fields : (fs : NamedArgs) → FreeFields fs → (span n : ℕ) → WalkMatches tt n (check_concrete_fields fs span n)
unfolding check_concrete_fields flat_fields ◌>>=◌ ◌>>◌
passes_fields NamedArgs.no_fields f span n = gives
passes_fields (NamedArgs.cons_field k t fs) f span n =
    next _ (passes_term t (all_left (flat_term t) _ (all_tail f)) span n) (passes_fields fs (all_right (flat_term t) (all_tail f)) span n)

module _ (reg : Registry) where
  mutual
    unfolding expand_temporal_condition as_agg flat_condition flat_binder is_macro ◌>>=◌ ◌>>◌

    same_condition : (c : Condition) → FreeCondition c → (n : ℕ) → WalkMatches c n (expand_temporal_condition reg c n)
    same_condition (Condition.And s l r) f n =
        next _ (same_condition l (all_left (flat_condition l) _ (all_tail f)) n)
        (next _ (same_condition r (all_right (flat_condition l) (all_tail f)) n) gives)
    same_condition (Condition.Or s l r) f n =
        next _ (same_condition l (all_left (flat_condition l) _ (all_tail f)) n)
        (next _ (same_condition r (all_right (flat_condition l) (all_tail f)) n) gives)
    same_condition (Condition.Not s c) f n = next _ (same_condition c (all_tail f) n) gives
    same_condition (Condition.Formerly s w c) f n =
        next _ (passes_within w (all_head (all_tail f)) s n) (next _ (same_condition c (all_tail (all_tail f)) n) gives)
    same_condition (Condition.Previous s w c) f n =
        next _ (passes_within w (all_head (all_tail f)) s n) (next _ (same_condition c (all_tail (all_tail f)) n) gives)
    same_condition (Condition.Since s l w r) f n =
        let right = all_right (flat_condition l) (all_tail f) in
        next _ (passes_within w (all_head right) s n)
        (next _ (same_condition l (all_left (flat_condition l) _ (all_tail f)) n) (next _ (same_condition r (all_tail right) n) gives))
    same_condition (Condition.Predicate s o ns a k fs) f n = next _ (passes_fields fs (free_fields s o ns a k fs f) s n) gives
    same_condition (Condition.Tp s v) f n = next _ (passes_slot v (all_head (all_tail f)) s n) gives
    same_condition (Condition.Comparison s op l r) f n =
        next _ (same_operand l (all_left (flat_term l) _ (all_tail (all_tail f))) n)
        (next _ (same_operand r (all_right (flat_term l) (all_tail (all_tail f))) n) gives)
    same_condition (Condition.Exists s b c) f n =
        next _ (passes_slot b.slot (all_head (all_tail f)) s n)
        (next _ (same_condition c (all_right (flat_binder b) (all_tail f)) n) gives)
    same_condition (Condition.ConditionCall s c) f n = absurd (syntax (all_head f))
    same_condition (Condition.SigilRef s g k) f n = absurd (syntax (all_head f))
    same_condition (Condition.Refine s o c fs) f n = absurd (syntax (all_head f))

    same_operand : (t : Term) → FreeTerm t → (n : ℕ) → WalkMatches t n (expand_temporal_operand reg t n)
    same_operand (Term.Agg a) f n = same_agg a (all_tail f) n
    same_operand (Term.Arith op l r) f n =
        next _ (same_operand l (all_left (flat_term l) _ (all_tail f)) n)
        (next _ (same_operand r (all_right (flat_term l) (all_tail f)) n) gives)
    same_operand (Term.ParamRef k) f n = absurd (syntax (all_head f))
    same_operand (Term.BinderRef k) f n = absurd (syntax (all_head f))
    same_operand (Term.Entity ty id) f n = gives
    same_operand (Term.Integer k) f n = gives
    same_operand (Term.Decimal t) f n = gives
    same_operand (Term.String t) f n = gives
    same_operand (Term.Bool b) f n = gives
    same_operand (Term.ContextField path) f n = gives
    same_operand (Term.ScopeField path) f n = gives
    same_operand (Term.Var k) f n = gives
    same_operand Term.Wildcard f n = gives
    same_operand (Term.Array ts) f n = gives

    same_agg : (a : AggExpr) → FreeAgg a → (n : ℕ) → WalkMatches (Term.Agg a) n (expand_agg_operand reg a (expand_temporal_agg reg a) n)
    same_agg (AggExpr.AggCall s c) f n = absurd (syntax (all_head f))
    same_agg (AggExpr.Sum s v bs c) f n =
        let rest = all_tail (all_tail (all_tail f)) in
        next _
        (next _ (passes_slot v (all_head (all_tail f)) s n)
        (next _ (passes_binders bs (all_left (flat_binders bs) _ rest) s n)
        (next _ (same_condition c (all_right (flat_binders bs) rest) n) gives)))
        gives
    same_agg (AggExpr.Count s bs c) f n =
        let rest = all_tail (all_tail f) in
        next _
        (next _ (passes_binders bs (all_left (flat_binders bs) _ rest) s n) (next _ (same_condition c (all_right (flat_binders bs) rest) n) gives))
        gives

  same_whole : (c : Condition) → FreeCondition c → too_large_tree (Tree.condition c) ≡ false → (n : ℕ) → WalkMatches (Tree.condition c) n (expand_whole reg c n)
  unfolding expand_whole check_limits ◌>>=◌ ◌>>◌
  same_whole c f small n = next _ (same_condition c f n) (next _ (passes_limits n) gives)
    where
      passes_limits : (n : ℕ) → WalkMatches tt n (check_limits (too_large_tree (Tree.condition c)) 0 n)
      passes_limits n = rw small gives

pub expands_to_itself : (limit file : ℕ) (defs : List MacroDef) (c : Condition) → build defs ≡ none → FreeCondition c → too_large_tree (Tree.condition c) ≡ false
    → expand limit file defs c ≡ Outcome.done (Tree.condition c) 0
unfolding expand unless
expands_to_itself limit file defs c b f small = rw b (go (same_whole (record { defs = defs; limit = limit; file = file }) c f small 0))
  where
    go : {o : Outcome Tree} → WalkMatches (Tree.condition c) 0 o → o ≡ Outcome.done (Tree.condition c) 0
    go gives = refl
