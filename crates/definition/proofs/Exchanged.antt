-- A tree with days and weeks exchanged is as large in every figure: as many entries and nodes, the same text, and as deep.
-- Assumes nothing.
use Prim.Native.Nat.{ℕ, suc, ◌+◌}
use mathlib.Core.Path.{◌≡◌, refl, ap, ap₂}
use mathlib.Core.List.{List, [], ◌∷◌, ◌++◌}
use mathlib.Core.Bool.{not}
use lib.ListN.{length}
use Rattle.format.specs.Entry.{Entry, entry, text_of}
use Rattle.format.specs.Ast.{TimeUnit, Interval, WithinSpec, Condition, Term, AggExpr, Call, CallArg, CallArgs, NamedArgs, Terms, Tree}
use Rattle.format.specs.Flat.{flat_texts, flat_unit, flat_interval, flat_within, flat_binder, flat_binders, flat_condition, flat_term, flat_agg, flat_call, flat_arg, flat_args, flat_fields, flat_terms, flat_tree}
use Rattle.format.specs.Limits.{is_node, weigh, node_weight, call_weight, deep_condition, deep_tree, fits_all, too_large_tree, too_large_call}
use Rattle.format.specs.Replace.{replace_condition, replace_term, replace_agg, replace_call, replace_arg, replace_args, replace_fields, replace_terms}
use Rattle.format.proofs.Weights.{Outweighs, weighs_condition, weighs_term, weighs_call}
use Rattle.definition.specs.Size.{size}
use Rattle.definition.specs.Weeks.{exchanged_unit, exchanged_interval, exchanged_within, exchanged}

-- ------------------------------------------------------------------ entries

-- entry for entry the same text, and both are nodes or neither
data Similar : List Entry → List Entry → Type 0 where
  similar_nil : Similar [] []
  similar_cons : {e f : Entry} {es fs : List Entry} → e.text ≡ f.text → node_weight e.code ≡ node_weight f.code → Similar es fs
      → Similar (e ∷ es) (f ∷ fs)

same : {e : Entry} {es fs : List Entry} → Similar es fs → Similar (e ∷ es) (e ∷ fs)
same h = similar_cons refl refl h

-- a count, which is in fact the same one
counted : {c k l : ℕ} {es fs : List Entry} → Similar es fs → Similar (entry c k ∷ es) (entry c l ∷ fs)
counted h = similar_cons refl refl h

joined : {es fs es' fs' : List Entry} → Similar es fs → Similar es' fs' → Similar (es ++ es') (fs ++ fs')
joined similar_nil k = k
joined (similar_cons t w h) k = similar_cons t w (joined h k)

behind : (es : List Entry) {fs fs' : List Entry} → Similar fs fs' → Similar (es ++ fs) (es ++ fs')
behind [] h = h
behind (e ∷ es) h = same (behind es h)

itself : (es : List Entry) → Similar es es
itself [] = similar_nil
itself (e ∷ es) = same (itself es)

turned : (i : Interval) {es fs : List Entry} → Similar es fs → Similar (flat_interval (exchanged_interval i) ∷ es) (flat_interval i ∷ fs)
unfolding flat_interval flat_unit exchanged_interval exchanged_unit is_node weigh
turned i h = similar_cons refl (go i.unit) h
  where
    go : (u : TimeUnit) → node_weight (flat_unit (exchanged_unit u)) ≡ node_weight (flat_unit u)
    go TimeUnit.Seconds = refl
    go TimeUnit.Minutes = refl
    go TimeUnit.Hours = refl
    go TimeUnit.Days = refl
    go TimeUnit.Weeks = refl

turned_within : (w : WithinSpec) {es fs : List Entry} → Similar es fs → Similar (flat_within (exchanged_within w) ∷ es) (flat_within w ∷ fs)
unfolding flat_within exchanged_within
turned_within (WithinSpec.Concrete i) h = turned i h
turned_within (WithinSpec.ParamRef n) h = same h

similar_length : {es fs : List Entry} → Similar es fs → length es ≡ length fs
similar_length similar_nil = refl
similar_length (similar_cons t w h) = ap suc (similar_length h)

similar_text : {es fs : List Entry} → Similar es fs → text_of es ≡ text_of fs
unfolding text_of
similar_text similar_nil = refl
similar_text (similar_cons t w h) = ap₂ ◌++◌ t (similar_text h)

similar_size : {es fs : List Entry} → Similar es fs → size es ≡ size fs
unfolding size
similar_size similar_nil = refl
similar_size (similar_cons t w h) = ap₂ ◌+◌ w (similar_size h)

-- ------------------------------------------------------------------ trees

mutual
  unfolding flat_condition replace_condition exchanged

  similar_condition : (c : Condition) → Similar (flat_condition (replace_condition exchanged c)) (flat_condition c)
  similar_condition (Condition.And s l r) = same (joined (similar_condition l) (similar_condition r))
  similar_condition (Condition.Or s l r) = same (joined (similar_condition l) (similar_condition r))
  similar_condition (Condition.Not s c) = same (similar_condition c)
  similar_condition (Condition.Formerly s w c) = same (turned_within w (similar_condition c))
  similar_condition (Condition.Previous s w c) = same (turned_within w (similar_condition c))
  similar_condition (Condition.Since s l w r) = same (joined (similar_condition l) (turned_within w (similar_condition r)))
  similar_condition (Condition.Predicate s o ns a k fs) =
      same (same (same (behind (flat_texts ns) (same (same (counted (similar_fields fs)))))))
  similar_condition (Condition.Comparison s op l r) = same (same (joined (similar_term l) (similar_term r)))
  similar_condition (Condition.Exists s b c) = same (behind (flat_binder b) (similar_condition c))
  similar_condition (Condition.Tp s v) = itself _
  similar_condition (Condition.ConditionCall s c) = same (similar_call c)
  similar_condition (Condition.SigilRef s g n) = itself _
  similar_condition (Condition.Refine s o c fs) = same (same (joined (similar_condition c) (counted (similar_fields fs))))

  similar_term : (t : Term) → Similar (flat_term (replace_term exchanged t)) (flat_term t)
  similar_term (Term.Entity ty id) = itself _
  similar_term (Term.Integer n) = itself _
  similar_term (Term.Decimal t) = itself _
  similar_term (Term.String t) = itself _
  similar_term (Term.Bool b) = itself _
  similar_term (Term.ContextField path) = itself _
  similar_term (Term.ScopeField path) = itself _
  similar_term (Term.Var n) = itself _
  similar_term Term.Wildcard = itself _
  similar_term (Term.Array ts) = counted (similar_terms ts)
  similar_term (Term.Agg a) = same (similar_agg a)
  similar_term (Term.Arith op l r) = same (joined (similar_term l) (similar_term r))
  similar_term (Term.ParamRef n) = itself _
  similar_term (Term.BinderRef n) = itself _

  similar_agg : (a : AggExpr) → Similar (flat_agg (replace_agg exchanged a)) (flat_agg a)
  similar_agg (AggExpr.Sum s v bs c) = same (same (same (behind (flat_binders bs) (similar_condition c))))
  similar_agg (AggExpr.Count s bs c) = same (same (behind (flat_binders bs) (similar_condition c)))
  similar_agg (AggExpr.AggCall s c) = same (similar_call c)

  similar_call : (c : Call) → Similar (flat_call (replace_call exchanged c)) (flat_call c)
  similar_call (Call.MacroCall s n args) = same (same (counted (similar_args args)))

  similar_arg : (a : CallArg) → Similar (flat_arg (replace_arg exchanged a)) (flat_arg a)
  similar_arg (CallArg.ConditionArg c) = same (similar_condition c)
  similar_arg (CallArg.TermArg t) = same (similar_term t)
  similar_arg (CallArg.WithinArg i) = same (turned i similar_nil)

  similar_args : (args : CallArgs) → Similar (flat_args (replace_args exchanged args)) (flat_args args)
  similar_args CallArgs.no_args = similar_nil
  similar_args (CallArgs.cons_arg a rest) = joined (similar_arg a) (similar_args rest)

  similar_fields : (fs : NamedArgs) → Similar (flat_fields (replace_fields exchanged fs)) (flat_fields fs)
  similar_fields NamedArgs.no_fields = similar_nil
  similar_fields (NamedArgs.cons_field n t fs) = same (joined (similar_term t) (similar_fields fs))

  similar_terms : (ts : Terms) → Similar (flat_terms (replace_terms exchanged ts)) (flat_terms ts)
  similar_terms Terms.no_terms = similar_nil
  similar_terms (Terms.cons_term t ts) = joined (similar_term t) (similar_terms ts)

-- ------------------------------------------------------------------ what is charged

pub size_condition : (c : Condition) → size (flat_condition (replace_condition exchanged c)) ≡ size (flat_condition c)
size_condition c = similar_size (similar_condition c)

pub size_term : (t : Term) → size (flat_term (replace_term exchanged t)) ≡ size (flat_term t)
size_term t = similar_size (similar_term t)

-- ------------------------------------------------------------------ the limits

-- every code weighs what it weighed
outweighs : (w : ℕ → ℕ) → Outweighs exchanged w w
unfolding exchanged deep_condition
outweighs w = record { either = λ s l r. refl; other = λ c e. refl }

same_fits : {es fs : List Entry} {n n' k k' : ℕ} → Similar es fs → n ≡ n' → k ≡ k' → fits_all es n k ≡ fits_all fs n' k'
unfolding fits_all
same_fits h p q = rw (similar_length h, similar_text h, p, q) refl

pub large_condition : (c : Condition) → too_large_tree (Tree.condition (replace_condition exchanged c)) ≡ too_large_tree (Tree.condition c)
unfolding too_large_tree flat_tree deep_tree
large_condition c =
    ap not (same_fits (similar_condition c) (weighs_condition (outweighs node_weight) c) (weighs_condition (outweighs call_weight) c))

pub large_term : (t : Term) → too_large_tree (Tree.term (replace_term exchanged t)) ≡ too_large_tree (Tree.term t)
unfolding too_large_tree flat_tree deep_tree
large_term t = ap not (same_fits (similar_term t) (weighs_term (outweighs node_weight) t) (weighs_term (outweighs call_weight) t))

pub large_call : (c : Call) → too_large_call (replace_call exchanged c) ≡ too_large_call c
unfolding too_large_call
large_call c = ap not (same_fits (similar_call c) (weighs_call (outweighs node_weight) c) (weighs_call (outweighs call_weight) c))
