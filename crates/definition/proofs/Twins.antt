-- Two trees that are equal but for some of their names, each such pair in a relation: entry by entry, and as large in every figure if
-- those names are as long.
-- Assumes nothing.
use Prim.Native.Nat.{ℕ}
use native.Mathlib.Omega.{arith}
use mathlib.Core.Path.{◌≡◌, refl, subst}
use mathlib.Core.List.{List, [], ◌∷◌, ◌++◌}
use mathlib.Core.Bool.{not}
use lib.ListN.{length, length-append}
use Rattle.format.specs.Entry.{Text, Entry, entry, text_entry, text_of}
use Rattle.format.specs.Ast.{WithinSpec, BinderSlot, BinderType, TypedBinder, CmpOp, ArithOp, Condition, Term, AggExpr, Call, CallArg, CallArgs, NamedArgs, Terms, Tree}
use Rattle.format.specs.Flat.{flat_texts, flat_slot, flat_type, flat_binder, flat_binders, length_terms, length_fields, length_args, flat_condition, flat_term, flat_agg, flat_fields, flat_terms, flat_call, flat_arg, flat_args, flat_tree}
use Rattle.format.specs.Limits.{node_weight, call_weight, deep_condition, deep_term, deep_agg, deep_call, deep_arg, deep_args, deep_fields, deep_terms, deep_tree, fits_all, too_large_tree, too_large_call}
use Rattle.definition.specs.Size.{size, call_arg_size}
use Rattle.definition.specs.Lengthened.{OneByOne}
use Rattle.definition.specs.Files.{NameCode, var, slot_name, SameSizes}

-- ------------------------------------------------------------------ trees

pub data TwinSlot (N : Text → Text → Type 0) : BinderSlot → BinderSlot → Type 0 where
  same_slot : {v : BinderSlot} → TwinSlot N v v
  Name : {n n' : Text} → N n n' → TwinSlot N (BinderSlot.Name n) (BinderSlot.Name n')

pub data TwinBinder (N : Text → Text → Type 0) : TypedBinder → TypedBinder → Type 0 where
  typed : {v v' : BinderSlot} {t : BinderType} → TwinSlot N v v'
      → TwinBinder N (record { slot = v; ty = t }) (record { slot = v'; ty = t })

pub data TwinBinders (N : Text → Text → Type 0) : List TypedBinder → List TypedBinder → Type 0 where
  same_binders : {bs : List TypedBinder} → TwinBinders N bs bs
  cons_binder : {b b' : TypedBinder} {bs bs' : List TypedBinder} → TwinBinder N b b' → TwinBinders N bs bs'
      → TwinBinders N (b ∷ bs) (b' ∷ bs')

mutual
  pub data TwinCondition (N : Text → Text → Type 0) : Condition → Condition → Type 0 where
    same_condition : {c : Condition} → TwinCondition N c c
    And : {s : ℕ} {l l' r r' : Condition} → TwinCondition N l l' → TwinCondition N r r'
        → TwinCondition N (Condition.And s l r) (Condition.And s l' r')
    Or : {s : ℕ} {l l' r r' : Condition} → TwinCondition N l l' → TwinCondition N r r'
        → TwinCondition N (Condition.Or s l r) (Condition.Or s l' r')
    Not : {s : ℕ} {c c' : Condition} → TwinCondition N c c' → TwinCondition N (Condition.Not s c) (Condition.Not s c')
    Formerly : {s : ℕ} {w : WithinSpec} {c c' : Condition} → TwinCondition N c c'
        → TwinCondition N (Condition.Formerly s w c) (Condition.Formerly s w c')
    Previous : {s : ℕ} {w : WithinSpec} {c c' : Condition} → TwinCondition N c c'
        → TwinCondition N (Condition.Previous s w c) (Condition.Previous s w c')
    Since : {s : ℕ} {l l' : Condition} {w : WithinSpec} {r r' : Condition} → TwinCondition N l l' → TwinCondition N r r'
        → TwinCondition N (Condition.Since s l w r) (Condition.Since s l' w r')
    Predicate : {s o : ℕ} {ns : List Text} {a k : Text} {fs fs' : NamedArgs} → TwinFields N fs fs'
        → TwinCondition N (Condition.Predicate s o ns a k fs) (Condition.Predicate s o ns a k fs')
    Comparison : {s : ℕ} {op : CmpOp} {l l' r r' : Term} → TwinTerm N l l' → TwinTerm N r r'
        → TwinCondition N (Condition.Comparison s op l r) (Condition.Comparison s op l' r')
    Exists : {s : ℕ} {b b' : TypedBinder} {c c' : Condition} → TwinBinder N b b' → TwinCondition N c c'
        → TwinCondition N (Condition.Exists s b c) (Condition.Exists s b' c')
    Tp : {s : ℕ} {v v' : BinderSlot} → TwinSlot N v v' → TwinCondition N (Condition.Tp s v) (Condition.Tp s v')

  pub data TwinTerm (N : Text → Text → Type 0) : Term → Term → Type 0 where
    same_term : {t : Term} → TwinTerm N t t
    Var : {n n' : Text} → N n n' → TwinTerm N (Term.Var n) (Term.Var n')
    Array : {ts ts' : Terms} → TwinTerms N ts ts' → TwinTerm N (Term.Array ts) (Term.Array ts')
    Agg : {a a' : AggExpr} → TwinAgg N a a' → TwinTerm N (Term.Agg a) (Term.Agg a')
    Arith : {op : ArithOp} {l l' r r' : Term} → TwinTerm N l l' → TwinTerm N r r'
        → TwinTerm N (Term.Arith op l r) (Term.Arith op l' r')

  pub data TwinAgg (N : Text → Text → Type 0) : AggExpr → AggExpr → Type 0 where
    Sum : {s : ℕ} {v v' : BinderSlot} {bs bs' : List TypedBinder} {c c' : Condition} → TwinSlot N v v' → TwinBinders N bs bs'
        → TwinCondition N c c' → TwinAgg N (AggExpr.Sum s v bs c) (AggExpr.Sum s v' bs' c')
    Count : {s : ℕ} {bs bs' : List TypedBinder} {c c' : Condition} → TwinBinders N bs bs' → TwinCondition N c c'
        → TwinAgg N (AggExpr.Count s bs c) (AggExpr.Count s bs' c')

  pub data TwinTerms (N : Text → Text → Type 0) : Terms → Terms → Type 0 where
    no_terms : TwinTerms N Terms.no_terms Terms.no_terms
    cons_term : {t t' : Term} {ts ts' : Terms} → TwinTerm N t t' → TwinTerms N ts ts'
        → TwinTerms N (Terms.cons_term t ts) (Terms.cons_term t' ts')

  pub data TwinFields (N : Text → Text → Type 0) : NamedArgs → NamedArgs → Type 0 where
    same_fields : {fs : NamedArgs} → TwinFields N fs fs
    cons_field : {n : Text} {t t' : Term} {fs fs' : NamedArgs} → TwinTerm N t t' → TwinFields N fs fs'
        → TwinFields N (NamedArgs.cons_field n t fs) (NamedArgs.cons_field n t' fs')

pub data TwinTree (N : Text → Text → Type 0) : Tree → Tree → Type 0 where
  condition : {c c' : Condition} → TwinCondition N c c' → TwinTree N (Tree.condition c) (Tree.condition c')
  term : {t t' : Term} → TwinTerm N t t' → TwinTree N (Tree.term t) (Tree.term t')

-- ------------------------------------------------------------------ arguments

pub data TwinArg (N : Text → Text → Type 0) : CallArg → CallArg → Type 0 where
  same_arg : {a : CallArg} → TwinArg N a a
  condition_arg : {c c' : Condition} → TwinCondition N c c' → TwinArg N (CallArg.ConditionArg c) (CallArg.ConditionArg c')
  term_arg : {t t' : Term} → TwinTerm N t t' → TwinArg N (CallArg.TermArg t) (CallArg.TermArg t')

pub data TwinArgs (N : Text → Text → Type 0) : CallArgs → CallArgs → Type 0 where
  no_args : TwinArgs N CallArgs.no_args CallArgs.no_args
  cons_arg : {a a' : CallArg} {rest rest' : CallArgs} → TwinArg N a a' → TwinArgs N rest rest'
      → TwinArgs N (CallArgs.cons_arg a rest) (CallArgs.cons_arg a' rest')

-- ------------------------------------------------------------------ entry by entry

pub data Loose (N : Text → Text → Type 0) : Entry → Entry → Type 0 where
  equal : {e : Entry} → Loose N e e
  longer : {code : ℕ} {n n' : Text} → NameCode code → N n n' → Loose N (text_entry code n) (text_entry code n')

abbrev pub Rows : (Text → Text → Type 0) → List Entry → List Entry → Type 0
Rows N es es' = OneByOne (Loose N) es es'

module _ {N : Text → Text → Type 0} where
  rows_same : (es : List Entry) → Rows N es es
  rows_same [] = OneByOne.none_left
  rows_same (e ∷ es) = OneByOne.and_then equal (rows_same es)

  rows_append : {es es' fs fs' : List Entry} → Rows N es es' → Rows N fs fs' → Rows N (es ++ fs) (es' ++ fs')
  rows_append OneByOne.none_left q = q
  rows_append (OneByOne.and_then r p) q = OneByOne.and_then r (rows_append p q)

  rows_entry : {e : Entry} {es es' : List Entry} → Rows N es es' → Rows N (e ∷ es) (e ∷ es')
  rows_entry p = OneByOne.and_then equal p

  -- a count
  rows_count : {c k k' : ℕ} {es es' : List Entry} → k ≡ k' → Rows N es es' → Rows N (entry c k ∷ es) (entry c k' ∷ es')
  rows_count {c} {k} h p = OneByOne.and_then (subst (λ (l : ℕ). Loose N (entry c k) (entry c l)) h equal) p

  twin_slot : {v v' : BinderSlot} → TwinSlot N v v' → Loose N (flat_slot v) (flat_slot v')
  unfolding flat_slot
  twin_slot TwinSlot.same_slot = equal
  twin_slot (TwinSlot.Name p) = longer slot_name p

  rows_binder : {b b' : TypedBinder} → TwinBinder N b b' → Rows N (flat_binder b) (flat_binder b')
  unfolding flat_binder
  rows_binder (TwinBinder.typed {t = t} p) = OneByOne.and_then (twin_slot p) (rows_same (flat_type t))

  rows_binders : {bs bs' : List TypedBinder} → TwinBinders N bs bs' → Rows N (flat_binders bs) (flat_binders bs')
  unfolding flat_binders
  rows_binders (TwinBinders.same_binders {bs = bs}) = rows_same (flat_binders bs)
  rows_binders (TwinBinders.cons_binder p q) = rows_append (rows_binder p) (rows_binders q)

  count_binders : {bs bs' : List TypedBinder} → TwinBinders N bs bs' → length bs ≡ length bs'
  count_binders TwinBinders.same_binders = refl
  count_binders (TwinBinders.cons_binder p q) = rw (count_binders q) refl

  count_terms : {ts ts' : Terms} → TwinTerms N ts ts' → length_terms ts ≡ length_terms ts'
  unfolding length_terms
  count_terms TwinTerms.no_terms = refl
  count_terms (TwinTerms.cons_term p q) = rw (count_terms q) refl

  count_fields : {fs fs' : NamedArgs} → TwinFields N fs fs' → length_fields fs ≡ length_fields fs'
  unfolding length_fields
  count_fields TwinFields.same_fields = refl
  count_fields (TwinFields.cons_field p q) = rw (count_fields q) refl

  mutual
    unfolding flat_condition

    rows_condition : {c c' : Condition} → TwinCondition N c c' → Rows N (flat_condition c) (flat_condition c')
    rows_condition (TwinCondition.same_condition {c = c}) = rows_same (flat_condition c)
    rows_condition (TwinCondition.And p q) = rows_entry (rows_append (rows_condition p) (rows_condition q))
    rows_condition (TwinCondition.Or p q) = rows_entry (rows_append (rows_condition p) (rows_condition q))
    rows_condition (TwinCondition.Not p) = rows_entry (rows_condition p)
    rows_condition (TwinCondition.Formerly p) = rows_entry (rows_entry (rows_condition p))
    rows_condition (TwinCondition.Previous p) = rows_entry (rows_entry (rows_condition p))
    rows_condition (TwinCondition.Since p q) = rows_entry (rows_append (rows_condition p) (rows_entry (rows_condition q)))
    rows_condition (TwinCondition.Predicate {ns = ns} p) =
        rows_entry (rows_entry (rows_entry
        (rows_append (rows_same (flat_texts ns)) (rows_entry (rows_entry (rows_count (count_fields p) (rows_fields p)))))))
    rows_condition (TwinCondition.Comparison p q) = rows_entry (rows_entry (rows_append (rows_term p) (rows_term q)))
    rows_condition (TwinCondition.Exists b p) = rows_entry (rows_append (rows_binder b) (rows_condition p))
    rows_condition (TwinCondition.Tp v) = rows_entry (OneByOne.and_then (twin_slot v) OneByOne.none_left)

    rows_term : {t t' : Term} → TwinTerm N t t' → Rows N (flat_term t) (flat_term t')
    rows_term (TwinTerm.same_term {t = t}) = rows_same (flat_term t)
    rows_term (TwinTerm.Var p) = OneByOne.and_then (longer var p) OneByOne.none_left
    rows_term (TwinTerm.Array p) = rows_count (count_terms p) (rows_terms p)
    rows_term (TwinTerm.Agg p) = rows_entry (rows_agg p)
    rows_term (TwinTerm.Arith p q) = rows_entry (rows_append (rows_term p) (rows_term q))

    rows_agg : {a a' : AggExpr} → TwinAgg N a a' → Rows N (flat_agg a) (flat_agg a')
    rows_agg (TwinAgg.Sum v bs p) =
        rows_entry (OneByOne.and_then (twin_slot v) (rows_count (count_binders bs) (rows_append (rows_binders bs) (rows_condition p))))
    rows_agg (TwinAgg.Count bs p) = rows_entry (rows_count (count_binders bs) (rows_append (rows_binders bs) (rows_condition p)))

    rows_terms : {ts ts' : Terms} → TwinTerms N ts ts' → Rows N (flat_terms ts) (flat_terms ts')
    rows_terms TwinTerms.no_terms = OneByOne.none_left
    rows_terms (TwinTerms.cons_term p q) = rows_append (rows_term p) (rows_terms q)

    rows_fields : {fs fs' : NamedArgs} → TwinFields N fs fs' → Rows N (flat_fields fs) (flat_fields fs')
    rows_fields (TwinFields.same_fields {fs = fs}) = rows_same (flat_fields fs)
    rows_fields (TwinFields.cons_field p q) = rows_entry (rows_append (rows_term p) (rows_fields q))

  pub rows_tree : {t t' : Tree} → TwinTree N t t' → Rows N (flat_tree t) (flat_tree t')
  unfolding flat_tree
  rows_tree (TwinTree.condition p) = rows_condition p
  rows_tree (TwinTree.term p) = rows_term p

  rows_arg : {a a' : CallArg} → TwinArg N a a' → Rows N (flat_arg a) (flat_arg a')
  unfolding flat_arg
  rows_arg (same_arg {a = a}) = rows_same (flat_arg a)
  rows_arg (condition_arg p) = rows_entry (rows_condition p)
  rows_arg (term_arg p) = rows_entry (rows_term p)

  rows_args : {args args' : CallArgs} → TwinArgs N args args' → Rows N (flat_args args) (flat_args args')
  unfolding flat_args
  rows_args no_args = OneByOne.none_left
  rows_args (cons_arg a rest) = rows_append (rows_arg a) (rows_args rest)

  count_args : {args args' : CallArgs} → TwinArgs N args args' → length_args args ≡ length_args args'
  unfolding length_args
  count_args no_args = refl
  count_args (cons_arg a rest) = rw (count_args rest) refl

  rows_call : (span : ℕ) (name : Text) {args args' : CallArgs} → TwinArgs N args args'
      → Rows N (flat_call (Call.MacroCall span name args)) (flat_call (Call.MacroCall span name args'))
  unfolding flat_call
  rows_call span name p = rows_entry (rows_entry (rows_count (count_args p) (rows_args p)))

-- ------------------------------------------------------------------ depths

module _ {N : Text → Text → Type 0} (weight : ℕ → ℕ) where
  mutual
    unfolding deep_condition

    pub deep_condition_lem : {c c' : Condition} → TwinCondition N c c' → deep_condition weight c ≡ deep_condition weight c'
    deep_condition_lem TwinCondition.same_condition = refl
    deep_condition_lem (TwinCondition.And p q) = rw (deep_condition_lem p, deep_condition_lem q) refl
    deep_condition_lem (TwinCondition.Or p q) = rw (deep_condition_lem p, deep_condition_lem q) refl
    deep_condition_lem (TwinCondition.Not p) = rw (deep_condition_lem p) refl
    deep_condition_lem (TwinCondition.Formerly p) = rw (deep_condition_lem p) refl
    deep_condition_lem (TwinCondition.Previous p) = rw (deep_condition_lem p) refl
    deep_condition_lem (TwinCondition.Since p q) = rw (deep_condition_lem p, deep_condition_lem q) refl
    deep_condition_lem (TwinCondition.Predicate p) = rw (deep_fields_lem p) refl
    deep_condition_lem (TwinCondition.Comparison p q) = rw (deep_term_lem p, deep_term_lem q) refl
    deep_condition_lem (TwinCondition.Exists b p) = rw (deep_condition_lem p) refl
    deep_condition_lem (TwinCondition.Tp v) = refl

    pub deep_term_lem : {t t' : Term} → TwinTerm N t t' → deep_term weight t ≡ deep_term weight t'
    deep_term_lem TwinTerm.same_term = refl
    deep_term_lem (TwinTerm.Var n) = refl
    deep_term_lem (TwinTerm.Array p) = rw (deep_terms_lem p) refl
    deep_term_lem (TwinTerm.Agg p) = rw (deep_agg_lem p) refl
    deep_term_lem (TwinTerm.Arith p q) = rw (deep_term_lem p, deep_term_lem q) refl

    deep_agg_lem : {a a' : AggExpr} → TwinAgg N a a' → deep_agg weight a ≡ deep_agg weight a'
    deep_agg_lem (TwinAgg.Sum v bs p) = rw (deep_condition_lem p) refl
    deep_agg_lem (TwinAgg.Count bs p) = rw (deep_condition_lem p) refl

    deep_terms_lem : {ts ts' : Terms} → TwinTerms N ts ts' → deep_terms weight ts ≡ deep_terms weight ts'
    deep_terms_lem TwinTerms.no_terms = refl
    deep_terms_lem (TwinTerms.cons_term p q) = rw (deep_term_lem p, deep_terms_lem q) refl

    deep_fields_lem : {fs fs' : NamedArgs} → TwinFields N fs fs' → deep_fields weight fs ≡ deep_fields weight fs'
    deep_fields_lem TwinFields.same_fields = refl
    deep_fields_lem (TwinFields.cons_field p q) = rw (deep_term_lem p, deep_fields_lem q) refl

  pub deep_args_lem : {args args' : CallArgs} → TwinArgs N args args' → deep_args weight args ≡ deep_args weight args'
  unfolding deep_args deep_arg
  deep_args_lem no_args = refl
  deep_args_lem (cons_arg same_arg rest) = rw (deep_args_lem rest) refl
  deep_args_lem (cons_arg (condition_arg p) rest) = rw (deep_condition_lem p, deep_args_lem rest) refl
  deep_args_lem (cons_arg (term_arg p) rest) = rw (deep_term_lem p, deep_args_lem rest) refl

  pub deep_call_lem : (span : ℕ) (name : Text) {args args' : CallArgs} → TwinArgs N args args'
      → deep_call weight (Call.MacroCall span name args) ≡ deep_call weight (Call.MacroCall span name args')
  unfolding deep_call
  deep_call_lem span name p = rw (deep_args_lem p) refl

-- ------------------------------------------------------------------ figures

module _ {N : Text → Text → Type 0} (as_long : (n n' : Text) → N n n' → length n ≡ length n') where
  pub rows_sizes : {es es' : List Entry} → Rows N es es' → SameSizes es es'
  unfolding text_of
  rows_sizes OneByOne.none_left = record { same_entries = refl; same_text = refl }
  rows_sizes (OneByOne.and_then {es = es} {es' = es'} (equal {e = e}) p) =
      let q = rows_sizes p in
      record {
        same_entries = omega (arith, q.same_entries);
        same_text = omega (arith, q.same_text, length-append e.text (text_of es), length-append e.text (text_of es'));
      }
  rows_sizes (OneByOne.and_then {es = es} {es' = es'} (longer {n = n} {n' = n'} c k) p) =
      let q = rows_sizes p in
      record {
        same_entries = omega (arith, q.same_entries);
        same_text = omega (arith, q.same_text, as_long n n' k, length-append n (text_of es), length-append n' (text_of es'));
      }

  pub rows_nodes : {es es' : List Entry} → Rows N es es' → size es ≡ size es'
  unfolding size
  rows_nodes OneByOne.none_left = refl
  rows_nodes (OneByOne.and_then equal p) = rw (rows_nodes p) refl
  rows_nodes (OneByOne.and_then (longer c k) p) = rw (rows_nodes p) refl

  same_fits : {es es' : List Entry} {d d' k k' : ℕ} → Rows N es es' → d ≡ d' → k ≡ k' → not (fits_all es d k) ≡ not (fits_all es' d' k')
  unfolding fits_all
  same_fits p e f = let q = rows_sizes p in rw (q.same_entries, q.same_text, e, f) refl

  pub same_large_condition : {c c' : Condition} → TwinCondition N c c'
      → too_large_tree (Tree.condition c) ≡ too_large_tree (Tree.condition c')
  unfolding too_large_tree flat_tree deep_tree
  same_large_condition p = same_fits (rows_condition p) (deep_condition_lem node_weight p) (deep_condition_lem call_weight p)

  pub same_large_term : {t t' : Term} → TwinTerm N t t' → too_large_tree (Tree.term t) ≡ too_large_tree (Tree.term t')
  unfolding too_large_tree flat_tree deep_tree
  same_large_term p = same_fits (rows_term p) (deep_term_lem node_weight p) (deep_term_lem call_weight p)

  pub same_large_call : (span : ℕ) (name : Text) {args args' : CallArgs} → TwinArgs N args args'
      → too_large_call (Call.MacroCall span name args) ≡ too_large_call (Call.MacroCall span name args')
  unfolding too_large_call
  same_large_call span name p = same_fits (rows_call span name p) (deep_call_lem node_weight span name p)
      (deep_call_lem call_weight span name p)

  pub size_arg : {a a' : CallArg} → TwinArg N a a' → call_arg_size a ≡ call_arg_size a'
  unfolding call_arg_size
  size_arg same_arg = refl
  size_arg (condition_arg p) = rows_nodes (rows_condition p)
  size_arg (term_arg p) = rows_nodes (rows_term p)
