-- Which names a file number lengthens: the trees of file 0 and of a file above 0, entry by entry. That they are equal but for
-- generated names is known (LengthenedSubstitute, Lengthened), and that a name is of the inputs or generated (Generated); a name
-- generated in file 0 is none of a file above 0, so one that is the same in both is of the inputs.
-- Assumes nothing.
use Prim.Native.Nat.{ℕ, ◌<◌}
use native.Mathlib.Omega.{arith}
use mathlib.Core.Path.{◌≡◌, refl, sym, ◌∙◌, subst}
use mathlib.Core.Logic.{◌⊎◌, inl, inr}
use mathlib.Core.List.{List, [], ◌∷◌, ◌++◌}
use mathlib.Core.Bool.{Bool, true, false}
use lib.Dec.{T}
use lib.ListN.{length}
use Rattle.format.specs.Entry.{Text, Entry, entry, text_entry}
use Rattle.format.specs.Ast.{BinderSlot, TypedBinder, Condition, Term, AggExpr, Call, NamedArgs, Terms, Tree}
use Rattle.format.specs.Flat.{flat_texts, flat_slot, flat_type, flat_binder, flat_binders, length_terms, length_fields, flat_condition, flat_term, flat_agg, flat_fields, flat_terms, flat_tree, flat_def, flat_registry}
use Rattle.format.specs.Macro.{is_code}
use Rattle.format.specs.Names.{◌∈◌, is_name, names_in}
use Rattle.format.proofs.All.{All, all_cons, all_map}
use Rattle.format.proofs.Tests.{from_true}
use Rattle.definition.specs.Outcome.{Outcome, span_start}
use Rattle.definition.specs.Substitute.{generated}
use Rattle.definition.specs.Agree.{protected_names, Generated}
use Rattle.definition.specs.Lengthened.{LongName, LongSlot, LongBinder, LongBinders, LongCondition, LongTerm, LongAgg, LongTerms, LongFields, LongTree, Alike, given_names, GeneratedHere, Made, LongEntry, OneByOne, SubstituteNamed, ExpandNamed}
use Rattle.definition.proofs.Names.{names_apart}
use Rattle.definition.proofs.Generated.{all_in, name_in, names_generated, substitute_names}
use Rattle.definition.proofs.LengthenedSubstitute.{substitute_lengthened}
use Rattle.definition.proofs.Lengthened.{expand_lengthened}

-- ------------------------------------------------------------------ entry by entry, equal or lengthened

data Loose (file : ℕ) : Entry → Entry → Type 0 where
  equal : {e : Entry} → Loose file e e
  longer : {code : ℕ} → is_name code ≡ true → (binder : Text) (start : ℕ)
      → Loose file (text_entry code (generated binder start 0)) (text_entry code (generated binder start file))

abbrev Rows : ℕ → List Entry → List Entry → Type 0
Rows file es es' = OneByOne (Loose file) es es'

module _ {file : ℕ} where
  rows_same : (es : List Entry) → Rows file es es
  rows_same [] = OneByOne.none_left
  rows_same (e ∷ es) = OneByOne.and_then equal (rows_same es)

  rows_append : {es es' fs fs' : List Entry} → Rows file es es' → Rows file fs fs' → Rows file (es ++ fs) (es' ++ fs')
  rows_append OneByOne.none_left q = q
  rows_append (OneByOne.and_then r p) q = OneByOne.and_then r (rows_append p q)

  rows_entry : {e : Entry} {es es' : List Entry} → Rows file es es' → Rows file (e ∷ es) (e ∷ es')
  rows_entry p = OneByOne.and_then equal p

  -- a count
  rows_count : {c k k' : ℕ} {es es' : List Entry} → k ≡ k' → Rows file es es' → Rows file (entry c k ∷ es) (entry c k' ∷ es')
  rows_count {c} {k} h p = OneByOne.and_then (subst (λ (l : ℕ). Loose file (entry c k) (entry c l)) h equal) p

  long_name : {n n' : Text} (code : ℕ) → is_name code ≡ true → LongName file n n' → Loose file (text_entry code n) (text_entry code n')
  long_name code i LongName.as_is = equal
  long_name code i (LongName.longer binder start) = longer i binder start

  long_slot : {v v' : BinderSlot} → LongSlot file v v' → Loose file (flat_slot v) (flat_slot v')
  unfolding flat_slot is_name is_code
  long_slot LongSlot.same_slot = equal
  long_slot (LongSlot.Name p) = long_name 43 refl p

  rows_binder : {b b' : TypedBinder} → LongBinder file b b' → Rows file (flat_binder b) (flat_binder b')
  unfolding flat_binder
  rows_binder (LongBinder.typed {t = t} p) = OneByOne.and_then (long_slot p) (rows_same (flat_type t))

  rows_binders : {bs bs' : List TypedBinder} → LongBinders file bs bs' → Rows file (flat_binders bs) (flat_binders bs')
  unfolding flat_binders
  rows_binders (LongBinders.same_binders {bs = bs}) = rows_same (flat_binders bs)
  rows_binders (LongBinders.cons_binder p q) = rows_append (rows_binder p) (rows_binders q)

  count_binders : {bs bs' : List TypedBinder} → LongBinders file bs bs' → length bs ≡ length bs'
  count_binders LongBinders.same_binders = refl
  count_binders (LongBinders.cons_binder p q) = rw (count_binders q) refl

  count_terms : {ts ts' : Terms} → LongTerms file ts ts' → length_terms ts ≡ length_terms ts'
  unfolding length_terms
  count_terms LongTerms.no_terms = refl
  count_terms (LongTerms.cons_term p q) = rw (count_terms q) refl

  count_fields : {fs fs' : NamedArgs} → LongFields file fs fs' → length_fields fs ≡ length_fields fs'
  unfolding length_fields
  count_fields LongFields.same_fields = refl
  count_fields (LongFields.cons_field p q) = rw (count_fields q) refl

  mutual
    unfolding flat_condition is_name is_code

    rows_condition : {c c' : Condition} → LongCondition file c c' → Rows file (flat_condition c) (flat_condition c')
    rows_condition (LongCondition.same_condition {c = c}) = rows_same (flat_condition c)
    rows_condition (LongCondition.And p q) = rows_entry (rows_append (rows_condition p) (rows_condition q))
    rows_condition (LongCondition.Or p q) = rows_entry (rows_append (rows_condition p) (rows_condition q))
    rows_condition (LongCondition.Not p) = rows_entry (rows_condition p)
    rows_condition (LongCondition.Formerly p) = rows_entry (rows_entry (rows_condition p))
    rows_condition (LongCondition.Previous p) = rows_entry (rows_entry (rows_condition p))
    rows_condition (LongCondition.Since p q) = rows_entry (rows_append (rows_condition p) (rows_entry (rows_condition q)))
    rows_condition (LongCondition.Predicate {ns = ns} p) =
        rows_entry (rows_entry (rows_entry
        (rows_append (rows_same (flat_texts ns)) (rows_entry (rows_entry (rows_count (count_fields p) (rows_fields p)))))))
    rows_condition (LongCondition.Comparison p q) = rows_entry (rows_entry (rows_append (rows_term p) (rows_term q)))
    rows_condition (LongCondition.Exists b p) = rows_entry (rows_append (rows_binder b) (rows_condition p))
    rows_condition (LongCondition.Tp v) = rows_entry (OneByOne.and_then (long_slot v) OneByOne.none_left)

    rows_term : {t t' : Term} → LongTerm file t t' → Rows file (flat_term t) (flat_term t')
    rows_term (LongTerm.same_term {t = t}) = rows_same (flat_term t)
    rows_term (LongTerm.Var p) = OneByOne.and_then (long_name 27 refl p) OneByOne.none_left
    rows_term (LongTerm.Array p) = rows_count (count_terms p) (rows_terms p)
    rows_term (LongTerm.Agg p) = rows_entry (rows_agg p)
    rows_term (LongTerm.Arith p q) = rows_entry (rows_append (rows_term p) (rows_term q))

    rows_agg : {a a' : AggExpr} → LongAgg file a a' → Rows file (flat_agg a) (flat_agg a')
    rows_agg (LongAgg.Sum v bs p) =
        rows_entry (OneByOne.and_then (long_slot v) (rows_count (count_binders bs) (rows_append (rows_binders bs) (rows_condition p))))
    rows_agg (LongAgg.Count bs p) = rows_entry (rows_count (count_binders bs) (rows_append (rows_binders bs) (rows_condition p)))

    rows_terms : {ts ts' : Terms} → LongTerms file ts ts' → Rows file (flat_terms ts) (flat_terms ts')
    rows_terms LongTerms.no_terms = OneByOne.none_left
    rows_terms (LongTerms.cons_term p q) = rows_append (rows_term p) (rows_terms q)

    rows_fields : {fs fs' : NamedArgs} → LongFields file fs fs' → Rows file (flat_fields fs) (flat_fields fs')
    rows_fields (LongFields.same_fields {fs = fs}) = rows_same (flat_fields fs)
    rows_fields (LongFields.cons_field p q) = rows_entry (rows_append (rows_term p) (rows_fields q))

  rows_tree : {t t' : Tree} → LongTree file t t' → Rows file (flat_tree t) (flat_tree t')
  unfolding flat_tree
  rows_tree (LongTree.condition p) = rows_condition p
  rows_tree (LongTree.term p) = rows_term p

-- ------------------------------------------------------------------ an equal name is the inputs' own

module _ {file : ℕ} (above : 0 < file) (Kept : Text → Type 0) (Origin : Text → ℕ → Type 0) where
  -- a name generated in file f
  record From (f : ℕ) (name : Text) : Type 0 where
    binder : Text
    start : ℕ
    origin : Origin binder start
    its_name : name ≡ generated binder start f

  abbrev Named : ℕ → Entry → Type 0
  Named f e = T (is_name e.code) → Kept e.text ⊎ From f e.text

  -- no name is generated in both files
  both_files : {name : Text} → Kept name ⊎ From 0 name → Kept name ⊎ From file name → Kept name
  both_files (inl k) q = k
  both_files (inr p) (inl k) = k
  both_files (inr p) (inr q) =
      let same = names_apart p.binder q.binder p.start q.start 0 file (sym p.its_name ∙ q.its_name) in
      absurd (omega (arith, same.same_file))

  origin_of : (f : ℕ) (binder : Text) (start : ℕ) → From f (generated binder start f) → Origin binder start
  origin_of f binder start o =
      let same = names_apart binder o.binder start o.start f f o.its_name in
      rw (same.same_binder, same.same_start) o.origin

  exact : {e e' : Entry} → Loose file e e' → Named 0 e → Named file e' → LongEntry file Kept Origin e e'
  exact (equal {e = e}) h k = go (is_name e.code) refl
    where
      go : (x : Bool) → is_name e.code ≡ x → LongEntry file Kept Origin e e
      go true i = LongEntry.kept i (both_files (h (from_true i)) (k (from_true i)))
      go false i = LongEntry.no_name i
  exact (longer i binder start) h k = LongEntry.lengthened i (go (h (from_true i)) (k (from_true i)))
    where
      go : Kept (generated binder start 0) ⊎ From 0 (generated binder start 0)
          → Kept (generated binder start file) ⊎ From file (generated binder start file)
          → Origin binder start ⊎ (Kept (generated binder start 0) × Kept (generated binder start file))
      go (inl p) (inl q) = inr (p, q)
      go (inl p) (inr o) = inl (origin_of file binder start o)
      go (inr o) q = inl (origin_of 0 binder start o)

  rows_exact : {es es' : List Entry} → Rows file es es' → All (Named 0) es → All (Named file) es'
      → OneByOne (LongEntry file Kept Origin) es es'
  rows_exact OneByOne.none_left h k = OneByOne.none_left
  rows_exact (OneByOne.and_then r p) (all_cons n h) (all_cons m k) = OneByOne.and_then (exact r n m) (rows_exact p h k)

  abbrev NamesFrom : ℕ → Tree → Type 0
  NamesFrom f t = (name : Text) → name ∈ names_in (flat_tree t) → Kept name ⊎ From f name

  named_all : (f : ℕ) (t : Tree) → NamesFrom f t → All (Named f) (flat_tree t)
  named_all f t h = all_map (λ e m i. h e.text (name_in m i)) (all_in (flat_tree t))

  tree_exact : {t t' : Tree} → LongTree file t t' → NamesFrom 0 t → NamesFrom file t'
      → OneByOne (LongEntry file Kept Origin) (flat_tree t) (flat_tree t')
  tree_exact {t} {t'} p h k = rows_exact (rows_tree p) (named_all 0 t h) (named_all file t' k)

-- of outcomes that are known
alike_done : {A B : Type 0} {R : A → B → Type 0} {a : A} {b : B} {n n' : ℕ} → Alike R (Outcome.done a n) (Outcome.done b n') → R a b
alike_done (Alike.alike r) = r

trees_alike : {file : ℕ} {o o' : Outcome Tree} {t t' : Tree} {n n' : ℕ} → Alike (LongTree file) o o'
    → o ≡ Outcome.done t n → o' ≡ Outcome.done t' n' → LongTree file t t'
trees_alike {file} {o} {o'} {t} {t'} {n} h e e' =
    alike_done (subst (λ (x : Outcome Tree). Alike (LongTree file) (Outcome.done t n) x) e'
    (subst (λ (x : Outcome Tree). Alike (LongTree file) x o') e h))

-- ------------------------------------------------------------------ the laws

pub substitute_named : SubstituteNamed
substitute_named limit file def span macro args t t' n n' above e e' =
    tree_exact above Kept Origin (trees_alike (substitute_lengthened limit file def (Call.MacroCall span macro args)) e e')
    (λ name m. from 0 (substitute_names limit 0 def span macro args t n e name m))
    (λ name m. from file (substitute_names limit file def span macro args t' n' e' name m))
  where
    Kept : Text → Type 0
    Kept name = name ∈ given_names def args

    Origin : Text → ℕ → Type 0
    Origin = Made (flat_def def) (λ (s : ℕ). s ≡ span)

    from : (f : ℕ) {name : Text} → Kept name ⊎ GeneratedHere f def span name → Kept name ⊎ From above Kept Origin f name
    from f (inl k) = inl k
    from f (inr g) =
        inr
        (record {
          binder = g.binder;
          start = span_start span;
          origin = record { span = span; its_binder = g.its_binder; its_call = refl; its_start = refl };
          its_name = g.its_name;
        })

pub expand_named : ExpandNamed
expand_named limit file defs c t t' n n' above e e' =
    tree_exact above Kept Origin (trees_alike (expand_lengthened limit file defs c) e e')
    (λ name m. from 0 (names_generated limit 0 defs c t n e name m))
    (λ name m. from file (names_generated limit file defs c t' n' e' name m))
  where
    Kept : Text → Type 0
    Kept name = name ∈ protected_names defs c

    Origin : Text → ℕ → Type 0
    Origin = Made (flat_registry defs) (λ (s : ℕ). entry 54 s ∈ flat_condition c)

    from : (f : ℕ) {name : Text} → Kept name ⊎ Generated f defs c name → Kept name ⊎ From above Kept Origin f name
    from f (inl k) = inl k
    from f (inr g) =
        inr
        (record {
          binder = g.binder;
          start = span_start g.span;
          origin = record { span = g.span; its_binder = g.its_binder; its_call = g.its_call; its_start = refl };
          its_name = g.its_name;
        })
