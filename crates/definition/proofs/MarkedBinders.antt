-- Definitions with a mark behind each of their `$` binders, as specs/Files.antt speaks of them: the one tree that the marked entries
-- spell.
-- Assumes nothing.
use Prim.Native.Nat.{ℕ}
use mathlib.Core.Path.{◌≡◌, refl, sym, ◌∙◌, ap, ap₂, subst}
use mathlib.Core.List.{List, [], ◌∷◌, ◌++◌, map}
use mathlib.Core.Bool.{Bool, true, false, not, ◌&&◌}
use lib.Dec.{T, eqb, eqb_refl, eqb→eq}
use mathlib.Core.Option.{some-injective}
use lib.ListN.{length}
use Rattle.format.specs.Entry.{Text, Entry, entry, text_entry}
use Rattle.format.specs.Ast.{Interval, TimeUnit, WithinSpec, BinderSlot, BinderType, TypedBinder, Sigil, Condition, Term, AggExpr, Call, CallArg, CallArgs, NamedArgs, Terms, MacroParam, MacroBody, MacroDef}
use Rattle.format.specs.Flat.{flat_texts, flat_unit, flat_interval, flat_within, flat_slot, flat_type, flat_binder, flat_binders, flat_sigil, length_terms, length_fields, length_args, flat_condition, flat_term, flat_agg, flat_call, flat_arg, flat_args, flat_fields, flat_terms, flat_params, flat_body, flat_def, flat_defs, flat_registry}
use Rattle.format.specs.Tape.{Root, definition_root, registry_root}
use Rattle.format.specs.Build.{build}
use Rattle.format.proofs.Tests.{and_left, and_right}
use Rattle.format.proofs.Builds.{Rooted, rooted_definition, rooted_registry}
use Rattle.definition.specs.Size.{size, body_size}
use Rattle.definition.specs.Lengthened.{OneByOne}
use Rattle.definition.specs.Files.{Marked}

-- ------------------------------------------------------------------ on trees

module _ (mark : Text) where
  unfoldable pub mark_slot : BinderSlot → BinderSlot
  mark_slot (BinderSlot.Name n) = BinderSlot.Name n
  mark_slot (BinderSlot.ParamRef n) = BinderSlot.ParamRef n
  mark_slot (BinderSlot.BinderRef n) = BinderSlot.BinderRef (n ++ mark)

  unfoldable pub mark_binder : TypedBinder → TypedBinder
  mark_binder b = record { slot = mark_slot b.slot; ty = b.ty }

  unfoldable pub mark_binders : List TypedBinder → List TypedBinder
  mark_binders [] = []
  mark_binders (b ∷ bs) = mark_binder b ∷ mark_binders bs

  unfoldable mutual
    pub mark_condition : Condition → Condition
    mark_condition (Condition.And s l r) = Condition.And s (mark_condition l) (mark_condition r)
    mark_condition (Condition.Or s l r) = Condition.Or s (mark_condition l) (mark_condition r)
    mark_condition (Condition.Not s c) = Condition.Not s (mark_condition c)
    mark_condition (Condition.Formerly s w c) = Condition.Formerly s w (mark_condition c)
    mark_condition (Condition.Previous s w c) = Condition.Previous s w (mark_condition c)
    mark_condition (Condition.Since s l w r) = Condition.Since s (mark_condition l) w (mark_condition r)
    mark_condition (Condition.Predicate s o ns a k fs) = Condition.Predicate s o ns a k (mark_fields fs)
    mark_condition (Condition.Comparison s op l r) = Condition.Comparison s op (mark_term l) (mark_term r)
    mark_condition (Condition.Exists s b c) = Condition.Exists s (mark_binder b) (mark_condition c)
    mark_condition (Condition.Tp s v) = Condition.Tp s (mark_slot v)
    mark_condition (Condition.ConditionCall s c) = Condition.ConditionCall s (mark_call c)
    mark_condition (Condition.SigilRef s g n) = Condition.SigilRef s g n
    mark_condition (Condition.Refine s o c fs) = Condition.Refine s o (mark_condition c) (mark_fields fs)

    pub mark_term : Term → Term
    mark_term (Term.Entity ty id) = Term.Entity ty id
    mark_term (Term.Integer n) = Term.Integer n
    mark_term (Term.Decimal t) = Term.Decimal t
    mark_term (Term.String t) = Term.String t
    mark_term (Term.Bool b) = Term.Bool b
    mark_term (Term.ContextField path) = Term.ContextField path
    mark_term (Term.ScopeField path) = Term.ScopeField path
    mark_term (Term.Var n) = Term.Var n
    mark_term Term.Wildcard = Term.Wildcard
    mark_term (Term.Array ts) = Term.Array (mark_terms ts)
    mark_term (Term.Agg a) = Term.Agg (mark_agg a)
    mark_term (Term.Arith op l r) = Term.Arith op (mark_term l) (mark_term r)
    mark_term (Term.ParamRef n) = Term.ParamRef n
    mark_term (Term.BinderRef n) = Term.BinderRef (n ++ mark)

    pub mark_agg : AggExpr → AggExpr
    mark_agg (AggExpr.Sum s v bs c) = AggExpr.Sum s (mark_slot v) (mark_binders bs) (mark_condition c)
    mark_agg (AggExpr.Count s bs c) = AggExpr.Count s (mark_binders bs) (mark_condition c)
    mark_agg (AggExpr.AggCall s c) = AggExpr.AggCall s (mark_call c)

    pub mark_call : Call → Call
    mark_call (Call.MacroCall s n args) = Call.MacroCall s n (mark_args args)

    pub mark_arg : CallArg → CallArg
    mark_arg (CallArg.ConditionArg c) = CallArg.ConditionArg (mark_condition c)
    mark_arg (CallArg.TermArg t) = CallArg.TermArg (mark_term t)
    mark_arg (CallArg.WithinArg i) = CallArg.WithinArg i

    pub mark_args : CallArgs → CallArgs
    mark_args CallArgs.no_args = CallArgs.no_args
    mark_args (CallArgs.cons_arg a rest) = CallArgs.cons_arg (mark_arg a) (mark_args rest)

    pub mark_fields : NamedArgs → NamedArgs
    mark_fields NamedArgs.no_fields = NamedArgs.no_fields
    mark_fields (NamedArgs.cons_field n t fs) = NamedArgs.cons_field n (mark_term t) (mark_fields fs)

    pub mark_terms : Terms → Terms
    mark_terms Terms.no_terms = Terms.no_terms
    mark_terms (Terms.cons_term t ts) = Terms.cons_term (mark_term t) (mark_terms ts)

  unfoldable pub mark_body : MacroBody → MacroBody
  mark_body MacroBody.Cedar = MacroBody.Cedar
  mark_body (MacroBody.TemporalCondition c) = MacroBody.TemporalCondition (mark_condition c)
  mark_body (MacroBody.TemporalValue t) = MacroBody.TemporalValue (mark_term t)

  unfoldable pub mark_def : MacroDef → MacroDef
  mark_def d = record { span = d.span; name = d.name; params = d.params; body = mark_body d.body }

  unfoldable pub mark_defs : List MacroDef → List MacroDef
  mark_defs [] = []
  mark_defs (d ∷ ds) = mark_def d ∷ mark_defs ds

  -- ------------------------------------------------------------------ entry by entry

  abbrev Marks : List Entry → List Entry → Type 0
  Marks es es' = OneByOne (Marked mark) es es'

  -- the code of no binder
  other : ℕ → Bool
  other c = not (eqb c 33) && not (eqb c 45)

  no_binder : (c d : ℕ) → T (not (eqb c d)) → c ≡ d → ⊥
  no_binder c d t e = go (eqb c d) (subst (λ (x : ℕ). T (eqb c x)) e (eqb_refl c)) t
    where
      go : (x : Bool) → T x → T (not x) → ⊥
      go true p q = q
      go false p q = p

  joined : {es es' fs fs' : List Entry} → Marks es es' → Marks fs fs' → Marks (es ++ fs) (es' ++ fs')
  joined OneByOne.none_left q = q
  joined (OneByOne.and_then r p) q = OneByOne.and_then r (joined p q)

  same : {e : Entry} {es es' : List Entry} → T (other e.code) → Marks es es' → Marks (e ∷ es) (e ∷ es')
  unfolding other
  same {e} t p =
      OneByOne.and_then
      (Marked.as_it_is (no_binder e.code 33 (and_left (not (eqb e.code 33)) _ t))
      (no_binder e.code 45 (and_right (not (eqb e.code 33)) _ t))) p

  -- a count
  counted : {c k k' : ℕ} {es es' : List Entry} → T (other c) → k' ≡ k → Marks es es' → Marks (entry c k ∷ es) (entry c k' ∷ es')
  counted {c} {k} {es = es} {es' = es'} t e p = subst (λ (l : ℕ). Marks (entry c k ∷ es) (entry c l ∷ es')) (sym e) (same t p)

  marks_texts : (ts : List Text) → Marks (flat_texts ts) (flat_texts ts)
  unfolding flat_texts other
  marks_texts [] = OneByOne.none_left
  marks_texts (t ∷ ts) = same tt (marks_texts ts)

  marks_interval : (i : Interval) {es es' : List Entry} → Marks es es' → Marks (flat_interval i ∷ es) (flat_interval i ∷ es')
  unfolding flat_interval flat_unit other
  marks_interval i {es = es} {es' = es'} p = go i.unit
    where
      go : (u : TimeUnit) → Marks (entry (flat_unit u) i.amount ∷ es) (entry (flat_unit u) i.amount ∷ es')
      go TimeUnit.Seconds = same tt p
      go TimeUnit.Minutes = same tt p
      go TimeUnit.Hours = same tt p
      go TimeUnit.Days = same tt p
      go TimeUnit.Weeks = same tt p

  marks_within : (w : WithinSpec) {es es' : List Entry} → Marks es es' → Marks (flat_within w ∷ es) (flat_within w ∷ es')
  unfolding flat_within other
  marks_within (WithinSpec.Concrete i) p = marks_interval i p
  marks_within (WithinSpec.ParamRef n) p = same tt p

  marks_slot : (v : BinderSlot) {es es' : List Entry} → Marks es es' → Marks (flat_slot v ∷ es) (flat_slot (mark_slot v) ∷ es')
  unfolding flat_slot mark_slot other
  marks_slot (BinderSlot.Name n) p = same tt p
  marks_slot (BinderSlot.ParamRef n) p = same tt p
  marks_slot (BinderSlot.BinderRef n) p = OneByOne.and_then (Marked.binder_slot n) p

  marks_type : (t : BinderType) → Marks (flat_type t) (flat_type t)
  unfolding flat_type other
  marks_type BinderType.Timepoint = same tt OneByOne.none_left
  marks_type (BinderType.Named path) = same tt (marks_texts path)

  marks_binder : (b : TypedBinder) → Marks (flat_binder b) (flat_binder (mark_binder b))
  unfolding flat_binder mark_binder
  marks_binder b = marks_slot b.slot (marks_type b.ty)

  marks_binders : (bs : List TypedBinder) → Marks (flat_binders bs) (flat_binders (mark_binders bs))
  unfolding flat_binders mark_binders
  marks_binders [] = OneByOne.none_left
  marks_binders (b ∷ bs) = joined (marks_binder b) (marks_binders bs)

  count_binders : (bs : List TypedBinder) → length (mark_binders bs) ≡ length bs
  unfolding mark_binders
  count_binders [] = refl
  count_binders (b ∷ bs) = rw (count_binders bs) refl

  count_fields : (fs : NamedArgs) → length_fields (mark_fields fs) ≡ length_fields fs
  unfolding length_fields mark_condition
  count_fields NamedArgs.no_fields = refl
  count_fields (NamedArgs.cons_field n t fs) = rw (count_fields fs) refl

  count_terms : (ts : Terms) → length_terms (mark_terms ts) ≡ length_terms ts
  unfolding length_terms mark_condition
  count_terms Terms.no_terms = refl
  count_terms (Terms.cons_term t ts) = rw (count_terms ts) refl

  count_args : (args : CallArgs) → length_args (mark_args args) ≡ length_args args
  unfolding length_args mark_condition
  count_args CallArgs.no_args = refl
  count_args (CallArgs.cons_arg a rest) = rw (count_args rest) refl

  mutual
    unfolding flat_condition mark_condition flat_sigil other

    marks_condition : (c : Condition) → Marks (flat_condition c) (flat_condition (mark_condition c))
    marks_condition (Condition.And s l r) = same tt (joined (marks_condition l) (marks_condition r))
    marks_condition (Condition.Or s l r) = same tt (joined (marks_condition l) (marks_condition r))
    marks_condition (Condition.Not s c) = same tt (marks_condition c)
    marks_condition (Condition.Formerly s w c) = same tt (marks_within w (marks_condition c))
    marks_condition (Condition.Previous s w c) = same tt (marks_within w (marks_condition c))
    marks_condition (Condition.Since s l w r) = same tt (joined (marks_condition l) (marks_within w (marks_condition r)))
    marks_condition (Condition.Predicate s o ns a k fs) =
        same tt (same tt (same tt (joined (marks_texts ns) (same tt (same tt (counted tt (count_fields fs) (marks_fields fs)))))))
    marks_condition (Condition.Comparison s op l r) = same tt (same tt (joined (marks_term l) (marks_term r)))
    marks_condition (Condition.Exists s b c) = same tt (joined (marks_binder b) (marks_condition c))
    marks_condition (Condition.Tp s v) = same tt (marks_slot v OneByOne.none_left)
    marks_condition (Condition.ConditionCall s c) = same tt (marks_call c)
    marks_condition (Condition.SigilRef s Sigil.Param n) = same tt (same tt OneByOne.none_left)
    marks_condition (Condition.SigilRef s Sigil.Binder n) = same tt (same tt OneByOne.none_left)
    marks_condition (Condition.Refine s o c fs) =
        same tt (same tt (joined (marks_condition c) (counted tt (count_fields fs) (marks_fields fs))))

    marks_term : (t : Term) → Marks (flat_term t) (flat_term (mark_term t))
    marks_term (Term.Entity ty id) = same tt (same tt (same tt OneByOne.none_left))
    marks_term (Term.Integer n) = same tt OneByOne.none_left
    marks_term (Term.Decimal t) = same tt OneByOne.none_left
    marks_term (Term.String t) = same tt OneByOne.none_left
    marks_term (Term.Bool b) = same tt OneByOne.none_left
    marks_term (Term.ContextField path) = same tt (marks_texts path)
    marks_term (Term.ScopeField path) = same tt (marks_texts path)
    marks_term (Term.Var n) = same tt OneByOne.none_left
    marks_term Term.Wildcard = same tt OneByOne.none_left
    marks_term (Term.Array ts) = counted tt (count_terms ts) (marks_terms ts)
    marks_term (Term.Agg a) = same tt (marks_agg a)
    marks_term (Term.Arith op l r) = same tt (joined (marks_term l) (marks_term r))
    marks_term (Term.ParamRef n) = same tt OneByOne.none_left
    marks_term (Term.BinderRef n) = OneByOne.and_then (Marked.binder_term n) OneByOne.none_left

    marks_agg : (a : AggExpr) → Marks (flat_agg a) (flat_agg (mark_agg a))
    marks_agg (AggExpr.Sum s v bs c) =
        same tt (marks_slot v (counted tt (count_binders bs) (joined (marks_binders bs) (marks_condition c))))
    marks_agg (AggExpr.Count s bs c) = same tt (counted tt (count_binders bs) (joined (marks_binders bs) (marks_condition c)))
    marks_agg (AggExpr.AggCall s c) = same tt (marks_call c)

    marks_call : (c : Call) → Marks (flat_call c) (flat_call (mark_call c))
    marks_call (Call.MacroCall s n args) = same tt (same tt (counted tt (count_args args) (marks_args args)))

    marks_arg : (a : CallArg) → Marks (flat_arg a) (flat_arg (mark_arg a))
    marks_arg (CallArg.ConditionArg c) = same tt (marks_condition c)
    marks_arg (CallArg.TermArg t) = same tt (marks_term t)
    marks_arg (CallArg.WithinArg i) = same tt (marks_interval i OneByOne.none_left)

    marks_args : (args : CallArgs) → Marks (flat_args args) (flat_args (mark_args args))
    marks_args CallArgs.no_args = OneByOne.none_left
    marks_args (CallArgs.cons_arg a rest) = joined (marks_arg a) (marks_args rest)

    marks_fields : (fs : NamedArgs) → Marks (flat_fields fs) (flat_fields (mark_fields fs))
    marks_fields NamedArgs.no_fields = OneByOne.none_left
    marks_fields (NamedArgs.cons_field n t fs) = same tt (joined (marks_term t) (marks_fields fs))

    marks_terms : (ts : Terms) → Marks (flat_terms ts) (flat_terms (mark_terms ts))
    marks_terms Terms.no_terms = OneByOne.none_left
    marks_terms (Terms.cons_term t ts) = joined (marks_term t) (marks_terms ts)

  marks_params : (ps : List MacroParam) → Marks (flat_params ps) (flat_params ps)
  unfolding flat_params other
  marks_params [] = OneByOne.none_left
  marks_params (q ∷ ps) = same tt (same tt (marks_params ps))

  marks_body : (b : MacroBody) → Marks (flat_body b) (flat_body (mark_body b))
  unfolding flat_body mark_body other
  marks_body MacroBody.Cedar = same tt OneByOne.none_left
  marks_body (MacroBody.TemporalCondition c) = same tt (marks_condition c)
  marks_body (MacroBody.TemporalValue t) = same tt (marks_term t)

  pub marks_def : (d : MacroDef) → Marks (flat_def d) (flat_def (mark_def d))
  unfolding flat_def mark_def other
  marks_def d = same tt (same tt (same tt (joined (marks_params d.params) (marks_body d.body))))

  marks_defs : (ds : List MacroDef) → Marks (flat_defs ds) (flat_defs (mark_defs ds))
  unfolding flat_defs mark_defs
  marks_defs [] = OneByOne.none_left
  marks_defs (d ∷ ds) = joined (marks_def d) (marks_defs ds)

  count_defs : (ds : List MacroDef) → length (mark_defs ds) ≡ length ds
  unfolding mark_defs
  count_defs [] = refl
  count_defs (d ∷ ds) = rw (count_defs ds) refl

  pub marks_registry : (ds : List MacroDef) → Marks (flat_registry ds) (flat_registry (mark_defs ds))
  unfolding flat_registry other
  marks_registry ds = counted tt (count_defs ds) (marks_defs ds)

  -- ------------------------------------------------------------------ what is charged

  marks_size : {es es' : List Entry} → Marks es es' → size es' ≡ size es
  unfolding size
  marks_size OneByOne.none_left = refl
  marks_size (OneByOne.and_then (Marked.binder_term b) p) = rw (marks_size p) refl
  marks_size (OneByOne.and_then (Marked.binder_slot b) p) = rw (marks_size p) refl
  marks_size (OneByOne.and_then (Marked.as_it_is h k) p) = rw (marks_size p) refl

  pub mark_size : (b : MacroBody) → body_size (mark_body b) ≡ body_size b
  unfolding body_size mark_body
  mark_size MacroBody.Cedar = refl
  mark_size (MacroBody.TemporalCondition c) = marks_size (marks_condition c)
  mark_size (MacroBody.TemporalValue t) = marks_size (marks_term t)

  -- ------------------------------------------------------------------ the one marked tree

  mark_entry : Entry → Entry
  mark_entry e = elim (other e.code) [ true ↦ e | false ↦ text_entry e.code (e.text ++ mark) ]

  is_other : (c : ℕ) → (c ≡ 33 → ⊥) → (c ≡ 45 → ⊥) → other c ≡ true
  unfolding other
  is_other c h k = go (eqb c 33) (eqb c 45) (λ t. h (eqb→eq c 33 t)) (λ t. k (eqb→eq c 45 t))
    where
      go : (x y : Bool) → (T x → ⊥) → (T y → ⊥) → (not x && not y) ≡ true
      go true y f g = absurd (f tt)
      go false true f g = absurd (g tt)
      go false false f g = refl

  its_entry : {e f : Entry} → Marked mark e f → f ≡ mark_entry e
  unfolding mark_entry other
  its_entry (Marked.binder_term b) = refl
  its_entry (Marked.binder_slot b) = refl
  its_entry (Marked.as_it_is {e = e} h k) = rw (is_other e.code h k, mark_entry) refl

  its_list : {es fs : List Entry} → Marks es fs → fs ≡ map mark_entry es
  its_list OneByOne.none_left = refl
  its_list (OneByOne.and_then r p) = ap₂ ◌∷◌ (its_entry r) (its_list p)

  one_list : {es fs gs : List Entry} → Marks es fs → Marks es gs → fs ≡ gs
  one_list p q = its_list p ∙ sym (its_list q)

-- entries spell one tree
of_rooted : {A : Type 0} (root : Root A) (a b : A) → Rooted root a → Rooted root b → root.flat a ≡ root.flat b → a ≡ b
of_rooted root a b p q e =
    let same_stack : p.stack ≡ q.stack = some-injective _ _ (sym p.built ∙ (ap build e ∙ q.built)) in
    ap (λ x. x.0) (some-injective _ _ (sym p.taken ∙ (ap root.reader same_stack ∙ q.taken)))

pub marked_def : (mark : Text) (d e : MacroDef) → OneByOne (Marked mark) (flat_def d) (flat_def e) → e ≡ mark_def mark d
unfolding definition_root
marked_def mark d e h =
    of_rooted definition_root e (mark_def mark d) (rooted_definition e) (rooted_definition (mark_def mark d))
    (one_list mark h (marks_def mark d))

pub marked_registry : (mark : Text) (ds es : List MacroDef) → OneByOne (Marked mark) (flat_registry ds) (flat_registry es)
    → es ≡ mark_defs mark ds
unfolding registry_root
marked_registry mark ds es h =
    of_rooted registry_root es (mark_defs mark ds) (rooted_registry es) (rooted_registry (mark_defs mark ds))
    (one_list mark h (marks_registry mark ds))
