-- Two definitions "agree in everything but spans" exactly if the test of specs/Merge.antt says so. Trees with 0 for each span stand
-- between the two: they are spelled by the entries that the test compares, and entries spell one tree.
-- Assumes nothing.
use Prim.Native.Nat.{ℕ, suc}
use mathlib.Core.Path.{◌≡◌, refl, sym, ◌∙◌, ap, ap₂, subst}
use mathlib.Core.List.{List, [], ◌∷◌, ◌++◌}
use mathlib.Core.Bool.{false}
use mathlib.Core.Option.{some-injective}
use lib.ListN.{length}
use Rattle.format.specs.Entry.{Text, Entry, entry, text_entry}
use Rattle.format.specs.Ast.{TimeUnit, Interval, WithinSpec, BinderSlot, BinderType, TypedBinder, Sigil, Condition, Term, AggExpr, Call, CallArg, CallArgs, NamedArgs, Terms, MacroParam, MacroBody, MacroDef}
use Rattle.format.specs.Flat.{flat_texts, flat_unit, flat_interval, flat_within, flat_slot, flat_type, flat_binder, flat_binders, flat_sigil, flat_condition, flat_term, flat_agg, flat_call, flat_arg, flat_args, flat_fields, flat_terms, length_fields, length_args, length_terms, flat_params, flat_body, flat_def}
use Rattle.format.specs.Macro.{is_code}
use Rattle.format.specs.Build.{Stack, build}
use Rattle.format.specs.Tape.{Root, definition_root}
use Rattle.format.proofs.Builds.{Rooted, rooted_definition}
use Rattle.definition.specs.Merge.{is_spanned, unless_span, erase_span, erase_spans, AgreesButSpans}
use Rattle.definition.specs.Merges.{SameCondition, SameTerm, SameAgg, SameCall, SameArg, SameArgs, SameFields, SameTerms, SameParams, SameBody, ButSpans}
use Rattle.definition.proofs.Join.{agreement}

-- ------------------------------------------------------------------ the tree with 0 for each span

unfoldable mutual
  erased_condition : Condition → Condition
  erased_condition (Condition.And s l r) = Condition.And 0 (erased_condition l) (erased_condition r)
  erased_condition (Condition.Or s l r) = Condition.Or 0 (erased_condition l) (erased_condition r)
  erased_condition (Condition.Not s c) = Condition.Not 0 (erased_condition c)
  erased_condition (Condition.Formerly s w c) = Condition.Formerly 0 w (erased_condition c)
  erased_condition (Condition.Previous s w c) = Condition.Previous 0 w (erased_condition c)
  erased_condition (Condition.Since s l w r) = Condition.Since 0 (erased_condition l) w (erased_condition r)
  erased_condition (Condition.Predicate s o ns a k fs) = Condition.Predicate 0 0 ns a k (erased_fields fs)
  erased_condition (Condition.Comparison s op l r) = Condition.Comparison 0 op (erased_term l) (erased_term r)
  erased_condition (Condition.Exists s b c) = Condition.Exists 0 b (erased_condition c)
  erased_condition (Condition.Tp s v) = Condition.Tp 0 v
  erased_condition (Condition.ConditionCall s c) = Condition.ConditionCall 0 (erased_call c)
  erased_condition (Condition.SigilRef s g n) = Condition.SigilRef 0 g n
  erased_condition (Condition.Refine s o c fs) = Condition.Refine 0 0 (erased_condition c) (erased_fields fs)

  erased_term : Term → Term
  erased_term (Term.Entity ty id) = Term.Entity ty id
  erased_term (Term.Integer n) = Term.Integer n
  erased_term (Term.Decimal t) = Term.Decimal t
  erased_term (Term.String t) = Term.String t
  erased_term (Term.Bool b) = Term.Bool b
  erased_term (Term.ContextField path) = Term.ContextField path
  erased_term (Term.ScopeField path) = Term.ScopeField path
  erased_term (Term.Var n) = Term.Var n
  erased_term Term.Wildcard = Term.Wildcard
  erased_term (Term.Array ts) = Term.Array (erased_terms ts)
  erased_term (Term.Agg a) = Term.Agg (erased_agg a)
  erased_term (Term.Arith op l r) = Term.Arith op (erased_term l) (erased_term r)
  erased_term (Term.ParamRef n) = Term.ParamRef n
  erased_term (Term.BinderRef n) = Term.BinderRef n

  erased_agg : AggExpr → AggExpr
  erased_agg (AggExpr.Sum s v bs c) = AggExpr.Sum 0 v bs (erased_condition c)
  erased_agg (AggExpr.Count s bs c) = AggExpr.Count 0 bs (erased_condition c)
  erased_agg (AggExpr.AggCall s c) = AggExpr.AggCall 0 (erased_call c)

  erased_call : Call → Call
  erased_call (Call.MacroCall s n args) = Call.MacroCall 0 n (erased_args args)

  erased_arg : CallArg → CallArg
  erased_arg (CallArg.ConditionArg c) = CallArg.ConditionArg (erased_condition c)
  erased_arg (CallArg.TermArg t) = CallArg.TermArg (erased_term t)
  erased_arg (CallArg.WithinArg i) = CallArg.WithinArg i

  erased_args : CallArgs → CallArgs
  erased_args CallArgs.no_args = CallArgs.no_args
  erased_args (CallArgs.cons_arg a rest) = CallArgs.cons_arg (erased_arg a) (erased_args rest)

  erased_fields : NamedArgs → NamedArgs
  erased_fields NamedArgs.no_fields = NamedArgs.no_fields
  erased_fields (NamedArgs.cons_field n t fs) = NamedArgs.cons_field n (erased_term t) (erased_fields fs)

  erased_terms : Terms → Terms
  erased_terms Terms.no_terms = Terms.no_terms
  erased_terms (Terms.cons_term t ts) = Terms.cons_term (erased_term t) (erased_terms ts)

unfoldable erased_params : List MacroParam → List MacroParam
erased_params [] = []
erased_params (p ∷ ps) = record { span = 0; name = p.name } ∷ erased_params ps

unfoldable erased_body : MacroBody → MacroBody
erased_body MacroBody.Cedar = MacroBody.Cedar
erased_body (MacroBody.TemporalCondition c) = MacroBody.TemporalCondition (erased_condition c)
erased_body (MacroBody.TemporalValue t) = MacroBody.TemporalValue (erased_term t)

unfoldable erased : MacroDef → MacroDef
erased d = record { span = 0; name = d.name; params = erased_params d.params; body = erased_body d.body }

-- ------------------------------------------------------------------ it is spelled by the entries without their spans

data Erases : List Entry → List Entry → Type 0 where
  nothing : Erases [] []
  one : {e e' : Entry} {es fs : List Entry} → erase_span e ≡ e' → Erases es fs → Erases (e ∷ es) (e' ∷ fs)
  joined : {es fs es' fs' : List Entry} → Erases es fs → Erases es' fs' → Erases (es ++ es') (fs ++ fs')

erase_append : (es fs : List Entry) → erase_spans (es ++ fs) ≡ erase_spans es ++ erase_spans fs
unfolding erase_spans
erase_append [] fs = refl
erase_append (e ∷ es) fs = ap (λ (x : List Entry). erase_span e ∷ x) (erase_append es fs)

erases_so : {es fs : List Entry} → Erases es fs → erase_spans es ≡ fs
unfolding erase_spans
erases_so nothing = refl
erases_so (one e h) = ap₂ ◌∷◌ e (erases_so h)
erases_so (joined {es = es} {es' = es'} h k) = erase_append es es' ∙ ap₂ ◌++◌ (erases_so h) (erases_so k)

-- a count stays, though it is the count of other things
counted : {c m n : ℕ} {es fs : List Entry} → is_spanned c ≡ false → m ≡ n → Erases es fs → Erases (entry c n ∷ es) (entry c m ∷ fs)
unfolding erase_span unless_span
counted {c} {m} {n} h e k = one (rw (e, h) refl) k

-- the codes without a span keep their values
unfoldable opened : Unit {0}
unfolding erase_span unless_span is_spanned is_code
opened = tt

erases_texts : (ts : List Text) → Erases (flat_texts ts) (flat_texts ts)
unfolding opened flat_texts
erases_texts [] = nothing
erases_texts (t ∷ ts) = one refl (erases_texts ts)

unit_kept : (u : TimeUnit) → is_spanned (flat_unit u) ≡ false
unfolding opened flat_unit
unit_kept TimeUnit.Seconds = refl
unit_kept TimeUnit.Minutes = refl
unit_kept TimeUnit.Hours = refl
unit_kept TimeUnit.Days = refl
unit_kept TimeUnit.Weeks = refl

interval_kept : (i : Interval) → erase_span (flat_interval i) ≡ flat_interval i
unfolding erase_span unless_span flat_interval
interval_kept i = rw (unit_kept i.unit) refl

within_kept : (w : WithinSpec) → erase_span (flat_within w) ≡ flat_within w
unfolding opened flat_within
within_kept (WithinSpec.Concrete i) = interval_kept i
within_kept (WithinSpec.ParamRef n) = refl

slot_kept : (v : BinderSlot) → erase_span (flat_slot v) ≡ flat_slot v
unfolding opened flat_slot
slot_kept (BinderSlot.Name n) = refl
slot_kept (BinderSlot.ParamRef n) = refl
slot_kept (BinderSlot.BinderRef n) = refl

sigil_kept : (g : Sigil) → is_spanned (flat_sigil g) ≡ false
unfolding opened flat_sigil
sigil_kept Sigil.Param = refl
sigil_kept Sigil.Binder = refl

sigil_text_kept : (g : Sigil) (n : Text) → erase_span (text_entry (flat_sigil g) n) ≡ text_entry (flat_sigil g) n
unfolding erase_span unless_span
sigil_text_kept g n = rw (sigil_kept g) refl

erases_type : (t : BinderType) → Erases (flat_type t) (flat_type t)
unfolding opened flat_type
erases_type BinderType.Timepoint = one refl nothing
erases_type (BinderType.Named path) = one refl (erases_texts path)

erases_binder : (b : TypedBinder) → Erases (flat_binder b) (flat_binder b)
unfolding flat_binder
erases_binder b = one (slot_kept b.slot) (erases_type b.ty)

erases_binders : (bs : List TypedBinder) → Erases (flat_binders bs) (flat_binders bs)
unfolding flat_binders
erases_binders [] = nothing
erases_binders (b ∷ bs) = joined (erases_binder b) (erases_binders bs)

erases_params : (ps : List MacroParam) → Erases (flat_params ps) (flat_params (erased_params ps))
unfolding opened flat_params erased_params
erases_params [] = nothing
erases_params (p ∷ ps) = one refl (one refl (erases_params ps))

length_params : (ps : List MacroParam) → length (erased_params ps) ≡ length ps
unfolding erased_params
length_params [] = refl
length_params (p ∷ ps) = ap suc (length_params ps)

length_erased_args : (args : CallArgs) → length_args (erased_args args) ≡ length_args args
unfolding length_args erased_args
length_erased_args CallArgs.no_args = refl
length_erased_args (CallArgs.cons_arg a rest) = ap suc (length_erased_args rest)

length_erased_fields : (fs : NamedArgs) → length_fields (erased_fields fs) ≡ length_fields fs
unfolding length_fields erased_fields
length_erased_fields NamedArgs.no_fields = refl
length_erased_fields (NamedArgs.cons_field n t fs) = ap suc (length_erased_fields fs)

length_erased_terms : (ts : Terms) → length_terms (erased_terms ts) ≡ length_terms ts
unfolding length_terms erased_terms
length_erased_terms Terms.no_terms = refl
length_erased_terms (Terms.cons_term t ts) = ap suc (length_erased_terms ts)

mutual
  unfolding opened flat_condition erased_condition

  erases_condition : (c : Condition) → Erases (flat_condition c) (flat_condition (erased_condition c))
  erases_condition (Condition.And s l r) = one refl (joined (erases_condition l) (erases_condition r))
  erases_condition (Condition.Or s l r) = one refl (joined (erases_condition l) (erases_condition r))
  erases_condition (Condition.Not s c) = one refl (erases_condition c)
  erases_condition (Condition.Formerly s w c) = one refl (one (within_kept w) (erases_condition c))
  erases_condition (Condition.Previous s w c) = one refl (one (within_kept w) (erases_condition c))
  erases_condition (Condition.Since s l w r) = one refl (joined (erases_condition l) (one (within_kept w) (erases_condition r)))
  erases_condition (Condition.Predicate s o ns a k fs) =
      one refl (one refl (one refl (joined (erases_texts ns) (one refl (one refl
      (counted refl (length_erased_fields fs) (erases_fields fs)))))))
  erases_condition (Condition.Comparison s op l r) = one refl (one refl (joined (erases_term l) (erases_term r)))
  erases_condition (Condition.Exists s b c) = one refl (joined (erases_binder b) (erases_condition c))
  erases_condition (Condition.Tp s v) = one refl (one (slot_kept v) nothing)
  erases_condition (Condition.ConditionCall s c) = one refl (erases_call c)
  erases_condition (Condition.SigilRef s g n) = one refl (one (sigil_text_kept g n) nothing)
  erases_condition (Condition.Refine s o c fs) =
      one refl (one refl (joined (erases_condition c) (counted refl (length_erased_fields fs) (erases_fields fs))))

  erases_term : (t : Term) → Erases (flat_term t) (flat_term (erased_term t))
  erases_term (Term.Entity ty id) = one refl (one refl (one refl nothing))
  erases_term (Term.Integer n) = one refl nothing
  erases_term (Term.Decimal t) = one refl nothing
  erases_term (Term.String t) = one refl nothing
  erases_term (Term.Bool b) = one refl nothing
  erases_term (Term.ContextField path) = one refl (erases_texts path)
  erases_term (Term.ScopeField path) = one refl (erases_texts path)
  erases_term (Term.Var n) = one refl nothing
  erases_term Term.Wildcard = one refl nothing
  erases_term (Term.Array ts) = counted refl (length_erased_terms ts) (erases_terms ts)
  erases_term (Term.Agg a) = one refl (erases_agg a)
  erases_term (Term.Arith op l r) = one refl (joined (erases_term l) (erases_term r))
  erases_term (Term.ParamRef n) = one refl nothing
  erases_term (Term.BinderRef n) = one refl nothing

  erases_agg : (a : AggExpr) → Erases (flat_agg a) (flat_agg (erased_agg a))
  erases_agg (AggExpr.Sum s v bs c) = one refl (one (slot_kept v) (one refl (joined (erases_binders bs) (erases_condition c))))
  erases_agg (AggExpr.Count s bs c) = one refl (one refl (joined (erases_binders bs) (erases_condition c)))
  erases_agg (AggExpr.AggCall s c) = one refl (erases_call c)

  erases_call : (c : Call) → Erases (flat_call c) (flat_call (erased_call c))
  erases_call (Call.MacroCall s n args) = one refl (one refl (counted refl (length_erased_args args) (erases_args args)))

  erases_arg : (a : CallArg) → Erases (flat_arg a) (flat_arg (erased_arg a))
  erases_arg (CallArg.ConditionArg c) = one refl (erases_condition c)
  erases_arg (CallArg.TermArg t) = one refl (erases_term t)
  erases_arg (CallArg.WithinArg i) = one refl (one (interval_kept i) nothing)

  erases_args : (args : CallArgs) → Erases (flat_args args) (flat_args (erased_args args))
  erases_args CallArgs.no_args = nothing
  erases_args (CallArgs.cons_arg a rest) = joined (erases_arg a) (erases_args rest)

  erases_fields : (fs : NamedArgs) → Erases (flat_fields fs) (flat_fields (erased_fields fs))
  erases_fields NamedArgs.no_fields = nothing
  erases_fields (NamedArgs.cons_field n t fs) = one refl (joined (erases_term t) (erases_fields fs))

  erases_terms : (ts : Terms) → Erases (flat_terms ts) (flat_terms (erased_terms ts))
  erases_terms Terms.no_terms = nothing
  erases_terms (Terms.cons_term t ts) = joined (erases_term t) (erases_terms ts)

erases_body : (b : MacroBody) → Erases (flat_body b) (flat_body (erased_body b))
unfolding opened flat_body erased_body
erases_body MacroBody.Cedar = one refl nothing
erases_body (MacroBody.TemporalCondition c) = one refl (erases_condition c)
erases_body (MacroBody.TemporalValue t) = one refl (erases_term t)

erases_def : (d : MacroDef) → Erases (flat_def d) (flat_def (erased d))
unfolding opened flat_def erased
erases_def d = one refl (one refl (counted refl (length_params d.params) (joined (erases_params d.params) (erases_body d.body))))

-- ------------------------------------------------------------------ entries spell one tree

flat_one : {A : Type 0} (root : Root A) (a b : A) → Rooted root a → Rooted root b → root.flat a ≡ root.flat b → a ≡ b
flat_one {A = A} root a b h k e =
    let same : h.stack ≡ k.stack = some-injective h.stack k.stack (sym h.built ∙ (ap build e ∙ k.built)) in
    ap (λ (x : A × Stack). x.0) (some-injective (a, []) (b, []) (sym h.taken ∙ (ap root.reader same ∙ k.taken)))

def_one : (d e : MacroDef) → flat_def d ≡ flat_def e → d ≡ e
unfolding definition_root
def_one d e h = flat_one definition_root d e (rooted_definition d) (rooted_definition e) h

-- ------------------------------------------------------------------ equal but for spans: equal without them

mutual
  unfolding erased_condition

  without_condition : {c d : Condition} → SameCondition c d → erased_condition c ≡ erased_condition d
  without_condition (SameCondition.And h k) = ap₂ (Condition.And 0) (without_condition h) (without_condition k)
  without_condition (SameCondition.Or h k) = ap₂ (Condition.Or 0) (without_condition h) (without_condition k)
  without_condition (SameCondition.Not h) = ap (Condition.Not 0) (without_condition h)
  without_condition (SameCondition.Formerly {w = w} h) = ap (Condition.Formerly 0 w) (without_condition h)
  without_condition (SameCondition.Previous {w = w} h) = ap (Condition.Previous 0 w) (without_condition h)
  without_condition (SameCondition.Since {w = w} h k) =
      ap₂ (λ (l r : Condition). Condition.Since 0 l w r) (without_condition h) (without_condition k)
  without_condition (SameCondition.Predicate {ns = ns} {a = a} {k = k} h) = ap (Condition.Predicate 0 0 ns a k) (without_fields h)
  without_condition (SameCondition.Comparison {op = op} h k) = ap₂ (Condition.Comparison 0 op) (without_term h) (without_term k)
  without_condition (SameCondition.Exists {b = b} h) = ap (Condition.Exists 0 b) (without_condition h)
  without_condition SameCondition.Tp = refl
  without_condition (SameCondition.ConditionCall h) = ap (Condition.ConditionCall 0) (without_call h)
  without_condition SameCondition.SigilRef = refl
  without_condition (SameCondition.Refine h k) = ap₂ (Condition.Refine 0 0) (without_condition h) (without_fields k)

  without_term : {t u : Term} → SameTerm t u → erased_term t ≡ erased_term u
  without_term SameTerm.Entity = refl
  without_term SameTerm.Integer = refl
  without_term SameTerm.Decimal = refl
  without_term SameTerm.String = refl
  without_term SameTerm.Bool = refl
  without_term SameTerm.ContextField = refl
  without_term SameTerm.ScopeField = refl
  without_term SameTerm.Var = refl
  without_term SameTerm.Wildcard = refl
  without_term (SameTerm.Array h) = ap Term.Array (without_terms h)
  without_term (SameTerm.Agg h) = ap Term.Agg (without_agg h)
  without_term (SameTerm.Arith {op = op} h k) = ap₂ (Term.Arith op) (without_term h) (without_term k)
  without_term SameTerm.ParamRef = refl
  without_term SameTerm.BinderRef = refl

  without_agg : {a b : AggExpr} → SameAgg a b → erased_agg a ≡ erased_agg b
  without_agg (SameAgg.Sum {v = v} {bs = bs} h) = ap (AggExpr.Sum 0 v bs) (without_condition h)
  without_agg (SameAgg.Count {bs = bs} h) = ap (AggExpr.Count 0 bs) (without_condition h)
  without_agg (SameAgg.AggCall h) = ap (AggExpr.AggCall 0) (without_call h)

  without_call : {c d : Call} → SameCall c d → erased_call c ≡ erased_call d
  without_call (SameCall.MacroCall {n = n} h) = ap (Call.MacroCall 0 n) (without_args h)

  without_arg : {a b : CallArg} → SameArg a b → erased_arg a ≡ erased_arg b
  without_arg (SameArg.ConditionArg h) = ap CallArg.ConditionArg (without_condition h)
  without_arg (SameArg.TermArg h) = ap CallArg.TermArg (without_term h)
  without_arg SameArg.WithinArg = refl

  without_args : {a b : CallArgs} → SameArgs a b → erased_args a ≡ erased_args b
  without_args SameArgs.no_args = refl
  without_args (SameArgs.cons_arg h k) = ap₂ CallArgs.cons_arg (without_arg h) (without_args k)

  without_fields : {a b : NamedArgs} → SameFields a b → erased_fields a ≡ erased_fields b
  without_fields SameFields.no_fields = refl
  without_fields (SameFields.cons_field {n = n} h k) = ap₂ (NamedArgs.cons_field n) (without_term h) (without_fields k)

  without_terms : {a b : Terms} → SameTerms a b → erased_terms a ≡ erased_terms b
  without_terms SameTerms.no_terms = refl
  without_terms (SameTerms.cons_term h k) = ap₂ Terms.cons_term (without_term h) (without_terms k)

without_params : {ps qs : List MacroParam} → SameParams ps qs → erased_params ps ≡ erased_params qs
unfolding erased_params
without_params SameParams.no_params = refl
without_params (SameParams.cons_param h k) =
    ap₂ (λ (n : Text) (ps : List MacroParam). record { span = 0; name = n } ∷ ps) h (without_params k)

without_body : {a b : MacroBody} → SameBody a b → erased_body a ≡ erased_body b
unfolding erased_body
without_body SameBody.Cedar = refl
without_body (SameBody.TemporalCondition h) = ap MacroBody.TemporalCondition (without_condition h)
without_body (SameBody.TemporalValue h) = ap MacroBody.TemporalValue (without_term h)

without : {d e : MacroDef} → ButSpans d e → erased d ≡ erased e
unfolding erased
without h = λ i. record { span = 0; name = h.name i; params = without_params h.params i; body = without_body h.body i }

-- ------------------------------------------------------------------ a tree and itself without spans are equal but for them

mutual
  unfolding erased_condition

  beside_condition : (c : Condition) → SameCondition c (erased_condition c)
  beside_condition (Condition.And s l r) = SameCondition.And (beside_condition l) (beside_condition r)
  beside_condition (Condition.Or s l r) = SameCondition.Or (beside_condition l) (beside_condition r)
  beside_condition (Condition.Not s c) = SameCondition.Not (beside_condition c)
  beside_condition (Condition.Formerly s w c) = SameCondition.Formerly (beside_condition c)
  beside_condition (Condition.Previous s w c) = SameCondition.Previous (beside_condition c)
  beside_condition (Condition.Since s l w r) = SameCondition.Since (beside_condition l) (beside_condition r)
  beside_condition (Condition.Predicate s o ns a k fs) = SameCondition.Predicate (beside_fields fs)
  beside_condition (Condition.Comparison s op l r) = SameCondition.Comparison (beside_term l) (beside_term r)
  beside_condition (Condition.Exists s b c) = SameCondition.Exists (beside_condition c)
  beside_condition (Condition.Tp s v) = SameCondition.Tp
  beside_condition (Condition.ConditionCall s c) = SameCondition.ConditionCall (beside_call c)
  beside_condition (Condition.SigilRef s g n) = SameCondition.SigilRef
  beside_condition (Condition.Refine s o c fs) = SameCondition.Refine (beside_condition c) (beside_fields fs)

  beside_term : (t : Term) → SameTerm t (erased_term t)
  beside_term (Term.Entity ty id) = SameTerm.Entity
  beside_term (Term.Integer n) = SameTerm.Integer
  beside_term (Term.Decimal t) = SameTerm.Decimal
  beside_term (Term.String t) = SameTerm.String
  beside_term (Term.Bool b) = SameTerm.Bool
  beside_term (Term.ContextField path) = SameTerm.ContextField
  beside_term (Term.ScopeField path) = SameTerm.ScopeField
  beside_term (Term.Var n) = SameTerm.Var
  beside_term Term.Wildcard = SameTerm.Wildcard
  beside_term (Term.Array ts) = SameTerm.Array (beside_terms ts)
  beside_term (Term.Agg a) = SameTerm.Agg (beside_agg a)
  beside_term (Term.Arith op l r) = SameTerm.Arith (beside_term l) (beside_term r)
  beside_term (Term.ParamRef n) = SameTerm.ParamRef
  beside_term (Term.BinderRef n) = SameTerm.BinderRef

  beside_agg : (a : AggExpr) → SameAgg a (erased_agg a)
  beside_agg (AggExpr.Sum s v bs c) = SameAgg.Sum (beside_condition c)
  beside_agg (AggExpr.Count s bs c) = SameAgg.Count (beside_condition c)
  beside_agg (AggExpr.AggCall s c) = SameAgg.AggCall (beside_call c)

  beside_call : (c : Call) → SameCall c (erased_call c)
  beside_call (Call.MacroCall s n args) = SameCall.MacroCall (beside_args args)

  beside_arg : (a : CallArg) → SameArg a (erased_arg a)
  beside_arg (CallArg.ConditionArg c) = SameArg.ConditionArg (beside_condition c)
  beside_arg (CallArg.TermArg t) = SameArg.TermArg (beside_term t)
  beside_arg (CallArg.WithinArg i) = SameArg.WithinArg

  beside_args : (args : CallArgs) → SameArgs args (erased_args args)
  beside_args CallArgs.no_args = SameArgs.no_args
  beside_args (CallArgs.cons_arg a rest) = SameArgs.cons_arg (beside_arg a) (beside_args rest)

  beside_fields : (fs : NamedArgs) → SameFields fs (erased_fields fs)
  beside_fields NamedArgs.no_fields = SameFields.no_fields
  beside_fields (NamedArgs.cons_field n t fs) = SameFields.cons_field (beside_term t) (beside_fields fs)

  beside_terms : (ts : Terms) → SameTerms ts (erased_terms ts)
  beside_terms Terms.no_terms = SameTerms.no_terms
  beside_terms (Terms.cons_term t ts) = SameTerms.cons_term (beside_term t) (beside_terms ts)

beside_params : (ps : List MacroParam) → SameParams ps (erased_params ps)
unfolding erased_params
beside_params [] = SameParams.no_params
beside_params (p ∷ ps) = SameParams.cons_param refl (beside_params ps)

beside_body : (b : MacroBody) → SameBody b (erased_body b)
unfolding erased_body
beside_body MacroBody.Cedar = SameBody.Cedar
beside_body (MacroBody.TemporalCondition c) = SameBody.TemporalCondition (beside_condition c)
beside_body (MacroBody.TemporalValue t) = SameBody.TemporalValue (beside_term t)

-- ------------------------------------------------------------------ and so are two trees that are equal without them

mutual
  unfolding erased_condition

  back_condition : {c : Condition} (d : Condition) → SameCondition c (erased_condition d) → SameCondition c d
  back_condition (Condition.And s l r) (SameCondition.And h k) = SameCondition.And (back_condition l h) (back_condition r k)
  back_condition (Condition.Or s l r) (SameCondition.Or h k) = SameCondition.Or (back_condition l h) (back_condition r k)
  back_condition (Condition.Not s c) (SameCondition.Not h) = SameCondition.Not (back_condition c h)
  back_condition (Condition.Formerly s w c) (SameCondition.Formerly h) = SameCondition.Formerly (back_condition c h)
  back_condition (Condition.Previous s w c) (SameCondition.Previous h) = SameCondition.Previous (back_condition c h)
  back_condition (Condition.Since s l w r) (SameCondition.Since h k) = SameCondition.Since (back_condition l h) (back_condition r k)
  back_condition (Condition.Predicate s o ns a k fs) (SameCondition.Predicate h) = SameCondition.Predicate (back_fields fs h)
  back_condition (Condition.Comparison s op l r) (SameCondition.Comparison h k) = SameCondition.Comparison (back_term l h) (back_term r k)
  back_condition (Condition.Exists s b c) (SameCondition.Exists h) = SameCondition.Exists (back_condition c h)
  back_condition (Condition.Tp s v) SameCondition.Tp = SameCondition.Tp
  back_condition (Condition.ConditionCall s c) (SameCondition.ConditionCall h) = SameCondition.ConditionCall (back_call c h)
  back_condition (Condition.SigilRef s g n) SameCondition.SigilRef = SameCondition.SigilRef
  back_condition (Condition.Refine s o c fs) (SameCondition.Refine h k) = SameCondition.Refine (back_condition c h) (back_fields fs k)

  back_term : {t : Term} (u : Term) → SameTerm t (erased_term u) → SameTerm t u
  back_term (Term.Entity ty id) SameTerm.Entity = SameTerm.Entity
  back_term (Term.Integer n) SameTerm.Integer = SameTerm.Integer
  back_term (Term.Decimal t) SameTerm.Decimal = SameTerm.Decimal
  back_term (Term.String t) SameTerm.String = SameTerm.String
  back_term (Term.Bool b) SameTerm.Bool = SameTerm.Bool
  back_term (Term.ContextField path) SameTerm.ContextField = SameTerm.ContextField
  back_term (Term.ScopeField path) SameTerm.ScopeField = SameTerm.ScopeField
  back_term (Term.Var n) SameTerm.Var = SameTerm.Var
  back_term Term.Wildcard SameTerm.Wildcard = SameTerm.Wildcard
  back_term (Term.Array ts) (SameTerm.Array h) = SameTerm.Array (back_terms ts h)
  back_term (Term.Agg a) (SameTerm.Agg h) = SameTerm.Agg (back_agg a h)
  back_term (Term.Arith op l r) (SameTerm.Arith h k) = SameTerm.Arith (back_term l h) (back_term r k)
  back_term (Term.ParamRef n) SameTerm.ParamRef = SameTerm.ParamRef
  back_term (Term.BinderRef n) SameTerm.BinderRef = SameTerm.BinderRef

  back_agg : {a : AggExpr} (b : AggExpr) → SameAgg a (erased_agg b) → SameAgg a b
  back_agg (AggExpr.Sum s v bs c) (SameAgg.Sum h) = SameAgg.Sum (back_condition c h)
  back_agg (AggExpr.Count s bs c) (SameAgg.Count h) = SameAgg.Count (back_condition c h)
  back_agg (AggExpr.AggCall s c) (SameAgg.AggCall h) = SameAgg.AggCall (back_call c h)

  back_call : {c : Call} (d : Call) → SameCall c (erased_call d) → SameCall c d
  back_call (Call.MacroCall s n args) (SameCall.MacroCall h) = SameCall.MacroCall (back_args args h)

  back_arg : {a : CallArg} (b : CallArg) → SameArg a (erased_arg b) → SameArg a b
  back_arg (CallArg.ConditionArg c) (SameArg.ConditionArg h) = SameArg.ConditionArg (back_condition c h)
  back_arg (CallArg.TermArg t) (SameArg.TermArg h) = SameArg.TermArg (back_term t h)
  back_arg (CallArg.WithinArg i) SameArg.WithinArg = SameArg.WithinArg

  back_args : {a : CallArgs} (b : CallArgs) → SameArgs a (erased_args b) → SameArgs a b
  back_args CallArgs.no_args SameArgs.no_args = SameArgs.no_args
  back_args (CallArgs.cons_arg a rest) (SameArgs.cons_arg h k) = SameArgs.cons_arg (back_arg a h) (back_args rest k)

  back_fields : {a : NamedArgs} (b : NamedArgs) → SameFields a (erased_fields b) → SameFields a b
  back_fields NamedArgs.no_fields SameFields.no_fields = SameFields.no_fields
  back_fields (NamedArgs.cons_field n t fs) (SameFields.cons_field h k) = SameFields.cons_field (back_term t h) (back_fields fs k)

  back_terms : {a : Terms} (b : Terms) → SameTerms a (erased_terms b) → SameTerms a b
  back_terms Terms.no_terms SameTerms.no_terms = SameTerms.no_terms
  back_terms (Terms.cons_term t ts) (SameTerms.cons_term h k) = SameTerms.cons_term (back_term t h) (back_terms ts k)

back_params : {ps : List MacroParam} (qs : List MacroParam) → SameParams ps (erased_params qs) → SameParams ps qs
unfolding erased_params
back_params [] SameParams.no_params = SameParams.no_params
back_params (q ∷ qs) (SameParams.cons_param h k) = SameParams.cons_param h (back_params qs k)

back_body : {a : MacroBody} (b : MacroBody) → SameBody a (erased_body b) → SameBody a b
unfolding erased_body
back_body MacroBody.Cedar SameBody.Cedar = SameBody.Cedar
back_body (MacroBody.TemporalCondition c) (SameBody.TemporalCondition h) = SameBody.TemporalCondition (back_condition c h)
back_body (MacroBody.TemporalValue t) (SameBody.TemporalValue h) = SameBody.TemporalValue (back_term t h)

same_without : (d e : MacroDef) → erased d ≡ erased e → ButSpans d e
unfolding erased
same_without d e h =
    record {
      name = ap (λ (x : MacroDef). x.name) h;
      params = back_params e.params (subst (SameParams d.params) (ap (λ (x : MacroDef). x.params) h) (beside_params d.params));
      body = back_body e.body (subst (SameBody d.body) (ap (λ (x : MacroDef). x.body) h) (beside_body d.body));
    }

-- ------------------------------------------------------------------ the test is the sentence

pub but_spans : AgreesButSpans
but_spans d e =
    let p : erase_spans (flat_def d) ≡ flat_def (erased d) = erases_so (erases_def d) in
    let q : erase_spans (flat_def e) ≡ flat_def (erased e) = erases_so (erases_def e) in (
      λ t. same_without d e (def_one (erased d) (erased e) (sym p ∙ ((agreement d e).0 t ∙ q))),
      λ h. (agreement d e).1 (p ∙ (ap flat_def (without h) ∙ sym q)),
    )
