-- The calls that Calls lists are the 54s among the entries that expansion enters (specs/CountsUsed.antt): those of the tree without its
-- fields and without the items of an operand's array, and those of the whole tree where nothing stands in such a place.
-- Assumes nothing.
use Prim.Native.Nat.{ℕ, suc, ◌+◌}
use native.Mathlib.Omega.{arith}
use mathlib.Core.Path.{◌≡◌, sym, ◌∙◌, ap, subst, refl}
use mathlib.Core.List.{List, [], ◌∷◌, ◌++◌, append_assoc, append-nil}
use mathlib.Core.Bool.{Bool, true, false, ◌||◌, false≢true}
use lib.Dec.{eqb}
use Rattle.format.specs.Entry.{Text, Entry, entry, text_entry}
use Rattle.format.specs.Ast.{TimeUnit, Interval, WithinSpec, BinderSlot, BinderType, TypedBinder, Sigil, Condition, Term, AggExpr, Call, CallArg, CallArgs, NamedArgs, Terms}
use Rattle.format.specs.Flat.{flat_texts, flat_unit, flat_interval, flat_within, flat_slot, flat_type, flat_binder, flat_binders, flat_sigil, flat_condition, flat_term, flat_agg, flat_call, flat_arg, flat_args, flat_fields, flat_terms}
use Rattle.format.specs.Limits.{weigh}
use Rattle.format.specs.Macro.{is_macro, is_code, holds_macro}
use Rattle.definition.specs.Text.{eq_text}
use Rattle.definition.specs.Calls.{calls_condition, calls_operand, calls_agg, calls_call, calls_arg, calls_args}
use Rattle.definition.specs.Counts.{calls_of}
use Rattle.definition.specs.Residue.{ClearCondition, ClearOperand, ClearAgg, ClearCall, ClearArg, ClearArgs}
use Rattle.definition.specs.CountsUsed.{entered_condition, entered_operand, entered_agg, entered_call, entered_arg, entered_args, named_next, calls_spelled, calls_entered, AllCallsEntered}

-- ------------------------------------------------------------------ entries that spell calls

split_calls : (name : Text) (us vs : List Text) → calls_of name (us ++ vs) ≡ calls_of name us + calls_of name vs
unfolding calls_of
split_calls name [] vs = omega arith
split_calls name (u ∷ us) vs = go (eq_text name u) (split_calls name us vs)
  where
    go : (b : Bool) → calls_of name (us ++ vs) ≡ calls_of name us + calls_of name vs
        → ◌≡◌ {A = ℕ} (elim b [ true ↦ suc (calls_of name (us ++ vs)) | false ↦ calls_of name (us ++ vs) ])
        ((elim b [ true ↦ suc (calls_of name us) | false ↦ calls_of name us ]) + calls_of name vs)
    go true h = omega (arith, h)
    go false h = h

-- these entries spell the calls of this name that are listed, whatever comes behind them
record Spell (name : Text) (es : List Entry) (calls : List Text) : Type 0 where
  counted : (rest : List Entry) → calls_spelled name (es ++ rest) ≡ calls_of name calls + calls_spelled name rest

module _ {name : Text} where
  no_entries : Spell name [] []
  unfolding calls_of
  no_entries = record { counted = λ rest. omega arith }

  both : {es fs : List Entry} {us vs : List Text} → Spell name es us → Spell name fs vs → Spell name (es ++ fs) (us ++ vs)
  both {es} {fs} {us} {vs} h k =
      record {
        counted = λ rest.
            let e = ap (calls_spelled name) (append_assoc es fs rest) in
            omega (arith, e, h.counted (fs ++ rest), k.counted rest, split_calls name us vs);
      }

  nothing_behind : {es : List Entry} {us : List Text} → Spell name es (us ++ []) → Spell name es us
  nothing_behind {es} {us} h = subst (λ (l : List Text). Spell name es l) (append-nil us) h

  -- an entry that is no 54
  past : {es : List Entry} {us : List Text} (e : Entry) → eqb e.code 54 ≡ false → Spell name es us → Spell name (e ∷ es) us
  unfolding calls_spelled weigh
  past {es} {us} e q h = record { counted = λ rest. rw q (omega (arith, h.counted rest)) }

  -- a 54, which is listed behind the calls of its arguments
  call : {es : List Entry} {us : List Text} (n : Text) (s : ℕ) → Spell name es us
      → Spell name (entry 54 s ∷ text_entry 40 n ∷ es) (us ++ (n ∷ []))
  unfolding calls_spelled named_next weigh calls_of
  call {es} {us} n s h = record { counted = λ rest. omega (arith, split_calls name us (n ∷ []), go (eq_text name n), h.counted rest) }
    where
      go : (b : Bool) → weigh b ≡ elim b [ true ↦ suc 0 | false ↦ 0 ]
      go true = omega arith
      go false = refl

  texts : (ts : List Text) → Spell name (flat_texts ts) []
  unfolding flat_texts
  texts [] = no_entries
  texts (t ∷ ts) = past (text_entry 40 t) refl (texts ts)

  slot : {es : List Entry} {us : List Text} (v : BinderSlot) → Spell name es us → Spell name (flat_slot v ∷ es) us
  unfolding flat_slot
  slot (BinderSlot.Name n) = past _ refl
  slot (BinderSlot.ParamRef n) = past _ refl
  slot (BinderSlot.BinderRef n) = past _ refl

  interval : {es : List Entry} {us : List Text} (i : Interval) → Spell name es us → Spell name (flat_interval i ∷ es) us
  unfolding flat_interval flat_unit
  interval {es} {us} i = past _ (unit i.unit)
    where
      unit : (u : TimeUnit) → eqb (flat_unit u) 54 ≡ false
      unit TimeUnit.Seconds = refl
      unit TimeUnit.Minutes = refl
      unit TimeUnit.Hours = refl
      unit TimeUnit.Days = refl
      unit TimeUnit.Weeks = refl

  within : {es : List Entry} {us : List Text} (w : WithinSpec) → Spell name es us → Spell name (flat_within w ∷ es) us
  unfolding flat_within
  within (WithinSpec.Concrete i) = interval i
  within (WithinSpec.ParamRef n) = past _ refl

  sigil : {es : List Entry} {us : List Text} (g : Sigil) (n : Text) → Spell name es us → Spell name (text_entry (flat_sigil g) n ∷ es) us
  unfolding flat_sigil
  sigil Sigil.Param n = past _ refl
  sigil Sigil.Binder n = past _ refl

  type : (t : BinderType) → Spell name (flat_type t) []
  unfolding flat_type
  type BinderType.Timepoint = past _ refl no_entries
  type (BinderType.Named path) = past _ refl (texts path)

  binder : (b : TypedBinder) → Spell name (flat_binder b) []
  unfolding flat_binder
  binder b = slot b.slot (type b.ty)

  binders : (bs : List TypedBinder) → Spell name (flat_binders bs) []
  unfolding flat_binders
  binders [] = no_entries
  binders (b ∷ bs) = both (binder b) (binders bs)

-- ------------------------------------------------------------------ the calls listed are the 54s of what is entered

module _ {name : Text} where
  mutual
    unfolding flat_condition entered_condition calls_condition flat_fields flat_terms

    of_condition : (c : Condition) → Spell name (flat_condition (entered_condition c)) (calls_condition c)
    of_condition (Condition.And s l r) = past _ refl (both (of_condition l) (of_condition r))
    of_condition (Condition.Or s l r) = past _ refl (both (of_condition l) (of_condition r))
    of_condition (Condition.Not s c) = past _ refl (of_condition c)
    of_condition (Condition.Formerly s w c) = past _ refl (within w (of_condition c))
    of_condition (Condition.Previous s w c) = past _ refl (within w (of_condition c))
    of_condition (Condition.Since s l w r) = past _ refl (both (of_condition l) (within w (of_condition r)))
    of_condition (Condition.Predicate s o ns a k fs) =
        past _ refl (past _ refl (past _ refl (both (texts ns) (past _ refl (past _ refl (past _ refl no_entries))))))
    of_condition (Condition.Comparison s op l r) = past _ refl (past _ refl (both (of_operand l) (of_operand r)))
    of_condition (Condition.Exists s b c) = past _ refl (both (binder b) (of_condition c))
    of_condition (Condition.Tp s v) = past _ refl (slot v no_entries)
    of_condition (Condition.ConditionCall s c) = past _ refl (of_call c)
    of_condition (Condition.SigilRef s g n) = past _ refl (sigil g n no_entries)
    of_condition (Condition.Refine s o c fs) = past _ refl (past _ refl (nothing_behind (both (of_condition c) (past _ refl no_entries))))

    of_operand : (t : Term) → Spell name (flat_term (entered_operand t)) (calls_operand t)
    of_operand (Term.Entity ty id) = past _ refl (past _ refl (past _ refl no_entries))
    of_operand (Term.Integer n) = past _ refl no_entries
    of_operand (Term.Decimal t) = past _ refl no_entries
    of_operand (Term.String t) = past _ refl no_entries
    of_operand (Term.Bool b) = past _ refl no_entries
    of_operand (Term.ContextField path) = past _ refl (texts path)
    of_operand (Term.ScopeField path) = past _ refl (texts path)
    of_operand (Term.Var n) = past _ refl no_entries
    of_operand Term.Wildcard = past _ refl no_entries
    of_operand (Term.Array ts) = past _ refl no_entries
    of_operand (Term.Agg a) = past _ refl (of_agg a)
    of_operand (Term.Arith op l r) = past _ refl (both (of_operand l) (of_operand r))
    of_operand (Term.ParamRef n) = past _ refl no_entries
    of_operand (Term.BinderRef n) = past _ refl no_entries

    of_agg : (a : AggExpr) → Spell name (flat_agg (entered_agg a)) (calls_agg a)
    of_agg (AggExpr.Sum s v bs c) = past _ refl (slot v (past _ refl (both (binders bs) (of_condition c))))
    of_agg (AggExpr.Count s bs c) = past _ refl (past _ refl (both (binders bs) (of_condition c)))
    of_agg (AggExpr.AggCall s c) = past _ refl (of_call c)

    of_call : (c : Call) → Spell name (flat_call (entered_call c)) (calls_call c)
    of_call (Call.MacroCall s n args) = call n s (past _ refl (of_args args))

    of_arg : (a : CallArg) → Spell name (flat_arg (entered_arg a)) (calls_arg a)
    of_arg (CallArg.ConditionArg c) = past _ refl (of_condition c)
    of_arg (CallArg.TermArg t) = past _ refl (of_operand t)
    of_arg (CallArg.WithinArg i) = past _ refl (interval i no_entries)

    of_args : (args : CallArgs) → Spell name (flat_args (entered_args args)) (calls_args args)
    of_args CallArgs.no_args = no_entries
    of_args (CallArgs.cons_arg a rest) = both (of_arg a) (of_args rest)

alone : {name : Text} {es : List Entry} {us : List Text} → Spell name es us → calls_spelled name es ≡ calls_of name us
unfolding calls_spelled
alone {name} {es} {us} h = let e = ap (calls_spelled name) (append-nil es) in omega (arith, h.counted [], e)

pub calls_as_entered : (name : Text) (c : Condition) → calls_entered name c ≡ calls_of name (calls_condition c)
unfolding calls_entered
calls_as_entered name c = alone (of_condition c)

-- ------------------------------------------------------------------ and of the whole tree, where nothing stands that is not entered

no_macro_head : (e : Entry) (es : List Entry) → holds_macro (e ∷ es) ≡ false → is_macro e.code ≡ false
unfolding holds_macro
no_macro_head e es h = go (is_macro e.code) h
  where
    go : (b : Bool) → (b || holds_macro es) ≡ false → b ≡ false
    go true k = k
    go false k = refl

no_macro_tail : (e : Entry) (es : List Entry) → holds_macro (e ∷ es) ≡ false → holds_macro es ≡ false
unfolding holds_macro
no_macro_tail e es h = go (is_macro e.code) h
  where
    go : (b : Bool) → (b || holds_macro es) ≡ false → holds_macro es ≡ false
    go true k = absurd (false≢true (sym k))
    go false k = k

no_macro_left : (es fs : List Entry) → holds_macro (es ++ fs) ≡ false → holds_macro es ≡ false
unfolding holds_macro
no_macro_left [] fs h = refl
no_macro_left (e ∷ es) fs h = rw (no_macro_head e (es ++ fs) h) (no_macro_left es fs (no_macro_tail e (es ++ fs) h))

no_macro_right : (es fs : List Entry) → holds_macro (es ++ fs) ≡ false → holds_macro fs ≡ false
no_macro_right [] fs h = h
no_macro_right (e ∷ es) fs h = no_macro_right es fs (no_macro_tail e (es ++ fs) h)

-- where no call is, nor a sigil or a refinement, there is no 54
record Free (name : Text) (es : List Entry) : Type 0 where
  free : holds_macro es ≡ false → Spell name es []

module _ {name : Text} where
  silent : {es : List Entry} → Spell name es [] → Free name es
  silent h = record { free = λ k. h }

  along : {es : List Entry} (e : Entry) → (Spell name es [] → Spell name (e ∷ es) []) → Free name es → Free name (e ∷ es)
  along {es} e f h = record { free = λ k. f (h.free (no_macro_tail e es k)) }

  skip : {es : List Entry} (e : Entry) → eqb e.code 54 ≡ false → Free name es → Free name (e ∷ es)
  skip e q = along e (past e q)

  joined : {es fs : List Entry} → Free name es → Free name fs → Free name (es ++ fs)
  joined {es} {fs} h k = record { free = λ m. both (h.free (no_macro_left es fs m)) (k.free (no_macro_right es fs m)) }

  -- what is no such place
  excluded : {es : List Entry} (e : Entry) → is_macro e.code ≡ true → Free name (e ∷ es)
  excluded {es} e q = record { free = λ k. absurd (false≢true (sym (no_macro_head e es k) ∙ q)) }

  mutual
    unfolding flat_condition is_macro is_code

    free_condition : (c : Condition) → Free name (flat_condition c)
    free_condition (Condition.And s l r) = skip _ refl (joined (free_condition l) (free_condition r))
    free_condition (Condition.Or s l r) = skip _ refl (joined (free_condition l) (free_condition r))
    free_condition (Condition.Not s c) = skip _ refl (free_condition c)
    free_condition (Condition.Formerly s w c) = skip _ refl (along _ (within w) (free_condition c))
    free_condition (Condition.Previous s w c) = skip _ refl (along _ (within w) (free_condition c))
    free_condition (Condition.Since s l w r) = skip _ refl (joined (free_condition l) (along _ (within w) (free_condition r)))
    free_condition (Condition.Predicate s o ns a k fs) =
        skip _ refl (skip _ refl (skip _ refl (joined (silent (texts ns)) (skip _ refl (skip _ refl (skip _ refl (free_fields fs)))))))
    free_condition (Condition.Comparison s op l r) = skip _ refl (skip _ refl (joined (free_term l) (free_term r)))
    free_condition (Condition.Exists s b c) = skip _ refl (joined (silent (binder b)) (free_condition c))
    free_condition (Condition.Tp s v) = silent (past _ refl (slot v no_entries))
    free_condition (Condition.ConditionCall s c) = excluded _ refl
    free_condition (Condition.SigilRef s g n) = excluded _ refl
    free_condition (Condition.Refine s o c fs) = excluded _ refl

    free_term : (t : Term) → Free name (flat_term t)
    free_term (Term.Entity ty id) = silent (past _ refl (past _ refl (past _ refl no_entries)))
    free_term (Term.Integer n) = silent (past _ refl no_entries)
    free_term (Term.Decimal t) = silent (past _ refl no_entries)
    free_term (Term.String t) = silent (past _ refl no_entries)
    free_term (Term.Bool b) = silent (past _ refl no_entries)
    free_term (Term.ContextField path) = silent (past _ refl (texts path))
    free_term (Term.ScopeField path) = silent (past _ refl (texts path))
    free_term (Term.Var n) = silent (past _ refl no_entries)
    free_term Term.Wildcard = silent (past _ refl no_entries)
    free_term (Term.Array ts) = skip _ refl (free_terms ts)
    free_term (Term.Agg a) = skip _ refl (free_agg a)
    free_term (Term.Arith op l r) = skip _ refl (joined (free_term l) (free_term r))
    free_term (Term.ParamRef n) = excluded _ refl
    free_term (Term.BinderRef n) = excluded _ refl

    free_agg : (a : AggExpr) → Free name (flat_agg a)
    free_agg (AggExpr.Sum s v bs c) = skip _ refl (along _ (slot v) (skip _ refl (joined (silent (binders bs)) (free_condition c))))
    free_agg (AggExpr.Count s bs c) = skip _ refl (skip _ refl (joined (silent (binders bs)) (free_condition c)))
    free_agg (AggExpr.AggCall s c) = excluded _ refl

    free_fields : (fs : NamedArgs) → Free name (flat_fields fs)
    free_fields NamedArgs.no_fields = silent no_entries
    free_fields (NamedArgs.cons_field n t fs) = skip _ refl (joined (free_term t) (free_fields fs))

    free_terms : (ts : Terms) → Free name (flat_terms ts)
    free_terms Terms.no_terms = silent no_entries
    free_terms (Terms.cons_term t ts) = joined (free_term t) (free_terms ts)

  mutual
    unfolding flat_condition calls_condition ClearCondition

    in_condition : (c : Condition) → ClearCondition c → Spell name (flat_condition c) (calls_condition c)
    in_condition (Condition.And s l r) h = past _ refl (both (in_condition l h.0) (in_condition r h.1))
    in_condition (Condition.Or s l r) h = past _ refl (both (in_condition l h.0) (in_condition r h.1))
    in_condition (Condition.Not s c) h = past _ refl (in_condition c h)
    in_condition (Condition.Formerly s w c) h = past _ refl (within w (in_condition c h))
    in_condition (Condition.Previous s w c) h = past _ refl (within w (in_condition c h))
    in_condition (Condition.Since s l w r) h = past _ refl (both (in_condition l h.0) (within w (in_condition r h.1)))
    in_condition (Condition.Predicate s o ns a k fs) h =
        past _ refl (past _ refl (past _ refl (both (texts ns) (past _ refl (past _ refl (past _ refl ((free_fields fs).free h)))))))
    in_condition (Condition.Comparison s op l r) h = past _ refl (past _ refl (both (in_operand l h.0) (in_operand r h.1)))
    in_condition (Condition.Exists s b c) h = past _ refl (both (binder b) (in_condition c h))
    in_condition (Condition.Tp s v) h = past _ refl (slot v no_entries)
    in_condition (Condition.ConditionCall s c) h = past _ refl (in_call c h)
    in_condition (Condition.SigilRef s g n) h = past _ refl (sigil g n no_entries)
    in_condition (Condition.Refine s o c fs) h =
        past _ refl (past _ refl (nothing_behind (both (in_condition c h.0) (past _ refl ((free_fields fs).free h.1)))))

    in_operand : (t : Term) → ClearOperand t → Spell name (flat_term t) (calls_operand t)
    in_operand (Term.Entity ty id) h = past _ refl (past _ refl (past _ refl no_entries))
    in_operand (Term.Integer n) h = past _ refl no_entries
    in_operand (Term.Decimal t) h = past _ refl no_entries
    in_operand (Term.String t) h = past _ refl no_entries
    in_operand (Term.Bool b) h = past _ refl no_entries
    in_operand (Term.ContextField path) h = past _ refl (texts path)
    in_operand (Term.ScopeField path) h = past _ refl (texts path)
    in_operand (Term.Var n) h = past _ refl no_entries
    in_operand Term.Wildcard h = past _ refl no_entries
    in_operand (Term.Array ts) h = past _ refl ((free_terms ts).free h)
    in_operand (Term.Agg a) h = past _ refl (in_agg a h)
    in_operand (Term.Arith op l r) h = past _ refl (both (in_operand l h.0) (in_operand r h.1))
    in_operand (Term.ParamRef n) h = past _ refl no_entries
    in_operand (Term.BinderRef n) h = past _ refl no_entries

    in_agg : (a : AggExpr) → ClearAgg a → Spell name (flat_agg a) (calls_agg a)
    in_agg (AggExpr.Sum s v bs c) h = past _ refl (slot v (past _ refl (both (binders bs) (in_condition c h))))
    in_agg (AggExpr.Count s bs c) h = past _ refl (past _ refl (both (binders bs) (in_condition c h)))
    in_agg (AggExpr.AggCall s c) h = past _ refl (in_call c h)

    in_call : (c : Call) → ClearCall c → Spell name (flat_call c) (calls_call c)
    in_call (Call.MacroCall s n args) h = call n s (past _ refl (in_args args h))

    in_arg : (a : CallArg) → ClearArg a → Spell name (flat_arg a) (calls_arg a)
    in_arg (CallArg.ConditionArg c) h = past _ refl (in_condition c h)
    in_arg (CallArg.TermArg t) h = past _ refl (in_operand t h)
    in_arg (CallArg.WithinArg i) h = past _ refl (interval i no_entries)

    in_args : (args : CallArgs) → ClearArgs args → Spell name (flat_args args) (calls_args args)
    in_args CallArgs.no_args h = no_entries
    in_args (CallArgs.cons_arg a rest) h = both (in_arg a h.0) (in_args rest h.1)

pub all_calls_entered : AllCallsEntered
all_calls_entered name c clear = calls_as_entered name c ∙ sym (alone (in_condition c clear))
