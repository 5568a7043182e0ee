-- A 60 stands nowhere in a registry but where a definition begins: a clause for each constructor.
-- Assumes nothing.
use mathlib.Core.Path.{◌≡◌, refl}
use mathlib.Core.List.{List, [], ◌∷◌}
use mathlib.Core.Bool.{false}
use lib.Dec.{eqb}
use Rattle.format.specs.Entry.{Text, Entry}
use Rattle.format.specs.Ast.{
  TimeUnit,
  Interval,
  WithinSpec,
  BinderSlot,
  BinderType,
  TypedBinder,
  Sigil,
  Condition,
  Term,
  AggExpr,
  Call,
  CallArg,
  CallArgs,
  NamedArgs,
  Terms,
  MacroParam,
  MacroBody,
}
use Rattle.format.specs.Flat.{flat_texts, flat_unit, flat_interval, flat_within, flat_slot, flat_type, flat_binder, flat_binders, flat_sigil, flat_condition, flat_term, flat_agg, flat_call, flat_arg, flat_args, flat_fields, flat_terms, flat_params, flat_body, open_flat}
use Rattle.format.proofs.All.{All, all_nil, all_cons, all_append}

abbrev pub Other : Entry → Type 0
Other e = eqb e.code 60 ≡ false

-- entries of which none is a 60
abbrev pub Inner : List Entry → Type 0
Inner es = All Other es

-- ------------------------------------------------------------------ parts without trees

inner_texts : (ts : List Text) → Inner (flat_texts ts)
unfolding flat_texts
inner_texts [] = all_nil
inner_texts (t ∷ ts) = all_cons refl (inner_texts ts)

other_interval : (i : Interval) → Other (flat_interval i)
unfolding flat_interval flat_unit
other_interval i = go i.unit
  where
    go : (u : TimeUnit) → eqb (flat_unit u) 60 ≡ false
    go TimeUnit.Seconds = refl
    go TimeUnit.Minutes = refl
    go TimeUnit.Hours = refl
    go TimeUnit.Days = refl
    go TimeUnit.Weeks = refl

other_within : (w : WithinSpec) → Other (flat_within w)
unfolding flat_within
other_within (WithinSpec.Concrete i) = other_interval i
other_within (WithinSpec.ParamRef n) = refl

other_slot : (v : BinderSlot) → Other (flat_slot v)
unfolding flat_slot
other_slot (BinderSlot.Name n) = refl
other_slot (BinderSlot.ParamRef n) = refl
other_slot (BinderSlot.BinderRef n) = refl

inner_type : (t : BinderType) → Inner (flat_type t)
unfolding flat_type
inner_type BinderType.Timepoint = all_cons refl all_nil
inner_type (BinderType.Named path) = all_cons refl (inner_texts path)

inner_binder : (b : TypedBinder) → Inner (flat_binder b)
unfolding flat_binder
inner_binder b = all_cons (other_slot b.slot) (inner_type b.ty)

inner_binders : (bs : List TypedBinder) → Inner (flat_binders bs)
unfolding flat_binders
inner_binders [] = all_nil
inner_binders (b ∷ bs) = all_append (inner_binder b) (inner_binders bs)

other_sigil : (g : Sigil) → eqb (flat_sigil g) 60 ≡ false
unfolding flat_sigil
other_sigil Sigil.Param = refl
other_sigil Sigil.Binder = refl

-- ------------------------------------------------------------------ the trees

mutual
  unfolding open_flat

  inner_condition : (c : Condition) → Inner (flat_condition c)
  inner_condition (Condition.And s l r) = all_cons refl (all_append (inner_condition l) (inner_condition r))
  inner_condition (Condition.Or s l r) = all_cons refl (all_append (inner_condition l) (inner_condition r))
  inner_condition (Condition.Not s c) = all_cons refl (inner_condition c)
  inner_condition (Condition.Formerly s w c) = all_cons refl (all_cons (other_within w) (inner_condition c))
  inner_condition (Condition.Previous s w c) = all_cons refl (all_cons (other_within w) (inner_condition c))
  inner_condition (Condition.Since s l w r) =
      all_cons refl (all_append (inner_condition l) (all_cons (other_within w) (inner_condition r)))
  inner_condition (Condition.Predicate s o ns a k fs) =
      all_cons refl (all_cons refl (all_cons refl
      (all_append (inner_texts ns) (all_cons refl (all_cons refl (all_cons refl (inner_fields fs)))))))
  inner_condition (Condition.Comparison s op l r) = all_cons refl (all_cons refl (all_append (inner_term l) (inner_term r)))
  inner_condition (Condition.Exists s b c) = all_cons refl (all_append (inner_binder b) (inner_condition c))
  inner_condition (Condition.Tp s v) = all_cons refl (all_cons (other_slot v) all_nil)
  inner_condition (Condition.ConditionCall s c) = all_cons refl (inner_call c)
  inner_condition (Condition.SigilRef s g n) = all_cons refl (all_cons (other_sigil g) all_nil)
  inner_condition (Condition.Refine s o c fs) =
      all_cons refl (all_cons refl (all_append (inner_condition c) (all_cons refl (inner_fields fs))))

  inner_term : (t : Term) → Inner (flat_term t)
  inner_term (Term.Entity ty id) = all_cons refl (all_cons refl (all_cons refl all_nil))
  inner_term (Term.Integer n) = all_cons refl all_nil
  inner_term (Term.Decimal t) = all_cons refl all_nil
  inner_term (Term.String t) = all_cons refl all_nil
  inner_term (Term.Bool b) = all_cons refl all_nil
  inner_term (Term.ContextField path) = all_cons refl (inner_texts path)
  inner_term (Term.ScopeField path) = all_cons refl (inner_texts path)
  inner_term (Term.Var n) = all_cons refl all_nil
  inner_term Term.Wildcard = all_cons refl all_nil
  inner_term (Term.Array ts) = all_cons refl (inner_terms ts)
  inner_term (Term.Agg a) = all_cons refl (inner_agg a)
  inner_term (Term.Arith op l r) = all_cons refl (all_append (inner_term l) (inner_term r))
  inner_term (Term.ParamRef n) = all_cons refl all_nil
  inner_term (Term.BinderRef n) = all_cons refl all_nil

  inner_agg : (a : AggExpr) → Inner (flat_agg a)
  inner_agg (AggExpr.Sum s v bs c) =
      all_cons refl (all_cons (other_slot v) (all_cons refl (all_append (inner_binders bs) (inner_condition c))))
  inner_agg (AggExpr.Count s bs c) = all_cons refl (all_cons refl (all_append (inner_binders bs) (inner_condition c)))
  inner_agg (AggExpr.AggCall s c) = all_cons refl (inner_call c)

  inner_call : (c : Call) → Inner (flat_call c)
  inner_call (Call.MacroCall s n args) = all_cons refl (all_cons refl (all_cons refl (inner_args args)))

  inner_arg : (a : CallArg) → Inner (flat_arg a)
  inner_arg (CallArg.ConditionArg c) = all_cons refl (inner_condition c)
  inner_arg (CallArg.TermArg t) = all_cons refl (inner_term t)
  inner_arg (CallArg.WithinArg i) = all_cons refl (all_cons (other_interval i) all_nil)

  inner_args : (args : CallArgs) → Inner (flat_args args)
  inner_args CallArgs.no_args = all_nil
  inner_args (CallArgs.cons_arg a rest) = all_append (inner_arg a) (inner_args rest)

  inner_fields : (fs : NamedArgs) → Inner (flat_fields fs)
  inner_fields NamedArgs.no_fields = all_nil
  inner_fields (NamedArgs.cons_field n t fs) = all_cons refl (all_append (inner_term t) (inner_fields fs))

  inner_terms : (ts : Terms) → Inner (flat_terms ts)
  inner_terms Terms.no_terms = all_nil
  inner_terms (Terms.cons_term t ts) = all_append (inner_term t) (inner_terms ts)

-- ------------------------------------------------------------------ definitions

pub inner_params : (ps : List MacroParam) → Inner (flat_params ps)
unfolding flat_params
inner_params [] = all_nil
inner_params (p ∷ ps) = all_cons refl (all_cons refl (inner_params ps))

pub inner_body : (b : MacroBody) → Inner (flat_body b)
unfolding flat_body
inner_body MacroBody.Cedar = all_cons refl all_nil
inner_body (MacroBody.TemporalCondition c) = all_cons refl (inner_condition c)
inner_body (MacroBody.TemporalValue t) = all_cons refl (inner_term t)
