-- The trees of document 01's sorts, from entries back: a case for each sort and code.
-- Assumes nothing.
use Prim.Native.Nat.{ℕ, zero, suc}
use mathlib.Core.Path.{◌≡◌, refl}
use mathlib.Core.Bool.{true}
use mathlib.Core.List.{List, [], ◌∷◌}
use native.Mathlib.Omega.{arith}
use borrow.Author.Tests.{ltb-true}
use lib.Dec.{ltb}
use lib.ListN.{length, replicate}
use Rattle.format.specs.Entry.{Text, entry, text_entry}
use Rattle.format.specs.Ast.{
  TimeUnit,
  Interval,
  WithinSpec,
  BinderSlot,
  BinderType,
  TypedBinder,
  Sigil,
  CmpOp,
  ArithOp,
  Condition,
  Term,
  AggExpr,
  Call,
  CallArg,
  CallArgs,
  NamedArgs,
  Terms,
  MacroParam,
  MacroBody,
  MacroDef,
}
use Rattle.format.specs.Flat.{flat_texts, flat_interval, flat_within, flat_slot, flat_type, flat_binder, flat_binders, flat_sigil, flat_cmp, flat_arith, length_terms, length_fields, length_args, flat_condition, flat_term, flat_agg, flat_call, flat_arg, flat_args, flat_fields, flat_terms, flat_params, flat_body, flat_def, flat_defs, flat_registry, open_flat}
use Rattle.format.specs.Macro.{is_code}
use Rattle.format.specs.Tape.{is_text, text_width}
use Rattle.grammar.specs.Grammar as sort
use Rattle.grammar.specs.Words.{temporal_grammar, follows_of}
use Rattle.grammar.proofs.Marks.{temporal}
use Rattle.tape.proofs.Found.{Language}
use Rattle.tape.proofs.Shapes.{Shape, shape, no_shape, Typed, flat_at, All, joined_all, valued_as, spanned, zeroed, spelt, Listed, listed, counting, bool, Each, end, ◌by◌&◌, Built, Cases, built}

-- ------------------------------------------------------------------ a type of trees for each sort

abbrev pub shapes : List Shape
shapes =
    no_shape
    ∷ shape Condition flat_condition
    ∷ shape Term flat_term
    ∷ shape AggExpr flat_agg
    ∷ shape Text (λ t. text_entry 40 t ∷ [])
    ∷ shape ℕ (λ s. entry 42 s ∷ [])
    ∷ shape BinderSlot (λ v. flat_slot v ∷ [])
    ∷ shape BinderType flat_type
    ∷ shape WithinSpec (λ w. flat_within w ∷ [])
    ∷ shape Interval (λ i. flat_interval i ∷ [])
    ∷ shape CmpOp (λ op. entry 53 (flat_cmp op) ∷ [])
    ∷ shape Call flat_call
    ∷ shape CallArg flat_arg
    ∷ shape (Sigil × Text) (λ g. text_entry (flat_sigil g.0) g.1 ∷ [])
    ∷ shape MacroDef flat_def
    ∷ shape MacroBody flat_body
    ∷ shape (Text × Term) (λ f. text_entry 40 f.0 ∷ flat_term f.1)
    ∷ shape MacroParam (λ p. entry 42 p.span ∷ text_entry 40 p.name ∷ [])
    ∷ shape TypedBinder flat_binder
    ∷ shape (List Text) (λ ts. entry 41 (length ts) ∷ flat_texts ts)
    ∷ shape NamedArgs (λ fs. entry 41 (length_fields fs) ∷ flat_fields fs)
    ∷ shape (List TypedBinder) (λ bs. entry 41 (length bs) ∷ flat_binders bs)
    ∷ shape CallArgs (λ args. entry 41 (length_args args) ∷ flat_args args)
    ∷ shape (List MacroParam) (λ ps. entry 41 (length ps) ∷ flat_params ps)
    ∷ shape (List MacroDef) flat_registry
    ∷ []

-- ------------------------------------------------------------------ lists

texts : (n : ℕ) (xs : All shapes (replicate n sort.text)) → Listed shapes (List Text) length flat_texts sort.text n xs
unfolding flat_texts
texts = listed shapes length flat_texts sort.text [] (λ x l. x ∷ l) refl refl (λ x l. refl) (λ x l. refl)

binders : (n : ℕ) (xs : All shapes (replicate n sort.binding)) → Listed shapes (List TypedBinder) length flat_binders sort.binding n xs
unfolding flat_binders
binders = listed shapes length flat_binders sort.binding [] (λ x l. x ∷ l) refl refl (λ x l. refl) (λ x l. refl)

params : (n : ℕ) (xs : All shapes (replicate n sort.parameter)) → Listed shapes (List MacroParam) length flat_params sort.parameter n xs
unfolding flat_params
params = listed shapes length flat_params sort.parameter [] (λ x l. x ∷ l) refl refl (λ x l. refl) (λ x l. refl)

defs : (n : ℕ) (xs : All shapes (replicate n sort.definition)) → Listed shapes (List MacroDef) length flat_defs sort.definition n xs
unfolding flat_defs
defs = listed shapes length flat_defs sort.definition [] (λ x l. x ∷ l) refl refl (λ x l. refl) (λ x l. refl)

terms : (n : ℕ) (xs : All shapes (replicate n sort.term)) → Listed shapes Terms length_terms flat_terms sort.term n xs
unfolding flat_terms length_terms
terms = listed shapes length_terms flat_terms sort.term Terms.no_terms Terms.cons_term refl refl (λ x l. refl) (λ x l. refl)

args : (n : ℕ) (xs : All shapes (replicate n sort.argument)) → Listed shapes CallArgs length_args flat_args sort.argument n xs
unfolding flat_args length_args
args = listed shapes length_args flat_args sort.argument CallArgs.no_args CallArgs.cons_arg refl refl (λ x l. refl) (λ x l. refl)

fields : (n : ℕ) (xs : All shapes (replicate n sort.field)) → Listed shapes NamedArgs length_fields flat_fields sort.field n xs
unfolding flat_fields length_fields
fields = listed shapes length_fields flat_fields sort.field NamedArgs.no_fields (λ x l. NamedArgs.cons_field x.0 x.1 l) refl refl
    (λ x l. refl) (λ x l. refl)

-- ------------------------------------------------------------------ numbers of operators

cmp : (v : ℕ) → ltb v 6 ≡ true → (op : CmpOp) × (flat_cmp op ≡ v)
unfolding flat_cmp
cmp zero h = (CmpOp.Le, refl)
cmp (suc zero) h = (CmpOp.Lt, refl)
cmp (suc (suc zero)) h = (CmpOp.Ge, refl)
cmp (suc (suc (suc zero))) h = (CmpOp.Gt, refl)
cmp (suc (suc (suc (suc zero)))) h = (CmpOp.Eq, refl)
cmp (suc (suc (suc (suc (suc zero))))) h = (CmpOp.NotEq, refl)
cmp (suc (suc (suc (suc (suc (suc v)))))) h = absurd (omega (arith, ltb-true (suc (suc (suc (suc (suc (suc v)))))) 6 h))

arith_op : (v : ℕ) → ltb v 3 ≡ true → (op : ArithOp) × (flat_arith op ≡ v)
unfolding flat_arith
arith_op zero h = (ArithOp.Add, refl)
arith_op (suc zero) h = (ArithOp.Sub, refl)
arith_op (suc (suc zero)) h = (ArithOp.Mul, refl)
arith_op (suc (suc (suc v))) h = absurd (omega (arith, ltb-true (suc (suc (suc v))) 3 h))

-- ------------------------------------------------------------------ a case for each sort and code

-- to unfold this is to unfold what a case computes with
cases : Unit {0}
unfolding open_flat is_text is_code text_width temporal_grammar follows_of
cases = tt

conditions : Each (Built shapes temporal_grammar sort.condition) 1 13
unfolding cases
conditions =
    1 by (λ v t ok h xs. (Condition.And v xs.0 xs.1.0, spanned shapes 1 v t h (sort.condition ∷ sort.condition ∷ []) xs)) &
    2 by (λ v t ok h xs. (Condition.Or v xs.0 xs.1.0, spanned shapes 2 v t h (sort.condition ∷ sort.condition ∷ []) xs)) &
    3 by (λ v t ok h xs. (Condition.Not v xs.0, spanned shapes 3 v t h (sort.condition ∷ []) xs)) &
    4 by (λ v t ok h xs. (Condition.Formerly v xs.0 xs.1.0, spanned shapes 4 v t h (sort.within ∷ sort.condition ∷ []) xs)) &
    5 by (λ v t ok h xs. (Condition.Previous v xs.0 xs.1.0, spanned shapes 5 v t h (sort.within ∷ sort.condition ∷ []) xs)) &
    6 by (λ v t ok h xs. (Condition.Since v xs.0 xs.1.0 xs.1.1.0, spanned shapes 6 v t h (sort.condition ∷ sort.within ∷ sort.condition ∷ []) xs)) &
    7 by (λ v t ok h xs. (
      Condition.Predicate v xs.0 xs.1.0 xs.1.1.0 xs.1.1.1.0
          xs.1.1.1.1.0,
      spanned shapes 7 v t h (sort.span ∷ sort.texts ∷ sort.text ∷ sort.text ∷ sort.fields ∷ []) xs,
    )) &
    8 by (λ v t ok h xs. (Condition.Comparison v xs.0 xs.1.0 xs.1.1.0, spanned shapes 8 v t h (sort.operator ∷ sort.term ∷ sort.term ∷ []) xs)) &
    9 by (λ v t ok h xs. (
      Condition.Exists v (record { slot = xs.0; ty = xs.1.0 }) xs.1.1.0,
      spanned shapes 9 v t h (sort.slot ∷ sort.type ∷ sort.condition ∷ []) xs,
    )) &
    10 by (λ v t ok h xs. (Condition.Tp v xs.0, spanned shapes 10 v t h (sort.slot ∷ []) xs)) &
    11 by (λ v t ok h xs. (Condition.ConditionCall v xs.0, spanned shapes 11 v t h (sort.call ∷ []) xs)) &
    12 by (λ v t ok h xs. (Condition.SigilRef v xs.0.0 xs.0.1, spanned shapes 12 v t h (sort.sigil ∷ []) xs)) &
    13 by (λ v t ok h xs. (Condition.Refine v xs.0 xs.1.0 xs.1.1.0, spanned shapes 13 v t h (sort.span ∷ sort.condition ∷ sort.fields ∷ []) xs)) &
    end

terms_of : Each (Built shapes temporal_grammar sort.term) 20 14
unfolding cases
terms_of =
    20 by (λ v t ok h xs. (Term.Entity xs.0 xs.1.0, zeroed shapes 20 v t ok h (sort.text ∷ sort.text ∷ []) xs)) &
    21 by (λ v t ok h xs. (Term.Integer v, spanned shapes 21 v t h [] xs)) &
    22 by (λ v t ok h xs. (Term.Decimal t, spelt shapes 22 v t h [] xs)) &
    23 by (λ v t ok h xs. (Term.String t, spelt shapes 23 v t h [] xs)) &
    24 by (λ v t ok h xs. let o = bool v ok in (Term.Bool o.0, valued_as 24 v _ t o.1 h (joined_all shapes ([]) xs))) &
    25 by (λ v t ok h xs. let l = texts v xs in (Term.ContextField l.list, counting shapes 25 v t l h)) &
    26 by (λ v t ok h xs. let l = texts v xs in (Term.ScopeField l.list, counting shapes 26 v t l h)) &
    27 by (λ v t ok h xs. (Term.Var t, spelt shapes 27 v t h [] xs)) &
    28 by (λ v t ok h xs. (Term.Wildcard, zeroed shapes 28 v t ok h [] xs)) &
    29 by (λ v t ok h xs. let l = terms v xs in (Term.Array l.list, counting shapes 29 v t l h)) &
    30 by (λ v t ok h xs. (Term.Agg xs.0, zeroed shapes 30 v t ok h (sort.aggregate ∷ []) xs)) &
    31 by (λ v t ok h xs. let o = arith_op v ok in
    (Term.Arith o.0 xs.0 xs.1.0, valued_as 31 v _ t o.1 h (joined_all shapes (sort.term ∷ sort.term ∷ []) xs))) &
    32 by (λ v t ok h xs. (Term.ParamRef t, spelt shapes 32 v t h [] xs)) &
    33 by (λ v t ok h xs. (Term.BinderRef t, spelt shapes 33 v t h [] xs)) &
    end

aggregates : Each (Built shapes temporal_grammar sort.aggregate) 34 3
unfolding cases
aggregates =
    34 by (λ v t ok h xs. (AggExpr.Sum v xs.0 xs.1.0 xs.1.1.0, spanned shapes 34 v t h (sort.slot ∷ sort.bindings ∷ sort.condition ∷ []) xs)) &
    35 by (λ v t ok h xs. (AggExpr.Count v xs.0 xs.1.0, spanned shapes 35 v t h (sort.bindings ∷ sort.condition ∷ []) xs)) &
    36 by (λ v t ok h xs. (AggExpr.AggCall v xs.0, spanned shapes 36 v t h (sort.call ∷ []) xs)) &
    end

text : Each (Built shapes temporal_grammar sort.text) 40 1
unfolding cases
text =
    40 by (λ v t ok h xs. (t, spelt shapes 40 v t h [] xs)) &
    end

span : Each (Built shapes temporal_grammar sort.span) 42 1
unfolding cases
span =
    42 by (λ v t ok h xs. (v, spanned shapes 42 v t h [] xs)) &
    end

slots : Each (Built shapes temporal_grammar sort.slot) 43 3
unfolding cases
slots =
    43 by (λ v t ok h xs. (BinderSlot.Name t, spelt shapes 43 v t h [] xs)) &
    44 by (λ v t ok h xs. (BinderSlot.ParamRef t, spelt shapes 44 v t h [] xs)) &
    45 by (λ v t ok h xs. (BinderSlot.BinderRef t, spelt shapes 45 v t h [] xs)) &
    end

types : Each (Built shapes temporal_grammar sort.type) 46 2
unfolding cases
types =
    46 by (λ v t ok h xs. (BinderType.Timepoint, zeroed shapes 46 v t ok h [] xs)) &
    47 by (λ v t ok h xs. let l = texts v xs in (BinderType.Named l.list, counting shapes 47 v t l h)) &
    end

withins : Each (Built shapes temporal_grammar sort.within) 48 5
unfolding cases
withins =
    48 by (λ v t ok h xs. (WithinSpec.Concrete (record { amount = v; unit = TimeUnit.Seconds }), spanned shapes 48 v t h [] xs)) &
    49 by (λ v t ok h xs. (WithinSpec.Concrete (record { amount = v; unit = TimeUnit.Minutes }), spanned shapes 49 v t h [] xs)) &
    50 by (λ v t ok h xs. (WithinSpec.Concrete (record { amount = v; unit = TimeUnit.Hours }), spanned shapes 50 v t h [] xs)) &
    51 by (λ v t ok h xs. (WithinSpec.Concrete (record { amount = v; unit = TimeUnit.Days }), spanned shapes 51 v t h [] xs)) &
    52 by (λ v t ok h xs. (WithinSpec.ParamRef t, spelt shapes 52 v t h [] xs)) &
    end

week_within : Each (Built shapes temporal_grammar sort.within) 64 1
unfolding cases
week_within =
    64 by (λ v t ok h xs. (WithinSpec.Concrete (record { amount = v; unit = TimeUnit.Weeks }), spanned shapes 64 v t h [] xs)) &
    end

intervals : Each (Built shapes temporal_grammar sort.interval) 48 4
unfolding cases
intervals =
    48 by (λ v t ok h xs. (record { amount = v; unit = TimeUnit.Seconds }, spanned shapes 48 v t h [] xs)) &
    49 by (λ v t ok h xs. (record { amount = v; unit = TimeUnit.Minutes }, spanned shapes 49 v t h [] xs)) &
    50 by (λ v t ok h xs. (record { amount = v; unit = TimeUnit.Hours }, spanned shapes 50 v t h [] xs)) &
    51 by (λ v t ok h xs. (record { amount = v; unit = TimeUnit.Days }, spanned shapes 51 v t h [] xs)) &
    end

weeks : Each (Built shapes temporal_grammar sort.interval) 64 1
unfolding cases
weeks =
    64 by (λ v t ok h xs. (record { amount = v; unit = TimeUnit.Weeks }, spanned shapes 64 v t h [] xs)) &
    end

operators : Each (Built shapes temporal_grammar sort.operator) 53 1
unfolding cases
operators =
    53 by (λ v t ok h xs. let o = cmp v ok in (o.0, valued_as 53 v _ t o.1 h (joined_all shapes ([]) xs))) &
    end

calls : Each (Built shapes temporal_grammar sort.call) 54 1
unfolding cases
calls =
    54 by (λ v t ok h xs. (Call.MacroCall v xs.0 xs.1.0, spanned shapes 54 v t h (sort.text ∷ sort.arguments ∷ []) xs)) &
    end

arguments : Each (Built shapes temporal_grammar sort.argument) 55 3
unfolding cases
arguments =
    55 by (λ v t ok h xs. (CallArg.ConditionArg xs.0, zeroed shapes 55 v t ok h (sort.condition ∷ []) xs)) &
    56 by (λ v t ok h xs. (CallArg.TermArg xs.0, zeroed shapes 56 v t ok h (sort.term ∷ []) xs)) &
    57 by (λ v t ok h xs. (CallArg.WithinArg xs.0, zeroed shapes 57 v t ok h (sort.interval ∷ []) xs)) &
    end

sigils : Each (Built shapes temporal_grammar sort.sigil) 58 2
unfolding cases
sigils =
    58 by (λ v t ok h xs. ((Sigil.Param, t), spelt shapes 58 v t h [] xs)) &
    59 by (λ v t ok h xs. ((Sigil.Binder, t), spelt shapes 59 v t h [] xs)) &
    end

definitions : Each (Built shapes temporal_grammar sort.definition) 60 1
unfolding cases
definitions =
    60 by (λ v t ok h xs. (
      record { span = v; name = xs.0; params = xs.1.0; body = xs.1.1.0 },
      spanned shapes 60 v t h (sort.text ∷ sort.parameters ∷ sort.body ∷ []) xs,
    )) &
    end

bodies : Each (Built shapes temporal_grammar sort.body) 61 3
unfolding cases
bodies =
    61 by (λ v t ok h xs. (MacroBody.Cedar, zeroed shapes 61 v t ok h [] xs)) &
    62 by (λ v t ok h xs. (MacroBody.TemporalCondition xs.0, zeroed shapes 62 v t ok h (sort.condition ∷ []) xs)) &
    63 by (λ v t ok h xs. (MacroBody.TemporalValue xs.0, zeroed shapes 63 v t ok h (sort.term ∷ []) xs)) &
    end

field_of : Each (Built shapes temporal_grammar sort.field) 40 1
unfolding cases
field_of =
    40 by (λ v t ok h xs. ((t, xs.0), spelt shapes 40 v t h (sort.term ∷ []) xs)) &
    end

param_of : Each (Built shapes temporal_grammar sort.parameter) 42 1
unfolding cases
param_of =
    42 by (λ v t ok h xs. (record { span = v; name = xs.0 }, spanned shapes 42 v t h (sort.text ∷ []) xs)) &
    end

binder_of : Each (Built shapes temporal_grammar sort.binding) 43 3
unfolding cases
binder_of =
    43 by (λ v t ok h xs. (record { slot = BinderSlot.Name t; ty = xs.0 }, spelt shapes 43 v t h (sort.type ∷ []) xs)) &
    44 by (λ v t ok h xs. (record { slot = BinderSlot.ParamRef t; ty = xs.0 }, spelt shapes 44 v t h (sort.type ∷ []) xs)) &
    45 by (λ v t ok h xs. (record { slot = BinderSlot.BinderRef t; ty = xs.0 }, spelt shapes 45 v t h (sort.type ∷ []) xs)) &
    end

text_list : Each (Built shapes temporal_grammar sort.texts) 41 1
unfolding cases
text_list =
    41 by (λ v t ok h xs. let l = texts v xs in (l.list, counting shapes 41 v t l h)) &
    end

field_list : Each (Built shapes temporal_grammar sort.fields) 41 1
unfolding cases
field_list =
    41 by (λ v t ok h xs. let l = fields v xs in (l.list, counting shapes 41 v t l h)) &
    end

binder_list : Each (Built shapes temporal_grammar sort.bindings) 41 1
unfolding cases
binder_list =
    41 by (λ v t ok h xs. let l = binders v xs in (l.list, counting shapes 41 v t l h)) &
    end

arg_list : Each (Built shapes temporal_grammar sort.arguments) 41 1
unfolding cases
arg_list =
    41 by (λ v t ok h xs. let l = args v xs in (l.list, counting shapes 41 v t l h)) &
    end

param_list : Each (Built shapes temporal_grammar sort.parameters) 41 1
unfolding cases
param_list =
    41 by (λ v t ok h xs. let l = params v xs in (l.list, counting shapes 41 v t l h)) &
    end

def_list : Each (Built shapes temporal_grammar sort.definitions) 41 1
unfolding cases
def_list =
    41 by (λ v t ok h xs. let l = defs v xs in (l.list, counting shapes 41 v t l h)) &
    end

pub all_cases : Cases shapes temporal_grammar
unfolding temporal_grammar
all_cases =
    0 by (end, end) & 1 by (conditions, end) & 2 by (terms_of, end) & 3 by (aggregates, end) &
    4 by (text, end) & 5 by (span, end) & 6 by (slots, end) & 7 by (types, end) & 8 by (withins, week_within) &
    9 by (intervals, weeks) & 10 by (operators, end) & 11 by (calls, end) & 12 by (arguments, end) &
    13 by (sigils, end) & 14 by (definitions, end) & 15 by (bodies, end) & 16 by (field_of, end) &
    17 by (param_of, end) & 18 by (binder_of, end) & 19 by (text_list, end) & 20 by (field_list, end) &
    21 by (binder_list, end) & 22 by (arg_list, end) & 23 by (param_list, end) & 24 by (def_list, end) &
    25 by (end, end) & 26 by (end, end) & 27 by (end, end) & 28 by (end, end) & 29 by (end, end) &
    30 by (end, end) & 31 by (end, end) & end

-- the trees of document 01
abbrev pub temporal_trees : Language temporal
temporal_trees = record { Tree = Typed shapes; spell = flat_at shapes; built = built shapes temporal_grammar all_cases }
