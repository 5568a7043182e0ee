-- A scan passes over the entries that spell a tree: a clause for each constructor.
-- Assumes nothing.
use Prim.Native.Nat.{ℕ}
use mathlib.Core.Path.{◌≡◌, refl, subst, ◌∙◌}
use mathlib.Core.Bool.{Bool, true, false, not, and-true}
use mathlib.Core.List.{List, [], ◌∷◌}
use lib.Dec.{leb, ltb}
use lib.ListN.{length, replicate}
use Rattle.format.specs.Entry.{Text, Entry, entry, text_entry}
use Rattle.format.specs.Ast.{
  TimeUnit,
  Interval,
  WithinSpec,
  BinderSlot,
  BinderType,
  TypedBinder,
  Sigil,
  CmpOp,
  ArithOp,
  Condition,
  Term,
  AggExpr,
  Call,
  CallArg,
  CallArgs,
  NamedArgs,
  Terms,
  MacroParam,
  MacroBody,
  MacroDef,
}
use Rattle.format.specs.Flat.{flat_texts, flat_unit, flat_interval, flat_within, flat_slot, flat_type, flat_binder, flat_binders, flat_sigil, flat_cmp, flat_arith, flat_bool, length_terms, length_fields, length_args, flat_condition, flat_term, flat_agg, flat_call, flat_arg, flat_args, flat_fields, flat_terms, flat_params, flat_body, flat_def, flat_defs, flat_registry}
use Rattle.format.specs.DeMorgan.{or_weight}
use Rattle.format.specs.Limits.{is_node, is_call, weigh, deep_condition, deep_term, deep_agg, deep_call, deep_arg, deep_args, deep_fields, deep_terms, deep_body, deep_bodies}
use Rattle.format.specs.Macro.{is_code}
use Rattle.format.specs.Tape.{is_text, text_width, few_params, few_params_each}
use Rattle.grammar.specs.Grammar as sort
use Rattle.grammar.specs.Waits.{valued}
use Rattle.grammar.specs.Words.{temporal_grammar, follows_of}
use Rattle.tape.proofs.Passing.{not_ltb, Passes, none, ◌then◌, ◌before◌, node, tip, plain}

-- to unfold this is to unfold what decides an entry of a known code
decides : Unit {0}
unfolding is_node is_call weigh or_weight is_text is_code text_width temporal_grammar follows_of
decides = tt

-- ------------------------------------------------------------------ parts in which nothing is deep

abbrev pub Shallow : List ℕ → List Entry → Type 0
Shallow ss es = Passes ss es (λ w. 0) true

pub passes_text : (t : Text) → Shallow (sort.text ∷ []) (text_entry 40 t ∷ [])
unfolding decides
passes_text t = plain sort.text (text_entry 40 t) refl refl refl refl none

each_text : (ts : List Text) → Shallow (replicate (length ts) sort.text) (flat_texts ts)
unfolding flat_texts
each_text [] = none
each_text (t ∷ ts) = passes_text t before each_text ts

pub passes_texts : (ts : List Text) → Shallow (sort.texts ∷ []) (entry 41 (length ts) ∷ flat_texts ts)
unfolding decides
passes_texts ts = plain sort.texts (entry 41 (length ts)) refl refl refl refl (each_text ts)

pub passes_span : (s : ℕ) → Shallow (sort.span ∷ []) (entry 42 s ∷ [])
unfolding decides
passes_span s = plain sort.span (entry 42 s) refl refl refl refl none

pub passes_slot : (v : BinderSlot) → Shallow (sort.slot ∷ []) (flat_slot v ∷ [])
unfolding decides flat_slot
passes_slot (BinderSlot.Name n) = plain sort.slot (text_entry 43 n) refl refl refl refl none
passes_slot (BinderSlot.ParamRef n) = plain sort.slot (text_entry 44 n) refl refl refl refl none
passes_slot (BinderSlot.BinderRef n) = plain sort.slot (text_entry 45 n) refl refl refl refl none

pub passes_type : (t : BinderType) → Shallow (sort.type ∷ []) (flat_type t)
unfolding decides flat_type
passes_type BinderType.Timepoint = plain sort.type (entry 46 0) refl refl refl refl none
passes_type (BinderType.Named path) = plain sort.type (entry 47 (length path)) refl refl refl refl (each_text path)

pub passes_interval : (i : Interval) → Shallow (sort.interval ∷ []) (flat_interval i ∷ [])
unfolding decides flat_interval flat_unit
passes_interval i = go i.unit
  where
    go : (u : TimeUnit) → Shallow (sort.interval ∷ []) (entry (flat_unit u) i.amount ∷ [])
    go TimeUnit.Seconds = plain sort.interval (entry 48 i.amount) refl refl refl refl none
    go TimeUnit.Minutes = plain sort.interval (entry 49 i.amount) refl refl refl refl none
    go TimeUnit.Hours = plain sort.interval (entry 50 i.amount) refl refl refl refl none
    go TimeUnit.Days = plain sort.interval (entry 51 i.amount) refl refl refl refl none
    go TimeUnit.Weeks = plain sort.interval (entry 64 i.amount) refl refl refl refl none

pub passes_within : (w : WithinSpec) → Shallow (sort.within ∷ []) (flat_within w ∷ [])
unfolding decides flat_within flat_interval flat_unit
passes_within (WithinSpec.ParamRef n) = plain sort.within (text_entry 52 n) refl refl refl refl none
passes_within (WithinSpec.Concrete i) = go i.unit
  where
    go : (u : TimeUnit) → Shallow (sort.within ∷ []) (entry (flat_unit u) i.amount ∷ [])
    go TimeUnit.Seconds = plain sort.within (entry 48 i.amount) refl refl refl refl none
    go TimeUnit.Minutes = plain sort.within (entry 49 i.amount) refl refl refl refl none
    go TimeUnit.Hours = plain sort.within (entry 50 i.amount) refl refl refl refl none
    go TimeUnit.Days = plain sort.within (entry 51 i.amount) refl refl refl refl none
    go TimeUnit.Weeks = plain sort.within (entry 64 i.amount) refl refl refl refl none

passes_sigil : (g : Sigil) (n : Text) → Shallow (sort.sigil ∷ []) (text_entry (flat_sigil g) n ∷ [])
unfolding decides flat_sigil
passes_sigil Sigil.Param n = plain sort.sigil (text_entry 58 n) refl refl refl refl none
passes_sigil Sigil.Binder n = plain sort.sigil (text_entry 59 n) refl refl refl refl none

cmp_valued : (op : CmpOp) → valued 6 (flat_cmp op) ≡ true
unfolding flat_cmp
cmp_valued CmpOp.Le = refl
cmp_valued CmpOp.Lt = refl
cmp_valued CmpOp.Ge = refl
cmp_valued CmpOp.Gt = refl
cmp_valued CmpOp.Eq = refl
cmp_valued CmpOp.NotEq = refl

arith_valued : (op : ArithOp) → valued 3 (flat_arith op) ≡ true
unfolding flat_arith
arith_valued ArithOp.Add = refl
arith_valued ArithOp.Sub = refl
arith_valued ArithOp.Mul = refl

pub bool_valued : (b : Bool) → valued 2 (flat_bool b) ≡ true
unfolding flat_bool
bool_valued false = refl
bool_valued true = refl

passes_cmp : (op : CmpOp) → Shallow (sort.operator ∷ []) (entry 53 (flat_cmp op) ∷ [])
unfolding decides
passes_cmp op = plain sort.operator (entry 53 (flat_cmp op)) (cmp_valued op) refl refl refl none

passes_binder : (b : TypedBinder) → Shallow (sort.binding ∷ []) (flat_binder b)
unfolding decides flat_binder flat_slot
passes_binder b = go b.slot
  where
    go : (v : BinderSlot) → Shallow (sort.binding ∷ []) (flat_slot v ∷ flat_type b.ty)
    go (BinderSlot.Name n) = plain sort.binding (text_entry 43 n) refl refl refl refl (passes_type b.ty)
    go (BinderSlot.ParamRef n) = plain sort.binding (text_entry 44 n) refl refl refl refl (passes_type b.ty)
    go (BinderSlot.BinderRef n) = plain sort.binding (text_entry 45 n) refl refl refl refl (passes_type b.ty)

each_binder : (bs : List TypedBinder) → Shallow (replicate (length bs) sort.binding) (flat_binders bs)
unfolding flat_binders
each_binder [] = none
each_binder (b ∷ bs) = passes_binder b before each_binder bs

pub passes_binders : (bs : List TypedBinder) → Shallow (sort.bindings ∷ []) (entry 41 (length bs) ∷ flat_binders bs)
unfolding decides
passes_binders bs = plain sort.bindings (entry 41 (length bs)) refl refl refl refl (each_binder bs)

-- ------------------------------------------------------------------ the trees

-- lists with their 41
list_args : (args : CallArgs) {d : (ℕ → ℕ) → ℕ} → Passes (replicate (length_args args) sort.argument) (flat_args args) d true
    → Passes (sort.arguments ∷ []) (entry 41 (length_args args) ∷ flat_args args) d true
unfolding decides
list_args args b = plain sort.arguments (entry 41 (length_args args)) refl refl refl refl b

list_fields : (fs : NamedArgs) {d : (ℕ → ℕ) → ℕ} → Passes (replicate (length_fields fs) sort.field) (flat_fields fs) d true
    → Passes (sort.fields ∷ []) (entry 41 (length_fields fs) ∷ flat_fields fs) d true
unfolding decides
list_fields fs b = plain sort.fields (entry 41 (length_fields fs)) refl refl refl refl b

mutual
  unfolding decides flat_binder flat_condition length_terms length_fields length_args deep_condition

  pub passes_condition : (c : Condition) → Passes (sort.condition ∷ []) (flat_condition c) (λ w. deep_condition w c) true
  passes_condition (Condition.And s l r) = node sort.condition (entry 1 s) refl refl (passes_condition l then passes_condition r)
  passes_condition (Condition.Or s l r) = node sort.condition (entry 2 s) refl refl (passes_condition l then passes_condition r)
  passes_condition (Condition.Not s c) = node sort.condition (entry 3 s) refl refl (passes_condition c)
  passes_condition (Condition.Formerly s w c) = node sort.condition (entry 4 s) refl refl (passes_within w before passes_condition c)
  passes_condition (Condition.Previous s w c) = node sort.condition (entry 5 s) refl refl (passes_within w before passes_condition c)
  passes_condition (Condition.Since s l w r) =
      node sort.condition (entry 6 s) refl refl (passes_condition l then passes_within w before passes_condition r)
  passes_condition (Condition.Predicate s o ns a k fs) =
      node sort.condition (entry 7 s) refl refl (passes_span o before passes_texts ns before passes_text a before passes_text k before
      list_fields fs (each_field fs))
  passes_condition (Condition.Comparison s op l r) =
      node sort.condition (entry 8 s) refl refl (passes_cmp op before passes_term l then passes_term r)
  passes_condition (Condition.Exists s b c) =
      node sort.condition (entry 9 s) refl refl (passes_slot b.slot before passes_type b.ty before passes_condition c)
  passes_condition (Condition.Tp s v) = tip sort.condition (entry 10 s) refl refl (passes_slot v)
  passes_condition (Condition.ConditionCall s c) = node sort.condition (entry 11 s) refl refl (passes_call c)
  passes_condition (Condition.SigilRef s g n) = tip sort.condition (entry 12 s) refl refl (passes_sigil g n)
  passes_condition (Condition.Refine s o c fs) =
      node sort.condition (entry 13 s) refl refl (passes_span o before passes_condition c then list_fields fs (each_field fs))

  pub passes_term : (t : Term) → Passes (sort.term ∷ []) (flat_term t) (λ w. deep_term w t) true
  passes_term (Term.Entity ty id) = tip sort.term (entry 20 0) refl refl (passes_text ty before passes_text id)
  passes_term (Term.Integer n) = tip sort.term (entry 21 n) refl refl none
  passes_term (Term.Decimal t) = tip sort.term (text_entry 22 t) refl refl none
  passes_term (Term.String t) = tip sort.term (text_entry 23 t) refl refl none
  passes_term (Term.Bool b) = tip sort.term (entry 24 (flat_bool b)) (bool_valued b) refl none
  passes_term (Term.ContextField path) = tip sort.term (entry 25 (length path)) refl refl (each_text path)
  passes_term (Term.ScopeField path) = tip sort.term (entry 26 (length path)) refl refl (each_text path)
  passes_term (Term.Var n) = tip sort.term (text_entry 27 n) refl refl none
  passes_term Term.Wildcard = tip sort.term (entry 28 0) refl refl none
  passes_term (Term.Array ts) = node sort.term (entry 29 (length_terms ts)) refl refl (each_term ts)
  passes_term (Term.Agg a) = node sort.term (entry 30 0) refl refl (passes_agg a)
  passes_term (Term.Arith op l r) = node sort.term (entry 31 (flat_arith op)) (arith_valued op) refl (passes_term l then passes_term r)
  passes_term (Term.ParamRef n) = tip sort.term (text_entry 32 n) refl refl none
  passes_term (Term.BinderRef n) = tip sort.term (text_entry 33 n) refl refl none

  pub passes_agg : (a : AggExpr) → Passes (sort.aggregate ∷ []) (flat_agg a) (λ w. deep_agg w a) true
  passes_agg (AggExpr.Sum s v bs c) =
      node sort.aggregate (entry 34 s) refl refl (passes_slot v before passes_binders bs before passes_condition c)
  passes_agg (AggExpr.Count s bs c) = node sort.aggregate (entry 35 s) refl refl (passes_binders bs before passes_condition c)
  passes_agg (AggExpr.AggCall s c) = node sort.aggregate (entry 36 s) refl refl (passes_call c)

  pub passes_call : (c : Call) → Passes (sort.call ∷ []) (flat_call c) (λ w. deep_call w c) true
  passes_call (Call.MacroCall s n args) = node sort.call (entry 54 s) refl refl (passes_text n before list_args args (each_arg args))

  pub passes_arg : (a : CallArg) → Passes (sort.argument ∷ []) (flat_arg a) (λ w. deep_arg w a) true
  passes_arg (CallArg.ConditionArg c) = plain sort.argument (entry 55 0) refl refl refl refl (passes_condition c)
  passes_arg (CallArg.TermArg t) = plain sort.argument (entry 56 0) refl refl refl refl (passes_term t)
  passes_arg (CallArg.WithinArg i) = plain sort.argument (entry 57 0) refl refl refl refl (passes_interval i)

  each_arg : (args : CallArgs) → Passes (replicate (length_args args) sort.argument) (flat_args args) (λ w. deep_args w args) true
  each_arg CallArgs.no_args = none
  each_arg (CallArgs.cons_arg a rest) = passes_arg a then each_arg rest

  each_field : (fs : NamedArgs) → Passes (replicate (length_fields fs) sort.field) (flat_fields fs) (λ w. deep_fields w fs) true
  each_field NamedArgs.no_fields = none
  each_field (NamedArgs.cons_field n t fs) = plain sort.field (text_entry 40 n) refl refl refl refl (passes_term t) then each_field fs

  each_term : (ts : Terms) → Passes (replicate (length_terms ts) sort.term) (flat_terms ts) (λ w. deep_terms w ts) true
  each_term Terms.no_terms = none
  each_term (Terms.cons_term t ts) = passes_term t then each_term ts

pub passes_fields : (fs : NamedArgs) → Passes (sort.fields ∷ []) (entry 41 (length_fields fs) ∷ flat_fields fs) (λ w. deep_fields w fs) true
passes_fields fs = list_fields fs (each_field fs)

-- ------------------------------------------------------------------ definitions

each_param : (ps : List MacroParam) → Shallow (replicate (length ps) sort.parameter) (flat_params ps)
unfolding decides flat_params
each_param [] = none
each_param (p ∷ ps) = plain sort.parameter (entry 42 p.span) refl refl refl refl (passes_text p.name) before each_param ps

-- no more than 16
passes_params : (ps : List MacroParam) → Passes (sort.parameters ∷ []) (entry 41 (length ps) ∷ flat_params ps) (λ w. 0) (leb (length ps) 16)
unfolding decides
passes_params ps =
    subst (Passes (sort.parameters ∷ []) (entry 41 (length ps) ∷ flat_params ps) (λ w. 0))
    (and-true (not (ltb 16 (length ps))) ∙ not_ltb 16 (length ps))
    (plain sort.parameters (entry 41 (length ps)) refl refl refl refl (each_param ps))

pub passes_body : (b : MacroBody) → Passes (sort.body ∷ []) (flat_body b) (λ w. deep_body w b) true
unfolding decides flat_body deep_body
passes_body MacroBody.Cedar = plain sort.body (entry 61 0) refl refl refl refl none
passes_body (MacroBody.TemporalCondition c) = plain sort.body (entry 62 0) refl refl refl refl (passes_condition c)
passes_body (MacroBody.TemporalValue t) = plain sort.body (entry 63 0) refl refl refl refl (passes_term t)

pub passes_definition : (d : MacroDef) → Passes (sort.definition ∷ []) (flat_def d) (λ w. deep_body w d.body) (leb (length d.params) 16)
unfolding decides flat_def
passes_definition d =
    subst (Passes (sort.definition ∷ []) (flat_def d) (λ w. deep_body w d.body)) (and-true (leb (length d.params) 16))
    (plain sort.definition (entry 60 d.span) refl refl refl refl
    (passes_text d.name before passes_params d.params before passes_body d.body))

-- ------------------------------------------------------------------ registries

each_definition : (ds : List MacroDef) → Passes (replicate (length ds) sort.definition) (flat_defs ds) (λ w. deep_bodies w ds) (few_params_each ds)
unfolding flat_defs deep_bodies few_params few_params_each
each_definition [] = none
each_definition (d ∷ ds) = passes_definition d then each_definition ds

pub passes_registry : (ds : List MacroDef) → Passes (sort.definitions ∷ []) (flat_registry ds) (λ w. deep_bodies w ds) (few_params_each ds)
unfolding decides flat_registry
passes_registry ds = plain sort.definitions (entry 41 (length ds)) refl refl refl refl (each_definition ds)
