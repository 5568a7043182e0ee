-- Every tree is built from the entries that spell it: behind those entries it stands on top of the stack.
-- Assumes nothing.
use Prim.Native.Nat.{ℕ}
use mathlib.Core.Path.{◌≡◌, refl, ◌∙◌, ap}
use mathlib.Core.List.{List, [], ◌∷◌, ◌++◌, append_assoc}
use mathlib.Core.Bool.{true, false}
use mathlib.Core.Option.{Option, some}
use borrow.Author.Tests.{eq-eqb}
use lib.Dec.{eqb}
use lib.ListN.{length}
use Rattle.format.specs.Entry.{Text, Entry, entry, text_entry}
use Rattle.format.specs.Ast.{TimeUnit, Interval, WithinSpec, BinderSlot, BinderType, TypedBinder, Sigil, CmpOp, ArithOp, Condition, Term, AggExpr, Call, CallArg, CallArgs, NamedArgs, Terms, Tree, MacroParam, MacroBody, MacroDef}
use Rattle.format.specs.Flat.{flat_texts, flat_unit, flat_interval, flat_within, flat_slot, flat_type, flat_binder, flat_binders, flat_sigil, flat_cmp, flat_arith, flat_bool, length_terms, length_fields, length_args, flat_condition, flat_term, flat_agg, flat_call, flat_arg, flat_args, flat_fields, flat_terms, flat_tree, flat_params, flat_body, flat_def, flat_defs, flat_registry}
use Rattle.format.specs.Provider.{Arg, Args, MethodCall, Provider, length_arguments, flat_argument, flat_arguments, flat_method_call, flat_provider}
use Rattle.format.specs.Build.{Item, Stack, Pop, give, onward, ◌>>=◌, only, pop, as_leaf, as_condition, as_term, as_agg, as_call, as_definition, as_tree, as_argument, as_provider, pop_condition, pop_term, number, no_value, guard, texted, map_rows, choose, pop_row, many, list_of, pop_text, pop_texts, pop_span, interval, interval_rows, pop_interval, within_rows, pop_within, slot_rows, pop_slot, type_rows, pop_type, pop_binder, sigil_rows, pop_sigil, nth, cmp_ops, arith_ops, pop_cmp, pop_field, cons_named, pop_fields, pop_binders, arg_rows, pop_args, pop_param, pop_params, body_rows, pop_body, condition_rows, term_rows, agg_rows, call_rows, definition_rows, pop_argument, argument_rows, pop_arguments, method_call_rows, table, restack, push, push_on, build_on, build}
use Rattle.format.specs.Tape.{Root, condition_root, call_root, definition_root, registry_root, tree_root, term_root, argument_root, provider_root}
use Rattle.format.proofs.All.{All, all_nil, all_cons, all_append}

eqb_self : (n : ℕ) → eqb n n ≡ true
eqb_self n = eq-eqb n n refl

pub build_append : (start : Option Stack) (es fs : List Entry) → build_on start (es ++ fs) ≡ build_on (build_on start fs) es
unfolding build_on
build_append start [] fs = refl
build_append start (e ∷ es) fs = ap (push_on e) (build_append start es fs)

-- ------------------------------------------------------------------ entries that wait on the stack

abbrev Waits : Entry → Type 0
Waits e = (st : Stack) → push e st ≡ some (Item.leaf e ∷ st)

leaves : List Entry → Stack
leaves [] = []
leaves (e ∷ es) = Item.leaf e ∷ leaves es

builds_leaves : {es : List Entry} → All Waits es → (st : Stack) → build_on (some st) es ≡ some (leaves es ++ st)
unfolding build_on push_on leaves
builds_leaves all_nil st = refl
builds_leaves (all_cons {l = es} h f) st = rw (builds_leaves f st) (h (leaves es ++ st))

-- to unfold this is to unfold what decides an entry's row
pushes : Unit {0}
unfolding push restack choose table map_rows condition_rows term_rows agg_rows call_rows definition_rows argument_rows method_call_rows give
pushes = tt

-- to unfold this is to unfold what takes an entry from the stack by its row
pops : Unit {0}
unfolding pop_row pop as_leaf only ◌>>=◌ onward choose number no_value texted guard give
pops = tt

wait_40 : (t : Text) → Waits (text_entry 40 t)
unfolding pushes
wait_40 t st = refl

wait_texts : (ts : List Text) → All Waits (flat_texts ts)
unfolding flat_texts
wait_texts [] = all_nil
wait_texts (t ∷ ts) = all_cons (wait_40 t) (wait_texts ts)

wait_interval : (i : Interval) → Waits (flat_interval i)
unfolding pushes flat_interval flat_unit
wait_interval i st = go i.unit
  where
    go : (u : TimeUnit) → push (entry (flat_unit u) i.amount) st ≡ some (Item.leaf (entry (flat_unit u) i.amount) ∷ st)
    go TimeUnit.Seconds = refl
    go TimeUnit.Minutes = refl
    go TimeUnit.Hours = refl
    go TimeUnit.Days = refl
    go TimeUnit.Weeks = refl

wait_within : (w : WithinSpec) → Waits (flat_within w)
unfolding pushes flat_within
wait_within (WithinSpec.Concrete i) st = wait_interval i st
wait_within (WithinSpec.ParamRef n) st = refl

wait_slot : (v : BinderSlot) → Waits (flat_slot v)
unfolding pushes flat_slot
wait_slot (BinderSlot.Name n) st = refl
wait_slot (BinderSlot.ParamRef n) st = refl
wait_slot (BinderSlot.BinderRef n) st = refl

wait_type : (t : BinderType) → All Waits (flat_type t)
unfolding pushes flat_type
wait_type BinderType.Timepoint = all_cons (λ st. refl) all_nil
wait_type (BinderType.Named path) = all_cons (λ st. refl) (wait_texts path)

wait_binder : (b : TypedBinder) → All Waits (flat_binder b)
unfolding flat_binder
wait_binder b = all_cons (wait_slot b.slot) (wait_type b.ty)

wait_binders : (bs : List TypedBinder) → All Waits (flat_binders bs)
unfolding flat_binders
wait_binders [] = all_nil
wait_binders (b ∷ bs) = all_append (wait_binder b) (wait_binders bs)

wait_params : (ps : List MacroParam) → All Waits (flat_params ps)
unfolding pushes flat_params
wait_params [] = all_nil
wait_params (p ∷ ps) = all_cons (λ st. refl) (all_cons (wait_40 p.name) (wait_params ps))

-- ------------------------------------------------------------------ parts that are found again

-- p takes a from its items
abbrev Finds : {A : Type 0} → Pop A → (A → Stack) → Type 0
Finds {A} p items = (a : A) (st : Stack) → p (items a ++ st) ≡ some (a, st)

abbrev text_items : Text → Stack
text_items t = Item.leaf (text_entry 40 t) ∷ []

finds_text : Finds pop_text text_items
unfolding pops pop_text
finds_text t st = rw (eqb_self (length t))

finds_span : (s : ℕ) (st : Stack) → pop_span (Item.leaf (entry 42 s) ∷ st) ≡ some (s, st)
unfolding pops pop_span
finds_span s st = refl

finds_interval : (i : Interval) (st : Stack) → pop_interval (Item.leaf (flat_interval i) ∷ st) ≡ some (i, st)
unfolding pops pop_interval interval_rows interval flat_interval flat_unit
finds_interval i st = go i.unit
  where
    go : (u : TimeUnit)
        → pop_interval (Item.leaf (entry (flat_unit u) i.amount) ∷ st) ≡ some (record { amount = i.amount; unit = u }, st)
    go TimeUnit.Seconds = refl
    go TimeUnit.Minutes = refl
    go TimeUnit.Hours = refl
    go TimeUnit.Days = refl
    go TimeUnit.Weeks = refl

finds_within : (w : WithinSpec) (st : Stack) → pop_within (Item.leaf (flat_within w) ∷ st) ≡ some (w, st)
unfolding pops pop_within within_rows map_rows interval_rows interval flat_within flat_interval flat_unit
finds_within (WithinSpec.ParamRef n) st = rw (eqb_self (length n))
finds_within (WithinSpec.Concrete i) st = go i.unit
  where
    go : (u : TimeUnit)
        → pop_within (Item.leaf (entry (flat_unit u) i.amount) ∷ st) ≡ some (WithinSpec.Concrete (record { amount = i.amount; unit = u }), st)
    go TimeUnit.Seconds = refl
    go TimeUnit.Minutes = refl
    go TimeUnit.Hours = refl
    go TimeUnit.Days = refl
    go TimeUnit.Weeks = refl

finds_slot : (v : BinderSlot) (st : Stack) → pop_slot (Item.leaf (flat_slot v) ∷ st) ≡ some (v, st)
unfolding pops pop_slot slot_rows flat_slot
finds_slot (BinderSlot.Name n) st = rw (eqb_self (length n))
finds_slot (BinderSlot.ParamRef n) st = rw (eqb_self (length n))
finds_slot (BinderSlot.BinderRef n) st = rw (eqb_self (length n))

finds_sigil : (g : Sigil) (n : Text) (st : Stack) → pop_sigil (Item.leaf (text_entry (flat_sigil g) n) ∷ st) ≡ some ((g, n), st)
unfolding pops pop_sigil sigil_rows flat_sigil
finds_sigil Sigil.Param n st = rw (eqb_self (length n))
finds_sigil Sigil.Binder n st = rw (eqb_self (length n))

finds_cmp : (op : CmpOp) (st : Stack) → pop_cmp (Item.leaf (entry 53 (flat_cmp op)) ∷ st) ≡ some (op, st)
unfolding pops pop_cmp nth cmp_ops flat_cmp
finds_cmp CmpOp.Le st = refl
finds_cmp CmpOp.Lt st = refl
finds_cmp CmpOp.Ge st = refl
finds_cmp CmpOp.Gt st = refl
finds_cmp CmpOp.Eq st = refl
finds_cmp CmpOp.NotEq st = refl

-- lists

items_of : {A : Type 0} → (A → Stack) → List A → Stack
items_of items [] = []
items_of items (a ∷ l) = items a ++ items_of items l

finds_many : {A : Type 0} (p : Pop A) (items : A → Stack) → Finds p items
    → (l : List A) (st : Stack) → many [] ◌∷◌ p (length l) (items_of items l ++ st) ≡ some (l, st)
unfolding many ◌>>=◌ onward give items_of
finds_many p items h [] st = refl
finds_many p items h (a ∷ l) st =
    rw (append_assoc (items a) (items_of items l) st, h a (items_of items l ++ st), finds_many p items h l st) refl

-- a 41 and what stands behind it
finds_41 : {A L : Type 0} (nil : L) (cons : A → L → L) (p : Pop A) (n : ℕ) (st : Stack)
    → list_of nil cons p (Item.leaf (entry 41 n) ∷ st) ≡ many nil cons p n st
unfolding pops list_of
finds_41 nil cons p n st = refl

leaves_append : (es fs : List Entry) → leaves (es ++ fs) ≡ leaves es ++ leaves fs
unfolding leaves
leaves_append [] fs = refl
leaves_append (e ∷ es) fs = ap (λ (st : Stack). Item.leaf e ∷ st) (leaves_append es fs)

leaves_texts : (ts : List Text) → leaves (flat_texts ts) ≡ items_of text_items ts
unfolding leaves flat_texts items_of
leaves_texts [] = refl
leaves_texts (t ∷ ts) = ap (λ (st : Stack). Item.leaf (text_entry 40 t) ∷ st) (leaves_texts ts)

finds_texts : (ts : List Text) (st : Stack) → many [] ◌∷◌ pop_text (length ts) (leaves (flat_texts ts) ++ st) ≡ some (ts, st)
finds_texts ts st = rw (leaves_texts ts) (finds_many pop_text text_items finds_text ts st)

finds_type : (t : BinderType) (st : Stack) → pop_type (leaves (flat_type t) ++ st) ≡ some (t, st)
unfolding pops pop_type type_rows flat_type leaves pop_texts
finds_type BinderType.Timepoint st = refl
finds_type (BinderType.Named path) st = rw (finds_texts path st)

abbrev binder_items : TypedBinder → Stack
binder_items b = leaves (flat_binder b)

finds_binder : Finds pop_binder binder_items
unfolding pop_binder ◌>>=◌ onward give flat_binder leaves
finds_binder b st = rw (finds_slot b.slot (leaves (flat_type b.ty) ++ st), finds_type b.ty st) refl

leaves_binders : (bs : List TypedBinder) → leaves (flat_binders bs) ≡ items_of binder_items bs
unfolding leaves flat_binders items_of
leaves_binders [] = refl
leaves_binders (b ∷ bs) = leaves_append (flat_binder b) (flat_binders bs) ∙ ap (λ (st : Stack). leaves (flat_binder b) ++ st) (leaves_binders bs)

finds_binders : (bs : List TypedBinder) (st : Stack)
    → pop_binders (Item.leaf (entry 41 (length bs)) ∷ (leaves (flat_binders bs) ++ st)) ≡ some (bs, st)
unfolding pop_binders
finds_binders bs st =
    finds_41 [] ◌∷◌ pop_binder (length bs) (leaves (flat_binders bs) ++ st)
    ∙ rw (leaves_binders bs) (finds_many pop_binder binder_items finds_binder bs st)

param_items : MacroParam → Stack
param_items p = Item.leaf (entry 42 p.span) ∷ Item.leaf (text_entry 40 p.name) ∷ []

finds_param : Finds pop_param param_items
unfolding pop_param ◌>>=◌ onward give param_items
finds_param p st =
    rw (finds_span p.span (Item.leaf (text_entry 40 p.name) ∷ st), finds_text p.name st) refl

leaves_params : (ps : List MacroParam) → leaves (flat_params ps) ≡ items_of param_items ps
unfolding leaves flat_params items_of param_items
leaves_params [] = refl
leaves_params (p ∷ ps) = ap (λ (st : Stack). param_items p ++ st) (leaves_params ps)

finds_params : (ps : List MacroParam) (st : Stack)
    → pop_params (Item.leaf (entry 41 (length ps)) ∷ (leaves (flat_params ps) ++ st)) ≡ some (ps, st)
unfolding pop_params
finds_params ps st =
    finds_41 [] ◌∷◌ pop_param (length ps) (leaves (flat_params ps) ++ st)
    ∙ rw (leaves_params ps) (finds_many pop_param param_items finds_param ps st)

field_items : NamedArgs → Stack
field_items NamedArgs.no_fields = []
field_items (NamedArgs.cons_field n t fs) = Item.leaf (text_entry 40 n) ∷ Item.term t ∷ field_items fs

finds_field_list : (fs : NamedArgs) (st : Stack)
    → many NamedArgs.no_fields cons_named pop_field (length_fields fs) (field_items fs ++ st) ≡ some (fs, st)
unfolding many pop_field pop_term pop as_term only ◌>>=◌ onward give length_fields field_items
finds_field_list NamedArgs.no_fields st = refl
finds_field_list (NamedArgs.cons_field n t fs) st =
    rw (finds_text n (Item.term t ∷ (field_items fs ++ st)), finds_field_list fs st) refl

finds_fields : (fs : NamedArgs) (st : Stack)
    → pop_fields (Item.leaf (entry 41 (length_fields fs)) ∷ (field_items fs ++ st)) ≡ some (fs, st)
unfolding pop_fields
finds_fields fs st =
    finds_41 NamedArgs.no_fields cons_named pop_field (length_fields fs) (field_items fs ++ st) ∙ finds_field_list fs st

term_items : Terms → Stack
term_items Terms.no_terms = []
term_items (Terms.cons_term t ts) = Item.term t ∷ term_items ts

finds_terms : (ts : Terms) (st : Stack)
    → many Terms.no_terms Terms.cons_term pop_term (length_terms ts) (term_items ts ++ st) ≡ some (ts, st)
unfolding many pop_term pop as_term only ◌>>=◌ onward give length_terms term_items
finds_terms Terms.no_terms st = refl
finds_terms (Terms.cons_term t ts) st = rw (finds_terms ts st) refl

arg_items : CallArg → Stack
arg_items (CallArg.ConditionArg c) = Item.leaf (entry 55 0) ∷ Item.condition c ∷ []
arg_items (CallArg.TermArg t) = Item.leaf (entry 56 0) ∷ Item.term t ∷ []
arg_items (CallArg.WithinArg i) = Item.leaf (entry 57 0) ∷ Item.leaf (flat_interval i) ∷ []

finds_arg : Finds (pop_row arg_rows) arg_items
unfolding pops as_condition as_term pop_condition pop_term arg_rows arg_items
finds_arg (CallArg.ConditionArg c) st = refl
finds_arg (CallArg.TermArg t) st = refl
finds_arg (CallArg.WithinArg i) st = rw (finds_interval i st) refl

args_items : CallArgs → Stack
args_items CallArgs.no_args = []
args_items (CallArgs.cons_arg a rest) = arg_items a ++ args_items rest

finds_arg_list : (as' : CallArgs) (st : Stack)
    → many CallArgs.no_args CallArgs.cons_arg (pop_row arg_rows) (length_args as') (args_items as' ++ st) ≡ some (as', st)
unfolding many ◌>>=◌ onward give length_args args_items
finds_arg_list CallArgs.no_args st = refl
finds_arg_list (CallArgs.cons_arg a rest) st =
    rw (append_assoc (arg_items a) (args_items rest) st, finds_arg a (args_items rest ++ st), finds_arg_list rest st) refl

finds_args : (as' : CallArgs) (st : Stack)
    → pop_args (Item.leaf (entry 41 (length_args as')) ∷ (args_items as' ++ st)) ≡ some (as', st)
unfolding pop_args
finds_args as' st =
    finds_41 CallArgs.no_args CallArgs.cons_arg (pop_row arg_rows) (length_args as') (args_items as' ++ st) ∙ finds_arg_list as' st

-- ------------------------------------------------------------------ the trees

wait_sigil : (g : Sigil) (n : Text) → Waits (text_entry (flat_sigil g) n)
unfolding pushes flat_sigil
wait_sigil Sigil.Param n st = refl
wait_sigil Sigil.Binder n st = refl

arith : (op : ArithOp) (l r : Term) (st : Stack)
    → push (entry 31 (flat_arith op)) (Item.term l ∷ Item.term r ∷ st) ≡ some (Item.term (Term.Arith op l r) ∷ st)
unfolding
    push restack choose table map_rows condition_rows term_rows number give ◌>>=◌ onward pop_term pop as_term only nth arith_ops
    flat_arith
arith ArithOp.Add l r st = refl
arith ArithOp.Sub l r st = refl
arith ArithOp.Mul l r st = refl

mutual
  unfolding pushes flat_condition build_on push_on number
      no_value texted guard give ◌>>=◌ onward pop_condition pop_term pop as_condition as_term as_agg as_call only field_items term_items
      arg_items args_items pop_texts nth arith_ops flat_arith flat_bool

  pub builds_condition : (c : Condition) (st : Stack) → build_on (some st) (flat_condition c) ≡ some (Item.condition c ∷ st)
  builds_condition (Condition.And s l r) st =
      rw (
        build_append (some st) (flat_condition l) (flat_condition r),
        builds_condition r st,
        builds_condition l (Item.condition r ∷ st),
      )
      refl
  builds_condition (Condition.Or s l r) st =
      rw (
        build_append (some st) (flat_condition l) (flat_condition r),
        builds_condition r st,
        builds_condition l (Item.condition r ∷ st),
      )
      refl
  builds_condition (Condition.Not s c) st = rw (builds_condition c st) refl
  builds_condition (Condition.Formerly s w c) st =
      rw (builds_condition c st, wait_within w (Item.condition c ∷ st), finds_within w (Item.condition c ∷ st)) refl
  builds_condition (Condition.Previous s w c) st =
      rw (builds_condition c st, wait_within w (Item.condition c ∷ st), finds_within w (Item.condition c ∷ st)) refl
  builds_condition (Condition.Since s l w r) st =
      rw (
        build_append (some st) (flat_condition l) (flat_within w ∷ flat_condition r),
        builds_condition r st,
        wait_within w (Item.condition r ∷ st),
        builds_condition l (Item.leaf (flat_within w) ∷ Item.condition r ∷ st),
        finds_within w (Item.condition r ∷ st),
      )
      refl
  builds_condition (Condition.Predicate s o ns a k fs) st =
      let tail : Stack = Item.leaf (entry 41 (length_fields fs)) ∷ (field_items fs ++ st) in
      let texts : Stack = Item.leaf (text_entry 40 a) ∷ Item.leaf (text_entry 40 k) ∷ tail in
      rw (
        build_append (some st) (flat_texts ns) (text_entry 40 a ∷ text_entry 40 k ∷ entry 41 (length_fields fs) ∷ flat_fields fs),
        builds_fields fs st,
        builds_leaves (wait_texts ns) texts,
        finds_span o (Item.leaf (entry 41 (length ns)) ∷ (leaves (flat_texts ns) ++ texts)),
        finds_41 [] ◌∷◌ pop_text (length ns) (leaves (flat_texts ns) ++ texts),
        finds_texts ns texts,
        finds_text a (Item.leaf (text_entry 40 k) ∷ tail),
        finds_text k tail,
        finds_fields fs st,
      )
      refl
  builds_condition (Condition.Comparison s op l r) st =
      rw (
        build_append (some st) (flat_term l) (flat_term r),
        builds_term r st,
        builds_term l (Item.term r ∷ st),
        finds_cmp op (Item.term l ∷ Item.term r ∷ st),
      )
      refl
  builds_condition (Condition.Exists s b c) st =
      rw (
        build_append (some st) (flat_binder b) (flat_condition c),
        builds_condition c st,
        builds_leaves (wait_binder b) (Item.condition c ∷ st),
        finds_binder b (Item.condition c ∷ st),
      )
      refl
  builds_condition (Condition.Tp s v) st = rw (wait_slot v st, finds_slot v st) refl
  builds_condition (Condition.ConditionCall s c) st = rw (builds_call c st) refl
  builds_condition (Condition.SigilRef s g n) st = rw (wait_sigil g n st, finds_sigil g n st) refl
  builds_condition (Condition.Refine s o c fs) st =
      rw (
        build_append (some st) (flat_condition c) (entry 41 (length_fields fs) ∷ flat_fields fs),
        builds_fields fs st,
        builds_condition c (Item.leaf (entry 41 (length_fields fs)) ∷ (field_items fs ++ st)),
        finds_span o (Item.condition c ∷ Item.leaf (entry 41 (length_fields fs)) ∷ (field_items fs ++ st)),
        finds_fields fs st,
      )
      refl

  pub builds_term : (t : Term) (st : Stack) → build_on (some st) (flat_term t) ≡ some (Item.term t ∷ st)
  builds_term (Term.Entity ty id) st =
      rw (finds_text ty (Item.leaf (text_entry 40 id) ∷ st), finds_text id st) refl
  builds_term (Term.Integer n) st = refl
  builds_term (Term.Decimal t) st = rw (eqb_self (length t))
  builds_term (Term.String t) st = rw (eqb_self (length t))
  builds_term (Term.Bool true) st = refl
  builds_term (Term.Bool false) st = refl
  builds_term (Term.ContextField path) st = rw (builds_leaves (wait_texts path) st, finds_texts path st) refl
  builds_term (Term.ScopeField path) st = rw (builds_leaves (wait_texts path) st, finds_texts path st) refl
  builds_term (Term.Var n) st = rw (eqb_self (length n))
  builds_term Term.Wildcard st = refl
  builds_term (Term.Array ts) st = rw (builds_terms ts st, finds_terms ts st) refl
  builds_term (Term.Agg a) st = rw (builds_agg a st) refl
  builds_term (Term.Arith op l r) st =
      rw (build_append (some st) (flat_term l) (flat_term r), builds_term r st, builds_term l (Item.term r ∷ st)) (arith op l r st)
  builds_term (Term.ParamRef n) st = rw (eqb_self (length n))
  builds_term (Term.BinderRef n) st = rw (eqb_self (length n))

  builds_agg : (a : AggExpr) (st : Stack) → build_on (some st) (flat_agg a) ≡ some (Item.agg a ∷ st)
  builds_agg (AggExpr.Sum s v bs c) st =
      rw (
        build_append (some st) (flat_binders bs) (flat_condition c),
        builds_condition c st,
        builds_leaves (wait_binders bs) (Item.condition c ∷ st),
        wait_slot v (Item.leaf (entry 41 (length bs)) ∷ (leaves (flat_binders bs) ++ Item.condition c ∷ st)),
        finds_slot v (Item.leaf (entry 41 (length bs)) ∷ (leaves (flat_binders bs) ++ Item.condition c ∷ st)),
        finds_binders bs (Item.condition c ∷ st),
      )
      refl
  builds_agg (AggExpr.Count s bs c) st =
      rw (
        build_append (some st) (flat_binders bs) (flat_condition c),
        builds_condition c st,
        builds_leaves (wait_binders bs) (Item.condition c ∷ st),
        finds_binders bs (Item.condition c ∷ st),
      )
      refl
  builds_agg (AggExpr.AggCall s c) st = rw (builds_call c st) refl

  builds_call : (c : Call) (st : Stack) → build_on (some st) (flat_call c) ≡ some (Item.call c ∷ st)
  builds_call (Call.MacroCall s n as') st =
      rw (
        builds_args as' st,
        finds_text n (Item.leaf (entry 41 (length_args as')) ∷ (args_items as' ++ st)),
        finds_args as' st,
      )
      refl

  builds_arg : (a : CallArg) (st : Stack) → build_on (some st) (flat_arg a) ≡ some (arg_items a ++ st)
  builds_arg (CallArg.ConditionArg c) st = rw (builds_condition c st) refl
  builds_arg (CallArg.TermArg t) st = rw (builds_term t st) refl
  builds_arg (CallArg.WithinArg i) st = rw (wait_interval i st) refl

  builds_args : (as' : CallArgs) (st : Stack) → build_on (some st) (flat_args as') ≡ some (args_items as' ++ st)
  builds_args CallArgs.no_args st = refl
  builds_args (CallArgs.cons_arg a rest) st =
      rw (build_append (some st) (flat_arg a) (flat_args rest), builds_args rest st, append_assoc (arg_items a) (args_items rest) st)
      (builds_arg a (args_items rest ++ st))

  builds_fields : (fs : NamedArgs) (st : Stack) → build_on (some st) (flat_fields fs) ≡ some (field_items fs ++ st)
  builds_fields NamedArgs.no_fields st = refl
  builds_fields (NamedArgs.cons_field n t fs) st =
      rw (build_append (some st) (flat_term t) (flat_fields fs), builds_fields fs st, builds_term t (field_items fs ++ st)) refl

  builds_terms : (ts : Terms) (st : Stack) → build_on (some st) (flat_terms ts) ≡ some (term_items ts ++ st)
  builds_terms Terms.no_terms st = refl
  builds_terms (Terms.cons_term t ts) st =
      rw (build_append (some st) (flat_term t) (flat_terms ts), builds_terms ts st) (builds_term t (term_items ts ++ st))

builds_body : (b : MacroBody) (st : Stack) → (o : Stack) × (build_on (some st) (flat_body b) ≡ some o) × (pop_body o ≡ some (b, st))
unfolding pushes flat_body build_on push_on number no_value
    give ◌>>=◌ onward pop_condition pop_term pop as_leaf as_condition as_term only pop_body pop_row body_rows
builds_body MacroBody.Cedar st = (Item.leaf (entry 61 0) ∷ st, refl, refl)
builds_body (MacroBody.TemporalCondition c) st =
    (Item.leaf (entry 62 0) ∷ Item.condition c ∷ st, rw (builds_condition c st) refl, refl)
builds_body (MacroBody.TemporalValue t) st =
    (Item.leaf (entry 63 0) ∷ Item.term t ∷ st, rw (builds_term t st) refl, refl)

builds_definition : (d : MacroDef) (st : Stack) → build_on (some st) (flat_def d) ≡ some (Item.definition d ∷ st)
unfolding pushes flat_def build_on push_on number
    ◌>>=◌ onward
builds_definition d st =
    let b = builds_body d.body st in
    let ps = d.params in
    rw (
      build_append (some st) (flat_params ps) (flat_body d.body),
      b.1,
      builds_leaves (wait_params ps) b.0,
      finds_text d.name (Item.leaf (entry 41 (length ps)) ∷ (leaves (flat_params ps) ++ b.0)),
      finds_params ps b.0,
      b.2,
    )
    refl

abbrev def_items : MacroDef → Stack
def_items d = Item.definition d ∷ []

builds_defs : (ds : List MacroDef) (st : Stack) → build_on (some st) (flat_defs ds) ≡ some (items_of def_items ds ++ st)
unfolding flat_defs build_on items_of
builds_defs [] st = refl
builds_defs (d ∷ ds) st =
    rw (build_append (some st) (flat_def d) (flat_defs ds), builds_defs ds st) (builds_definition d (items_of def_items ds ++ st))

-- ------------------------------------------------------------------ provider tapes

argument_items : Args → Stack
argument_items Args.no_args = []
argument_items (Args.cons_arg a rest) = Item.argument a ∷ argument_items rest

finds_arguments : (items : Args) (st : Stack)
    → many Args.no_args Args.cons_arg pop_argument (length_arguments items) (argument_items items ++ st) ≡ some (items, st)
unfolding many pop_argument pop as_argument only ◌>>=◌ onward give length_arguments argument_items
finds_arguments Args.no_args st = refl
finds_arguments (Args.cons_arg a rest) st = rw (finds_arguments rest st) refl

mutual
  unfolding pushes flat_argument build_on push_on number texted guard give ◌>>=◌ onward pop_texts nth flat_bool argument_items

  builds_argument : (a : Arg) (st : Stack) → build_on (some st) (flat_argument a) ≡ some (Item.argument a ∷ st)
  builds_argument (Arg.Field path) st = rw (builds_leaves (wait_texts path) st, finds_texts path st) refl
  builds_argument (Arg.String t) st = rw (eqb_self (length t))
  builds_argument (Arg.Integer n) st = refl
  builds_argument (Arg.Decimal t) st = rw (eqb_self (length t))
  builds_argument (Arg.Bool true) st = refl
  builds_argument (Arg.Bool false) st = refl
  builds_argument (Arg.Set items) st = rw (builds_arguments items st, finds_arguments items st) refl

  builds_arguments : (items : Args) (st : Stack) → build_on (some st) (flat_arguments items) ≡ some (argument_items items ++ st)
  builds_arguments Args.no_args st = refl
  builds_arguments (Args.cons_arg a rest) st =
      rw (build_append (some st) (flat_argument a) (flat_arguments rest), builds_arguments rest st)
      (builds_argument a (argument_items rest ++ st))

builds_method_call : (c : MethodCall) (st : Stack) → build_on (some st) (flat_method_call c) ≡ some (Item.method_call c ∷ st)
unfolding pushes flat_method_call build_on push_on number ◌>>=◌ onward pop_arguments
builds_method_call c st =
    let items = c.args in
    rw (
      builds_arguments items st,
      finds_text c.name (Item.leaf (entry 41 (length_arguments items)) ∷ (argument_items items ++ st)),
      finds_41 Args.no_args Args.cons_arg pop_argument (length_arguments items) (argument_items items ++ st),
      finds_arguments items st,
    )
    refl

-- ------------------------------------------------------------------ the roots

-- a root is found again in what its entries build
pub record Rooted {A : Type 0} (root : Root A) (a : A) : Type 0 where
  pub stack : Stack
  pub built : build (root.flat a) ≡ some stack
  pub taken : root.reader stack ≡ some (a, [])

pub rooted_condition : (c : Condition) → Rooted condition_root c
unfolding build condition_root pop as_condition only
rooted_condition c = record { stack = Item.condition c ∷ []; built = builds_condition c []; taken = refl }

pub rooted_call : (c : Call) → Rooted call_root c
unfolding build call_root pop as_call only
rooted_call c = record { stack = Item.call c ∷ []; built = builds_call c []; taken = refl }

pub rooted_definition : (d : MacroDef) → Rooted definition_root d
unfolding build definition_root pop as_definition only
rooted_definition d = record { stack = Item.definition d ∷ []; built = builds_definition d []; taken = refl }

finds_definition : Finds (pop as_definition) def_items
unfolding pop as_definition only
finds_definition d st = refl

pub rooted_registry : (ds : List MacroDef) → Rooted registry_root ds
unfolding pushes build registry_root flat_registry build_on push_on
rooted_registry ds =
    record {
      stack = Item.leaf (entry 41 (length ds)) ∷ (items_of def_items ds ++ []);
      built = rw (builds_defs ds []) refl;
      taken =
          finds_41 [] ◌∷◌ (pop as_definition) (length ds) (items_of def_items ds ++ [])
          ∙ finds_many (pop as_definition) def_items finds_definition ds [];
    }

pub rooted_tree : (t : Tree) → Rooted tree_root t
unfolding build tree_root flat_tree pop as_tree only
rooted_tree (Tree.condition c) = record { stack = Item.condition c ∷ []; built = builds_condition c []; taken = refl }
rooted_tree (Tree.term t) = record { stack = Item.term t ∷ []; built = builds_term t []; taken = refl }

pub rooted_term : (t : Term) → Rooted term_root t
unfolding build term_root pop as_term only
rooted_term t = record { stack = Item.term t ∷ []; built = builds_term t []; taken = refl }

pub rooted_argument : (a : Arg) → Rooted argument_root a
unfolding build argument_root pop as_argument only
rooted_argument a = record { stack = Item.argument a ∷ []; built = builds_argument a []; taken = refl }

pub rooted_provider : (p : Provider) → Rooted provider_root p
unfolding build provider_root flat_provider pop as_provider only
rooted_provider (Provider.call c) = record { stack = Item.method_call c ∷ []; built = builds_method_call c []; taken = refl }
rooted_provider (Provider.argument a) = record { stack = Item.argument a ∷ []; built = builds_argument a []; taken = refl }
