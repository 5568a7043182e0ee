-- Entries back to trees. The entries are read from the right with a stack: an entry of a condition, a term, an aggregate, a call
-- or a definition takes its parts from the stack and puts its tree there; every other entry waits on the stack for its parent.
-- That this undoes Flat, and nothing else passes, is proved (proofs/Exact.antt).
-- Assumes nothing.
use Rattle.std.specs.Prelude.{ℕ, zero, suc, List, [], ◌∷◌, ◌++◌, Bool, true, false, eqb, length}
use Rattle.std.proofs.Math.Option.{Option, none, some}
use Rattle.format.specs.Entry.{Text, Entry}
use Rattle.format.specs.Ast.{TimeUnit, Interval, WithinSpec, BinderSlot, BinderType, TypedBinder, Sigil, CmpOp, ArithOp, Condition, Term, AggExpr, Call, CallArg, CallArgs, NamedArgs, Terms, Tree, MacroParam, MacroBody, MacroDef}
use Rattle.format.specs.Provider.{Arg, Args, MethodCall, Provider}

pub data Item : Type 0 where
  leaf : Entry → Item
  condition : Condition → Item
  term : Term → Item
  agg : AggExpr → Item
  call : Call → Item
  definition : MacroDef → Item
  argument : Arg → Item
  method_call : MethodCall → Item

abbrev pub Stack : Type 0
Stack = List Item

-- ------------------------------------------------------------------ taking parts from the stack

abbrev pub Pop : Type 0 → Type 0
Pop A = Stack → Option (A × Stack)

unfoldable pub give : {A : Type 0} → A → Pop A
give a st = some (a, st)

unfoldable pub fail : {A : Type 0} → Pop A
fail st = none

unfoldable pub onward : {A B : Type 0} → Option (A × Stack) → (A → Pop B) → Option (B × Stack)
onward none k = none
onward (some r) k = k r.0 r.1

infixl 20 ◌>>=◌
unfoldable pub ◌>>=◌ : {A B : Type 0} → Pop A → (A → Pop B) → Pop B
◌>>=◌ p k st = onward (p st) k

unfoldable pub only : {A : Type 0} → Option A → Stack → Option (A × Stack)
only none st = none
only (some a) st = some (a, st)

unfoldable pub pop : {A : Type 0} → (Item → Option A) → Pop A
pop sort [] = none
pop sort (i ∷ st) = only (sort i) st

unfoldable pub as_leaf : Item → Option Entry
as_leaf (Item.leaf e) = some e
as_leaf (Item.condition c) = none
as_leaf (Item.term t) = none
as_leaf (Item.agg a) = none
as_leaf (Item.call c) = none
as_leaf (Item.definition d) = none
as_leaf (Item.argument a) = none
as_leaf (Item.method_call c) = none

unfoldable pub as_condition : Item → Option Condition
as_condition (Item.leaf e) = none
as_condition (Item.condition c) = some c
as_condition (Item.term t) = none
as_condition (Item.agg a) = none
as_condition (Item.call c) = none
as_condition (Item.definition d) = none
as_condition (Item.argument a) = none
as_condition (Item.method_call c) = none

unfoldable pub as_term : Item → Option Term
as_term (Item.leaf e) = none
as_term (Item.condition c) = none
as_term (Item.term t) = some t
as_term (Item.agg a) = none
as_term (Item.call c) = none
as_term (Item.definition d) = none
as_term (Item.argument a) = none
as_term (Item.method_call c) = none

unfoldable pub as_agg : Item → Option AggExpr
as_agg (Item.leaf e) = none
as_agg (Item.condition c) = none
as_agg (Item.term t) = none
as_agg (Item.agg a) = some a
as_agg (Item.call c) = none
as_agg (Item.definition d) = none
as_agg (Item.argument a) = none
as_agg (Item.method_call c) = none

unfoldable pub as_call : Item → Option Call
as_call (Item.leaf e) = none
as_call (Item.condition c) = none
as_call (Item.term t) = none
as_call (Item.agg a) = none
as_call (Item.call c) = some c
as_call (Item.definition d) = none
as_call (Item.argument a) = none
as_call (Item.method_call c) = none

unfoldable pub as_definition : Item → Option MacroDef
as_definition (Item.leaf e) = none
as_definition (Item.condition c) = none
as_definition (Item.term t) = none
as_definition (Item.agg a) = none
as_definition (Item.call c) = none
as_definition (Item.definition d) = some d
as_definition (Item.argument a) = none
as_definition (Item.method_call c) = none

-- a result's root
unfoldable pub as_tree : Item → Option Tree
as_tree (Item.leaf e) = none
as_tree (Item.condition c) = some (Tree.condition c)
as_tree (Item.term t) = some (Tree.term t)
as_tree (Item.agg a) = none
as_tree (Item.call c) = none
as_tree (Item.definition d) = none
as_tree (Item.argument a) = none
as_tree (Item.method_call c) = none

unfoldable pub as_argument : Item → Option Arg
as_argument (Item.leaf e) = none
as_argument (Item.condition c) = none
as_argument (Item.term t) = none
as_argument (Item.agg a) = none
as_argument (Item.call c) = none
as_argument (Item.definition d) = none
as_argument (Item.argument a) = some a
as_argument (Item.method_call c) = none

-- a provider tape's root
unfoldable pub as_provider : Item → Option Provider
as_provider (Item.leaf e) = none
as_provider (Item.condition c) = none
as_provider (Item.term t) = none
as_provider (Item.agg a) = none
as_provider (Item.call c) = none
as_provider (Item.definition d) = none
as_provider (Item.argument a) = some (Provider.argument a)
as_provider (Item.method_call c) = some (Provider.call c)

unfoldable pub pop_condition : Pop Condition
pop_condition = pop as_condition

unfoldable pub pop_term : Pop Term
pop_term = pop as_term

-- ------------------------------------------------------------------ rows: a code, and how an entry with it is read

-- what an entry's value and text say
abbrev pub Reader : Type 0 → Type 0
Reader A = ℕ → Text → Pop A

-- "S" or a count or a number, with no text; "other unmentioned values are 0"; "L", a text whose length is the value
unfoldable pub number : {A : Type 0} → (ℕ → Pop A) → Reader A
number k v [] = k v
number k v (b ∷ t) = fail

unfoldable pub no_value : {A : Type 0} → Pop A → Reader A
no_value p zero [] = p
no_value p zero (b ∷ t) = fail
no_value p (suc v) t = fail

unfoldable pub guard : {A : Type 0} → Bool → Pop A → Pop A
guard true p = p
guard false p = fail

unfoldable pub texted : {A : Type 0} → (Text → Pop A) → Reader A
texted k v t = guard (eqb v (length t)) (k t)

pub record Row (A : Type 0) : Type 0 where
  pub code : ℕ
  pub reader : Reader A

abbrev pub row : {A : Type 0} → ℕ → Reader A → Row A
row c r = record { code = c; reader = r }

-- rows of one sort of thing, as rows of another
unfoldable pub map_rows : {A B : Type 0} → (A → B) → List (Row A) → List (Row B)
map_rows f [] = []
map_rows f (r ∷ rs) = row r.code (λ v t. r.reader v t >>= λ a. give (f a)) ∷ map_rows f rs

unfoldable pub choose : {A : Type 0} → List (Row A) → Pop A → Entry → Pop A
choose [] other e = other
choose (r ∷ rs) other e = elim (eqb e.code r.code) [ true ↦ r.reader e.value e.text | false ↦ choose rs other e ]

-- the next entry on the stack, by its row
unfoldable pub pop_row : {A : Type 0} → List (Row A) → Pop A
pop_row rows = pop as_leaf >>= choose rows fail

-- n parts, as a list; and a list with its 41 in front
unfoldable pub many : {A L : Type 0} → L → (A → L → L) → Pop A → ℕ → Pop L
many nil cons p zero = give nil
many nil cons p (suc n) = p >>= λ a. many nil cons p n >>= λ l. give (cons a l)

unfoldable pub list_of : {A L : Type 0} → L → (A → L → L) → Pop A → Pop L
list_of nil cons p = pop_row (row 41 (number (many nil cons p)) ∷ [])

-- ------------------------------------------------------------------ the parts

unfoldable pub pop_text : Pop Text
pop_text = pop_row (row 40 (texted give) ∷ [])

unfoldable pub pop_texts : ℕ → Pop (List Text)
pop_texts = many [] ◌∷◌ pop_text

unfoldable pub pop_span : Pop ℕ
pop_span = pop_row (row 42 (number give) ∷ [])

unfoldable pub interval : TimeUnit → ℕ → Interval
interval u n = record { amount = n; unit = u }

unfoldable pub interval_rows : List (Row Interval)
interval_rows =
    row 48 (number λ n. give (interval TimeUnit.Seconds n))
    ∷ row 49 (number λ n. give (interval TimeUnit.Minutes n))
    ∷ row 50 (number λ n. give (interval TimeUnit.Hours n))
    ∷ row 51 (number λ n. give (interval TimeUnit.Days n))
    ∷ row 64 (number λ n. give (interval TimeUnit.Weeks n))
    ∷ []

unfoldable pub pop_interval : Pop Interval
pop_interval = pop_row interval_rows

unfoldable pub within_rows : List (Row WithinSpec)
within_rows = row 52 (texted λ t. give (WithinSpec.ParamRef t)) ∷ map_rows WithinSpec.Concrete interval_rows

unfoldable pub pop_within : Pop WithinSpec
pop_within = pop_row within_rows

unfoldable pub slot_rows : List (Row BinderSlot)
slot_rows =
    row 43 (texted λ t. give (BinderSlot.Name t))
    ∷ row 44 (texted λ t. give (BinderSlot.ParamRef t))
    ∷ row 45 (texted λ t. give (BinderSlot.BinderRef t))
    ∷ []

unfoldable pub pop_slot : Pop BinderSlot
pop_slot = pop_row slot_rows

unfoldable pub type_rows : List (Row BinderType)
type_rows =
    row 46 (no_value (give BinderType.Timepoint))
    ∷ row 47 (number λ n. pop_texts n >>= λ ts. give (BinderType.Named ts))
    ∷ []

unfoldable pub pop_type : Pop BinderType
pop_type = pop_row type_rows

unfoldable pub pop_binder : Pop TypedBinder
pop_binder = pop_slot >>= λ v. pop_type >>= λ t. give (record { slot = v; ty = t })

unfoldable pub sigil_rows : List (Row (Sigil × Text))
sigil_rows = row 58 (texted λ t. give (Sigil.Param, t)) ∷ row 59 (texted λ t. give (Sigil.Binder, t)) ∷ []

unfoldable pub pop_sigil : Pop (Sigil × Text)
pop_sigil = pop_row sigil_rows

-- one of the things listed, by its place
unfoldable pub nth : {A : Type 0} → List A → ℕ → Pop A
nth [] n = fail
nth (a ∷ rest) zero = give a
nth (a ∷ rest) (suc n) = nth rest n

unfoldable pub cmp_ops : List CmpOp
cmp_ops = CmpOp.Le ∷ CmpOp.Lt ∷ CmpOp.Ge ∷ CmpOp.Gt ∷ CmpOp.Eq ∷ CmpOp.NotEq ∷ []

unfoldable pub arith_ops : List ArithOp
arith_ops = ArithOp.Add ∷ ArithOp.Sub ∷ ArithOp.Mul ∷ []

unfoldable pub pop_cmp : Pop CmpOp
pop_cmp = pop_row (row 53 (number (nth cmp_ops)) ∷ [])

-- a field is 40 and a term
unfoldable pub pop_field : Pop (Text × Term)
pop_field = pop_text >>= λ n. pop_term >>= λ t. give (n, t)

abbrev pub cons_named : Text × Term → NamedArgs → NamedArgs
cons_named f fs = NamedArgs.cons_field f.0 f.1 fs

unfoldable pub pop_fields : Pop NamedArgs
pop_fields = list_of NamedArgs.no_fields cons_named pop_field

unfoldable pub pop_binders : Pop (List TypedBinder)
pop_binders = list_of [] ◌∷◌ pop_binder

unfoldable pub arg_rows : List (Row CallArg)
arg_rows =
    row 55 (no_value (pop_condition >>= λ c. give (CallArg.ConditionArg c)))
    ∷ row 56 (no_value (pop_term >>= λ t. give (CallArg.TermArg t)))
    ∷ row 57 (no_value (pop_interval >>= λ i. give (CallArg.WithinArg i)))
    ∷ []

unfoldable pub pop_args : Pop CallArgs
pop_args = list_of CallArgs.no_args CallArgs.cons_arg (pop_row arg_rows)

unfoldable pub pop_param : Pop MacroParam
pop_param = pop_span >>= λ s. pop_text >>= λ n. give (record { span = s; name = n })

unfoldable pub pop_params : Pop (List MacroParam)
pop_params = list_of [] ◌∷◌ pop_param

unfoldable pub body_rows : List (Row MacroBody)
body_rows =
    row 61 (no_value (give MacroBody.Cedar))
    ∷ row 62 (no_value (pop_condition >>= λ c. give (MacroBody.TemporalCondition c)))
    ∷ row 63 (no_value (pop_term >>= λ t. give (MacroBody.TemporalValue t)))
    ∷ []

unfoldable pub pop_body : Pop MacroBody
pop_body = pop_row body_rows

-- ------------------------------------------------------------------ the trees

unfoldable pub condition_rows : List (Row Condition)
condition_rows =
    row 1 (number λ s. pop_condition >>= λ l. pop_condition >>= λ r. give (Condition.And s l r))
    ∷ row 2 (number λ s. pop_condition >>= λ l. pop_condition >>= λ r. give (Condition.Or s l r))
    ∷ row 3 (number λ s. pop_condition >>= λ c. give (Condition.Not s c))
    ∷ row 4 (number λ s. pop_within >>= λ w. pop_condition >>= λ c. give (Condition.Formerly s w c))
    ∷ row 5 (number λ s. pop_within >>= λ w. pop_condition >>= λ c. give (Condition.Previous s w c))
    ∷ row 6 (number λ s. pop_condition >>= λ l. pop_within >>= λ w. pop_condition >>= λ r. give (Condition.Since s l w r))
    ∷ row 7
    (number λ s.
    pop_span >>= λ o.
    list_of [] ◌∷◌ pop_text >>= λ ns.
    pop_text >>= λ a.
    pop_text >>= λ k.
    pop_fields >>= λ fs.
    give (Condition.Predicate s o ns a k fs))
    ∷ row 8 (number λ s. pop_cmp >>= λ op. pop_term >>= λ l. pop_term >>= λ r. give (Condition.Comparison s op l r))
    ∷ row 9 (number λ s. pop_binder >>= λ b. pop_condition >>= λ c. give (Condition.Exists s b c))
    ∷ row 10 (number λ s. pop_slot >>= λ v. give (Condition.Tp s v))
    ∷ row 11 (number λ s. pop as_call >>= λ c. give (Condition.ConditionCall s c))
    ∷ row 12 (number λ s. pop_sigil >>= λ g. give (Condition.SigilRef s g.0 g.1))
    ∷ row 13
    (number λ s. pop_span >>= λ o. pop_condition >>= λ c. pop_fields >>= λ fs. give (Condition.Refine s o c fs))
    ∷ []

unfoldable pub term_rows : List (Row Term)
term_rows =
    row 20 (no_value (pop_text >>= λ ty. pop_text >>= λ id. give (Term.Entity ty id)))
    ∷ row 21 (number λ n. give (Term.Integer n))
    ∷ row 22 (texted λ t. give (Term.Decimal t))
    ∷ row 23 (texted λ t. give (Term.String t))
    ∷ row 24 (number λ n. nth (false ∷ true ∷ []) n >>= λ b. give (Term.Bool b))
    ∷ row 25 (number λ n. pop_texts n >>= λ path. give (Term.ContextField path))
    ∷ row 26 (number λ n. pop_texts n >>= λ path. give (Term.ScopeField path))
    ∷ row 27 (texted λ t. give (Term.Var t))
    ∷ row 28 (no_value (give Term.Wildcard))
    ∷ row 29 (number λ n. many Terms.no_terms Terms.cons_term pop_term n >>= λ ts. give (Term.Array ts))
    ∷ row 30 (no_value (pop as_agg >>= λ a. give (Term.Agg a)))
    ∷ row 31 (number λ n. nth arith_ops n >>= λ op. pop_term >>= λ l. pop_term >>= λ r. give (Term.Arith op l r))
    ∷ row 32 (texted λ t. give (Term.ParamRef t))
    ∷ row 33 (texted λ t. give (Term.BinderRef t))
    ∷ []

unfoldable pub agg_rows : List (Row AggExpr)
agg_rows =
    row 34 (number λ s. pop_slot >>= λ v. pop_binders >>= λ bs. pop_condition >>= λ c. give (AggExpr.Sum s v bs c))
    ∷ row 35 (number λ s. pop_binders >>= λ bs. pop_condition >>= λ c. give (AggExpr.Count s bs c))
    ∷ row 36 (number λ s. pop as_call >>= λ c. give (AggExpr.AggCall s c))
    ∷ []

unfoldable pub call_rows : List (Row Call)
call_rows = row 54 (number λ s. pop_text >>= λ n. pop_args >>= λ args. give (Call.MacroCall s n args)) ∷ []

unfoldable pub definition_rows : List (Row MacroDef)
definition_rows =
    row 60
    (number λ s.
    pop_text >>= λ n.
    pop_params >>= λ ps.
    pop_body >>= λ b.
    give (record { span = s; name = n; params = ps; body = b }))
    ∷ []

unfoldable pub pop_argument : Pop Arg
pop_argument = pop as_argument

unfoldable pub argument_rows : List (Row Arg)
argument_rows =
    row 71 (number λ n. pop_texts n >>= λ path. give (Arg.Field path))
    ∷ row 72 (texted λ t. give (Arg.String t))
    ∷ row 73 (number λ n. give (Arg.Integer n))
    ∷ row 74 (texted λ t. give (Arg.Decimal t))
    ∷ row 75 (number λ n. nth (false ∷ true ∷ []) n >>= λ b. give (Arg.Bool b))
    ∷ row 76 (number λ n. many Args.no_args Args.cons_arg pop_argument n >>= λ items. give (Arg.Set items))
    ∷ []

unfoldable pub pop_arguments : Pop Args
pop_arguments = list_of Args.no_args Args.cons_arg pop_argument

unfoldable pub method_call_rows : List (Row MethodCall)
method_call_rows =
    row 70 (number λ s. pop_text >>= λ n. pop_arguments >>= λ items. give (record { span = s; name = n; args = items })) ∷ []

unfoldable pub table : List (Row Item)
table =
    map_rows Item.condition condition_rows
    ++ (map_rows Item.term term_rows
    ++ (map_rows Item.agg agg_rows
    ++ (map_rows Item.call call_rows
    ++ (map_rows Item.definition definition_rows
    ++ (map_rows Item.argument argument_rows ++ map_rows Item.method_call method_call_rows)))))

-- ------------------------------------------------------------------ the stack of a list of entries

unfoldable pub restack : Option (Item × Stack) → Option Stack
restack none = none
restack (some r) = some (r.0 ∷ r.1)

unfoldable pub push : Entry → Stack → Option Stack
push e st = restack (choose table (give (Item.leaf e)) e st)

unfoldable pub push_on : Entry → Option Stack → Option Stack
push_on e none = none
push_on e (some st) = push e st

-- onto a stack
unfoldable pub build_on : Option Stack → List Entry → Option Stack
build_on start [] = start
build_on start (e ∷ es) = push_on e (build_on start es)

unfoldable pub build : List Entry → Option Stack
build es = build_on (some []) es

-- Whoever unfolds this unfolds every definition of this file.
unfoldable pub open_build : Unit {0}
unfolding
    give fail onward ◌>>=◌ only pop as_leaf as_condition as_term as_agg as_call as_definition as_tree as_argument as_provider pop_condition pop_term number
    no_value guard texted map_rows choose pop_row many list_of pop_text pop_texts pop_span interval interval_rows pop_interval
    within_rows pop_within slot_rows pop_slot type_rows pop_type pop_binder sigil_rows pop_sigil nth cmp_ops arith_ops pop_cmp
    pop_field pop_fields pop_binders arg_rows pop_args pop_param pop_params body_rows pop_body condition_rows term_rows agg_rows
    call_rows definition_rows pop_argument argument_rows pop_arguments method_call_rows table restack push push_on build_on build
open_build = tt
