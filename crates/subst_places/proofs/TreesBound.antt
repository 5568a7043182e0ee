-- A call's arguments where the table says: what a name finds there is what the tree's definition finds.
-- Assumes nothing.
use Rattle.std.proofs.Common.{Some, None, Option}
use Prim.Native.Nat.{ℕ}
use mathlib.Core.Path.{◌≡◌, refl}
use mathlib.Core.List.{List, [], ◌∷◌}
use mathlib.Core.Bool.{Bool, true, false, ◌&&◌, ◌||◌}
use mathlib.Core.Option.{Option as Maybe, none, some}
use lib.Dec.{leb}
use Rattle.format.specs.Entry.{Text, Entry}
use Rattle.format.specs.Ast.{TimeUnit, Condition, Term, CallArg}
use Rattle.format.specs.Flat.{flat_unit, flat_interval, flat_condition, flat_term}
use Rattle.definition.specs.Size.{call_arg_size}
use Rattle.definition.specs.Substitute.{SubstMaps, lookup, identifier}
use Rattle.nodes.specs.Node.{name_at}
use Rattle.tape.specs.declared.layout.Layout.{Layout}
use Rattle.nodes.specs.declared.Name.{Name}
use Rattle.tape.proofs.Located.{past, Inside}
use Rattle.subst_state.specs.Arguments.{arg_for}
use Rattle.subst_places.specs.Parameters.{Tapes}
use Rattle.subst_state.specs.declared.maps.Argument.{Argument}

-- ------------------------------------------------------------------ roots

unfoldable pub root_condition : Condition → ℕ
root_condition (Condition.And s l r) = 1
root_condition (Condition.Or s l r) = 2
root_condition (Condition.Not s c) = 3
root_condition (Condition.Formerly s w c) = 4
root_condition (Condition.Previous s w c) = 5
root_condition (Condition.Since s l w r) = 6
root_condition (Condition.Predicate s o ns a k fs) = 7
root_condition (Condition.Comparison s op l r) = 8
root_condition (Condition.Exists s b c) = 9
root_condition (Condition.Tp s v) = 10
root_condition (Condition.ConditionCall s c) = 11
root_condition (Condition.SigilRef s g n) = 12
root_condition (Condition.Refine s o c fs) = 13

unfoldable pub root_term : Term → ℕ
root_term (Term.Entity ty id) = 20
root_term (Term.Integer n) = 21
root_term (Term.Decimal t) = 22
root_term (Term.String t) = 23
root_term (Term.Bool b) = 24
root_term (Term.ContextField path) = 25
root_term (Term.ScopeField path) = 26
root_term (Term.Var n) = 27
root_term Term.Wildcard = 28
root_term (Term.Array ts) = 29
root_term (Term.Agg a) = 30
root_term (Term.Arith op l r) = 31
root_term (Term.ParamRef n) = 32
root_term (Term.BinderRef n) = 33

unfoldable pub root_of : CallArg → ℕ
root_of (CallArg.ConditionArg c) = root_condition c
root_of (CallArg.TermArg t) = root_term t
root_of (CallArg.WithinArg i) = flat_unit i.unit

abbrev pub between : ℕ → ℕ → ℕ → Bool
between low high root = leb low root && leb root high

-- whether a code is one of conditions, of terms, of intervals
abbrev pub Ranges : ℕ → Bool → Bool → Bool → Type 0
Ranges root condition term interval =
    (between 1 13 root ≡ condition) × (between 20 33 root ≡ term) × ((between 48 51 root || between 64 64 root) ≡ interval)

pub ranges_condition : (c : Condition) → Ranges (root_condition c) true false false
unfolding root_condition
ranges_condition (Condition.And s l r) = (refl, refl, refl)
ranges_condition (Condition.Or s l r) = (refl, refl, refl)
ranges_condition (Condition.Not s c) = (refl, refl, refl)
ranges_condition (Condition.Formerly s w c) = (refl, refl, refl)
ranges_condition (Condition.Previous s w c) = (refl, refl, refl)
ranges_condition (Condition.Since s l w r) = (refl, refl, refl)
ranges_condition (Condition.Predicate s o ns a k fs) = (refl, refl, refl)
ranges_condition (Condition.Comparison s op l r) = (refl, refl, refl)
ranges_condition (Condition.Exists s b c) = (refl, refl, refl)
ranges_condition (Condition.Tp s v) = (refl, refl, refl)
ranges_condition (Condition.ConditionCall s c) = (refl, refl, refl)
ranges_condition (Condition.SigilRef s g n) = (refl, refl, refl)
ranges_condition (Condition.Refine s o c fs) = (refl, refl, refl)

pub ranges_term : (t : Term) → Ranges (root_term t) false true false
unfolding root_term
ranges_term (Term.Entity ty id) = (refl, refl, refl)
ranges_term (Term.Integer n) = (refl, refl, refl)
ranges_term (Term.Decimal t) = (refl, refl, refl)
ranges_term (Term.String t) = (refl, refl, refl)
ranges_term (Term.Bool b) = (refl, refl, refl)
ranges_term (Term.ContextField path) = (refl, refl, refl)
ranges_term (Term.ScopeField path) = (refl, refl, refl)
ranges_term (Term.Var n) = (refl, refl, refl)
ranges_term Term.Wildcard = (refl, refl, refl)
ranges_term (Term.Array ts) = (refl, refl, refl)
ranges_term (Term.Agg a) = (refl, refl, refl)
ranges_term (Term.Arith op l r) = (refl, refl, refl)
ranges_term (Term.ParamRef n) = (refl, refl, refl)
ranges_term (Term.BinderRef n) = (refl, refl, refl)

pub ranges_unit : (u : TimeUnit) → Ranges (flat_unit u) false false true
unfolding flat_unit
ranges_unit TimeUnit.Seconds = (refl, refl, refl)
ranges_unit TimeUnit.Minutes = (refl, refl, refl)
ranges_unit TimeUnit.Hours = (refl, refl, refl)
ranges_unit TimeUnit.Days = (refl, refl, refl)
ranges_unit TimeUnit.Weeks = (refl, refl, refl)

-- an argument is an identifier exactly where its root is 27
pub data Identifies : CallArg → Maybe Text → Bool → Type 0 where
  is_name : {n : Text} → Identifies (CallArg.TermArg (Term.Var n)) (some n) true
  no_name : {a : CallArg} → Identifies a none false

pub identifies : (a : CallArg) → Identifies a (identifier a) (between 27 27 (root_of a))
unfolding identifier root_of root_condition root_term flat_unit
identifies (CallArg.ConditionArg c) = go c
  where
    go : (c : Condition) → Identifies (CallArg.ConditionArg c) none (between 27 27 (root_condition c))
    go (Condition.And s l r) = no_name
    go (Condition.Or s l r) = no_name
    go (Condition.Not s c) = no_name
    go (Condition.Formerly s w c) = no_name
    go (Condition.Previous s w c) = no_name
    go (Condition.Since s l w r) = no_name
    go (Condition.Predicate s o ns a k fs) = no_name
    go (Condition.Comparison s op l r) = no_name
    go (Condition.Exists s b c) = no_name
    go (Condition.Tp s v) = no_name
    go (Condition.ConditionCall s c) = no_name
    go (Condition.SigilRef s g n) = no_name
    go (Condition.Refine s o c fs) = no_name
identifies (CallArg.WithinArg i) = go i.unit
  where
    go : (u : TimeUnit) → Identifies (CallArg.WithinArg i) none (between 27 27 (flat_unit u))
    go TimeUnit.Seconds = no_name
    go TimeUnit.Minutes = no_name
    go TimeUnit.Hours = no_name
    go TimeUnit.Days = no_name
    go TimeUnit.Weeks = no_name
identifies (CallArg.TermArg (Term.Entity ty id)) = no_name
identifies (CallArg.TermArg (Term.Integer n)) = no_name
identifies (CallArg.TermArg (Term.Decimal t)) = no_name
identifies (CallArg.TermArg (Term.String t)) = no_name
identifies (CallArg.TermArg (Term.Bool b)) = no_name
identifies (CallArg.TermArg (Term.ContextField path)) = no_name
identifies (CallArg.TermArg (Term.ScopeField path)) = no_name
identifies (CallArg.TermArg (Term.Var n)) = is_name
identifies (CallArg.TermArg Term.Wildcard) = no_name
identifies (CallArg.TermArg (Term.Array ts)) = no_name
identifies (CallArg.TermArg (Term.Agg a)) = no_name
identifies (CallArg.TermArg (Term.Arith op l r)) = no_name
identifies (CallArg.TermArg (Term.ParamRef n)) = no_name
identifies (CallArg.TermArg (Term.BinderRef n)) = no_name

-- ------------------------------------------------------------------ arguments

-- the entries behind the one that announces an argument
unfoldable pub entries_of : CallArg → List Entry
entries_of (CallArg.ConditionArg c) = flat_condition c
entries_of (CallArg.TermArg t) = flat_term t
entries_of (CallArg.WithinArg i) = flat_interval i ∷ []

module _ (s : List ℕ) (l : Layout) where
  -- the argument stands where the row says
  pub record ArgumentIs (a : CallArg) (arg : Argument) : Type 0 where
    pub inside : Inside s l arg.from (entries_of a)
    pub ends : arg.to ≡ past (entries_of a) arg.from
    pub its_root : arg.root ≡ root_of a
    pub its_size : arg.size ≡ call_arg_size a

  pub data FoundIs (o : Maybe CallArg) (x : Option Argument) : Type 0 where
    nothing : o ≡ none → x ≡ None → FoundIs o x
    argument : (a : CallArg) (arg : Argument) → o ≡ some a → x ≡ Some arg → ArgumentIs a arg → FoundIs o x

-- the root that the row has
pub ranged : {s : List ℕ} {l : Layout} {a : CallArg} {arg : Argument} {c t i : Bool} → ArgumentIs s l a arg → Ranges (root_of a) c t i
    → Ranges arg.root c t i
ranged h r = rw h.its_root r

-- The tapes are those of a definition and a call.
pub record Bound (T : Tapes) (maps : SubstMaps) : Type 0 where
  pub its_name : name_at T.definition T.maps.definition T.maps.macro_name ≡ maps.macro_name
  pub its_span : T.maps.call_span ≡ maps.call_span
  pub its_limit : T.maps.limit ≡ maps.limit
  pub its_file : T.maps.file ≡ maps.file
  pub finds : (name : Name) {n : Text} → name_at T.definition T.maps.definition name ≡ n
      → FoundIs T.call T.maps.call (lookup maps.params maps.args n) (arg_for T.definition T.table T.maps name)
