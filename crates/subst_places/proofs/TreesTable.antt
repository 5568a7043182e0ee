-- The table of a call's arguments has a row for each, and a name finds there what the tree's definition finds: the argument of the last
-- parameter that has it.
-- Assumes nothing.
use Rattle.std.proofs.Common.{Some, None, Ok, Option}
use Prim.Native.Nat.{ℕ, zero, suc, ◌+◌, ◌≤◌, ◌<◌}
use native.Mathlib.Omega.{arith}
use mathlib.Core.Path.{◌≡◌, refl, sym, ◌∙◌, subst}
use mathlib.Core.List.{List, [], ◌∷◌}
use mathlib.Core.Bool.{Bool, true, false}
use mathlib.Core.Option.{Option as Maybe, none, some}
use lib.Dec.{leb}
use lib.ListN.{length, length-set}
use Rattle.std.specs.Prelude.{slice_set}
use borrow.Author.Tests.{le-leb}
use Rattle.format.specs.Entry.{Text, Entry, entry, text_entry}
use Rattle.format.specs.Ast.{Condition, Term, Call, CallArg, CallArgs, MacroParam, MacroDef}
use Rattle.format.specs.Flat.{flat_interval, flat_within, flat_params, length_args, flat_condition, flat_term, flat_call, flat_arg, flat_args, flat_def}
use Rattle.definition.specs.Size.{size, call_arg_size}
use Rattle.definition.proofs.Size.{size_interval}
use Rattle.definition.specs.Substitute.{SubstMaps, maps_of, lookup, only_if, ◌or_else◌}
use Rattle.definition.specs.Text.{eq_text}
use Rattle.tape.specs.Pick.{pick}
use Rattle.nodes.specs.Node.{name_at, entry_at, argument_at}
use Rattle.tape.specs.declared.layout.Layout.{Layout}
use Rattle.tape.specs.declared.layout.Place.{Place}
use Rattle.nodes.specs.declared.Name.{Name}
use Rattle.tape.proofs.Located.{past, Inside, inside_skip, inside_size}
use Rattle.nodes.proofs.Entries.{is_entry}
use Rattle.nodes.proofs.Placed.{heading_entries, parts_arg, parts_args, parts_call, parts_params, parts_def}
use Rattle.tape.proofs.Trees.{passes_condition, passes_term, passes_interval}
use Rattle.tape.specs.Layouts.{size_between}
use Rattle.tape.specs.Scan.{skip_at}
use Rattle.nodes.specs.declared.ArgNode.{ArgNode}
use Rattle.nodes.specs.declared.ArgNode.TheVariants as kind
use Rattle.nodes.specs.Node.{param_at}
use Rattle.subst_state.specs.Arguments.{on_found, sort_of, measure_at, table_from, argument_in, search_from, arg_for}
use Rattle.subst_places.specs.Parameters.{Tapes, tapes}
use Rattle.subst_state.specs.declared.maps.Argument.{Argument}
use Rattle.subst_places.proofs.TreesBound.{root_condition, root_term, root_of, entries_of, ArgumentIs, FoundIs, nothing, argument, Bound}

-- ------------------------------------------------------------------ an argument, measured

-- the first entry of a tree has its root's code
pub record Rooted (s : List ℕ) (l : Layout) (p : Place) (root : ℕ) : Type 0 where
  pub value : ℕ
  pub next : Place
  pub reads : entry_at s l p ≡ Some (root, value, next)

module _ {s : List ℕ} {l : Layout} where
  rooted : {p : Place} (e : Entry) {es : List Entry} → Inside s l p (e ∷ es) → Rooted s l p e.code
  rooted e i = record { value = e.value; next = _; reads = is_entry i }

  rooted_condition : {p : Place} (c : Condition) → Inside s l p (flat_condition c) → Rooted s l p (root_condition c)
  unfolding flat_condition root_condition
  rooted_condition (Condition.And sp a b) i = rooted (entry 1 sp) i
  rooted_condition (Condition.Or sp a b) i = rooted (entry 2 sp) i
  rooted_condition (Condition.Not sp a) i = rooted (entry 3 sp) i
  rooted_condition (Condition.Formerly sp w a) i = rooted (entry 4 sp) i
  rooted_condition (Condition.Previous sp w a) i = rooted (entry 5 sp) i
  rooted_condition (Condition.Since sp a w b) i = rooted (entry 6 sp) i
  rooted_condition (Condition.Predicate sp o ns a k fs) i = rooted (entry 7 sp) i
  rooted_condition (Condition.Comparison sp op a b) i = rooted (entry 8 sp) i
  rooted_condition (Condition.Exists sp b a) i = rooted (entry 9 sp) i
  rooted_condition (Condition.Tp sp v) i = rooted (entry 10 sp) i
  rooted_condition (Condition.ConditionCall sp c) i = rooted (entry 11 sp) i
  rooted_condition (Condition.SigilRef sp g n) i = rooted (entry 12 sp) i
  rooted_condition (Condition.Refine sp o a fs) i = rooted (entry 13 sp) i

  rooted_term : {p : Place} (t : Term) → Inside s l p (flat_term t) → Rooted s l p (root_term t)
  unfolding flat_condition root_term
  rooted_term (Term.Entity ty id) i = rooted (entry 20 0) i
  rooted_term (Term.Integer n) i = rooted (entry 21 n) i
  rooted_term (Term.Decimal t) i = rooted (text_entry 22 t) i
  rooted_term (Term.String t) i = rooted (text_entry 23 t) i
  rooted_term (Term.Bool b) i = rooted (entry 24 _) i
  rooted_term (Term.ContextField path) i = rooted (entry 25 (length path)) i
  rooted_term (Term.ScopeField path) i = rooted (entry 26 (length path)) i
  rooted_term (Term.Var n) i = rooted (text_entry 27 n) i
  rooted_term Term.Wildcard i = rooted (entry 28 0) i
  rooted_term (Term.Array ts) i = rooted (entry 29 _) i
  rooted_term (Term.Agg a) i = rooted (entry 30 0) i
  rooted_term (Term.Arith op a b) i = rooted (entry 31 _) i
  rooted_term (Term.ParamRef n) i = rooted (text_entry 32 n) i
  rooted_term (Term.BinderRef n) i = rooted (text_entry 33 n) i

-- what is measured at a place is the argument that stands there, and it ends where the next one starts
record Measured (s : List ℕ) (l : Layout) (p : Place) (a : CallArg) : Type 0 where
  pub arg : Argument
  pub measures : measure_at s l p ≡ Some arg
  pub is : ArgumentIs s l a arg
  pub ends : arg.to ≡ past (flat_arg a) p

module _ {s : List ℕ} {l : Layout} {p : Place} where
  -- the entries behind the one that announces the argument
  measured_as : (a : CallArg) (k : ArgNode) {q : Place} → argument_at s l p ≡ Ok (k, q) → Inside s l q (entries_of a)
      → Rooted s l q (root_of a)
      → skip_at s l q (sort_of k) ≡ Some (past (entries_of a) q) → size (entries_of a) ≡ call_arg_size a → past (flat_arg a) p ≡ past (entries_of a) q
      → Measured s l p a
  unfolding measure_at
  measured_as a k {q} r i root skip z e =
      record {
        arg = record { from = q; to = past (entries_of a) q; root = root_of a; size = size_between s l q.at (past (entries_of a) q).at };
        measures = rw (r, root.reads, skip);
        is = record { inside = i; ends = refl; its_root = refl; its_size = inside_size i ∙ z };
        ends = sym e;
      }

  measured : (a : CallArg) → Inside s l p (flat_arg a) → Measured s l p a
  unfolding entries_of root_of call_arg_size flat_within flat_interval
  measured (CallArg.ConditionArg c) h =
      let i = parts_arg (CallArg.ConditionArg c) h in
      let b = i.runs.first in
      measured_as (CallArg.ConditionArg c) kind.Condition i.read b (rooted_condition c b)
      (inside_skip b (passes_condition c) (omega arith)) refl i.runs.ends
  measured (CallArg.TermArg t) h =
      let i = parts_arg (CallArg.TermArg t) h in
      let b = i.runs.first in
      measured_as (CallArg.TermArg t) kind.Term i.read b (rooted_term t b) (inside_skip b (passes_term t) (omega arith)) refl
      i.runs.ends
  measured (CallArg.WithinArg v) h =
      let i = parts_arg (CallArg.WithinArg v) h in
      let b = i.runs.first in
      measured_as (CallArg.WithinArg v) kind.Within i.read b (rooted (flat_interval v) b)
      (inside_skip b (passes_interval v) (omega arith)) (size_interval v) i.runs.ends

-- ------------------------------------------------------------------ the table

-- the table t' is t up to index k, and as long
record Keeps (k : ℕ) (t t' : List Argument) : Type 0 where
  size : length t' ≡ length t
  before : (j : ℕ) → j < k → argument_in t' j ≡ argument_in t j

set_before : (t : List Argument) (k j : ℕ) (a : Argument) → j < k → argument_in (slice_set t k a) j ≡ argument_in t j
unfolding argument_in
set_before [] k j a h = refl
set_before (b ∷ t) zero j a h = absurd (omega arith)
set_before (b ∷ t) (suc k) zero a h = refl
set_before (b ∷ t) (suc k) (suc j) a h = set_before t k j a (omega arith)

set_at : (t : List Argument) (k : ℕ) (a : Argument) → k < length t → argument_in (slice_set t k a) k ≡ Some a
unfolding argument_in
set_at [] k a h = absurd (omega arith)
set_at (b ∷ t) zero a h = refl
set_at (b ∷ t) (suc k) a h = set_at t k a (omega arith)

-- one argument more, and those behind it
keeps_more : (k : ℕ) (t u : List Argument) (a : Argument) → Keeps (k + 1) (slice_set t k a) u → Keeps k t u
keeps_more k t u a h =
    record {
      size = h.size ∙ length-set t k a;
      before = λ j b. h.before j (omega arith) ∙ set_before t k j a b;
    }

keeps_step : (k : ℕ) (t : List Argument) (f : Argument → List Argument) (b : Bool) (x : Option Argument) → ((a : Argument) → Keeps k t (f a))
    → Keeps k t (pick b (on_found t f x) t)
keeps_step k t f true (Some a) h = h a
keeps_step k t f true None h = record { size = refl; before = λ j b. refl }
keeps_step k t f false x h = record { size = refl; before = λ j b. refl }

module _ (s : List ℕ) (l : Layout) where
  table_keeps : (n : ℕ) (p : Place) (k : ℕ) (t : List Argument) → Keeps k t (table_from s l n p k t)
  unfolding table_from
  table_keeps zero p k t = record { size = refl; before = λ j h. refl }
  table_keeps (suc n) p k t =
      keeps_step k t _ (leb (k + 1) (length t)) (measure_at s l p)
      (λ a. keeps_more k t _ a (table_keeps n a.to (k + 1) (slice_set t k a)))

-- the arguments from index i on are those of the call
module _ (s : List ℕ) (l : Layout) where
  unfoldable Rows : List Argument → ℕ → CallArgs → Type 0
  Rows t i CallArgs.no_args = Unit {0}
  Rows t i (CallArgs.cons_arg a rest) = FoundIs s l (some a) (argument_in t i) × Rows t (i + 1) rest

  table_rows : (args : CallArgs) {p : Place} (k : ℕ) (t : List Argument) → Inside s l p (flat_args args)
      → k + length_args args ≤ length t
      → Rows (table_from s l (length_args args) p k t) k args
  unfolding Rows table_from length_args
  table_rows CallArgs.no_args k t h b = tt
  table_rows (CallArgs.cons_arg a rest) {p = p} k t h b =
      let runs = parts_args (CallArgs.cons_arg a rest) h in
      let m = measured a runs.first in
      let u = slice_set t k m.arg in
      let behind : Inside s l m.arg.to (flat_args rest) = rw m.ends runs.second in
      let filled : table_from s l (suc (length_args rest)) p k t ≡ table_from s l (length_args rest) m.arg.to (k + 1) u =
      rw (le-leb (k + 1) (length t) (omega arith), m.measures) refl in (
        subst (λ (w : List Argument). FoundIs s l (some a) (argument_in w k)) (sym filled)
            (argument a m.arg refl
            ((table_keeps s l (length_args rest) m.arg.to (k + 1) u).before k (omega arith) ∙ set_at t k m.arg (omega arith)) m.is),
        subst (λ (w : List Argument). Rows w (k + 1) rest) (sym filled)
            (table_rows rest (k + 1) u behind (omega (arith, length-set t k m.arg))),
      )

-- ------------------------------------------------------------------ a search

else_assoc : (x y z : Maybe CallArg) → (x or_else y) or_else z ≡ x or_else (y or_else z)
unfolding ◌or_else◌
else_assoc (some a) y z = refl
else_assoc none y z = refl

else_none : (x : Maybe CallArg) → x or_else none ≡ x
unfolding ◌or_else◌
else_none (some a) = refl
else_none none = refl

-- a parameter has the name or not
one_of : {s : List ℕ} {l : Layout} (b : Bool) {a : CallArg} {o : Maybe CallArg} {x other : Option Argument} → FoundIs s l (some a) x
    → FoundIs s l o other
    → FoundIs s l (only_if b a or_else o) (pick b x other)
unfolding only_if ◌or_else◌
one_of true h k = h
one_of false h k = k

module _ {def call : List ℕ} {d c : Layout} (table : List Argument) (name : Name) {n : Text} (spelled : name_at def d name ≡ n) where
  search_right : (qs : List MacroParam) (args : CallArgs) {p : Place} (i : ℕ) {o : Maybe CallArg} {other : Option Argument}
      → Inside def d p (flat_params qs)
      → length_args args ≡ length qs → Rows call c table i args → FoundIs call c o other
      → FoundIs call c (lookup qs args n or_else o) (search_from def d table name (length qs) p i other)
  unfolding lookup ◌or_else◌ search_from length_args Rows param_at
  search_right [] args i h e r k = k
  search_right (q ∷ qs) CallArgs.no_args i h e r k = absurd (omega arith)
  search_right (q ∷ qs) (CallArgs.cons_arg a rest) i {o} h e r k =
      let v = parts_params (q ∷ qs) h in
      rw (v.span, v.name.read, v.spelled, spelled, else_assoc (lookup qs rest n) (only_if (eq_text q.name n) a) o)
      (search_right qs rest (i + 1) v.name.runs.first (omega arith) r.1 (one_of (eq_text q.name n) r.0 k))

-- ------------------------------------------------------------------ the whole

-- The parameters stand in the definition and the arguments in the call, and the table was filled from there.
pub bound : {T : Tapes} {maps : SubstMaps} {first : Place} (t : List Argument)
    → Inside T.definition T.maps.definition T.maps.params (flat_params maps.params) → T.maps.count ≡ length maps.params
    → Inside T.call T.maps.call first (flat_args maps.args) → length_args maps.args ≡ length maps.params
    → length_args maps.args ≤ length t → T.table ≡ table_from T.call T.maps.call (length_args maps.args) first 0 t
    → name_at T.definition T.maps.definition T.maps.macro_name ≡ maps.macro_name → T.maps.call_span ≡ maps.call_span
    → T.maps.limit ≡ maps.limit → T.maps.file ≡ maps.file → Bound T maps
unfolding arg_for
bound {T} {maps} {first} t params count args same room filled its_name its_span its_limit its_file =
    let rows : Rows T.call T.maps.call T.table 0 maps.args =
    rw filled (table_rows T.call T.maps.call maps.args 0 t args (omega arith)) in
    record {
      its_name = its_name;
      its_span = its_span;
      its_limit = its_limit;
      its_file = its_file;
      finds = λ name {n} e.
          rw (count, ← (else_none (lookup maps.params maps.args n)))
          (search_right T.table name e maps.params maps.args 0 params same rows (nothing refl refl));
    }

-- A definition and a call of it, each where it stands.
pub bound_of : (d : MacroDef) (span : ℕ) (name : Text) (args : CallArgs) (limit file : ℕ) {def call : List ℕ} {l c : Layout} {p q : Place}
    (t : List Argument)
    (h : Inside def l p (flat_def d)) → Inside call c q (flat_call (Call.MacroCall span name args)) → length_args args ≡ length d.params
    → length_args args ≤ length t
    → Bound
    (tapes def call (table_from call c (length_args args) (past (heading_entries 54 span name (length_args args)) q) 0 t)
    (record {
      definition = l;
      call = c;
      params = past (heading_entries 60 d.span d.name (length d.params)) p;
      count = length d.params;
      macro_name = (parts_def d h).its_name;
      call_span = span;
      limit = limit;
      file = file;
    }))
    (maps_of d limit file (Call.MacroCall span name args))
unfolding maps_of
bound_of d span name args limit file t h g same room =
    bound t (parts_def d h).parts.runs.first refl (parts_call span name args g).parts.runs.first same room refl
    (parts_def d h).spelled refl refl refl
