-- The calls that the loop counts in a condition that stands are those that expansion enters: a clause for each constructor.
-- Assumes nothing.
use Prim.Native.Nat.{ℕ, suc, ◌+◌, ◌-◌, ◌*◌}
use native.Mathlib.Nat.{zero-add, add-zero}
use native.Mathlib.Omega.{arith}
use mathlib.Core.Path.{◌≡◌, refl, sym, ap, ap₂, subst, ◌∙◌}
use mathlib.Core.List.{List, [], ◌∷◌, ◌++◌, append-nil, append_assoc}
use mathlib.Core.Bool.{true, false}
use lib.Dec.{eqb}
use lib.ListN.{length, length-append}
use Rattle.format.specs.Entry.{Text, Entry, entry, text_entry}
use Rattle.format.specs.Ast.{
  TimeUnit,
  Interval,
  WithinSpec,
  BinderSlot,
  BinderType,
  TypedBinder,
  Sigil,
  Condition,
  Term,
  AggExpr,
  Call,
  CallArg,
  CallArgs,
  NamedArgs,
  MacroDef,
}
use Rattle.format.specs.Flat.{flat_texts, flat_unit, flat_interval, flat_within, flat_slot, flat_type, flat_binder, flat_binders, flat_sigil, flat_cmp, flat_arith, flat_bool, length_terms, length_fields, length_args, flat_condition, flat_term, flat_agg, flat_call, flat_arg, flat_args, flat_fields, flat_terms, open_flat}
use Rattle.format.specs.Tape.{condition_root}
use Rattle.format.proofs.Tests.{is_true}
use Rattle.format.proofs.Behind.{terms_count, fields_count}
use Rattle.tape.specs.Layouts.{holds}
use Rattle.tape.specs.declared.layout.Layout.{Layout}
use Rattle.tape.specs.declared.layout.Place.{Place}
use Rattle.tape.proofs.Holding.{holding}
use Rattle.tape.proofs.Located.{past, past_append, Inside, inside_front, inside_back, inside_next, Alone}
use Rattle.tape.proofs.Runs.{place}
use Rattle.registry.specs.declared.rows.Row.{Row}
use Rattle.registry.proofs.Standing.{Indexed}
use Rattle.definition.specs.Calls.{calls_condition, calls_operand, calls_agg, calls_call, calls_arg, calls_args}
use Rattle.definition.specs.Counts.{add_calls}
use Rattle.expand_counts.specs.Counting.{raised_at, passing, few, over_at, brought_by, passed_at, counted_at, count_from, counted_in}
use Rattle.expand_counts.proofs.Adding.{Bounded, add_bounded, add_none, add_swap, add_append}
use Rattle.expand_counts.proofs.Raising.{name_behind, raised_is}
use Rattle.expand_counts.proofs.Items.{From, turn, taken, over_run, Items, no_items, item_terms, item_fields, item_names, few_is, path_is}

module _ (reg : List ℕ) (d : Layout) (rows : List Row) (s : List ℕ) (l : Layout) (defs : List MacroDef) (indexed : Indexed reg d rows defs) where
  abbrev At : ℕ → Place → List ℕ → List ℕ
  At n p ks = From reg d rows s l n p 0 0 ks

  -- behind entries that stand open their calls are counted, and nothing is passed over
  pub record Counted (es : List Entry) (calls : List Text) : Type 0 where
    pub run : (n : ℕ) {p : Place} {ks : List ℕ} → Bounded ks → Inside s l p es → At (length es + n) p ks ≡ At n (past es p) (add_calls defs calls ks)

  none : Counted [] []
  unfolding past
  none =
      record {
        run = λ n {p} {ks} h i. ap₂ (λ (m : ℕ) (js : List ℕ). At m p js) (zero-add n) (sym (add_none defs h));
      }

  infixr 20 ◌then◌
  ◌then◌ : {es fs : List Entry} {xs ys : List Text} → Counted es xs → Counted fs ys → Counted (es ++ fs) (xs ++ ys)
  ◌then◌ {es} {fs} {xs} {ys} a b =
      record {
        run = λ n {p} {ks} h i.
            let m : length (es ++ fs) + n ≡ length es + (length fs + n) = omega (arith, length-append es fs) in
            ap (λ (m : ℕ). At m p ks) m
            ∙ a.run (length fs + n) h (inside_front es fs i)
            ∙ b.run n (add_bounded defs xs h) (inside_back es fs i)
            ∙ ap₂ (At n) (sym (past_append es fs p)) (add_append xs ys defs ks);
      }

  swapped : {es : List Entry} (xs ys : List Text) → Counted es (xs ++ ys) → Counted es (ys ++ xs)
  swapped {es} xs ys a = record { run = λ n {p} {ks} h i. a.run n h i ∙ ap (At n (past es p)) (add_swap xs ys defs ks) }

  -- An entry behind which so many entries are passed over, and then so many items.
  enters : (e : Entry) (os ms : List Entry) {es : List Entry} {calls : List Text} {k : ℕ}
      → ((p : Place) → Inside s l p (e ∷ (os ++ (ms ++ es))) → over_at s l p 0 e.code e.value ≡ length os)
      → ((p : Place) → Inside s l p (e ∷ (os ++ (ms ++ es))) → brought_by 0 e.code e.value ≡ k)
      → eqb e.code 54 ≡ false → Items reg d rows s l ms k → Counted es calls → Counted (e ∷ (os ++ (ms ++ es))) calls
  unfolding past
  enters e os ms {es} {calls} {k} o b c a rest =
      record {
        run = λ n {p} {ks} h i.
            let behind = inside_next e (os ++ (ms ++ es)) i in
            let further = inside_back os (ms ++ es) behind in
            let first : Place = past (e ∷ []) p in
            let left : ℕ = length os + (length ms + (length es + n)) in
            let m : length (e ∷ (os ++ (ms ++ es))) + n ≡ suc (length os + (length ms + (length es + n))) =
            omega (arith, length-append os (ms ++ es), length-append ms es) in
            let items : 0 - 1 + k ≡ k + 0 = omega arith in
            ap (λ (m : ℕ). At m p ks) m
            ∙ taken reg d rows s l left 0 (length os) k ks i (o p i) (b p i) c
            ∙ ap₂ (λ (v j : ℕ). From reg d rows s l left first v j ks) (sym (add-zero (length os))) items
            ∙ over_run reg d rows s l os (length ms + (length es + n)) 0 (k + 0) ks (inside_front os (ms ++ es) behind)
            ∙ a.run (length es + n) 0 ks (inside_front ms es further)
            ∙ rest.run n h (inside_back ms es further)
            ∙ ap (λ (q : Place). At n q (add_calls defs calls ks)) (sym (past_append os (ms ++ es) first ∙ past_append ms es (past os first)));
      }

  -- nothing is passed over behind it
  plain : (e : Entry) {es : List Entry} {calls : List Text} → ((p : Place) → over_at s l p 0 e.code e.value ≡ 0)
      → brought_by 0 e.code e.value ≡ 0 → eqb e.code 54 ≡ false → Counted es calls → Counted (e ∷ es) calls
  plain e o b c rest = enters e [] [] (λ p i. o p) (λ p i. b) c (no_items reg d rows s l) rest

  -- the entries behind it are
  covers : (e : Entry) (os : List Entry) {es : List Entry} {calls : List Text}
      → ((p : Place) → Inside s l p (e ∷ (os ++ es)) → over_at s l p 0 e.code e.value ≡ length os)
      → brought_by 0 e.code e.value ≡ 0 → eqb e.code 54 ≡ false → Counted es calls → Counted (e ∷ (os ++ es)) calls
  covers e os o b c rest = enters e os [] o (λ p i. b) c (no_items reg d rows s l) rest

  -- the items behind it are
  gathers : (e : Entry) (ms : List Entry) {k : ℕ} → ((p : Place) → over_at s l p 0 e.code e.value ≡ 0)
      → ((p : Place) → Inside s l p (e ∷ ms) → brought_by 0 e.code e.value ≡ k) → eqb e.code 54 ≡ false
      → Items reg d rows s l ms k → Counted (e ∷ ms) []
  gathers e ms o b c a =
      subst (λ (os : List Entry). Counted (e ∷ os) []) (append-nil ms)
      (enters e [] ms (λ p i. o p) (λ p i. b p (subst (λ (os : List Entry). Inside s l p (e ∷ os)) (append-nil ms) i)) c a none)

  -- a call's name is counted, and what stands behind its heading
  heading : (span : ℕ) (name : Text) (count : ℕ) {es : List Entry} {calls : List Text} → Counted es calls
      → Counted (entry 54 span ∷ text_entry 40 name ∷ entry 41 count ∷ es) ((name ∷ []) ++ calls)
  unfolding past passed_at counted_at over_at brought_by
  heading span name count {es} {calls} rest =
      record {
        run = λ n {p} {ks} h i.
            let two : List Entry = text_entry 40 name ∷ entry 41 count ∷ [] in
            let behind = inside_next (entry 54 span) (two ++ es) i in
            let first : Place = past (entry 54 span ∷ []) p in
            let m : length (entry 54 span ∷ text_entry 40 name ∷ entry 41 count ∷ es) + n ≡ suc (2 + (length es + n)) = omega arith in
            ap (λ (m : ℕ). At m p ks) m
            ∙ turn reg d rows s l (2 + (length es + n)) (passing 0 0) ks i
            ∙ ap (From reg d rows s l (2 + (length es + n)) first 2 0)
            (ap (λ (u : Text). raised u ks) (name_behind 54 span name (entry 41 count ∷ es) i) ∙ raised_is indexed name h)
            ∙ over_run reg d rows s l two (length es + n) 0 0 (add_calls defs (name ∷ []) ks) (inside_front two es behind)
            ∙ rest.run n (add_bounded defs (name ∷ []) h) (inside_back two es behind)
            ∙ ap (At n (past es (past two first))) (add_append (name ∷ []) calls defs ks);
      }
    where
      raised : Text → List ℕ → List ℕ
      raised u ks = raised_at reg d rows u ks

  -- ------------------------------------------------------------------ parts without trees

  counted_texts : (ts : List Text) → Counted (flat_texts ts) []
  unfolding flat_texts over_at brought_by
  counted_texts [] = none
  counted_texts (t ∷ ts) = plain (text_entry 40 t) (λ p. refl) refl refl (counted_texts ts)

  module _ {es : List Entry} {calls : List Text} (rest : Counted es calls) where
    counted_interval : (i : Interval) → Counted (flat_interval i ∷ es) calls
    unfolding flat_interval flat_unit over_at brought_by
    counted_interval i = go i.unit
      where
        go : (u : TimeUnit) → Counted (entry (flat_unit u) i.amount ∷ es) calls
        go TimeUnit.Seconds = plain (entry 48 i.amount) (λ p. refl) refl refl rest
        go TimeUnit.Minutes = plain (entry 49 i.amount) (λ p. refl) refl refl rest
        go TimeUnit.Hours = plain (entry 50 i.amount) (λ p. refl) refl refl rest
        go TimeUnit.Days = plain (entry 51 i.amount) (λ p. refl) refl refl rest
        go TimeUnit.Weeks = plain (entry 64 i.amount) (λ p. refl) refl refl rest

    counted_within : (w : WithinSpec) → Counted (flat_within w ∷ es) calls
    unfolding flat_within over_at brought_by
    counted_within (WithinSpec.Concrete i) = counted_interval i
    counted_within (WithinSpec.ParamRef n) = plain (text_entry 52 n) (λ p. refl) refl refl rest

    counted_slot : (v : BinderSlot) → Counted (flat_slot v ∷ es) calls
    unfolding flat_slot over_at brought_by
    counted_slot (BinderSlot.Name n) = plain (text_entry 43 n) (λ p. refl) refl refl rest
    counted_slot (BinderSlot.ParamRef n) = plain (text_entry 44 n) (λ p. refl) refl refl rest
    counted_slot (BinderSlot.BinderRef n) = plain (text_entry 45 n) (λ p. refl) refl refl rest

    counted_sigil : (g : Sigil) (n : Text) → Counted (text_entry (flat_sigil g) n ∷ es) calls
    unfolding flat_sigil over_at brought_by
    counted_sigil Sigil.Param n = plain (text_entry 58 n) (λ p. refl) refl refl rest
    counted_sigil Sigil.Binder n = plain (text_entry 59 n) (λ p. refl) refl refl rest

  counted_type : (t : BinderType) → Counted (flat_type t) []
  unfolding flat_type over_at brought_by
  counted_type BinderType.Timepoint = plain (entry 46 0) (λ p. refl) refl refl none
  counted_type (BinderType.Named path) = plain (entry 47 (length path)) (λ p. refl) refl refl (counted_texts path)

  counted_binder : (b : TypedBinder) → Counted (flat_binder b) []
  unfolding flat_binder
  counted_binder b = counted_slot (counted_type b.ty) b.slot

  counted_binders : (bs : List TypedBinder) → Counted (flat_binders bs) []
  unfolding flat_binders
  counted_binders [] = none
  counted_binders (b ∷ bs) = counted_binder b then counted_binders bs

  -- fields with their count: nothing in them is counted
  counted_fields : (fs : NamedArgs) → Counted (entry 41 (length_fields fs) ∷ flat_fields fs) []
  unfolding over_at brought_by
  counted_fields fs =
      gathers (entry 41 (length_fields fs)) (flat_fields fs) (λ p. refl)
      (λ p i. ap (λ (v : ℕ). 2 * v) (few_is (length_fields fs) _ _ i (fields_count fs))) refl (item_fields reg d rows s l fs)

  counted_path : (code : ℕ) (path : List Text) → ((p : Place) → over_at s l p 0 code (length path) ≡ few (length path))
      → brought_by 0 code (length path) ≡ 0 → eqb code 54 ≡ false → Counted (entry code (length path) ∷ flat_texts path) []
  counted_path code path o b c =
      subst (λ (os : List Entry). Counted (entry code (length path) ∷ os) []) (append-nil (flat_texts path))
      (covers (entry code (length path)) (flat_texts path)
      (λ p i. o p ∙ path_is code path (subst (λ (os : List Entry). Inside s l p (entry code (length path) ∷ os)) (append-nil (flat_texts path)) i)) b c none)

  -- ------------------------------------------------------------------ the trees

  mutual
    unfolding open_flat calls_condition over_at brought_by

    pub counted_condition : (c : Condition) → Counted (flat_condition c) (calls_condition c)
    counted_condition (Condition.And sp a b) = plain (entry 1 sp) (λ p. refl) refl refl (counted_condition a then counted_condition b)
    counted_condition (Condition.Or sp a b) = plain (entry 2 sp) (λ p. refl) refl refl (counted_condition a then counted_condition b)
    counted_condition (Condition.Not sp a) = plain (entry 3 sp) (λ p. refl) refl refl (counted_condition a)
    counted_condition (Condition.Formerly sp w a) = plain (entry 4 sp) (λ p. refl) refl refl (counted_within (counted_condition a) w)
    counted_condition (Condition.Previous sp w a) = plain (entry 5 sp) (λ p. refl) refl refl (counted_within (counted_condition a) w)
    counted_condition (Condition.Since sp a w b) =
        plain (entry 6 sp) (λ p. refl) refl refl (counted_condition a then counted_within (counted_condition b) w)
    counted_condition (Condition.Predicate sp o ns a k fs) =
        let two : List Entry = text_entry 40 a ∷ text_entry 40 k ∷ [] in
        let fields : List Entry = entry 41 (length_fields fs) ∷ flat_fields fs in
        subst (λ (es : List Entry). Counted (entry 7 sp ∷ entry 42 o ∷ entry 41 (length ns) ∷ es) []) (append_assoc (flat_texts ns) two fields)
        (enters (entry 7 sp) (entry 42 o ∷ []) ((entry 41 (length ns) ∷ flat_texts ns) ++ two) (λ p i. refl) (λ p i. refl) refl
        (item_names reg d rows s l ns a k) (counted_fields fs))
    counted_condition (Condition.Comparison sp op a b) =
        plain (entry 8 sp) (λ p. refl) refl refl (plain (entry 53 (flat_cmp op)) (λ p. refl) refl refl (counted_operand a then counted_operand b))
    counted_condition (Condition.Exists sp b a) = plain (entry 9 sp) (λ p. refl) refl refl (counted_binder b then counted_condition a)
    counted_condition (Condition.Tp sp v) = plain (entry 10 sp) (λ p. refl) refl refl (counted_slot none v)
    counted_condition (Condition.ConditionCall sp c) = plain (entry 11 sp) (λ p. refl) refl refl (counted_call c)
    counted_condition (Condition.SigilRef sp g n) = plain (entry 12 sp) (λ p. refl) refl refl (counted_sigil none g n)
    counted_condition (Condition.Refine sp o a fs) =
        subst (Counted (flat_condition (Condition.Refine sp o a fs))) (append-nil (calls_condition a))
        (plain (entry 13 sp) (λ p. refl) refl refl (plain (entry 42 o) (λ p. refl) refl refl (counted_condition a then counted_fields fs)))

    counted_operand : (t : Term) → Counted (flat_term t) (calls_operand t)
    counted_operand (Term.Entity ty id) = covers (entry 20 0) (text_entry 40 ty ∷ text_entry 40 id ∷ []) (λ p i. refl) refl refl none
    counted_operand (Term.Integer n) = plain (entry 21 n) (λ p. refl) refl refl none
    counted_operand (Term.Decimal t) = plain (text_entry 22 t) (λ p. refl) refl refl none
    counted_operand (Term.String t) = plain (text_entry 23 t) (λ p. refl) refl refl none
    counted_operand (Term.Bool b) = plain (entry 24 (flat_bool b)) (λ p. refl) refl refl none
    counted_operand (Term.ContextField path) = counted_path 25 path (λ p. refl) refl refl
    counted_operand (Term.ScopeField path) = counted_path 26 path (λ p. refl) refl refl
    counted_operand (Term.Var n) = plain (text_entry 27 n) (λ p. refl) refl refl none
    counted_operand Term.Wildcard = plain (entry 28 0) (λ p. refl) refl refl none
    counted_operand (Term.Array ts) =
        gathers (entry 29 (length_terms ts)) (flat_terms ts) (λ p. refl) (λ p i. few_is (length_terms ts) _ _ i (terms_count ts)) refl
        (item_terms reg d rows s l ts)
    counted_operand (Term.Agg a) = plain (entry 30 0) (λ p. refl) refl refl (counted_agg a)
    counted_operand (Term.Arith op a b) = plain (entry 31 (flat_arith op)) (λ p. refl) refl refl (counted_operand a then counted_operand b)
    counted_operand (Term.ParamRef n) = plain (text_entry 32 n) (λ p. refl) refl refl none
    counted_operand (Term.BinderRef n) = plain (text_entry 33 n) (λ p. refl) refl refl none

    counted_agg : (a : AggExpr) → Counted (flat_agg a) (calls_agg a)
    counted_agg (AggExpr.Sum sp v bs c) =
        covers (entry 34 sp) (flat_slot v ∷ entry 41 (length bs) ∷ []) (λ p i. refl) refl refl (counted_binders bs then counted_condition c)
    counted_agg (AggExpr.Count sp bs c) =
        covers (entry 35 sp) (entry 41 (length bs) ∷ []) (λ p i. refl) refl refl (counted_binders bs then counted_condition c)
    counted_agg (AggExpr.AggCall sp c) = plain (entry 36 sp) (λ p. refl) refl refl (counted_call c)

    counted_call : (c : Call) → Counted (flat_call c) (calls_call c)
    counted_call (Call.MacroCall sp n args) = swapped (n ∷ []) (calls_args args) (heading sp n (length_args args) (counted_args args))

    counted_arg : (a : CallArg) → Counted (flat_arg a) (calls_arg a)
    counted_arg (CallArg.ConditionArg c) = plain (entry 55 0) (λ p. refl) refl refl (counted_condition c)
    counted_arg (CallArg.TermArg t) = plain (entry 56 0) (λ p. refl) refl refl (counted_operand t)
    counted_arg (CallArg.WithinArg i) = plain (entry 57 0) (λ p. refl) refl refl (counted_interval none i)

    counted_args : (args : CallArgs) → Counted (flat_args args) (calls_args args)
    counted_args CallArgs.no_args = none
    counted_args (CallArgs.cons_arg a rest) = counted_arg a then counted_args rest

-- A condition alone in its layout, and a registry whose rows are its definitions': the counts gain the calls that expansion enters.
pub counted_is : {reg : List ℕ} {d : Layout} {rows : List Row} {s : List ℕ} {l : Layout} {defs : List MacroDef} (c : Condition)
    → Indexed reg d rows defs → Alone condition_root s l c → {ks : List ℕ} → Bounded ks
    → counted_in reg d rows s l ks ≡ add_calls defs (calls_condition c) ks
unfolding counted_in count_from condition_root
counted_is {reg} {d} {rows} {s} {l} {defs} c indexed h {ks} bounded =
    let held : holds s l ≡ true = is_true (holding s l h.inside.run.held) in
    let entries : l.entries ≡ length (flat_condition c) + 0 = h.entries_are ∙ sym (add-zero (length (flat_condition c))) in
    rw held
    (ap (λ (n : ℕ). From reg d rows s l n (place 0 0) 0 0 ks) entries
    ∙ (counted_condition reg d rows s l defs indexed c).run 0 bounded h.inside)
