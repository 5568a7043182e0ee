-- Where a tree stands, the walkers find what the check of the tree says. By induction on the nesting; each node is one clause.
-- Assumes nothing.
use Rattle.std.proofs.Common.{Some, Result, Ok, Err}
use Prim.Native.Nat.{ℕ, zero, suc, ◌≤◌}
use native.Mathlib.Omega.{arith}
use mathlib.Core.Path.{◌≡◌, refl, sym, ap, subst, ◌∙◌}
use mathlib.Core.List.{List, [], ◌∷◌}
use mathlib.Core.Bool.{Bool, true, false}
use mathlib.Core.Option.{none, some}
use lib.ListN.{length}
use Rattle.grammar.specs.Grammar as grammar
use Rattle.format.specs.Entry.{Text}
use Rattle.format.specs.Ast.{WithinSpec, BinderSlot, TypedBinder, Sigil, Condition, Term, AggExpr, NamedArgs, Terms}
use Rattle.format.specs.Flat.{flat_within, flat_slot, flat_type, flat_binders, length_terms, length_fields, flat_condition, flat_term, flat_agg, flat_fields, flat_terms}
use Rattle.format.specs.Limits.{is_node, node_weight, weigh, deep_condition, deep_term, deep_agg, deep_fields, deep_terms}
use Rattle.format.proofs.Deep.{deep_condition_lem, deep_term_lem, deep_agg_lem}
use Rattle.definition.specs.Outcome.{Refusal, refusal}
use Rattle.definition.specs.Messages.{undeclared_parameter}
use Rattle.definition.specs.Check.{
  Verdict,
  ◌and_then◌,
  contains,
  check_param,
  plain_ident_in_body,
  call_in_body,
  check_binder_slot,
  check_binders,
  check_within_in_body,
  check_sigil_ref,
  check_temporal_condition_body,
  check_temporal_term,
  check_temporal_terms,
  check_temporal_fields,
  check_temporal_agg_body,
}
use Rattle.tape.specs.Pick.{pick}
use Rattle.nodes.specs.Node.{span_of, name_at, condition_at, term_at, agg_at}
use Rattle.tape.specs.Scan.{skip_at}
use Rattle.tape.specs.declared.layout.Layout.{Layout}
use Rattle.tape.specs.declared.layout.Place.{Place}
use Rattle.nodes.specs.declared.Name.{Name}
use Rattle.tape.proofs.Located.{past, Inside, inside_skip}
use Rattle.nodes.proofs.Placed.{
  sigil_node,
  field_list,
  binder_list,
  parts_list,
  parts_slot,
  parts_within,
  past_type,
  parts_condition,
  parts_term,
  parts_agg,
  parts_binders,
  parts_fields,
  parts_terms,
}
use Rattle.tape.proofs.Trees.{passes_condition}
use Rattle.messages.specs.Reason.{number_of, message_of}
use Rattle.messages.specs.declared.Reason.{Reason}
use Rattle.messages.specs.declared.Reason.TheVariants.{Undeclared, PlainIdentifier, MacroInMacro}
use Rattle.messages.specs.declared.Refused.{Refused}
use Rattle.answer.specs.Matches.{RefusalMatches}
use Rattle.walk_state.specs.Reading.{after, and_then_in, items_in, refused_in, passed_in, behind_in, past_type_in, past_name_in}
use Rattle.check_parts.specs.Names.{Declaration, plain_in, declared_in, param_in, sigil_in, within_in, slot_in, binder_in, binders_in}
use Rattle.check_walk.specs.Walk.{
  Walkers,
  call_in,
  field_in,
  fields_in,
  since_in,
  condition_node_in,
  term_node_in,
  agg_node_in,
  on_condition,
  on_term,
  on_agg,
  walkers,
}
use Rattle.walk_state.proofs.Steps.{passed_at_lem, Strict, strict_items}

-- ------------------------------------------------------------------ answers and verdicts

-- the answer is what the verdict says, of a tree that ends at a place
pub data Finds (s : List ℕ) (l : Layout) : Result Place Refused → Place → Verdict → Type 0 where
  passes : {x : Result Place Refused} {end : Place} → x ≡ Ok end → Finds s l x end none
  refuses : {x : Result Place Refused} {end : Place} {f : Refused} {r : Refusal} → x ≡ Err f → RefusalMatches s l s l f r → Finds s l x end (some r)

module _ {s : List ℕ} {l : Layout} where
  starting : {x y : Result Place Refused} {end : Place} {v : Verdict} → x ≡ y → Finds s l y end v → Finds s l x end v
  starting {x} {y} {end} {v} e h = subst (λ (z : Result Place Refused). Finds s l z end v) (sym e) h

  pub ending : {x : Result Place Refused} {end end' : Place} {v : Verdict} → end ≡ end' → Finds s l x end' v → Finds s l x end v
  ending {x} {end} {end'} {v} e h = subst (λ (p : Place). Finds s l x p v) (sym e) h

  -- a walk after a walk: the first refusal stands
  chain : (f : Result Place Refused → Result Place Refused) → Strict f → {x : Result Place Refused} {v w : Verdict} {mid end : Place} → Finds s l x mid v → Finds s l (f (Ok mid)) end w
      → Finds s l (f x) end (v and_then w)
  unfolding ◌and_then◌
  chain f h (passes e) k = starting (ap f e) k
  chain f h (refuses e q) k = refuses (ap f e ∙ h _) q

  -- a way on that refuses nothing
  goes_on : (f : Result Place Refused → Result Place Refused) → Strict f → {x : Result Place Refused} {v : Verdict} {mid end : Place} → Finds s l x mid v → f (Ok mid) ≡ Ok end → Finds s l (f x) end v
  goes_on f h (passes e) k = passes (ap f e ∙ k)
  goes_on f h (refuses e q) k = refuses (ap f e ∙ h _) q

  -- the left side of a Since ends where its walk comes and where a skip comes
  behind_right : (left : Place) {mid : Place} {y : Result Place Refused} {v : Verdict} → Finds s l y mid v → skip_at s l left grammar.condition ≡ Some mid → behind_in s l left y ≡ Ok mid
  unfolding behind_in
  behind_right left (passes e) h = rw e
  behind_right left (refuses e q) h = rw e (sym (passed_at_lem h))

  -- the refusal of a within, that of the left side, then the right side
  since_chain : (f : Result Place Refused → Result Place Refused) → Strict f → {x y : Result Place Refused} {u v w : Verdict} {mid right end : Place} → Finds s l x right u → Finds s l y mid v
      → Finds s l (f (Ok right)) end w → Finds s l (f (and_then_in (and_then_in x y) x)) end (u and_then (v and_then w))
  unfolding ◌and_then◌
  since_chain f h {y = y} {right = right} (passes e) (passes q) k =
      starting (ap (λ (z : Result Place Refused). f (and_then_in (and_then_in z y) z)) e ∙ ap (λ (z : Result Place Refused). f (and_then_in z (Ok right))) q) k
  since_chain f h {y = y} {right = right} (passes e) (refuses q m) k =
      refuses (ap (λ (z : Result Place Refused). f (and_then_in (and_then_in z y) z)) e ∙ ap (λ (z : Result Place Refused). f (and_then_in z (Ok right))) q ∙ h _) m
  since_chain f h {y = y} (refuses e q) m k = refuses (ap (λ (z : Result Place Refused). f (and_then_in (and_then_in z y) z)) e ∙ h _) q

-- ------------------------------------------------------------------ what is declared

module _ (s : List ℕ) (d : Declaration) (names : List Text) (declared : declared_in s d ≡ names) where
  refuses_as : {end : Place} {x : Result Place Refused} {span : ℕ} (reason : Reason) {r : Refusal} → x ≡ refused_in span reason → number_of reason ≡ r.number → span ≡ r.span
      → message_of s d.layout s d.layout reason ≡ r.message → Finds s d.layout x end (some r)
  unfolding refused_in
  refuses_as reason e n p m = refuses e (record { its_number = n; its_span = ap span_of p; its_message = m })

  param_right : {n : Text} (span : ℕ) (name : Name) {next : Place} → name_at s d.layout name ≡ n
      → Finds s d.layout (param_in s d span name next) next (check_param names n span)
  unfolding param_in check_param message_of
  param_right {n} span name {next} e = rw (declared, e) (go (contains names n))
    where
      go : (b : Bool) → Finds s d.layout (pick b (Ok next) (refused_in span (Undeclared name d.params))) next
          (elim b [ true ↦ none | false ↦ some (refusal 20 span (undeclared_parameter n names)) ])
      go true = passes refl
      go false = refuses_as (Undeclared name d.params) refl refl refl (rw (declared, e))

  plain_right : {n : Text} (span : ℕ) (name : Name) {end : Place} → name_at s d.layout name ≡ n
      → Finds s d.layout (plain_in name span) end (plain_ident_in_body n span)
  unfolding plain_ident_in_body message_of
  plain_right span name e = refuses_as (PlainIdentifier name) refl refl refl (rw e)

  call_right : (span : ℕ) {end : Place} → Finds s d.layout (call_in span) end (call_in_body span)
  unfolding call_in_body message_of
  call_right span = refuses_as MacroInMacro refl refl refl refl

  sigil_right : (g : Sigil) {n : Text} (span : ℕ) (name : Name) {next : Place} → name_at s d.layout name ≡ n
      → Finds s d.layout (sigil_in s d span (sigil_node g) name next) next (check_sigil_ref names g n span)
  unfolding sigil_in check_sigil_ref
  sigil_right Sigil.Param span name e = param_right span name e
  sigil_right Sigil.Binder span name e = passes refl

  within_right : (w : WithinSpec) (span : ℕ) {p : Place} → Inside s d.layout p (flat_within w ∷ [])
      → Finds s d.layout (within_in s d span (Ok p)) (past (flat_within w ∷ []) p) (check_within_in_body names w span)
  unfolding within_in check_within_in_body
  within_right (WithinSpec.Concrete i) span h = rw (parts_within (WithinSpec.Concrete i) h) (passes refl)
  within_right (WithinSpec.ParamRef n) span h =
      let v = parts_within (WithinSpec.ParamRef n) h in
      rw v.read (param_right span v.name v.spelled)

  slot_right : (v : BinderSlot) (span : ℕ) {p : Place} → Inside s d.layout p (flat_slot v ∷ [])
      → Finds s d.layout (slot_in s d span (Ok p)) (past (flat_slot v ∷ []) p) (check_binder_slot names v span)
  unfolding slot_in check_binder_slot
  slot_right (BinderSlot.Name n) span h =
      let v = parts_slot (BinderSlot.Name n) h in
      rw v.read (plain_right span v.name v.spelled)
  slot_right (BinderSlot.ParamRef n) span h =
      let v = parts_slot (BinderSlot.ParamRef n) h in
      rw v.read (param_right span v.name v.spelled)
  slot_right (BinderSlot.BinderRef n) span h = rw (parts_slot (BinderSlot.BinderRef n) h).read (passes refl)

  -- a slot, and its type behind it
  binder_right : (b : TypedBinder) (span : ℕ) {p : Place} → Inside s d.layout p (flat_slot b.slot ∷ [])
      → Inside s d.layout (past (flat_slot b.slot ∷ []) p) (flat_type b.ty)
      → Finds s d.layout (binder_in s d span (Ok p)) (past (flat_type b.ty) (past (flat_slot b.slot ∷ []) p))
      (check_binder_slot names b.slot span)
  unfolding binder_in passed_in
  binder_right b span h k =
      goes_on (past_type_in s d.layout) (λ r. refl) (slot_right b.slot span h) (rw (past_type b.ty k))

  each_binder : (bs : List TypedBinder) (span : ℕ) {p : Place} → Inside s d.layout p (flat_binders bs)
      → Finds s d.layout (items_in (binder_in s d span) (length bs) (Ok p)) (past (flat_binders bs) p) (check_binders names bs span)
  unfolding items_in check_binders
  each_binder [] span h = ending (parts_binders [] h) (passes refl)
  each_binder (b ∷ bs) span h =
      let runs = parts_binders (b ∷ bs) h in
      ending runs.ends
      (chain (items_in (binder_in s d span) (length bs)) (strict_items (binder_in s d span) (length bs)) (binder_right b span runs.first runs.second)
      (each_binder bs span runs.third))

  binders_right : (bs : List TypedBinder) (span : ℕ) {p : Place} → Inside s d.layout p (binder_list bs)
      → Finds s d.layout (binders_in s d span (Ok p)) (past (binder_list bs) p) (check_binders names bs span)
  unfolding binders_in
  binders_right bs span h =
      let list = parts_list (length bs) (flat_binders bs) h in
      rw list.read (ending list.runs.ends (each_binder bs span list.runs.first))

  -- ------------------------------------------------------------------ trees

  -- the walkers are right about trees that are at most n deep
  pub record Right (W : Walkers) (n : ℕ) : Type 0 where
    pub condition : (c : Condition) {p : Place} → Inside s d.layout p (flat_condition c) → deep_condition node_weight c ≤ n
        → Finds s d.layout (W.condition (Ok p)) (past (flat_condition c) p) (check_temporal_condition_body names c)
    pub term : (t : Term) (span : ℕ) {p : Place} → Inside s d.layout p (flat_term t) → deep_term node_weight t ≤ n
        → Finds s d.layout (W.term span (Ok p)) (past (flat_term t) p) (check_temporal_term names t span)
    pub agg : (a : AggExpr) {p : Place} → Inside s d.layout p (flat_agg a) → deep_agg node_weight a ≤ n
        → Finds s d.layout (W.agg (Ok p)) (past (flat_agg a) p) (check_temporal_agg_body names a)
    pub strict_condition : Strict W.condition
    pub strict_term : (span : ℕ) → Strict (W.term span)

  module _ (W : Walkers) (n : ℕ) (R : Right W n) where
    each_term : (ts : Terms) (span : ℕ) {p : Place} → Inside s d.layout p (flat_terms ts) → deep_terms node_weight ts ≤ n
        → Finds s d.layout (items_in (W.term span) (length_terms ts) (Ok p)) (past (flat_terms ts) p) (check_temporal_terms names ts span)
    unfolding items_in check_temporal_condition_body deep_condition length_terms
    each_term Terms.no_terms span h m = ending (parts_terms Terms.no_terms h) (passes refl)
    each_term (Terms.cons_term t ts) span h m =
        let runs = parts_terms (Terms.cons_term t ts) h in
        ending runs.ends
        (chain (items_in (W.term span) (length_terms ts)) (strict_items (W.term span) (length_terms ts)) (R.term t span runs.first (omega arith))
        (each_term ts span runs.second (omega arith)))

    each_field : (fs : NamedArgs) (span : ℕ) {p : Place} → Inside s d.layout p (flat_fields fs) → deep_fields node_weight fs ≤ n
        → Finds s d.layout (items_in (field_in s d W span) (length_fields fs) (Ok p)) (past (flat_fields fs) p) (check_temporal_fields names fs span)
    unfolding items_in check_temporal_condition_body deep_condition length_fields past_name_in
    each_field NamedArgs.no_fields span h m = ending (parts_fields NamedArgs.no_fields h) (passes refl)
    each_field (NamedArgs.cons_field name t fs) span h m =
        let i = parts_fields (NamedArgs.cons_field name t fs) h in
        let f = field_in s d W span in
        ending i.runs.ends
        (chain (items_in f (length_fields fs)) (strict_items f (length_fields fs))
        (starting (ap (W.term span) (rw i.read)) (R.term t span i.runs.first (omega arith)))
        (each_field fs span i.runs.second (omega arith)))

    fields_right : (fs : NamedArgs) (span : ℕ) {p : Place} → Inside s d.layout p (field_list fs) → deep_fields node_weight fs ≤ n
        → Finds s d.layout (fields_in s d W span (Ok p)) (past (field_list fs) p) (check_temporal_fields names fs span)
    unfolding fields_in
    fields_right fs span h m =
        let list = parts_list (length_fields fs) (flat_fields fs) h in
        rw list.read (ending list.runs.ends (each_field fs span list.runs.first m))

    strict_fields : (span : ℕ) → Strict (fields_in s d W span)
    unfolding fields_in
    strict_fields span r = refl

    condition_right : (c : Condition) (p : Place) → Inside s d.layout p (flat_condition c) → deep_condition node_weight c ≤ suc n
        → Finds s d.layout (on_condition s d W (condition_at s d.layout p)) (past (flat_condition c) p) (check_temporal_condition_body names c)
    unfolding check_temporal_condition_body deep_condition is_node weigh condition_node_in since_in
    condition_right (Condition.And sp a b) p h m =
        let i = parts_condition (Condition.And sp a b) h in
        rw i.read (ending i.runs.ends
        (chain W.condition R.strict_condition (R.condition a i.runs.first (omega arith)) (R.condition b i.runs.second (omega arith))))
    condition_right (Condition.Or sp a b) p h m =
        let i = parts_condition (Condition.Or sp a b) h in
        rw i.read (ending i.runs.ends
        (chain W.condition R.strict_condition (R.condition a i.runs.first (omega arith)) (R.condition b i.runs.second (omega arith))))
    condition_right (Condition.Not sp a) p h m =
        let i = parts_condition (Condition.Not sp a) h in
        rw i.read (ending i.runs.ends (R.condition a i.runs.first (omega arith)))
    condition_right (Condition.Formerly sp w a) p h m =
        let i = parts_condition (Condition.Formerly sp w a) h in
        rw i.read (ending i.runs.ends
        (chain W.condition R.strict_condition (within_right w sp i.runs.first) (R.condition a i.runs.second (omega arith))))
    condition_right (Condition.Previous sp w a) p h m =
        let i = parts_condition (Condition.Previous sp w a) h in
        rw i.read (ending i.runs.ends
        (chain W.condition R.strict_condition (within_right w sp i.runs.first) (R.condition a i.runs.second (omega arith))))
    condition_right (Condition.Since sp a w b) p h m =
        let i = parts_condition (Condition.Since sp a w b) h in
        let l = R.condition a i.runs.first (omega arith) in
        let behind = behind_right _ l (inside_skip i.runs.first (passes_condition a) (omega arith)) in
        rw i.read (ending i.runs.ends
        (since_chain W.condition R.strict_condition (starting (ap (within_in s d sp) behind) (within_right w sp i.runs.second)) l
        (R.condition b i.runs.third (omega arith))))
    condition_right (Condition.Predicate sp o ns a k fs) p h m =
        let i = parts_condition (Condition.Predicate sp o ns a k fs) h in
        rw i.read (ending i.runs.ends (fields_right fs sp i.runs.first (omega arith)))
    condition_right (Condition.Comparison sp op a b) p h m =
        let i = parts_condition (Condition.Comparison sp op a b) h in
        rw i.read (ending i.runs.ends
        (chain (W.term sp) (R.strict_term sp) (R.term a sp i.runs.first (omega arith)) (R.term b sp i.runs.second (omega arith))))
    condition_right (Condition.Exists sp b a) p h m =
        let i = parts_condition (Condition.Exists sp b a) h in
        rw i.read (ending i.runs.ends
        (chain W.condition R.strict_condition (binder_right b sp i.runs.first i.runs.second) (R.condition a i.runs.third (omega arith))))
    condition_right (Condition.Tp sp v) p h m =
        let i = parts_condition (Condition.Tp sp v) h in
        rw i.read (ending i.runs.ends (slot_right v sp i.runs.first))
    condition_right (Condition.ConditionCall sp c) p h m = rw (parts_condition (Condition.ConditionCall sp c) h).read (call_right sp)
    condition_right (Condition.SigilRef sp g name) p h m =
        let i = parts_condition (Condition.SigilRef sp g name) h in
        rw i.read (sigil_right g sp i.name i.spelled)
    condition_right (Condition.Refine sp o a fs) p h m =
        let i = parts_condition (Condition.Refine sp o a fs) h in
        rw i.read (ending i.runs.ends
        (chain (fields_in s d W sp) (strict_fields sp) (R.condition a i.runs.first (omega arith)) (fields_right fs sp i.runs.second (omega arith))))

    term_right : (t : Term) (span : ℕ) (p : Place) → Inside s d.layout p (flat_term t) → deep_term node_weight t ≤ suc n
        → Finds s d.layout (on_term s d W span (term_at s d.layout p)) (past (flat_term t) p) (check_temporal_term names t span)
    unfolding check_temporal_condition_body deep_condition is_node weigh term_node_in
    term_right (Term.Entity ty id) span p h m = rw (parts_term (Term.Entity ty id) h) (passes refl)
    term_right (Term.Integer v) span p h m = rw (parts_term (Term.Integer v) h) (passes refl)
    term_right (Term.Decimal t) span p h m = rw (parts_term (Term.Decimal t) h) (passes refl)
    term_right (Term.String t) span p h m = rw (parts_term (Term.String t) h) (passes refl)
    term_right (Term.Bool b) span p h m = rw (parts_term (Term.Bool b) h) (passes refl)
    term_right (Term.ContextField path) span p h m = rw (parts_term (Term.ContextField path) h) (passes refl)
    term_right (Term.ScopeField path) span p h m = rw (parts_term (Term.ScopeField path) h) (passes refl)
    term_right (Term.Var name) span p h m =
        let i = parts_term (Term.Var name) h in
        rw i.read (plain_right span i.name i.spelled)
    term_right Term.Wildcard span p h m = rw (parts_term Term.Wildcard h) (passes refl)
    term_right (Term.Array ts) span p h m =
        let i = parts_term (Term.Array ts) h in
        rw i.read (ending i.runs.ends (each_term ts span i.runs.first (omega arith)))
    term_right (Term.Agg a) span p h m =
        let i = parts_term (Term.Agg a) h in
        rw i.read (ending i.runs.ends (R.agg a i.runs.first (omega arith)))
    term_right (Term.Arith op a b) span p h m =
        let i = parts_term (Term.Arith op a b) h in
        rw i.read (ending i.runs.ends
        (chain (W.term span) (R.strict_term span) (R.term a span i.runs.first (omega arith)) (R.term b span i.runs.second (omega arith))))
    term_right (Term.ParamRef name) span p h m =
        let i = parts_term (Term.ParamRef name) h in
        rw i.read (param_right span i.name i.spelled)
    term_right (Term.BinderRef name) span p h m = rw (parts_term (Term.BinderRef name) h).read (passes refl)

    agg_right : (a : AggExpr) (p : Place) → Inside s d.layout p (flat_agg a) → deep_agg node_weight a ≤ suc n
        → Finds s d.layout (on_agg s d W (agg_at s d.layout p)) (past (flat_agg a) p) (check_temporal_agg_body names a)
    unfolding check_temporal_condition_body deep_condition is_node weigh agg_node_in binders_in
    agg_right (AggExpr.Sum sp v bs c) p h m =
        let i = parts_agg (AggExpr.Sum sp v bs c) h in
        rw i.read (ending i.runs.ends
        (chain (λ x. W.condition (binders_in s d sp x)) R.strict_condition (slot_right v sp i.runs.first)
        (chain W.condition R.strict_condition (binders_right bs sp i.runs.second) (R.condition c i.runs.third (omega arith)))))
    agg_right (AggExpr.Count sp bs c) p h m =
        let i = parts_agg (AggExpr.Count sp bs c) h in
        rw i.read (ending i.runs.ends
        (chain W.condition R.strict_condition (binders_right bs sp i.runs.first) (R.condition c i.runs.second (omega arith))))
    agg_right (AggExpr.AggCall sp c) p h m = rw (parts_agg (AggExpr.AggCall sp c) h).read (call_right sp)

  pub right : (n : ℕ) → Right (walkers s d n) n
  unfolding walkers
  right zero =
      record {
        condition = λ c h m. absurd (deep_condition_lem c m);
        term = λ t span h m. absurd (deep_term_lem t m);
        agg = λ a h m. absurd (deep_agg_lem a m);
        strict_condition = λ r. refl;
        strict_term = λ span r. refl;
      }
  right (suc n) =
      record {
        condition = λ c {p} h m. condition_right (walkers s d n) n (right n) c p h m;
        term = λ t span {p} h m. term_right (walkers s d n) n (right n) t span p h m;
        agg = λ a {p} h m. agg_right (walkers s d n) n (right n) a p h m;
        strict_condition = λ r. refl;
        strict_term = λ span r. refl;
      }
