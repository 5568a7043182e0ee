-- Where a part of a condition stands, the check for stray sigils answers what the definition says of it, and nothing is charged.
-- Assumes nothing.
use Rattle.std.proofs.Common.{Result, Ok, Err}
use Prim.Native.Nat.{ℕ, zero, suc, ◌≤◌}
use native.Mathlib.Omega.{arith}
use mathlib.Core.Path.{◌≡◌, refl, sym, ap, subst, ◌∙◌}
use mathlib.Core.List.{List, [], ◌∷◌}
use lib.ListN.{length}
use Rattle.format.specs.Entry.{Text}
use Rattle.format.specs.Ast.{WithinSpec, BinderSlot, TypedBinder, Sigil, Term, NamedArgs, Terms}
use Rattle.format.specs.Flat.{flat_within, flat_slot, flat_type, flat_binders, length_terms, length_fields, flat_term, flat_fields, flat_terms}
use Rattle.format.specs.Limits.{is_node, node_weight, weigh, deep_condition, deep_term, deep_fields, deep_terms}
use Rattle.format.proofs.Deep.{deep_term_lem}
use Rattle.definition.specs.Messages.{stray_within, stray_slot, stray_field}
use Rattle.definition.specs.Outcome.{Refusal, refusal, Outcome, Walk, proceed, ◌>>=◌, ◌>>◌}
use Rattle.definition.specs.Expand.{
  check_concrete_within,
  check_concrete_slot,
  check_concrete_binders,
  check_concrete_term,
  check_concrete_terms,
  check_concrete_fields,
}
use Rattle.nodes.specs.Node.{term_at}
use Rattle.tape.specs.declared.layout.Layout.{Layout}
use Rattle.tape.specs.declared.layout.Place.{Place}
use Rattle.nodes.specs.declared.Sigil.TheVariants as sigil
use Rattle.tape.proofs.Located.{past, Inside, inside_skip}
use Rattle.nodes.proofs.Placed.{
  field_list,
  binder_list,
  parts_list,
  parts_slot,
  parts_within,
  past_type,
  parts_term,
  parts_binders,
  parts_fields,
  parts_terms,
}
use Rattle.tape.proofs.Trees.{passes_term}
use Rattle.messages.specs.Reason.{number_of, message_of}
use Rattle.messages.specs.declared.Reason.{Reason}
use Rattle.messages.specs.declared.Reason.TheVariants.{StrayWithin, StraySlot, StrayField}
use Rattle.messages.specs.declared.Refused.{Refused}
use Rattle.answer.specs.Matches.{RefusalMatches}
use Rattle.walk_state.specs.Reading.{items_in, refused_in, passed_in, past_type_in, past_name_in}
use Rattle.walk_state.proofs.Steps.{Strict, strict_items}
use Rattle.expand_stray.specs.Concrete.{
  concrete_within_in,
  concrete_slot_in,
  concrete_binder_in,
  concrete_binders_in,
  concrete_node_in,
  on_concrete_term,
  concrete_term_in,
  concrete_field_in,
  concrete_fields_in,
}

-- ------------------------------------------------------------------ answers and outcomes

-- The answer x is what the outcome says, of a part of the condition that ends at a place; k was charged before, and still is. The
-- registry's tape is s, laid out as d; the condition's, which the messages name, is t, laid out as c.
pub data StrayMatches (s : List ℕ) (d : Layout) (t : List ℕ) (c : Layout) (k : ℕ) (x : Result Place Refused) (end : Place) : Outcome (Unit {0}) → Type 0 where
  passes : x ≡ Ok end → StrayMatches s d t c k x end (Outcome.done tt k)
  refuses : {f : Refused} {r : Refusal} → x ≡ Err f → RefusalMatches s d t c f r → StrayMatches s d t c k x end (Outcome.refused r k)

module _ {s : List ℕ} {d : Layout} {t : List ℕ} {c : Layout} {k : ℕ} where
  pub starting : {x y : Result Place Refused} {end : Place} {o : Outcome (Unit {0})} → x ≡ y → StrayMatches s d t c k y end o → StrayMatches s d t c k x end o
  starting {x} {y} {end} {o} e h = subst (λ (z : Result Place Refused). StrayMatches s d t c k z end o) (sym e) h

  pub ending : {x : Result Place Refused} {end end' : Place} {o : Outcome (Unit {0})} → end ≡ end' → StrayMatches s d t c k x end' o → StrayMatches s d t c k x end o
  ending {x} {end} {end'} {o} e h = subst (λ (p : Place). StrayMatches s d t c k x p o) (sym e) h

  -- a check after a check: the first refusal stands
  pub chain : (f : Result Place Refused → Result Place Refused) → Strict f → {x : Result Place Refused} {mid end : Place} {o : Outcome (Unit {0})} (m : Walk (Unit {0}))
      → StrayMatches s d t c k x mid o → StrayMatches s d t c k (f (Ok mid)) end (m k) → StrayMatches s d t c k (f x) end (proceed o (λ a. m))
  unfolding proceed
  chain f h m (passes e) q = starting (ap f e) q
  chain f h m (refuses e y) q = refuses (ap f e ∙ h _) y

  -- a way on that refuses nothing
  pub goes_on : (f : Result Place Refused → Result Place Refused) → Strict f → {x : Result Place Refused} {mid end : Place} {o : Outcome (Unit {0})} → StrayMatches s d t c k x mid o
      → f (Ok mid) ≡ Ok end → StrayMatches s d t c k (f x) end o
  goes_on f h (passes e) q = passes (ap f e ∙ q)
  goes_on f h (refuses e y) q = refuses (ap f e ∙ h _) y

  -- a refusal with a message
  stray : {end : Place} (span : ℕ) (reason : Reason) {text : Text} → message_of s d t c reason ≡ text
      → StrayMatches s d t c k (refused_in span reason) end (Outcome.refused (refusal (number_of reason) span text) k)
  unfolding refused_in
  stray span reason e = refuses refl (record { its_number = refl; its_span = refl; its_message = e })

module _ {s : List ℕ} {d : Layout} {t : List ℕ} {c : Layout} where
  -- ------------------------------------------------------------------ withins, slots and binders

  pub within_concrete : (w : WithinSpec) (span k : ℕ) {p : Place} → Inside t c p (flat_within w ∷ [])
      → StrayMatches s d t c k (concrete_within_in t c span (Ok p)) (past (flat_within w ∷ []) p) (check_concrete_within w span k)
  unfolding concrete_within_in check_concrete_within message_of
  within_concrete (WithinSpec.Concrete i) span k h = rw (parts_within (WithinSpec.Concrete i) h) (passes refl)
  within_concrete (WithinSpec.ParamRef n) span k h =
      let v = parts_within (WithinSpec.ParamRef n) h in
      rw v.read (stray span (StrayWithin v.name) (ap stray_within v.spelled))

  pub slot_concrete : (v : BinderSlot) (span k : ℕ) {p : Place} → Inside t c p (flat_slot v ∷ [])
      → StrayMatches s d t c k (concrete_slot_in t c span (Ok p)) (past (flat_slot v ∷ []) p) (check_concrete_slot v span k)
  unfolding concrete_slot_in check_concrete_slot message_of
  slot_concrete (BinderSlot.Name n) span k h = rw (parts_slot (BinderSlot.Name n) h).read (passes refl)
  slot_concrete (BinderSlot.ParamRef n) span k h =
      let v = parts_slot (BinderSlot.ParamRef n) h in
      rw v.read (stray span (StraySlot sigil.Param v.name) (ap (stray_slot Sigil.Param) v.spelled))
  slot_concrete (BinderSlot.BinderRef n) span k h =
      let v = parts_slot (BinderSlot.BinderRef n) h in
      rw v.read (stray span (StraySlot sigil.Binder v.name) (ap (stray_slot Sigil.Binder) v.spelled))

  -- a slot, and its type behind it
  pub binder_concrete : (b : TypedBinder) (span k : ℕ) {p : Place} → Inside t c p (flat_slot b.slot ∷ [])
      → Inside t c (past (flat_slot b.slot ∷ []) p) (flat_type b.ty)
      → StrayMatches s d t c k (concrete_binder_in t c span (Ok p)) (past (flat_type b.ty) (past (flat_slot b.slot ∷ []) p))
      (check_concrete_slot b.slot span k)
  unfolding concrete_binder_in passed_in
  binder_concrete b span k h q = goes_on (past_type_in t c) (λ r. refl) (slot_concrete b.slot span k h) (rw (past_type b.ty q))

  each_binder : (bs : List TypedBinder) (span k : ℕ) {p : Place} → Inside t c p (flat_binders bs)
      → StrayMatches s d t c k (items_in (concrete_binder_in t c span) (length bs) (Ok p)) (past (flat_binders bs) p) (check_concrete_binders bs span k)
  unfolding items_in check_concrete_binders ◌>>◌ ◌>>=◌
  each_binder [] span k h = ending (parts_binders [] h) (passes refl)
  each_binder (b ∷ bs) span k h =
      let runs = parts_binders (b ∷ bs) h in
      let f = concrete_binder_in t c span in
      ending runs.ends
      (chain (items_in f (length bs)) (strict_items f (length bs)) (check_concrete_binders bs span) (binder_concrete b span k runs.first runs.second)
      (each_binder bs span k runs.third))

  -- the list with its count
  pub binders_concrete : (bs : List TypedBinder) (span k : ℕ) {p : Place} → Inside t c p (binder_list bs)
      → StrayMatches s d t c k (concrete_binders_in t c span (Ok p)) (past (binder_list bs) p) (check_concrete_binders bs span k)
  unfolding concrete_binders_in
  binders_concrete bs span k h =
      let list = parts_list (length bs) (flat_binders bs) h in
      rw list.read (ending list.runs.ends (each_binder bs span k list.runs.first))

-- ------------------------------------------------------------------ terms

module _ (s : List ℕ) (d : Layout) (t : List ℕ) (c : Layout) (span k : ℕ) where
  -- f is right about terms that are at most n deep
  abbrev Right : ((Result Place Refused) → Result Place Refused) → ℕ → Type 0
  Right f n =
      (u : Term) (p : Place) → Inside t c p (flat_term u) → deep_term node_weight u ≤ n
      → StrayMatches s d t c k (f (Ok p)) (past (flat_term u) p) (check_concrete_term u span k)

  module _ (f : Result Place Refused → Result Place Refused) (n : ℕ) (R : Right f n) where
    each_term : (us : Terms) {p : Place} → Inside t c p (flat_terms us) → deep_terms node_weight us ≤ n
        → StrayMatches s d t c k (items_in f (length_terms us) (Ok p)) (past (flat_terms us) p) (check_concrete_terms us span k)
    unfolding items_in check_concrete_term ◌>>◌ ◌>>=◌ deep_condition length_terms
    each_term Terms.no_terms h m = ending (parts_terms Terms.no_terms h) (passes refl)
    each_term (Terms.cons_term u us) {p} h m =
        let runs = parts_terms (Terms.cons_term u us) h in
        ending runs.ends
        (chain (items_in f (length_terms us)) (strict_items f (length_terms us)) (check_concrete_terms us span) (R u p runs.first (omega arith))
        (each_term us runs.second (omega arith)))

    term_right : (u : Term) {p : Place} → Inside t c p (flat_term u) → deep_term node_weight u ≤ suc n
        → StrayMatches s d t c k (on_concrete_term t c f span p (term_at t c p)) (past (flat_term u) p) (check_concrete_term u span k)
    unfolding check_concrete_term deep_condition is_node weigh concrete_node_in passed_in message_of
    term_right (Term.Entity ty id) h m = rw (parts_term (Term.Entity ty id) h) (passes refl)
    term_right (Term.Integer v) h m = rw (parts_term (Term.Integer v) h) (passes refl)
    term_right (Term.Decimal x) h m = rw (parts_term (Term.Decimal x) h) (passes refl)
    term_right (Term.String x) h m = rw (parts_term (Term.String x) h) (passes refl)
    term_right (Term.Bool b) h m = rw (parts_term (Term.Bool b) h) (passes refl)
    term_right (Term.ContextField path) h m = rw (parts_term (Term.ContextField path) h) (passes refl)
    term_right (Term.ScopeField path) h m = rw (parts_term (Term.ScopeField path) h) (passes refl)
    term_right (Term.Var name) h m = rw (parts_term (Term.Var name) h).read (passes refl)
    term_right Term.Wildcard h m = rw (parts_term Term.Wildcard h) (passes refl)
    term_right (Term.Array us) h m =
        let i = parts_term (Term.Array us) h in
        rw i.read (ending i.runs.ends (each_term us i.runs.first (omega arith)))
    term_right (Term.Agg a) h m =
        rw ((parts_term (Term.Agg a) h).read, inside_skip h (passes_term (Term.Agg a)) (omega arith)) (passes refl)
    term_right (Term.Arith op a b) h m =
        rw ((parts_term (Term.Arith op a b) h).read, inside_skip h (passes_term (Term.Arith op a b)) (omega arith)) (passes refl)
    term_right (Term.ParamRef name) h m =
        let i = parts_term (Term.ParamRef name) h in
        rw i.read (stray span (StrayField sigil.Param i.name) (ap (stray_field Sigil.Param) i.spelled))
    term_right (Term.BinderRef name) h m =
        let i = parts_term (Term.BinderRef name) h in
        rw i.read (stray span (StrayField sigil.Binder i.name) (ap (stray_field Sigil.Binder) i.spelled))

module _ {s : List ℕ} {d : Layout} {t : List ℕ} {c : Layout} where
  term_concrete : (u : Term) (n span k : ℕ) {p : Place} → Inside t c p (flat_term u) → deep_term node_weight u ≤ n
      → StrayMatches s d t c k (concrete_term_in t c n span (Ok p)) (past (flat_term u) p) (check_concrete_term u span k)
  unfolding concrete_term_in
  term_concrete u zero span k h m = absurd (deep_term_lem u m)
  term_concrete u (suc n) span k h m =
      term_right s d t c span k (concrete_term_in t c n span) n (λ v p q l. term_concrete v n span k q l) u h m

  -- ------------------------------------------------------------------ fields

  each_field : (fs : NamedArgs) (n span k : ℕ) {p : Place} → Inside t c p (flat_fields fs) → deep_fields node_weight fs ≤ n
      → StrayMatches s d t c k (items_in (concrete_field_in t c n span) (length_fields fs) (Ok p)) (past (flat_fields fs) p) (check_concrete_fields fs span k)
  unfolding items_in check_concrete_fields ◌>>◌ ◌>>=◌ deep_condition length_fields past_name_in
  each_field NamedArgs.no_fields n span k h m = ending (parts_fields NamedArgs.no_fields h) (passes refl)
  each_field (NamedArgs.cons_field name u fs) n span k h m =
      let i = parts_fields (NamedArgs.cons_field name u fs) h in
      let f = concrete_field_in t c n span in
      ending i.runs.ends
      (chain (items_in f (length_fields fs)) (strict_items f (length_fields fs)) (check_concrete_fields fs span)
      (starting (ap (concrete_term_in t c n span) (rw i.read)) (term_concrete u n span k i.runs.first (omega arith)))
      (each_field fs n span k i.runs.second (omega arith)))

  -- the list with its count
  pub fields_concrete : (fs : NamedArgs) (n span k : ℕ) {p : Place} → Inside t c p (field_list fs) → deep_fields node_weight fs ≤ n
      → StrayMatches s d t c k (concrete_fields_in t c n span (Ok p)) (past (field_list fs) p) (check_concrete_fields fs span k)
  unfolding concrete_fields_in
  fields_concrete fs n span k h m =
      let list = parts_list (length_fields fs) (flat_fields fs) h in
      rw list.read (ending list.runs.ends (each_field fs n span k list.runs.first m))
