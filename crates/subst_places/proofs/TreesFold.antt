-- The fold of a refinement: the count of the predicate's fields is raised in place, and of any other condition it is 47.
-- Assumes nothing.
use Rattle.std.proofs.Common.{Option, Some, None}
use Prim.Native.Nat.{ℕ, ◌+◌, ◌≤◌}
use native.Mathlib.Omega.{arith}
use mathlib.Core.Path.{◌≡◌, refl, sym, ap, ◌∙◌}
use mathlib.Core.List.{List, [], ◌∷◌, ◌++◌, append_assoc}
use mathlib.Core.Bool.{Bool, true, false}
use lib.Dec.{leb, ltb}
use lib.ListN.{length, length-append}
use borrow.Author.Tests.{le-leb, lt-ltb}
use Rattle.format.specs.Entry.{Text, Entry, entry, text_entry, text_of}
use Rattle.format.specs.Ast.{Condition, NamedArgs}
use Rattle.format.specs.Flat.{flat_texts, length_fields, flat_condition, flat_fields, flat_term}
use Rattle.format.specs.Macro.{is_code}
use Rattle.format.specs.Tape.{is_text, text_width}
use Rattle.format.proofs.Accepted.{Values64}
use Rattle.format.proofs.All.{all_nil, all_cons, all_tail, all_append, all_left, all_right}
use Rattle.format.proofs.Behind.{length_texts, fields_count}
use Rattle.format.proofs.Stands.{text_append, stands_front, stands_back}
use Rattle.definition.specs.Outcome.{refusal}
use Rattle.definition.specs.Messages.{condition_shape, not_a_predicate}
use Rattle.definition.specs.Substitute.{append_fields, fold_refine}
use Rattle.buffer.proofs.Decides.{both, cases}
use Rattle.tape.specs.Pick.{pick}
use Rattle.tape.specs.Layouts.{area_layout}
use Rattle.nodes.specs.Node.{on_value, expect_at}
use Rattle.tape.specs.declared.layout.Place.{Place}
use Rattle.tape.proofs.Located.{Inside}
use Rattle.nodes.proofs.Entries.{is_expected}
use Rattle.nodes.proofs.Placed.{predicate_head}
use Rattle.tape.proofs.Runs.{place, area_is}
use Rattle.area.specs.Area.{Area, patch_in, fits_area, Within, valued}
use Rattle.area.proofs.Appends.{fits_front}
use Rattle.area.proofs.Patch.{patch_none, within_patch, out_patch}
use Rattle.area.proofs.Room.{fits_decides}
use Rattle.area.proofs.Within.{within_refl}
use Rattle.message_places.specs.Words.{of_code}
use Rattle.messages.specs.Reason.{refused_at, message_of}
use Rattle.messages.specs.declared.Reason.TheVariants.{NotAPredicate}
use Rattle.walk_state.specs.Writing.{going}
use Rattle.subst_places.specs.Parameters.{Tapes}
use Rattle.subst_places.specs.Refines.{add_fields_in, fold_in}
use Rattle.subst_places.proofs.TreesWalk.{Strict, Written, written_held, written_stands, rewritten, RefusalMatchesIn, WalkMatches, writes, stops}
use Rattle.subst_places.proofs.TreesBound.{root_condition}

-- ------------------------------------------------------------------ fields, one list behind another

flat_append : (fs gs : NamedArgs) → flat_fields (append_fields fs gs) ≡ flat_fields fs ++ flat_fields gs
unfolding append_fields flat_condition
flat_append NamedArgs.no_fields gs = refl
flat_append (NamedArgs.cons_field n t fs) gs = rw (flat_append fs gs)
    (ap (λ (l : List Entry). text_entry 40 n ∷ l) (sym (append_assoc (flat_term t) (flat_fields fs) (flat_fields gs))))

count_append : (fs gs : NamedArgs) → length_fields (append_fields fs gs) ≡ length_fields fs + length_fields gs
unfolding append_fields length_fields
count_append NamedArgs.no_fields gs = omega arith
count_append (NamedArgs.cons_field n t fs) gs = omega (arith, count_append fs gs)

-- ------------------------------------------------------------------ the fields that are added

-- nothing is done, or one value is patched
module _ (base count : ℕ) (P : Area) where
  patched_or_not : (M : Area → Type 0) → M P → ((i : ℕ) → M (patch_in i count P)) → M (add_fields_in base count P)
  unfolding add_fields_in
  patched_or_not M none one = test (leb base 1024)
    where
      below : (b : Bool) (i : ℕ) → M (pick b (patch_in i count P) P)
      below true i = one i
      below false i = none

      found : (v : Option (ℕ × Place)) → M (on_value P (λ namespace next. pick (ltb namespace 1024) (patch_in (base + 5 + namespace) count P) P) v)
      found (Some (namespace, next)) = below (ltb namespace 1024) (base + 5 + namespace)
      found None = none

      test : (b : Bool) → M (pick b (on_value P (λ namespace next. pick (ltb namespace 1024) (patch_in (base + 5 + namespace) count P) P)
          (expect_at P.bytes (area_layout P.out.base P.out.n P.out.t) (place (base + 2) 0) 41)) P)
      test true = found (expect_at P.bytes (area_layout P.out.base P.out.n P.out.t) (place (base + 2) 0) 41)
      test false = none

  within_fields : Within P (add_fields_in base count P)
  within_fields = patched_or_not (Within P) within_refl (λ i. within_patch i count P)

  overflowed_fields : P.out.overflowed ≡ true → add_fields_in base count P ≡ P
  overflowed_fields h = patched_or_not (λ (Q : Area). Q ≡ P) refl (λ i. patch_none i count P (λ r. both h r.0.live))

-- ------------------------------------------------------------------ a predicate

module _ (es : List Entry) (s o : ℕ) (ns : List Text) (action kind : Text) (fs gs : NamedArgs) where
  -- what stands before the count of the fields
  abbrev front : List Entry
  front = es ++ (entry 7 s ∷ predicate_head o ns action kind)

  abbrev behind : List Entry
  behind = flat_fields fs ++ flat_fields gs

  -- what stands before the count of the namespace, and behind it
  abbrev heads : List Entry
  heads = es ++ (entry 7 s ∷ entry 42 o ∷ [])

  abbrev rest : List Entry
  rest = flat_texts ns ++ (flat_texts (action ∷ kind ∷ []) ++ (entry 41 (length_fields fs) ∷ behind))

  length_front : length front ≡ length es + 5 + length ns
  unfolding flat_texts
  length_front =
      omega (
        arith,
        length-append es (entry 7 s ∷ predicate_head o ns action kind),
        length-append (flat_texts ns)
            (flat_texts (action ∷ kind ∷ [])),
        length_texts ns,
      )

  by_count : (es ++ flat_condition (Condition.Predicate s o ns action kind fs)) ++ flat_fields gs ≡ front ++
      (entry 41 (length_fields fs) ∷ behind)
  unfolding flat_condition flat_texts
  by_count = simp append_assoc

  by_namespace : front ++ (entry 41 (length_fields fs) ∷ behind) ≡ heads ++ (entry 41 (length ns) ∷ rest)
  by_namespace = simp append_assoc

  folded : front ++ (valued (entry 41 (length_fields fs)) (length_fields fs + length_fields gs) ∷ behind)
      ≡ es ++ flat_condition (Condition.Predicate s o ns action kind (append_fields fs gs))
  unfolding flat_condition flat_texts
  folded = rw (count_append fs gs, flat_append fs gs) (simp append_assoc)

  -- the entries fit, and so do their counts
  module _ {P : Area} (w : Written P (front ++ (entry 41 (length_fields fs) ∷ behind)))
      (fits : fits_area (front ++ (entry 41 (length_fields fs) ∷ behind)) ≡ true) where
    abbrev all : List Entry
    all = front ++ (entry 41 (length_fields fs) ∷ behind)

    room : length es + 6 + length ns + length_fields fs + length_fields gs ≤ 1024
    room =
        omega (
          arith,
          ((fits_decides (length all) (length (text_of all))).holds fits).0,
          length_front,
          length-append front (entry 41 (length_fields fs) ∷ behind),
          length-append (flat_fields fs) (flat_fields gs),
          fields_count fs,
          fields_count gs,
        )

    namespace_stands : Inside P.bytes (area_layout P.out.base P.out.n P.out.t) (place (length es + 2) 0)
        (entry 41 (length ns) ∷ [])
    unfolding text_of text_width is_text is_code
    namespace_stands =
        let at : 0 + length heads ≡ length es + 2 = omega (arith, length-append es (entry 7 s ∷ entry 42 o ∷ [])) in
        let there = stands_front (entry 41 (length ns) ∷ []) rest
        (stands_back heads (entry 41 (length ns) ∷ rest) (rw by_namespace at (written_stands w fits))) in
        let layout = area_is P.out.base P.out.n P.out.t w.near in
        record {
          run =
              record {
                held = written_held w fits;
                stands =
                    record {
                      its_codes = rw at at there.its_codes;
                      its_values = rw at at there.its_values;
                      its_text = record { inside = rw layout (omega (arith, w.out.whole)); spelled = refl };
                    };
                entries_left =
                    rw layout (omega (
                      arith,
                      (w.out.holds fits).entries,
                      length-append front
                          (entry 41 (length_fields fs) ∷ behind),
                      length_front,
                    ));
                text_left = rw layout (omega arith);
                small_values = all_cons {a = entry 41 (length ns)} (omega (arith, room)) all_nil;
              };
          texted = all_cons {a = entry 41 (length ns)} refl all_nil;
        }

    -- the count is found
    fields_added : add_fields_in (length es) (length_fields gs) P ≡ patch_in (length es + 5 + length ns) (length_fields gs) P
    unfolding add_fields_in
    fields_added =
        rw (le-leb (length es) 1024 (omega (arith, room)), is_expected namespace_stands, lt-ltb (length ns) 1024 (omega (arith, room)))

  -- a count takes no text
  same_fits : (v : ℕ) → fits_area (front ++ (entry 41 v ∷ behind)) ≡ fits_area (front ++ (entry 41 (length_fields fs) ∷ behind))
  unfolding text_of
  same_fits v = simp (length-append, text_append)

  fold_written : {P Q : Area} → Written Q es
      → Written P ((es ++ flat_condition (Condition.Predicate s o ns action kind fs)) ++ flat_fields gs)
      → Written (add_fields_in Q.out.n (length_fields gs) P)
      (es ++ flat_condition (Condition.Predicate s o ns action kind (append_fields fs gs)))
  fold_written {P} {Q} q w =
      let e : Entry = entry 41 (length_fields fs) in
      let count = length_fields gs in
      let w' : Written P (front ++ (e ∷ behind)) = rewritten by_count w in
      let out = w'.out in
      let changed = within_fields Q.out.n count P in
      record {
        out =
            rw (← folded)
            (cases (fits_area (front ++ (e ∷ behind)))
            (λ f.
            let at : Q.out.n ≡ length es = (q.out.holds
            (fits_front es _ (rw (append_assoc es (entry 7 s ∷ predicate_head o ns action kind) (e ∷ behind)) at f))).entries in
            rw (at, fields_added w' f)
            (out_patch front e behind (length es + 5 + length ns) count (λ g. (sym length_front, omega (arith, room w' f))) out))
            (λ f.
            rw (
              overflowed_fields Q.out.n count P (out.overflows ∙ rw f refl),
              ←
                  (patch_none 0 count P (λ r. both (out.overflows ∙ rw f refl) r.0.live)),
            )
            (out_patch front e behind 0 count (λ g. absurd (both g f)) out)));
        near = rw changed.base w.near;
        small = λ f.
            let old : fits_area (front ++ (e ∷ behind)) ≡ true = sym (same_fits (length_fields fs + count)) ∙ (rw (← folded) at f) in
            let values : Values64 (front ++ (e ∷ behind)) = w'.small old in
            rw (← folded)
            (all_append (all_left front (e ∷ behind) values)
            (all_cons {a = entry 41 (length_fields fs + count)} (omega (arith, room w' old)) (all_tail (all_right front values))));
      }

-- ------------------------------------------------------------------ the fold

pub strict_fold : (base count span shape : ℕ) → Strict (fold_in base count span shape)
unfolding fold_in
strict_fold base count span shape r k bytes = refl

module _ (T : Tapes) where
  -- the words for a refined condition go by its code
  fold_refusal_matches : (c : Condition) (span : ℕ) → RefusalMatchesIn T (refused_at span (NotAPredicate (root_condition c))) (refusal 47 span (not_a_predicate c))
  unfolding message_of of_code root_condition not_a_predicate condition_shape
  fold_refusal_matches (Condition.And s l r) span = λ t c. record { its_number = refl; its_span = refl; its_message = refl }
  fold_refusal_matches (Condition.Or s l r) span = λ t c. record { its_number = refl; its_span = refl; its_message = refl }
  fold_refusal_matches (Condition.Not s c) span = λ t c. record { its_number = refl; its_span = refl; its_message = refl }
  fold_refusal_matches (Condition.Formerly s w c) span = λ t c. record { its_number = refl; its_span = refl; its_message = refl }
  fold_refusal_matches (Condition.Previous s w c) span = λ t c. record { its_number = refl; its_span = refl; its_message = refl }
  fold_refusal_matches (Condition.Since s l w r) span = λ t c. record { its_number = refl; its_span = refl; its_message = refl }
  fold_refusal_matches (Condition.Predicate s o ns a k fs) span = λ t c. record { its_number = refl; its_span = refl; its_message = refl }
  fold_refusal_matches (Condition.Comparison s op l r) span = λ t c. record { its_number = refl; its_span = refl; its_message = refl }
  fold_refusal_matches (Condition.Exists s b c) span = λ t c. record { its_number = refl; its_span = refl; its_message = refl }
  fold_refusal_matches (Condition.Tp s v) span = λ t c. record { its_number = refl; its_span = refl; its_message = refl }
  fold_refusal_matches (Condition.ConditionCall s c) span = λ t c. record { its_number = refl; its_span = refl; its_message = refl }
  fold_refusal_matches (Condition.SigilRef s g n) span = λ t c. record { its_number = refl; its_span = refl; its_message = refl }
  fold_refusal_matches (Condition.Refine s o c fs) span = λ t c. record { its_number = refl; its_span = refl; its_message = refl }

  pub fold_matches : (c : Condition) (gs : NamedArgs) (span k : ℕ) {shape count : ℕ} {end : Place} {P Q : Area} {es : List Entry}
      → shape ≡ root_condition c → count ≡ length_fields gs → Written Q es → Written P ((es ++ flat_condition c) ++ flat_fields gs)
      → WalkMatches T flat_condition P es (fold_in Q.out.n count span shape (going end k P)) end (fold_refine c gs span k)
  unfolding fold_in fold_refine root_condition
  fold_matches (Condition.Predicate s o ns a kd fs) gs span k {P = P} {Q} {es} e f q w =
      rw (e, f) (writes _ refl (fold_written es s o ns a kd fs gs q w) (within_fields Q.out.n (length_fields gs) P))
  fold_matches (Condition.And s l r) gs span k e f q w = rw e (stops T (fold_refusal_matches (Condition.And s l r) span))
  fold_matches (Condition.Or s l r) gs span k e f q w = rw e (stops T (fold_refusal_matches (Condition.Or s l r) span))
  fold_matches (Condition.Not s c) gs span k e f q w = rw e (stops T (fold_refusal_matches (Condition.Not s c) span))
  fold_matches (Condition.Formerly s v c) gs span k e f q w = rw e (stops T (fold_refusal_matches (Condition.Formerly s v c) span))
  fold_matches (Condition.Previous s v c) gs span k e f q w = rw e (stops T (fold_refusal_matches (Condition.Previous s v c) span))
  fold_matches (Condition.Since s l v r) gs span k e f q w = rw e (stops T (fold_refusal_matches (Condition.Since s l v r) span))
  fold_matches (Condition.Comparison s op l r) gs span k e f q w = rw e (stops T (fold_refusal_matches (Condition.Comparison s op l r) span))
  fold_matches (Condition.Exists s b c) gs span k e f q w = rw e (stops T (fold_refusal_matches (Condition.Exists s b c) span))
  fold_matches (Condition.Tp s v) gs span k e f q w = rw e (stops T (fold_refusal_matches (Condition.Tp s v) span))
  fold_matches (Condition.ConditionCall s c) gs span k e f q w = rw e (stops T (fold_refusal_matches (Condition.ConditionCall s c) span))
  fold_matches (Condition.SigilRef s g n) gs span k e f q w = rw e (stops T (fold_refusal_matches (Condition.SigilRef s g n) span))
  fold_matches (Condition.Refine s o c fs) gs span k e f q w = rw e (stops T (fold_refusal_matches (Condition.Refine s o c fs) span))
