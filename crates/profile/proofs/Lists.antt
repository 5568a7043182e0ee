-- The vector of the conditions that have items to come, in which the innermost is the last, and as it is meant.
-- Assumes nothing.
use Prim.Native.Nat.{ℕ, suc, ◌+◌, ◌-◌}
use mathlib.Core.Path.{◌≡◌, refl, sym, ap, ◌∙◌}
use mathlib.Core.Bool.{Bool, true, false}
use mathlib.Core.List.{List, [], ◌∷◌, ◌++◌, reverse}
use native.Mathlib.Omega.{arith}
use borrow.Author.Tests.{eq-eqb}
use lib.Dec.{leb, eqb, leb→le, le→leb, eqb→eq}
use Rattle.format.proofs.Tests.{same_test, from_true}
use lib.ListN.{length, drop, replicate, length-append}
use Rattle.std.specs.List.{slice_get}
use Rattle.std.proofs.Common.{Some, None}
use Rattle.format.specs.Limits.{is_node, weigh}
use Rattle.de_morgan.proofs.Last.{on_top, last_none, last_some}
use Rattle.profile.specs.Spans.{items_of, is_condition, ends_item, spans_after, nearest, spans_in, Moved}
use Rattle.profile.specs.declared.around.Around.{Around}
use Rattle.profile.specs.declared.around.Head.{Head}

pub nearest_none : (around : List Around) → slice_get around (length around - 1) ≡ None → 0 ≡ nearest (spans_in (reverse around))
unfolding spans_in
nearest_none around e = rw (last_none around e) refl

pub nearest_some : (around : List Around) (a : Around) → slice_get around (length around - 1) ≡ Some a → a.span ≡ nearest (spans_in (reverse around))
unfolding spans_in
nearest_some around a e = rw (last_some around a e) refl

-- one item, and as many more
repeated : (more count span : ℕ) (list : List ℕ) → count ≡ suc more → span ∷ (replicate more span ++ list) ≡ replicate count span ++ list
repeated more count span list e = rw e refl

module _ (around : List Around) where
  pub taken_none : {after : List Around} → slice_get around (length around - 1) ≡ None → after ≡ around
      → Moved around after (drop 1 (spans_in (reverse around))) 0
  unfolding spans_in
  taken_none e h = let none = last_none around e in record { items_are = rw (h, none) refl; few = omega (arith, ap length h) }

  module _ (rest : List Around) (a : Around) (is : around ≡ rest ++ a ∷ []) where
    innermost : reverse around ≡ a ∷ reverse rest
    innermost = ap reverse is ∙ on_top rest a

    one_less : length around ≡ length rest + 1
    one_less = ap length is ∙ length-append rest (a ∷ [])

    pub taken_last : a.more ≡ 0 → Moved around rest (drop 1 (spans_in (reverse around))) 0
    unfolding spans_in
    taken_last e = record { items_are = rw (innermost, e) refl; few = omega (arith, one_less) }

    pub taken_one : (more : ℕ) {after : List Around} → a.more ≡ more + 1 → after ≡ rest ++ record { more = more; span = a.span } ∷ []
        → Moved around after (drop 1 (spans_in (reverse around))) 0
    unfolding spans_in
    taken_one more {after} e h =
        let top : Around = record { more = more; span = a.span } in
        let long : length after ≡ length rest + 1 = ap length h ∙ length-append rest (top ∷ []) in
        let first : reverse after ≡ top ∷ reverse rest = ap reverse h ∙ on_top rest top in
        let items = repeated more a.more a.span (spans_in (reverse rest)) (omega (arith, e)) in
        record { items_are = rw (first, innermost) items; few = omega (arith, long, one_less) }

  pub added_some : (count span more : ℕ) {after : List Around} → count ≡ more + 1 → after ≡ around ++ record { more = more; span = span } ∷ []
      → Moved around after (replicate count span ++ spans_in (reverse around)) 1
  unfolding spans_in
  added_some count span more {after} e h =
      let top : Around = record { more = more; span = span } in
      let long : length after ≡ length around + 1 = ap length h ∙ length-append around (top ∷ []) in
      let first : reverse after ≡ top ∷ reverse around = ap reverse h ∙ on_top around top in
      record { items_are = rw first (repeated more count span (spans_in (reverse around)) (omega (arith, e))); few = omega (arith, long) }

-- at the start the whole is to come
pub started : {a : Around} {none after : List Around} → a.more ≡ 0 → a.span ≡ 0 → none ≡ [] → after ≡ none ++ a ∷ [] → spans_in (reverse after) ≡ 0 ∷ []
unfolding spans_in
started e f n h = rw (h, n, e, f) refl

-- ------------------------------------------------------------------ behind an entry

pub condition_node : (code : ℕ) → is_condition code ≡ true → is_node code ≡ true
unfolding is_condition is_node
condition_node code h = rw h refl

module _ (around : List Around) (e : Head) {b : Bool} (is : b ≡ is_condition e.code) where
  pub passed_condition : {n : ℕ} {left after : List Around} → b ≡ true → Moved around left (drop 1 (spans_in (reverse around))) 0 → n ≡ items_of e.code e.args
      → Moved left after (replicate n e.value ++ spans_in (reverse left)) 1
      → Moved around after (spans_after e (spans_in (reverse around))) (weigh (is_node e.code))
  unfolding spans_after weigh
  passed_condition t taken count added =
      let cond : is_condition e.code ≡ true = sym is ∙ t in
      let node : weigh (is_node e.code) ≡ 1 = rw (condition_node e.code cond) refl in
      record {
        items_are = added.items_are ∙ rw (cond, count, taken.items_are) refl;
        few = omega (arith, node, taken.few, added.few);
      }

  pub passed_end : {after : List Around} {d : Bool} → b ≡ false → d ≡ ends_item e.code → d ≡ true
      → Moved around after (drop 1 (spans_in (reverse around))) 0
      → Moved around after (spans_after e (spans_in (reverse around))) (weigh (is_node e.code))
  unfolding spans_after
  passed_end f ends t taken =
      let cond : is_condition e.code ≡ false = sym is ∙ f in
      let last : ends_item e.code ≡ true = sym ends ∙ t in
      record { items_are = taken.items_are ∙ rw (cond, last) refl; few = omega (arith, taken.few) }

  pub passed_other : {d : Bool} → b ≡ false → d ≡ ends_item e.code → d ≡ false
      → Moved around around (spans_after e (spans_in (reverse around))) (weigh (is_node e.code))
  unfolding spans_after
  passed_other f ends g =
      let cond : is_condition e.code ≡ false = sym is ∙ f in
      let none : ends_item e.code ≡ false = sym ends ∙ g in
      record { items_are = rw (cond, none) refl; few = omega arith }

-- no amount is one of 0 at the most
pub no_amount : (n : ℕ) → eqb n 0 ≡ leb n 0
no_amount n = same_test (λ t. le→leb n 0 (omega (arith, eqb→eq n 0 t))) (λ t. from_true (eq-eqb n 0 (omega (arith, leb→le n 0 t))))
