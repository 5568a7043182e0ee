-- A count of subtrees ends where the scan does, and what one turn of it does.
-- Assumes nothing.
use Rattle.tape.specs.declared.layout.Place.{Place}
use Rattle.std.proofs.Common.{Option, Some, None}
use Prim.Native.Nat.{ℕ, zero, suc, ◌+◌, ◌-◌, ◌<◌}
use mathlib.Core.Path.{◌≡◌, refl, ap, subst}
use mathlib.Core.Bool.{Bool, true, false, ◌&&◌, ◌||◌}
use mathlib.Core.List.{List, [], ◌∷◌, ◌++◌}
use native.Mathlib.Omega.{arith}
use borrow.Author.Tests.{eq-eqb, ne_eqb}
use lib.Dec.{leb, leb→le}
use lib.ListN.{length}
use Rattle.format.specs.Entry.{Entry}
use Rattle.format.proofs.Tests.{and_left, and_right, from_true, is_true}
use Rattle.grammar.specs.Counts.{count_words, step_in}
use Rattle.grammar.specs.Words.{temporal_grammar, in_sort, follows_of}
use Rattle.grammar.specs.Waits.{Wait, waits, head_of, valued, counted, accepts, exceeds, below}
use Rattle.grammar.specs.declared.entry.Head.{Head}
use Rattle.grammar.proofs.Counted.{Counts, step_counts, none_waits, some_waits, width_counts}
use Rattle.tape.specs.Layouts.{code_at, value_at, width_by, entries_at}
use Rattle.tape.specs.Pick.{pick}
use Rattle.tape.specs.Scan.{scan_of}
use Rattle.tape.specs.Skip.{on_counted, count_from}
use Rattle.tape.specs.declared.layout.Layout.{Layout}

-- the sorts that wait
abbrev pub sorts_waiting : List Wait → List ℕ
sorts_waiting [] = []
sorts_waiting (w ∷ st) = w.sort ∷ sorts_waiting st

waiting_append : (n k : ℕ) (ss : List ℕ) (st : List Wait) → sorts_waiting (waits n k ss ++ st) ≡ ss ++ sorts_waiting st
waiting_append n k [] st = refl
waiting_append n k (s ∷ ss) st = ap (λ (l : List ℕ). s ∷ l) (waiting_append n k ss st)

entries_length : (s : List ℕ) (l : Layout) (n at txt : ℕ) → length (entries_at temporal_grammar s l at txt n) ≡ n
entries_length s l zero at txt = refl
entries_length s l (suc n) at txt = ap suc (entries_length s l n (at + 1) (txt + width_by temporal_grammar s l at))

-- what the place behind is, if there is one
abbrev pub EndsAt : Option (Place × Bool) → Option Place → Type 0
EndsAt (Some (p, over)) x = x ≡ Some p
EndsAt None x = Unit {0}

module _ (s : List ℕ) (l : Layout) where
  pub counted_ends : (left : ℕ) {pairs : Bool} {due : ℕ} (st : List Wait) (at text : ℕ) (over : Bool) → Counts pairs due (sorts_waiting st)
      → EndsAt (scan_of temporal_grammar 0 l.size (entries_at temporal_grammar s l at text left) st at text over)
      (count_from count_words s l left due pairs at text)
  counted_ends zero {due = due} [] at text over k = rw (eq-eqb due 0 (none_waits k)) refl
  counted_ends zero (w ∷ st) at text over k = tt
  counted_ends (suc left) {due = due} [] at text over k = rw (eq-eqb due 0 (none_waits k)) refl
  counted_ends (suc left) {pairs} {due} (w ∷ st) at text over k =
      go lets_in refl (λ p d x. counted_ends left {pairs = p} {due = d} (below 0 w first ++ st) (at + 1) (text + first.text) (over || exceeds 0 w first) x)
    where
      code : ℕ
      code = code_at s l at

      value : ℕ
      value = value_at s l at

      first : Head
      first = head_of temporal_grammar w.sort code value

      es : List Entry
      es = entries_at temporal_grammar s l (at + 1) (text + width_by temporal_grammar s l at) left

      lets_in : Bool
      lets_in = accepts (length es) (l.size - text) first && true

      scanned : Option (Place × Bool)
      scanned = scan_of temporal_grammar 0 l.size es (below 0 w first ++ st) (at + 1) (text + first.text) (over || exceeds 0 w first)

      go : (b : Bool) → lets_in ≡ b
          → ((p : Bool) (d : ℕ) → Counts p d (sorts_waiting (below 0 w first ++ st))
          → EndsAt scanned (count_from count_words s l left d p (at + 1) (text + first.text)))
          → EndsAt (pick b scanned None) (count_from count_words s l (suc left) due pairs at text)
      go false e next = tt
      go true e next =
          let a = and_left (accepts (length es) (l.size - text) first) _ (from_true e) in
          let i = in_sort first.sort code in
          let q = and_right i _ a in
          let r = and_right (valued first.row.values value) _ q in
          let more = counted (follows_of first.follows) value in
          let fits = leb→le more (length es) (and_left (leb more (length es)) _ r) in
          let wide = leb→le first.text (l.size - text) (and_right (leb more (length es)) _ r) in
          let same = width_counts code value in
          let step = step_counts left (l.size - text) code value k (is_true (and_left i _ a))
          (omega (arith, fits, entries_length s l left (at + 1) (text + width_by temporal_grammar s l at))) (omega (arith, wide, same)) in
          rw (ne_eqb due 0 (some_waits k), step.steps)
          (subst (λ (n : ℕ). EndsAt scanned (count_from count_words s l left (due - 1 + step.more) step.next (at + 1) (text + n))) same
          (next step.next (due - 1 + step.more) (rw (waiting_append _ _ _ st) step.counts)))

-- ------------------------------------------------------------------ a turn of the count

module _ (g s : List ℕ) (l : Layout) (due : ℕ) (pairs : Bool) (at text : ℕ) where
  pub count_done : (left : ℕ) → due ≡ 0 → count_from g s l left due pairs at text ≡ Some (record { at = at; text = text })
  count_done zero e = rw (eq-eqb due 0 e) refl
  count_done (suc left) e = rw (eq-eqb due 0 e) refl

  -- one entry less
  pub count_step : (due ≡ 0 → ⊥) → at < l.entries → count_from g s l (l.entries - at) due pairs at text
      ≡ on_counted (step_in g (l.entries - at - 1) (l.size - text) pairs (code_at s l at) (value_at s l at))
      (λ more width next. count_from g s l (l.entries - (at + 1)) (due - 1 + more) next (at + 1) (text + width))
  count_step some h =
      let one_less : l.entries - at - 1 ≡ l.entries - (at + 1) = omega arith in
      let left_is : l.entries - at ≡ suc (l.entries - (at + 1)) = omega arith in
      rw (one_less, left_is, ne_eqb due 0 some)
