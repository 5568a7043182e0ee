-- One turn of a scan over a slice: what the stack in memory and the next entry say of the scan of what is left.
-- Assumes nothing.
use Rattle.tape.specs.declared.layout.Place.{Place}
use Rattle.std.proofs.Common.{Option, Some, None, slice_get}
use Prim.Native.Nat.{ℕ, zero, suc, ◌+◌, ◌-◌, ◌%◌, ◌≤◌, ◌<◌}
use mathlib.Core.Path.{◌≡◌, refl, sym, ap, ◌∙◌}
use mathlib.Core.Bool.{Bool, true, false, ◌&&◌, ◌||◌, or-true}
use mathlib.Core.List.{List, [], ◌∷◌, ◌++◌}
use native.Mathlib.Omega.{arith}
use lib.ListN.{length, drop}
use borrow.Author.Tests.{lt-ltb}
use lib.Dec.{leb, eqb, leb→le}
use Rattle.format.specs.Entry.{Text, Entry}
use Rattle.format.specs.Stands.{part}
use Rattle.format.specs.Utf8.{follow, between, well_formed}
use Rattle.grammar.specs.Words.{Rules, in_sort, follows_of}
use Rattle.tape.specs.Layouts.{head_at, entries_at, width_by}
use Rattle.tape.specs.Pick.{pick}
use Rattle.grammar.specs.Waits.{Wait, wait, valued, counted, accepts, below, exceeds}
use Rattle.tape.specs.Scan.{scan_of, text_passes}
use Rattle.grammar.specs.Stack.{cell, wait_of, waits_of, stack_of}
use Rattle.grammar.specs.declared.stack.Cell.{Cell}
use Rattle.tape.specs.declared.layout.Layout.{Layout}
use Rattle.grammar.specs.declared.entry.Head.{Head}
use Rattle.grammar.proofs.Cells.{top_wait}
use Rattle.std.proofs.lemmas.List.{nil_from_length}
use Rattle.tape.specs.Turn.{CanTurn, TurnedOn, Turned}
use Rattle.format.proofs.Tests.{and_left, and_right, from_true}

pub length_entries : (g : Rules) (s : List ℕ) (l : Layout) (at txt n : ℕ) → length (entries_at g s l at txt n) ≡ n
length_entries g s l at txt zero = refl
length_entries g s l at txt (suc n) = ap suc (length_entries g s l (at + 1) (txt + width_by g s l at) n)

-- an entry that was let in has its count's entries behind it, and its text is there
pub let_in : (left room : ℕ) (e : Head) → accepts left room e ≡ true
    → (counted (follows_of e.follows) e.value ≤ left) × (e.text ≤ room)
let_in left room e h =
    let t = and_right (valued e.row.values e.value) _ (and_right (in_sort e.sort e.code) _ (from_true h)) in
    let few = leb (counted (follows_of e.follows) e.value) left in
    (leb→le _ _ (and_left few _ t), leb→le _ _ (and_right few _ t))

-- a text of no bytes passes
pub nothing_passes : (longest : ℕ) (t : Text) → t ≡ [] → text_passes longest t ≡ true
unfolding well_formed follow between
nothing_passes longest t e = rw (e, or-true (eqb longest 0))

-- a stack with a scan's root alone
pub first_waits : (sort : ℕ) → sort < 32 → stack_of (cell sort 0 0 0 ∷ []) ≡ wait sort 0 0 ∷ []
unfolding waits_of
first_waits sort g = rw (lt-ltb sort 64 (omega arith))

module _ (g : Rules) (longest : ℕ) (s : List ℕ) (l : Layout) (stack : List Cell) (at text : ℕ) (over : Bool) where
  abbrev scanned : Option (Place × Bool)
  scanned = scan_of g longest l.size (entries_at g s l at text (l.entries - at)) (stack_of stack) at text over

  module _ (c : Cell) (is_top : slice_get stack (length stack - 1) ≡ Some c) (some_cell : 0 < length stack) where
    -- something is waited for, and the entries are used up
    used_up : at ≡ l.entries → scanned ≡ None
    used_up h =
        let z : l.entries - at ≡ 0 = omega arith in
        rw (z, top_wait stack c is_top some_cell)

    module _ (in_entries : at < l.entries) where
      abbrev e : Head
      e = head_at g s l (c.word % 64) at

      abbrev lets_in : Bool
      lets_in = accepts (l.entries - at - 1) (l.size - text) e

      abbrev its_text : Bool
      its_text = text_passes longest (part s (l.text + text) e.text)

      abbrev onward : Option (Place × Bool)
      onward =
          scan_of g longest l.size (entries_at g s l (at + 1) (text + e.text) (l.entries - (at + 1)))
          (below longest (wait_of c) e ++ drop 1 (stack_of stack))
          (at + 1) (text + e.text) (over || exceeds longest (wait_of c) e)

      turn : scanned ≡ pick (lets_in && its_text) onward None
      turn =
          let n : l.entries - at ≡ suc (l.entries - (at + 1)) = omega arith in
          let left : l.entries - at - 1 ≡ length (entries_at g s l (at + 1) (text + e.text) (l.entries - (at + 1))) =
          omega (arith, length_entries g s l (at + 1) (text + e.text) (l.entries - (at + 1))) in
          rw (left, n, top_wait stack c is_top some_cell)

      refused : lets_in ≡ false → scanned ≡ None
      refused h = turn ∙ ap (λ (b : Bool). pick (b && its_text) onward None) h

      text_refused : its_text ≡ false → scanned ≡ None
      text_refused h = turn ∙ ap (λ (b : Bool). pick (lets_in && b) onward None) h ∙ never lets_in
        where
          never : (b : Bool) → pick (b && false) onward None ≡ None
          never true = refl
          never false = refl

      goes_on : lets_in ≡ true → its_text ≡ true → scanned ≡ onward
      goes_on h k = turn ∙ ap (λ (b : Bool). pick (b && its_text) onward None) h ∙ ap (λ (b : Bool). pick b onward None) k

-- The same of the head that was read, and of the stack that was left.
module _ (g : Rules) (longest : ℕ) (s : List ℕ) (l : Layout) (stack : List Cell) (at text : ℕ) (c : Cell)
    (turn : CanTurn c stack s l at text) (h : Head) (is_head : h ≡ head_at g s l (c.word % 64) at) where
  pub turn_refused : accepts (l.entries - at - 1) (l.size - text) h ≡ false → Turned g longest s l stack at text None stack
  turn_refused n over =
      refused g longest s l stack at text over c turn.on_top turn.some_cell turn.some_entry
      (ap (λ (k : Head). accepts (l.entries - at - 1) (l.size - text) k) (sym is_head) ∙ n)

  pub turn_unwritten : text_passes longest (part s (l.text + text) h.text) ≡ false → Turned g longest s l stack at text None stack
  turn_unwritten n over =
      text_refused g longest s l stack at text over c turn.on_top turn.some_cell turn.some_entry
      (ap (λ (k : Head). text_passes longest (part s (l.text + text) k.text)) (sym is_head) ∙ n)

  pub turn_taken : accepts (l.entries - at - 1) (l.size - text) h ≡ true → text_passes longest (part s (l.text + text) h.text) ≡ true
      → (more : Bool) → more ≡ exceeds longest (wait_of c) h
      → (after : List Cell) → stack_of after ≡ below longest (wait_of c) h ++ drop 1 (stack_of stack)
      → TurnedOn g longest s l stack at text (text + h.text) more after
  turn_taken n m more is_more after left =
      record {
        text_most = omega (arith, (let_in (l.entries - at - 1) (l.size - text) h n).1, turn.some_text);
        goes_on =
            λ over.
            goes_on g longest s l stack at text over c turn.on_top turn.some_cell turn.some_entry
            (ap (λ (k : Head). accepts (l.entries - at - 1) (l.size - text) k) (sym is_head) ∙ n)
            (ap (λ (k : Head). text_passes longest (part s (l.text + text) k.text)) (sym is_head) ∙ m)
            ∙ ap (λ (k : Head). scan_of g longest l.size (entries_at g s l (at + 1) (text + k.text) (l.entries - (at + 1))) (below longest (wait_of c) k ++ drop 1 (stack_of stack)) (at + 1) (text + k.text) (over || exceeds longest (wait_of c) k)) (sym is_head)
            ∙ ap (λ (ws : List Wait). scan_of g longest l.size (entries_at g s l (at + 1) (text + h.text) (l.entries - (at + 1))) ws (at + 1) (text + h.text) (over || exceeds longest (wait_of c) h)) (sym left)
            ∙ ap (λ (b : Bool). scan_of g longest l.size (entries_at g s l (at + 1) (text + h.text) (l.entries - (at + 1))) (stack_of after) (at + 1) (text + h.text) (over || b)) (sym is_more);
      }

-- A turn of the scan, of which `whole` is the answer.
module _ (g : Rules) (longest : ℕ) (s : List ℕ) (l : Layout) (stack : List Cell) (at text : ℕ) (over : Bool) (whole : Option (Place × Bool))
    (is_whole : scan_of g longest l.size (entries_at g s l at text (l.entries - at)) (stack_of stack) at text over ≡ whole) where
  -- an empty stack ends it
  pub ended : length stack ≤ 0 → Some (record { at = at; text = text }, over) ≡ whole
  ended h =
      let e : stack ≡ [] = nil_from_length stack (omega (arith, h)) in
      sym (go (entries_at g s l at text (l.entries - at))) ∙ ap (λ (k : List Cell). scan_of g longest l.size (entries_at g s l at text (l.entries - at)) (stack_of k) at text over) (sym e) ∙ is_whole
    where
      go : (es : List Entry) → scan_of g longest l.size es [] at text over ≡ Some (record { at = at; text = text }, over)
      go [] = refl
      go (e ∷ es) = refl

  -- something is waited for, and the entries are used up
  pub run_out : (c : Cell) → slice_get stack (length stack - 1) ≡ Some c → 0 < length stack → at ≡ l.entries → None ≡ whole
  run_out c is_top some h = sym (used_up g longest s l stack at text over c is_top some h) ∙ is_whole

  pub stopped : (after : List Cell) → Turned g longest s l stack at text None after → None ≡ whole
  stopped after t = sym (t over) ∙ is_whole

  pub went_on : (behind : ℕ) (more : Bool) (after : List Cell) → Turned g longest s l stack at text (Some (behind, more)) after
      → scan_of g longest l.size (entries_at g s l (at + 1) behind (l.entries - (at + 1))) (stack_of after) (at + 1) behind (over || more) ≡ whole
  went_on behind more after t = sym (t.goes_on over) ∙ is_whole
