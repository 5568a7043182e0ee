-- The check of a sheet, its number, and the answers with which one is opened: a law for each way of returning.
-- Assumes nothing.
use Prim.Native.Nat.{ℕ, ◌-◌, ◌≤◌, ◌<◌}
use mathlib.Core.Path.{◌≡◌, refl, sym, ap, ◌∙◌}
use mathlib.Core.List.{List}
use mathlib.Core.Bool.{Bool, true, false}
use native.Mathlib.Omega.{arith}
use borrow.Author.Tests.{lt-leb, le-leb, eq-eqb, ne_eqb}
use lib.Dec.{leb}
use lib.ListN.{length, take, drop, length-drop}
use lib.Seq.{take_all}
use Rattle.format.specs.Tape.{Bytes}
use Rattle.definition.specs.Answers.{Answer, answer, message_alone, number_alone, message_answer, registry_answer}
use Rattle.definition.proofs.Kept.{registry_bounded}
use Rattle.answer.specs.Matches.{ended}
use Rattle.std.specs.Prelude.{Ok, Err}
use Rattle.sheet.specs.declared.SheetFault.{SheetFault}
use Rattle.sheet.specs.declared.SheetFault.TheVariants.{TooLarge, Malformed}
use Rattle.sheet.specs.Sheet.{size_of, filled_by, over, filled, checked, fault_number, checked_number, sheet_number, sheet_open_answer, conditions_left, sheet_open_progress}

-- ------------------------------------------------------------------ the check

module _ (s : List ℕ) where
  pub check_long : 65536 < length s → Err TooLarge ≡ checked s
  unfolding checked over
  check_long h = sym (rw (checked, le-leb 65537 (length s) (omega arith)) refl)

  module _ (short : length s ≤ 65536) where
    module _ (few : length s < 4) where
      few_not_over : over s ≡ false
      unfolding over
      few_not_over = rw (lt-leb 65537 (length s) (omega arith), lt-leb 4 (length s) few) refl

      few_not_filled : filled s ≡ false
      unfolding filled
      few_not_filled = rw (lt-leb 4 (length s) few) refl

      pub check_few : Err Malformed ≡ checked s
      unfolding checked
      check_few = sym (rw (checked, few_not_over, few_not_filled) refl)

    module _ (counted : 4 ≤ length s) where
      pub check_many : 32 < size_of s → Err TooLarge ≡ checked s
      unfolding checked over
      check_many h =
          sym (rw (checked, lt-leb 65537 (length s) (omega arith), le-leb 4 (length s) counted, le-leb 33 (size_of s) (omega arith)) refl)

      module _ (few : size_of s ≤ 32) where
        not_over : over s ≡ false
        unfolding over
        not_over = rw (lt-leb 65537 (length s) (omega arith), le-leb 4 (length s) counted, lt-leb 33 (size_of s) (omega arith)) refl

        told_filled : (t : Bool) → filled_by (size_of s) (drop 4 s) ≡ t → filled s ≡ t
        unfolding filled
        told_filled t e = rw (le-leb 4 (length s) counted) e

        told : {t v : Bool} → t ≡ filled_by (size_of s) (take (length s - 4) (drop 4 s)) → t ≡ v → filled s ≡ v
        told q h =
            let all : take (length s - 4) (drop 4 s) ≡ drop 4 s = take_all (length s - 4) (drop 4 s) (omega (arith, length-drop 4 s)) in
            told_filled _ (ap (filled_by (size_of s)) (sym all) ∙ sym q ∙ h)

        pub check_filled : {t : Bool} → t ≡ filled_by (size_of s) (take (length s - 4) (drop 4 s)) → t ≡ true → Ok tt ≡ checked s
        unfolding checked
        check_filled q h = sym (rw (checked, not_over, told q h) refl)

        pub check_not_filled : {t : Bool} → t ≡ filled_by (size_of s) (take (length s - 4) (drop 4 s)) → t ≡ false → Err Malformed ≡ checked s
        unfolding checked
        check_not_filled q h = sym (rw (checked, not_over, told q h) refl)

-- ------------------------------------------------------------------ the number

pub number_passed : (s : List ℕ) → Ok tt ≡ checked s → sheet_number s ≡ 0
unfolding sheet_number
number_passed s e = ap checked_number (sym e)

pub number_fault : (s : List ℕ) {f : SheetFault} → Err f ≡ checked s → fault_number f ≡ sheet_number s
unfolding sheet_number
number_fault s e = ap checked_number e

pub fault_not_none : (f : SheetFault) → fault_number f ≡ 0 → ⊥
fault_not_none TooLarge e = omega arith
fault_not_none Malformed e = omega arith

-- ------------------------------------------------------------------ the answer

-- a registry that is not refused has a message buffer that is long enough
pub long_message : (m : ℕ) (registry : List ℕ) → (registry_answer m registry).number ≡ 0 → leb 2048 m ≡ true
unfolding registry_answer message_answer answer number_alone
long_message m registry e = go (leb 2048 m) refl e
  where
    go : (t : Bool) → leb 2048 m ≡ t → (registry_answer m registry).number ≡ 0 → t ≡ true
    go true h e = refl
    go false h e = absurd (let z : ◌≡◌ {A = ℕ} 1 0 = rw (message_answer, h) at e in omega arith)

module _ (m : ℕ) (registry sheet : List ℕ) {a : Answer} (e : a ≡ registry_answer m registry) where
  pub open_registry_refused : (a.number ≡ 0 → ⊥) → a ≡ sheet_open_answer m registry sheet
  unfolding sheet_open_answer
  open_registry_refused h =
      e ∙ sym (rw (sheet_open_answer, ne_eqb (registry_answer m registry).number 0 (λ z. h (ap (λ (x : Answer). x.number) e ∙ z))) refl)

  module _ (h : a.number ≡ 0) where
    as_built : (registry_answer m registry).number ≡ 0
    as_built = sym (ap (λ (x : Answer). x.number) e) ∙ h

    pub open_passes : sheet_number sheet ≡ 0 → a ≡ sheet_open_answer m registry sheet
    unfolding sheet_open_answer
    open_passes k =
        e
        ∙ sym (rw (sheet_open_answer, eq-eqb (registry_answer m registry).number 0 as_built, eq-eqb (sheet_number sheet) 0 k) refl)

    pub open_checked : Ok tt ≡ checked sheet → a ≡ sheet_open_answer m registry sheet
    open_checked k = open_passes (number_passed sheet k)

    pub open_sheet_refused : {n : ℕ} {r : Answer} → n ≡ sheet_number sheet → (n ≡ 0 → ⊥) → r ≡ ended (message_alone m) (number_alone n)
        → r ≡ sheet_open_answer m registry sheet
    unfolding sheet_open_answer message_answer ended
    open_sheet_refused q k r =
        r
        ∙ ap (λ (x : ℕ). ended (message_alone m) (number_alone x)) q
        ∙ sym
        (rw (
          sheet_open_answer,
          eq-eqb (registry_answer m registry).number 0 as_built,
          ne_eqb (sheet_number sheet) 0 (λ z. k (q ∙ z)),
          message_answer,
          long_message m registry as_built,
        ) refl)

    -- the message buffer is as long behind the registry's answer as before it
    pub open_fault_behind : Bytes registry → {f : SheetFault} {n : ℕ} {r : Answer} → Err f ≡ checked sheet → n ≡ fault_number f
        → r ≡ ended (message_alone (length a.message)) (number_alone n) → r ≡ sheet_open_answer m registry sheet
    open_fault_behind bytes {f} {n} k q r =
        let long : length a.message ≡ m =
        ap (λ (x : Answer). length x.message) e ∙ (registry_bounded m registry bytes).whole_message in
        open_sheet_refused (q ∙ number_fault sheet k) (λ z. fault_not_none f (sym q ∙ z))
        (r ∙ ap (λ (x : ℕ). ended (message_alone x) (number_alone n)) long)

-- ------------------------------------------------------------------ the state

pub all_left : (n : ℕ) (sheet : List ℕ) {k : ℕ} → n ≡ 0 → k ≡ size_of sheet → k ≡ conditions_left n sheet
unfolding conditions_left
all_left n sheet h e = e ∙ sym (rw (conditions_left, eq-eqb n 0 h) refl)

pub open_progress : (m : ℕ) (registry sheet : List ℕ) (budget file : ℕ) {a : Answer} {left : ℕ} → a ≡ sheet_open_answer m registry sheet
    → left ≡ conditions_left a.number sheet
    → record { at = 4; left = left; charged = 0; budget = budget; file = file } ≡ sheet_open_progress m registry sheet budget file
unfolding sheet_open_progress
open_progress m registry sheet budget file e q =
    ap
    (λ (n : ℕ). record { at = 4; left = n; charged = 0; budget = budget; file = file })
    (q ∙ ap (λ (x : Answer). conditions_left x.number sheet) e)
