-- Which sheets are opened: the bytes of up to 32 conditions, each behind its length, 65,536 at the most, and no others.
-- Assumes nothing.
use Prim.Native.Nat.{ℕ, zero, suc, ◌+◌, ◌-◌, ◌≤◌, ◌<◌, ◌^◌}
use mathlib.Core.Path.{◌≡◌, refl, sym, ap, subst, ◌∙◌}
use mathlib.Core.List.{List, [], ◌∷◌, ◌++◌}
use mathlib.Core.Bool.{Bool, true, false, ◌&&◌}
use native.Mathlib.Omega.{arith}
use borrow.Author.Tests.{le-leb, leb-true, leb-false, eqb-true, eqb-false, eq-eqb}
use lib.Dec.{leb, eqb}
use lib.ListN.{length, take, drop, length-append, length-take, length-drop, take-append-drop}
use lib.Seq.{take_all, take_at, drop_at, drop-drop}
use Rattle.format.specs.Entry.{le}
use Rattle.format.specs.Tape.{from_le, Bytes}
use Rattle.format.proofs.Accepted.{bytes_drop, le_front}
use Rattle.format.proofs.Encodes.{length_le, from_le_le}
use Rattle.format.proofs.Tests.{and_left, and_right, or_none, or_neither, from_true, is_true}
use Rattle.definition.specs.Answers.{Answer, answer, message_alone, number_alone, registry_answer}
use Rattle.definition.specs.Kept.{Bounded}
use Rattle.definition.proofs.Kept.{registry_bounded, bounded_number_alone}
use Rattle.answer.specs.Matches.{ended}
use Rattle.sheet.specs.Sheet.{conditions_of, sheet_of, size_of, begins_with_one, first_of, width_of, filled_by, over, filled, checked, sheet_number, sheet_open_answer}
use Rattle.sheet.specs.Promises.{IsSheet, SheetsAreOpened, OpenedAreSheets, OpenBounded}
use Rattle.sheet.proofs.Front.{tells_one, one_stands, first_one, width_one}
use Rattle.sheet.proofs.Opening.{check_filled, number_passed, open_registry_refused, open_sheet_refused, open_passes}

-- ------------------------------------------------------------------ a condition behind its length

pub spelled_length : (s c rest : List ℕ) → s ≡ le 4 (length c) ++ (c ++ rest) → length s ≡ 4 + (length c + length rest)
spelled_length s c rest e =
    ap length e ∙ omega (arith, length-append (le 4 (length c)) (c ++ rest), length-append c rest, length_le 4 (length c))

module _ (s c rest : List ℕ) (e : s ≡ le 4 (length c) ++ (c ++ rest)) (short : length c < 256 ^ 4) where
  pub spelled_size : length c ≡ size_of s
  unfolding size_of
  spelled_size =
      sym
      (ap (λ (x : List ℕ). from_le (take 4 x)) e
      ∙ ap from_le (take_at (le 4 (length c)) (c ++ rest) 4 (length_le 4 (length c)))
      ∙ from_le_le 4 (length c) short)

  spelled_behind : drop 4 s ≡ c ++ rest
  spelled_behind = ap (drop 4) e ∙ drop_at (le 4 (length c)) (c ++ rest) 4 (length_le 4 (length c))

  pub spelled_begins : begins_with_one s ≡ true
  spelled_begins =
      sym (tells_one s (size_of s) (omega (arith, spelled_length s c rest e)) refl)
      ∙ le-leb (size_of s) (length s - 4) (omega (arith, spelled_length s c rest e, spelled_size))

  pub spelled_first : first_of s ≡ c
  spelled_first =
      sym (first_one s (length c) spelled_begins spelled_size)
      ∙ ap (take (length c)) spelled_behind
      ∙ take_at c rest (length c) refl

  pub spelled_width : width_of s ≡ 4 + length c
  spelled_width = sym (width_one s (length c) spelled_begins spelled_size)

  pub spelled_rest : drop (width_of s) s ≡ rest
  spelled_rest =
      ap (λ (n : ℕ). drop n s) spelled_width
      ∙ sym (drop-drop (length c) 4 s)
      ∙ ap (drop (length c)) spelled_behind
      ∙ drop_at c rest (length c) refl

-- a list that is shorter than a sheet may be has a length of 4 bytes
pub short_length : {n k : ℕ} → n ≤ k → k ≤ 65536 → n < 256 ^ 4
short_length h k = omega arith

-- the number at the front, as bytes again
front : (s : List ℕ) → Bytes s → 4 ≤ length s → le 4 (size_of s) ≡ take 4 s
unfolding size_of
front s q h = (le_front 4 s h q).0

-- ------------------------------------------------------------------ sheets are opened

conditions_fill : (cs : List (List ℕ)) (s : List ℕ) → s ≡ conditions_of cs → length s ≤ 65536 → filled_by (length cs) s ≡ true
unfolding conditions_of filled_by
conditions_fill [] s e h = eq-eqb (length s) 0 (ap length e)
conditions_fill (c ∷ cs) s e h =
    let whole : length s ≡ 4 + (length c + length (conditions_of cs)) = spelled_length s c (conditions_of cs) e in
    let short : length c < 256 ^ 4 = short_length {k = length s} (omega arith) h in
    let begins = spelled_begins s c (conditions_of cs) e short in
    let behind = spelled_rest s c (conditions_of cs) e short in
    rw (begins, behind) (conditions_fill cs (conditions_of cs) refl (omega arith))

module _ (sheet : List ℕ) (cs : List (List ℕ)) (h : IsSheet sheet cs) where
  few_conditions : length cs < 256 ^ 4
  few_conditions = short_length {k = 32} h.few (omega arith)

  pub counted : length cs ≡ size_of sheet
  unfolding size_of sheet_of
  counted =
      sym
      (ap (λ (x : List ℕ). from_le (take 4 x)) h.spelled
      ∙ ap from_le (take_at (le 4 (length cs)) (conditions_of cs) 4 (length_le 4 (length cs)))
      ∙ from_le_le 4 (length cs) few_conditions)

  pub behind_count : drop 4 sheet ≡ conditions_of cs
  unfolding sheet_of
  behind_count = ap (drop 4) h.spelled ∙ drop_at (le 4 (length cs)) (conditions_of cs) 4 (length_le 4 (length cs))

  pub sheet_length : length sheet ≡ 4 + length (conditions_of cs)
  unfolding sheet_of
  sheet_length = ap length h.spelled ∙ omega (arith, length-append (le 4 (length cs)) (conditions_of cs), length_le 4 (length cs))

  sheet_number_lem : sheet_number sheet ≡ 0
  sheet_number_lem =
      number_passed sheet
      (check_filled sheet h.short (omega (arith, sheet_length)) (omega (arith, counted, h.few)) refl
      (ap (filled_by (size_of sheet)) (take_all (length sheet - 4) (drop 4 sheet) (omega (arith, length-drop 4 sheet)))
      ∙ ap (λ (n : ℕ). filled_by n (drop 4 sheet)) (sym counted)
      ∙ conditions_fill cs (drop 4 sheet) behind_count (omega (arith, length-drop 4 sheet, h.short))))

pub sheets_are_opened : SheetsAreOpened
sheets_are_opened m registry sheet cs e h =
    sym (ap (λ (x : Answer). x.number) (open_passes m registry sheet refl e (sheet_number_lem sheet cs h))) ∙ e

-- ------------------------------------------------------------------ and no others

pub record Filling (n : ℕ) (s : List ℕ) : Type 0 where
  pub conditions : List (List ℕ)
  pub spelled : s ≡ conditions_of conditions
  pub as_many : length conditions ≡ n

no_bytes : (s : List ℕ) → length s ≡ 0 → s ≡ []
no_bytes [] e = refl
no_bytes (b ∷ s) e = absurd (omega arith)

filling : (n : ℕ) (s : List ℕ) → Bytes s → filled_by n s ≡ true → Filling n s
unfolding filled_by conditions_of
filling zero s q e = record { conditions = []; spelled = no_bytes s (eqb-true (length s) 0 e); as_many = refl }
filling (suc n) s q e =
    let begins : begins_with_one s ≡ true = is_true (and_left (begins_with_one s) (filled_by n (drop (width_of s) s)) (from_true e)) in
    let rest : filled_by n (drop (width_of s) s) ≡ true = is_true (and_right (begins_with_one s) (filled_by n (drop (width_of s) s)) (from_true e)) in
    let f = filling n (drop (width_of s) s) (bytes_drop (width_of s) s q) rest in
    let c = take (size_of s) (drop 4 s) in
    let stands : 4 + size_of s ≤ length s = one_stands s begins in
    let long : length c ≡ size_of s = omega (arith, length-take (size_of s) (drop 4 s), length-drop 4 s) in
    let behind : drop (size_of s) (drop 4 s) ≡ drop (width_of s) s =
    drop-drop (size_of s) 4 s ∙ ap (λ (k : ℕ). drop k s) (width_one s (size_of s) begins refl) in
    let size : le 4 (length c) ≡ take 4 s = ap (le 4) long ∙ front s q (omega arith) in
    record {
      conditions = c ∷ f.conditions;
      spelled =
          sym (take-append-drop 4 s)
          ∙ ap (λ (x : List ℕ). x ++ drop 4 s) (sym size)
          ∙ ap (λ (x : List ℕ). le 4 (length c) ++ x) (sym (take-append-drop (size_of s) (drop 4 s)))
          ∙ ap (λ (x : List ℕ). le 4 (length c) ++ (c ++ x)) (behind ∙ f.spelled);
      as_many = ap suc f.as_many;
    }

-- opening gives 0 only if the registry does, and the sheet's own number is 0
module _ (m : ℕ) (registry sheet : List ℕ) (e : (sheet_open_answer m registry sheet).number ≡ 0) where
  built : (registry_answer m registry).number ≡ 0
  built = go (eqb (registry_answer m registry).number 0) refl
    where
      go : (t : Bool) → eqb (registry_answer m registry).number 0 ≡ t → (registry_answer m registry).number ≡ 0
      go true h = eqb-true (registry_answer m registry).number 0 h
      go false h =
          ap (λ (x : Answer). x.number) (open_registry_refused m registry sheet refl (eqb-false (registry_answer m registry).number 0 h)) ∙ e

  passed : sheet_number sheet ≡ 0
  unfolding ended answer number_alone
  passed = go (eqb (sheet_number sheet) 0) refl
    where
      go : (t : Bool) → eqb (sheet_number sheet) 0 ≡ t → sheet_number sheet ≡ 0
      go true h = eqb-true (sheet_number sheet) 0 h
      go false h =
          ap (λ (x : Answer). x.number) (open_sheet_refused m registry sheet refl built refl (eqb-false (sheet_number sheet) 0 h) refl) ∙ e

module _ (s : List ℕ) (e : sheet_number s ≡ 0) where
  not_over : over s ≡ false
  unfolding sheet_number checked
  not_over = go (over s) refl
    where
      go : (t : Bool) → over s ≡ t → over s ≡ false
      go true h = absurd (let z : ◌≡◌ {A = ℕ} 57 0 = sym (rw (sheet_number, checked, h) refl) ∙ e in omega arith)
      go false h = h

  is_filled : filled s ≡ true
  unfolding sheet_number checked
  is_filled = go (filled s) refl
    where
      go : (t : Bool) → filled s ≡ t → filled s ≡ true
      go true h = h
      go false h = absurd (let z : ◌≡◌ {A = ℕ} 2 0 = sym (rw (sheet_number, checked, not_over, h) refl) ∙ e in omega arith)

  has_count : 4 ≤ length s
  unfolding filled
  has_count = leb-true 4 (length s) (is_true (and_left (leb 4 (length s)) (filled_by (size_of s) (drop 4 s)) (from_true is_filled)))

  all_stand : filled_by (size_of s) (drop 4 s) ≡ true
  unfolding filled
  all_stand = is_true (and_right (leb 4 (length s)) (filled_by (size_of s) (drop 4 s)) (from_true is_filled))

  is_short : length s ≤ 65536
  unfolding over
  is_short = omega (arith, leb-false 65537 (length s) (or_none (leb 65537 (length s)) (leb 4 (length s) && leb 33 (size_of s)) not_over))

  has_few : size_of s ≤ 32
  unfolding over
  has_few =
      let many : (leb 4 (length s) && leb 33 (size_of s)) ≡ false =
      or_neither (leb 65537 (length s)) (leb 4 (length s) && leb 33 (size_of s)) not_over in
      let not_many : leb 33 (size_of s) ≡ false = rw (le-leb 4 (length s) has_count) at many in
      omega (arith, leb-false 33 (size_of s) not_many)

  is_sheet : Bytes s → (cs : List (List ℕ)) × IsSheet s cs
  unfolding sheet_of
  is_sheet q =
      let f = filling (size_of s) (drop 4 s) (bytes_drop 4 s q) all_stand in (
        f.conditions,
        record {
          spelled =
              sym (take-append-drop 4 s)
              ∙ ap (λ (x : List ℕ). x ++ drop 4 s) (sym (ap (le 4) f.as_many ∙ front s q has_count))
              ∙ ap (λ (x : List ℕ). le 4 (length f.conditions) ++ x) f.spelled;
          few = omega (arith, f.as_many, has_few);
          short = is_short;
        },
      )

pub opened_are_sheets : OpenedAreSheets
opened_are_sheets m registry sheet q e = (built m registry sheet e, is_sheet sheet (passed m registry sheet e) q)

-- ------------------------------------------------------------------ what opening keeps to

module _ (m : ℕ) (registry sheet : List ℕ) (q : Bytes registry) where
  as_registry : registry_answer m registry ≡ sheet_open_answer m registry sheet → Bounded (message_alone m) 0 (sheet_open_answer m registry sheet)
  as_registry e = subst (Bounded (message_alone m) 0) e (registry_bounded m registry q)

  behind_registry : (registry_answer m registry).number ≡ 0 → (t : Bool) → eqb (sheet_number sheet) 0 ≡ t
      → Bounded (message_alone m) 0 (sheet_open_answer m registry sheet)
  unfolding ended
  behind_registry e true h = as_registry (open_passes m registry sheet refl e (eqb-true (sheet_number sheet) 0 h))
  behind_registry e false h =
      subst (Bounded (message_alone m) 0)
      (open_sheet_refused m registry sheet refl e refl (eqb-false (sheet_number sheet) 0 h) refl)
      (bounded_number_alone (λ (u : Unit {0}). []) (message_alone m) 0 (sheet_number sheet))

  either : (t : Bool) → eqb (registry_answer m registry).number 0 ≡ t → Bounded (message_alone m) 0 (sheet_open_answer m registry sheet)
  either true h = behind_registry (eqb-true (registry_answer m registry).number 0 h) (eqb (sheet_number sheet) 0) refl
  either false h = as_registry (open_registry_refused m registry sheet refl (eqb-false (registry_answer m registry).number 0 h))

pub open_bounded : OpenBounded
open_bounded m registry sheet q = either m registry sheet q (eqb (registry_answer m registry).number 0) refl
