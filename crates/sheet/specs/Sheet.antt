-- Document 02, point 13: the house sheet. What a sheet is, what opening one answers, and what each step answers and leaves. All of it is
-- said by the answers of registry and expansion. The theorems are in proofs/Promises.antt and proofs/Exactly.antt.
-- Assumes nothing.
use Rattle.std.specs.Prelude.{ℕ, zero, suc, ◌+◌, ◌-◌, min, List, [], ◌∷◌, ◌++◌, Bool, true, false, ◌&&◌, ◌||◌, leb, eqb, length, take, drop, Result, Ok, Err}
use Rattle.format.specs.Entry.{le}
use Rattle.format.specs.Tape.{from_le}
use Rattle.definition.specs.Answers.{Answer, Buffers, number_alone, tree_answer, message_answer, registry_answer, expand_answer}
use Rattle.definition.specs.Counts.{expand_counts}
use Rattle.sheet.specs.declared.Progress.{Progress}
use Rattle.sheet.specs.declared.SheetFault.{SheetFault}
use Rattle.sheet.specs.declared.SheetFault.TheVariants.{TooLarge, Malformed}

-- ------------------------------------------------------------------ a sheet

-- ".. then for each condition a 4-byte length and its tape"
unfoldable pub conditions_of : List (List ℕ) → List ℕ
conditions_of [] = []
conditions_of (c ∷ cs) = le 4 (length c) ++ (c ++ conditions_of cs)

-- "A sheet is a 4-byte count, .."
unfoldable pub sheet_of : List (List ℕ) → List ℕ
sheet_of cs = le 4 (length cs) ++ conditions_of cs

-- ------------------------------------------------------------------ read from the front

-- the number in the first 4 bytes: a sheet's count, a condition's length
unfoldable pub size_of : List ℕ → ℕ
size_of s = from_le (take 4 s)

-- a condition stands at the front: its length, and that many bytes behind it
unfoldable pub begins_with_one : List ℕ → Bool
begins_with_one s = leb 4 (length s) && leb (size_of s) (length s - 4)

-- That condition. Where there is none it is taken for an empty one, which expansion refuses with 2.
unfoldable pub first_of : List ℕ → List ℕ
first_of s = elim (begins_with_one s) [ true ↦ take (size_of s) (drop 4 s) | false ↦ [] ]

-- how many bytes it takes, its length among them
unfoldable pub width_of : List ℕ → ℕ
width_of s = elim (begins_with_one s) [ true ↦ 4 + size_of s | false ↦ 0 ]

-- so many conditions, and nothing behind them
unfoldable pub filled_by : ℕ → List ℕ → Bool
filled_by zero s = eqb (length s) 0
filled_by (suc n) s = begins_with_one s && filled_by n (drop (width_of s) s)

-- ------------------------------------------------------------------ opening

-- "57 with 0..0 for a count above 32 or a longer sheet": longer than "65,536 bytes at most"
unfoldable pub over : List ℕ → Bool
over sheet = leb 65537 (length sheet) || (leb 4 (length sheet) && leb 33 (size_of sheet))

-- "for a sheet that its count and lengths don't fill exactly"
unfoldable pub filled : List ℕ → Bool
filled sheet = leb 4 (length sheet) && filled_by (size_of sheet) (drop 4 sheet)

-- "57 ..; then 2", as refusals with names
unfoldable pub checked : List ℕ → Result Unit SheetFault
checked sheet = elim (over sheet) [ true ↦ Err TooLarge | false ↦ elim (filled sheet) [ true ↦ Ok tt | false ↦ Err Malformed ] ]

-- the number of a refusal
abbrev pub fault_number : SheetFault → ℕ
fault_number TooLarge = 57
fault_number Malformed = 2

-- .. and 0 where there is none
abbrev pub checked_number : Result Unit SheetFault → ℕ
checked_number (Ok tt) = 0
checked_number (Err f) = fault_number f

unfoldable pub sheet_number : List ℕ → ℕ
sheet_number sheet = checked_number (checked sheet)

-- "after the registry's refusals". The message buffer is the only one, as the registry's.
unfoldable pub sheet_open_answer : (message_length : ℕ) (registry sheet : List ℕ) → Answer
sheet_open_answer m registry sheet =
    elim (eqb (registry_answer m registry).number 0) [
      | true ↦ elim (eqb (sheet_number sheet) 0) [ true ↦ registry_answer m registry | false ↦ message_answer m (number_alone (sheet_number sheet)) ]
      | false ↦ registry_answer m registry
    ]

-- how many conditions there are to go through: as many as the count says, and none of a refused sheet
unfoldable pub conditions_left : (number : ℕ) → List ℕ → ℕ
conditions_left number sheet = elim (eqb number 0) [ true ↦ size_of sheet | false ↦ 0 ]

-- "expands them in order under one budget and one file number": from the first one, behind the count, on
unfoldable pub sheet_open_progress : (message_length : ℕ) (registry sheet : List ℕ) (budget file : ℕ) → Progress
sheet_open_progress m registry sheet budget file =
    record {
      at = 4;
      left = conditions_left (sheet_open_answer m registry sheet).number sheet;
      charged = 0;
      budget = budget;
      file = file;
    }

-- ------------------------------------------------------------------ a step

-- "each with what is left of the budget as its limit". The five numbers may be any: with more charged than the budget nothing is left,
-- and a limit is below 2^32.
unfoldable pub limit_of : Progress → ℕ
limit_of p = min (p.budget - p.charged) 4294967295

-- a file number is at most 65,535
unfoldable pub file_of : Progress → ℕ
file_of p = min p.file 65535

unfoldable pub next_condition : List ℕ → Progress → List ℕ
next_condition sheet p = first_of (drop p.at sheet)

-- the expansion of the next condition
unfoldable pub expansion_answer : Buffers → (registry sheet : List ℕ) → Progress → Answer
expansion_answer b registry sheet p = expand_answer b (limit_of p) (file_of p) registry (next_condition sheet p)

-- .. and the registry state that it hands back
unfoldable pub expansion_counts : Buffers → (registry sheet : List ℕ) → Progress → List ℕ → List ℕ
expansion_counts b registry sheet p counts = expand_counts b (limit_of p) (file_of p) registry (next_condition sheet p) counts

-- When none is left there is nothing to expand: 0, or 1 where a buffer is too short.
unfoldable pub sheet_next_answer : Buffers → (registry sheet : List ℕ) → Progress → Answer
sheet_next_answer b registry sheet p =
    elim (eqb p.left 0) [ true ↦ tree_answer b (number_alone 0) | false ↦ expansion_answer b registry sheet p ]

-- "A refused condition doesn't stop the others, and its charges stay."
unfoldable pub behind_next : Buffers → (registry sheet : List ℕ) → Progress → Progress
behind_next b registry sheet p =
    record {
      at = p.at + width_of (drop p.at sheet);
      left = p.left - 1;
      charged = p.charged + (expansion_answer b registry sheet p).charged;
      budget = p.budget;
      file = p.file;
    }

unfoldable pub sheet_next_progress : Buffers → (registry sheet : List ℕ) → Progress → Progress
sheet_next_progress b registry sheet p = elim (eqb p.left 0) [ true ↦ p | false ↦ behind_next b registry sheet p ]

-- the registry state, handed on
unfoldable pub sheet_next_counts : Buffers → (registry sheet : List ℕ) → Progress → List ℕ → List ℕ
sheet_next_counts b registry sheet p counts =
    elim (eqb p.left 0) [ true ↦ counts | false ↦ expansion_counts b registry sheet p counts ]

-- Whoever unfolds this unfolds every definition of this file.
unfoldable pub open_sheet : Unit {0}
unfolding
    conditions_of sheet_of size_of begins_with_one first_of width_of filled_by over filled checked sheet_number sheet_open_answer conditions_left sheet_open_progress
    limit_of file_of next_condition expansion_answer expansion_counts sheet_next_answer behind_next sheet_next_progress sheet_next_counts
open_sheet = tt
