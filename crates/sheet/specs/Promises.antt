-- What is promised of the house sheet (document 02, point 13), from what opening and stepping answer. The theorems are in
-- proofs/Promises.antt and proofs/Exactly.antt.
-- Assumes nothing.
use Rattle.std.specs.Prelude.{ℕ, ◌+◌, ◌-◌, ◌≤◌, ◌<◌, ◌^◌, ◌≡◌, List, [], ◌∷◌, map, length}
use Rattle.format.specs.Tape.{Bytes}
use Rattle.definition.specs.Answers.{Answer, Buffers, message_alone, registry_answer, expand_answer}
use Rattle.definition.specs.Counts.{Expansion, counts_of_run}
use Rattle.definition.specs.Kept.{Bounded}
use Rattle.sheet.specs.declared.Progress.{Progress}
use Rattle.sheet.specs.Sheet.{sheet_of, sheet_open_answer, sheet_open_progress, sheet_next_answer, sheet_next_progress, sheet_next_counts}

-- ------------------------------------------------------------------ which sheets are opened

-- "A sheet is a 4-byte count, then for each condition a 4-byte length and its tape, 65,536 bytes at most", "of up to 32 conditions":
-- these are opened, and no others
pub record IsSheet (sheet : List ℕ) (conditions : List (List ℕ)) : Type 0 where
  pub spelled : sheet ≡ sheet_of conditions
  pub few : length conditions ≤ 32
  pub short : length sheet ≤ 65536

abbrev pub SheetsAreOpened : Type 0
SheetsAreOpened =
    (m : ℕ) (registry sheet : List ℕ) (conditions : List (List ℕ)) → (registry_answer m registry).number ≡ 0 → IsSheet sheet conditions
    → (sheet_open_answer m registry sheet).number ≡ 0

abbrev pub OpenedAreSheets : Type 0
OpenedAreSheets =
    (m : ℕ) (registry sheet : List ℕ) → Bytes sheet → (sheet_open_answer m registry sheet).number ≡ 0
    → ((registry_answer m registry).number ≡ 0) × ((conditions : List (List ℕ)) × IsSheet sheet conditions)

-- what every answer keeps to, definition/specs/Kept: nothing is charged, no message is cut, the buffer is as long as it was lent
abbrev pub OpenBounded : Type 0
OpenBounded = (m : ℕ) (registry sheet : List ℕ) → Bytes registry → Bounded (message_alone m) 0 (sheet_open_answer m registry sheet)

-- ------------------------------------------------------------------ steps

-- The answers of steps from a state on, each with buffers of the caller's choice, and the states behind them.
unfoldable pub answers_of : (registry sheet : List ℕ) → List Buffers → Progress → List Answer
answers_of registry sheet [] p = []
answers_of registry sheet (b ∷ bs) p =
    sheet_next_answer b registry sheet p ∷ answers_of registry sheet bs (sheet_next_progress b registry sheet p)

unfoldable pub progress_after : (registry sheet : List ℕ) → List Buffers → Progress → Progress
progress_after registry sheet [] p = p
progress_after registry sheet (b ∷ bs) p = progress_after registry sheet bs (sheet_next_progress b registry sheet p)

unfoldable pub counts_after : (registry sheet : List ℕ) → List Buffers → Progress → List ℕ → List ℕ
counts_after registry sheet [] p counts = counts
counts_after registry sheet (b ∷ bs) p counts =
    counts_after registry sheet bs (sheet_next_progress b registry sheet p) (sheet_next_counts b registry sheet p counts)

-- a step brings the end nearer by one, whatever its answer
abbrev pub OneLessIsLeft : Type 0
OneLessIsLeft = (b : Buffers) (registry sheet : List ℕ) (p : Progress) → 0 < p.left → (sheet_next_progress b registry sheet p).left ≡ p.left - 1

-- ------------------------------------------------------------------ the total

unfoldable pub sum_of_charges : List Answer → ℕ
sum_of_charges [] = 0
sum_of_charges (a ∷ rest) = a.charged + sum_of_charges rest

-- "From a sheet's start to its end the total is the sum of the charges that the answers report, never above the budget": behind any
-- number of steps, those past the end among them
abbrev pub TotalIsTheSum : Type 0
TotalIsTheSum =
    (m : ℕ) (registry sheet : List ℕ) (budget file : ℕ) (bs : List Buffers) →
    let start = sheet_open_progress m registry sheet budget file in
    (progress_after registry sheet bs start).charged ≡ sum_of_charges (answers_of registry sheet bs start)

abbrev pub NeverAboveTheBudget : Type 0
NeverAboveTheBudget =
    (m : ℕ) (registry sheet : List ℕ) → Bytes registry → Bytes sheet → (budget file : ℕ) (bs : List Buffers) →
    sum_of_charges (answers_of registry sheet bs (sheet_open_progress m registry sheet budget file)) ≤ budget

-- the same from any five numbers on: what is charged stays below the budget, or stays as it is
abbrev pub NeverAboveFromAnywhere : Type 0
NeverAboveFromAnywhere =
    (registry sheet : List ℕ) → Bytes registry → Bytes sheet → (b : Buffers) (p : Progress) → p.charged ≤ p.budget
    → (sheet_next_progress b registry sheet p).charged ≤ p.budget

-- ------------------------------------------------------------------ the expansions one after another

-- "expands them in order under one budget and one file number, each with what is left of the budget as its limit"
unfoldable pub expansions_of : (registry : List ℕ) (left file : ℕ) → List Buffers → List (List ℕ) → List Expansion
expansions_of registry left file [] cs = []
expansions_of registry left file (b ∷ bs) [] = []
expansions_of registry left file (b ∷ bs) (c ∷ cs) =
    record { buffers = b; limit = left; file = file; input = c }
    ∷ expansions_of registry (left - (expand_answer b left file registry c).charged) file bs cs

unfoldable pub answer_of : List ℕ → Expansion → Answer
answer_of registry e = expand_answer e.buffers e.limit e.file registry e.input

-- What steps from a state on are, at most as many as there are conditions: these expansions, and as many conditions are left.
pub record GoesThrough (registry sheet : List ℕ) (budget file : ℕ) (conditions : List (List ℕ)) (bs : List Buffers) (start : Progress) : Type 0 where
  pub each_is_an_expansion : answers_of registry sheet bs start ≡ map (answer_of registry) (expansions_of registry budget file bs conditions)
  pub state_is_handed_on :
      (counts : List ℕ) → counts_after registry sheet bs start counts ≡ counts_of_run registry (expansions_of registry budget file bs conditions) counts
  pub as_many_are_left : (progress_after registry sheet bs start).left + length bs ≡ length conditions

abbrev pub ExpandsInOrder : Type 0
ExpandsInOrder =
    (m : ℕ) (registry sheet : List ℕ) (budget file : ℕ) → budget < 2 ^ 32 → file < 2 ^ 16 → (conditions : List (List ℕ)) (bs : List Buffers)
    → (sheet_open_answer m registry sheet).number ≡ 0 → IsSheet sheet conditions → length bs ≤ length conditions
    → GoesThrough registry sheet budget file conditions bs (sheet_open_progress m registry sheet budget file)

-- Whoever unfolds this unfolds every definition of this file.
unfoldable pub open_promises : Unit {0}
unfolding
    answers_of progress_after counts_after sum_of_charges expansions_of answer_of
open_promises = tt
