-- Document 02, point 13, as promises over any functions: one that meets `Opens` opens a sheet as ours does, and one that meets `Steps`
-- answers each step and goes on as ours does, on every input and all buffers. They are said by the answers of registry and expansion
-- and the counts that expansion hands back (`expand_counts`, which `CountsUsed` of definition determines), by the bytes of a sheet as the
-- paper spells it, and by nothing of the sheet's own definition but the five numbers of its state.
-- The theorems are in proofs/Opens.antt.
-- Assumes nothing.
use Rattle.std.specs.Prelude.{ℕ, ◌+◌, ◌-◌, ◌≤◌, ◌<◌, min, ◌≡◌, ◌≢◌, ◌⊎◌, List, [], ◌∷◌, ◌++◌, length, drop}
use Rattle.format.specs.Tape.{from_le}
use Rattle.definition.specs.Answers.{Answer, Buffers, message_alone, registry_answer, expand_answer}
use Rattle.definition.specs.Counts.{expand_counts}
use Rattle.definition.specs.Returned.{Gives, RefusesAlone, ShortBuffers, LongBuffers}
use Rattle.sheet.specs.declared.Progress.{Progress}
use Rattle.sheet.specs.Sheet.{sheet_open_answer, sheet_open_progress, sheet_next_answer, sheet_next_progress, sheet_next_counts}

-- ------------------------------------------------------------------ a sheet

-- Bytes that begin with a 4-byte number, little-endian, and what stands behind it.
pub record Begins (s : List ℕ) (n : ℕ) (behind : List ℕ) : Type 0 where
  pub bytes : List ℕ
  pub four : length bytes ≡ 4
  pub number : from_le bytes ≡ n
  pub spelled : s ≡ bytes ++ behind

-- ".. then for each condition a 4-byte length and its tape", and nothing behind the last
pub data Conditions : List (List ℕ) → List ℕ → Type 0 where
  none_left : Conditions [] []
  one : {c : List ℕ} {cs : List (List ℕ)} {s rest : List ℕ} → Begins s (length c) (c ++ rest) → Conditions cs rest → Conditions (c ∷ cs) s

-- "A sheet is a 4-byte count, then for each condition a 4-byte length and its tape": its count and lengths fill it exactly.
pub record Filled (sheet : List ℕ) (conditions : List (List ℕ)) : Type 0 where
  pub behind : List ℕ
  pub count : Begins sheet (length conditions) behind
  pub lengths : Conditions conditions behind

-- "for a count above 32 or a longer sheet", longer than "65,536 bytes at most". A sheet of less than 4 bytes has no count.
pub data Exceeds (sheet : List ℕ) : Type 0 where
  count_above_32 : {n : ℕ} {behind : List ℕ} → Begins sheet n behind → 32 < n → Exceeds sheet
  longer : 65536 < length sheet → Exceeds sheet

-- neither
pub record Within (sheet : List ℕ) : Type 0 where
  pub few : (n : ℕ) (behind : List ℕ) → Begins sheet n behind → n ≤ 32
  pub short : length sheet ≤ 65536

-- ------------------------------------------------------------------ opening

-- the answer, and the state of the sheet's start
abbrev pub Opening : Type 0
Opening = (message_length : ℕ) (registry sheet : List ℕ) (budget file : ℕ) → Answer × Progress

abbrev pub our_opening : Opening
our_opening m registry sheet budget file = (sheet_open_answer m registry sheet, sheet_open_progress m registry sheet budget file)

-- "under one budget and one file number": so many conditions are left, the first one behind the 4 bytes of the count, and nothing is
-- charged
abbrev pub at_the_start : (left budget file : ℕ) → Progress
at_the_start left budget file = record { at = 4; left = left; charged = 0; budget = budget; file = file }

-- The cases in the paper's order, each with what the earlier ones leave. Together they are every input.
pub record Opens (g : Opening) : Type 0 where
  -- "after the registry's refusals": its answer, message and all
  pub registry_refused : (m : ℕ) (registry sheet : List ℕ) (budget file : ℕ) → (registry_answer m registry).number ≢ 0
      → (g m registry sheet budget file).0 ≡ registry_answer m registry
  -- "57 with 0..0 for a count above 32 or a longer sheet"
  pub exceeds : (m : ℕ) (registry sheet : List ℕ) (budget file : ℕ) → (registry_answer m registry).number ≡ 0 → Exceeds sheet
      → RefusesAlone (message_alone m) 57 (g m registry sheet budget file).0
  -- "then 2 for a sheet that its count and lengths don't fill exactly"
  pub not_filled : (m : ℕ) (registry sheet : List ℕ) (budget file : ℕ) → (registry_answer m registry).number ≡ 0 → Within sheet
      → ((conditions : List (List ℕ)) → Filled sheet conditions → ⊥) → RefusesAlone (message_alone m) 2 (g m registry sheet budget file).0
  -- any other is opened
  pub opened : (m : ℕ) (registry sheet : List ℕ) (budget file : ℕ) (conditions : List (List ℕ)) → (registry_answer m registry).number ≡ 0
      → Within sheet → Filled sheet conditions → Gives (message_alone m) [] 0 (g m registry sheet budget file).0
  -- and all its conditions are left; of a refused one none is
  pub start : (m : ℕ) (registry sheet : List ℕ) (budget file : ℕ) (conditions : List (List ℕ)) → (registry_answer m registry).number ≡ 0
      → Within sheet → Filled sheet conditions → (g m registry sheet budget file).1 ≡ at_the_start (length conditions) budget file
  pub no_start : (m : ℕ) (registry sheet : List ℕ) (budget file : ℕ) → (g m registry sheet budget file).0.number ≢ 0
      → (g m registry sheet budget file).1 ≡ at_the_start 0 budget file

-- ------------------------------------------------------------------ a step

-- from a state and the registry state on: the answer, and both states behind it
abbrev pub Stepping : Type 0
Stepping = Buffers → (registry sheet : List ℕ) → Progress → (counts : List ℕ) → Answer × (Progress × List ℕ)

abbrev pub our_stepping : Stepping
our_stepping b registry sheet p counts =
    (sheet_next_answer b registry sheet p, (sheet_next_progress b registry sheet p, sheet_next_counts b registry sheet p counts))

-- "what is left of the budget": of a budget below 2^32, as 01 has every limit, that is the budget less what was charged so far
abbrev pub left_of_budget : Progress → ℕ
left_of_budget p = min (p.budget - p.charged) 4294967295

-- "a file number from 0 to 65,535"
abbrev pub file_number : Progress → ℕ
file_number p = min p.file 65535

-- The expansion of a condition "with what is left of the budget as its limit": its answer; the state, so many bytes further on, with
-- one condition less and its charge ("A refused condition doesn't stop the others, and its charges stay"); and the registry state that
-- it hands back.
abbrev pub expanded : Buffers → (registry : List ℕ) → Progress → (counts condition : List ℕ) → (width : ℕ) → Answer × (Progress × List ℕ)
expanded b registry p counts c width =
    let a = expand_answer b (left_of_budget p) (file_number p) registry c in (
      a,
      (
        record { at = p.at + width; left = p.left - 1; charged = p.charged + a.charged; budget = p.budget; file = p.file },
        expand_counts b (left_of_budget p) (file_number p) registry c counts,
      ),
    )

-- The cases, which together are every state. One that is reached from an opened sheet is `done` or has its next condition.
pub record Steps (g : Stepping) : Type 0 where
  -- "expands them in order": the next condition is the one that stands at the state's place, behind its length
  pub next : (b : Buffers) (registry sheet : List ℕ) (p : Progress) (counts c rest : List ℕ) → 0 < p.left
      → Begins (drop p.at sheet) (length c) (c ++ rest) → g b registry sheet p counts ≡ expanded b registry p counts c (4 + length c)
  -- the sheet is done: there is nothing to expand, and both states stay
  pub done : (b : Buffers) (registry sheet : List ℕ) (p : Progress) (counts : List ℕ) → p.left ≡ 0 → LongBuffers b
      → Gives b [] 0 (g b registry sheet p counts).0
  pub done_short : (b : Buffers) (registry sheet : List ℕ) (p : Progress) (counts : List ℕ) → p.left ≡ 0 → ShortBuffers b
      → RefusesAlone b 1 (g b registry sheet p counts).0
  pub done_stays : (b : Buffers) (registry sheet : List ℕ) (p : Progress) (counts : List ℕ) → p.left ≡ 0
      → (g b registry sheet p counts).1 ≡ (p, counts)
  -- no state of an opened sheet: where no condition stands, an empty one is expanded
  pub nowhere : (b : Buffers) (registry sheet : List ℕ) (p : Progress) (counts : List ℕ) → 0 < p.left
      → ((c rest : List ℕ) → Begins (drop p.at sheet) (length c) (c ++ rest) → ⊥)
      → g b registry sheet p counts ≡ expanded b registry p counts [] 0

-- ------------------------------------------------------------------ from a sheet's start to its end

-- Steps one after another, each with buffers of the caller's choice: the answers in order, and both states behind them.
unfoldable pub run : Stepping → (registry sheet : List ℕ) → List Buffers → Progress → (counts : List ℕ) → List Answer × (Progress × List ℕ)
run g registry sheet [] p counts = ([], (p, counts))
run g registry sheet (b ∷ bs) p counts =
    let step = g b registry sheet p counts in
    let rest = run g registry sheet bs step.1.0 step.1.1 in (step.0 ∷ rest.0, rest.1)
