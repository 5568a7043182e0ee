-- "It always ends" (definition/specs/Ends.antt), of the house sheet: opening one, and its next condition, which is answered as an expansion
-- is. The theorems are in proofs/Ends.antt.
-- Assumes nothing.
use Rattle.std.specs.Prelude.{ℕ, ◌⊎◌, List, [], ◌∷◌}
use Rattle.definition.specs.Answers.{Buffers, message_alone}
use Rattle.definition.specs.Ends.{Nothing, TreeTape, Ends, expansion_numbers}
use Rattle.sheet.specs.declared.Progress.{Progress}
use Rattle.sheet.specs.Sheet.{sheet_open_answer, sheet_next_answer}

abbrev pub sheet_numbers : List ℕ
sheet_numbers = 1 ∷ 2 ∷ 3 ∷ 10 ∷ 11 ∷ 57 ∷ []

abbrev pub SheetOpenEnds : Type 0
SheetOpenEnds = (m : ℕ) (registry sheet : List ℕ) → Ends sheet_numbers Nothing (message_alone m) (sheet_open_answer m registry sheet)

-- a tape, or nothing (where no condition is left: `Steps` of Opens.antt)
abbrev pub NextTape : List ℕ → Type 0
NextTape bytes = TreeTape bytes ⊎ Nothing bytes

abbrev pub SheetNextEnds : Type 0
SheetNextEnds = (b : Buffers) (registry sheet : List ℕ) (p : Progress) → Ends expansion_numbers NextTape b (sheet_next_answer b registry sheet p)
