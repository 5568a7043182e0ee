-- The stack of a scan in memory.
-- Assumes nothing.
use Rattle.std.specs.Prelude.{ℕ, ◌%◌, List, [], ◌∷◌, ◌++◌, Bool, true, false, Option, Some, None}
use Rattle.grammar.specs.Words.{sorts_in}
use Rattle.grammar.specs.Waits.{Wait, wait, waits}
use Rattle.grammar.specs.declared.stack.Cell.{Cell}

abbrev pub cell : ℕ → ℕ → ℕ → ℕ → Cell
cell word more nesting calls = record { word = word; more = more; nesting = nesting; calls = calls }

-- what a cell waits for
unfoldable pub waits_of : Cell → List Wait
waits_of c = waits c.nesting c.calls (sorts_in 6 c.word c.more)

-- what it waits for first
abbrev pub wait_of : Cell → Wait
wait_of c = wait (c.word % 64) c.nesting c.calls

-- what a cell waits for, if there is one
abbrev pub waits_by : Option Cell → List Wait
waits_by None = []
waits_by (Some c) = waits_of c

-- what is left of a cell, if anything is
abbrev pub waits_left : Bool → Cell → List Wait
waits_left true c = waits_of c
waits_left false c = []

-- what the cells of a stack wait for, of which the last comes first
abbrev pub stack_of : List Cell → List Wait
stack_of [] = []
stack_of (c ∷ cs) = stack_of cs ++ waits_of c
