-- One turn of a scan: what it asks, and what it gives.
-- Assumes nothing.
use Rattle.std.specs.Prelude.{ℕ, ◌+◌, ◌-◌, ◌≤◌, ◌<◌, ◌≡◌, List, Bool, ◌||◌, length, slice_get, Option, Some, None}
use Rattle.grammar.specs.Stack.{stack_of}
use Rattle.grammar.specs.declared.stack.Cell.{Cell}
use Rattle.grammar.specs.Words.{Rules}
use Rattle.tape.specs.Layouts.{Held, entries_at}
use Rattle.tape.specs.Scan.{scan_of}
use Rattle.tape.specs.declared.layout.Layout.{Layout}
use Rattle.tape.specs.declared.layout.Place.{Place}

-- the slice holds the layout, the place is in it, and a table has room for the sort
pub record Starts (s : List ℕ) (l : Layout) (from : Place) (sort : ℕ) : Type 0 where
  pub held : Held s l
  pub at_most : from.at ≤ l.entries
  pub text_most : from.text ≤ l.size
  pub is_sort : sort < 32

-- what a turn asks: the cell on top of a stack, an entry, and text that is left
pub record CanTurn (c : Cell) (stack : List Cell) (s : List ℕ) (l : Layout) (at text : ℕ) : Type 0 where
  pub held : Held s l
  pub some_cell : 0 < length stack
  pub on_top : slice_get stack (length stack - 1) ≡ Some c
  pub some_entry : at < l.entries
  pub some_text : text ≤ l.size

-- the scan goes on with one entry less
pub record TurnedOn (g : Rules) (longest : ℕ) (s : List ℕ) (l : Layout) (stack : List Cell) (at text behind : ℕ) (more : Bool) (after : List Cell) : Type 0 where
  pub text_most : behind ≤ l.size
  pub goes_on : (over : Bool) → scan_of g longest l.size (entries_at g s l at text (l.entries - at)) (stack_of stack) at text over
      ≡ scan_of g longest l.size (entries_at g s l (at + 1) behind (l.entries - (at + 1))) (stack_of after) (at + 1) behind (over || more)

abbrev pub Turned : Rules → ℕ → List ℕ → Layout → List Cell → ℕ → ℕ → Option (ℕ × Bool) → List Cell → Type 0
Turned g longest s l stack at text None after =
    (over : Bool) → scan_of g longest l.size (entries_at g s l at text (l.entries - at)) (stack_of stack) at text over ≡ None
Turned g longest s l stack at text (Some (behind, more)) after = TurnedOn g longest s l stack at text behind more after
