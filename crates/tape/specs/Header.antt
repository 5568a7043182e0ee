-- The sizes of a tape, and the first refusals: under 8 bytes 2, a size over its largest figure 3, any other length 2.
-- Assumes nothing.
use Rattle.std.specs.Prelude.{ℕ, ◌+◌, ◌*◌, List, length, leb, eqb, Result, Ok, Err}
use Rattle.format.specs.Limits.{fits_sizes}
use Rattle.format.specs.Stands.{part}
use Rattle.format.specs.Tape.{from_le}
use Rattle.tape.specs.Layouts.{tape_layout}
use Rattle.tape.specs.Pick.{pick}
use Rattle.tape.specs.declared.header.Fault.{Fault}
use Rattle.tape.specs.declared.header.Fault.TheVariants.{Malformed, TooLarge}
use Rattle.tape.specs.declared.layout.Layout.{Layout}

-- the number of a refusal
abbrev pub fault_number : Fault → ℕ
fault_number Malformed = 2
fault_number TooLarge = 3

abbrev pub entries_of : List ℕ → ℕ
entries_of s = from_le (part s 0 4)

abbrev pub size_of : List ℕ → ℕ
size_of s = from_le (part s 4 4)

abbrev pub open_of : List ℕ → Result Layout Fault
open_of s =
    pick (leb 8 (length s))
    (pick (fits_sizes (entries_of s) (size_of s))
    (pick (eqb (length s) (8 + 9 * entries_of s + size_of s)) (Ok (tape_layout (entries_of s) (size_of s))) (Err Malformed))
    (Err TooLarge))
    (Err Malformed)
