-- The acceptance of two tapes: all of the first comes before the second is looked at.
-- Assumes nothing.
use Rattle.tape.specs.declared.header.Fault.{Fault}
use Rattle.std.specs.Prelude.{ℕ, List, Result, Ok, Err}
use Rattle.tape.specs.Accept.{accept_of}
use Rattle.tape.specs.declared.layout.Layout.{Layout}

abbrev pub after_first : Layout → Result Layout Fault → Result (Layout × Layout) Fault
after_first d (Ok c) = Ok (d, c)
after_first d (Err n) = Err n

abbrev pub on_first : Result Layout Fault → Result Layout Fault → Result (Layout × Layout) Fault
on_first (Ok d) second = after_first d second
on_first (Err n) second = Err n

unfoldable pub accept_two : List ℕ → ℕ → List ℕ → ℕ → Result (Layout × Layout) Fault
accept_two s i t j = on_first (accept_of s i) (accept_of t j)
