-- The acceptance of a tape with a wanted root: document 01's order of refusals.
-- Assumes nothing.
use Rattle.tape.specs.declared.header.Fault.TheVariants.{Malformed, TooLarge}
use Rattle.tape.specs.declared.layout.Place.{Place}
use Rattle.tape.specs.declared.header.Fault.{Fault}
use Rattle.std.specs.Prelude.{ℕ, List, Bool, leb, eqb, Option, Some, None, Result, Ok, Err}
use Rattle.grammar.specs.Words.{Rules, temporal_grammar}
use Rattle.tape.specs.Header.{open_of}
use Rattle.tape.specs.Ors.{rewritten_count}
use Rattle.tape.specs.Pick.{pick}
use Rattle.tape.specs.Scan.{scan_at}
use Rattle.tape.specs.declared.layout.Layout.{Layout}

-- a largest figure is passed, or that of entries once Ors are rewritten
abbrev pub figured : List ℕ → Layout → Bool → Result Layout Fault
figured s l over = pick over (Err TooLarge) (pick (leb (rewritten_count s l) 1024) (Ok l) (Err TooLarge))

-- a scan that ends where entries and text are used up is a tape of the root wanted, and 3 where a largest figure is passed
abbrev pub judged : List ℕ → Layout → Option (Place × Bool) → Result Layout Fault
judged s l None = Err Malformed
judged s l (Some (p, over)) =
    pick (eqb p.at l.entries) (pick (eqb p.text l.size) (figured s l over) (Err Malformed)) (Err Malformed)

abbrev pub accept_in : Rules → ℕ → List ℕ → ℕ → Layout → Result Layout Fault
accept_in g longest s sort l = judged s l (scan_at g s l (record { at = 0; text = 0 }) sort longest)

abbrev pub after_open : Rules → ℕ → List ℕ → ℕ → Result Layout Fault → Result Layout Fault
after_open g longest s sort (Ok l) = accept_in g longest s sort l
after_open g longest s sort (Err n) = Err n

-- by a table, with the longest text of a name
abbrev pub accept_by : Rules → ℕ → List ℕ → ℕ → Result Layout Fault
accept_by g longest s sort = after_open g longest s sort (open_of s)

-- by the table of document 01
abbrev pub accept_named : ℕ → List ℕ → ℕ → Result Layout Fault
accept_named longest s sort = accept_by temporal_grammar longest s sort

-- where 64 bytes are the most
abbrev pub accept_of : List ℕ → ℕ → Result Layout Fault
accept_of s sort = accept_named 64 s sort
