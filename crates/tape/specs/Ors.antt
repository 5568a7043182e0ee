-- The Ors of a layout, and the entries that there are once they are rewritten (document 02, point 12).
-- Assumes nothing.
use Rattle.std.specs.Prelude.{ℕ, ◌+◌, ◌*◌, List, map}
use Rattle.format.specs.Entry.{Entry, entry}
use Rattle.format.specs.Macro.{tally}
use Rattle.tape.specs.Layouts.{codes_between, holds}
use Rattle.tape.specs.Pick.{pick}
use Rattle.tape.specs.declared.layout.Layout.{Layout}

-- codes, as entries of which only the code is known
abbrev pub coded : List ℕ → List Entry
coded codes = map (λ (c : ℕ). entry c 0) codes

-- the Ors of a layout, from an entry on, and all of them
abbrev pub ors_from : List ℕ → Layout → ℕ → ℕ
ors_from s l at = tally 2 (codes_between s l at l.entries)

abbrev pub ors_in : List ℕ → Layout → ℕ
ors_in s l = pick (holds s l) (ors_from s l 0) 0

abbrev pub rewritten_count : List ℕ → Layout → ℕ
rewritten_count s l = l.entries + 3 * ors_in s l
