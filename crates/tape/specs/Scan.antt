-- Whether the entries from a place on are of a sort, where they end, and whether they pass a largest figure: a pushdown automaton over
-- a table. Its stack holds what is still to come. A text of an input is well-formed.
-- Assumes nothing.
use Rattle.std.specs.Prelude.{ℕ, ◌+◌, ◌-◌, List, [], ◌∷◌, ◌++◌, Bool, false, ◌&&◌, ◌||◌, length, leb, ltb, eqb, Option, Some, None}
use Rattle.format.specs.Entry.{Text, Entry}
use Rattle.format.specs.Utf8.{well_formed}
use Rattle.grammar.specs.Counts.{due_of, has_pairs, count_words}
use Rattle.grammar.specs.Pick.{pick}
use Rattle.grammar.specs.Waits.{Wait, wait, head_of, accepts, exceeds, below}
use Rattle.grammar.specs.Words.{Rules, temporal_grammar}
use Rattle.tape.specs.Layouts.{holds, entries_at}
use Rattle.tape.specs.Skip.{count_from}
use Rattle.tape.specs.declared.layout.Layout.{Layout}
use Rattle.tape.specs.declared.layout.Place.{Place}

-- a text of an input is well-formed; where no figures are asked for, texts are not looked at
abbrev pub text_passes : ℕ → Text → Bool
text_passes longest t = eqb longest 0 || well_formed t

-- the entry and the text offset where the stack is empty, and whether a largest figure was passed
abbrev pub scan_of : Rules → ℕ → ℕ → List Entry → List Wait → ℕ → ℕ → Bool → Option (Place × Bool)
scan_of g longest size [] [] at text over = Some (record { at = at; text = text }, over)
scan_of g longest size [] (w ∷ st) at text over = None
scan_of g longest size (e ∷ es) [] at text over = Some (record { at = at; text = text }, over)
scan_of g longest size (e ∷ es) (w ∷ st) at text over =
    let h = head_of g w.sort e.code e.value in
    pick (accepts (length es) (size - text) h && text_passes longest e.text)
    (scan_of g longest size es (below longest w h ++ st) (at + 1) (text + h.text) (over || exceeds longest w h))
    None

-- the entries of a slice from a place on
abbrev pub scan_from : Rules → List ℕ → Layout → Place → ℕ → ℕ → Option (Place × Bool)
scan_from g s l from sort longest =
    scan_of g longest l.size (entries_at g s l from.at from.text (l.entries - from.at)) (wait sort 0 0 ∷ []) from.at
    from.text false

-- the slice holds the layout, the place is in it, and a table has room for the sort
abbrev pub starts : List ℕ → Layout → Place → ℕ → Bool
starts s l from sort =
    holds s l && (leb from.at l.entries && (leb from.text l.size && ltb sort 32))

abbrev pub scan_at : Rules → List ℕ → Layout → Place → ℕ → ℕ → Option (Place × Bool)
scan_at g s l from sort longest = pick (starts s l from sort) (scan_from g s l from sort longest) None

-- the tree at the start of a layout passes a largest figure of a result
abbrev pub over_of : Option (Place × Bool) → Bool
over_of (Some (p, over)) = over
over_of None = false

abbrev pub too_deep_in : Rules → List ℕ → Layout → ℕ → Bool
too_deep_in g s l sort = over_of (scan_at g s l (record { at = 0; text = 0 }) sort 0)

-- the place behind a subtree of document 01, by counting: where the scan ends, but what stands there is not looked at
abbrev pub skip_at : List ℕ → Layout → Place → ℕ → Option Place
skip_at s l from sort =
    pick (starts s l from sort)
    (count_from count_words s l (l.entries - from.at) (due_of sort) (has_pairs sort) from.at from.text) None

-- the same with the table of document 01
abbrev pub too_deep : List ℕ → Layout → ℕ → Bool
too_deep s l sort = too_deep_in temporal_grammar s l sort
