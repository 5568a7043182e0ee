-- Where the sections of a tape or of a work area stand in a slice, and the entries that are read there.
-- Assumes nothing.
use Rattle.std.specs.Prelude.{ℕ, zero, suc, ◌+◌, ◌-◌, ◌*◌, ◌≤◌, List, [], ◌∷◌, map, Bool, ◌&&◌, length, get_or, leb}
use Rattle.definition.specs.Size.{size}
use Rattle.format.specs.Entry.{Entry, entry}
use Rattle.format.specs.Stands.{part}
use Rattle.format.specs.Tape.{from_le, is_text, text_width}
use Rattle.grammar.specs.Waits.{head_of}
use Rattle.grammar.specs.Words.{Rules, row_at, width_of}
use Rattle.tape.specs.Pick.{pick}
use Rattle.tape.specs.declared.layout.Layout.{Layout}
use Rattle.tape.specs.declared.layout.Place.{Place}
use Rattle.grammar.specs.declared.entry.Head.{Head}

abbrev pub layout : ℕ → ℕ → ℕ → ℕ → ℕ → Layout
layout codes values text entries size =
    record { codes = codes; values = values; text = text; entries = entries; size = size }

-- a tape of n entries and t text bytes: two sizes come first, then codes, values and text
abbrev pub tape_layout : ℕ → ℕ → Layout
tape_layout n t = layout 8 (8 + n) (8 + 9 * n) n t

-- a work area has room for 1,024 entries, n of them used; a base past every buffer holds nothing
abbrev pub area_layout : ℕ → ℕ → ℕ → Layout
area_layout base n t = pick (leb base 65536) (layout base (base + 1024) (base + 9216) n t) (layout 0 0 0 0 0)

-- a slice has room for the codes and values of a layout
abbrev pub holds : List ℕ → Layout → Bool
holds s l =
    leb l.entries 1024 && (leb (l.codes + l.entries) (length s) && leb (l.values + 8 * l.entries) (length s))

pub record Held (s : List ℕ) (l : Layout) : Type 0 where
  pub entries_most : l.entries ≤ 1024
  pub codes_held : l.codes + l.entries ≤ length s
  pub values_held : l.values + 8 * l.entries ≤ length s

-- the code and the value of entry i
abbrev pub code_at : List ℕ → Layout → ℕ → ℕ
code_at s l i = get_or s (l.codes + i) 0

abbrev pub value_at : List ℕ → Layout → ℕ → ℕ
value_at s l i = from_le (part s (l.values + 8 * i) 8)

-- how much text it takes
abbrev pub width_at : List ℕ → Layout → ℕ → ℕ
width_at s l i = text_width (is_text (code_at s l i)) (value_at s l i)

-- the text offset behind so many bytes of it, as far as there is text
abbrev pub text_behind : (size text width : ℕ) → ℕ
text_behind size text width = pick (leb width (size - text)) (text + width) size

-- the same by a table's marks
abbrev pub width_by : Rules → List ℕ → Layout → ℕ → ℕ
width_by g s l i = width_of (row_at g (code_at s l i)) (value_at s l i)

-- the entry at a place of a sort
abbrev pub head_at : Rules → List ℕ → Layout → ℕ → ℕ → Head
head_at g s l sort i = head_of g sort (code_at s l i) (value_at s l i)

-- the n entries that a slice has from entry `at` and text offset `txt` on, whatever they are
abbrev pub entries_at : Rules → List ℕ → Layout → ℕ → ℕ → ℕ → List Entry
entries_at g s l at txt zero = []
entries_at g s l at txt (suc n) =
    record { code = code_at s l at; value = value_at s l at; text = part s (l.text + txt) (width_by g s l at) }
    ∷ entries_at g s l (at + 1) (txt + width_by g s l at) n

-- the place behind an entry with `size` bytes of text
abbrev pub onward : Place → ℕ → Place
onward p size = record { at = p.at + 1; text = p.text + size }

-- the codes of the entries from `from` to `to`, as entries of which only the code is known
abbrev pub codes_between : List ℕ → Layout → ℕ → ℕ → List Entry
codes_between s l from to = map (λ (c : ℕ). entry c 0) (part s (l.codes + from) (to - from))

-- the number of nodes among them
abbrev pub size_between : List ℕ → Layout → ℕ → ℕ → ℕ
size_between s l from to =
    pick (holds s l && (leb from to && leb to l.entries)) (size (codes_between s l from to)) 0
