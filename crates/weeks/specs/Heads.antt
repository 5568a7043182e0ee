-- The older tape of the entries at a layout: their codes and values with weeks turned into days, and the text as it stands.
-- Assumes nothing.
use Rattle.std.specs.Prelude.{ℕ, zero, suc, ◌+◌, Bool, ◌&&◌, List, [], ◌∷◌, ◌++◌, length}
use Rattle.std.proofs.lemmas.List.Edits.{sets}
use Rattle.format.specs.Entry.{Entry, entry, le, codes_of, values_of}
use Rattle.format.specs.Older.{older_entries, fits_older}
use Rattle.format.specs.Stands.{part}
use Rattle.buffer.specs.Buffer.{zeroed}
use Rattle.tape.specs.Layouts.{code_at, value_at, holds}
use Rattle.tape.specs.Pick.{pick}
use Rattle.tape.specs.declared.layout.Layout.{Layout}

-- the codes and values of n entries from entry i on, as entries without text
unfoldable pub heads_at : List ℕ → Layout → ℕ → ℕ → List Entry
heads_at s l i zero = []
heads_at s l i (suc n) = entry (code_at s l i) (value_at s l i) ∷ heads_at s l (i + 1) n

abbrev pub heads_in : List ℕ → Layout → List Entry
heads_in s l = heads_at s l 0 l.entries

-- the slice holds the layout, and no amount leaves the range
abbrev pub fits_in : List ℕ → Layout → Bool
fits_in s l = holds s l && fits_older (heads_in s l)

-- the two sizes, the codes and the values
unfoldable pub older_heads : List ℕ → Layout → List ℕ
older_heads s l =
    ((le 4 l.entries ++ le 4 l.size) ++ codes_of (older_entries (heads_in s l))) ++ values_of (older_entries (heads_in s l))

unfoldable pub older_tape_in : List ℕ → Layout → List ℕ
older_tape_in s l = older_heads s l ++ part s l.text l.size

-- a buffer that a tape is written to, with zeros behind it
unfoldable pub filled : List ℕ → List ℕ → List ℕ
filled m tape = zeroed (sets m 0 tape) (length tape)

-- nothing where it cannot be written
abbrev pub written_in : List ℕ → Layout → List ℕ → List ℕ
written_in s l m = pick (fits_in s l) (filled m (older_tape_in s l)) m
