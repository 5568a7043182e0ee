-- The entries of a tape read one by one, whatever they are, the names that they hold, and the pairs of names of two tapes side by side.
-- Where a tree stands at a layout, they are its entries (proofs/Entries.antt).
-- Assumes nothing.
use Rattle.std.specs.Prelude.{ℕ, zero, suc, ◌+◌, List, [], ◌∷◌, ◌++◌, Bool, false, ◌&&◌, eqb}
use Rattle.format.specs.Entry.{Text, Entry}
use Rattle.tape.specs.Pick.{pick}
use Rattle.tape.specs.Layouts.{holds, code_at, value_at, width_at, text_behind}
use Rattle.tape.specs.declared.layout.Layout.{Layout}
use Rattle.nodes.specs.Node.{name_at}
use Rattle.format.specs.Names.{is_name, names_in}
use Rattle.definition.specs.Agree.{Pair, pair_of, fits, equal_entry, same_but_names}

-- ------------------------------------------------------------------ entries

-- where the text of entry i begins
unfoldable pub text_at : List ℕ → Layout → ℕ → ℕ
text_at s l zero = 0
text_at s l (suc i) = text_behind l.size (text_at s l i) (width_at s l i)

-- the text of entry i, if it begins there
abbrev pub spelled_at : List ℕ → Layout → ℕ → (text : ℕ) → Text
spelled_at s l i text = name_at s l (record { text = text; size = width_at s l i })

unfoldable pub entry_at : List ℕ → Layout → ℕ → Entry
entry_at s l i = record { code = code_at s l i; value = value_at s l i; text = spelled_at s l i (text_at s l i) }

-- n entries from entry i on
unfoldable pub entries_from : List ℕ → Layout → ℕ → ℕ → List Entry
entries_from s l i zero = []
entries_from s l i (suc n) = entry_at s l i ∷ entries_from s l (i + 1) n

abbrev pub entries_in : List ℕ → Layout → List Entry
entries_in s l = entries_from s l 0 l.entries

-- the names of a condition and of a registry
abbrev pub protected_in : (reg : List ℕ) (d : Layout) (cond : List ℕ) (c : Layout) → List Text
protected_in reg d cond c = names_in (entries_in cond c) ++ names_in (entries_in reg d)

-- ------------------------------------------------------------------ two tapes side by side

abbrev pub pair : Text → Text → Pair
pair ours theirs = record { ours = ours; theirs = theirs }

module _ (s : List ℕ) (l : Layout) (t : List ℕ) (m : Layout) where
  -- the texts of entry i of both
  abbrev pub pair_at : ℕ → Pair
  pair_at i = pair_of (entry_at s l i) (entry_at t m i)

  -- the pairs of the names among the first n entries, the last one first
  unfoldable pub pairs_before : ℕ → List Pair
  pairs_before zero = []
  pairs_before (suc i) = pick (is_name (code_at s l i)) (pair_at i ∷ pairs_before i) (pairs_before i)

  -- whether entry i of the one may stand where entry i of the other stands, behind the pairs before it
  unfoldable pub agrees_at : List Text → ℕ → Bool
  agrees_at protected i =
      eqb (code_at s l i) (code_at t m i)
      && pick (is_name (code_at s l i)) (fits protected (pairs_before i) (pair_at i)) (equal_entry (entry_at s l i) (entry_at t m i))

  -- both tapes hold their entries, and these are the same but for names
  unfoldable pub same_in : (reg : List ℕ) (d : Layout) (cond : List ℕ) (c : Layout) → Bool
  same_in reg d cond c =
      pick ((holds reg d && holds cond c) && (holds s l && holds t m))
      (same_but_names (protected_in reg d cond c) [] (entries_in s l) (entries_in t m)) false
