-- A tape in which every Or is rewritten (document 02, point 12), as a function of a slice and its layout: a 2 becomes 3, 1, 3 in front
-- of its left side, a 3 comes in front of its right one, every other entry stays, and so does the text. Where the slice holds a tree at
-- the layout's start, this is the tape of the rewritten tree (proofs/Rewritten.antt).
-- Assumes nothing.
use Rattle.std.specs.Prelude.{ℕ, zero, suc, ◌+◌, ◌*◌, ◌≤◌, ◌≡◌, List, [], ◌∷◌, ◌++◌, reverse, Bool, ◌&&◌, leb, eqb, length, Option, Some, None}
use Rattle.std.proofs.lemmas.List.Edits.{sets}
use Rattle.format.specs.Entry.{Entry, entry, le}
use Rattle.format.specs.Limits.{weigh}
use Rattle.format.specs.Stands.{part}
use Rattle.tape.specs.Layouts.{tape_layout, holds, code_at, value_at, width_at, text_behind}
use Rattle.tape.specs.Ors.{rewritten_count}
use Rattle.tape.specs.Pick.{pick}
use Rattle.tape.specs.Scan.{skip_at}
use Rattle.tape.specs.declared.layout.Layout.{Layout}
use Rattle.tape.specs.declared.layout.Place.{Place}
use Rattle.de_morgan.specs.declared.rewriting.Side.{Side}
use Rattle.de_morgan.specs.declared.rewriting.Rewriting.{Rewriting}

-- ------------------------------------------------------------------ right sides that are still to come

-- The nearest first: the negation in front of the entry where it begins, and the sides behind it
unfoldable pub negation : ℕ → List Side → List Entry
negation at [] = []
negation at (side ∷ sides) = pick (eqb side.at at) (entry 3 side.span ∷ []) []

unfoldable pub sides_after : ℕ → List Side → List Side
sides_after at [] = []
sides_after at (side ∷ sides) = pick (eqb side.at at) sides (side ∷ sides)

-- Where a right side begins, behind the left one; 0, where none begins any more, if no condition stands there.
abbrev pub right_of : Option Place → ℕ
right_of (Some p) = p.at
right_of None = 0

-- an Or brings a right side
unfoldable pub sides_with : List ℕ → Layout → ℕ → ℕ → Place → List Side → List Side
sides_with s l code value next sides = pick (eqb code 2) (record { at = right_of (skip_at s l next 1); span = value } ∷ sides) sides

-- ------------------------------------------------------------------ its entries

-- what an entry becomes, a right side's negation aside
unfoldable pub heads_of : ℕ → ℕ → List Entry
heads_of code value = pick (eqb code 2) (entry 3 value ∷ entry 1 value ∷ entry 3 value ∷ []) (entry code value ∷ [])

abbrev pub place_behind : List ℕ → Layout → ℕ → ℕ → Place
place_behind s l at text = record { at = at + 1; text = text_behind l.size text (width_at s l at) }

-- codes and values of what `left` entries from a place on become, with the right sides to come
unfoldable pub heads_from : List ℕ → Layout → ℕ → ℕ → ℕ → List Side → List Entry
heads_from s l zero at text sides = []
heads_from s l (suc left) at text sides =
    let code = code_at s l at in
    let value = value_at s l at in
    let next = place_behind s l at text in
    negation at sides
    ++ (heads_of code value ++ heads_from s l left next.at next.text (sides_with s l code value next (sides_after at sides)))

-- ------------------------------------------------------------------ its bytes

-- the code and the value of entry `at` of a tape of n entries
abbrev pub put_head : ℕ → ℕ → ℕ → ℕ → List ℕ → List ℕ
put_head n at code value out = sets (sets out (8 + at) (code ∷ [])) (8 + n + 8 * at) (le 8 value)

-- those of several entries, from entry `at` on
unfoldable pub put_heads : ℕ → ℕ → List Entry → List ℕ → List ℕ
put_heads n at [] out = out
put_heads n at (e ∷ es) out = put_heads n (at + 1) es (put_head n at e.code e.value out)

-- sizes, codes and values, and the text as it stands
abbrev pub tape_in : List ℕ → Layout → ℕ → List ℕ → List ℕ
tape_in s l n out =
    sets (put_heads n 0 (heads_from s l l.entries 0 0 []) (sets (sets out 0 (le 4 n)) 4 (le 4 l.size))) (8 + 9 * n)
    (part s l.text l.size)

-- the slice holds the layout, and no more entries come out than a tape has
abbrev pub can_rewrite : List ℕ → Layout → Bool
can_rewrite s l = holds s l && leb (rewritten_count s l) 1024

-- Where they would be too many, which acceptance rules out, nothing is written, and the layout has no entry.
abbrev pub rewritten_in : List ℕ → Layout → List ℕ → List ℕ
rewritten_in s l out = pick (can_rewrite s l) (tape_in s l (rewritten_count s l) out) out

abbrev pub rewritten_layout : List ℕ → Layout → Layout
rewritten_layout s l = pick (can_rewrite s l) (tape_layout (rewritten_count s l) l.size) (tape_layout 0 0)

-- ------------------------------------------------------------------ parts of the loop

-- entries were put, in the slice that was lent
pub record EntriesPut (es : List Entry) (h h' : Rewriting) : Type 0 where
  pub same_slice : h'.out.ghost_name ≡ h.out.ghost_name
  pub same_n : h'.n ≡ h.n
  pub next_is : h'.next ≡ h.next + length es
  pub written : h'.out.now ≡ put_heads h.n h.next es h.out.now

-- The code has the nearest side last. The negation in front of an entry was put, where a right side begins there.
pub record SideBegun (at : ℕ) (sides left : List Side) (h h' : Rewriting) : Type 0 where
  pub sides_are : reverse left ≡ sides_after at (reverse sides)
  pub no_more : length left ≤ length sides
  pub put : EntriesPut (negation at (reverse sides)) h h'

-- the right side that an entry brings was added
pub record SideAdded (s : List ℕ) (l : Layout) (code value : ℕ) (next : Place) (sides after : List Side) : Type 0 where
  pub sides_are : reverse after ≡ sides_with s l code value next (reverse sides)
  pub one_more : length after ≡ length sides + weigh (eqb code 2)
