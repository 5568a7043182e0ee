-- A subtree passed over by counting the subtrees that are still to come: what an entry adds to the count.
-- Assumes nothing.
use Rattle.std.specs.Prelude.{ℕ, ◌+◌, ◌*◌, ◌%◌, ◌≤◌, List, [], ◌∷◌, ◌++◌, map, Bool, true, false, not, ◌&&◌, ◌||◌, leb, ltb, eqb, length, get_or, take, drop, Option, Some, None}
use Rattle.grammar.specs.Grammar.{Follows, once, each, Mark, Row, rows, field, binding, texts, arguments, definitions}
use Rattle.grammar.specs.Pick.{pick}

-- how many subtrees there are of a sort: a field, a parameter and a binding are two
abbrev pub due_of : ℕ → ℕ
due_of s = pick (leb field s && leb s binding) 2 1

-- the items of a list of the sort are two subtrees each: not of texts, of arguments and of definitions
abbrev pub has_pairs : ℕ → Bool
has_pairs s = not (eqb s texts || (eqb s arguments || eqb s definitions))

-- ------------------------------------------------------------------ the table

-- a list of other items is among the sorts
abbrev pub opens : List ℕ → Bool
opens [] = false
opens (s ∷ ss) = not (has_pairs s) || opens ss

abbrev pub count_follows : Follows → ℕ
count_follows (once ss) = length ss + pick (opens ss) 32 0
count_follows (each s) = 16

abbrev pub count_mark : Mark → ℕ
count_mark Mark.is_text = 8
count_mark Mark.is_long = 0
count_mark Mark.is_name = 0
count_mark Mark.is_node = 0
count_mark Mark.is_two_more = 0
count_mark Mark.is_call = 0

abbrev pub count_marks : List Mark → ℕ
count_marks [] = 0
count_marks (m ∷ ms) = count_mark m + count_marks ms

abbrev pub count_row : Row → ℕ
count_row r = count_follows r.follows + count_marks r.marks

-- the same table as the scan's; what follows a 41 is the sort's
unfoldable pub count_words : List ℕ
count_words = map count_row (take 41 rows) ++ (24 ∷ map count_row (drop 42 rows))

-- ------------------------------------------------------------------ a step

-- what an entry adds, with `left` entries behind it and `room` bytes of text left: subtrees, bytes of text, and whether the items of the
-- next list are two subtrees each; or it may not stand there
abbrev pub step_with : (count left room : ℕ) → Bool → (value : ℕ) → Option (ℕ × ℕ × Bool)
step_with count left room pairs value =
    pick (ltb count 8) (Some (count, 0, pairs))
    (pick (ltb count 16) (pick (ltb room value) None (Some (0, value, pairs)))
    (pick (leb 32 count) (Some (count % 8, 0, false))
    (pick (ltb left value) None
    (pick (ltb count 24) (Some (value, 0, pairs)) (pick pairs (Some (2 * value, 0, true)) (Some (value, 0, true)))))))

abbrev pub step_in : List ℕ → (left room : ℕ) → Bool → (code value : ℕ) → Option (ℕ × ℕ × Bool)
step_in g left room pairs code value = step_with (get_or g code 0) left room pairs value

-- what it adds is small
pub record Small (room more width : ℕ) : Type 0 where
  pub more_most : more ≤ 2048
  pub width_most : width ≤ room

abbrev pub StepFits : ℕ → Option (ℕ × ℕ × Bool) → Type 0
StepFits room None = Unit {0}
StepFits room (Some (more, width, pairs)) = Small room more width
