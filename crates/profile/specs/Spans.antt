-- The spans of the conditions around what is still to come on a tape, the next first. An item of a condition is what has a condition or an
-- interval in it: each of its conditions, its within, each argument of its call. Each item to come has the span of its condition here.
-- Assumes nothing.
use Rattle.std.specs.Prelude.{ℕ, ◌+◌, ◌≤◌, ◌≡◌, List, [], ◌∷◌, ◌++◌, Bool, true, false, ◌&&◌, leb, length, drop, get_or, replicate, reverse}
use Rattle.tape.specs.Pick.{pick}
use Rattle.nodes.specs.Node.{by_code}
use Rattle.profile.specs.declared.around.Around.{Around}
use Rattle.profile.specs.declared.around.Head.{Head}

-- ------------------------------------------------------------------ as they are meant

-- how many items a condition has
abbrev pub item_rows : (args : ℕ) → List (ℕ × ℕ)
item_rows args = (1, 2) ∷ (2, 2) ∷ (3, 1) ∷ (4, 2) ∷ (5, 2) ∷ (6, 3) ∷ (9, 1) ∷ (11, args) ∷ (13, 1) ∷ []

unfoldable pub items_of : (code args : ℕ) → ℕ
items_of code args = by_code (item_rows args) 0 code

unfoldable pub is_condition : ℕ → Bool
is_condition code = leb 1 code && leb code 13

-- an item that has none in it: an interval, a parameter in the place of one, or a term as argument
abbrev pub end_rows : List (ℕ × Bool)
end_rows = (48, true) ∷ (49, true) ∷ (50, true) ∷ (51, true) ∷ (52, true) ∷ (56, true) ∷ (64, true) ∷ []

unfoldable pub ends_item : ℕ → Bool
ends_item code = by_code end_rows false code

-- What is still to come behind an entry. A condition is an item, and its own items come next; an argument's 55 or 57 leaves its item
-- to what it holds.
unfoldable pub spans_after : Head → List ℕ → List ℕ
spans_after e spans =
    pick (is_condition e.code) (replicate (items_of e.code e.args) e.value ++ drop 1 spans)
    (pick (ends_item e.code) (drop 1 spans) spans)

-- the span of the condition that the next item is in; 0 where none is to come
abbrev pub nearest : List ℕ → ℕ
nearest spans = get_or spans 0 0

-- ------------------------------------------------------------------ as they stand in memory

-- the conditions that have items to come, the innermost first
unfoldable pub spans_in : List Around → List ℕ
spans_in [] = []
spans_in (a ∷ around) = a.span ∷ (replicate a.more a.span ++ spans_in around)

-- The code has the innermost last. The list has these items now, and at most `grown` conditions more.
pub record Moved (around after : List Around) (to : List ℕ) (grown : ℕ) : Type 0 where
  pub items_are : spans_in (reverse after) ≡ to
  pub few : length after ≤ length around + grown
