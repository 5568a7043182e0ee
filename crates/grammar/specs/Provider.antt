-- The codes of provider tapes (document 02, point 11): a second table, with sorts of its own.
-- Assumes nothing.
use Rattle.std.specs.Prelude.{ℕ, List, [], ◌∷◌, ◌++◌, map, take}
use Rattle.grammar.specs.Grammar.{once, Sort, codes, list_of, no_sort, Mark, Row, any, row, counts, spelled, node, long, rows as temporalRows}

-- the sorts: a root is a call or an argument
abbrev pub root : ℕ
root = 1

abbrev pub argument : ℕ
argument = 2

abbrev pub text : ℕ
text = 3

-- a list: 41 and its items
abbrev pub arguments : ℕ
arguments = 4

abbrev pub sorts : List Sort
sorts =
    no_sort
    ∷ codes 70 76  -- root
    ∷ codes 71 76  -- argument
    ∷ codes 40 40  -- text
    ∷ list_of argument
    ∷ []

-- of a code of document 01's only what its text may be: on every tape the same entries have text
abbrev textual : List Mark → List Mark
textual [] = []
textual (Mark.is_text ∷ ms) = Mark.is_text ∷ textual ms
textual (Mark.is_long ∷ ms) = Mark.is_long ∷ textual ms
textual (Mark.is_name ∷ ms) = textual ms
textual (Mark.is_node ∷ ms) = textual ms
textual (Mark.is_two_more ∷ ms) = textual ms
textual (Mark.is_call ∷ ms) = textual ms

abbrev leaf : Row → Row
leaf r = record { values = any; follows = once []; marks = textual r.marks }

-- the codes from 0 on; those of document 01 that stand on these tapes are 40, a text, and 41, a list
abbrev pub rows : List Row
rows =
    map leaf (take 70 temporalRows)
    ++ (row any (text ∷ arguments ∷ [])  -- 70 call
    ∷ node (counts text)  -- 71 Field
    ∷ node (long spelled)  -- 72 String
    ∷ node (row any [])  -- 73 Integer
    ∷ node (long spelled)  -- 74 Decimal
    ∷ node (row 2 [])  -- 75 Bool
    ∷ node (counts argument)  -- 76 Set
    ∷ [])
