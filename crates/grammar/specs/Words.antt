-- A table of sorts and codes: how it is written, and what is read there. Any table can be read; what lies past its end is a sort of no
-- code, or a code with nothing behind it.
-- Assumes nothing.
use Rattle.std.specs.Prelude.{ℕ, zero, suc, ◌+◌, ◌-◌, ◌*◌, ◌/◌, ◌%◌, List, [], ◌∷◌, ◌++◌, map, Bool, true, false, ◌&&◌, ◌||◌, leb, ltb, eqb, length, get_or, replicate}
use Rattle.format.specs.Tape.{text_width}
use Rattle.grammar.specs.Grammar.{Range, Follows, once, each, Sort, sorts, no_sort, Mark, Row, any, row, rows}
use Rattle.grammar.specs.Provider as provider
use Rattle.grammar.specs.Pick.{pick}
use Rattle.grammar.specs.declared.rules.SortRule.{SortRule}
use Rattle.grammar.specs.declared.rules.CodeRule.{CodeRule}
use Rattle.grammar.specs.declared.rules.TextRule.{TextRule}
use Rattle.grammar.specs.declared.rules.TextRule.TheVariants.{NoText, Short, Long, Name}
use Rattle.grammar.specs.declared.rules.NodeRule.{NodeRule}
use Rattle.grammar.specs.declared.rules.NodeRule.TheVariants.{NoNode, One, Rewritten, TwoInInput}
use Rattle.grammar.specs.declared.rules.Grammar.{Grammar}

-- the sorts and the codes by their numbers
pub record Rules : Type 0 where
  pub sorts : List SortRule
  pub codes : List CodeRule

-- as a table lends them
abbrev pub rules : Grammar → Rules
rules g = record { sorts = g.sorts.now; codes = g.codes.now }

-- ------------------------------------------------------------------ how it is written

abbrev pub digits : List ℕ → ℕ
digits [] = 0
digits (s ∷ ss) = s + 64 * digits ss

-- sorts of two octal digits each, the first lowest; or 40 octal and one sort
abbrev pub follows_word : Follows → ℕ
follows_word (once ss) = digits ss
follows_word (each s) = 32 + s

-- the first code of a range and the one behind its last; 0 and 0 where there is no range
abbrev pub low_of : List Range → ℕ
low_of [] = 0
low_of (r ∷ rs) = r.low

abbrev pub end_of : List Range → ℕ
end_of [] = 0
end_of (r ∷ rs) = r.high + 1

abbrev pub others : List Range → List Range
others [] = []
others (r ∷ rs) = rs

abbrev pub sort_rule : Sort → SortRule
sort_rule s =
    record {
      low = low_of s.ranges;
      end = end_of s.ranges;
      low_too = low_of (others s.ranges);
      end_too = end_of (others s.ranges);
      own = follows_word s.own;
      few = s.few;
    }

-- the marks by numbers, to tell them apart
abbrev pub mark_number : Mark → ℕ
mark_number Mark.is_text = 0
mark_number Mark.is_long = 1
mark_number Mark.is_name = 2
mark_number Mark.is_node = 3
mark_number Mark.is_two_more = 4
mark_number Mark.is_call = 5

abbrev pub has_mark : Mark → List Mark → Bool
has_mark m [] = false
has_mark m (n ∷ ns) = eqb (mark_number m) (mark_number n) || has_mark m ns

abbrev pub text_rule : List Mark → TextRule
text_rule ms = pick (has_mark Mark.is_text ms) (pick (has_mark Mark.is_name ms) Name (pick (has_mark Mark.is_long ms) Long Short)) NoText

abbrev pub node_rule : List Mark → NodeRule
node_rule ms =
    pick (has_mark Mark.is_two_more ms)
    (pick (has_mark Mark.is_node ms) Rewritten TwoInInput)
    (pick (has_mark Mark.is_node ms) One NoNode)

abbrev pub code_rule : Row → CodeRule
code_rule r =
    record {
      follows = follows_word r.follows;
      values = r.values;
      text = text_rule r.marks;
      nodes = node_rule r.marks;
      is_call = has_mark Mark.is_call r.marks;
    }

-- no code is of this sort; an entry of any value with nothing behind it
abbrev pub no_codes : SortRule
no_codes = sort_rule no_sort

abbrev pub leaf : CodeRule
leaf = code_rule (row any [])

-- the table of document 01
unfoldable pub temporal_grammar : Rules
temporal_grammar = record { sorts = map sort_rule sorts ++ replicate (32 - length sorts) no_codes; codes = map code_rule rows }

-- the table of provider tapes
unfoldable pub provider_grammar : Rules
provider_grammar =
    record {
      sorts = map sort_rule provider.sorts ++ replicate (32 - length provider.sorts) no_codes;
      codes = map code_rule provider.rows;
    }

-- ------------------------------------------------------------------ what is read there

-- of a sort's number the lowest five bits count
abbrev pub sort_at : Rules → ℕ → SortRule
sort_at g s = get_or g.sorts (s % 32) no_codes

abbrev pub row_at : Rules → ℕ → CodeRule
row_at g code = get_or g.codes code leaf

-- a code is one of a sort's, of which the second range lies above the first
abbrev pub in_sort : SortRule → ℕ → Bool
in_sort sort code =
    leb sort.low code && (ltb code sort.end || leb sort.low_too code && ltb code sort.end_too)

-- what may be its text
abbrev pub has_text : TextRule → Bool
has_text NoText = false
has_text Short = true
has_text Long = true
has_text Name = true

abbrev pub is_long : TextRule → Bool
is_long NoText = false
is_long Short = false
is_long Long = true
is_long Name = false

abbrev pub is_name : TextRule → Bool
is_name NoText = false
is_name Short = false
is_name Long = false
is_name Name = true

abbrev pub text_mark : CodeRule → Bool
text_mark row = has_text row.text

abbrev pub long_mark : CodeRule → Bool
long_mark row = is_long row.text

abbrev pub name_mark : CodeRule → Bool
name_mark row = is_name row.text

-- how much a code counts in nesting, in an input or elsewhere, and among calls
abbrev pub nodes_of : Bool → NodeRule → ℕ
nodes_of limited NoNode = 0
nodes_of limited One = 1
nodes_of limited Rewritten = pick limited 3 1
nodes_of limited TwoInInput = pick limited 2 0

abbrev pub nesting_of : Bool → CodeRule → ℕ
nesting_of limited row = nodes_of limited row.nodes

abbrev pub calls_of : CodeRule → ℕ
calls_of row = pick row.is_call 1 0

-- the word of what follows a code at a place of a sort: the sort's own, or else the code's
abbrev pub follows_in : SortRule → CodeRule → ℕ
follows_in sort row = (pick (eqb sort.own 0) row.follows sort.own) % 0x40000000

-- the sorts of a word in base 64, the first lowest, and the last of them `more` times more; k digits at the most
abbrev pub sorts_in : ℕ → ℕ → ℕ → List ℕ
sorts_in zero w more = []
sorts_in (suc k) w more = pick (ltb w 64) (w ∷ replicate more w) (w % 64 ∷ sorts_in k (w / 64) more)

abbrev pub is_each : ℕ → Bool
is_each w = leb 32 w && ltb w 64

unfoldable pub follows_of : ℕ → Follows
follows_of w = pick (eqb w 0) (once []) (pick (is_each w) (each (w - 32)) (once (sorts_in 6 w 0)))

-- how much text an entry takes, and the longest it may be: a figure that is given for names, 255 or 64 for others
abbrev pub width_of : CodeRule → ℕ → ℕ
width_of row v = text_width (text_mark row) v

abbrev pub longest_of : ℕ → CodeRule → ℕ
longest_of longest row = pick (name_mark row) longest (pick (long_mark row) 255 64)
