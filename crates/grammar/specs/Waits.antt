-- What one entry does to a scan: whether it may stand at a place of a sort, what it brings, and whether it passes a largest figure.
-- Assumes nothing.
use Rattle.std.specs.Prelude.{ℕ, ◌+◌, min, List, [], ◌∷◌, Bool, not, ◌&&◌, ◌||◌, leb, ltb, eqb, Option, Some, None}
use Rattle.std.specs.declared.num.NonZeroU64.{NonZeroU64}
use Rattle.std.specs.Int.NonZero.{non_zero_u64_get}
use Rattle.grammar.specs.Grammar.{Follows, once, each, sorts_of}
use Rattle.grammar.specs.Words.{Rules, sort_at, row_at, in_sort, nesting_of, calls_of, follows_in, follows_of, width_of, longest_of}
use Rattle.grammar.specs.declared.entry.Head.{Head}

-- a sort that is waited for, below `nesting` nodes and `calls` calls
pub record Wait : Type 0 where
  pub sort : ℕ
  pub nesting : ℕ
  pub calls : ℕ

abbrev pub wait : ℕ → ℕ → ℕ → Wait
wait sort nesting calls = record { sort = sort; nesting = nesting; calls = calls }

abbrev pub waits : ℕ → ℕ → List ℕ → List Wait
waits nesting calls [] = []
waits nesting calls (s ∷ ss) = wait s nesting calls ∷ waits nesting calls ss

-- an entry at a place of a sort, with what a table says of the two
abbrev pub head_of : Rules → ℕ → ℕ → ℕ → Head
head_of g s code value =
    record {
      code = code;
      value = value;
      text = width_of (row_at g code) value;
      sort = sort_at g s;
      row = row_at g code;
      follows = follows_in (sort_at g s) (row_at g code);
    }

-- a value is one of the first n numbers, or n is 0
abbrev pub valued : ℕ → ℕ → Bool
valued n v = eqb n 0 || ltb v n

-- how many entries come behind one by its count
abbrev pub counted : Follows → ℕ → ℕ
counted (once ss) v = 0
counted (each s) v = v

-- an entry may stand at its place, with `left` entries behind it and `room` bytes of text left
abbrev pub accepts : ℕ → ℕ → Head → Bool
accepts left room e =
    in_sort e.sort e.code
    && (valued e.row.values e.value && (leb (counted (follows_of e.follows) e.value) left && leb e.text room))

-- the number of calls around what follows an entry; 4 stands for every number from 4 on
abbrev pub enclosed : ℕ → Head → ℕ
enclosed n e = min (n + calls_of e.row) 4

-- the figures of an input are asked for, and not those of a result: the longest text of a name is not 0
abbrev pub is_limited : ℕ → Bool
is_limited longest = not (eqb longest 0)

-- the longest text of a name, and 0 where the figures of an input are not asked for
abbrev pub longest_in : Option NonZeroU64 → ℕ
longest_in None = 0
longest_in (Some n) = non_zero_u64_get n

-- how much an entry counts in nesting
abbrev pub nests_by : ℕ → Head → ℕ
nests_by longest e = nesting_of (is_limited longest) e.row

-- the nesting below it; 64 stands for every number from 64 on
abbrev pub deeper : ℕ → ℕ → Head → ℕ
deeper longest n e = min (n + nests_by longest e) 64

-- a figure is passed by what adds to it
abbrev pub passes : ℕ → ℕ → ℕ → Bool
passes most n more = ltb most (n + more) && ltb 0 more

-- an entry passes a largest figure: nesting 64; a call inside the arguments of 3 others; of an input 16 in a short list, and the longest
-- text
abbrev pub exceeds : ℕ → Wait → Head → Bool
exceeds longest w e =
    passes 64 w.nesting (nests_by longest e)
    || (passes 4 w.calls (calls_of e.row)
    || (is_limited longest && (e.sort.few && ltb 16 e.value)
    || is_limited longest && ltb (longest_of longest e.row) e.text))

-- what is waited for below an entry
abbrev pub below : ℕ → Wait → Head → List Wait
below longest w e = waits (deeper longest w.nesting e) (enclosed w.calls e) (sorts_of (follows_of e.follows) e.value)
