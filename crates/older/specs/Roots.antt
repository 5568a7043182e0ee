-- The root that a tape's first code tells, and the answer of an older tape.
-- Assumes nothing.
use Rattle.std.specs.Prelude.{ℕ, ◌≤◌, ◌≡◌, List, length}
use Rattle.std.proofs.Math.Option.{Option, none, some}
use Rattle.format.specs.Older.{Kind}
use Rattle.definition.specs.Answers.{Answer, answer}
use Rattle.definition.specs.Older.{unless_out, result_alone}
use Rattle.grammar.specs.Grammar as grammar
use Rattle.tape.specs.declared.layout.Layout.{Layout}
use Rattle.weeks.specs.Heads.{fits_in, older_tape_in}

-- the sort of a root; 0, of which no code is, for none
abbrev pub sort_of : Option Kind → ℕ
sort_of none = 0
sort_of (some Kind.condition) = grammar.condition
sort_of (some Kind.term) = grammar.term
sort_of (some Kind.definition) = grammar.definition
sort_of (some Kind.call) = grammar.call
sort_of (some Kind.registry) = grammar.definitions

-- a is the answer of the older tape of what stands at a layout, or of 52, in a result buffer of n bytes that has room for it
unfoldable pub AnswersOlder : List ℕ → Layout → ℕ → Answer → Type 0
AnswersOlder s l n a =
    length (older_tape_in s l) ≤ n → a ≡ answer (λ (t : List ℕ). t) (result_alone n) (unless_out (fits_in s l) (older_tape_in s l))
