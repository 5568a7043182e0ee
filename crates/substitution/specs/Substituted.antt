-- The answer of the walk over a definition and a call, on the tapes that were given, or rewritten.
-- Assumes nothing.
use Rattle.std.specs.Prelude.{ℕ, List}
use Rattle.definition.specs.Answers.{Answer, Buffers}
use Rattle.tape.specs.declared.layout.Layout.{Layout}
use Rattle.answer.specs.Matches.{AnswersOutcome}
use Rattle.subst_call.specs.Front.{tapes_in}

-- a is the answer of every outcome that matches the walk over the two tapes
unfoldable pub AnswersSubstitution : List ℕ → Layout → List ℕ → Layout → (limit file : ℕ) → (work : List ℕ) → Buffers → Answer → Type 0
AnswersSubstitution definition d call c limit file work b a =
    let X = tapes_in definition d call c limit file work in AnswersOutcome definition d call c X.walk X.bytes b a
