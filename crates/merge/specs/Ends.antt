-- What a merge came to beside the definition's outcome, and the answers of it.
-- Assumes nothing.
use Rattle.std.specs.Prelude.{ℕ, ◌≤◌, ◌≡◌, List, Result, Ok, Err, true, length, replicate}
use Rattle.format.specs.Ast.{MacroDef}
use Rattle.format.specs.Flat.{flat_registry}
use Rattle.definition.specs.Outcome.{Outcome}
use Rattle.definition.specs.Answers.{Answer, answer, without_work}
use Rattle.definition.specs.Merge.{registry_tape}
use Rattle.tape.specs.declared.layout.Layout.{Layout}
use Rattle.area.specs.Area.{area_in, fits_area, Wrote}
use Rattle.answer.specs.Matches.{message_in, RefusalMatches}
use Rattle.merge.specs.Join.{MergingIn, merge_in}
use Rattle.area.specs.declared.Writer.{Writer}
use Rattle.merge.specs.declared.join.Refusing.{Refusing}
use Rattle.merge.specs.declared.join.Refusing.TheVariants.{First, Second}

-- The merge of the first tape s, laid out as d, and the second, t, laid out as e, came to the outcome: the registry, in the area of a
-- slice, is the outcome's, which is within the largest figures; or its refusal is the outcome's.
unfoldable pub MergingMatches : List ℕ → Layout → List ℕ → Layout → Result Writer Refusing → List ℕ → Outcome (List MacroDef) → Type 0
MergingMatches s d t e (Ok out) bytes (Outcome.done defs charged) =
    (0 ≡ charged) × Wrote (area_in out bytes) (flat_registry defs) × (fits_area (flat_registry defs) ≡ true)
MergingMatches s d t e (Ok out) bytes (Outcome.refused r charged) = ⊥
MergingMatches s d t e (Err (First f)) bytes (Outcome.done defs charged) = ⊥
MergingMatches s d t e (Err (First f)) bytes (Outcome.refused r charged) = (0 ≡ charged) × RefusalMatches s d s d f r
MergingMatches s d t e (Err (Second f)) bytes (Outcome.done defs charged) = ⊥
MergingMatches s d t e (Err (Second f)) bytes (Outcome.refused r charged) = (0 ≡ charged) × RefusalMatches t e t e f r

-- a is the answer of every outcome that matches, in buffers that have room for a tape and for its message
unfoldable pub AnswersMerging : List ℕ → Layout → List ℕ → Layout → Result Writer Refusing → List ℕ → (result message : ℕ) → Answer → Type 0
AnswersMerging s d t e m bytes result message a =
    (o : Outcome (List MacroDef)) → MergingMatches s d t e m bytes o → 12296 ≤ result → length (message_in o) ≤ message
    → a ≡ answer registry_tape (without_work result message) o

-- a is the answer of the merge of two tapes
unfoldable pub EndsMerge : List ℕ → Layout → List ℕ → Layout → (result message : ℕ) → Answer → Type 0
EndsMerge s d t e result message a =
    let X : MergingIn = merge_in s d t e 255 (replicate 12288 0) in AnswersMerging s d t e X.outcome X.bytes result message a
