-- The five words with the buffers are the answer, and the seven the preview; and the counts behind a step of a house sheet, whose state is
-- given as words.
-- Assumes nothing.
use Prim.Native.Nat.{ℕ}
use mathlib.Core.List.{List}
use mathlib.Core.Path.{◌≡◌, ap, ◌∙◌}
use Rattle.definition.specs.Answers as definition
use Rattle.definition.specs.Preview.{Preview}
use Rattle.answer.specs.declared.Answer.{Answer}
use Rattle.answer.specs.Matches.{answer_with}
use Rattle.preview.specs.declared.Previewed.{Previewed}
use Rattle.preview.specs.Matches.{preview_with}
use Rattle.sheet.specs.declared.Progress.{Progress}
use Rattle.sheet.specs.Sheet.{sheet_next_counts}
use Rattle.neukolja.specs.Words.{words_of, words_with, seven_of, seven_with}

pub words_with_lem : (r : Answer) (words result work message : List ℕ) {a : definition.Answer} → words ≡ words_of r
    → answer_with r result work message ≡ a → words_with words result work message ≡ a
words_with_lem r words result work message e q = ap (λ (w : List ℕ). words_with w result work message) e ∙ q

pub seven_with_lem : (r : Previewed) (words work message : List ℕ) {a : Preview} → words ≡ seven_of r
    → preview_with r work message ≡ a → seven_with words work message ≡ a
seven_with_lem r words work message e q = ap (λ (w : List ℕ). seven_with w work message) e ∙ q

pub counts_with : (b : definition.Buffers) (registry sheet counts : List ℕ) {p q : Progress} → p ≡ q
    → sheet_next_counts b registry sheet p counts ≡ sheet_next_counts b registry sheet q counts
counts_with b registry sheet counts e = ap (λ (p : Progress). sheet_next_counts b registry sheet p counts) e
