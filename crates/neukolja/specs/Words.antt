-- An answer as the five words that C reads, a preview as seven, and back; and the state of a house sheet.
-- Assumes nothing.
use Rattle.std.specs.Prelude.{ℕ, List, [], ◌∷◌, get_or}
use Rattle.definition.specs.Answers as definition
use Rattle.definition.specs.Preview.{Preview}
use Rattle.answer.specs.declared.Answer.{Answer}
use Rattle.preview.specs.declared.Previewed.{Previewed}
use Rattle.sheet.specs.declared.Progress.{Progress}

-- number, start, end, message length, charged
abbrev pub words_of : Answer → List ℕ
words_of r = r.number ∷ r.span.start ∷ r.span.end ∷ r.message_length ∷ r.charged ∷ []

-- what C reads from the five words and the three buffers
abbrev pub words_with : (words result work message : List ℕ) → definition.Answer
words_with words result work message =
    record {
      number = get_or words 0 0;
      start = get_or words 1 0;
      end = get_or words 2 0;
      message_length = get_or words 3 0;
      charged = get_or words 4 0;
      result = result;
      work = work;
      message = message;
    }

-- the five of its answer, then the result's N and T
abbrev pub seven_of : Previewed → List ℕ
seven_of r =
    let a : Answer = r.answer in
    a.number ∷ a.span.start ∷ a.span.end ∷ a.message_length ∷ a.charged ∷ r.entries ∷ r.text ∷ []

-- what C reads from the seven words and the two buffers
abbrev pub seven_with : (words work message : List ℕ) → Preview
seven_with words work message =
    record { answered = words_with words [] work message; entries = get_or words 5 0; text_bytes = get_or words 6 0 }

-- the state of a house sheet: where the next condition begins, how many are left, charged so far, budget, file number
abbrev pub progress_words : Progress → List ℕ
progress_words p = p.at ∷ p.left ∷ p.charged ∷ p.budget ∷ p.file ∷ []

abbrev pub progress_in : List ℕ → Progress
progress_in words = record { at = get_or words 0 0; left = get_or words 1 0; charged = get_or words 2 0; budget = get_or words 3 0; file = get_or words 4 0 }
