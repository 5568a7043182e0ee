-- The code's preview beside the definition's.
-- Assumes nothing.
use Rattle.std.specs.Prelude.{ℕ, List, []}
use Rattle.answer.specs.Matches.{answer_with}
use Rattle.definition.specs.Preview.{Preview}
use Rattle.preview.specs.declared.Previewed.{Previewed}

-- with what the two buffers hold
abbrev pub preview_with : Previewed → (work message : List ℕ) → Preview
preview_with r work message = record { answered = answer_with r.answer [] work message; entries = r.entries; text_bytes = r.text }
