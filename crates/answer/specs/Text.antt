-- What an answer prints.
-- Assumes nothing.
use Rattle.std.specs.Prelude.{ℕ, List, ◌++◌, codes, decimal}
use Rattle.answer.specs.declared.Answer.{Answer}

-- its numbers but the message's length, with a space between two
abbrev pub answer_text : Answer → List ℕ
answer_text r = decimal r.number ++ codes " " ++ decimal r.span.start ++ codes " " ++ decimal r.span.end ++ codes " " ++ decimal r.charged
