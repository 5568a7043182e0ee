-- `answer::refuse` meets its contract. `AnswersRefusal` is a function type, whose lemma `search` does not match, or stops at a limit.
use Rattle.answer.proofs.Ends.{refusal_answered}
use Rattle.answer.proofs.refuse.Goals as goal

pub returns : goal.returns
returns c = let a = c.args in
    refusal_answered a.refused a.charged _ _ _ c.number-number.ensures c.write-message_length.ensures c.number_alone.ensures
