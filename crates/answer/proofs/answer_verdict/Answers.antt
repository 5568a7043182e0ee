-- `answer::answer_verdict` meets its contract. `AnswersVerdict` is a function type, whose lemma `search` does not match, or
-- stops at a limit.
use Rattle.answer.proofs.Ends.{message_alone_lem, passes_answered, refused_answered}
use Rattle.answer.proofs.answer_verdict.Goals as goal

pub returns-in-Ok : goal.returns-in-Ok
returns-in-Ok c = passes_answered _ _ _ c.in-Ok.is (message_alone_lem _ _ c.number_alone.ensures)

pub returns-in-Err : goal.returns-in-Err
returns-in-Err c = refused_answered _ _ _ c.in-Err.is (λ r matches n. message_alone_lem _ _ (c.refuse.ensures r matches n))
