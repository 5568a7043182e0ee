-- `answer::answer_walk` meets its contract. `AnswersOutcome` is a function type, whose lemma `search` does not match, or stops at a limit.
use mathlib.Core.Path.{ap}
use Rattle.std.proofs.Common.{Result}
use Rattle.messages.specs.declared.Refused.{Refused}
use Rattle.walk_state.specs.Writing.{came_to}
use Rattle.answer.proofs.Ends.{going_answered, walk_refused}
use Rattle.answer.proofs.answer_walk.Goals as goal

pub returns-in-Ok-clause-answers : goal.returns-in-Ok-clause-answers
returns-in-Ok-clause-answers c =
    going_answered _ _ _ _ _ _ _ _ (ap (λ (r : Result Unit Refused). (came_to r c.args.cursor.now).walk) c.in-Ok.is) c.finish.ensures
    c.number_alone.ensures

pub returns-in-Err-clause-answers : goal.returns-in-Err-clause-answers
returns-in-Err-clause-answers c =
    walk_refused _ _ _ _ _ _ (ap (λ (r : Result Unit Refused). (came_to r c.args.cursor.now).walk) c.in-Err.is) c.refuse.ensures
