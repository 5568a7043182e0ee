-- `answer::answer_tape` meets its contract. The verdict's promise is a function type (`AnswersVerdict`), and `search` stops at a limit.
use mathlib.Core.Path.{sym, refl}
use Rattle.std.proofs.lemmas.Fn.{says_at}
use Rattle.answer.specs.Matches.{tape_refused, tape_judged}
use Rattle.answer.proofs.answer_tape.Goals as goal

pub returns-in-Ok : goal.returns-in-Ok
returns-in-Ok g c =
    tape_judged c.if-message-lt-MESSAGE_SIZE.false refl (sym c.in-Ok.ensures) (says_at g.F.Fn c.judge-verdict.ensures refl) c.answer_verdict.ensures

pub returns : goal.returns
returns g c = tape_refused c.if-message-lt-MESSAGE_SIZE.false (sym c.in-Err.ensures) (rw c.number.ensures at c.refuse_number-in-Err.ensures)
