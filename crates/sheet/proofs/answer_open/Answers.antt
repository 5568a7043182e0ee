-- By hand, since `search` gives up at one of its limits: the answer is the sheet's number, in a message buffer as long as it was lent.
use Rattle.format.proofs.Accepted.{bytes_all}
use Rattle.sheet.proofs.Opening.{open_fault_behind}
use Rattle.sheet.proofs.answer_open.Goals as goal

pub returns-in-Err : goal.returns-in-Err
returns-in-Err c =
    open_fault_behind _ _ _ c.build-built.ensures.0 c.if-answer-ne-OK.false (bytes_all _ (λ i. (c.type_inv.registry i).fits)) c.in-Err.ensures c.number.ensures c.refuse_number.ensures
