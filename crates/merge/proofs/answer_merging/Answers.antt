-- `merge::answer_merging` meets its contract. The law wants a function as its argument, which `search` does not build.
use Rattle.merge.proofs.Answering.{written_answered, first_answered, second_answered}
use Rattle.merge.proofs.answer_merging.Goals as goal

pub returns-in-Ok : goal.returns-in-Ok
returns-in-Ok c = written_answered _ _ _ _ _ _ _ c.in-Ok.is c.finish.ensures c.number_alone.ensures

pub returns-in-Err-First : goal.returns-in-Err-First
returns-in-Err-First c = first_answered _ _ _ _ _ _ _ c.in-Err-First.is (rw c.in-Err-First.is at c.in-Err-First.field-0-is) c.refuse.ensures

pub returns-in-Err-Second : goal.returns-in-Err-Second
returns-in-Err-Second c = second_answered _ _ _ _ _ _ _ c.in-Err-Second.is (rw c.in-Err-Second.is at c.in-Err-Second.field-0-is) c.refuse-in-Err-Second.ensures
