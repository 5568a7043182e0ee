-- `check_library::answer_list` meets its contract. The promise is a function type (`AnswersList`), whose law `search` does not match.
use Rattle.check_library.proofs.Operation.{list_answered, list_refused}
use Rattle.check_library.proofs.answer_list.Goals as goal

pub returns-in-Ok : goal.returns-in-Ok
returns-in-Ok c = list_answered _ _ _ _ c.list_registry.ensures c.in-Ok.is c.number_alone.ensures

pub returns-in-Err : goal.returns-in-Err
returns-in-Err c = list_refused _ _ _ _ c.list_registry.ensures c.in-Err.is c.list_registry.auto.list c.refuse.ensures
