-- `check_library::check_library` meets its contract: with the fitting law cited `search` stops at one of its limits.
use mathlib.Core.Path.{sym, ◌∙◌}
use Rattle.check_library.proofs.Operation.{library_listed}
use Rattle.check_library.proofs.check_library.Goals as goal

pub returns-in-Ok : goal.returns-in-Ok
returns-in-Ok c =
    library_listed _ _ _ c.type_inv.registry (sym c.long_without_work.ensures ∙ c.if-not-long_without_work.false) c.in-Ok.ensures c.answer_list.ensures
