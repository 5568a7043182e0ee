-- `check_library::list_registry` meets its contract: with the fitting law cited `search` stops at one of its limits.
use Rattle.std.proofs.Common.{rules}
use Rattle.check_library.proofs.Steps.{listed}
use Rattle.check_library.proofs.list_registry.Goals as goal

pub returns : goal.returns
returns c =
    let same = c.new-index.ensures.tape in
    listed _ _ 255 c.new-index.ensures.rows _ (rw same at c.in_ok-check_names.ensures) c.new-rows.ensures.empty
    (rw same at c.put_list.ensures.written) (search rules)
