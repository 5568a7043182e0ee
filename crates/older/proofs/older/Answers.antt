-- `older::older` meets its contract where a tape has an Or: with the fitting law cited `search` stops at one of its limits.
use mathlib.Core.Path.{sym, ◌∙◌}
use Rattle.format.proofs.Accepted.{bytes_all}
use Rattle.older.proofs.Operation.{given_or, sort_told}
use Rattle.older.proofs.older.Goals as goal

pub returns-else-plain : goal.returns-else-plain
returns-else-plain c =
    given_or _ (bytes_all _ (λ i. (c.type_inv.bytes i).fits)) _ (sym c.long_result.ensures ∙ c.if-not-long_result.false)
    (sort_told _ c.first_code.ensures c.root_sort.ensures (sym c.accept.ensures ∙ c.in-Ok.is)) c.older_rewritten.ensures
