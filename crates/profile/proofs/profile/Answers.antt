-- `profile::profile` meets its contract: `search` stops at one of its limits with the fitting law cited.
use mathlib.Core.Path.{sym, ◌∙◌}
use Rattle.format.proofs.Accepted.{bytes_all}
use Rattle.profile.proofs.Operation.{refused, given, given_or}
use Rattle.profile.proofs.profile.Goals as goal

pub returns-then-none_on : goal.returns-then-none_on
returns-then-none_on c =
    given _ (bytes_all _ (λ i. (c.type_inv.condition i).fits)) (sym c.accept_named.ensures ∙ c.in-Ok.is) (sym c.none_on.ensures ∙ c.if-none_on.true)
    c.profile_in.ensures

pub returns-else-none_on : goal.returns-else-none_on
returns-else-none_on c =
    given_or _ (bytes_all _ (λ i. (c.type_inv.condition i).fits)) (sym c.accept_named.ensures ∙ c.in-Ok.is) c.profile_rewritten.ensures

pub returns-in-Err : goal.returns-in-Err
returns-in-Err c =
    refused _ (bytes_all _ (λ i. (c.type_inv.condition i).fits)) (sym c.accept_named.ensures ∙ c.in-Err.is) (rw c.number.ensures at c.end.ensures)
