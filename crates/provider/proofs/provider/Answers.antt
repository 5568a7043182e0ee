-- `provider::provider` meets its contract: a tape that is accepted, and one that is refused. The laws want a function as their argument,
-- that each byte is one, which `search` does not build.
use mathlib.Core.Path.{sym, ◌∙◌}
use Rattle.format.proofs.Accepted.{bytes_all}
use Rattle.answer.proofs.Ends.{no_buffers_lem}
use Rattle.provider.proofs.Operation.{provider_accepted, provider_refused}
use Rattle.provider.proofs.provider.Goals as goal

pub returns-in-Ok : goal.returns-in-Ok
returns-in-Ok c =
    provider_accepted _ (bytes_all _ (λ i. (c.type_inv.bytes i).fits)) (sym c.accept_provider.ensures ∙ c.in-Ok.is) c.result_written.ensures

pub returns-in-Err : goal.returns-in-Err
returns-in-Err c =
    provider_refused _ (bytes_all _ (λ i. (c.type_inv.bytes i).fits)) (sym c.accept_provider.ensures ∙ c.in-Err.is)
    (no_buffers_lem _ (rw c.number.ensures at c.refuse_result.ensures))
