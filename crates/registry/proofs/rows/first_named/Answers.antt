-- `registry::rows::first_named` meets its contract: `search` stops at one of its limits with the fitting law cited.
use Rattle.registry.proofs.Steps.{get_found}
use Rattle.registry.proofs.rows.first_named.Goals as goal

pub returns-then-eq : goal.returns-then-eq
returns-then-eq c =
    get_found _ _ _ _ _ c.loop-i.invariant c.loop-i-test.true c.key_of-key.ensures c.if-row-key.true c.read_heading.ensures c.ok.ensures.value c.in_ok-heading.was
    c.name_at.ensures c.if-eq.ensures c.end_of-end.ensures
