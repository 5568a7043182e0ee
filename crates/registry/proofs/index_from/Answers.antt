-- `registry::index_from` meets its contract: `search` stops at one of its limits with the fitting law cited.
use mathlib.Core.Path.{refl}
use Rattle.registry.proofs.Steps.{index_long, index_done}
use Rattle.registry.proofs.index_from.Goals as goal

pub returns-then-size-text-clause-written : goal.returns-then-size-text-clause-written
returns-then-size-text-clause-written c =
    let at = c.loop-at in
    index_long _ _ _ _ c.loop-at-test.true c.code_at-code.ensures refl c.width_at-width.ensures _ _ _ at.invariant.0 c.if-size-text.true at.invariant.2

pub returns-clause-written : goal.returns-clause-written
returns-clause-written c = index_done _ _ _ _ _ _ _ c.loop-at-test.false c.loop-at.invariant.0
