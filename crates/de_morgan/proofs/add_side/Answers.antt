-- `de_morgan::add_side` meets its contract. The side that an Or brings stands in no conclusion, so that `search` does not find it.
use Rattle.de_morgan.proofs.Sides.{side_added, none_added}
use Rattle.de_morgan.proofs.add_side.Goals as goal

pub returns-then-code-eq-OR : goal.returns-then-code-eq-OR
returns-then-code-eq-OR g c = side_added _ _ _ _ _ _ c.right_side.ensures c.if-code-eq-OR.true c.push.ensures.items

pub returns-else-code-eq-OR : goal.returns-else-code-eq-OR
returns-else-code-eq-OR g c = none_added _ _ _ _ _ _ c.if-code-eq-OR.false
