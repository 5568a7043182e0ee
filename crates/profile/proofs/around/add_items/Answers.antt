-- `profile::around::add_items` meets its contract. The condition that is added stands in no conclusion, so that `search` does not find it.
use native.Mathlib.Omega.{arith}
use Rattle.profile.proofs.Lists.{added_some}
use Rattle.profile.proofs.around.add_items.Goals as goal

pub returns-in-Some : goal.returns-in-Some
returns-in-Some g c = added_some _ _ _ c.in-Some.more (omega (arith, c.in-Some.ensures)) c.push.ensures.items
