-- `profile::around::take_item` meets its contract. The condition on top and those below it stand in no conclusion, so that `search` does
-- not find them.
use native.Mathlib.Omega.{arith}
use Rattle.std.proofs.Common.{sym, ap, ◌∙◌}
use Rattle.arrayvec.specs.ArrayVec.{ArrayVec}
use Rattle.profile.specs.declared.around.Around.{Around}
use Rattle.profile.proofs.Lists.{taken_none, taken_last, taken_one}
use Rattle.profile.proofs.around.take_item.Goals as goal

pub returns-in_default : goal.returns-in_default
returns-in_default g c =
    taken_none _ (sym c.pop.ensures.value ∙ c.in_default.is) (ap (λ (v : ArrayVec Around). v.items) (rw c.in_default.is at c.pop.ensures.empty))

pub returns-in-Some-checked_sub : goal.returns-in-Some-checked_sub
returns-in-Some-checked_sub g c =
    taken_one _ _ _ c.in-Some.ensures.items c.in-Some-checked_sub.more (omega (arith, c.in-Some-checked_sub.ensures)) c.push.ensures.items

pub returns-in_default-checked_sub : goal.returns-in_default-checked_sub
returns-in_default-checked_sub g c = taken_last _ _ _ c.in-Some.ensures.items (omega (arith, c.in_default-checked_sub.ensures))
