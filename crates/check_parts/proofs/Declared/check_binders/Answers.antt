-- `check_parts::Declared::check_binders` meets its contract: what is walked along the list is a binder's check. `Along`
-- wants the definition that the calls agree with, a function, which `search` does not build.
use Rattle.std.proofs.Common.{rules}
use Rattle.walk_state.specs.Reading.{Along}
use Rattle.check_parts.specs.Names.{binder_in, binders_in}
use Rattle.check_parts.proofs.Declared.check_binders.Goals as goal

pub returns : goal.returns
unfolding binders_in Along
returns c = c.along.ensures (binder_in _ _ _) (λ q x e. search rules)
