-- `expand_stray::check_concrete_binders` meets its contract: what is walked along the list is a binder's check.
-- `Along` wants the definition that the calls agree with, a function, which `search` does not build.
use Rattle.std.proofs.Common.{rules}
use Rattle.walk_state.specs.Reading.{Along}
use Rattle.expand_stray.specs.Concrete.{concrete_binder_in, concrete_binders_in}
use Rattle.expand_stray.proofs.check_concrete_binders.Goals as goal

pub returns : goal.returns
unfolding concrete_binders_in Along
returns c = c.along.ensures (concrete_binder_in _ _ _) (λ q x e. search rules)
