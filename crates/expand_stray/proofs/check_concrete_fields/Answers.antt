-- `expand_stray::check_concrete_fields` meets its contract: what is walked along the list is a field's check.
-- `Along` wants the definition that the calls agree with, a function, which `search` does not build.
use Rattle.std.proofs.Common.{rules}
use Rattle.walk_state.specs.Reading.{Along}
use Rattle.expand_stray.specs.Concrete.{concrete_field_in, concrete_fields_in}
use Rattle.expand_stray.proofs.check_concrete_fields.Goals as goal

pub returns : goal.returns
unfolding concrete_fields_in Along
returns c = c.along.ensures (concrete_field_in _ _ _ _) (λ q x e. search rules)
