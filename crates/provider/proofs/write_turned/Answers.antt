-- `provider::write_turned` meets its contract: what the calls make of a code is what it is turned into. That is a function, which `search`
-- does not build.
use Rattle.std.proofs.Common.{rules, refl, ◌∙◌}
use Rattle.buffer.specs.Buffer.{WritesEach}
use Rattle.provider.specs.Turned.{turned_or_0}
use Rattle.provider.proofs.write_turned.Goals as goal

pub returns : goal.returns
unfolding WritesEach
returns c = c.write_each.ensures (turned_or_0 c.args.way) (λ b x e. search rules) ∙ rw (c.zero_from.ensures, c.write.ensures) refl
