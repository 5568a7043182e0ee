-- `registry::is_reserved` meets its contract: one equation of four lists, at whose length `search` stops.
use Rattle.definition.specs.Text.{open_text}
use Rattle.definition.specs.Registry.{reserved_names}
use Rattle.registry.proofs.Steps.{in_four_lists}
use Rattle.registry.proofs.is_reserved.Goals as goal

pub returns : goal.returns
unfolding reserved_names open_text
returns c = rw (c.is_one_of.ensures, c.is_one_of-2.ensures, c.is_one_of-3.ensures, c.is_one_of-4.ensures) (in_four_lists _ _ _ _ c.args.name.now)
