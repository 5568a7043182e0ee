-- `message_calls::body::duplicate_definition` meets its contract. Words are long lists, at whose depth `grind` stops, so the pieces
-- are joined here.
use mathlib.Core.Path.{refl}
use Rattle.definition.specs.Messages.{open_messages}
use Rattle.definition.specs.Outcome.{span_start}
use Rattle.definition.specs.Text.{open_text}
use Rattle.nodes.specs.Node.{span_of}
use Rattle.message_parts.specs.Write.{open_pieces}
use Rattle.message_parts.proofs.Writing.{◌and◌, wrote}
use Rattle.message_calls.proofs.body.duplicate_definition.Goals as goal

pub returns : goal.returns
unfolding open_text open_messages open_pieces span_start span_of
returns c = wrote (c.around.ensures and c.numbered.ensures) (rw c.span_of.ensures refl)
