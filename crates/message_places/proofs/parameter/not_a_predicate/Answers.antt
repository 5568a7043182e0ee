-- `message_places::parameter::not_a_predicate` meets its contract. Words are long lists, at whose depth `grind` stops, so the pieces
-- are joined here.
use mathlib.Core.Path.{refl}
use Rattle.definition.specs.Messages.{open_messages}
use Rattle.definition.specs.Text.{open_text}
use Rattle.message_parts.specs.Write.{open_pieces}
use Rattle.message_parts.proofs.Writing.{put, ◌and◌, wrote}
use Rattle.message_places.proofs.parameter.not_a_predicate.Goals as goal

pub returns : goal.returns
unfolding open_text open_messages open_pieces
returns c = wrote (put c.put.ensures and put c.put-2.ensures) (rw c.condition_shape.ensures refl)
