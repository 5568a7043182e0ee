-- `message_calls::body::plain_identifier` meets its contract. Words are long lists, at whose depth `grind` stops, so the pieces
-- are joined here.
use mathlib.Core.Path.{refl}
use Rattle.definition.specs.Messages.{open_messages}
use Rattle.definition.specs.Text.{open_text}
use Rattle.message_parts.specs.Write.{open_pieces}
use Rattle.message_parts.proofs.Writing.{◌and◌, wrote}
use Rattle.message_calls.proofs.body.plain_identifier.Goals as goal

pub returns : goal.returns
unfolding open_text open_messages open_pieces
returns c = wrote (c.around_two.ensures and c.named.ensures) refl
