-- `message_calls::call::budget_exceeded` meets its contract. Words are long lists, at whose depth `grind` stops, so the pieces
-- are joined here.
use mathlib.Core.Path.{refl}
use Rattle.definition.specs.Messages.{open_messages}
use Rattle.definition.specs.Text.{open_text}
use Rattle.message_parts.specs.Write.{open_pieces}
use Rattle.message_parts.proofs.Writing.{put, ◌and◌, wrote}
use Rattle.message_calls.proofs.call.budget_exceeded.Goals as goal

pub returns : goal.returns
unfolding open_text open_messages open_pieces
returns c = wrote (put c.put.ensures and put c.put_number.ensures) refl
