-- `message_calls::body::undeclared_parameter` meets its contract. Words are long lists, at whose depth `grind` stops, so the pieces
-- are joined here.
use mathlib.Core.Path.{refl}
use Rattle.definition.specs.Messages.{open_messages}
use Rattle.definition.specs.Text.{open_text}
use Rattle.message_parts.specs.Names.{names_at}
use Rattle.message_parts.specs.Write.{open_pieces}
use Rattle.message_parts.proofs.Listing.{list_all}
use Rattle.message_parts.proofs.Writing.{◌and◌, wrote}
use Rattle.message_calls.proofs.body.undeclared_parameter.Goals as goal

pub returns : goal.returns
unfolding open_text open_messages open_pieces
returns c = wrote (c.around.ensures and c.params_above.ensures) (rw (list_all (names_at c.args.tape.now.bytes.now c.args.tape.now.layout c.args.params.place c.args.params.count)) refl)
