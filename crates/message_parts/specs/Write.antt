-- A message that is written in several pieces.
-- Assumes nothing.
use Rattle.std.specs.Prelude.{◌≡◌}
use mathlib.Core.List.{List, flatten}
use Rattle.format.specs.Entry.{Text}
use Rattle.buffer.specs.declared.message.Message.{Message as Writer}
use Rattle.buffer.specs.Buffer.{Message, write_in}
use Rattle.buffer.specs.Message.{so_far}

-- m' is m with these pieces behind it
pub record Writes (pieces : List Text) (m m' : Message) : Type 0 where
  pub all : m' ≡ write_in (flatten pieces) m

-- w' is w with these pieces behind what was written, in the slice that w was lent
pub record PutsAll (pieces : List Text) (w w' : Writer) : Type 0 where
  pub same_slice : w'.bytes.ghost_name ≡ w.bytes.ghost_name
  pub written : Writes pieces (so_far w) (so_far w')

-- Whoever unfolds this joins the pieces of a message.
unfoldable pub open_pieces : Unit {0}
unfolding flatten
open_pieces = tt
