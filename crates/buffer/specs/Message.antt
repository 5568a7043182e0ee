-- A message and the buffer that was lent for it, as one value.
-- Assumes nothing.
use Rattle.std.specs.Prelude.{ℕ, List, ◌≡◌}
use Rattle.buffer.specs.declared.message.Message.{Message as Writer}
use Rattle.buffer.specs.Buffer.{Message, message_in, write_in}

-- what is written so far
abbrev pub so_far : Writer → Message
so_far w = message_in w.bytes.now w.len

-- w' is w with a piece behind what was written, in the slice that w was lent
pub record Puts (piece : List ℕ) (w w' : Writer) : Type 0 where
  pub same_slice : w'.bytes.ghost_name ≡ w.bytes.ghost_name
  pub written : so_far w' ≡ write_in piece (so_far w)
