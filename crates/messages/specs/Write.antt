-- A whole buffer that holds a message.
-- Assumes nothing.
use Rattle.std.specs.Prelude.{ℕ, min, length, take}
use Rattle.format.specs.Entry.{Text}
use Rattle.definition.specs.Answers.{padded}
use Rattle.buffer.specs.Buffer.{Message, message_in}

-- a buffer of n bytes with a message and zeros behind it, as far as it reaches
unfoldable pub filled : ℕ → Text → Message
filled n message = message_in (take n (padded n message)) (min n (length message))
