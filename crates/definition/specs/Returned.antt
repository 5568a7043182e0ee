-- What an operation returns and what it writes, in document 01's words and without the functions that the definition has for it: the
-- promises of the operations are said with these. The laws are in proofs/Returned.antt.
-- Assumes nothing.
use Rattle.std.specs.Prelude.{ℕ, zero, suc, ◌-◌, ◌/◌, ◌%◌, ◌^◌, ◌<◌, ◌≤◌, ◌≡◌, ◌⊎◌, List, [], ◌∷◌, ◌++◌, length, replicate}
use Rattle.format.specs.Entry.{Text}
use Rattle.format.specs.Tape.{Reading}
use Rattle.definition.specs.Answers.{Answer, Buffers}

abbrev pub zeros : ℕ → List ℕ
zeros n = replicate n 0

-- "Success is 0 with span 0..0 and no message", and "writes the tape and zeros behind it; work and message are all zero".
pub record Gives (b : Buffers) (bytes : List ℕ) (cost : ℕ) (a : Answer) : Type 0 where
  pub number : a.number ≡ 0
  pub start : a.start ≡ 0
  pub end : a.end ≡ 0
  pub message_length : a.message_length ≡ 0
  pub charged : a.charged ≡ cost
  pub result : a.result ≡ bytes ++ zeros (b.result_length - length bytes)
  pub work : a.work ≡ zeros b.work_length
  pub message : a.message ≡ zeros b.message_length

-- "A refusal zeroes result and work, and the message buffer holds the message, then zeros." A span is start + 2^32 × end.
pub record Refuses (b : Buffers) (why span : ℕ) (said : Text) (cost : ℕ) (a : Answer) : Type 0 where
  pub number : a.number ≡ why
  pub start : a.start ≡ span % 2 ^ 32
  pub end : a.end ≡ span / 2 ^ 32
  pub message_length : a.message_length ≡ length said
  pub charged : a.charged ≡ cost
  pub result : a.result ≡ zeros b.result_length
  pub work : a.work ≡ zeros b.work_length
  pub message : a.message ≡ said ++ zeros (b.message_length - length said)

-- a number "with 0..0", without a message, and nothing is charged
abbrev pub RefusesAlone : Buffers → (why : ℕ) → Answer → Type 0
RefusesAlone b why = Refuses b why 0 [] 0

-- 2, or 3, of a tape
pub data Unread {A : Type 0} : Reading A → ℕ → Type 0 where
  malformed : Unread Reading.malformed 2
  too_large : Unread Reading.too_large 3

-- "result below 12,296 bytes, work below 65,536 or message below 2,048", of the buffers that an operation has
abbrev pub ShortResult : Buffers → Type 0
ShortResult b = b.result_length < 12296

abbrev pub ShortMessage : Buffers → Type 0
ShortMessage b = b.message_length < 2048

-- of one that has all three: one of them is short, or none is
abbrev pub ShortBuffers : Buffers → Type 0
ShortBuffers b = ShortResult b ⊎ ((b.work_length < 65536) ⊎ ShortMessage b)

abbrev pub LongBuffers : Buffers → Type 0
LongBuffers b = (12296 ≤ b.result_length) × ((65536 ≤ b.work_length) × (2048 ≤ b.message_length))

-- what stands in a list at an index, from 0
pub data At {A : Type 0} : List A → (index : ℕ) → A → Type 0 where
  here : {a : A} {list : List A} → At (a ∷ list) zero a
  behind : {a first : A} {list : List A} {i : ℕ} → At list i a → At (first ∷ list) (suc i) a
