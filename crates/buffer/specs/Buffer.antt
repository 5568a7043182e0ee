-- Bytes in a buffer: what a write changes, zeros, and a message that is written piece by piece.
-- Assumes nothing.
use Rattle.std.specs.Prelude.{ℕ, min, ◌+◌, ◌-◌, ◌≡◌, List, ◌++◌, Bool, true, false, length, map, take, drop, replicate}
use Rattle.std.proofs.lemmas.List.Edits.{sets}

-- r says whether P holds
pub record Decides (P : Type 0) (r : Bool) : Type 0 where
  pub holds : r ≡ true → P
  pub fails : r ≡ false → P → ⊥

-- s, with zeros from i on
unfoldable pub zeroed : List ℕ → ℕ → List ℕ
zeroed s i = take i s ++ replicate (length s - i) 0

-- s' is s with what calls make of each byte of a piece, from `at` on: for each f that they agree with, what f makes of it
unfoldable pub WritesEach : (ℕ → ℕ → Type 0) → ℕ → List ℕ → List ℕ → List ℕ → Type 0
WritesEach P at piece s s' = (f : ℕ → ℕ) → ((b x : ℕ) → P b x → x ≡ f b) → s' ≡ sets s at (map f piece)

-- s and s' differ from b up to, not including, e alone
pub record Kept (b e : ℕ) (s s' : List ℕ) : Type 0 where
  pub size : length s' ≡ length s
  pub front : take b s' ≡ take b s
  pub back : drop e s' ≡ drop e s

-- a buffer, and where the message in it ends
pub record Message : Type 0 where
  pub bytes : List ℕ
  pub end : ℕ

abbrev pub message_in : List ℕ → ℕ → Message
message_in bytes end = record { bytes = bytes; end = end }

-- the message with a piece behind it, as far as the buffer reaches
unfoldable pub write_in : List ℕ → Message → Message
write_in piece m = message_in (sets m.bytes m.end piece) (min (length m.bytes) (m.end + length piece))

-- msg was written at the front of m₀, as far as it reaches; the buffer is m then, and the message ends at `end`
abbrev pub Written : List ℕ → List ℕ → ℕ → List ℕ → Type 0
Written m₀ m end msg = message_in m end ≡ write_in msg (message_in m₀ 0)
