-- A message that is written piece by piece: two pieces are one, and what a buffer holds when the message is done.
-- Assumes nothing.
use mathlib.Core.Path.{◌≡◌, sym, ap, ◌∙◌}
use mathlib.Core.List.{List, ◌++◌}
use Prim.Native.Nat.{ℕ, min, ◌+◌, ◌≤◌}
use native.Mathlib.Omega.{arith}
use lib.ListN.{length, length-append}
use lib.Seq.{sets, length-sets}
use Rattle.definition.specs.Answers.{padded}
use Rattle.buffer.specs.Buffer.{Message, message_in, write_in, Written, zeroed}
use Rattle.buffer.proofs.Decides.{le_or}
use Rattle.buffer.proofs.Sets.{sets_append, sets_out}
use Rattle.buffer.proofs.Zeros.{zeroed_behind}

-- a piece behind another, which may have filled the buffer
sets_clipped : (s : List ℕ) (k : ℕ) (ys : List ℕ) → sets s (min (length s) k) ys ≡ sets s k ys
sets_clipped s k ys = le_or k (length s)
    (λ h. ap (λ (i : ℕ). sets s i ys) (omega arith))
    (λ h. sets_out s (min (length s) k) ys (omega arith) ∙ sym (sets_out s k ys (omega arith)))

pub write_append : (xs ys : List ℕ) (m : Message) → write_in ys (write_in xs m) ≡ write_in (xs ++ ys) m
unfolding write_in
write_append xs ys m =
    let l = length-sets m.bytes m.end xs in
    let b : sets (sets m.bytes m.end xs) (min (length m.bytes) (m.end + length xs)) ys ≡ sets m.bytes m.end (xs ++ ys) =
    rw (← l) (sets_clipped (sets m.bytes m.end xs) (m.end + length xs) ys) ∙ sym (sets_append m.bytes m.end xs ys) in
    let e : min (length (sets m.bytes m.end xs)) (min (length m.bytes) (m.end + length xs) + length ys)
    ≡ min (length m.bytes) (m.end + length (xs ++ ys)) = omega (arith, length-append xs ys) in
    rw (b, e)

-- nothing is written past the end
pub write_full : (m : List ℕ) (end : ℕ) (xs : List ℕ) → length m ≤ end → message_in m (length m) ≡ write_in xs (message_in m end)
unfolding write_in
write_full m end xs h =
    let e : length m ≡ min (length m) (end + length xs) = omega arith in
    rw (sets_out m end xs h, ← e)

-- a message that fits ends where it should, and zeros behind it make the buffer what an answer says
module _ (m₀ m : List ℕ) (end : ℕ) (msg : List ℕ) (w : Written m₀ m end msg) (h : length msg ≤ length m₀) where
  pub written_end : end ≡ length msg
  unfolding write_in
  written_end = ap (λ (n : Message). n.end) w ∙ omega arith

  pub written_zeroed : zeroed m end ≡ padded (length m₀) msg
  unfolding write_in
  written_zeroed = rw (ap (λ (n : Message). n.bytes) w) (zeroed_behind m₀ msg end written_end h)
