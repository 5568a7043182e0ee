-- A message at the front of a buffer and zeros behind it fill the buffer.
-- Assumes nothing.
use Prim.Native.Nat.{ℕ, min, ◌+◌, ◌-◌, ◌≤◌}
use native.Mathlib.Omega.{arith}
use mathlib.Core.Path.{◌≡◌, sym, ap, ◌∙◌}
use mathlib.Core.List.{List, ◌++◌, append-nil}
use lib.ListN.{length, take, drop, take-append-drop, replicate, length-append, length-replicate, drop_of_length-le}
use lib.Seq.{sets, sets-eq, length-sets, take_all, length-take-le, take-append-le}
use Rattle.format.specs.Entry.{Text}
use Rattle.definition.specs.Answers.{padded}
use Rattle.buffer.specs.Buffer.{Message, message_in, write_in, zeroed, Written}
use Rattle.buffer.proofs.Decides.{le_or}
use Rattle.buffer.proofs.Sets.{sets_out, sets_append}
use Rattle.buffer.proofs.Zeros.{zeroed_end}
use Rattle.buffer.proofs.Messages.{written_zeroed}
use Rattle.messages.specs.Write.{filled}

-- a list that is written over one that is no longer
sets_over : (l vs : List ℕ) → length l ≤ length vs → sets l 0 vs ≡ take (length l) vs
sets_over l vs h =
    let n = length l in
    let front = take n vs in
    let k : length front ≡ n = length-take-le n vs h in
    ap (sets l 0) (sym (take-append-drop n vs)) ∙ sets_append l 0 front (drop n vs)
    ∙ sets_out (sets l 0 front) (0 + length front) (drop n vs) (rw length-sets (omega arith))
    ∙ sets-eq front l 0 (omega arith) ∙ ap (◌++◌ front) (drop_of_length-le l {i = 0 + length front} (omega arith)) ∙ append-nil front

module _ (m₀ m : List ℕ) (end : ℕ) (msg : Text) (w : Written m₀ m end msg) where
  fills_room : length msg ≤ length m₀ → zeroed m end ≡ take (length m₀) (padded (length m₀) msg)
  unfolding padded
  fills_room h =
      written_zeroed m₀ m end msg w h
      ∙ sym (take_all (length m₀) (padded (length m₀) msg) (simp (length-append, length-replicate) (omega arith)))

  fills_whole : length m₀ ≤ length msg → zeroed m end ≡ take (length m₀) (padded (length m₀) msg)
  unfolding padded write_in
  fills_whole h =
      let b : m ≡ sets m₀ 0 msg = ap (λ (n : Message). n.bytes) w in
      let e : end ≡ length m₀ = ap (λ (n : Message). n.end) w ∙ omega arith in
      let k : length m ≡ length m₀ = ap length b ∙ length-sets m₀ 0 msg in
      zeroed_end m end (omega arith) ∙ b ∙ sets_over m₀ msg h
      ∙ sym (take-append-le (length m₀) msg (replicate (length m₀ - length msg) 0) h)

  pub fills : message_in (zeroed m end) end ≡ filled (length m₀) msg
  unfolding filled write_in
  fills =
      let b = le_or (length msg) (length m₀) fills_room (λ h. fills_whole (omega arith)) in
      let e : end ≡ min (length m₀) (length msg) = ap (λ (n : Message). n.end) w ∙ omega arith in
      λ i. record { bytes = b i; end = e i }
