-- What the writes make of a buffer.
-- Assumes nothing.
use Prim.Native.Nat.{ℕ, ◌+◌, ◌-◌, ◌≤◌}
use mathlib.Core.Path.{◌≡◌, refl, ◌∙◌}
use mathlib.Core.List.{List}
use lib.ListN.{length, replicate}
use lib.Seq.{sets, length-sets}
use Rattle.definition.specs.Answers.{padded}
use Rattle.buffer.proofs.Sets.{sets_front}
use Rattle.buffer.proofs.Zeros.{zeroed_behind}
use Rattle.provider.specs.Turned.{turned_on}

-- a buffer that is long enough for a tape, and a tape for its codes
pub turned_padded : (m tape codes : List ℕ) → length tape ≤ length m → 8 + length codes ≤ length tape
    → turned_on m tape codes ≡ padded (length m) (sets tape 8 codes)
unfolding padded
turned_padded m tape codes room inside =
    rw (zeroed_behind m tape (length tape) refl room)
    (sets_front tape (replicate (length m - length tape) 0) 8 codes inside ∙ rw (length-sets tape 8 codes) refl)
