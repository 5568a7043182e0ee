-- Zeros behind a place: where the buffer ends in front of it, and what was written in front of them.
-- Assumes nothing.
use mathlib.Core.Path.{◌≡◌, refl}
use mathlib.Core.List.{List, [], append-nil}
use Prim.Native.Nat.{ℕ, ◌-◌, ◌≤◌}
use native.Mathlib.Omega.{arith}
use lib.ListN.{length}
use lib.Seq.{sets, length-sets, take_all}
use Rattle.definition.specs.Answers.{padded}
use Rattle.buffer.specs.Buffer.{zeroed}
use Rattle.buffer.proofs.Kept.{spells_sets}

pub zeroed_end : (s : List ℕ) (i : ℕ) → length s ≤ i → zeroed s i ≡ s
unfolding zeroed
zeroed_end s i h =
    let e : length s - i ≡ 0 = omega arith in
    rw (e, take_all i s, append-nil)

pub zeroed_all : (s : List ℕ) → zeroed s 0 ≡ padded (length s) []
unfolding zeroed padded
zeroed_all s = refl

-- zeros behind what was written
pub zeroed_behind : (m xs : List ℕ) (k : ℕ) → k ≡ length xs → length xs ≤ length m → zeroed (sets m 0 xs) k ≡ padded (length m) xs
unfolding zeroed padded
zeroed_behind m xs k e h = rw (e, length-sets, (spells_sets m 0 xs (omega arith)).spelled) refl
