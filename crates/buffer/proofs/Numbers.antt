-- Numbers from little-endian bytes, four and eight of them, and the bytes of a value.
-- Assumes nothing.
use mathlib.Core.Path.{◌≡◌, refl, ◌∙◌}
use mathlib.Core.List.{List, [], ◌∷◌}
use Prim.Native.Nat.{ℕ, suc, zero, ◌+◌, ◌*◌, ◌/◌, ◌≤◌}
use native.Mathlib.Omega.{arith}
use lib.ListN.{length, get_or, drop_of_length-le}
use lib.Seq.{take-nil}
use Rattle.std.specs.Int.{w64, to_le_bytes}
use Rattle.format.specs.Entry.{le}
use Rattle.format.specs.Tape.{from_le}
use Rattle.format.specs.Stands.{part}

-- past the end there are no bytes
from_le_past : (s : List ℕ) (i n : ℕ) → length s ≤ i → from_le (part s i n) ≡ 0
unfolding from_le
from_le_past s i n h = rw (drop_of_length-le s h, take-nil) refl

pub size_past : (s : List ℕ) (i : ℕ) → length s ≤ i → from_le (part s i 4) ≡ 0
size_past s i h = from_le_past s i 4 h

pub value_past : (s : List ℕ) (i : ℕ) → length s ≤ i → from_le (part s i 8) ≡ 0
value_past s i h = from_le_past s i 8 h

-- the byte at i, and those from j on, which is the next
from_le_cons : (s : List ℕ) (i j n : ℕ) → j ≡ suc i → from_le (part s i (suc n)) ≡ get_or s i 0 + 256 * from_le (part s j n)
unfolding from_le
from_le_cons s i j n e = go s i ∙ rw e refl
  where
    go : (s : List ℕ) (i : ℕ) → from_le (part s i (suc n)) ≡ get_or s i 0 + 256 * from_le (part s (suc i) n)
    go [] zero = rw take-nil refl
    go [] (suc i) = rw take-nil refl
    go (a ∷ s) zero = refl
    go (a ∷ s) (suc i) = go s i

pub from_le_size : (s : List ℕ) (i : ℕ)
    → from_le (part s i 4) ≡ get_or s i 0 + 256 * (get_or s (i + 1) 0 + 256 * (get_or s (i + 2) 0 + 256 * get_or s (i + 3) 0))
unfolding from_le
from_le_size s i =
    omega (
      arith,
      from_le_cons s i (i + 1) 3 (omega arith),
      from_le_cons s (i + 1) (i + 2) 2 (omega arith),
      from_le_cons s (i + 2) (i + 3) 1 (omega arith),
      from_le_cons s (i + 3) (i + 4) 0 (omega arith),
    )

pub from_le_value : (s : List ℕ) (i : ℕ) → from_le (part s i 8) ≡ from_le (part s i 4) + 4294967296 * from_le (part s (i + 4) 4)
unfolding from_le
from_le_value s i =
    omega (
      arith,
      from_le_size s i,
      from_le_cons s i (i + 1) 7 (omega arith),
      from_le_cons s (i + 1) (i + 2) 6 (omega arith),
      from_le_cons s (i + 2) (i + 3) 5 (omega arith),
      from_le_cons s (i + 3) (i + 4) 4 (omega arith),
    )

-- eight bytes that were read one by one
pub from_le_8_bytes : (s : List ℕ) (i : ℕ)
    → from_le (part s i 8)
    ≡ get_or s i 0 + 256 * get_or s (i + 1) 0 + 65536 * get_or s (i + 2) 0 + 16777216 * get_or s (i + 3) 0
    + 4294967296 * get_or s (i + 4) 0 + 1099511627776 * get_or s (i + 5) 0 + 281474976710656 * get_or s (i + 6) 0
    + 72057594037927936 * get_or s (i + 7) 0
unfolding from_le
from_le_8_bytes s i =
    omega (
      arith,
      from_le_value s i,
      from_le_size s i,
      from_le_cons s (i + 4) (i + 5) 3 (omega arith),
      from_le_cons s (i + 5) (i + 6) 2 (omega arith),
      from_le_cons s (i + 6) (i + 7) 1 (omega arith),
      from_le_cons s (i + 7) (i + 8) 0 (omega arith),
    )

pub bytes_of_value : (v : ℕ) → to_le_bytes w64 v ≡ le 8 v
unfolding le
bytes_of_value v =
    let e₂ : v / 65536 ≡ v / 256 / 256 = omega arith in
    let e₃ : v / 16777216 ≡ v / 256 / 256 / 256 = omega arith in
    let e₄ : v / 4294967296 ≡ v / 256 / 256 / 256 / 256 = omega arith in
    let e₅ : v / 1099511627776 ≡ v / 256 / 256 / 256 / 256 / 256 = omega arith in
    let e₆ : v / 281474976710656 ≡ v / 256 / 256 / 256 / 256 / 256 / 256 = omega arith in
    let e₇ : v / 72057594037927936 ≡ v / 256 / 256 / 256 / 256 / 256 / 256 / 256 = omega arith in
    cc
