-- Decimal digits of numbers of 32 bits: how many, and one more written behind the others.
-- Assumes nothing.
use mathlib.Core.Path.{◌≡◌, ap, ◌∙◌}
use mathlib.Core.List.{List, [], ◌∷◌}
use Prim.Native.Nat.{ℕ, ◌+◌, ◌/◌, ◌%◌, ◌≤◌, ◌<◌}
use native.Mathlib.Omega.{arith}
use lib.ListN.{length, length-append}
use lib.Seq.{sets}
use Rattle.definition.specs.Text.{decimal}
use Rattle.definition.proofs.Decimal.{decimal_small, decimal_step, decimal_length}
use Rattle.buffer.proofs.Sets.{sets_behind}

pub at_most_10_digits : (n : ℕ) → n < 4294967296 → length (decimal n) ≤ 10
at_most_10_digits n h = decimal_length 9 n (omega arith)

pub small_length : (n : ℕ) → n < 10 → length (decimal n) ≡ 1
small_length n h = ap length (decimal_small n h)

pub step_length : (n : ℕ) → 10 ≤ n → length (decimal n) ≡ length (decimal (n / 10)) + 1
step_length n h = ap length (decimal_step n h) ∙ length-append (decimal (n / 10)) ((48 + n % 10) ∷ [])

-- a digit behind the others
pub digits_more : (d : List ℕ) (n k : ℕ) → 10 ≤ n → k ≡ length (decimal (n / 10))
    → sets (sets d 0 (decimal (n / 10))) k ((48 + n % 10) ∷ []) ≡ sets d 0 (decimal n)
digits_more d n k h q =
    rw (decimal_step n h) (sets_behind d (decimal (n / 10)) ((48 + n % 10) ∷ []) k q)
