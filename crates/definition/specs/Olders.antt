-- Document 02, point 8, as what is promised of the older tape: `Olders g` says of any function g from a tape, case by case as the paper
-- tells them, what it returns and what it writes. The theorems are `olders` of proofs/Olders.antt, that ours meets it, and
-- `determined` there, that whatever meets it answers as ours does on every slice of bytes (`Bytes x`) and with every buffer. (Of a list
-- of numbers that are no bytes a value may have more than 64 bits, which is no amount.)
-- Assumes nothing.
use Rattle.std.specs.Prelude.{ℕ, ◌-◌, ◌^◌, ◌<◌, ◌≤◌, ◌≡◌, ◌≢◌, ◌⊎◌, List, [], ◌∷◌, ℤ, pos, neg_ℤ, ◌*ℤ◌, ◌≤ℤ◌, ◌<ℤ◌}
use Rattle.format.specs.Entry.{Text, Entry, encode}
use Rattle.format.specs.Names.{◌∈◌}
use Rattle.format.specs.Tape.{Reading, Root, condition_root, term_root, definition_root, call_root, registry_root, read}
use Rattle.definition.specs.Answers.{Answer}
use Rattle.definition.specs.Older.{result_alone}
use Rattle.definition.specs.Returned.{Gives, RefusesAlone, ShortResult}

-- ------------------------------------------------------------------ "a signed amount"

-- The 64 bits that a number is on a tape, two's complement: from 0 to 2^63 - 1 the number itself, and for -1 to -2^63 the number and
-- 2^64. Nothing else has 64 bits.
pub data Amount : (bits : ℕ) → ℤ → Type 0 where
  not_negative : {n : ℕ} → n < 2 ^ 63 → Amount n (pos n)
  negative : {n : ℕ} → 0 < n → n ≤ 2 ^ 63 → Amount (2 ^ 64 - n) (neg_ℤ (pos n))

-- "leaves the signed 64-bit range": below -2^63, or above 2^63 - 1
abbrev pub Outside : ℤ → Type 0
Outside n = (n <ℤ neg_ℤ (pos (2 ^ 63))) ⊎ (pos (2 ^ 63) ≤ℤ n)

-- ------------------------------------------------------------------ entries

-- "each week interval turned into days at seven times the amount": a 64 is a 51 then, and any other entry stays as it is
pub data InDays : Entry → Entry → Type 0 where
  turned : {v w : ℕ} {t : Text} {n : ℤ} → Amount v n → Amount w (pos 7 *ℤ n)
      → InDays (record { code = 64; value = v; text = t }) (record { code = 51; value = w; text = t })
  kept : {e : Entry} → e.code ≢ 64 → InDays e e

pub data EachInDays : List Entry → List Entry → Type 0 where
  no_more : EachInDays [] []
  one_more : {e f : Entry} {es fs : List Entry} → InDays e f → EachInDays es fs → EachInDays (e ∷ es) (f ∷ fs)

-- "if seven times an amount leaves the signed 64-bit range": the amount of any one week
pub record Leaves (es : List Entry) : Type 0 where
  pub week : Entry
  pub stands : week ∈ es
  pub in_weeks : week.code ≡ 64
  pub amount : ℤ
  pub its_amount : Amount week.value amount
  pub sevenfold : Outside (pos 7 *ℤ amount)

-- ------------------------------------------------------------------ what is promised

-- "Points 3, 7, 8 and 10 and the equality with the Rust speak of the rewritten tree": the tree that `read` gives is it.
-- What is promised with a root, of a function g from the length of the result buffer and the tape:
pub record OfRoot {A : Type 0} (root : Root A) (g : (result_length : ℕ) → List ℕ → Answer) : Type 0 where
  -- 3: over a largest figure
  pub too_large : (r : ℕ) (x : List ℕ) → 12296 ≤ r → read root x ≡ Reading.too_large → RefusesAlone (result_alone r) 3 (g r x)
  -- "52 with 0..0, … if seven times an amount leaves the signed 64-bit range; after 3"
  pub leaves : (r : ℕ) (x : List ℕ) (a : A) → 12296 ≤ r → read root x ≡ Reading.accepted a → Leaves (root.flat a)
      → RefusesAlone (result_alone r) 52 (g r x)
  -- "the hub writes an older tape": the tape of the entries with each week in days. "A tape without weeks is copied unchanged": those are
  -- the entries that were read then, and that they are spelled as the tape's own bytes is `older_copies` of proofs/Older.antt.
  pub written : (r : ℕ) (x : List ℕ) (a : A) (es : List Entry) → 12296 ≤ r → read root x ≡ Reading.accepted a
      → EachInDays (root.flat a) es
      → Gives (result_alone r) (encode es) 0 (g r x)

-- a tape with none of the roots in 01
pub record NoRoot (x : List ℕ) : Type 0 where
  pub no_condition : read condition_root x ≡ Reading.malformed
  pub no_term : read term_root x ≡ Reading.malformed
  pub no_definition : read definition_root x ≡ Reading.malformed
  pub no_call : read call_root x ≡ Reading.malformed
  pub no_registry : read registry_root x ≡ Reading.malformed

-- "any root in 01, a lone term too". No tape has two of these roots (`one_root` of proofs/Olders.antt), as its first code tells which one
-- it has, and N or T over is 3 for each. The cases are every input that is a slice of bytes.
pub record Olders (g : (result_length : ℕ) → List ℕ → Answer) : Type 0 where
  -- "result below 12,296 bytes" is 1
  pub short : (r : ℕ) (x : List ℕ) → ShortResult (result_alone r) → RefusesAlone (result_alone r) 1 (g r x)
  -- 2
  pub malformed : (r : ℕ) (x : List ℕ) → 12296 ≤ r → NoRoot x → RefusesAlone (result_alone r) 2 (g r x)
  pub condition : OfRoot condition_root g
  pub term : OfRoot term_root g
  pub definition : OfRoot definition_root g
  pub call : OfRoot call_root g
  pub registry : OfRoot registry_root g
