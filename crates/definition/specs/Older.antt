-- The older tape as an operation (document 02, point 8), and what is promised of it. The theorems are in proofs/Older.antt.
-- Assumes nothing.
use Rattle.std.specs.Prelude.{ℕ, ◌≤◌, ◌≡◌, List, Bool, true, false, T, leb}
use Rattle.std.proofs.Math.Option.{none, some}
use Rattle.format.specs.Entry.{Text, Entry, encode, text_of}
use Rattle.format.specs.Macro.{holds}
use Rattle.format.specs.Tape.{Reading, Root, read_tape, accept, read, Bytes}
use Rattle.format.specs.Older.{older, older_entries, fits_older, Kind, TreeOf, root_of, kind_of, first_code, takes_texts, accept_old, printable, accept_last_year}
use Rattle.definition.specs.Outcome.{Outcome}
use Rattle.definition.specs.Answers.{Answer, Buffers, padded, answer, number_alone, reading}
use Rattle.definition.specs.Kept.{Bounded}

-- ------------------------------------------------------------------ the operation

-- "New numbers: 52 with 0..0, … if seven times an amount leaves the signed 64-bit range; after 3."
unfoldable pub unless_out : {A : Type 0} → (fits : Bool) → A → Outcome A
unless_out true a = Outcome.done a 0
unless_out false a = number_alone 52

-- the entries of the older tape of one root
unfoldable pub older_of : {A : Type 0} → Root A → List ℕ → Outcome (List Entry)
older_of root bytes =
    reading (read root bytes) λ a. unless_out (fits_older (root.flat a)) (root.flat (root.replace older a))

-- "of any root in 01, a lone term too": the first code tells which, and any other is 2, or 3 where N or T is over
unfoldable pub older_tape : List ℕ → Outcome (List Entry)
older_tape bytes =
    elim (kind_of (first_code bytes)) [ some k ↦ older_of (root_of k) bytes | none ↦ reading (read_tape bytes) λ es. number_alone 2 ]

-- a result alone; "result below 12,296 bytes" is 1
abbrev pub result_alone : ℕ → Buffers
result_alone n = record { result_length = n; work_length = 0; message_length = 0 }

unfoldable pub older_answer : (result_length : ℕ) → List ℕ → Answer
older_answer n bytes = answer encode (result_alone n) (elim (leb 12296 n) [ true ↦ older_tape bytes | false ↦ number_alone 1 ])

-- ------------------------------------------------------------------ what is promised

-- The result of a 0: the tape of the tree that was read, each week interval in days (equally long: format's `EquallyLong`). It
-- holds no 64 and no 2. "An old head that takes the tape's texts", whatever texts it takes, accepts it as that tree; a head of
-- last year does where all text is of bytes 20 to 7E.
pub record OlderResult (n : ℕ) (bytes : List ℕ) (a : Answer) : Type 0 where
  pub kind : Kind
  pub tree : TreeOf kind
  pub was_read : read (root_of kind) bytes ≡ Reading.accepted tree
  pub in_range : T (fits_older ((root_of kind).flat tree))
  pub result : a.result ≡ padded n (encode ((root_of kind).flat ((root_of kind).replace older tree)))
  pub entry_by_entry : (root_of kind).flat ((root_of kind).replace older tree) ≡ older_entries ((root_of kind).flat tree)
  pub no_weeks : holds 64 ((root_of kind).flat ((root_of kind).replace older tree)) ≡ false
  pub no_or : holds 2 ((root_of kind).flat ((root_of kind).replace older tree)) ≡ false
  pub accepted_by_old : (takes : Text → Bool) → T (takes_texts takes ((root_of kind).flat tree))
      → accept_old takes (root_of kind) (encode ((root_of kind).flat ((root_of kind).replace older tree)))
      ≡ Reading.accepted ((root_of kind).replace older tree)
  pub accepted_last_year : T (printable (text_of ((root_of kind).flat tree)))
      → accept_last_year (root_of kind) (encode ((root_of kind).flat ((root_of kind).replace older tree)))
      ≡ Reading.accepted ((root_of kind).replace older tree)

abbrev pub OlderAccepted : Type 0
OlderAccepted =
    (n : ℕ) (bytes : List ℕ) → Bytes bytes → (older_answer n bytes).number ≡ 0 → OlderResult n bytes (older_answer n bytes)

-- "a tape without weeks is copied unchanged", and since point 12 it has no Or either
pub record Copied (n : ℕ) (bytes : List ℕ) (a : Answer) : Type 0 where
  pub succeeds : a.number ≡ 0
  pub unchanged : a.result ≡ padded n bytes

abbrev pub OlderCopies : Type 0
OlderCopies =
    (n : ℕ) (bytes : List ℕ) (k : Kind) (tree : TreeOf k) → 12296 ≤ n → Bytes bytes
    → accept (root_of k) bytes ≡ Reading.accepted tree
    → holds 64 ((root_of k).flat tree) ≡ false
    → holds 2 ((root_of k).flat tree) ≡ false
    → Copied n bytes (older_answer n bytes)

-- "A head of last year refuses such a tape with 2", as does every old head, whatever texts it takes.
abbrev pub LastYearRefuses : Type 0
LastYearRefuses =
    (takes : Text → Bool) (k : Kind) (bytes : List ℕ) (es : List Entry) → read_tape bytes ≡ Reading.accepted es → holds 64 es ≡ true
    → accept_old takes (root_of k) bytes ≡ Reading.malformed

-- no message, nothing charged, and the whole buffer is written
abbrev pub OlderBounded : Type 0
OlderBounded = (n : ℕ) (bytes : List ℕ) → Bytes bytes → Bounded (result_alone n) 0 (older_answer n bytes)

-- Whoever unfolds this unfolds every definition of this file.
unfoldable pub open_older_answer : Unit {0}
unfolding
    unless_out older_of older_tape older_answer
open_older_answer = tt
