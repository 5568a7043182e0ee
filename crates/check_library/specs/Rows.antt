-- The library check by the places of a registry's definitions, the rows of its index.
-- Assumes nothing.
use Rattle.std.specs.Prelude.{ℕ, zero, suc, ◌≤◌, ◌≡◌, List, [], ◌∷◌, ◌++◌, length, Result, Ok, Err}
use Rattle.format.specs.Entry.{le}
use Rattle.definition.specs.Outcome.{Outcome}
use Rattle.definition.specs.Answers.{Answer, padded, answer, without_work}
use Rattle.definition.specs.Library.{Refused as Listed, list_bytes}
use Rattle.buffer.specs.Buffer.{Message, message_in as written, write_in, zeroed}
use Rattle.tape.specs.declared.layout.Layout.{Layout}
use Rattle.messages.specs.Reason.{number_of}
use Rattle.messages.specs.declared.Refused as code
use Rattle.answer.specs.Matches.{message_in, RefusalMatches}
use Rattle.registry.specs.Places.{and_then_in, index_at, build_at}
use Rattle.registry.specs.declared.rows.Row.{Row}
use Rattle.check_body.specs.Definition.{def_in, verdict_of}

-- ------------------------------------------------------------------ the check of a row

module _ (s : List ℕ) (l : Layout) where
  unfoldable pub verdict_at : List Row → ℕ → Result Unit code.Refused
  verdict_at [] i = (Ok tt)
  verdict_at (r ∷ rs) zero = verdict_of (def_in s l r.place)
  verdict_at (r ∷ rs) (suc i) = verdict_at rs i

  -- 10 and 11 before it, in a table that has room for so many definitions
  unfoldable pub checked_in : (room : ℕ) → ℕ → Result Unit code.Refused
  checked_in room i = let rs : List Row = index_at s l room in and_then_in (build_at s l rs) (verdict_at rs i)

-- ------------------------------------------------------------------ the list

-- a refused definition: index, number, start and end, 4 bytes each
unfoldable pub row_of : ℕ → code.Refused → List ℕ
row_of i f = le 4 i ++ (le 4 (number_of f.reason) ++ (le 4 f.span.start ++ le 4 f.span.end))

-- a buffer with a list in it, and one row more if the definition is refused
unfoldable pub put_in : ℕ → Result Unit code.Refused → Message → Message
put_in i (Ok tt) m = m
put_in i (Err f) m = write_in (row_of i f) m

-- the verdict of the registry, and what the list's buffer holds
pub record Listing : Type 0 where
  pub verdict : Result Unit code.Refused
  pub bytes : List ℕ

abbrev pub listing : Result Unit code.Refused → List ℕ → Listing
listing v bytes = record { verdict = v; bytes = bytes }

-- the list and zeros behind it, where 10 and 11 pass
abbrev pub on_names : Message → List ℕ → Result Unit code.Refused → Listing
on_names m list (Ok tt) = listing (Ok tt) (zeroed m.bytes m.end)
on_names m list (Err f) = listing (Err f) list

module _ (s : List ℕ) (l : Layout) where
  -- those of the rows from index i on that are refused
  unfoldable pub put_from : ℕ → List Row → Message → Message
  put_from i [] m = m
  put_from i (r ∷ rs) m = put_from (suc i) rs (put_in i (verdict_of (def_in s l r.place)) m)

  unfoldable pub listed_in : (room : ℕ) → List ℕ → Listing
  listed_in room list =
      let rs : List Row = index_at s l room in
      on_names (put_from 0 rs (written list 0)) list (build_at s l rs)

  -- ------------------------------------------------------------------ beside the definition

  -- in a buffer of n bytes the list is the outcome's, or the refusal is
  unfoldable pub ListMatches : Result Unit code.Refused → (bytes : List ℕ) (n : ℕ) → Outcome (List Listed) → Type 0
  ListMatches (Ok tt) bytes n (Outcome.done rows charged) = (charged ≡ 0) × (bytes ≡ padded n (list_bytes rows))
  ListMatches (Ok tt) bytes n (Outcome.refused r charged) = ⊥
  ListMatches (Err f) bytes n (Outcome.done rows charged) = ⊥
  ListMatches (Err f) bytes n (Outcome.refused r charged) = (charged ≡ 0) × RefusalMatches s l s l f r

  -- a is the answer of every outcome that matches the list, made in the buffer `list`
  abbrev pub AnswersList : (list : List ℕ) (m : ℕ) → Answer → Type 0
  AnswersList list m a =
      let x : Listing = listed_in 255 list in
      (o : Outcome (List Listed)) → ListMatches x.verdict x.bytes (length list) o → length (message_in o) ≤ m
      → a ≡ answer list_bytes (without_work (length list) m) o
