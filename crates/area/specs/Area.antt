-- A work area of a slice: what its writer knows, what each write makes of area and writer, and when entries were written to it.
-- The area at base b is 12,288 bytes: 1,024 codes at b, as many values at b + 1024, and 3,072 bytes of text at b + 9216.
-- Assumes nothing.
use Rattle.std.specs.Prelude.{◌≡◌, ℕ, ◌+◌, ◌*◌, ◌%◌, ◌^◌, ◌≤◌, Bool, true, false, not, ◌&&◌, List, [], ◌∷◌, ◌++◌, length, ◌==◌, nat_le, nat_lt}
use Rattle.std.proofs.lemmas.List.Edits.{sets}
use Rattle.format.specs.Entry.{Text, Entry, le, text_of}
use Rattle.format.specs.Limits.{fits_sizes}
use Rattle.format.specs.Tape.{from_le}
use Rattle.format.specs.Stands.{part, Stands}
use Rattle.buffer.specs.Buffer.{zeroed, Kept}
use Rattle.area.specs.declared.Writer.{Writer}

-- a writer, and the slice that its area is in
pub record Area : Type 0 where
  pub out : Writer
  pub bytes : List ℕ

abbrev pub area_in : Writer → List ℕ → Area
area_in out bytes = record { out = out; bytes = bytes }

-- where the next code, value and text go
abbrev pub code_end : Writer → ℕ
code_end out = out.base + out.n

abbrev pub value_end : Writer → ℕ
value_end out = out.base + 1024 + 8 * out.n

abbrev pub text_end : Writer → ℕ
text_end out = out.base + 9216 + out.t

-- ------------------------------------------------------------------ appending

-- the area stands within `size` bytes, nothing has overflowed, and there is room for k more entries with u bytes of text
pub record RoomFor (size : ℕ) (out : Writer) (k u : ℕ) : Type 0 where
  pub whole : out.base + 12288 ≤ size
  pub live : out.overflowed ≡ false
  pub entries : out.n + k ≤ 1024
  pub bytes : out.t + u ≤ 3072

unfoldable pub has_room : ℕ → Writer → ℕ → ℕ → Bool
has_room size out k u = (nat_le (out.base + 12288) size && not out.overflowed) && fits_sizes (out.n + k) (out.t + u)

-- the writer of an area with nothing in it
abbrev pub empty_at : ℕ → Writer
empty_at base = record { base = base; n = 0; t = 0; overflowed = false }

-- the writer whose entries were too many
abbrev pub overflow_of : Writer → Writer
overflow_of out = record { base = out.base; n = out.n; t = out.t; overflowed = true }

-- the writer with k entries more, and u bytes of text
abbrev pub grown : Writer → ℕ → ℕ → Writer
grown out k u = record { base = out.base; n = out.n + k; t = out.t + u; overflowed = false }

-- the codes and values of entries whose text stands there already
abbrev pub headed : List ℕ → Writer → List ℕ → List ℕ → List ℕ
headed s out codes values = sets (sets s (code_end out) codes) (value_end out) values

unfoldable pub overflow_in : Area → Area
overflow_in P = area_in (overflow_of P.out) P.bytes

-- a run of entries for which there is room
unfoldable pub grow_in : List ℕ → List ℕ → List ℕ → Area → Area
grow_in codes values text P =
    area_in (grown P.out (length codes) (length text))
    (headed (sets P.bytes (text_end P.out) text) P.out codes values)

-- A run of entries, given as the three parts of a tape that spell it. Where there is no room for all of it, or the parts spell no
-- run, nothing is written, and the writer remembers that.
unfoldable pub append_in : List ℕ → List ℕ → List ℕ → Area → Area
append_in codes values text P =
    elim (has_room (length P.bytes) P.out (length codes) (length text) && length values == 8 * length codes) [
      | true ↦ grow_in codes values text P
      | false ↦ overflow_in P
    ]

-- an entry without text, and one whose value is its text's length
unfoldable pub put_in : ℕ → ℕ → Area → Area
put_in code value = append_in (code ∷ []) (le 8 value) []

unfoldable pub put_text_in : ℕ → Text → Area → Area
put_text_in code text = append_in (code ∷ []) (le 8 (length text)) text

-- ------------------------------------------------------------------ what an area holds

-- nothing has overflowed, and all that was written stands within the slice
abbrev pub is_whole : Area → Bool
is_whole P = has_room (length P.bytes) P.out 0 0

abbrev pub codes_in : Area → List ℕ
codes_in P = part P.bytes P.out.base P.out.n

abbrev pub values_in : Area → List ℕ
values_in P = part P.bytes (P.out.base + 1024) (8 * P.out.n)

abbrev pub text_in : Area → List ℕ
text_in P = part P.bytes (P.out.base + 9216) P.out.t

-- all that another area holds, one of another slice
unfoldable pub append_out_in : Area → Area → Area
append_out_in Q P = elim (is_whole Q) [ true ↦ append_in (codes_in Q) (values_in Q) (text_in Q) P | false ↦ overflow_in P ]

-- the value whose bytes stand at a place, with a number added
abbrev pub added_at : ℕ → ℕ → List ℕ → List ℕ
added_at at added bytes = sets bytes at (le 8 ((from_le (part bytes at 8) + added) % 2 ^ 64))

-- The value of the entry at an index, with a number added. Where the area holds no such entry, nothing changes.
unfoldable pub patch_in : ℕ → ℕ → Area → Area
patch_in index added P =
    elim (is_whole P && nat_lt index P.out.n) [
      | true ↦ area_in P.out (added_at (P.out.base + 1024 + 8 * index) added P.bytes)
      | false ↦ P
    ]

-- the tape of what an area holds; no bytes where it has overflowed
unfoldable pub tape_of : Area → List ℕ
tape_of P =
    elim (is_whole P) [
      | true ↦ le 4 P.out.n ++ (le 4 P.out.t ++ (codes_in P ++ (values_in P ++ text_in P)))
      | false ↦ []
    ]

-- a buffer that the tape is written to, with zeros behind it
unfoldable pub finished_in : Area → List ℕ → List ℕ
finished_in P result = zeroed (sets result 0 (tape_of P)) (length (tape_of P))

-- ------------------------------------------------------------------ entries that were written

abbrev pub fits_area : List Entry → Bool
fits_area es = fits_sizes (length es) (length (text_of es))

-- es stands in the area, and nothing else
pub record Holds (P : Area) (es : List Entry) : Type 0 where
  pub entries : P.out.n ≡ length es
  pub bytes : P.out.t ≡ length (text_of es)
  pub stands : Stands P.bytes P.out.base (P.out.base + 1024) (P.out.base + 9216) 0 0 es

-- es was written: its area, which the slice has, holds it, or it has overflowed, since it does not fit
pub record Wrote (P : Area) (es : List Entry) : Type 0 where
  pub whole : P.out.base + 12288 ≤ length P.bytes
  pub overflows : P.out.overflowed ≡ not (fits_area es)
  pub holds : fits_area es ≡ true → Holds P es

-- from P to Q the slice changed within P's area alone
pub record Within (P Q : Area) : Type 0 where
  pub base : Q.out.base ≡ P.out.base
  pub kept : Kept P.out.base (P.out.base + 12288) P.bytes Q.bytes

-- an entry with another value
abbrev pub valued : Entry → ℕ → Entry
valued e v = record { code = e.code; value = v; text = e.text }
