-- A generated name: its length, the writes that make it, and the entry that has it as text.
-- Assumes nothing.
use Rattle.std.proofs.Common.{◌≡◌, ℕ, zero, suc, ◌+◌, ◌<◌, ◌≤◌, List, [], ◌∷◌, ◌++◌, length, sym, refl, ap, ◌∙◌, arith, length-append}
use lib.Seq.{sets}
use Rattle.format.specs.Entry.{Text, le}
use Rattle.format.proofs.Encodes.{length_le}
use Rattle.definition.specs.Text.{utf8, utf8_char, decimal}
use Rattle.definition.specs.Substitute.{start_name, in_file, generated}
use Rattle.definition.proofs.Decimal.{decimal_length}
use Rattle.buffer.specs.Buffer.{Message, message_in, write_in}
use Rattle.buffer.proofs.Messages.{write_append}
use Rattle.area.specs.Area.{Area, area_in, text_end, RoomFor, grown, headed, overflow_in, grow_in, put_text_in}
use Rattle.area.proofs.Room.{append_room, append_full}

-- ------------------------------------------------------------------ the name

in_file_lem : (name : Text) (file : ℕ) → 0 < file → in_file file name ≡ name ++ (35 ∷ decimal file)
unfolding in_file utf8 utf8_char
in_file_lem name zero h = absurd (omega arith)
in_file_lem name (suc f) h = refl

pub length_in_file : (file : ℕ) → 0 < file → length (in_file file []) ≡ 1 + length (decimal file)
length_in_file file h = rw (in_file_lem [] file h) (omega arith)

pub length_file_0 : (file : ℕ) → file ≤ 0 → length (in_file file []) ≡ 0
unfolding in_file
length_file_0 zero h = refl
length_file_0 (suc f) h = absurd (omega arith)

-- `#` and five digits at the most
pub file_short : (file : ℕ) → file < 65536 → length (in_file file []) ≤ 6
unfolding in_file
file_short zero h = omega arith
file_short (suc f) h = omega (arith, length_in_file (suc f) (omega arith), decimal_length 4 (suc f) (omega arith))

pub length_generated : (name : Text) (start file : ℕ)
    → length (generated name start file) ≡ length name + 1 + length (decimal start) + length (in_file file [])
unfolding generated start_name in_file utf8 utf8_char
length_generated name start zero = length-append name (36 ∷ decimal start) ∙ omega arith
length_generated name start (suc f) =
    length-append (name ++ (36 ∷ decimal start)) (35 ∷ decimal (suc f)) ∙ omega (arith, length-append name (36 ∷ decimal start))

-- ------------------------------------------------------------------ the writes

module _ (s name : List ℕ) (start file : ℕ) where
  -- a sign, and a number behind it
  abbrev marked : ℕ → ℕ → Message → Message
  marked sign n m = write_in (decimal n) (write_in (sign ∷ []) m)

  marked_lem : (sign n : ℕ) (m : Message) → marked sign n m ≡ write_in (sign ∷ decimal n) m
  marked_lem sign n m = write_append (sign ∷ []) (decimal n) m

  abbrev named : Message
  named = marked 36 start (write_in name (message_in s 0))

  name_written : named ≡ write_in (start_name name start) (message_in s 0)
  unfolding start_name utf8 utf8_char
  name_written = marked_lem 36 start (write_in name (message_in s 0)) ∙ write_append name (36 ∷ decimal start) (message_in s 0)

  pub file_0_written : file ≤ 0 → sets s 0 (generated name start file) ≡ named.bytes
  unfolding write_in generated in_file
  file_0_written h =
      let e : file ≡ 0 = omega arith in
      rw e (ap (λ (m : Message). m.bytes) (sym name_written))

  in_file_named : 0 < file → marked 35 file named ≡ write_in (in_file file (start_name name start)) (message_in s 0)
  in_file_named h =
      marked_lem 35 file named
      ∙ rw (name_written, in_file_lem (start_name name start) file h)
      (write_append (start_name name start) (35 ∷ decimal file) (message_in s 0))

  pub in_file_written : 0 < file → sets s 0 (generated name start file) ≡ (marked 35 file named).bytes
  unfolding write_in generated
  in_file_written h = ap (λ (m : Message). m.bytes) (sym (in_file_named h))

-- ------------------------------------------------------------------ the entry

module _ (code : ℕ) (text : Text) (P : Area) where
  pub put_text_room : RoomFor (length P.bytes) P.out 1 (length text)
      → put_text_in code text P
      ≡ area_in (grown P.out 1 (length text))
      (headed (sets P.bytes (text_end P.out) text) P.out (code ∷ []) (le 8 (length text)))
  unfolding put_text_in grow_in
  put_text_room room = append_room (code ∷ []) (le 8 (length text)) text P (room, length_le 8 (length text))

  pub put_text_full : (RoomFor (length P.bytes) P.out 1 (length text) → ⊥) → overflow_in P ≡ put_text_in code text P
  unfolding put_text_in
  put_text_full full = sym (append_full (code ∷ []) (le 8 (length text)) text P (λ h. full h.0))
