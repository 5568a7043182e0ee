-- The tape of an area: the writes that make it, and that it is the encoding of what was written.
-- Assumes nothing.
use Rattle.std.proofs.Common.{◌≡◌, ℕ, ◌+◌, ◌*◌, ◌≤◌, true, List, [], ◌++◌, length, sym, refl, ◌∙◌, append_assoc, arith, length-append}
use lib.Seq.{sets}
use Rattle.format.specs.Entry.{Entry, le, text_of, encode}
use Rattle.format.proofs.Encodes.{length_encode}
use Rattle.format.proofs.Stands.{length_part}
use Rattle.definition.specs.Answers.{padded}
use Rattle.buffer.specs.Buffer.{zeroed}
use Rattle.buffer.proofs.Decides.{true_of, false_of}
use Rattle.buffer.proofs.Sets.{sets_behind}
use Rattle.buffer.proofs.Zeros.{zeroed_all, zeroed_behind}
use Rattle.area.specs.Area.{Area, RoomFor, codes_in, values_in, text_in, tape_of, finished_in, fits_area, Wrote}
use Rattle.area.proofs.Room.{fits_decides, room_decides}
use Rattle.area.proofs.Appends.{whole_fits, codes_held, values_held, text_held}

-- ------------------------------------------------------------------ the writes

module _ (P : Area) (room : RoomFor (length P.bytes) P.out 0 0) where
  abbrev n : ℕ
  n = P.out.n

  abbrev t : ℕ
  t = P.out.t

  -- the tape, grouped as it is written
  abbrev tape : List ℕ
  tape = (((le 4 n ++ le 4 t) ++ codes_in P) ++ values_in P) ++ text_in P

  whole_tape : tape_of P ≡ tape
  unfolding tape_of
  whole_tape = rw (true_of (room_decides (length P.bytes) P.out 0 0) room, tape_of) (sym (simp append_assoc))

  pub tape_written : (m w₂ w₃ w₄ w₅ m' : List ℕ)
      → w₂ ≡ sets (sets m 0 (le 4 n)) 4 (le 4 t)
      → w₃ ≡ sets w₂ 8 (codes_in P)
      → w₄ ≡ sets w₃ (8 + n) (values_in P)
      → w₅ ≡ sets w₄ (8 + 9 * n) (text_in P)
      → m' ≡ zeroed w₅ (8 + 9 * n + t)
      → m' ≡ finished_in P m
  unfolding finished_in le
  tape_written m w₂ w₃ w₄ w₅ m' e₂ e₃ e₄ e₅ e =
      let ns : List ℕ = le 4 n in
      let ts : List ℕ = le 4 t in
      let cs : List ℕ = codes_in P in
      let vs : List ℕ = values_in P in
      let tx : List ℕ = text_in P in
      let lc : length cs ≡ n = length_part P.bytes P.out.base n (omega arith) in
      let lv : length vs ≡ 8 * n = length_part P.bytes (P.out.base + 1024) (8 * n) (omega arith) in
      let lx : length tx ≡ t = length_part P.bytes (P.out.base + 9216) t (omega arith) in
      let l₃ = length-append (ns ++ ts) cs in
      let l₄ = length-append ((ns ++ ts) ++ cs) vs in
      let l₅ = length-append (((ns ++ ts) ++ cs) ++ vs) tx in
      let f₂ : w₂ ≡ sets m 0 (ns ++ ts) = e₂ ∙ sets_behind m ns ts 4 refl in
      let f₃ : w₃ ≡ sets m 0 ((ns ++ ts) ++ cs) = e₃ ∙ rw f₂ (sets_behind m (ns ++ ts) cs 8 refl) in
      let f₄ : w₄ ≡ sets m 0 (((ns ++ ts) ++ cs) ++ vs) = e₄ ∙ rw f₃ (sets_behind m ((ns ++ ts) ++ cs) vs (8 + n) (omega arith)) in
      let f₅ : w₅ ≡ sets m 0 tape = e₅ ∙ rw f₄ (sets_behind m (((ns ++ ts) ++ cs) ++ vs) tx (8 + 9 * n) (omega arith)) in
      let k : 8 + 9 * n + t ≡ length tape = omega arith in
      e ∙ rw (f₅, k, whole_tape) refl

pub none_written : (P : Area) (m : List ℕ) → (RoomFor (length P.bytes) P.out 0 0 → ⊥) → padded (length m) [] ≡ finished_in P m
unfolding finished_in tape_of
none_written P m h =
    rw (false_of (room_decides (length P.bytes) P.out 0 0) h, tape_of) (sym (zeroed_all m))

-- ------------------------------------------------------------------ what they make

module _ {P : Area} {es : List Entry} (o : Wrote P es) where
  tape_encodes : fits_area es ≡ true → tape_of P ≡ encode es
  unfolding tape_of encode
  tape_encodes f =
      let h = o.holds f in
      rw (whole_fits o, f, tape_of) (rw (codes_held h, values_held h, text_held h, h.entries, h.bytes) refl)

  pub finish_fits : (m : List ℕ) → fits_area es ≡ true → 12296 ≤ length m → finished_in P m ≡ padded (length m) (encode es)
  unfolding finished_in
  finish_fits m f l =
      let z = (fits_decides (length es) (length (text_of es))).holds f in
      rw (tape_encodes f) (zeroed_behind m (encode es) (length (encode es)) refl (omega (arith, length_encode es, z.0, z.1)))
