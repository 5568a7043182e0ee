-- Room in an area, as a test and as facts, and what an append makes of each outcome.
-- Assumes nothing.
use Rattle.std.proofs.Common.{◌≡◌, ℕ, ◌+◌, ◌*◌, ◌≤◌, Bool, false, not, ◌&&◌, eqb, List, length, refl, eqb-true}
use borrow.Author.Tests.{not-true, not-false, eqb-false}
use Rattle.format.specs.Limits.{fits_sizes}
use Rattle.buffer.specs.Buffer.{Decides}
use Rattle.buffer.proofs.Decides.{both, decides_le, decides_and, true_of, false_of}
use Rattle.area.specs.declared.Writer.{Writer}
use Rattle.area.specs.Area.{Area, RoomFor, has_room, overflow_in, grow_in, append_in, codes_in, values_in, text_in, append_out_in}

pub fits_decides : (n t : ℕ) → Decides ((n ≤ 1024) × (t ≤ 3072)) (fits_sizes n t)
unfolding fits_sizes
fits_decides n t = decides_and (decides_le n 1024) (decides_le t 3072)

live_decides : (overflowed : Bool) → Decides (overflowed ≡ false) (not overflowed)
live_decides overflowed =
    record { holds = λ e. not-true overflowed e; fails = λ e h. both (not-false overflowed e) h }

pub room_decides : (size : ℕ) (out : Writer) (k u : ℕ) → Decides (RoomFor size out k u) (has_room size out k u)
unfolding has_room
room_decides size out k u =
    let d = decides_and (decides_and (decides_le (out.base + 12288) size) (live_decides out.overflowed)) (fits_decides (out.n + k) (out.t + u)) in
    record {
      holds = λ e.
          let h = d.holds e in
          record { whole = h.0.0; live = h.0.1; entries = h.1.0; bytes = h.1.1 };
      fails = λ e r. d.fails e ((r.whole, r.live), (r.entries, r.bytes));
    }

-- the area has room for the run that three parts spell
abbrev pub RunRoom : List ℕ → List ℕ → List ℕ → Area → Type 0
RunRoom codes values text P =
    RoomFor (length P.bytes) P.out (length codes) (length text) × (length values ≡ 8 * length codes)

module _ (codes values text : List ℕ) (P : Area) where
  abbrev pub run_fits : Bool
  run_fits =
      has_room (length P.bytes) P.out (length codes) (length text) && eqb (length values) (8 * length codes)

  pub run_decides : Decides (RunRoom codes values text P) run_fits
  run_decides =
      decides_and (room_decides (length P.bytes) P.out (length codes) (length text))
      (record { holds = eqb-true (length values) (8 * length codes); fails = eqb-false (length values) (8 * length codes) })

  pub append_room : RunRoom codes values text P → append_in codes values text P ≡ grow_in codes values text P
  unfolding append_in
  append_room h = rw (true_of run_decides h, append_in) refl

  pub append_full : (RunRoom codes values text P → ⊥) → append_in codes values text P ≡ overflow_in P
  unfolding append_in
  append_full h = rw (false_of run_decides h, append_in) refl

-- ------------------------------------------------------------------ all of another area

module _ (Q P : Area) where
  pub append_out_whole : RoomFor (length Q.bytes) Q.out 0 0 → append_out_in Q P ≡ append_in (codes_in Q) (values_in Q) (text_in Q) P
  unfolding append_out_in
  append_out_whole room = rw (true_of (room_decides (length Q.bytes) Q.out 0 0) room, append_out_in) refl

  pub append_out_none : (RoomFor (length Q.bytes) Q.out 0 0 → ⊥) → overflow_in P ≡ append_out_in Q P
  unfolding append_out_in
  append_out_none full = rw (false_of (room_decides (length Q.bytes) Q.out 0 0) full, append_out_in) refl
