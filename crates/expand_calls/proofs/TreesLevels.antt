-- The areas of the levels of a work buffer: what a level above does leaves an area as it was, and what a call became goes behind it.
-- Assumes nothing.
use Prim.Native.Nat.{ℕ, ◌+◌, ◌≤◌}
use native.Mathlib.Omega.{arith}
use mathlib.Core.Path.{◌≡◌, refl, sym, ap, ◌∙◌}
use mathlib.Core.List.{List, ◌++◌}
use mathlib.Core.Bool.{true, false}
use lib.ListN.{length, take, drop}
use lib.Seq.{take-take, drop-length}
use borrow.Author.Tests.{le-leb}
use Rattle.format.specs.Entry.{Entry, codes_of, values_of, text_of}
use Rattle.format.specs.Stands.{Spells}
use Rattle.format.proofs.Accepted.{length_codes}
use Rattle.format.proofs.All.{all_append}
use Rattle.format.proofs.Encodes.{length_values}
use Rattle.format.proofs.Stands.{stands_first, first_stands}
use Rattle.buffer.specs.Buffer.{Kept}
use Rattle.buffer.proofs.Kept.{spells_front}
use Rattle.area.specs.Area.{Area, area_in, fits_area, append_out_in, Wrote}
use Rattle.area.specs.declared.Writer.{Writer}
use Rattle.area.proofs.Appends.{fits_front, out_append_out}
use Rattle.area.proofs.Room.{fits_decides}
use Rattle.area.proofs.Within.{within_append_out}
use Rattle.subst_places.proofs.TreesWalk.{Written}
use Rattle.expand_calls.specs.Calls.{above}
use Rattle.expand_calls.proofs.TreesWalk.{Above}

-- the next level's area is the next in the buffer, and nothing is in it
pub above_is : (out : Writer) → out.base ≤ 65536 → above out ≡ record { base = out.base + 12288; n = 0; t = 0; overflowed = false }
unfolding above
above_is out h = rw (le-leb out.base 65536 h)

-- what changes behind an area leaves it as it was
module _ (out : Writer) {s s' : List ℕ} (b : ℕ) (behind : out.base + 12288 ≤ b) (size : length s' ≡ length s) (front : take b s' ≡ take b s) where
  kept : Kept b (length s) s s'
  kept =
      record {
        size = size;
        front = front;
        back = ap (λ (n : ℕ). drop n s') (sym size) ∙ drop-length s' ∙ sym (drop-length s);
      }

  keep : (i : ℕ) (xs : List ℕ) → i + length xs ≤ out.base + 12288 → Spells s i xs → Spells s' i xs
  keep i xs to p = spells_front i xs (omega arith) kept p

  out_kept : {es : List Entry} → Wrote (area_in out s) es → Wrote (area_in out s') es
  out_kept {es} o =
      record {
        whole = rw size o.whole;
        overflows = o.overflows;
        holds = λ f.
            let h = o.holds f in
            let z = (fits_decides (length es) (length (text_of es))).holds f in
            let was = first_stands h.stands in
            let lc = length_codes es in
            let lv = length_values es in
            record {
              entries = h.entries;
              bytes = h.bytes;
              stands =
                  stands_first (keep out.base (codes_of es) (omega (arith, z.0)) was.0)
                  (keep (out.base + 1024) (values_of es) (omega (arith, z.0)) was.1)
                  (keep (out.base + 9216) (text_of es) (omega (arith, z.1)) was.2);
            };
      }

  pub written_kept : {es : List Entry} → Written (area_in out s) es → Written (area_in out s') es
  written_kept w = record { out = out_kept w.out; near = w.near; small = w.small }

pub above_kept : {P : Area} {s : List ℕ} (b : ℕ) → P.out.base ≤ b → length s ≡ length P.bytes → take b s ≡ take b P.bytes
    → Above P (area_in P.out s)
above_kept {P} {s} b from size front =
    record {
      base = refl;
      size = size;
      front =
          sym (take-take P.out.base b s from)
          ∙ ap (take P.out.base) front
          ∙ take-take P.out.base b P.bytes from;
    }

-- all that another area holds, behind what was written
pub written_joined : {P Q : Area} {es more : List Entry} → fits_area more ≡ true → Written Q more → Written P es
    → Written (append_out_in Q P) (es ++ more)
written_joined {P} {Q} {es} {more} fits v w =
    record {
      out = out_append_out v.out w.out;
      near = rw (within_append_out Q P).base w.near;
      small = λ f. all_append (w.small (fits_front es more f)) (v.small fits);
    }
