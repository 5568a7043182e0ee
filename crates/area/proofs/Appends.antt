-- What an append leaves in the area, where there is room and where there is none.
-- Assumes nothing.
use Rattle.std.proofs.Common.{◌≡◌, ℕ, ◌+◌, ◌≤◌, true, false, List, [], ◌∷◌, ◌++◌, length, sym, refl, ◌∙◌, append-nil, add-zero, arith, length-append}
use lib.Seq.{sets}
use borrow.Author.Tests.{not-false}
use Rattle.format.specs.Entry.{Text, Entry, entry, text_entry, codes_of, values_of, text_of}
use Rattle.format.specs.Limits.{fits_sizes}
use Rattle.format.specs.Stands.{Spells}
use Rattle.format.proofs.Accepted.{length_codes}
use Rattle.format.proofs.Encodes.{length_values}
use Rattle.format.proofs.Stands.{codes_append, values_append, text_append, stands_first, first_stands, length_text}
use Rattle.buffer.specs.Buffer.{Decides, Kept}
use Rattle.buffer.proofs.Decides.{both, cases, true_of, false_of}
use Rattle.buffer.proofs.Kept.{kept_sets, spells_front, spells_back, spells_more}
use Rattle.area.specs.declared.Writer.{Writer}
use Rattle.area.specs.Area.{
  Area,
  area_in,
  empty_at,
  code_end,
  value_end,
  text_end,
  headed,
  overflow_in,
  grow_in,
  append_in,
  put_in,
  put_text_in,
  is_whole,
  codes_in,
  values_in,
  text_in,
  append_out_in,
  fits_area,
  Holds,
  Wrote,
}
use Rattle.area.proofs.Room.{RunRoom, fits_decides, room_decides, append_room, append_full}
use Rattle.area.proofs.Within.{within_grown}

-- an area to which nothing was written
pub out_none : (base : ℕ) (bytes : List ℕ) → base + 12288 ≤ length bytes → Wrote (area_in (empty_at base) bytes) []
unfolding codes_of values_of text_of fits_sizes
out_none base bytes h =
    record {
      whole = h;
      overflows = refl;
      holds = λ _.
          record {
            entries = refl;
            bytes = refl;
            stands = stands_first (none base (omega arith)) (none (base + 1024) (omega arith)) (none (base + 9216) (omega arith));
          };
    }
  where
    none : (i : ℕ) → i ≤ length bytes → Spells bytes i []
    none i l = record { inside = rw add-zero l; spelled = refl }

-- ------------------------------------------------------------------ a run for which there is room

module _ (P : Area) (es more : List Entry) (h : Holds P es) (room : RunRoom (codes_of more) (values_of more) (text_of more) P) where
  abbrev out : Writer
  out = P.out

  abbrev b : ℕ
  b = out.base

  -- the slice after the text, after the codes, and after the values
  abbrev s₁ : List ℕ
  s₁ = sets P.bytes (text_end out) (text_of more)

  abbrev s₂ : List ℕ
  s₂ = sets s₁ (code_end out) (codes_of more)

  abbrev s₃ : List ℕ
  s₃ = headed s₁ out (codes_of more) (values_of more)

  -- what each of the three writes keeps
  k₁ : Kept (b + 9216) (b + 12288) P.bytes s₁
  k₁ = kept_sets (b + 9216) (b + 12288) P.bytes (text_end out) (text_of more) (omega arith) (omega arith)

  k₂ : Kept b (b + 1024) s₁ s₂
  k₂ = kept_sets b (b + 1024) s₁ (code_end out) (codes_of more) (omega arith) (omega arith)

  k₃ : Kept (b + 1024) (b + 9216) s₂ s₃
  k₃ = kept_sets (b + 1024) (b + 9216) s₂ (value_end out) (values_of more) (omega arith) (omega arith)

  grown_codes : Spells s₃ b (codes_of es ++ codes_of more)
  grown_codes =
      let l = length_codes es in
      let m = length-append (codes_of es) (codes_of more) in
      spells_front b (codes_of es ++ codes_of more) (omega arith) k₃
      (spells_more s₁ b (code_end out) (codes_of es) (codes_of more) (omega arith) (omega (arith, k₁.size))
      (spells_front b (codes_of es) (omega arith) k₁ (first_stands h.stands).0))

  grown_values : Spells s₃ (b + 1024) (values_of es ++ values_of more)
  grown_values =
      let l = length_values es in
      spells_more s₂ (b + 1024) (value_end out) (values_of es) (values_of more) (omega arith) (omega (arith, k₁.size, k₂.size))
      (spells_back (b + 1024) (values_of es) (omega arith) k₂
      (spells_front (b + 1024) (values_of es) (omega arith) k₁ (first_stands h.stands).1))

  grown_text : Spells s₃ (b + 9216) (text_of es ++ text_of more)
  grown_text =
      spells_back (b + 9216) (text_of es ++ text_of more) (omega arith) k₃
      (spells_back (b + 9216) (text_of es ++ text_of more) (omega arith) k₂
      (spells_more P.bytes (b + 9216) (text_end out) (text_of es) (text_of more) (omega arith) (omega arith)
      (first_stands h.stands).2))

  grown_holds : Holds (grow_in (codes_of more) (values_of more) (text_of more) P) (es ++ more)
  unfolding grow_in
  grown_holds =
      record {
        entries = omega (arith, length-append es more, length_codes more);
        bytes = omega (arith, length_text es more);
        stands = stands_first (rw codes_append grown_codes) (rw values_append grown_values) (rw text_append grown_text);
      }

-- ------------------------------------------------------------------ entries behind those that were written

-- entries that fit together fit apart
pub fits_front : (es more : List Entry) → fits_area (es ++ more) ≡ true → fits_area es ≡ true
fits_front es more f =
    let h = (fits_decides (length (es ++ more)) (length (text_of (es ++ more)))).holds f in
    true_of (fits_decides (length es) (length (text_of es)))
    (omega (arith, h.0, length-append es more), omega (arith, h.1, length_text es more))

fits_back : (es more : List Entry) → fits_area more ≡ false → fits_area (es ++ more) ≡ false
fits_back es more f =
    false_of (fits_decides (length (es ++ more)) (length (text_of (es ++ more))))
    (λ h.
    (fits_decides (length more) (length (text_of more))).fails f
    (omega (arith, h.0, length-append es more), omega (arith, h.1, length_text es more)))

module _ {P : Area} {es : List Entry} (more : List Entry) (o : Wrote P es) where
  -- there is room for them if and only if all fit together
  room_fits : Decides (RunRoom (codes_of more) (values_of more) (text_of more) P) (fits_area (es ++ more))
  room_fits =
      let fits = fits_decides (length (es ++ more)) (length (text_of (es ++ more))) in
      let ln = length-append es more in
      let lc = length_codes more in
      let lv = length_values more in
      let lt = length_text es more in
      record {
        holds = λ e.
            let f = fits.holds e in
            let g = fits_front es more e in
            let h = o.holds g in (
              record {
                whole = o.whole;
                live = o.overflows ∙ rw g refl;
                entries = omega (arith, f.0, h.entries);
                bytes = omega (arith, f.1, h.bytes);
              },
              omega arith,
            );
        fails = λ e r.
            let h = o.holds (not-false (fits_area es) (sym o.overflows ∙ r.0.live)) in
            fits.fails e (omega (arith, r.0.entries, h.entries), omega (arith, r.0.bytes, h.bytes));
      }

  out_overflow : fits_area (es ++ more) ≡ false → Wrote (overflow_in P) (es ++ more)
  unfolding overflow_in
  out_overflow f = record { whole = o.whole; overflows = rw f refl; holds = λ e. absurd (both e f) }

  pub out_append : Wrote (append_in (codes_of more) (values_of more) (text_of more) P) (es ++ more)
  unfolding grow_in
  out_append =
      cases (fits_area (es ++ more))
      (λ f.
      let room = room_fits.holds f in
      rw (append_room (codes_of more) (values_of more) (text_of more) P room)
      (record {
        whole = rw (within_grown (codes_of more) (values_of more) (text_of more) P room).kept.size o.whole;
        overflows = rw f refl;
        holds = λ _. grown_holds P es more (o.holds (fits_front es more f)) room;
      }))
      (λ f. rw (append_full (codes_of more) (values_of more) (text_of more) P (room_fits.fails f)) (out_overflow f))

-- one entry
pub out_put : {P : Area} {es : List Entry} (code value : ℕ) → Wrote P es → Wrote (put_in code value P) (es ++ (entry code value ∷ []))
unfolding put_in codes_of values_of text_of
out_put code value o = rw append-nil at (out_append (entry code value ∷ []) o)

pub out_put_text : {P : Area} {es : List Entry} (code : ℕ) (text : Text) → Wrote P es
    → Wrote (put_text_in code text P) (es ++ (text_entry code text ∷ []))
unfolding put_text_in codes_of values_of text_of
out_put_text code text o = simp append-nil at (out_append (text_entry code text ∷ []) o)

-- ------------------------------------------------------------------ what an area holds

-- the area is whole if and only if what was written to it fits, and then its sections are those of the entries
module _ {P : Area} {es : List Entry} (o : Wrote P es) where
  pub whole_fits : is_whole P ≡ fits_area es
  whole_fits =
      cases (fits_area es)
      (λ f.
      let h = o.holds f in
      let z = (fits_decides (length es) (length (text_of es))).holds f in
      true_of (room_decides (length P.bytes) P.out 0 0)
      (record {
        whole = o.whole;
        live = o.overflows ∙ rw f refl;
        entries = omega (arith, h.entries, z.0);
        bytes = omega (arith, h.bytes, z.1);
      })
      ∙ sym f)
      (λ f.
      false_of (room_decides (length P.bytes) P.out 0 0) (λ r. both (o.overflows ∙ rw f refl) r.live)
      ∙ sym f)

module _ {P : Area} {es : List Entry} (h : Holds P es) where
  pub codes_held : codes_in P ≡ codes_of es
  codes_held = rw (h.entries, ← (length_codes es)) (first_stands h.stands).0.spelled

  pub values_held : values_in P ≡ values_of es
  values_held = rw (h.entries, ← (length_values es)) (first_stands h.stands).1.spelled

  pub text_held : text_in P ≡ text_of es
  text_held = rw h.bytes (first_stands h.stands).2.spelled

-- all that was written to another area
pub out_append_out : {P Q : Area} {es more : List Entry} → Wrote Q more → Wrote P es → Wrote (append_out_in Q P) (es ++ more)
unfolding append_out_in
out_append_out {P} {Q} {es} {more} q o =
    cases (fits_area more)
    (λ f.
    let h = q.holds f in
    rw (whole_fits q, f, append_out_in) (rw (codes_held h, values_held h, text_held h) (out_append more o)))
    (λ f. rw (whole_fits q, f, append_out_in) (out_overflow more o (fits_back es more f)))
