-- What a patched count leaves: the entries with one value changed.
-- Assumes nothing.
use Rattle.std.proofs.Common.{◌≡◌, ℕ, ◌+◌, ◌*◌, ◌%◌, ◌^◌, ◌<◌, true, ◌&&◌, ltb, List, ◌∷◌, ◌++◌, length, sym, refl, ap, ◌∙◌, zero-add, arith, length-append}
use lib.Seq.{sets, length-sets}
use Rattle.format.specs.Entry.{Entry, le, codes_of, values_of, text_of}
use Rattle.format.specs.Tape.{from_le}
use Rattle.format.specs.Stands.{part, Spells}
use Rattle.format.proofs.Accepted.{length_codes}
use Rattle.format.proofs.Encodes.{length_le, length_values}
use Rattle.format.proofs.Stands.{codes_append, values_append, text_append, stands_back, stands_value, stands_first, first_stands}
use Rattle.buffer.specs.Buffer.{Decides}
use Rattle.buffer.proofs.Decides.{both, cases, true_of, false_of, decides_lt, decides_and}
use Rattle.buffer.proofs.Kept.{kept_sets, spells_front, spells_back, spells_over}
use Rattle.area.specs.Area.{Area, area_in, RoomFor, is_whole, added_at, patch_in, fits_area, Holds, Wrote, Within, valued}
use Rattle.area.proofs.Room.{fits_decides, room_decides}
use Rattle.area.proofs.Within.{within_refl}
use Rattle.area.proofs.Appends.{whole_fits}

-- ------------------------------------------------------------------ an index, and none

-- the area holds an entry at the index
abbrev pub HasEntry : ℕ → Area → Type 0
HasEntry index P = RoomFor (length P.bytes) P.out 0 0 × (index < P.out.n)

module _ (index added : ℕ) (P : Area) where
  entry_decides : Decides (HasEntry index P) (is_whole P && ltb index P.out.n)
  entry_decides = decides_and (room_decides (length P.bytes) P.out 0 0) (decides_lt index P.out.n)

  pub patch_there : HasEntry index P
      → patch_in index added P ≡ area_in P.out (added_at (P.out.base + 1024 + 8 * index) added P.bytes)
  unfolding patch_in
  patch_there h = rw (true_of entry_decides h, patch_in) refl

  pub patch_none : (HasEntry index P → ⊥) → patch_in index added P ≡ P
  unfolding patch_in
  patch_none h = rw (false_of entry_decides h, patch_in) refl

  pub within_patch : Within P (patch_in index added P)
  within_patch =
      let b = P.out.base in
      let at : ℕ = b + 1024 + 8 * index in
      let sum : ℕ = (from_le (part P.bytes at 8) + added) % 2 ^ 64 in
      cases (is_whole P && ltb index P.out.n)
      (λ e.
      let h = entry_decides.holds e in
      let l = length_le 8 sum in
      rw (patch_there h)
      (record {
        base = refl;
        kept = kept_sets b (b + 12288) P.bytes at (le 8 sum) (omega arith) (omega (arith, h.0.entries, h.1));
      }))
      (λ e. rw (patch_none (entry_decides.fails e)) within_refl)

-- ------------------------------------------------------------------ the entries, with one value changed

module _ (a : List Entry) (e : Entry) (z : List Entry) (v : ℕ) where
  same_size : length (a ++ (valued e v ∷ z)) ≡ length (a ++ (e ∷ z))
  same_size = length-append a (valued e v ∷ z) ∙ sym (length-append a (e ∷ z))

  same_codes : codes_of (a ++ (valued e v ∷ z)) ≡ codes_of (a ++ (e ∷ z))
  unfolding codes_of
  same_codes = codes_append a (valued e v ∷ z) ∙ sym (codes_append a (e ∷ z))

  same_text : text_of (a ++ (valued e v ∷ z)) ≡ text_of (a ++ (e ∷ z))
  unfolding text_of
  same_text = text_append a (valued e v ∷ z) ∙ sym (text_append a (e ∷ z))

  same_fits : fits_area (a ++ (valued e v ∷ z)) ≡ fits_area (a ++ (e ∷ z))
  same_fits = rw (same_size, same_text) refl

  -- its bytes are written over, and those of the others stay
  values_patched : {s : List ℕ} {i : ℕ} → Spells s i (values_of (a ++ (e ∷ z)))
      → Spells (sets s (i + 8 * length a) (le 8 v)) i (values_of (a ++ (valued e v ∷ z)))
  unfolding values_of
  values_patched {s} {i} p =
      rw (values_append a (valued e v ∷ z))
      (spells_over s i (i + 8 * length a) (values_of a) (le 8 e.value) (values_of z) (le 8 v) (omega (arith, length_values a))
      (length_le 8 v ∙ sym (length_le 8 e.value)) (rw (values_append a (e ∷ z)) at p))

  -- the area, where its value section is patched
  patched_holds : {P : Area} → fits_area (a ++ (e ∷ z)) ≡ true → Holds P (a ++ (e ∷ z))
      → Holds (area_in P.out (sets P.bytes (P.out.base + 1024 + 8 * length a) (le 8 v))) (a ++ (valued e v ∷ z))
  patched_holds {P} f h =
      let b = P.out.base in
      let at : ℕ = b + 1024 + 8 * length a in
      let fits = (fits_decides (length (a ++ (e ∷ z))) (length (text_of (a ++ (e ∷ z))))).holds f in
      let l = length-append a (e ∷ z) in
      let lc = length_codes (a ++ (e ∷ z)) in
      let lv = length_le 8 v in
      let k = kept_sets (b + 1024) (b + 9216) P.bytes at (le 8 v) (omega arith) (omega (arith, fits.0)) in
      let was = first_stands h.stands in
      record {
        entries = h.entries ∙ sym same_size;
        bytes = h.bytes ∙ ap length (sym same_text);
        stands =
            stands_first
            (rw same_codes (spells_front b (codes_of (a ++ (e ∷ z))) (omega (arith, fits.0)) k was.0))
            (values_patched was.1)
            (rw same_text (spells_back (b + 9216) (text_of (a ++ (e ∷ z))) (omega arith) k was.2));
      }

-- ------------------------------------------------------------------ a count

-- the value that is found is the entry's, and so the sum is stored
added_is : {P : Area} (a : List Entry) (e : Entry) (z : List Entry) (added : ℕ) → Holds P (a ++ (e ∷ z)) → e.value + added < 2 ^ 64
    → let at : ℕ = P.out.base + 1024 + 8 * length a in added_at at added P.bytes ≡ sets P.bytes at (le 8 (e.value + added))
added_is {P} a e z added h small =
    let there : from_le (part P.bytes (P.out.base + 1024 + 8 * length a) 8) ≡ e.value =
    (stands_value (rw zero-add at (stands_back a (e ∷ z) h.stands))).1 (omega arith) in
    let m : (e.value + added) % 2 ^ 64 ≡ e.value + added = omega arith in
    rw (there, m) refl

-- What is known of the index and of the sum may rest on the entries' being there: where they overflowed, nothing is patched.
pub out_patch : {P : Area} (a : List Entry) (e : Entry) (z : List Entry) (index added : ℕ)
    → (fits_area (a ++ (e ∷ z)) ≡ true → (index ≡ length a) × (e.value + added < 2 ^ 64))
    → Wrote P (a ++ (e ∷ z)) → Wrote (patch_in index added P) (a ++ (valued e (e.value + added) ∷ z))
out_patch {P} a e z index added known o =
    let v : ℕ = e.value + added in
    let same = same_fits a e z v in
    cases (fits_area (a ++ (e ∷ z)))
    (λ f.
    let h = o.holds f in
    let whole = (room_decides (length P.bytes) P.out 0 0).holds (whole_fits o ∙ f) in
    let inside : length a < P.out.n = omega (arith, h.entries, length-append a (e ∷ z)) in
    rw ((known f).0, patch_there (length a) added P (whole, inside), added_is a e z added h (known f).1)
    (record {
      whole = rw length-sets o.whole;
      overflows = o.overflows ∙ rw same refl;
      holds = λ _. patched_holds a e z v f h;
    }))
    (λ f.
    rw (patch_none index added P (λ h. both (o.overflows ∙ rw f refl) h.0.live))
    (record { whole = o.whole; overflows = o.overflows ∙ rw same refl; holds = λ g. absurd (both g (same ∙ f)) }))
