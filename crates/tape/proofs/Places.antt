-- The entries that a slice has at a place: those that stand there, and those that a tape's sections are split into.
-- Assumes nothing.
use Prim.Native.Nat.{ℕ, zero, suc, ◌+◌, ◌*◌, ◌^◌, ◌≤◌, ◌<◌}
use mathlib.Core.Path.{◌≡◌, refl, ap, ◌∙◌, subst}
use mathlib.Core.Bool.{Bool, true, false, not}
use mathlib.Core.List.{List, [], ◌∷◌, ◌++◌}
use mathlib.Core.Option.{Option, none, some}
use native.Mathlib.Nat.{add-zero, zero-add, add_assoc, pow-le-pow_right, lt_of_lt_of_le}
use native.Mathlib.Omega.{arith}
use borrow.Author.Tests.{ne_eqb}
use lib.Dec.{T, leb, eqb, leb→le, nleb→lt, eqb→eq, eqb_refl, lit<}
use lib.ListN.{length, take, drop, length-append, length-take, length-drop}
use lib.Seq.{take-take, take-add, drop-drop, drop_at}
use Rattle.format.specs.Entry.{Text, Entry, text_of}
use Rattle.format.specs.Stands.{part, Stands}
use Rattle.format.specs.Tape.{is_text, text_width, cons, take_entry, split, Bytes}
use Rattle.format.proofs.Accepted.{Values64, from_le_lt, bytes_take, bytes_drop}
use Rattle.format.proofs.All.{all_nil, all_cons, all_head, all_tail}
use Rattle.format.proofs.Encodes.{WellTexted}
use Rattle.format.proofs.Stands.{part_cons, length_part, stands_code, stands_value, stands_text, stands_next}
use Rattle.grammar.proofs.Marks.{Table}
use Rattle.tape.specs.Layouts.{code_at, value_at, width_at, width_by, entries_at}
use Rattle.tape.specs.Pick.{pick}
use Rattle.tape.specs.declared.layout.Layout.{Layout}
use Rattle.format.proofs.Tests.{same_test}
use Rattle.grammar.specs.Words.{Rules}

-- how much text entries take
abbrev pub widths_of : List Entry → ℕ
widths_of [] = 0
widths_of (e ∷ es) = text_width (is_text e.code) e.value + widths_of es

pub widths_texted : {es : List Entry} → WellTexted es → widths_of es ≡ length (text_of es)
unfolding text_of
widths_texted all_nil = refl
widths_texted (all_cons {a = e} {l = es} h w) = omega (arith, h, widths_texted w, length-append e.text (text_of es))

module _ (t : Table) (s : List ℕ) (l : Layout) where
  -- a table's mark is format's
  width_is : (i : ℕ) → width_by t.grammar s l i ≡ width_at s l i
  width_is i = ap (λ (b : Bool). text_width b (value_at s l i)) (t.texts_are (code_at s l i))

  -- with room for the texts each is as long as its value says
  pub entries_texted : (n at txt : ℕ) → l.text + txt + widths_of (entries_at t.grammar s l at txt n) ≤ length s
      → WellTexted (entries_at t.grammar s l at txt n)
  entries_texted zero at txt h = all_nil
  entries_texted (suc n) at txt h =
      let w = width_is at in
      all_cons (length_part s (l.text + txt) (width_by t.grammar s l at) (omega arith) ∙ w)
      (entries_texted n (at + 1) (txt + width_by t.grammar s l at) (omega arith))

  -- entries that stand somewhere are those that are read there
  pub entries_stand : (at txt : ℕ) {es : List Entry} → WellTexted es → Values64 es → Stands s l.codes l.values l.text at txt es → (k : ℕ)
      → entries_at t.grammar s l at txt (length es + k) ≡ es ++ entries_at t.grammar s l (at + length es) (txt + length (text_of es)) k
  unfolding text_of
  entries_stand at txt all_nil v h k = rw (zero-add, add-zero, add-zero)
  entries_stand at txt (all_cons {a = e} {l = es} w ws) v h k =
      let n : length (e ∷ es) + k ≡ suc (length es + k) = omega arith in
      let c : code_at s l at ≡ e.code = (stands_code h).1 in
      let x : value_at s l at ≡ e.value = (stands_value h).1 (all_head v) in
      let p : at + length (e ∷ es) ≡ at + 1 + length es = omega arith in
      let q : txt + length (text_of (e ∷ es)) ≡ txt + length e.text + length (text_of es) = omega (arith, length-append e.text (text_of es)) in
      rw (n, p, q, c, x, t.texts_are e.code, ← w, (stands_text h).spelled, entries_stand (at + 1) (txt + length e.text) ws (all_tail v) (stands_next h) k)

-- the values of a slice of bytes have 64 bits
value_64 : (s : List ℕ) (l : Layout) (at : ℕ) → Bytes s → value_at s l at < 256 ^ 8
value_64 s l at h =
    let x = part s (l.values + 8 * at) 8 in
    let k : length x ≤ 8 = omega (arith, length-take 8 (drop (l.values + 8 * at) s)) in
    lt_of_lt_of_le (from_le_lt x (bytes_take 8 (drop (l.values + 8 * at) s) (bytes_drop (l.values + 8 * at) s h)))
    (pow-le-pow_right {n = 256} (lit< tt) {i = length x} {j = 8} k)

pub values_64 : (g : Rules) (s : List ℕ) (l : Layout) (n at txt : ℕ) → Bytes s → Values64 (entries_at g s l at txt n)
values_64 g s l zero at txt h = all_nil
values_64 g s l (suc n) at txt h = all_cons (value_64 s l at h) (values_64 g s l n (at + 1) (txt + width_by g s l at) h)

-- ------------------------------------------------------------------ the sections of a tape

pub eq→eqb : (m n : ℕ) → m ≡ n → T (eqb m n)
eq→eqb m n e = subst (λ (k : ℕ). T (eqb m k)) e (eqb_refl m)

take_entry_lem : (c v w n : ℕ) (t : Text) (k : Text → Option (List Entry)) (es : List Entry)
    → k (drop w t) ≡ pick (eqb n (length (drop w t))) (some es) none
    → take_entry c v w t k ≡ pick (eqb (w + n) (length t)) (some (record { code = c; value = v; text = take w t } ∷ es)) none
unfolding take_entry cons
take_entry_lem c v w n t k es e = go (leb w (length t)) (leb→le w (length t)) (nleb→lt w (length t))
  where
    go : (b : Bool) → (T b → w ≤ length t) → (T (not b) → length t < w)
        → elim b [ true ↦ cons (record { code = c; value = v; text = take w t }) (k (drop w t)) | false ↦ none ]
        ≡ pick (eqb (w + n) (length t)) (some (record { code = c; value = v; text = take w t } ∷ es)) none
    go false h g = rw (ne_eqb (w + n) (length t) (λ (z : w + n ≡ length t). let q = g tt in omega arith))
    go true h g =
        let q = h tt in
        let l = length-drop w t in
        let b : eqb n (length (drop w t)) ≡ eqb (w + n) (length t) =
        same_test (λ u. let z = eqb→eq n (length (drop w t)) u in eq→eqb (w + n) (length t) (omega arith)) (λ u. let z = eqb→eq (w + n) (length t) u in eq→eqb n (length (drop w t)) (omega arith)) in
        rw (e, b) (taken (eqb (w + n) (length t)))
      where
        taken : (b : Bool) → cons (record { code = c; value = v; text = take w t }) (pick b (some es) none)
            ≡ pick b (some (record { code = c; value = v; text = take w t } ∷ es)) none
        taken true = refl
        taken false = refl

-- a part without its first elements
part_behind : (s : List ℕ) (i m n : ℕ) → i + m ≤ length s → drop m (part s i (m + n)) ≡ part s (i + m) n
part_behind s i m n h =
    rw (take-add m n (drop i s), drop_at (part s i m) (take n (drop m (drop i s))) m (length_part s i m h), drop-drop m i s)

module _ (t : Table) (s : List ℕ) (l : Layout) where
  -- the sections are split into the entries that are read, if these take all text
  pub split_entries : (m at txt : ℕ) → l.codes + at + m ≤ length s → l.values + 8 * at + 8 * m ≤ length s
      → split (part s (l.codes + at) m) (part s (l.values + 8 * at) (8 * m)) (drop (l.text + txt) s)
      ≡ pick (eqb (widths_of (entries_at t.grammar s l at txt m)) (length (drop (l.text + txt) s))) (some (entries_at t.grammar s l at txt m)) none
  unfolding split
  split_entries zero at txt h₁ h₂ = go (drop (l.text + txt) s)
    where
      go : (t : Text) → split [] (part s (l.values + 8 * at) (8 * 0)) t ≡ pick (eqb 0 (length t)) (some []) none
      go [] = refl
      go (b ∷ t) = rw (ne_eqb 0 (suc (length t)) (λ (z : 0 ≡ suc (length t)). omega arith))
  split_entries (suc m) at txt h₁ h₂ =
      let n : 8 * suc m ≡ 8 + 8 * m = omega arith in
      let x = l.values + 8 * at in
      let u = drop (l.text + txt) s in
      let width = width_at s l at in
      let c : l.codes + at + 1 ≡ l.codes + (at + 1) = omega arith in
      let v : x + 8 ≡ l.values + 8 * (at + 1) = omega arith in
      let w : drop width u ≡ drop (l.text + (txt + width)) s =
      drop-drop width (l.text + txt) s ∙ rw add_assoc in
      rw (width_is t s l at, n, part_cons s (l.codes + at) m (omega arith), take-take 8 (8 + 8 * m) (drop x s) (omega arith))
      (take_entry_lem (code_at s l at) (value_at s l at) width (widths_of (entries_at t.grammar s l (at + 1) (txt + width) m)) u
      (λ y. split (part s (l.codes + at + 1) m) (drop 8 (part s x (8 + 8 * m))) y) (entries_at t.grammar s l (at + 1) (txt + width) m)
      (rw (w, c, part_behind s x 8 (8 * m) (omega arith), v)
      (split_entries m (at + 1) (txt + width) (omega arith) (omega arith))))
