-- Where entries stand that become others when every Or is rewritten, the others are what is put.
-- Assumes nothing.
use Rattle.std.proofs.Common.{Some}
use Prim.Native.Nat.{ℕ, suc, ◌+◌, ◌-◌, ◌≤◌, ◌<◌}
use mathlib.Core.Path.{◌≡◌, refl, sym, ap, ◌∙◌}
use mathlib.Core.Bool.{Bool, false}
use mathlib.Core.List.{List, [], ◌∷◌, ◌++◌, append_assoc}
use native.Mathlib.Nat.{zero-add}
use native.Mathlib.Omega.{arith}
use borrow.Author.Tests.{le-leb, eq-eqb, ne_eqb}
use lib.Dec.{eqb}
use lib.ListN.{length, length-append}
use Rattle.format.specs.Entry.{Entry, entry, codes_of, values_of, text_of}
use Rattle.format.specs.Flat.{flat_condition}
use Rattle.format.proofs.All.{all_head}
use Rattle.format.proofs.Becomes.{Becomes, nothing, kept, joined, parted}
use Rattle.tape.specs.Layouts.{onward}
use Rattle.tape.specs.Scan.{skip_at}
use Rattle.tape.specs.declared.layout.Layout.{Layout}
use Rattle.tape.specs.declared.layout.Place.{Place}
use Rattle.tape.proofs.Located.{past, past_append, past_at, Inside, inside_front, inside_back, inside_next, inside_skip}
use Rattle.tape.proofs.Runs.{run_code, run_value}
use Rattle.tape.proofs.Trees.{passes_condition}
use Rattle.de_morgan.specs.declared.rewriting.Side.{Side}
use Rattle.de_morgan.specs.Rewritten.{negation, sides_after, sides_with, heads_of, heads_from}

-- ------------------------------------------------------------------ entries without their texts

unfoldable pub bare : List Entry → List Entry
bare [] = []
bare (e ∷ es) = entry e.code e.value ∷ bare es

bare_append : (es fs : List Entry) → bare (es ++ fs) ≡ bare es ++ bare fs
unfolding bare
bare_append [] fs = refl
bare_append (e ∷ es) fs = ap (λ (l : List Entry). entry e.code e.value ∷ l) (bare_append es fs)

pub bare_length : (es : List Entry) → length (bare es) ≡ length es
unfolding bare
bare_length [] = refl
bare_length (e ∷ es) = ap suc (bare_length es)

pub bare_codes : (es : List Entry) → codes_of (bare es) ≡ codes_of es
unfolding bare codes_of
bare_codes [] = refl
bare_codes (e ∷ es) = ap (λ (l : List ℕ). e.code ∷ l) (bare_codes es)

pub bare_values : (es : List Entry) → values_of (bare es) ≡ values_of es
unfolding bare values_of
bare_values [] = refl
bare_values (e ∷ es) = rw (bare_values es) refl

-- ------------------------------------------------------------------ right sides to come

-- the nearest begins at an entry
unfoldable pub begins_at : ℕ → List Side → Bool
begins_at at [] = false
begins_at at (side ∷ sides) = eqb side.at at

-- none begins in front of entry k
abbrev Later : ℕ → List Side → Type 0
Later k sides = (at : ℕ) → at < k → begins_at at sides ≡ false

no_negation : (at : ℕ) (sides : List Side) → begins_at at sides ≡ false → negation at sides ≡ []
unfolding begins_at negation
no_negation at [] h = refl
no_negation at (side ∷ sides) h = rw h refl

none_gone : (at : ℕ) (sides : List Side) → begins_at at sides ≡ false → sides_after at sides ≡ sides
unfolding begins_at sides_after
none_gone at [] h = refl
none_gone at (side ∷ sides) h = rw h refl

module _ (s : List ℕ) (l : Layout) where
  -- a side that begins, where no other does
  side_opens : (left mid text span : ℕ) (sides : List Side) → begins_at mid sides ≡ false
      → heads_from s l (suc left) mid text (record { at = mid; span = span } ∷ sides) ≡ entry 3 span ∷ heads_from s l (suc left) mid text sides
  unfolding heads_from negation sides_after
  side_opens left mid text span sides h = rw (eq-eqb mid mid refl, no_negation mid sides h, none_gone mid sides h) refl

  -- an entry that is read where no side begins
  module _ {p : Place} {e : Entry} {es : List Entry} (i : Inside s l p (e ∷ es)) where
    entry_read : (left : ℕ) (sides : List Side) → begins_at p.at sides ≡ false
        → heads_from s l (suc left) p.at p.text sides
        ≡ heads_of e.code e.value
        ++ heads_from s l left (p.at + 1) (p.text + length e.text) (sides_with s l e.code e.value (onward p (length e.text)) sides)
    unfolding heads_from text_of
    entry_read left sides h =
        let width = all_head i.texted in
        let room : length e.text ≤ l.size - p.text = omega (arith, i.run.text_left, length-append e.text (text_of es)) in
        rw (no_negation p.at sides h, none_gone p.at sides h, run_code i.run, run_value i.run, ← width, le-leb (length e.text) (l.size - p.text) room) refl

  pub heads_become : {es fs : List Entry} → Becomes es fs → {p : Place} → Inside s l p es → (left : ℕ) (sides : List Side)
      → Later (p.at + length es) sides
      → heads_from s l (length es + left) p.at p.text sides ≡ bare fs ++ heads_from s l left (past es p).at (past es p).text sides
  unfolding past bare heads_of sides_with begins_at
  heads_become nothing i left sides h = rw (zero-add left) refl
  heads_become (kept {e = e} {es = es} {fs = fs} k b) {p} i left sides h =
      let n : length (e ∷ es) + left ≡ suc (length es + left) = omega arith in
      rw (n, entry_read i (length es + left) sides (h p.at (omega arith)), k)
      (ap (λ (x : List Entry). entry e.code e.value ∷ x)
      (heads_become b (inside_next e es i) left sides (λ at j. h at (omega arith))))
  heads_become (joined {es} {fs} {es'} {fs'} b b') {p} i left sides h =
      let a = length-append es es' in
      let n : length (es ++ es') + left ≡ length es + (length es' + left) = omega arith in
      rw (
        n,
        heads_become b (inside_front es es' i) (length es' + left) sides (λ at j. h at (omega arith)),
        heads_become b' (inside_back es es' i) left sides (λ at j. h at (omega (arith, past_at es p))),
        past_append es es' p,
        bare_append fs fs',
      )
      (sym (append_assoc (bare fs) (bare fs') _))
  heads_become (parted {s = span} a b {l' = l'} {r' = r'} ba bb) {p} i left sides h =
      let ls = flat_condition a in
      let rs = flat_condition b in
      let q = onward p 0 in
      let inner = inside_next (entry 2 span) (ls ++ rs) i in
      let found : skip_at s l q 1 ≡ Some (past ls q) = inside_skip (inside_front ls rs inner) (passes_condition a) (omega arith) in
      let mid = (past ls q).at in
      let text = (past ls q).text in
      let m = past_at ls q in
      let k = length-append ls rs in
      let some = (passes_condition b).long in
      let n : suc (length (ls ++ rs)) + left ≡ suc (length ls + (length rs + left)) = omega arith in
      let right = length rs - 1 + left in
      let n' : length rs + left ≡ suc right = omega (arith, some) in
      let opens : heads_from s l (length rs + left) mid text (record { at = mid; span = span } ∷ sides) ≡ entry 3 span ∷ heads_from s l (length rs + left) mid text sides =
      rw n' (side_opens right mid text span sides (h mid (omega (arith, m, k, some)))) in
      rw (n, entry_read i (length ls + (length rs + left)) sides (h p.at (omega arith)), found)
      (ap (λ (x : List Entry). entry 3 span ∷ entry 1 span ∷ entry 3 span ∷ x)
      (heads_become ba (inside_front ls rs inner) (length rs + left) (record { at = mid; span = span } ∷ sides)
      (λ at j. ne_eqb mid at (λ z. omega (arith, j, z, m)))
      ∙ ap (λ (x : List Entry). bare l' ++ x)
      (opens ∙ ap (λ (x : List Entry). entry 3 span ∷ x) (heads_become bb (inside_back ls rs inner) left sides (λ at j. h at (omega (arith, j, m, k)))))
      ∙ rw (bare_append l' (entry 3 span ∷ r'), past_append ls rs q) (sym (append_assoc (bare l') (entry 3 span ∷ bare r') _))))
