-- One law for each way a function of the crate returns, and for a turn of each loop.
-- Assumes nothing.
use Prim.Native.Nat.{ℕ, zero, suc, ◌+◌, ◌-◌, ◌≤◌, ◌<◌}
use native.Mathlib.Omega.{arith}
use native.Mathlib.Nat.{sub-zero}
use native.Mathlib.Numerals.{add-one}
use mathlib.Core.Path.{◌≡◌, refl, sym, ap, ◌∙◌}
use mathlib.Core.List.{List, [], ◌∷◌}
use mathlib.Core.Bool.{Bool, true, false, ◌&&◌, ◌||◌}
use lib.Dec.{eqb}
use lib.ListN.{length}
use Rattle.format.specs.Entry.{Text, Entry}
use Rattle.definition.specs.Text.{eq_text}
use Rattle.definition.specs.Check.{contains}
use Rattle.tape.specs.Pick.{pick}
use Rattle.tape.specs.Layouts.{code_at, width_at, text_behind}
use Rattle.tape.specs.declared.layout.Layout.{Layout}
use Rattle.format.specs.Names.{is_name, names_in}
use Rattle.definition.specs.Agree.{Pair, pair_of, consistent, consistent_with, fits, equal_entry, same_but_names}
use Rattle.definition.proofs.Texts.{contains_names}
use Rattle.judge_names.specs.Entries.{text_at, spelled_at, entry_at, entries_from, entries_in, pair, pair_at, pairs_before, agrees_at}

-- ------------------------------------------------------------------ the entries of a tape

-- the first text begins at 0, and a text that is behind another where that one ends
pub text_first : (s : List ℕ) (l : Layout) → text_at s l 0 ≡ 0
unfolding text_at
text_first s l = refl

pub text_step : (s : List ℕ) (l : Layout) (i : ℕ) → text_behind l.size (text_at s l i) (width_at s l i) ≡ text_at s l (i + 1)
unfolding text_at
text_step s l i = rw (add-one i) refl

module _ (s : List ℕ) (l : Layout) (i n : ℕ) where
  abbrev rest : List Entry
  rest = entries_from s l (i + 1) (n - (i + 1))

  pub entries_step : i < n → entries_from s l i (n - i) ≡ entry_at s l i ∷ rest
  unfolding entries_from
  entries_step h = let e : n - i ≡ suc (n - (i + 1)) = omega arith in rw e refl

  pub entries_none : n ≤ i → entries_from s l i (n - i) ≡ []
  unfolding entries_from
  entries_none h = let e : n - i ≡ 0 = omega arith in rw e refl

-- ------------------------------------------------------------------ names

module _ (s : List ℕ) (l : Layout) (at : ℕ) (name : Text) where
  abbrev pub names_left : ℕ → Bool
  names_left i = contains (names_in (entries_from s l i (l.entries - i))) name

  -- the names that are left: that of the entry, if it is one, and those behind it
  pub names_step : at < l.entries
      → names_left at ≡ ((is_name (code_at s l at) && eq_text (spelled_at s l at (text_at s l at)) name) || names_left (at + 1))
  unfolding entry_at
  names_step h = rw (entries_step s l at l.entries h) (contains_names (entry_at s l at) (entries_from s l (at + 1) (l.entries - (at + 1))) name)

  pub names_end : l.entries ≤ at → names_left at ≡ false
  unfolding names_in contains
  names_end h = rw (entries_none s l at l.entries h) refl

-- ------------------------------------------------------------------ pairs

module _ (s : List ℕ) (l : Layout) (t : List ℕ) (m : Layout) (p : Pair) where
  pub pairs_none : consistent_with p (pairs_before s l t m 0) ≡ true
  unfolding pairs_before consistent_with
  pairs_none = refl

  -- the pair of one entry more, if it is a name
  pub pairs_step : (i : ℕ)
      → consistent_with p (pairs_before s l t m (i + 1))
      ≡ (consistent_with p (pairs_before s l t m i)
      && pick (is_name (code_at s l i)) (consistent p (pair (spelled_at s l i (text_at s l i)) (spelled_at t m i (text_at t m i)))) true)
  unfolding pairs_before entry_at consistent_with
  pairs_step i = rw (add-one i) (go (is_name (code_at s l i)))
    where
      its : Pair
      its = pair (spelled_at s l i (text_at s l i)) (spelled_at t m i (text_at t m i))

      swap : (x y : Bool) → (x && y) ≡ (y && x)
      swap true true = refl
      swap true false = refl
      swap false true = refl
      swap false false = refl

      whole : (y : Bool) → y ≡ (y && true)
      whole true = refl
      whole false = refl

      go : (z : Bool)
          → consistent_with p (pick z (its ∷ pairs_before s l t m i) (pairs_before s l t m i))
          ≡ (consistent_with p (pairs_before s l t m i) && pick z (consistent p its) true)
      go true = swap (consistent p its) (consistent_with p (pairs_before s l t m i))
      go false = whole (consistent_with p (pairs_before s l t m i))

-- ------------------------------------------------------------------ entry by entry

-- lists of different lengths are not the same
pub other_lengths : (protected : List Text) (seen : List Pair) (es fs : List Entry) → (length es ≡ length fs → ⊥)
    → false ≡ same_but_names protected seen es fs
unfolding same_but_names
other_lengths protected seen [] [] h = absurd (h refl)
other_lengths protected seen [] (f ∷ fs) h = refl
other_lengths protected seen (e ∷ es) [] h = refl
other_lengths protected seen (e ∷ es) (f ∷ fs) h =
    go (eqb e.code f.code) (is_name e.code) (other_lengths protected (pair_of e f ∷ seen) es fs (λ q. h (ap suc q)))
    (other_lengths protected seen es fs (λ q. h (ap suc q)))
  where
    none : (x : Bool) → false ≡ (x && false)
    none true = refl
    none false = refl

    go : (x y : Bool) → false ≡ same_but_names protected (pair_of e f ∷ seen) es fs → false ≡ same_but_names protected seen es fs
        → false
        ≡ (x && elim y [
          | true ↦ fits protected seen (pair_of e f) && same_but_names protected (pair_of e f ∷ seen) es fs
          | false ↦ equal_entry e f && same_but_names protected seen es fs
        ])
    go false y p q = refl
    go true true p q = rw (← p) (none (fits protected seen (pair_of e f)))
    go true false p q = rw (← q) (none (equal_entry e f))

length_entries : (s : List ℕ) (l : Layout) (i n : ℕ) → length (entries_from s l i n) ≡ n
unfolding entries_from
length_entries s l i zero = refl
length_entries s l i (suc n) = ap suc (length_entries s l (i + 1) n)

pub other_counts : (protected : List Text) (s : List ℕ) (l : Layout) (t : List ℕ) (m : Layout) → (l.entries ≡ m.entries → ⊥)
    → same_but_names protected [] (entries_in s l) (entries_in t m) ≡ false
other_counts protected s l t m h =
    sym (other_lengths protected [] (entries_in s l) (entries_in t m)
    (λ q. h (sym (length_entries s l 0 l.entries) ∙ q ∙ length_entries t m 0 m.entries)))

module _ (protected : List Text) (s : List ℕ) (l : Layout) (t : List ℕ) (m : Layout) where
  abbrev pub Left : ℕ → ℕ → Bool
  Left i n = same_but_names protected (pairs_before s l t m i) (entries_from s l i (n - i)) (entries_from t m i (n - i))

  pub entry_turn : (i n : ℕ) → i < n → Left i n ≡ (agrees_at s l t m protected i && Left (i + 1) n)
  unfolding same_but_names pairs_before agrees_at entry_at
  entry_turn i n h =
      rw (entries_step s l i n h, entries_step t m i n h, pairs_step) (go (eqb (code_at s l i) (code_at t m i)) (is_name (code_at s l i)))
    where
      seen : List Pair
      seen = pairs_before s l t m i

      assoc : (x y : Bool) (z : Bool) → (x && (y && z)) ≡ ((x && y) && z)
      assoc true y z = refl
      assoc false y z = refl

      pairs_step : pairs_before s l t m (i + 1) ≡ pick (is_name (code_at s l i)) (pair_at s l t m i ∷ seen) seen
      pairs_step = rw (add-one i)

      go : (x y : Bool)
          → ◌≡◌ {A = Bool} (x && elim y [
            | true ↦ fits protected seen (pair_at s l t m i)
                && same_but_names protected (pair_at s l t m i ∷ seen) (entries_from s l (i + 1) (n - (i + 1))) (entries_from t m (i + 1) (n - (i + 1)))
            | false ↦ equal_entry (entry_at s l i) (entry_at t m i)
                && same_but_names protected seen (entries_from s l (i + 1) (n - (i + 1))) (entries_from t m (i + 1) (n - (i + 1)))
          ])
          ((x && pick y (fits protected seen (pair_at s l t m i)) (equal_entry (entry_at s l i) (entry_at t m i)))
          && same_but_names protected (pick y (pair_at s l t m i ∷ seen) seen) (entries_from s l (i + 1) (n - (i + 1))) (entries_from t m (i + 1) (n - (i + 1))))
      go x true = assoc x (fits protected seen (pair_at s l t m i)) _
      go x false = assoc x (equal_entry (entry_at s l i) (entry_at t m i)) _

  pub entries_begin : l.entries ≡ m.entries → Left 0 l.entries ≡ same_but_names protected [] (entries_in s l) (entries_in t m)
  unfolding pairs_before
  entries_begin e = rw (sub-zero l.entries, e) refl

  pub entries_done : (i n : ℕ) → n ≤ i → Left i n ≡ true
  unfolding same_but_names
  entries_done i n h = rw (entries_none s l i n h, entries_none t m i n h) refl
