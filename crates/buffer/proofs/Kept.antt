-- What a write keeps: the parts of a slice in front of it and behind it, and what stands there.
-- Assumes nothing.
use mathlib.Core.Path.{◌≡◌, refl, sym, ap, ◌∙◌}
use mathlib.Core.List.{List, ◌++◌, append_assoc}
use Prim.Native.Nat.{ℕ, ◌+◌, ◌-◌, ◌≤◌}
use native.Mathlib.Omega.{arith}
use lib.ListN.{length, take, drop}
use lib.Seq.{sets, length-sets, sets-eq, drop-drop, take_at, drop_at, length-take-le}
use Rattle.format.specs.Stands.{part, Spells}
use Rattle.format.proofs.Stands.{part_take, spells_append, spells_left, spells_right}
use Rattle.buffer.specs.Buffer.{Kept}
use Rattle.buffer.proofs.Sets.{take_sets, drop_sets}

pub kept_refl : {b e : ℕ} {s : List ℕ} → Kept b e s s
kept_refl = record { size = refl; front = refl; back = refl }

pub kept_trans : {b e : ℕ} {s s' s'' : List ℕ} → Kept b e s s' → Kept b e s' s'' → Kept b e s s''
kept_trans k h = record { size = h.size ∙ k.size; front = h.front ∙ k.front; back = h.back ∙ k.back }

pub kept_sets : (b e : ℕ) (s : List ℕ) (i : ℕ) (vs : List ℕ) → b ≤ i → i + length vs ≤ e → Kept b e s (sets s i vs)
kept_sets b e s i vs h g =
    record { size = length-sets s i vs; front = take_sets b s i vs h; back = drop_sets e s i vs g }

module _ {b e : ℕ} {s s' : List ℕ} (i : ℕ) where
  -- a part in front of, or behind, what changed
  part_front : (n : ℕ) → i + n ≤ b → Kept b e s s' → part s' i n ≡ part s i n
  part_front n h k = sym (part_take s' i n b h) ∙ ap (λ (l : List ℕ). part l i n) k.front ∙ part_take s i n b h

  part_back : (n : ℕ) → e ≤ i → Kept b e s s' → part s' i n ≡ part s i n
  part_back n h k =
      let z : e + (i - e) ≡ i = omega arith in
      rw (← z, ← (drop-drop (i - e) e s), ← (drop-drop (i - e) e s'), k.back)

  -- what stands there
  pub spells_front : (xs : List ℕ) → i + length xs ≤ b → Kept b e s s' → Spells s i xs → Spells s' i xs
  spells_front xs h k p =
      record { inside = rw k.size p.inside; spelled = part_front (length xs) h k ∙ p.spelled }

  pub spells_back : (xs : List ℕ) → e ≤ i → Kept b e s s' → Spells s i xs → Spells s' i xs
  spells_back xs h k p =
      record { inside = rw k.size p.inside; spelled = part_back (length xs) h k ∙ p.spelled }

-- what was written stands there
pub spells_sets : (s : List ℕ) (i : ℕ) (xs : List ℕ) → i + length xs ≤ length s → Spells (sets s i xs) i xs
spells_sets s i xs h =
    record {
      inside = rw length-sets h;
      spelled =
          ap (λ (l : List ℕ). part l i (length xs)) (sets-eq xs s i h ∙ append_assoc (take i s) xs (drop (i + length xs) s))
          ∙ ap (take (length xs)) (drop_at (take i s) (xs ++ drop (i + length xs) s) i (length-take-le i s (omega arith)))
          ∙ take_at xs (drop (i + length xs) s) (length xs) refl;
    }

-- xs stands at i, and ys is written behind it
pub spells_more : (s : List ℕ) (i j : ℕ) (xs ys : List ℕ) → j ≡ i + length xs → j + length ys ≤ length s → Spells s i xs
    → Spells (sets s j ys) i (xs ++ ys)
spells_more s i j xs ys e h p =
    spells_append xs ys
    (spells_front i xs (omega arith) (kept_sets j (j + length ys) s j ys (omega arith) (omega arith)) p)
    (rw (sym e) (spells_sets s j ys h))

-- ys stands between xs and zs, and as many elements are written over it
pub spells_over : (s : List ℕ) (i j : ℕ) (xs ys zs vs : List ℕ) → j ≡ i + length xs → length vs ≡ length ys
    → Spells s i (xs ++ (ys ++ zs)) → Spells (sets s j vs) i (xs ++ (vs ++ zs))
spells_over s i j xs ys zs vs e l p =
    let k = kept_sets j (j + length vs) s j vs (omega arith) (omega arith) in
    let r = spells_right xs (ys ++ zs) p in
    spells_append xs (vs ++ zs)
    (spells_front i xs (omega arith) k (spells_left xs (ys ++ zs) p))
    (spells_append vs zs
    (rw (← e) (spells_sets s j vs (omega (arith, (spells_left ys zs r).inside))))
    (rw l (spells_back (i + length xs + length ys) zs (omega arith) k (spells_right ys zs r))))
