-- Laws of `sets`, the stores that a loop or a run of writes leaves, and of the part of a list that they leave alone.
-- Assumes nothing.
use mathlib.Core.Path.{◌≡◌, refl, sym, ap, ◌∙◌}
use mathlib.Core.List.{List, [], ◌∷◌, ◌++◌, map}
use Prim.Native.Nat.{ℕ, suc, ◌+◌, ◌-◌, ◌≤◌, ◌<◌, min}
use native.Mathlib.Nat.{zero-add, add-zero, add-suc, suc-add}
use native.Mathlib.Omega.{arith}
use native.Mathlib.Numerals.{add-one}
use lib.ListN.{length, take, drop, get_or, set, length-set, length-map, drop_of_length-le}
use lib.Seq.{sets, drop-cons, set_out, set-append_left, take-set-le, drop-set-lt}
use Rattle.std.proofs.lemmas.List.{get_or-map}
use Rattle.buffer.specs.Buffer.{WritesEach}
use Rattle.buffer.proofs.Decides.{le_or}

-- stores past the end change nothing
pub sets_out : (l : List ℕ) (i : ℕ) (vs : List ℕ) → length l ≤ i → sets l i vs ≡ l
sets_out l i [] h = refl
sets_out l i (a ∷ vs) h = rw (set_out l i a) (sets_out l (suc i) vs (omega arith))

pub sets_append : (l : List ℕ) (i : ℕ) (vs ws : List ℕ) → sets l i (vs ++ ws) ≡ sets (sets l i vs) (i + length vs) ws
sets_append l i [] ws = rw add-zero
sets_append l i (a ∷ vs) ws = sets_append (set l i a) (suc i) vs ws ∙ rw (add-suc, suc-add)

-- ys written behind xs, from the front on
pub sets_behind : (m xs ys : List ℕ) (k : ℕ) → k ≡ length xs → sets (sets m 0 xs) k ys ≡ sets m 0 (xs ++ ys)
sets_behind m xs ys k e = sym (sets_append m 0 xs ys ∙ rw (zero-add, e))

pub take_sets : (n : ℕ) (l : List ℕ) (i : ℕ) (vs : List ℕ) → n ≤ i → take n (sets l i vs) ≡ take n l
take_sets n l i [] h = refl
take_sets n l i (a ∷ vs) h = take_sets n (set l i a) (suc i) vs (omega arith) ∙ take-set-le n l i a h

pub drop_sets : (n : ℕ) (l : List ℕ) (i : ℕ) (vs : List ℕ) → i + length vs ≤ n → drop n (sets l i vs) ≡ drop n l
drop_sets n l i [] h = refl
drop_sets n l i (a ∷ vs) h = drop_sets n (set l i a) (suc i) vs (omega arith) ∙ drop-set-lt n l i a (omega arith)

-- stores behind p are stores into what follows it
sets_cons : (a : ℕ) (l : List ℕ) (i : ℕ) (vs : List ℕ) → sets (a ∷ l) (suc i) vs ≡ a ∷ sets l i vs
sets_cons a l i [] = refl
sets_cons a l i (v ∷ vs) = sets_cons a (set l i v) (suc i) vs

sets_seam : (p q vs : List ℕ) → sets (p ++ q) (length p) vs ≡ p ++ sets q 0 vs
sets_seam [] q vs = refl
sets_seam (a ∷ p) q vs = sets_cons a (p ++ q) (length p) vs ∙ ap (◌∷◌ a) (sets_seam p q vs)

pub sets_past : (p q : List ℕ) (i : ℕ) (vs : List ℕ) → length p ≡ i → sets (p ++ q) i vs ≡ p ++ sets q 0 vs
sets_past p q i vs h = rw (← h) (sets_seam p q vs)

-- stores that end within p
pub sets_front : (p q : List ℕ) (i : ℕ) (vs : List ℕ) → i + length vs ≤ length p → sets (p ++ q) i vs ≡ sets p i vs ++ q
sets_front p q i [] h = refl
sets_front p q i (v ∷ vs) h =
    rw (set-append_left p q i v (omega arith)) (sets_front (set p i v) q (suc i) vs (omega (arith, length-set p i v)))

-- a loop that stores vs from i on, element j next: it ends where vs does, or s
sets_end : (s : List ℕ) (i : ℕ) (vs : List ℕ) (j : ℕ) → length vs ≤ j → sets s i (drop j vs) ≡ s
sets_end s i vs j h = rw (drop_of_length-le vs h)

pub sets_stop : (s : List ℕ) (at : ℕ) (vs : List ℕ) (j : ℕ) → min (length s - at) (length vs) ≤ j → sets s (at + j) (drop j vs) ≡ s
sets_stop s at vs j h = le_or (length vs) j
    (λ e. sets_end s (at + j) vs j e)
    (λ e. sets_out s (at + j) (drop j vs) (omega (arith, h, e)))

-- and one that stores what f makes of each element: one more
pub sets_mapped : (f : ℕ → ℕ) (s : List ℕ) (at : ℕ) (vs : List ℕ) (j : ℕ) {x : ℕ} {whole : List ℕ} → sets s (at + j) (drop j (map f vs)) ≡ whole
    → j < length vs → x ≡ f (get_or vs j 0) → sets (set s (at + j) x) (at + (j + 1)) (drop (j + 1) (map f vs)) ≡ whole
sets_mapped f s at vs j {x} left h e =
    let m : drop j (map f vs) ≡ x ∷ drop (suc j) (map f vs) =
    drop-cons (map f vs) j 0 (omega (arith, length-map vs f)) ∙ ap (λ (y : ℕ). y ∷ drop (suc j) (map f vs)) (get_or-map f vs j 0 0 h ∙ sym e) in
    let k : at + suc j ≡ suc (at + j) = omega arith in
    rw (add-one, k) (sym (ap (sets s (at + j)) m)) ∙ left

-- its end, for each f that the calls agree with
pub sets_each : {P : ℕ → ℕ → Type 0} (s₀ s : List ℕ) (at : ℕ) (vs : List ℕ) (j : ℕ) → min (length s - at) (length vs) ≤ j
    → ((f : ℕ → ℕ) → ((b x : ℕ) → P b x → x ≡ f b) → sets s (at + j) (drop j (map f vs)) ≡ sets s₀ at (map f vs)) → WritesEach P at vs s₀ s
unfolding WritesEach
sets_each s₀ s at vs j h left f k = sym (sets_stop s at (map f vs) j (omega (arith, length-map vs f, h))) ∙ left f k
