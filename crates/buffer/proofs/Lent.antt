-- Writes into a lent part of a slice are writes into the slice.
-- Assumes nothing.
use mathlib.Core.Path.{◌≡◌, refl, sym, ap, ◌∙◌}
use mathlib.Core.List.{List, [], ◌++◌, append-nil}
use Prim.Native.Nat.{ℕ, ◌+◌, ◌-◌, ◌≤◌}
use native.Mathlib.Omega.{arith}
use lib.ListN.{length, take, drop, length-drop, take-append-drop, drop_of_length-le}
use lib.Seq.{sets, length-take-le}
use borrow.Rule.Slice.PartMut.{put_mid, post_of}
use Rattle.format.specs.Stands.{part}
use Rattle.format.proofs.Stands.{length_part}
use Rattle.buffer.proofs.Sets.{sets_past, sets_front}

module _ (s : List ℕ) (a k : ℕ) (xs : List ℕ) (h : a + k ≤ length s) where
  whole : take a s ++ (part s a k ++ post_of a k s) ≡ s
  whole = ap (λ (l : List ℕ). take a s ++ l) (take-append-drop k (drop a s)) ∙ take-append-drop a s

  -- where they do not reach past the part
  lent : sets (part s a k ++ post_of a k s) 0 xs ≡ sets (part s a k) 0 xs ++ post_of a k s
      → put_mid a k s (sets (part s a k) 0 xs) ≡ sets s a xs
  lent e =
      ap (λ (l : List ℕ). take a s ++ l) (sym e)
      ∙ sym (sets_past (take a s) (part s a k ++ post_of a k s) a xs (length-take-le a s (omega arith)))
      ∙ ap (λ (l : List ℕ). sets l a xs) whole

  -- a part that they fit into
  sets_lent : length xs ≤ k → put_mid a k s (sets (part s a k) 0 xs) ≡ sets s a xs
  sets_lent f = lent (sets_front (part s a k) (post_of a k s) 0 xs (omega (arith, length_part s a k h)))

-- one that ends at b, where they do
pub sets_lent_to : (s : List ℕ) (a b : ℕ) (xs : List ℕ) → b ≡ a + length xs → b ≤ length s
    → put_mid a (b - a) s (sets (part s a (b - a)) 0 xs) ≡ sets s a xs
sets_lent_to s a b xs e h = sets_lent s a (b - a) xs (omega arith) (omega arith)

-- the part from a to the end
pub sets_lent_rest : (s : List ℕ) (a : ℕ) (xs : List ℕ) → a ≤ length s
    → put_mid a (length s - a) s (sets (part s a (length s - a)) 0 xs) ≡ sets s a xs
sets_lent_rest s a xs h =
    let e : post_of a (length s - a) s ≡ [] = drop_of_length-le (drop a s) {i = length s - a} (omega (arith, length-drop a s)) in
    lent s a (length s - a) xs (omega arith) (rw (e, append-nil, append-nil) refl)
