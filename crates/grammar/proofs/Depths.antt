-- How deep a tree of document 01's table can be, by its codes alone: codes have weights and sorts have rooms, and what stands at a place
-- goes no deeper than its sort's room and the weights of its codes together. Whether weights and rooms are such is computed, code by code.
-- Assumes nothing.
use Prim.Native.Nat.{ℕ, zero, suc, ◌+◌, ◌≤◌, ◌<◌, ◌%◌}
use mathlib.Core.Path.{◌≡◌}
use mathlib.Core.Bool.{Bool, true, false, not, ◌&&◌, ◌||◌}
use mathlib.Core.List.{List, [], ◌∷◌}
use native.Mathlib.Omega.{arith}
use lib.Dec.{T, leb, leb→le}
use lib.ListN.{get_or, replicate}
use Rattle.format.proofs.All.{All, all_nil, all_cons}
use Rattle.format.proofs.Tests.{and_left, and_right, from_true}
use Rattle.grammar.specs.Grammar.{Follows, once, each, sorts_of}
use Rattle.grammar.specs.Words.{temporal_grammar, sort_at, row_at, in_sort, nesting_of, follows_in, follows_of}
use Rattle.grammar.proofs.Marks.{sort_of, past_sort, everywhere}
use Rattle.grammar.proofs.Table.{every, at_both}

-- the room of a sort
abbrev pub room_of : List ℕ → ℕ → ℕ
room_of rooms s = get_or rooms (s % 32) 0

abbrev nesting_in : ℕ → ℕ
nesting_in c = nesting_of false (row_at temporal_grammar c)

-- below n nodes the sorts have no more room than `most`
abbrev all_within : (n most : ℕ) → List ℕ → List ℕ → Bool
all_within n most rooms [] = true
all_within n most rooms (s ∷ ss) = leb (n + room_of rooms s) most && all_within n most rooms ss

abbrev within : (n most : ℕ) → List ℕ → Follows → Bool
within n most rooms (once ss) = all_within n most rooms ss
within n most rooms (each s) = leb (n + room_of rooms s) most

all_within_lem : (n most : ℕ) (rooms : List ℕ) (f : Follows) (v : ℕ) → T (within n most rooms f)
    → All (λ (s : ℕ). n + room_of rooms s ≤ most) (sorts_of f v)
all_within_lem n most rooms (once ss) v t = go ss t
  where
    go : (ss : List ℕ) → T (all_within n most rooms ss) → All (λ (s : ℕ). n + room_of rooms s ≤ most) ss
    go [] t = all_nil
    go (s ∷ ss) t =
        let b = leb (n + room_of rooms s) most in
        all_cons (leb→le (n + room_of rooms s) most (and_left b _ t)) (go ss (and_right b _ t))
all_within_lem n most rooms (each s) v t = go v
  where
    go : (v : ℕ) → All (λ (k : ℕ). n + room_of rooms k ≤ most) (replicate v s)
    go zero = all_nil
    go (suc v) = all_cons (leb→le (n + room_of rooms s) most t) (go v)

-- of a code in the sort with the number n: the sort's room and the code's weight are enough for it and for what follows
abbrev enough : (ℕ → ℕ) → List ℕ → ℕ → ℕ → Bool
enough weight rooms n c =
    not (in_sort (sort_of n) c)
    || (leb (nesting_in c) (get_or rooms n 0 + weight c)
    && within (nesting_in c) (get_or rooms n 0 + weight c) rooms (follows_of (follows_in (sort_of n) (row_at temporal_grammar c))))

abbrev pub is_enough : (ℕ → ℕ) → List ℕ → Bool
is_enough weight rooms = every (λ (n : ℕ). every (enough weight rooms n) 0 77) 0 32

-- what it says of a code that stands at a place of a sort
pub record Bounded (weight : ℕ → ℕ) (rooms : List ℕ) (s c : ℕ) : Type 0 where
  pub itself : nesting_of false (row_at temporal_grammar c) ≤ room_of rooms s + weight c
  pub others : (v : ℕ)
      → All (λ (k : ℕ). nesting_of false (row_at temporal_grammar c) + room_of rooms k ≤ room_of rooms s + weight c)
      (sorts_of (follows_of (follows_in (sort_at temporal_grammar s) (row_at temporal_grammar c))) v)

pub bounded : (weight : ℕ → ℕ) (rooms : List ℕ) → T (is_enough weight rooms)
    → (s c : ℕ) → in_sort (sort_at temporal_grammar s) c ≡ true → Bounded weight rooms s c
bounded weight rooms all s =
    everywhere {P = λ (c : ℕ). in_sort (sort_at temporal_grammar s) c ≡ true → Bounded weight rooms s c} inside
    (λ c h i. absurd (past_sort (s % 32) c (omega arith) h (from_true i)))
  where
    inside : (c : ℕ) → c < 77 → in_sort (sort_at temporal_grammar s) c ≡ true → Bounded weight rooms s c
    inside c h i =
        go (in_sort (sort_at temporal_grammar s) c) i
        (at_both (enough weight rooms) 32 77 all (s % 32) c (omega arith) h)
      where
        low : Bool
        low = leb (nesting_in c) (room_of rooms s + weight c)

        after : Follows
        after = follows_of (follows_in (sort_at temporal_grammar s) (row_at temporal_grammar c))

        go : (i : Bool) → i ≡ true → T (not i || (low && within (nesting_in c) (room_of rooms s + weight c) rooms after)) → Bounded weight rooms s c
        go false e t = absurd (cc)
        go true e t =
            record {
              itself = leb→le (nesting_in c) (room_of rooms s + weight c) (and_left low _ t);
              others = λ v. all_within_lem (nesting_in c) (room_of rooms s + weight c) rooms after v (and_right low _ t);
            }
