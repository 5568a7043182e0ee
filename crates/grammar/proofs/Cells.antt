-- The stack in memory, and words as lists of sorts.
-- Assumes nothing.
use Prim.Native.Nat.{ℕ, zero, suc, ◌-◌, ◌/◌, ◌%◌, ◌^◌, ◌≤◌, ◌<◌}
use mathlib.Core.Path.{◌≡◌, refl, sym, ap, ◌∙◌}
use mathlib.Core.Bool.{Bool, true, false}
use mathlib.Core.List.{List, [], ◌∷◌, ◌++◌}
use native.Mathlib.Omega.{arith}
use native.Mathlib.Nat.{pow-suc}
use borrow.Author.Tests.{ltb-true}
use lib.Dec.{ltb}
use lib.ListN.{length, get_or, drop, take, replicate}
use Rattle.std.proofs.lemmas.Option.{get_or_from_slice_get}
use Rattle.std.proofs.Common.{Some, slice_get, slice_set}
use Rattle.std.proofs.lemmas.List.{append_assoc, append-nil}
use Rattle.grammar.specs.Grammar.{sorts_of}
use Rattle.grammar.specs.Pick.{pick}
use Rattle.grammar.specs.Waits.{Wait, wait, waits, counted}
use Rattle.grammar.specs.Words.{sorts_in, is_each, follows_of}
use Rattle.grammar.specs.Stack.{cell, waits_of, wait_of, stack_of}
use Rattle.grammar.specs.declared.stack.Cell.{Cell}

-- digits enough are enough
enough : (k w more : ℕ) → w < 64 ^ suc k → sorts_in (suc (suc k)) w more ≡ sorts_in (suc k) w more
enough zero w more h = grind arith
enough (suc k) w more h = ap (pick (ltb w 64) (w ∷ replicate more w))
    (ap (λ (ss : List ℕ). w % 64 ∷ ss) (enough k (w / 64) more (omega (arith, rw pow-suc at h))))

module _ (word more nesting calls : ℕ) where
  -- a cell waits for its first sort first
  pub first_wait : waits_of (cell word more nesting calls) ≡ wait (word % 64) nesting calls
      ∷ drop 1 (waits_of (cell word more nesting calls))
  unfolding waits_of
  first_wait = go (ltb word 64) (ltb-true word 64)
    where
      go : (b : Bool) → (b ≡ true → word < 64)
          → waits nesting calls (pick b (word ∷ replicate more word) (word % 64 ∷ sorts_in 5 (word / 64) more))
          ≡ wait (word % 64) nesting calls
          ∷ drop 1 (waits nesting calls (pick b (word ∷ replicate more word) (word % 64 ∷ sorts_in 5 (word / 64) more)))
      go true h =
          let g : word < 64 = h refl in
          let e : word % 64 ≡ word = omega arith in
          rw e
      go false h = refl

  -- what is left of it: the other sorts, the last sort once less, nothing
  pub rest_word : 64 ≤ word → word < 0x100000000 → waits_of (cell (word / 64) more nesting calls)
      ≡ drop 1 (waits_of (cell word more nesting calls))
  unfolding waits_of
  rest_word h₁ h₂ = grind (arith, enough 4 (word / 64) more (omega arith))

  pub rest_more : word < 64 → 0 < more → waits_of (cell word (more - 1) nesting calls)
      ≡ drop 1 (waits_of (cell word more nesting calls))
  unfolding waits_of
  rest_more h₁ h₂ =
      let e : more ≡ suc (more - 1) = omega arith in
      rw e (grind arith)

pub rest_none : (c : Cell) → c.word < 64 → c.more ≤ 0 → [] ≡ drop 1 (waits_of c)
unfolding waits_of
rest_none c h₁ h₂ = grind arith

-- ------------------------------------------------------------------ what follows, as a number

pub counted_each : (w v : ℕ) → is_each w ≡ true → counted (follows_of w) v ≡ v
unfolding follows_of
counted_each w v e = grind arith

module _ (w v nesting calls : ℕ) where
  pub follow_each : is_each w ≡ true → 0 < v → waits_of (cell (w - 32) (v - 1) nesting calls)
      ≡ waits nesting calls (sorts_of (follows_of w) v)
  unfolding follows_of waits_of
  follow_each e h =
      let n : v ≡ suc (v - 1) = omega arith in
      rw n (grind arith)

-- ------------------------------------------------------------------ the stack

-- a cell more on top
pub pushed : (cs : List Cell) (c : Cell) → stack_of (cs ++ c ∷ []) ≡ waits_of c ++ stack_of cs
pushed [] c = sym (append-nil (waits_of c))
pushed (k ∷ cs) c = ap (λ (ws : List Wait). ws ++ waits_of k) (pushed cs c) ∙ append_assoc (waits_of c) (stack_of cs) (waits_of k)

-- the cell on top, and the others
on_top : (cs : List Cell) (n : ℕ) (c : Cell) → length cs ≡ suc n → stack_of cs ≡ waits_of (get_or cs n c) ++ stack_of (take n cs)
on_top [] n c h = absurd (omega (arith, h))
on_top (k ∷ []) zero c h = sym (append-nil (waits_of k))
on_top (k ∷ m ∷ cs) zero c h = absurd (omega (arith, h))
on_top (k ∷ cs) (suc n) c h =
    ap (λ (ws : List Wait). ws ++ waits_of k) (on_top cs n c (omega (arith, h)))
    ∙ append_assoc (waits_of (get_or cs n c)) (stack_of (take n cs)) (waits_of k)

-- another cell in its place
on_top_set : (cs : List Cell) (n : ℕ) (c : Cell) → length cs ≡ suc n → stack_of (slice_set cs n c) ≡ waits_of c ++ stack_of (take n cs)
on_top_set [] n c h = absurd (omega (arith, h))
on_top_set (k ∷ []) zero c h = sym (append-nil (waits_of c))
on_top_set (k ∷ m ∷ cs) zero c h = absurd (omega (arith, h))
on_top_set (k ∷ cs) (suc n) c h =
    ap (λ (ws : List Wait). ws ++ waits_of k) (on_top_set cs n c (omega (arith, h)))
    ∙ append_assoc (waits_of c) (stack_of (take n cs)) (waits_of k)

below_set : (cs : List Cell) (c : Cell) (n : ℕ) → take n (slice_set cs n c) ≡ take n cs
below_set [] c n = refl
below_set (k ∷ cs) c zero = refl
below_set (k ∷ cs) c (suc n) = ap (λ (ks : List Cell). k ∷ ks) (below_set cs c n)

length_set : (cs : List Cell) (c : Cell) (n : ℕ) → length (slice_set cs n c) ≡ length cs
length_set [] c n = refl
length_set (k ∷ cs) c zero = refl
length_set (k ∷ cs) c (suc n) = ap suc (length_set cs c n)

drop_over : (c : Cell) (ws : List Wait) → drop 1 (waits_of c) ++ ws ≡ drop 1 (waits_of c ++ ws)
drop_over c ws = rw (first_wait c.word c.more c.nesting c.calls)

module _ (cs : List Cell) (c d : Cell) (is_top : c ≡ get_or cs (length cs - 1) c) (some : 0 < length cs) where
  abbrev others : List Wait
  others = stack_of (take (length cs - 1) cs)

  is_last : length cs ≡ suc (length cs - 1)
  is_last = omega (arith, some)

  all_of : stack_of cs ≡ waits_of c ++ others
  all_of = on_top cs (length cs - 1) c is_last ∙ ap (λ (k : Cell). waits_of k ++ stack_of (take (length cs - 1) cs)) (sym is_top)

  without : drop 1 (waits_of c) ++ others ≡ drop 1 (stack_of cs)
  without = drop_over c others ∙ ap (λ (ws : List Wait). drop 1 ws) (sym all_of)

  pub dropped : waits_of d ≡ drop 1 (waits_of c) → stack_of (slice_set cs (length cs - 1) d) ≡ drop 1 (stack_of cs)
  dropped h = on_top_set cs (length cs - 1) d is_last ∙ ap (λ (ws : List Wait). ws ++ others) h ∙ without

  pub used_up : [] ≡ drop 1 (waits_of c) → stack_of (take (length (slice_set cs (length cs - 1) d) - 1) (slice_set cs (length cs - 1) d)) ≡ drop 1 (stack_of cs)
  used_up h =
      ap (λ (n : ℕ). stack_of (take (n - 1) (slice_set cs (length cs - 1) d))) (length_set cs d (length cs - 1))
      ∙ ap stack_of (below_set cs d (length cs - 1))
      ∙ ap (λ (ws : List Wait). ws ++ others) h
      ∙ without

-- what the cell on top waits for comes first
pub top_wait : (cs : List Cell) (c : Cell) → slice_get cs (length cs - 1) ≡ Some c → 0 < length cs → stack_of cs ≡ wait_of c ∷ drop 1 (stack_of cs)
top_wait cs c h some =
    rw (all_of cs c c (sym (get_or_from_slice_get cs (length cs - 1) c c h)) some, first_wait c.word c.more c.nesting c.calls)
