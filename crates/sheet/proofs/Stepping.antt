-- What a step answers and leaves: a law for each way of returning.
-- Assumes nothing.
use Prim.Native.Nat.{ℕ, ◌+◌, ◌-◌, ◌≤◌, ◌<◌, ◌^◌}
use mathlib.Core.Path.{◌≡◌, refl, sym, ap, ap₂, ◌∙◌}
use mathlib.Core.List.{List, []}
use mathlib.Core.Bool.{Bool, true, false}
use native.Mathlib.Omega.{arith}
use borrow.Author.Tests.{eq-eqb, ne_eqb}
use lib.ListN.{drop}
use Rattle.format.specs.Tape.{Bytes}
use Rattle.format.proofs.Accepted.{bytes_take, bytes_drop}
use Rattle.definition.specs.Outcome.{refusal, Outcome}
use Rattle.definition.specs.Answers.{Answer, Buffers, answer, long_buffers, number_alone, tree_answer, expand_answer}
use Rattle.definition.specs.Counts.{expand_counts}
use Rattle.definition.proofs.Kept.{expand_bounded}
use Rattle.answer.specs.Matches.{ended}
use Rattle.sheet.specs.declared.Progress.{Progress}
use Rattle.sheet.specs.Sheet.{size_of, begins_with_one, first_of, width_of, limit_of, file_of, next_condition, expansion_answer, expansion_counts, sheet_next_answer, behind_next, sheet_next_progress, sheet_next_counts}

-- ------------------------------------------------------------------ none is left

module _ (b : Buffers) {a : Answer} where
  pub done_short : long_buffers b ≡ false → a ≡ ended b (Outcome.refused (refusal 1 0 []) 0) → a ≡ tree_answer b (number_alone 0)
  unfolding tree_answer ended answer number_alone
  done_short e q = q ∙ sym (rw (tree_answer, e) refl)

  pub done_long : long_buffers b ≡ true → a ≡ ended b (Outcome.refused (refusal 0 0 []) 0) → a ≡ tree_answer b (number_alone 0)
  unfolding tree_answer ended answer number_alone
  done_long e q = q ∙ sym (rw (tree_answer, e) refl)

pub done_free : (b : Buffers) → (tree_answer b (number_alone 0)).charged ≡ 0
unfolding ended answer
done_free b = go (long_buffers b) refl
  where
    go : (t : Bool) → long_buffers b ≡ t → (tree_answer b (number_alone 0)).charged ≡ 0
    go true e = sym (ap (λ (x : Answer). x.charged) (done_long b e refl))
    go false e = sym (ap (λ (x : Answer). x.charged) (done_short b e refl))

module _ (b : Buffers) (registry sheet : List ℕ) (p : Progress) where
  module _ (none : p.left ≡ 0) where
    pub done_answer : {a : Answer} → a ≡ tree_answer b (number_alone 0) → a ≡ sheet_next_answer b registry sheet p
    unfolding sheet_next_answer
    done_answer e = e ∙ sym (rw (sheet_next_answer, eq-eqb p.left 0 none) refl)

    pub done_progress : p ≡ sheet_next_progress b registry sheet p
    unfolding sheet_next_progress
    done_progress = sym (rw (sheet_next_progress, eq-eqb p.left 0 none) refl)

    pub done_counts : (counts : List ℕ) → counts ≡ sheet_next_counts b registry sheet p counts
    unfolding sheet_next_counts
    done_counts counts = sym (rw (sheet_next_counts, eq-eqb p.left 0 none) refl)

  -- ------------------------------------------------------------------ one is left

  module _ (some : p.left ≡ 0 → ⊥) where
    pub next_is_expansion : sheet_next_answer b registry sheet p ≡ expansion_answer b registry sheet p
    unfolding sheet_next_answer
    next_is_expansion = rw (sheet_next_answer, ne_eqb p.left 0 some) refl

    pub next_moves : sheet_next_progress b registry sheet p ≡ behind_next b registry sheet p
    unfolding sheet_next_progress
    next_moves = rw (sheet_next_progress, ne_eqb p.left 0 some) refl

    pub next_hands_on : (counts : List ℕ) → sheet_next_counts b registry sheet p counts ≡ expansion_counts b registry sheet p counts
    unfolding sheet_next_counts
    next_hands_on counts = rw (sheet_next_counts, ne_eqb p.left 0 some) refl

    pub next_progress : {a : Answer} {at : ℕ} → a ≡ expansion_answer b registry sheet p → at ≡ p.at + width_of (drop p.at sheet)
        → record { at = at; left = p.left - 1; charged = p.charged + a.charged; budget = p.budget; file = p.file }
        ≡ sheet_next_progress b registry sheet p
    unfolding behind_next
    next_progress e q =
        ap₂
        (λ (x y : ℕ). record { at = x; left = p.left - 1; charged = p.charged + y; budget = p.budget; file = p.file })
        q
        (ap (λ (x : Answer). x.charged) e)
        ∙ sym next_moves

  -- ------------------------------------------------------------------ its expansion

  module _ {limit file : ℕ} {input : List ℕ} (l : limit ≡ limit_of p) (f : file ≡ file_of p) (i : input ≡ first_of (drop p.at sheet)) where
    pub expanded : {a : Answer} → a ≡ expand_answer b limit file registry input → a ≡ expansion_answer b registry sheet p
    unfolding expansion_answer next_condition
    expanded e = e ∙ rw (l, f, i) refl

    pub counted : (before : List ℕ) {after : List ℕ} → after ≡ expand_counts b limit file registry input before
        → after ≡ expansion_counts b registry sheet p before
    unfolding expansion_counts next_condition
    counted before e = e ∙ rw (l, f, i) refl

-- ------------------------------------------------------------------ sums that fit

pub bytes_first : (s : List ℕ) → Bytes s → Bytes (first_of s)
unfolding first_of
bytes_first s h = go (begins_with_one s) refl
  where
    go : (t : Bool) → begins_with_one s ≡ t → Bytes (first_of s)
    go true e = rw (first_of, e) (bytes_take (size_of s) (drop 4 s) (bytes_drop 4 s h))
    go false e = rw (first_of, e) tt

pub bytes_next : (sheet : List ℕ) (p : Progress) → Bytes sheet → Bytes (next_condition sheet p)
unfolding next_condition
bytes_next sheet p h = bytes_first (drop p.at sheet) (bytes_drop p.at sheet h)

-- what is charged is at most what is left of the budget
pub within_budget : (b : Buffers) (registry sheet : List ℕ) (p : Progress) → Bytes registry → Bytes sheet
    → (expansion_answer b registry sheet p).charged ≤ p.budget - p.charged
unfolding limit_of expansion_answer
within_budget b registry sheet p r s =
    let small : limit_of p < 2 ^ 32 = omega arith in
    omega (arith, (expand_bounded b (limit_of p) (file_of p) small registry (next_condition sheet p) r (bytes_next sheet p s)).within_limit)

pub charged_within : (b : Buffers) (registry sheet : List ℕ) (p : Progress) → Bytes registry → Bytes sheet → {a : Answer}
    → a ≡ expansion_answer b registry sheet p → a.charged ≤ p.budget - p.charged
charged_within b registry sheet p r s e = omega (arith, within_budget b registry sheet p r s, ap (λ (x : Answer). x.charged) e)

-- what a call of the expansion with these arguments comes to
pub expanded_next : (b : Buffers) (registry sheet : List ℕ) (p : Progress) (before : List ℕ) {limit file : ℕ} {input after : List ℕ} {a : Answer}
    → Bytes registry → Bytes sheet → limit ≡ limit_of p → file ≡ file_of p → input ≡ first_of (drop p.at sheet)
    → (a ≡ expand_answer b limit file registry input) × (after ≡ expand_counts b limit file registry input before)
    → (a ≡ expansion_answer b registry sheet p) × (after ≡ expansion_counts b registry sheet p before) × (a.charged ≤ p.budget - p.charged)
expanded_next b registry sheet p before r s l f i e =
    let is = expanded b registry sheet p l f i e.0 in
    (is, counted b registry sheet p l f i before e.1, charged_within b registry sheet p r s is)
