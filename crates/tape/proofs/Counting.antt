-- Codes counted one by one, and the Ors among them.
-- Assumes nothing.
use Prim.Native.Nat.{ℕ, zero, suc, ◌+◌, ◌-◌, ◌≤◌, ◌<◌}
use mathlib.Core.Path.{◌≡◌, refl, ap, sym, ◌∙◌}
use mathlib.Core.List.{List, [], ◌∷◌}
use mathlib.Core.Bool.{Bool, true, false}
use native.Mathlib.Omega.{arith}
use native.Mathlib.Nat.{add-zero}
use native.Mathlib.Numerals.{add-one}
use lib.Dec.{eqb}
use lib.ListN.{length, drop, get_or, drop_of_length-le, length-take, length-map}
use lib.Seq.{drop-cons}
use Rattle.definition.specs.Size.{size}
use Rattle.format.specs.Entry.{Entry, entry}
use Rattle.format.specs.Limits.{is_node, weigh}
use Rattle.format.specs.Stands.{part}
use Rattle.format.proofs.Stands.{part_cons}
use Rattle.tape.specs.Flat.{Passing, branch_weight, is_branch, sum_of, weight_of}
use Rattle.tape.specs.Layouts.{code_at, holds, width_by, entries_at}
use Rattle.tape.specs.Pick.{pick}
use Rattle.tape.specs.declared.layout.Layout.{Layout}
use Rattle.format.specs.Macro.{tally}
use Rattle.grammar.specs.Words.{Rules}
use Rattle.tape.specs.Ors.{coded, ors_from, ors_in}

-- a figure summed up from a code on
module _ (f : ℕ → ℕ) (codes : List ℕ) (i : ℕ) where
  pub sum_step : i < length codes → sum_of f (drop i codes) ≡ f (get_or codes i 0) + sum_of f (drop (i + 1) codes)
  sum_step h = rw (drop-cons codes i 0 h, add-one) refl

  pub sum_end : length codes ≤ i → sum_of f (drop i codes) ≡ 0
  sum_end h = rw (drop_of_length-le codes h) refl

-- the nodes among entries
size_sum : (cs : List ℕ) → size (coded cs) ≡ sum_of (λ (c : ℕ). weigh (is_node c)) cs
unfolding size
size_sum [] = refl
size_sum (c ∷ cs) = ap (λ (n : ℕ). weigh (is_node c) + n) (size_sum cs)

-- what is counted by a test, where the test is known
module _ (cs : List ℕ) (P : ℕ → Bool → Type 0) (n : ℕ) (p : Passing cs P n) where
  pub passing_code : (code : ℕ) → ((c : ℕ) (b : Bool) → P c b → b ≡ eqb c code) → n ≡ sum_of (weight_of code) cs
  unfolding Passing
  passing_code code h = p (λ (c : ℕ). eqb c code) h

  pub passing_branch : ((c : ℕ) (b : Bool) → P c b → b ≡ is_branch c) → n ≡ sum_of branch_weight cs
  unfolding Passing
  passing_branch h = p is_branch h

  pub passing_nodes : ((c : ℕ) (b : Bool) → P c b → b ≡ is_node c) → n ≡ size (coded cs)
  unfolding Passing
  passing_nodes h = p is_node h ∙ sym (size_sum cs)

-- a code among entries
pub tally_sum : (code : ℕ) (codes : List ℕ) → tally code (coded codes) ≡ sum_of (weight_of code) codes
unfolding tally
tally_sum code [] = refl
tally_sum code (c ∷ cs) = omega (arith, tally_sum code cs)

-- all Ors of a layout, as its codes are lent
pub ors_held : (s : List ℕ) (l : Layout) → ors_from s l 0 ≡ sum_of (weight_of 2) (part s l.codes (l.codes + l.entries - l.codes))
ors_held s l =
    let n : l.codes + l.entries - l.codes ≡ l.entries - 0 = omega arith in
    rw (n, add-zero l.codes) (tally_sum 2 (part s l.codes (l.entries - 0)))

-- Ors from a code on
module _ (codes : List ℕ) (i : ℕ) where
  pub count_step : i < length codes → tally 2 (coded (drop i codes)) ≡ weigh (eqb (get_or codes i 0) 2) + tally 2 (coded (drop (i + 1) codes))
  count_step h =
      tally_sum 2 (drop i codes) ∙ sum_step (weight_of 2) codes i h
      ∙ ap (λ (n : ℕ). weight_of 2 (get_or codes i 0) + n) (sym (tally_sum 2 (drop (i + 1) codes)))

  pub count_end : length codes ≤ i → tally 2 (coded (drop i codes)) ≡ 0
  count_end h = tally_sum 2 (drop i codes) ∙ sum_end (weight_of 2) codes i h

-- the Ors from an entry on
module _ (s : List ℕ) (l : Layout) where
  pub ors_step : (at : ℕ) → at < l.entries → l.codes + l.entries ≤ length s
      → ors_from s l at ≡ weigh (eqb (code_at s l at) 2) + ors_from s l (at + 1)
  unfolding tally
  ors_step at h i =
      let e : l.entries - at ≡ suc (l.entries - (at + 1)) = omega arith in
      let k : l.codes + at + 1 ≡ l.codes + (at + 1) = omega arith in
      rw (e, part_cons s (l.codes + at) (l.entries - (at + 1)) (omega arith), k) refl

-- no more than there are entries
tally_most : (es : List Entry) → tally 2 es ≤ length es
unfolding tally weigh
tally_most [] = omega arith
tally_most (e ∷ es) = go (eqb e.code 2) (tally_most es)
  where
    go : (b : Bool) → tally 2 es ≤ length es → weigh b + tally 2 es ≤ suc (length es)
    go true h = omega arith
    go false h = omega arith

pub ors_most : (s : List ℕ) (l : Layout) → ors_from s l 0 ≤ l.entries
ors_most s l =
    let codes = part s (l.codes + 0) (l.entries - 0) in
    omega (arith, tally_most (coded codes), length-map {B = Entry} codes (λ (c : ℕ). entry c 0), length-take (l.entries - 0) (drop (l.codes + 0) s))

pub ors_in_most : (s : List ℕ) (l : Layout) → ors_in s l ≤ l.entries
ors_in_most s l = go (holds s l)
  where
    go : (b : Bool) → pick b (ors_from s l 0) 0 ≤ l.entries
    go true = ors_most s l
    go false = omega arith

-- those among the entries that a slice has from an entry on
pub entries_ors : (g : Rules) (s : List ℕ) (l : Layout) (n at txt : ℕ) → l.codes + at + n ≤ length s
    → tally 2 (coded (part s (l.codes + at) n)) ≡ tally 2 (entries_at g s l at txt n)
unfolding tally
entries_ors g s l zero at txt h = refl
entries_ors g s l (suc n) at txt h =
    let e : l.codes + at + 1 ≡ l.codes + (at + 1) = omega arith in
    rw (part_cons s (l.codes + at) n (omega arith), e, entries_ors g s l n (at + 1) (txt + width_by g s l at) (omega arith)) refl
