-- Codes looked at one by one for an Or.
-- Assumes nothing.
use Prim.Native.Nat.{ℕ, ◌+◌, ◌≤◌, ◌<◌}
use mathlib.Core.Path.{◌≡◌, refl, sym, ap, ◌∙◌}
use mathlib.Core.List.{List}
use mathlib.Core.Bool.{Bool, true, false, not, ◌&&◌, ◌||◌}
use native.Mathlib.Nat.{zero-add}
use native.Mathlib.Omega.{arith}
use borrow.Author.Tests.{eq-eqb, ne_eqb}
use lib.Dec.{eqb}
use lib.ListN.{length, drop, get_or}
use Rattle.format.specs.Limits.{weigh}
use Rattle.format.specs.Macro.{tally}
use Rattle.tape.proofs.Counting.{count_step, count_end, ors_step}
use Rattle.tape.specs.Layouts.{code_at}
use Rattle.tape.specs.Ors.{coded, ors_from}
use Rattle.tape.specs.declared.layout.Layout.{Layout}

one_more : (found b : Bool) (t : ℕ) → (not (found || b) && eqb t 0) ≡ (not found && eqb (weigh b + t) 0)
unfolding weigh
one_more true b t = refl
one_more false true t = sym (ne_eqb (1 + t) 0 (λ e. omega (arith, e)))
one_more false false t = ap (λ (k : ℕ). eqb k 0) (sym (zero-add t))

none_left : (found : Bool) {t : ℕ} → t ≡ 0 → (not found && eqb t 0) ≡ not found
none_left true e = refl
none_left false e = rw e refl

-- none was found, and none is left, before and after a code, and behind the last
module _ (found : Bool) (codes : List ℕ) (i : ℕ) where
  pub none_step : i < length codes
      → (not (found || eqb (get_or codes i 0) 2) && eqb (tally 2 (coded (drop (i + 1) codes))) 0) ≡ (not found && eqb (tally 2 (coded (drop i codes))) 0)
  none_step h =
      one_more found (eqb (get_or codes i 0) 2) (tally 2 (coded (drop (i + 1) codes)))
      ∙ ap (λ (k : ℕ). not found && eqb k 0) (sym (count_step codes i h))

  pub none_end : length codes ≤ i → (not found && eqb (tally 2 (coded (drop i codes))) 0) ≡ not found
  none_end h = none_left found (count_end codes i h)

-- an entry of a layout that is an Or is one of those that are left there, and what follows it are no more than those
module _ (s : List ℕ) (l : Layout) (at : ℕ) where
  pub or_left : at < l.entries → l.codes + l.entries ≤ length s → code_at s l at ≡ 2 → ors_from s l at ≡ 1 + ors_from s l (at + 1)
  unfolding weigh
  or_left h i e = ors_step s l at h i ∙ ap (λ (b : Bool). weigh b + ors_from s l (at + 1)) (eq-eqb (code_at s l at) 2 e)
