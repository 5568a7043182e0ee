-- Document 02, point 14, of what `substitute` returns and writes.
-- Assumes nothing.
use Prim.Native.Nat.{ℕ}
use mathlib.Core.Path.{◌≡◌, sym, subst, ap, ◌∙◌}
use mathlib.Core.List.{List}
use Rattle.format.specs.Ast.{Tree}
use Rattle.definition.specs.Answers.{Answer, substitute_answer}
use Rattle.definition.specs.ArgumentSize.{Holds}
use Rattle.definition.proofs.ArgumentSize.{argument_size_on_tapes}
use Rattle.definition.proofs.Held.{holds_tree}
use Rattle.substitution.specs.ArgumentSize.{Substituted, Leaves, ArgumentSizeReturned}
use Rattle.substitution.proofs.Demand3.{passes}

module _ {definition input : List ℕ} (s : Substituted definition input) where
  abbrev defined : Answer
  defined = substitute_answer s.lent s.limit s.file definition input

  gives_0 : defined.number ≡ 0
  gives_0 = ap (λ (a : Answer). a.number) (sym s.met) ∙ s.returned_0

  -- what the definition's answer holds was left, and what was left it holds
  left : {t : Tree} → Holds s.lent defined t → Leaves s t
  left {t} h = subst (λ (a : Answer). Holds s.lent a t) (sym s.met) h

  holds : {t : Tree} → Leaves s t → Holds s.lent defined t
  holds {t} h = subst (λ (a : Answer). Holds s.lent a t) s.met h

  its_charge : s.returned.charged ≡ defined.charged
  its_charge = ap (λ (a : Answer). a.charged) s.met

  some_tree : (t : Tree) × Leaves s t
  some_tree =
      let h = holds_tree s.lent s.limit s.file definition input gives_0 in
      (h.0, left h.1)

pub argument_size_returned : ArgumentSizeReturned
argument_size_returned definition input input' def span name p one other args args' tapes tapes' passed calls s s' =
    record {
      leaves = some_tree s;
      leaves' = some_tree s';
      moved = λ t t' h h'.
          rw (its_charge s, its_charge s')
          (argument_size_on_tapes s.lent s'.lent s.limit s'.limit s.file s'.file definition input input' def span name p one
          other args args' tapes tapes' (passes passed) calls (gives_0 s) (gives_0 s') t t' (holds s h) (holds s' h'));
    }
