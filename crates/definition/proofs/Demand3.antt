-- Demand 3 holds, on trees and on tapes. FreeWalk has the walk; here it is put into the words of specs/Demand3.antt.
-- Assumes nothing.
use Prim.Native.Nat.{ℕ}
use native.Mathlib.Omega.{arith}
use mathlib.Core.Path.{◌≡◌, refl, sym, subst}
use mathlib.Core.Logic.{◌≢◌}
use mathlib.Core.List.{List}
use mathlib.Core.Bool.{Bool, true, false}
use mathlib.Core.Option.{none, some}
use borrow.Author.Tests.{le-leb}
use lib.Dec.{T, leb}
use Rattle.format.specs.Entry.{encode}
use Rattle.format.specs.Ast.{Tree, MacroDef}
use Rattle.format.specs.Flat.{flat_tree}
use Rattle.format.specs.Macro.{holds_macro}
use Rattle.format.specs.Tape.{Reading, definition_root, read}
use Rattle.format.proofs.Macro.{to_free, from_free}
use Rattle.definition.specs.Outcome.{Outcome, number_of}
use Rattle.definition.specs.Check.{Verdict, check_def}
use Rattle.definition.specs.Substitute.{substitute}
use Rattle.definition.specs.Answers.{Buffers, answer, number_alone, reading, long_buffers, tree_answer, substitute_tapes, substitute_answer, verdict, message_answer, check_answer}
use Rattle.definition.specs.Demand3.{Safe, Demand3, Passes, SafeAnswer, Demand3OnTapes}
use Rattle.definition.proofs.Good.{good_done, good_refused}
use Rattle.definition.proofs.FreeWalk.{allowed, Leaves, FreeTree, free_substitute}
use Rattle.definition.proofs.Verdicts.{Given, passes, refuses, Numbered, none_of, numbered_def}

-- ------------------------------------------------------------------ on trees

-- a number that is allowed is none of the three
unfoldable not_allowed : (k l : ℕ) → allowed l ≡ false → T (allowed k) → k ≢ l
not_allowed k l h t e = subst T h (subst (λ (x : ℕ). T (allowed x)) e t)

pub safe : {o : Outcome Tree} → Leaves FreeTree o → Safe o
unfolding number_of allowed
safe (good_done {a = a} f) =
    record {
      never_48 = λ e. omega arith;
      never_41 = λ e. omega arith;
      nothing_left = λ t charged e. let q : a ≡ t = cc in subst (λ (x : Tree). holds_macro (flat_tree x) ≡ false) q (from_free f);
    }
safe (good_refused t) =
    record {
      never_48 = not_allowed _ 48 refl t;
      never_41 = not_allowed _ 41 refl t;
      nothing_left = λ u charged e. let z : ◌≡◌ {A = ℕ} 0 1 = cc in absurd (omega arith);
    }

pub demand3 : Demand3
demand3 limit file def call h q = safe (free_substitute limit file def call h (sym q.right_number) (to_free _ q.plain_arguments))

-- ------------------------------------------------------------------ on tapes

-- the answer of a check, from the verdict
verdict_passes : (tape : Unit {0} → List ℕ) (b : Buffers) (v : Verdict) → Given Numbered v
    → (answer tape b (verdict v)).number ≢ 20
    → (answer tape b (verdict v)).number ≢ 21
    → (answer tape b (verdict v)).number ≢ 22
    → v ≡ none
unfolding answer verdict
verdict_passes tape b none passes p q r = refl
verdict_passes tape b (some x) (refuses t) p q r = absurd (none_of x.number t p q r)

passed : (definition : List ℕ) (def : MacroDef) → read definition_root definition ≡ Reading.accepted def → Passes definition → check_def def ≡ none
unfolding check_answer message_answer reading
passed definition def h p =
    let long : leb 2048 p.message_length ≡ true = le-leb 2048 p.message_length p.long_enough in
    verdict_passes _ _ (check_def def) (numbered_def def) (rw (long, h) at p.no_20) (rw (long, h) at p.no_21) (rw (long, h) at p.no_22)

pub safe_answer : (b : Buffers) (o : Outcome Tree) → Leaves FreeTree o → SafeAnswer b (tree_answer b o)
unfolding tree_answer answer number_alone allowed
safe_answer b o g = go (long_buffers b)
  where
    tape : Tree → List ℕ
    tape t = encode (flat_tree t)

    made : (p : Outcome Tree) → Leaves FreeTree p → SafeAnswer b (answer tape b p)
    made (Outcome.done t charged) (good_done f) =
        record {
          never_48 = λ e. omega arith;
          never_41 = λ e. omega arith;
          nothing_left = λ e. (t, refl, from_free f);
        }
    made (Outcome.refused r charged) (good_refused t) =
        record {
          never_48 = not_allowed _ 48 refl t;
          never_41 = not_allowed _ 41 refl t;
          nothing_left = λ e. absurd (not_allowed _ 0 refl t e);
        }

    go : (long : Bool) → SafeAnswer b (answer tape b (elim long [ true ↦ o | false ↦ number_alone 1 ]))
    go true = made o g
    go false = made (number_alone 1) (good_refused tt)

pub demand3_on_tapes : Demand3OnTapes
unfolding substitute_answer substitute_tapes reading
demand3_on_tapes b limit file definition input def call tapes p q =
    rw (tapes.its_definition, tapes.its_call)
    (safe_answer b (substitute limit file def call)
    (free_substitute limit file def call (passed definition def tapes.its_definition p) (sym q.right_number) (to_free _ q.plain_arguments)))
