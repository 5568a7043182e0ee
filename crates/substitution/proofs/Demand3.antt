-- Demand 3, of what the two operations return and write.
-- Assumes nothing.
use Prim.Native.Nat.{ℕ}
use mathlib.Core.Path.{sym, subst, ap, ◌∙◌}
use mathlib.Core.Logic.{◌≢◌}
use mathlib.Core.List.{List}
use Rattle.definition.specs.Answers.{Answer, check_answer}
use Rattle.definition.specs.Demand3.{Passes, SafeAnswer}
use Rattle.definition.proofs.Demand3.{demand3_on_tapes}
use Rattle.answer.specs.Matches.{answer_with}
use Rattle.substitution.specs.Demand3.{Passed, Demand3Returned}

-- the check's answer has the number that was returned
pub passes : {definition : List ℕ} → Passed definition → Passes definition
passes {definition} p =
    let other : (n : ℕ) → p.returned.number ≢ n → (check_answer p.message_length definition).number ≢ n =
    λ n h e. h (ap (λ (a : Answer). a.number) p.met ∙ e) in
    record {
      message_length = p.message_length;
      long_enough = p.long_enough;
      no_20 = other 20 p.no_20;
      no_21 = other 21 p.no_21;
      no_22 = other 22 p.no_22;
    }

pub demand3_returned : Demand3Returned
demand3_returned b limit file definition input def call r result work message tapes p q met =
    let safe : SafeAnswer b (answer_with r result work message) =
    subst (SafeAnswer b) (sym met) (demand3_on_tapes b limit file definition input def call tapes (passes p) q) in
    record { never_48 = safe.never_48; never_41 = safe.never_41; nothing_left = safe.nothing_left }
