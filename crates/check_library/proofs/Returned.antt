-- What an empty list promises, of what the operations return and write: specs/Returned.antt.
-- Assumes nothing.
use Prim.Native.Nat.{ℕ}
use mathlib.Core.Path.{sym, subst, ap, ◌∙◌}
use mathlib.Core.List.{List}
use Rattle.definition.specs.Answers.{Answer}
use Rattle.definition.specs.Demand3.{SafeAnswer}
use Rattle.definition.specs.Library.{EmptyList}
use Rattle.definition.proofs.Library.{empty_list_covers}
use Rattle.check_library.specs.Returned.{NothingListed, EmptyListReturned}

-- the definition's answer has what was returned
empty_list : {registry : List ℕ} → NothingListed registry → EmptyList registry
empty_list n =
    record {
      result_length = n.result_length;
      message_length = n.message_length;
      gives_0 = ap (λ (a : Answer). a.number) (sym n.met) ∙ n.returned_0;
      empty = ap (λ (a : Answer). a.result) (sym n.met) ∙ n.zeros;
    }

pub empty_list_returned : EmptyListReturned
empty_list_returned registry defs q h n =
    let covers = empty_list_covers registry defs q h (empty_list n) in
    record {
      substitutions = λ i d e b limit file input call k right r result work message met.
          subst (SafeAnswer b) (sym met) (covers.substitutions i d e b limit file input call k right);
      expansions = λ b limit file input c k clear r result work message met.
          subst (SafeAnswer b) (sym met) (covers.expansions b limit file input c k clear);
    }
