-- What an empty list promises, of what the operations return and write. The theorem is `empty_list_returned` of proofs/Returned.antt; it
-- takes the contracts of `check_library`, `substitute` and `expand`, and nothing else of their code.
-- Assumes nothing.
use Rattle.std.specs.Prelude.{ℕ, ◌≡◌, List, []}
use Rattle.std.proofs.Math.Option.{some}
use Rattle.format.specs.Entry.{encode}
use Rattle.format.specs.Ast.{Condition, Call, MacroDef}
use Rattle.format.specs.Flat.{flat_def}
use Rattle.format.specs.Tape.{Reading, condition_root, call_root, registry_root, read, Bytes}
use Rattle.definition.specs.Answers.{Buffers, padded, substitute_answer, expand_answer}
use Rattle.definition.specs.Demand3.{RightCall, SafeAnswer}
use Rattle.definition.specs.Residue.{ClearCondition}
use Rattle.definition.specs.Library.{library_answer, definition_at}
use Rattle.answer.specs.Matches.{answer_with}
use Rattle.answer.specs.declared.Answer.{Answer}

-- `check_library` met its contract, returned 0, and its result buffer is all zero
pub record NothingListed (registry : List ℕ) : Type 0 where
  pub returned : Answer
  pub result_length : ℕ
  pub message_length : ℕ
  pub result : List ℕ
  pub message : List ℕ
  pub met : answer_with returned result [] message ≡ library_answer result_length message_length registry
  pub returned_0 : returned.number ≡ 0
  pub zeros : result ≡ padded result_length []

-- What is promised of `substitute` with each definition's own tape, and of `expand` with the registry: no call was met in a body, no
-- parameter was unbound, and on success the result buffer holds a tree without call, sigil or refinement.
pub record CoveredReturned (registry : List ℕ) (defs : List MacroDef) : Type 0 where
  pub substitutions : (i : ℕ) (d : MacroDef) → definition_at defs i ≡ some d
      → (b : Buffers) (limit file : ℕ) (input : List ℕ) (call : Call) → read call_root input ≡ Reading.accepted call → RightCall d call
      → (r : Answer) (result work message : List ℕ)
      → answer_with r result work message ≡ substitute_answer b limit file (encode (flat_def d)) input
      → SafeAnswer b (answer_with r result work message)
  pub expansions : (b : Buffers) (limit file : ℕ) (input : List ℕ) (c : Condition) → read condition_root input ≡ Reading.accepted c → ClearCondition c
      → (r : Answer) (result work message : List ℕ) → answer_with r result work message ≡ expand_answer b limit file registry input
      → SafeAnswer b (answer_with r result work message)

abbrev pub EmptyListReturned : Type 0
EmptyListReturned =
    (registry : List ℕ) (defs : List MacroDef) → Bytes registry → read registry_root registry ≡ Reading.accepted defs → NothingListed registry
    → CoveredReturned registry defs
