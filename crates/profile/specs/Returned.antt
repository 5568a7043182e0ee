-- Document 02, point 10, of what the operations return and write: a condition that passes the profile is returned unchanged when it is
-- expanded again. The theorem is `unchanged_returned` of proofs/Returned.antt; it takes the contracts of the three operations, and
-- nothing else of their code.
-- Assumes nothing.
use Rattle.std.specs.Prelude.{ℕ, ◌≤◌, ◌≡◌, List, [], true}
use Rattle.format.specs.Entry.{encode}
use Rattle.format.specs.Ast.{Condition}
use Rattle.format.specs.Flat.{flat_condition}
use Rattle.format.specs.Tape.{Reading, named_root, accept, read, Bytes}
use Rattle.definition.specs.Answers.{Buffers, long_buffers, registry_answer, expand_answer}
use Rattle.definition.specs.Profile.{profile_answer, Plain, unchanged}
use Rattle.answer.specs.Matches.{answer_with}
use Rattle.answer.specs.declared.Answer.{Answer}

-- `build` met its contract with a message buffer that was long enough, and returned 0
pub record Built (registry : List ℕ) : Type 0 where
  pub returned : Answer
  pub message_length : ℕ
  pub message : List ℕ
  pub met : answer_with returned [] [] message ≡ registry_answer message_length registry
  pub long_enough : 2048 ≤ message_length
  pub passes : returned.number ≡ 0

-- `profile` met its contract, and returned 0
pub record Fits (input : List ℕ) : Type 0 where
  pub returned : Answer
  pub met : answer_with returned [] [] [] ≡ profile_answer input
  pub passes : returned.number ≡ 0

-- For every limit, every file number and long buffers `expand` returns 0 and nothing charged and writes the tape of the condition that
-- was read, which is the input itself where that holds no Or.
abbrev pub UnchangedReturned : Type 0
UnchangedReturned =
    (b : Buffers) (limit file : ℕ) (registry input : List ℕ) (c : Condition) (r : Answer) (result work message : List ℕ)
    → long_buffers b ≡ true → Bytes input → Built registry → Fits input
    → read (named_root 81) input ≡ Reading.accepted c
    → Plain c
    → answer_with r result work message ≡ expand_answer b limit file registry input
    → (answer_with r result work message ≡ unchanged b (encode (flat_condition c)))
    × (accept (named_root 81) input ≡ Reading.accepted c → encode (flat_condition c) ≡ input)
