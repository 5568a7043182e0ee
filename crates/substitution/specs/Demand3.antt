-- Demand 3, of what the two operations return and write: a definition that passed its check is safe to substitute. The theorem is
-- `demand3_returned` of proofs/Demand3.antt; it takes the contracts of the two operations, and nothing else of their code.
-- Assumes nothing.
use Rattle.std.specs.Prelude.{ℕ, ◌≤◌, ◌≡◌, ◌≢◌, List, [], false}
use Rattle.format.specs.Entry.{encode}
use Rattle.format.specs.Ast.{Call, Tree, MacroDef}
use Rattle.format.specs.Flat.{flat_tree}
use Rattle.format.specs.Macro.{holds_macro}
use Rattle.definition.specs.Answers.{Buffers, padded, check_answer, substitute_answer}
use Rattle.definition.specs.Demand3.{RightCall, OnTapes}
use Rattle.answer.specs.Matches.{answer_with}
use Rattle.answer.specs.declared.Answer.{Answer}

-- `check` met its contract with a message buffer that was long enough, and returned neither 20, 21 nor 22
pub record Passed (definition : List ℕ) : Type 0 where
  pub returned : Answer
  pub message_length : ℕ
  pub message : List ℕ
  pub met : answer_with returned [] [] message ≡ check_answer message_length definition
  pub long_enough : 2048 ≤ message_length
  pub no_20 : returned.number ≢ 20
  pub no_21 : returned.number ≢ 21
  pub no_22 : returned.number ≢ 22

-- What is promised of `substitute`: no call was met in the body, no parameter was unbound, and on success the result buffer of n bytes
-- holds a tree's tape and zeros behind it, a tree without call, sigil or refinement.
pub record SafeReturn (n : ℕ) (r : Answer) (result : List ℕ) : Type 0 where
  pub never_48 : r.number ≢ 48
  pub never_41 : r.number ≢ 41
  pub nothing_left : r.number ≡ 0 → (t : Tree) × (result ≡ padded n (encode (flat_tree t))) × (holds_macro (flat_tree t) ≡ false)

-- for every definition that passed, every call of it with the right number of plain arguments, every limit, every file number and all buffers
abbrev pub Demand3Returned : Type 0
Demand3Returned =
    (b : Buffers) (limit file : ℕ) (definition input : List ℕ) (def : MacroDef) (call : Call) (r : Answer) (result work message : List ℕ)
    → OnTapes definition input def call → Passed definition → RightCall def call
    → answer_with r result work message ≡ substitute_answer b limit file definition input
    → SafeReturn b.result_length r result
