-- Document 02, point 14, of what `substitute` returns and writes: how far an argument moves a result. The theorem is
-- `argument_size_returned` of proofs/ArgumentSize.antt; it takes the contracts of `check` and `substitute`, and nothing else of their
-- code.
-- Assumes nothing.
use Rattle.std.specs.Prelude.{ℕ, ◌≡◌, List}
use Rattle.format.specs.Entry.{Text}
use Rattle.format.specs.Ast.{Call, CallArg, CallArgs, Tree, MacroParam, MacroDef}
use Rattle.definition.specs.Answers.{Buffers, substitute_answer}
use Rattle.definition.specs.Demand3.{OnTapes}
use Rattle.definition.specs.ArgumentSize.{TwoCalls, Moved, places_of, Holds}
use Rattle.answer.specs.Matches.{answer_with}
use Rattle.answer.specs.declared.Answer.{Answer}
use Rattle.substitution.specs.Demand3.{Passed}

-- `substitute` met its contract, with some buffers, under some limit and in some file, and returned 0
pub record Substituted (definition input : List ℕ) : Type 0 where
  pub lent : Buffers
  pub limit : ℕ
  pub file : ℕ
  pub returned : Answer
  pub result : List ℕ
  pub work : List ℕ
  pub message : List ℕ
  pub met : answer_with returned result work message ≡ substitute_answer lent limit file definition input
  pub returned_0 : returned.number ≡ 0

-- its result buffer holds a tape of this tree, and zeros behind it
abbrev pub Leaves : {definition input : List ℕ} → Substituted definition input → Tree → Type 0
Leaves s t = Holds s.lent (answer_with s.returned s.result s.work s.message) t

-- Each of the two leaves a tree, and of whatever trees they leave, and of what they charged, the sentence holds. Each call has its own
-- limit, file number and buffers.
pub record MovedReturned (k : ℕ) (one other : CallArg) {definition input input' : List ℕ}
    (s : Substituted definition input) (s' : Substituted definition input') : Type 0 where
  pub leaves : (t : Tree) × Leaves s t
  pub leaves' : (t : Tree) × Leaves s' t
  pub moved : (t t' : Tree) → Leaves s t → Leaves s' t' → Moved k one other t t' s.returned.charged s'.returned.charged

-- for every definition that passed its check, and all such calls of it that returned 0
abbrev pub ArgumentSizeReturned : Type 0
ArgumentSizeReturned =
    (definition input input' : List ℕ)
    (def : MacroDef) (span : ℕ) (name : Text) (p : MacroParam) (one other : CallArg) (args args' : CallArgs)
    → OnTapes definition input def (Call.MacroCall span name args)
    → OnTapes definition input' def (Call.MacroCall span name args')
    → Passed definition
    → TwoCalls def p one other args args'
    → (s : Substituted definition input) (s' : Substituted definition input')
    → MovedReturned (places_of def p) one other s s'
