-- The answer of each operation, from the bytes of its tapes, the limit, the file number and the lengths of its buffers: number, span, message
-- length, charged figure, and every byte of the buffers afterwards (document 01, "Refusals of the expander").
-- Assumes nothing.
use Rattle.std.specs.Prelude.{ℕ, ◌-◌, List, [], ◌++◌, Bool, true, false, ◌&&◌, leb, length, replicate}
use Rattle.std.proofs.Math.Option.{none, some}
use Rattle.format.specs.Entry.{encode}
use Rattle.format.specs.Ast.{Tree}
use Rattle.format.specs.Flat.{flat_tree}
use Rattle.format.specs.Tape.{Reading, condition_root, call_root, definition_root, registry_root, read}
use Rattle.definition.specs.Outcome.{refusal, Outcome, span_start, span_end}
use Rattle.definition.specs.Check.{Verdict, check_def}
use Rattle.definition.specs.Registry.{build}
use Rattle.definition.specs.Substitute.{substitute}
use Rattle.definition.specs.Expand.{expand}

-- "Returned always: number, span, message length, charged."
pub record Answer : Type 0 where
  pub number : ℕ
  pub start : ℕ
  pub end : ℕ
  pub message_length : ℕ
  pub charged : ℕ
  pub result : List ℕ
  pub work : List ℕ
  pub message : List ℕ

-- the lengths of the three buffers
pub record Buffers : Type 0 where
  pub result_length : ℕ
  pub work_length : ℕ
  pub message_length : ℕ

-- bytes, and zeros behind them to the end of the buffer
unfoldable pub padded : ℕ → List ℕ → List ℕ
padded n bytes = bytes ++ replicate (n - length bytes) 0

-- "Success is 0 with span 0..0 and no message", and "writes the tape and zeros behind it; work and message are all zero".
-- "A refusal zeroes result and work, and the message buffer holds the message, then zeros." `tape` is what success writes.
unfoldable pub answer : {A : Type 0} → (A → List ℕ) → Buffers → Outcome A → Answer
answer tape b (Outcome.done a charged) =
    record {
      number = 0;
      start = 0;
      end = 0;
      message_length = 0;
      charged = charged;
      result = padded b.result_length (tape a);
      work = padded b.work_length [];
      message = padded b.message_length [];
    }
answer tape b (Outcome.refused r charged) =
    record {
      number = r.number;
      start = span_start r.span;
      end = span_end r.span;
      message_length = length r.message;
      charged = charged;
      result = padded b.result_length [];
      work = padded b.work_length [];
      message = padded b.message_length r.message;
    }

-- 1, 2, and 3 of a tape: no message, span 0..0, nothing charged
unfoldable pub number_alone : {A : Type 0} → ℕ → Outcome A
number_alone number = Outcome.refused (refusal number 0 []) 0

unfoldable pub reading : {A B : Type 0} → Reading A → (A → Outcome B) → Outcome B
reading Reading.malformed k = number_alone 2
reading Reading.too_large k = number_alone 3
reading (Reading.accepted a) k = k a

-- ------------------------------------------------------------------ expansion and substitution

-- "result below 12,296 bytes, work below 65,536 or message below 2,048" is 1, before anything else. It is a refusal, so that it
-- too zeroes all three buffers, those that are too short among them.
unfoldable pub long_buffers : Buffers → Bool
long_buffers b = leb 12296 b.result_length && (leb 65536 b.work_length && leb 2048 b.message_length)

unfoldable pub tree_answer : Buffers → Outcome Tree → Answer
tree_answer b o = answer (λ (t : Tree). encode (flat_tree t)) b (elim (long_buffers b) [ true ↦ o | false ↦ number_alone 1 ])

-- "then tapes, registry or definition first"
unfoldable pub expand_tapes : (limit file : ℕ) → List ℕ → List ℕ → Outcome Tree
expand_tapes limit file registry input =
    reading (read registry_root registry) λ defs. reading (read condition_root input) λ c. expand limit file defs c

unfoldable pub expand_answer : Buffers → (limit file : ℕ) → List ℕ → List ℕ → Answer
expand_answer b limit file registry input = tree_answer b (expand_tapes limit file registry input)

unfoldable pub substitute_tapes : (limit file : ℕ) → List ℕ → List ℕ → Outcome Tree
substitute_tapes limit file definition input =
    reading (read definition_root definition) λ def. reading (read call_root input) λ c. substitute limit file def c

unfoldable pub substitute_answer : Buffers → (limit file : ℕ) → List ℕ → List ℕ → Answer
substitute_answer b limit file definition input = tree_answer b (substitute_tapes limit file definition input)

-- ------------------------------------------------------------------ check and registry

-- "An operation has only the buffers it needs: check and registry have message alone."
abbrev pub message_alone : ℕ → Buffers
message_alone m = record { result_length = 0; work_length = 0; message_length = m }

unfoldable pub verdict : Verdict → Outcome (Unit {0})
verdict none = Outcome.done tt 0
verdict (some r) = Outcome.refused r 0

unfoldable pub message_answer : ℕ → Outcome (Unit {0}) → Answer
message_answer m o = answer (λ (u : Unit {0}). []) (message_alone m) (elim (leb 2048 m) [ true ↦ o | false ↦ number_alone 1 ])

unfoldable pub check_answer : ℕ → List ℕ → Answer
check_answer m definition = message_answer m (reading (read definition_root definition) λ def. verdict (check_def def))

unfoldable pub registry_answer : ℕ → List ℕ → Answer
registry_answer m registry = message_answer m (reading (read registry_root registry) λ defs. verdict (build defs))

-- ------------------------------------------------------------------ operations of document 02 with result and message

abbrev pub without_work : ℕ → ℕ → Buffers
without_work r m = record { result_length = r; work_length = 0; message_length = m }

unfoldable pub result_answer : {A : Type 0} → (A → List ℕ) → (r m : ℕ) → Outcome A → Answer
result_answer tape r m o = answer tape (without_work r m) (elim (leb 12296 r && leb 2048 m) [ true ↦ o | false ↦ number_alone 1 ])

-- Whoever unfolds this unfolds every definition of this file.
unfoldable pub open_answers : Unit {0}
unfolding
    padded answer number_alone reading long_buffers tree_answer expand_tapes expand_answer substitute_tapes substitute_answer
    verdict message_answer check_answer registry_answer result_answer
open_answers = tt
