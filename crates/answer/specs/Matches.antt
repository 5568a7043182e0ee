-- The code's answers, refusals, verdicts and walks beside the definition's. An operation has only the buffers it needs; one that it has
-- not is empty, and 0 bytes long in `Buffers`.
-- Assumes nothing.
use Rattle.std.specs.Prelude.{ℕ, ◌≤◌, ◌<◌, ◌≡◌, List, [], true, length, Result, Ok, Err}
use Rattle.std.proofs.Math.Option.{none, some}
use Rattle.format.specs.Entry.{Text, encode}
use Rattle.format.specs.Ast.{Tree}
use Rattle.format.specs.Flat.{flat_tree}
use Rattle.definition.specs.Outcome.{Refusal, Outcome}
use Rattle.definition.specs.Check.{Verdict}
use Rattle.definition.specs.Answers as definition
use Rattle.definition.specs.Answers.{Buffers, message_alone, number_alone}
use Rattle.nodes.specs.Node.{span_of}
use Rattle.tape.specs.Accept.{accept_of}
use Rattle.tape.specs.Header.{fault_number}
use Rattle.tape.specs.declared.header.Fault.{Fault}
use Rattle.tape.specs.declared.layout.Layout.{Layout}
use Rattle.tape.specs.declared.layout.Tape.{Tape}
use Rattle.area.specs.Area.{area_in, fits_area, Wrote}
use Rattle.messages.specs.Reason.{number_of, message_of}
use Rattle.messages.specs.declared.Refused.{Refused}
use Rattle.walk_state.specs.Walk.{Walk}
use Rattle.walk_state.specs.Walk as walk
use Rattle.answer.specs.declared.Answer.{Answer}

-- ------------------------------------------------------------------ answers

-- the answer, with what the three buffers hold
abbrev pub answer_with : Answer → (result work message : List ℕ) → definition.Answer
answer_with r result work message =
    record {
      number = r.number;
      start = r.span.start;
      end = r.span.end;
      message_length = r.message_length;
      charged = r.charged;
      result = result;
      work = work;
      message = message;
    }

abbrev pub buffers : ℕ → ℕ → ℕ → Buffers
buffers result work message = record { result_length = result; work_length = work; message_length = message }

-- the answer of an outcome that has no result
unfoldable pub ended : Buffers → Outcome (Unit {0}) → definition.Answer
ended b o = definition.answer (λ (u : Unit {0}). []) b o

-- the answer of one whose result is a tree
abbrev pub tree_end : Buffers → Outcome Tree → definition.Answer
tree_end b o = definition.answer (λ (t : Tree). encode (flat_tree t)) b o

abbrev pub message_in : {A : Type 0} → Outcome A → Text
message_in (Outcome.done a charged) = []
message_in (Outcome.refused r charged) = r.message

-- ------------------------------------------------------------------ refusals

-- a refusal of the code is one of the definition: number, span, and the message that is written from the two tapes
pub record RefusalMatches (s : List ℕ) (d : Layout) (t : List ℕ) (c : Layout) (f : Refused) (r : Refusal) : Type 0 where
  pub its_number : number_of f.reason ≡ r.number
  pub its_span : f.span ≡ span_of r.span
  pub its_message : message_of s d t c f.reason ≡ r.message

-- a is the answer of the refusal, in buffers that have room for its message
abbrev pub AnswersRefusal : List ℕ → Layout → List ℕ → Layout → Refused → ℕ → Buffers → definition.Answer → Type 0
AnswersRefusal s d t c f charged b a =
    (r : Refusal) → RefusalMatches s d t c f r → length r.message ≤ b.message_length → a ≡ ended b (Outcome.refused r charged)

-- ------------------------------------------------------------------ verdicts

unfoldable pub VerdictMatches : List ℕ → Layout → Result Unit Refused → Verdict → Type 0
VerdictMatches s l (Ok tt) none = Unit {0}
VerdictMatches s l (Ok tt) (some r) = ⊥
VerdictMatches s l (Err f) none = ⊥
VerdictMatches s l (Err f) (some r) = RefusalMatches s l s l f r

-- a is the answer of every verdict that matches
abbrev pub AnswersVerdict : List ℕ → Layout → Result Unit Refused → Buffers → definition.Answer → Type 0
AnswersVerdict s l v b a =
    (w : Verdict) → VerdictMatches s l v w → length (message_in (definition.verdict w)) ≤ b.message_length
    → a ≡ ended b (definition.verdict w)

-- a is the answer of an operation that has the tape s and a message buffer of m bytes alone: 1 for a short buffer, then the refusal of the
-- tape, then a verdict that P says of the accepted tape
pub data AnswersTape (s : List ℕ) (sort : ℕ) (P : Tape → Result Unit Refused → Type 0) (m : ℕ) (a : definition.Answer) : Type 0 where
  short_message : m < 2048 → a ≡ ended (message_alone m) (number_alone 1) → AnswersTape s sort P m a
  tape_refused : {f : Fault} → 2048 ≤ m → accept_of s sort ≡ Err f → a ≡ ended (message_alone m) (number_alone (fault_number f)) → AnswersTape s sort P m a
  tape_judged : {t : Tape} {v : Result Unit Refused} → 2048 ≤ m → t.bytes.now ≡ s → accept_of s sort ≡ Ok t.layout → P t v
      → AnswersVerdict s t.layout v (message_alone m) a → AnswersTape s sort P m a

-- ------------------------------------------------------------------ walks

-- The walk over the definition's tape s, laid out as d, and the call's tape t, laid out as c, came to the outcome: its output, in the
-- area of a slice, is the tree, which is within the largest figures of an area; or its refusal is the outcome's.
unfoldable pub OutcomeMatches : List ℕ → Layout → List ℕ → Layout → Walk → List ℕ → Outcome Tree → Type 0
OutcomeMatches s d t c (walk.Going st) bytes (Outcome.done tree charged) =
    (st.charged ≡ charged) × Wrote (area_in st.out bytes) (flat_tree tree) × (fits_area (flat_tree tree) ≡ true)
OutcomeMatches s d t c (walk.Going st) bytes (Outcome.refused r charged) = ⊥
OutcomeMatches s d t c (walk.Refused f k) bytes (Outcome.done tree charged) = ⊥
OutcomeMatches s d t c (walk.Refused f k) bytes (Outcome.refused r charged) = (k ≡ charged) × RefusalMatches s d t c f r

-- a is the answer of every outcome that matches the walk, in buffers that have room for a tape and for its message
abbrev pub AnswersOutcome : List ℕ → Layout → List ℕ → Layout → Walk → List ℕ → Buffers → definition.Answer → Type 0
AnswersOutcome s d t c w bytes b a =
    (o : Outcome Tree) → OutcomeMatches s d t c w bytes o → 12296 ≤ b.result_length → length (message_in o) ≤ b.message_length
    → a ≡ tree_end b o
