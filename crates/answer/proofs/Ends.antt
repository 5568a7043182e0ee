-- What the zeros, the finished tape and the message leave in the buffers is the definition's answer, whichever buffers an operation has.
-- Assumes nothing.
use Rattle.std.proofs.Common.{Result, Ok, Err}
use Prim.Native.Nat.{ℕ, min, ◌-◌, ◌≤◌}
use native.Mathlib.Omega.{arith}
use mathlib.Core.Path.{◌≡◌, ap, ◌∙◌}
use mathlib.Core.List.{List, [], ◌++◌}
use mathlib.Core.Option.{none, some}
use lib.ListN.{length, replicate, length-append, length-replicate}
use lib.Seq.{take_all}
use Rattle.format.specs.Entry.{Text, encode}
use Rattle.format.specs.Ast.{Tree}
use Rattle.format.specs.Flat.{flat_tree}
use Rattle.definition.specs.Outcome.{refusal, Outcome, open_outcome}
use Rattle.definition.specs.Answers.{Answer, Buffers, padded, answer, number_alone, verdict, message_alone, without_work, open_answers}
use Rattle.definition.specs.Older.{result_alone}
use Rattle.buffer.specs.Buffer.{Message, message_in as written}
use Rattle.nodes.specs.Node.{span_of}
use Rattle.tape.specs.declared.layout.Layout.{Layout}
use Rattle.area.specs.Area.{area_in, finished_in}
use Rattle.area.proofs.Tape.{finish_fits}
use Rattle.messages.specs.Reason.{number_of, message_of}
use Rattle.messages.specs.Write.{filled}
use Rattle.messages.specs.declared.Refused.{Refused}
use Rattle.walk_state.specs.Walk.{State}
use Rattle.walk_state.specs.Walk.{Walk}
use Rattle.walk_state.specs.Walk as walk
use Rattle.answer.specs.Matches.{answer_with, buffers, ended, AnswersRefusal, VerdictMatches, AnswersVerdict, OutcomeMatches, AnswersOutcome}
use Rattle.answer.specs.declared.Answer as code

-- ------------------------------------------------------------------ refusals

-- a message that fits is written whole
filled_fits : (n : ℕ) (t : Text) → length t ≤ n → filled n t ≡ written (padded n t) (length t)
unfolding filled padded
filled_fits n t h =
    let e : min n (length t) ≡ length t = omega arith in
    rw (e, take_all n (t ++ replicate (n - length t) 0) (simp (length-append, length-replicate) (omega arith)))

module _ {s : List ℕ} {d : Layout} {t : List ℕ} {c : Layout} where
  pub refusal_answered : (f : Refused) (charged n l m : ℕ) {number end : ℕ} {z : code.Answer} {result work message none : List ℕ}
      → number ≡ number_of f.reason → written message end ≡ filled m (message_of s d t c f.reason)
      → answer_with z result work none ≡ ended (buffers n l 0) (Outcome.refused (refusal number 0 []) charged)
      → AnswersRefusal s d t c f charged (buffers n l m)
      (answer_with (record { number = number; span = f.span; message_length = end; charged = charged }) result work message)
  unfolding ended open_answers open_outcome span_of
  refusal_answered f charged n l m e w zeros r matches h =
      let k = w ∙ ap (filled m) matches.its_message ∙ filled_fits m r.message h in
      rw (
        ap (λ (a : Answer). a.result) zeros,
        ap (λ (a : Answer). a.work) zeros,
        e,
        matches.its_number,
        matches.its_span,
        ap (λ (x : Message). x.end) k,
        ap (λ (x : Message). x.bytes) k,
      )

-- ------------------------------------------------------------------ other contents of a buffer

-- the same answer with other contents of the buffers
abbrev holding : (result work message : List ℕ) → Answer → Answer
holding result work message a =
    record {
      number = a.number;
      start = a.start;
      end = a.end;
      message_length = a.message_length;
      charged = a.charged;
      result = result;
      work = work;
      message = message;
    }

-- buffers that an operation has not stay empty
pub message_alone_lem : {r : code.Answer} {result work message : List ℕ} (m : ℕ) (o : Outcome (Unit {0}))
    → answer_with r result work message ≡ ended (message_alone m) o → answer_with r [] [] message ≡ ended (message_alone m) o
unfolding ended open_answers
message_alone_lem m (Outcome.done u k) e = ap (λ (a : Answer). holding [] [] a.message a) e
message_alone_lem m (Outcome.refused r k) e = ap (λ (a : Answer). holding [] [] a.message a) e

pub without_work_lem : {A : Type 0} (tape : A → List ℕ) (n m : ℕ) {r : code.Answer} {result work message : List ℕ} (o : Outcome A)
    → answer_with r result work message ≡ answer tape (without_work n m) o → answer_with r result [] message ≡ answer tape (without_work n m) o
unfolding open_answers
without_work_lem tape n m (Outcome.done a k) e = ap (λ (a : Answer). holding a.result [] a.message a) e
without_work_lem tape n m (Outcome.refused r k) e = ap (λ (a : Answer). holding a.result [] a.message a) e

pub result_alone_lem : {r : code.Answer} {result work message : List ℕ} (n number : ℕ)
    → answer_with r result work message ≡ ended (result_alone n) (number_alone number)
    → answer_with r result [] [] ≡ ended (result_alone n) (number_alone number)
unfolding ended open_answers
result_alone_lem n number e = ap (λ (a : Answer). holding a.result [] [] a) e

pub no_buffers_lem : {r : code.Answer} {result work message : List ℕ} (number : ℕ)
    → answer_with r result work message ≡ ended (result_alone 0) (number_alone number)
    → answer_with r [] [] [] ≡ ended (result_alone 0) (number_alone number)
unfolding ended open_answers
no_buffers_lem number e = ap (holding [] [] []) e

-- a result that stands in its buffer already
pub result_written : {A : Type 0} (tape : A → List ℕ) {r : code.Answer} {none result work message : List ℕ} (n l m : ℕ) (a : A) (k : ℕ)
    → result ≡ padded n (tape a) → answer_with r none work message ≡ ended (buffers 0 l m) (Outcome.refused (refusal 0 0 []) k)
    → answer_with r result work message ≡ answer tape (buffers n l m) (Outcome.done a k)
unfolding ended open_answers open_outcome
result_written tape {result = result} n l m a k p e =
    ap (λ (z : Answer). holding result z.work z.message z) e ∙ rw p

-- ------------------------------------------------------------------ verdicts

module _ (s : List ℕ) (l : Layout) (b : Buffers) {a : Answer} {v : Result Unit Refused} where
  pub passes_answered : v ≡ (Ok tt) → a ≡ ended b (Outcome.refused (refusal 0 0 []) 0) → AnswersVerdict s l v b a
  unfolding VerdictMatches ended open_answers open_outcome
  passes_answered p e none j n = e
  passes_answered p e (some r) j n = absurd (rw p at j)

  pub refused_answered : {f : Refused} → v ≡ Err f → AnswersRefusal s l s l f 0 b a → AnswersVerdict s l v b a
  unfolding VerdictMatches verdict
  refused_answered p h none j n = absurd (rw p at j)
  refused_answered p h (some r) j n = h r (rw p at j) n

-- ------------------------------------------------------------------ walks

module _ (s : List ℕ) (d : Layout) (t : List ℕ) (c : Layout) (bytes : List ℕ) {w : Walk} where
  pub going_answered : {r : code.Answer} {none result work message : List ℕ} (before : List ℕ) (l m : ℕ) {st : State} → w ≡ walk.Going st
      → result ≡ finished_in (area_in st.out bytes) before
      → answer_with r none work message ≡ ended (buffers 0 l m) (Outcome.refused (refusal 0 0 []) st.charged)
      → AnswersOutcome s d t c w bytes (buffers (length before) l m) (answer_with r result work message)
  unfolding OutcomeMatches
  going_answered before l m {st} p f e (Outcome.done tree k) h large short =
      let g = rw p at h in
      result_written (λ (t : Tree). encode (flat_tree t)) (length before) l m tree k (f ∙ finish_fits g.1 before g.2 large)
      (e ∙ ap (λ (n : ℕ). ended (buffers 0 l m) (Outcome.refused (refusal 0 0 []) n)) g.0)
  going_answered before l m p f e (Outcome.refused x k) h large short = absurd (rw p at h)

  pub walk_refused : (b : Buffers) {a : Answer} {f : Refused} {k : ℕ} → w ≡ walk.Refused f k → AnswersRefusal s d t c f k b a
      → AnswersOutcome s d t c w bytes b a
  unfolding OutcomeMatches ended answer
  walk_refused b p e (Outcome.done tree k) h large short = absurd (rw p at h)
  walk_refused b p e (Outcome.refused x k) h large short =
      let g = rw p at h in
      e x g.1 short ∙ ap (λ (j : ℕ). ended b (Outcome.refused x j)) g.0
