-- Document 02, point 5: what an expansion would return, with the result's N and T in place of the result. The theorems are `previews`
-- and `previews_any` of proofs/Preview.antt.
-- Assumes nothing.
use Rattle.std.specs.Prelude.{ℕ, ◌≤◌, ◌≡◌, ◌≢◌, List, [], true, false, ◌&&◌, leb, length, take, drop}
use Rattle.format.specs.Entry.{text_of}
use Rattle.format.specs.Ast.{Tree}
use Rattle.format.specs.Flat.{flat_tree}
use Rattle.format.specs.Tape.{from_le}
use Rattle.definition.specs.Outcome.{Outcome}
use Rattle.definition.specs.Answers.{Answer, Buffers, answer, number_alone, long_buffers, expand_tapes, expand_answer}

-- "number, span, charged and the result's N and T", with the message; the answer's result is empty
pub record Preview : Type 0 where
  pub answered : Answer
  pub entries : ℕ
  pub text_bytes : ℕ

-- "on a refusal both are 0"
unfoldable pub entries_in : Outcome Tree → ℕ
entries_in (Outcome.done t n) = length (flat_tree t)
entries_in (Outcome.refused r n) = 0

unfoldable pub text_in : Outcome Tree → ℕ
text_in (Outcome.done t n) = length (text_of (flat_tree t))
text_in (Outcome.refused r n) = 0

-- "Of the buffers it asks for message and work only."
abbrev pub without_result : ℕ → ℕ → Buffers
without_result w m = record { result_length = 0; work_length = w; message_length = m }

unfoldable pub preview : Buffers → Outcome Tree → Preview
preview b o = record { answered = answer (λ (t : Tree). []) b o; entries = entries_in o; text_bytes = text_in o }

unfoldable pub preview_answer : (work_length message_length limit file : ℕ) → List ℕ → List ℕ → Preview
preview_answer w m limit file registry input =
    preview (without_result w m) (elim (leb 65536 w && leb 2048 m) [ true ↦ expand_tapes limit file registry input | false ↦ number_alone 1 ])

-- an expansion's answer without its result, but for the two sizes that the tape begins with
unfoldable pub sizes_only : Answer → Preview
sizes_only a =
    record {
      answered =
          record {
            number = a.number;
            start = a.start;
            end = a.end;
            message_length = a.message_length;
            charged = a.charged;
            result = [];
            work = a.work;
            message = a.message;
          };
      entries = from_le (take 4 a.result);
      text_bytes = from_le (take 4 (drop 4 a.result));
    }

-- "it equals what expansion returns on a copy of the same inputs with buffers that are long enough": of any result that is long
-- enough. Where its own buffers give 1, expansion gives 1 with them too.
abbrev pub PreviewsExpansion : Type 0
PreviewsExpansion =
    (r w m limit file : ℕ) (registry input : List ℕ) → 12296 ≤ r
    → preview_answer w m limit file registry input
    ≡ sizes_only (expand_answer (record { result_length = r; work_length = w; message_length = m }) limit file registry input)

-- a preview and an expansion's answer: all that is returned, the message in its buffer, and "N and T included; on a refusal both are 0"
pub record Previewed (p : Preview) (a : Answer) : Type 0 where
  pub same_number : p.answered.number ≡ a.number
  pub same_start : p.answered.start ≡ a.start
  pub same_end : p.answered.end ≡ a.end
  pub same_length : p.answered.message_length ≡ a.message_length
  pub same_message : take p.answered.message_length p.answered.message ≡ take a.message_length a.message
  pub same_charged : p.answered.charged ≡ a.charged
  pub same_entries : p.entries ≡ from_le (take 4 a.result)
  pub same_text : p.text_bytes ≡ from_le (take 4 (drop 4 a.result))
  pub refused : a.number ≢ 0 → (p.entries ≡ 0) × (p.text_bytes ≡ 0)

-- the same sentence, "Unless its own buffers give 1", of any buffers that are long enough
abbrev pub PreviewsAnyExpansion : Type 0
PreviewsAnyExpansion =
    (b : Buffers) (w m limit file : ℕ) (registry input : List ℕ) → long_buffers b ≡ true → 65536 ≤ w → 2048 ≤ m
    → Previewed (preview_answer w m limit file registry input) (expand_answer b limit file registry input)

-- Whoever unfolds this unfolds every definition of this file.
unfoldable pub open_preview : Unit {0}
unfolding
    entries_in text_in preview preview_answer sizes_only
open_preview = tt
