-- What a merge came to, finished or refused, leaves the definition's answer in the buffers.
-- Assumes nothing.
use Rattle.std.proofs.Common.{Result, Ok, Err}
use Prim.Native.Nat.{ℕ}
use mathlib.Core.Path.{◌≡◌, ap, ◌∙◌}
use mathlib.Core.List.{List, []}
use lib.ListN.{length, replicate}
use Rattle.definition.specs.Outcome.{refusal, Outcome}
use Rattle.definition.specs.Answers.{Answer, answer}
use Rattle.definition.specs.Merge.{registry_tape}
use Rattle.tape.specs.declared.layout.Layout.{Layout}
use Rattle.area.specs.Area.{area_in, finished_in}
use Rattle.area.specs.declared.Writer.{Writer}
use Rattle.area.proofs.Tape.{finish_fits}
use Rattle.messages.specs.declared.Refused.{Refused}
use Rattle.de_morgan.specs.Rewritten.{rewritten_in, rewritten_layout}
use Rattle.answer.specs.Matches.{answer_with, buffers, ended, AnswersRefusal}
use Rattle.answer.specs.declared.Answer as code
use Rattle.answer.proofs.Ends.{result_written, without_work_lem}
use Rattle.merge.specs.Join.{merging, merge_in}
use Rattle.merge.specs.Ends.{MergingMatches, AnswersMerging, EndsMerge}
use Rattle.merge.specs.declared.join.Refusing.{Refusing}
use Rattle.merge.specs.declared.join.Refusing.TheVariants.{First, Second}

module _ (s : List ℕ) (d : Layout) (t : List ℕ) (e : Layout) (bytes : List ℕ) {m : Result Writer Refusing} {r : code.Answer} {result work message : List ℕ} where
  pub written_answered : {none : List ℕ} {out : Writer} (before : List ℕ) (k : ℕ) → m ≡ Ok out → result ≡ finished_in (area_in out bytes) before
      → answer_with r none work message ≡ ended (buffers 0 0 k) (Outcome.refused (refusal 0 0 []) 0)
      → AnswersMerging s d t e m bytes (length before) k (answer_with r result [] message)
  unfolding AnswersMerging MergingMatches registry_tape
  written_answered before k p f z (Outcome.done defs c) h large short =
      let g = rw p at h in
      without_work_lem registry_tape (length before) k (Outcome.done defs c)
      (result_written registry_tape (length before) 0 k defs c (f ∙ finish_fits g.1 before g.2 large)
      (z ∙ ap (λ (n : ℕ). ended (buffers 0 0 k) (Outcome.refused (refusal 0 0 []) n)) g.0))
  written_answered before k p f z (Outcome.refused x c) h large short = absurd (rw p at h)

  module _ (n k : ℕ) {x : Refusing} {f : Refused} where
    pub first_answered : m ≡ Err x → x ≡ First f → AnswersRefusal s d s d f 0 (buffers n 0 k) (answer_with r result work message)
        → AnswersMerging s d t e m bytes n k (answer_with r result [] message)
    unfolding AnswersMerging MergingMatches ended answer
    first_answered p q z (Outcome.done defs c) h large short = absurd (rw (p, q) at h)
    first_answered p q z (Outcome.refused r c) h large short =
        let g = rw (p, q) at h in
        without_work_lem registry_tape n k (Outcome.refused r c) (z r g.1 short ∙ ap (λ (j : ℕ). ended (buffers n 0 k) (Outcome.refused r j)) g.0)

    pub second_answered : m ≡ Err x → x ≡ Second f → AnswersRefusal t e t e f 0 (buffers n 0 k) (answer_with r result work message)
        → AnswersMerging s d t e m bytes n k (answer_with r result [] message)
    unfolding AnswersMerging MergingMatches ended answer
    second_answered p q z (Outcome.done defs c) h large short = absurd (rw (p, q) at h)
    second_answered p q z (Outcome.refused r c) h large short =
        let g = rw (p, q) at h in
        without_work_lem registry_tape n k (Outcome.refused r c) (z r g.1 short ∙ ap (λ (j : ℕ). ended (buffers n 0 k) (Outcome.refused r j)) g.0)

-- the area is the one that was merged into
pub ends_merge : (s : List ℕ) (d : Layout) (t : List ℕ) (e : Layout) (n k : ℕ) {m : Result Writer Refusing} {bytes : List ℕ} (a : Answer)
    → merging m bytes ≡ merge_in s d t e 255 (replicate 12288 0) → AnswersMerging s d t e m bytes n k a → EndsMerge s d t e n k a
unfolding EndsMerge
ends_merge s d t e n k a h z = rw (← h) z

-- the tapes are the rewritten ones
pub ends_rewritten : (first second zeros : List ℕ) (d e : Layout) (n k : ℕ) {f g : Layout} {one other : List ℕ} (a : Answer)
    → (f ≡ rewritten_layout first d) × (one ≡ rewritten_in first d zeros) → (g ≡ rewritten_layout second e) × (other ≡ rewritten_in second e zeros)
    → EndsMerge one f other g n k a
    → EndsMerge (rewritten_in first d zeros) (rewritten_layout first d) (rewritten_in second e zeros) (rewritten_layout second e) n k a
ends_rewritten first second zeros d e n k a p q z = rw (← p.0, ← p.1, ← q.0, ← q.1) z
