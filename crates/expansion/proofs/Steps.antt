-- A refusal is handed on past the largest figures; and the answer of a walk is that of what it came to.
-- Assumes nothing.
use Rattle.std.proofs.Common.{Result, Ok, Err}
use Prim.Native.Nat.{ℕ}
use mathlib.Core.Path.{◌≡◌, refl, ap, ◌∙◌, subst}
use mathlib.Core.List.{List}
use Rattle.messages.specs.declared.Refused.{Refused}
use Rattle.tape.specs.declared.layout.Layout.{Layout}
use Rattle.definition.specs.Answers.{Answer, Buffers}
use Rattle.answer.specs.Matches.{AnswersOutcome}
use Rattle.walk_state.specs.Writing as one
use Rattle.walk_state.specs.declared.writing.Cursor.{Cursor}
use Rattle.walk_state.specs.Walk.{Walk}
use Rattle.walk_state.specs.Walk as walk
use Rattle.registry.specs.Places.{index_at}
use Rattle.expand_counts.specs.Counting.{counted_in}
use Rattle.subst_call.specs.Front.{refuse_too_large_in}
use Rattle.expand_calls.specs.Output.{Progress, progress, on_work, came_to, Expands}
use Rattle.expansion.specs.Expansion.{named_in, after_walk, EndsExpansion}

pub large_hands_on : (span sort : ℕ) (r : Refused) (k : ℕ) (work result : List ℕ)
    → on_work (refuse_too_large_in span sort) (progress (walk.Refused r k) work result) ≡ progress (walk.Refused r k) work result
unfolding refuse_too_large_in
large_hands_on span sort r k work result = refl

-- what a walk came to is the same, with and without the result buffer
same_walk : (r : Result Unit Refused) (c : Cursor) (result : List ℕ) → (one.came_to r c).walk ≡ (came_to r c result).walk
same_walk (Ok a) c result = refl
same_walk (Err r) c result = refl

same_work : (r : Result Unit Refused) (c : Cursor) (result : List ℕ) → c.bytes.now ≡ (came_to r c result).work
same_work (Ok a) c result = refl
same_work (Err r) c result = refl

pub ends : {reg : List ℕ} {d : Layout} {cond : List ℕ} {l : Layout} {limit file : ℕ} {work result result' given counts : List ℕ} {b b' : Buffers} {a a' : Answer}
    {r : Result Unit Refused} {c c' : Cursor}
    → c.bytes.now ≡ work → b' ≡ b → a' ≡ a
    → Expands c c' r result' (named_in reg d 255 cond l limit file c.bytes.now result)
    → counts ≡ after_walk (came_to r c' result').walk (counted_in reg d (index_at reg d 255) cond l given) given
    → AnswersOutcome reg d cond l (one.came_to r c').walk c'.bytes.now b' a'
    → EndsExpansion reg d cond l limit file work result b given a counts
ends {reg} {d} {cond} {l} {limit} {file} {result = result} {result' = result'} {given = given} {b = b} {b'} {a = a} {r = r} {c = c} {c' = c'} same lent held e k h =
    rw (← same)
    (record {
      answers =
          subst (λ (X : Progress). AnswersOutcome reg d cond l X.walk X.work b a) e.expanded
          (subst (λ (w : Walk). AnswersOutcome reg d cond l w (came_to r c' result').work b a) (same_walk r c' result')
          (subst (λ (s : List ℕ). AnswersOutcome reg d cond l (one.came_to r c').walk s b a) (same_work r c' result')
          (subst (λ (z : Buffers). AnswersOutcome reg d cond l (one.came_to r c').walk c'.bytes.now z a) lent
          (subst (λ (z : Answer). AnswersOutcome reg d cond l (one.came_to r c').walk c'.bytes.now b' z) held h))));
      counted = k ∙ ap (λ (X : Progress). after_walk X.walk (counted_in reg d (index_at reg d 255) cond l given) given) e.expanded;
    })
