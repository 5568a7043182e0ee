-- The answer of a walk is that of what it came to.
-- Assumes nothing.
use Rattle.std.proofs.Common.{Result, Ok, Err}
use Prim.Native.Nat.{ℕ}
use mathlib.Core.Path.{◌≡◌, refl, subst}
use mathlib.Core.List.{List}
use Rattle.messages.specs.declared.Refused.{Refused}
use Rattle.tape.specs.declared.layout.Layout.{Layout}
use Rattle.definition.specs.Answers.{Answer, Buffers}
use Rattle.answer.specs.Matches.{AnswersOutcome}
use Rattle.walk_state.specs.Writing.{Progress, came_to, Walks}
use Rattle.walk_state.specs.declared.writing.Cursor.{Cursor}
use Rattle.subst_call.specs.Front.{tapes_in}
use Rattle.substitution.specs.Substituted.{AnswersSubstitution}

same_bytes : (r : Result Unit Refused) (c : Cursor) → c.bytes.now ≡ (came_to r c).bytes
same_bytes (Ok a) c = refl
same_bytes (Err r) c = refl

pub ends : (s : List ℕ) (d : Layout) (t : List ℕ) (l : Layout) (limit file : ℕ) {work : List ℕ} {b b' : Buffers} {a a' : Answer}
    {r : Result Unit Refused} {c c' : Cursor}
    → c.bytes.now ≡ work → b' ≡ b → a' ≡ a
    → Walks c c' r (tapes_in s d t l limit file c.bytes.now)
    → AnswersOutcome s d t l (came_to r c').walk c'.bytes.now b' a'
    → AnswersSubstitution s d t l limit file work b a
unfolding AnswersSubstitution
ends s d t l limit file {b = b} {b'} {a = a} {r = r} {c' = c'} same lent held e h =
    rw (← same)
    (subst (λ (X : Progress). AnswersOutcome s d t l X.walk X.bytes b a) e.walked
    (subst (λ (u : List ℕ). AnswersOutcome s d t l (came_to r c').walk u b a) (same_bytes r c')
    (subst (λ (z : Buffers). AnswersOutcome s d t l (came_to r c').walk c'.bytes.now z a) lent
    (subst (λ (z : Answer). AnswersOutcome s d t l (came_to r c').walk c'.bytes.now b' z) held h))))
