-- The joined registry in a work area: what each definition of the second tape makes of it, and what a merge comes to.
-- Assumes nothing.
use Rattle.messages.specs.declared.Refused.{Refused}
use Rattle.std.specs.Prelude.{ℕ, zero, suc, List, Result, Ok, Err}
use Rattle.grammar.specs.Grammar as grammar
use Rattle.tape.specs.Pick.{pick}
use Rattle.tape.specs.Scan.{skip_at}
use Rattle.nodes.specs.Node.{on_place, on_value, expect_at}
use Rattle.tape.specs.declared.layout.Layout.{Layout}
use Rattle.tape.specs.declared.layout.Place.{Place}
use Rattle.area.specs.Area.{Area, area_in, empty_at, patch_in}
use Rattle.area.specs.declared.Writer.{Writer}
use Rattle.messages.specs.Reason.{refused_at}
use Rattle.messages.specs.declared.Reason.TheVariants.{WithoutMessage}
use Rattle.walk_state.specs.Writing.{Progress, progress, state, going, after, without_message_at}
use Rattle.walk_state.specs.Walk.{State}
use Rattle.walk_state.specs.Walk.{Walk}
use Rattle.walk_state.specs.Walk as walk
use Rattle.subst_state.specs.Output.{copy_in}
use Rattle.registry.specs.Places.{origin, index_at, build_at}
use Rattle.registry.specs.declared.rows.Row.{Row}
use Rattle.merge.specs.Agree.{compare_at}
use Rattle.merge.specs.declared.agree.Compared.{Compared}
use Rattle.merge.specs.declared.agree.Compared.TheVariants.{New, Known, Differs}
use Rattle.merge.specs.declared.join.Refusing.{Refusing}
use Rattle.merge.specs.declared.join.Refusing.TheVariants as merge

-- ------------------------------------------------------------------ the area

-- a definition more, which the list's first entry counts
unfoldable pub add_in : List ℕ → Layout → Place → Place → Area → Area
add_in s l from to P = patch_in 0 1 (copy_in s l from to P)

-- all that stands on a tape
unfoldable pub first_in : List ℕ → Layout → List ℕ → Area
first_in s l bytes =
    on_place (area_in (empty_at 0) bytes) (λ end. copy_in s l origin end (area_in (empty_at 0) bytes)) (skip_at s l origin grammar.definitions)

-- ------------------------------------------------------------------ the second's definitions

-- a new one is added, one that differs is 51 with its span
abbrev pub after_compared : List ℕ → Layout → State → List ℕ → Compared → Progress
after_compared t e st bytes (New next) = going next st.charged (add_in t e st.place next (area_in st.out bytes))
after_compared t e st bytes (Known next) = progress (walk.Going (state next st.out st.charged)) bytes
after_compared t e st bytes (Differs span) = progress (without_message_at 51 span st.charged) bytes

unfoldable pub join_one_in : List ℕ → Layout → List Row → List ℕ → Layout → State → List ℕ → Progress
join_one_in s d rows t e st bytes = after_compared t e st bytes (compare_at s d rows t e st.place)

-- the next n of them
unfoldable pub join_in : List ℕ → Layout → List Row → List ℕ → Layout → ℕ → Progress → Progress
join_in s d rows t e zero X = X
join_in s d rows t e (suc n) X = join_in s d rows t e n (after (join_one_in s d rows t e) X)

-- the first registry, and then the second
unfoldable pub joined_in : List ℕ → Layout → List Row → List ℕ → Layout → List ℕ → Progress
joined_in s d rows t e bytes =
    let P : Area = first_in s d bytes in
    on_value (progress (without_message_at 2 0 0) P.bytes) (λ n place. join_in s d rows t e n (going place 0 P)) (expect_at t e origin 41)

-- ------------------------------------------------------------------ the merge

-- 3 with 0..0 if the entries or the text were too many
abbrev pub written_of : Writer → Result Writer Refusing
written_of out = pick out.overflowed (Err (merge.First (refused_at 0 (WithoutMessage 3)))) (Ok out)

unfoldable pub merged_of : Walk → Result Writer Refusing
merged_of (walk.Going st) = written_of st.out
merged_of (walk.Refused f charged) = Err (merge.First f)

-- what a merge came to, with the slice that its area is in
pub record MergingIn : Type 0 where
  pub outcome : Result Writer Refusing
  pub bytes : List ℕ

abbrev pub merging : Result Writer Refusing → List ℕ → MergingIn
merging m bytes = record { outcome = m; bytes = bytes }

-- the first's names, then the second's, and then what is joined
abbrev pub after_names : Result Unit Refused → Result Unit Refused → List ℕ → MergingIn → MergingIn
after_names (Err f) second bytes X = merging (Err (merge.First f)) bytes
after_names (Ok u) (Err f) bytes X = merging (Err (merge.Second f)) bytes
after_names (Ok u) (Ok v) bytes X = X

abbrev pub merged_in : Progress → MergingIn
merged_in X = merging (merged_of X.walk) X.bytes

unfoldable pub merge_in : List ℕ → Layout → List ℕ → Layout → (room : ℕ) → List ℕ → MergingIn
merge_in s d t e room bytes =
    after_names (build_at s d (index_at s d room)) (build_at t e (index_at t e room)) bytes (merged_in (joined_in s d (index_at s d room) t e bytes))
