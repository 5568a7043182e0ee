-- The whole of an expansion: the names of the registry, the walk, and the largest figures.
-- Assumes nothing.
use Rattle.messages.specs.declared.Refused.{Refused}
use Rattle.std.specs.Prelude.{ℕ, ◌≡◌, Bool, true, false, List, Result, Ok, Err}
use Rattle.grammar.specs.Grammar as grammar
use Rattle.definition.specs.Answers.{Answer, Buffers}
use Rattle.tape.specs.Pick.{pick}
use Rattle.tape.specs.declared.layout.Layout.{Layout}
use Rattle.answer.specs.Matches.{AnswersOutcome}
use Rattle.registry.specs.declared.rows.Row.{Row}
use Rattle.registry.specs.Places.{index_at, build_at}
use Rattle.walk_state.specs.Writing.{state}
use Rattle.area.specs.Area.{empty_at}
use Rattle.subst_call.specs.Front.{origin, refuse_too_large_in}
use Rattle.walk_state.specs.Walk.{Walk}
use Rattle.walk_state.specs.Walk as walk
use Rattle.expand_counts.specs.Counting.{counted_in}
use Rattle.expand_calls.specs.Output.{Reads, Progress, progress, on_work}
use Rattle.expand_walk.specs.Walkers.{walkers}

-- "Last, 3 with 0..0 for the whole result."
unfoldable pub whole_in : Reads → List ℕ → List ℕ → Progress
whole_in R work result =
    on_work (refuse_too_large_in 0 grammar.condition) ((walkers R 64).condition (progress (walk.Going (state origin (empty_at 0) 0)) work result))

abbrev pub on_verdict : Progress → List ℕ → List ℕ → Result Unit Refused → Progress
on_verdict X work result (Ok tt) = X
on_verdict X work result (Err f) = progress (walk.Refused f 0) work result

abbrev pub reads_of : List ℕ → Layout → List Row → List ℕ → Layout → (limit file : ℕ) → Reads
reads_of reg d rs cond c limit file =
    record { registry = reg; places = rs; condition = cond; definitions = d; layout = c; limit = limit; file = file }

-- 10 and 11, in a table that has room for so many definitions; then the walk
unfoldable pub named_in : List ℕ → Layout → (room : ℕ) → List ℕ → Layout → (limit file : ℕ) → List ℕ → List ℕ → Progress
named_in reg d room cond c limit file work result =
    let rs : List Row = index_at reg d room in
    on_verdict (whole_in (reads_of reg d rs cond c limit file) work result) work result (build_at reg d rs)

-- ------------------------------------------------------------------ the counts

abbrev pub went_through : Walk → Bool
went_through (walk.Going st) = true
went_through (walk.Refused f charged) = false

-- the counts that are handed back: a refused expansion gives back those it was given
unfoldable pub after_walk : Walk → (counted given : List ℕ) → List ℕ
after_walk w counted given = pick (went_through w) counted given

-- ------------------------------------------------------------------ how it ends

-- A walk over the two tapes, which were given, or rewritten: a is the answer of every outcome that matches it, and its calls are counted.
pub record EndsExpansion (reg : List ℕ) (d : Layout) (cond : List ℕ) (c : Layout) (limit file : ℕ) (work result : List ℕ) (b : Buffers)
    (given : List ℕ) (a : Answer) (counts : List ℕ) : Type 0 where
  pub answers :
      let X : Progress = named_in reg d 255 cond c limit file work result in AnswersOutcome reg d cond c X.walk X.work b a
  pub counted :
      counts ≡ after_walk (named_in reg d 255 cond c limit file work result).walk (counted_in reg d (index_at reg d 255) cond c given) given
