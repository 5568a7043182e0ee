-- The state of an expansion with the two slices that it writes to, and the condition's own entries in its output.
-- Assumes nothing.
use Rattle.std.specs.Prelude.{◌≡◌, ℕ, List, [], ◌∷◌, get_or, length, Result, Ok, Err}
use Rattle.grammar.specs.Grammar as grammar
use Rattle.nodes.specs.Node.{by_code, on_entry, on_value, entry_at, expect_at}
use Rattle.tape.specs.Scan.{skip_at}
use Rattle.tape.specs.declared.layout.Layout.{Layout}
use Rattle.tape.specs.declared.layout.Place.{Place}
use Rattle.area.specs.Area.{area_in}
use Rattle.messages.specs.declared.Refused.{Refused}
use Rattle.registry.specs.declared.rows.Row.{Row}
use Rattle.walk_state.specs.Writing as one
use Rattle.walk_state.specs.Writing.{state, going, without_message_at}
use Rattle.subst_state.specs.Output.{copy_in}
use Rattle.subst_places.specs.Refines.{fold_in}
use Rattle.walk_state.specs.Walk.{State}
use Rattle.walk_state.specs.Walk.{Walk}
use Rattle.walk_state.specs.Walk as walk
use Rattle.walk_state.specs.Reading.{passed_in}
use Rattle.walk_state.specs.declared.writing.Cursor.{Cursor}
use Rattle.expand_calls.specs.declared.output.Expansion.{Expansion}

-- what an expansion reads: the registry's tape, where its definitions stand, the condition's tape, how the two are laid out, the
-- budget's limit, and the file number
pub record Reads : Type 0 where
  pub registry : List ℕ
  pub places : List Row
  pub condition : List ℕ
  pub definitions : Layout
  pub layout : Layout
  pub limit : ℕ
  pub file : ℕ

abbrev pub reads_of : Expansion → Reads
reads_of x =
    record {
      registry = x.registry.tape.bytes.now;
      places = x.registry.rows.now;
      condition = x.condition.bytes.now;
      definitions = x.registry.tape.layout;
      layout = x.condition.layout;
      limit = x.limit;
      file = x.file;
    }

-- ------------------------------------------------------------------ a walk and its output

-- the output is in the work buffer; what the last call became stands in the result buffer
pub record Progress : Type 0 where
  pub walk : Walk
  pub work : List ℕ
  pub result : List ℕ

abbrev pub progress : Walk → List ℕ → List ℕ → Progress
progress w work result = record { walk = w; work = work; result = result }

-- the walk that is at a cursor, and what one came to that answers so
abbrev pub going_at : Cursor → List ℕ → Progress
going_at c result = progress (walk.Going (one.state_at c)) c.bytes.now result

abbrev pub came_to : {A : Type 0} → Result A Refused → Cursor → List ℕ → Progress
came_to (Ok a) c result = going_at c result
came_to (Err r) c result = progress (walk.Refused r c.charged) c.bytes.now result

-- the work buffer is the one that was lent, and the walk came to X
pub record Expands (c c' : Cursor) (r : Result Unit Refused) (result : List ℕ) (X : Progress) : Type 0 where
  pub same_slice : c'.bytes.ghost_name ≡ c.bytes.ghost_name
  pub same_length : length c'.bytes.now ≡ length c.bytes.now
  pub expanded : came_to r c' result ≡ X

-- goes on from the state, unless the walk is refused
abbrev pub on_walk : (State → List ℕ → List ℕ → Progress) → List ℕ → List ℕ → Walk → Progress
on_walk f work result (walk.Going st) = f st work result
on_walk f work result (walk.Refused r charged) = progress (walk.Refused r charged) work result

abbrev pub after : (State → List ℕ → List ℕ → Progress) → Progress → Progress
after f X = on_walk f X.work X.result X.walk

-- a refusal at a state
abbrev pub stop : Refused → State → List ℕ → List ℕ → Progress
stop r st work result = progress (walk.Refused r st.charged) work result

-- no node of the sort that was asked for, which no accepted tape shows
abbrev pub unread : State → List ℕ → List ℕ → Progress
unread st work result = progress (without_message_at 2 0 st.charged) work result

-- what is written to the work buffer alone
abbrev pub with : List ℕ → one.Progress → Progress
with result Y = progress Y.walk Y.bytes result

abbrev pub on_work : (one.Progress → one.Progress) → Progress → Progress
on_work f X = with X.result (f (one.progress X.walk X.work))

-- ------------------------------------------------------------------ the condition's own entries

module _ (cond : List ℕ) (l : Layout) where
  -- up to the place where a check came, or its refusal
  unfoldable pub copy_own_in : State → Result Place Refused → List ℕ → one.Progress
  copy_own_in st (Ok next) work =
      going next st.charged (copy_in cond l st.place next (area_in st.out work))
  copy_own_in st (Err f) work = one.stop f st work

  -- the same behind a walk; a refusal of the check comes before one of the walk, with what was charged before it
  unfoldable pub copy_own_after_in : Result Place Refused → ℕ → one.Progress → one.Progress
  copy_own_after_in (Ok next) charged X = one.after (λ st work. copy_own_in st (Ok next) work) X
  copy_own_after_in (Err f) charged X = one.progress (walk.Refused f charged) X.bytes

  -- ------------------------------------------------------------------ refinements

  -- the code of the condition that the one at a place came out as: a call's outcome stands in the result buffer, and a refinement
  -- that is not refused is a predicate
  unfoldable pub shape_in : List ℕ → Place → ℕ
  shape_in result p =
      on_entry 0 (λ code value next. by_code ((11, get_or result 0 0) ∷ (13, 7) ∷ []) code code) (entry_at cond l p)

  -- the fields behind a base that was written at entry `base` and stands at `p` in the condition, and their fold
  unfoldable pub refold_in : List ℕ → ℕ → ℕ → Place → one.Progress → one.Progress
  refold_in result own base p =
      one.after λ st work.
      on_value (one.unread st work)
      (λ count first.
      fold_in base count own (shape_in result p)
      (copy_own_in (state first st.out st.charged) (passed_in (skip_at cond l st.place grammar.fields)) work))
      (expect_at cond l st.place 41)
