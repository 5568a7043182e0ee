-- The state of a walk with the slice that its output is in: how it goes on, and what stops it.
-- Assumes nothing.
use Rattle.std.specs.Prelude.{◌≡◌, ℕ, List, length, Result, Ok, Err}
use Rattle.tape.specs.declared.layout.Place.{Place}
use Rattle.area.specs.Area.{Area, area_in}
use Rattle.area.specs.declared.Writer.{Writer}
use Rattle.messages.specs.Reason.{refused_at}
use Rattle.messages.specs.declared.Reason.TheVariants.{WithoutMessage}
use Rattle.messages.specs.declared.Refused.{Refused}
use Rattle.walk_state.specs.Walk.{State}
use Rattle.walk_state.specs.Walk.{Walk}
use Rattle.walk_state.specs.Walk as walk
use Rattle.walk_state.specs.declared.writing.Cursor.{Cursor}

pub record Progress : Type 0 where
  pub walk : Walk
  pub bytes : List ℕ

abbrev pub progress : Walk → List ℕ → Progress
progress w bytes = record { walk = w; bytes = bytes }

abbrev pub state : Place → Writer → ℕ → State
state place out charged = record { place = place; out = out; charged = charged }

-- the walk at a place, with so much charged, and what was written
abbrev pub going : Place → ℕ → Area → Progress
going place charged P = progress (walk.Going (state place P.out charged)) P.bytes

-- goes on from the state, unless the walk is refused
abbrev pub on_walk : (State → List ℕ → Progress) → List ℕ → Walk → Progress
on_walk f bytes (walk.Going st) = f st bytes
on_walk f bytes (walk.Refused r charged) = progress (walk.Refused r charged) bytes

abbrev pub after : (State → List ℕ → Progress) → Progress → Progress
after f X = on_walk f X.bytes X.walk

-- where the walk came, or its refusal, as a walk that only reads answers it
abbrev pub place_of : Walk → Result Place Refused
place_of (walk.Going st) = Ok st.place
place_of (walk.Refused r charged) = Err r

-- a refusal at a state
abbrev pub stop : Refused → State → List ℕ → Progress
stop r st bytes = progress (walk.Refused r st.charged) bytes

-- a refusal without a message
abbrev pub without_message_at : ℕ → ℕ → ℕ → Walk
without_message_at number span charged = walk.Refused (refused_at span (WithoutMessage number)) charged

-- no node of the sort that was asked for, which no accepted tape shows
abbrev pub unread : State → List ℕ → Progress
unread st bytes = progress (without_message_at 2 0 st.charged) bytes

-- ------------------------------------------------------------------ a cursor

-- what a cursor knows, what its area holds, and the walk that is there
abbrev pub state_at : Cursor → State
state_at c = state c.place c.out c.charged

abbrev pub area_at : Cursor → Area
area_at c = area_in c.out c.bytes.now

abbrev pub going_at : Cursor → Progress
going_at c = progress (walk.Going (state_at c)) c.bytes.now

-- what a walk came to that answers so
abbrev pub came_to : {A : Type 0} → Result A Refused → Cursor → Progress
came_to (Ok a) c = going_at c
came_to (Err r) c = progress (walk.Refused r c.charged) c.bytes.now

-- the slice is the one that was lent, and the walk came to X
pub record Walks (c c' : Cursor) (r : Result Unit Refused) (X : Progress) : Type 0 where
  pub same_slice : c'.bytes.ghost_name ≡ c.bytes.ghost_name
  pub same_length : length c'.bytes.now ≡ length c.bytes.now
  pub walked : came_to r c' ≡ X

-- the same of a step that is not refused
pub record Moves (c c' : Cursor) (X : Progress) : Type 0 where
  pub same_slice : c'.bytes.ghost_name ≡ c.bytes.ghost_name
  pub same_length : length c'.bytes.now ≡ length c.bytes.now
  pub moved : going_at c' ≡ X

-- what is written to the area, and nothing else changes
pub record Makes (c c' : Cursor) (P : Area) : Type 0 where
  pub same_slice : c'.bytes.ghost_name ≡ c.bytes.ghost_name
  pub same_length : length c'.bytes.now ≡ length c.bytes.now
  pub same_place : c'.place ≡ c.place
  pub same_charge : c'.charged ≡ c.charged
  pub made : area_at c' ≡ P
