-- The within of a Since, behind its left side: where that side has an end, and where it has none.
-- Assumes nothing.
use Rattle.std.proofs.Common.{Result, Ok, Err}
use Rattle.std.specs.Result.{result_and}
use Prim.Native.Nat.{ℕ}
use mathlib.Core.Path.{◌≡◌, refl, ap}
use mathlib.Core.List.{List}
use Rattle.tape.specs.declared.layout.Place.{Place}
use Rattle.messages.specs.declared.Refused.{Refused}
use Rattle.walk_state.specs.Reading.{behind_in}
use Rattle.walk_state.specs.Writing.{came_to, place_of}
use Rattle.walk_state.specs.declared.writing.Cursor.{Cursor}
use Rattle.subst_state.specs.Maps.{SubstMaps}
use Rattle.subst_state.specs.declared.maps.Argument.{Argument}
use Rattle.subst_places.specs.Parameters.{at_read, within_in, since_within_in}
use Rattle.subst_places.specs.declared.places.Interval.{Interval}

module _ (f : Place → Result Interval Refused) where
  pub read : (p : Place) → at_read f (Ok p) ≡ f p
  unfolding at_read
  read p = refl

  pub unread : (r : Refused) → at_read f (Err r) ≡ Err r
  unfolding at_read
  unread r = refl

-- where a walk came, as its cursor has it
came_place : (c : Cursor) (walked : Result Unit Refused) → place_of (came_to walked c).walk ≡ result_and walked (Ok c.place)
came_place c (Ok u) = refl
came_place c (Err r) = refl

pub since_as_read : (def : List ℕ) (table : List Argument) (m : SubstMaps) (span : ℕ) (left : Place) (c : Cursor) (walked : Result Unit Refused)
    → since_within_in def table m span left (came_to walked c).walk
    ≡ at_read (within_in def table m span) (behind_in def m.definition left (result_and walked (Ok c.place)))
unfolding since_within_in
since_as_read def table m span left c walked =
    ap (λ (x : Result Place Refused). at_read (within_in def table m span) (behind_in def m.definition left x)) (came_place c walked)
