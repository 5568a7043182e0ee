-- The vector of right sides that are still to come, in which the nearest is the last, and as it is meant.
-- Assumes nothing.
use Rattle.std.proofs.Common.{Option, Some, None}
use Prim.Native.Nat.{ℕ, ◌+◌, ◌-◌}
use mathlib.Core.Path.{◌≡◌, refl, ap, ◌∙◌}
use mathlib.Core.Bool.{true, false}
use mathlib.Core.List.{List, [], ◌∷◌, ◌++◌, reverse}
use native.Mathlib.Omega.{arith}
use borrow.Author.Tests.{eq-eqb, ne_eqb}
use lib.Dec.{eqb}
use lib.ListN.{length, take, length-append}
use Rattle.std.specs.List.{slice_get}
use Rattle.std.specs.Option.{option_to_list}
use Rattle.format.specs.Entry.{entry}
use Rattle.format.specs.Limits.{weigh}
use Rattle.tape.specs.Scan.{skip_at}
use Rattle.tape.specs.declared.layout.Layout.{Layout}
use Rattle.tape.specs.declared.layout.Place.{Place}
use Rattle.de_morgan.specs.declared.rewriting.Side.{Side}
use Rattle.de_morgan.specs.declared.rewriting.Rewriting.{Rewriting}
use Rattle.de_morgan.proofs.Last.{on_top, last_none, last_some}
use Rattle.de_morgan.specs.Rewritten.{right_of, negation, sides_after, sides_with, EntriesPut, SideBegun, SideAdded}
use Rattle.de_morgan.proofs.Heads.{nothing_put}

module _ (at : ℕ) (sides : List Side) {h : Rewriting} where
  pub none_waits : slice_get sides (length sides - 1) ≡ None → SideBegun at sides sides h h
  unfolding negation sides_after
  none_waits e =
      let none = last_none sides e in
      record { sides_are = rw none refl; no_more = omega arith; put = rw none nothing_put }

  pub other_waits : {side : Side} → slice_get sides (length sides - 1) ≡ Some side → (side.at ≡ at → ⊥) → SideBegun at sides sides h h
  unfolding negation sides_after
  other_waits {side} e f =
      let rest = take (length sides - 1) sides in
      let waits : reverse sides ≡ side ∷ reverse rest = last_some sides side e in
      let b : eqb side.at at ≡ false = ne_eqb side.at at f in
      record { sides_are = rw (waits, b) refl; no_more = omega arith; put = rw (waits, b) nothing_put }

  pub side_begins : {side : Side} {after : List Side} {popped : Option Side} {h' : Rewriting} → slice_get sides (length sides - 1) ≡ Some side → side.at ≡ at
      → popped ≡ slice_get sides (length sides - 1) → sides ≡ after ++ option_to_list popped → EntriesPut (entry 3 side.span ∷ []) h h'
      → SideBegun at sides after h h'
  unfolding negation sides_after
  side_begins {side} {after} e f p is_popped w =
      let is : sides ≡ after ++ side ∷ [] = is_popped ∙ ap (λ (x : Option Side). after ++ option_to_list x) (p ∙ e) in
      let waits : reverse sides ≡ side ∷ reverse after = ap reverse is ∙ on_top after side in
      let b : eqb side.at at ≡ true = eq-eqb side.at at f in
      let long : length sides ≡ length after + 1 = ap length is ∙ length-append after (side ∷ []) in
      record { sides_are = rw (waits, b) refl; no_more = omega (arith, long); put = rw (waits, b) w }

-- the right side that an Or brings, or none
module _ (s : List ℕ) (l : Layout) (code value : ℕ) (next : Place) (sides : List Side) where
  pub side_added : {right : ℕ} {after : List Side} → right ≡ right_of (skip_at s l next 1) → code ≡ 2 → after ≡ sides ++ record { at = right; span = value } ∷ []
      → SideAdded s l code value next sides after
  unfolding sides_with weigh
  side_added {right} {after} r c h =
      let b : eqb code 2 ≡ true = eq-eqb code 2 c in
      record {
        sides_are = rw (b, h, r) (on_top sides (record { at = right_of (skip_at s l next 1); span = value }));
        one_more = rw b (ap length h ∙ length-append sides (record { at = right; span = value } ∷ []));
      }

  pub none_added : (code ≡ 2 → ⊥) → SideAdded s l code value next sides sides
  unfolding sides_with weigh
  none_added f =
      let b : eqb code 2 ≡ false = ne_eqb code 2 f in
      record { sides_are = rw b refl; one_more = rw b (omega arith) }
