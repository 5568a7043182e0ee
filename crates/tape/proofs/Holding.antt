-- The tests whether a slice holds a layout and a place is in it, and what they say.
-- Assumes nothing.
use Prim.Native.Nat.{ℕ, ◌+◌, ◌*◌}
use mathlib.Core.List.{List}
use mathlib.Core.Bool.{◌&&◌}
use lib.ListN.{length}
use lib.Dec.{T, leb, leb→le, le→leb, lt→ltb}
use Rattle.tape.specs.Layouts.{Held, holds}
use Rattle.tape.specs.Scan.{starts}
use Rattle.tape.specs.Turn.{Starts}
use Rattle.tape.specs.declared.layout.Place.{Place}
use Rattle.tape.specs.declared.layout.Layout.{Layout}
use Rattle.format.proofs.Tests.{and_left, and_right, and_both}

module _ (s : List ℕ) (l : Layout) where
  pub held : T (holds s l) → Held s l
  held t =
      let rest = and_right (leb l.entries 1024)
      (leb (l.codes + l.entries) (length s) && leb (l.values + 8 * l.entries) (length s)) t in
      record {
        entries_most = leb→le l.entries 1024 (and_left (leb l.entries 1024) _ t);
        codes_held = leb→le (l.codes + l.entries) (length s) (and_left (leb (l.codes + l.entries) (length s)) _ rest);
        values_held = leb→le (l.values + 8 * l.entries) (length s)
            (and_right (leb (l.codes + l.entries) (length s)) _ rest);
      }

  pub holding : Held s l → T (holds s l)
  holding h =
      and_both (leb l.entries 1024) _ (le→leb l.entries 1024 h.entries_most)
      (and_both (leb (l.codes + l.entries) (length s)) _ (le→leb _ _ h.codes_held) (le→leb _ _ h.values_held))

  -- a place in it, and a sort
  pub starting : (from : Place) (sort : ℕ) → Starts s l from sort → T (starts s l from sort)
  starting from sort h =
      and_both (holds s l) _ (holding h.held)
      (and_both (leb from.at l.entries) _ (le→leb _ _ h.at_most)
      (and_both (leb from.text l.size) _ (le→leb _ _ h.text_most) (lt→ltb sort 32 h.is_sort)))
