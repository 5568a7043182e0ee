-- The loop of `walk_state::reading::along`: what is left answers what all answers.
use mathlib.Core.Path.{◌≡◌}
use Prim.Native.Nat.{◌-◌}
use Rattle.std.proofs.Common.{Result, Ok}
use Rattle.messages.specs.declared.Refused.{Refused}
use Rattle.tape.specs.declared.layout.Place.{Place}
use Rattle.walk_state.specs.Reading.{items_in}
use Rattle.walk_state.proofs.reading.along.Given as goal

abbrev pub invariant-loop : goal.invariant-loop
invariant-loop g l =
    (f : Result Place Refused → Result Place Refused) → ((q : Place) (x : Result Place Refused) → goal.F-post g l.item q x → x ≡ f (Ok q))
    → items_in f (l.count - l.counter) (Ok l.q) ≡ items_in f l.count (Ok l.initial.q)
