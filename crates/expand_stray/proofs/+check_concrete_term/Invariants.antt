-- The nesting falls; and in the loop over the items of an array, what is left answers what all answers. Assumes nothing.
use mathlib.Core.Path.{◌≡◌}
use Prim.Native.Nat.{◌-◌}
use Rattle.std.proofs.Common.{Ok}
use Rattle.walk_state.specs.Reading.{items_in}
use Rattle.expand_stray.specs.Concrete.{concrete_term_in}
use Rattle.expand_stray.proofs.+check_concrete_term.Given as goal

abbrev pub decreases-check_concrete_term : goal.decreases-check_concrete_term
decreases-check_concrete_term l = l.nesting

abbrev pub invariant-loop : goal.invariant-loop
invariant-loop l = items_in (concrete_term_in l.tape.bytes.now l.tape.layout l.n l.span) (l.count - l.counter) (Ok l.q) ≡ items_in (concrete_term_in l.tape.bytes.now l.tape.layout l.n l.span) l.count (Ok l.initial.q)
