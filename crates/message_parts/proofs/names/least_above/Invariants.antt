-- `message_parts::names::least_above` meets its contract.
use mathlib.Core.Path.{◌≡◌}
use mathlib.Core.Option.{none}
use Prim.Native.Nat.{◌-◌}
use Rattle.message_parts.specs.Names.{names_at, spelled, least_in}
use Rattle.message_parts.proofs.names.least_above.Given as goal

abbrev pub invariant-loop : goal.invariant-loop
invariant-loop l = least_in (spelled l.tape.bytes.now l.tape.layout l.floor) (spelled l.tape.bytes.now l.tape.layout l.best) (names_at l.tape.bytes.now l.tape.layout l.p (l.fn.params.count - l.counter)) ≡ least_in (spelled l.tape.bytes.now l.tape.layout l.floor) none (names_at l.tape.bytes.now l.tape.layout l.initial.p l.fn.params.count)
