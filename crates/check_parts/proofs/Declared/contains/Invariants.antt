-- The loop of `check_parts::Declared::contains`: what the names that are left contain is what all of them contain.
use mathlib.Core.Path.{◌≡◌}
use Prim.Native.Nat.{◌-◌}
use Rattle.definition.specs.Check.{contains}
use Rattle.nodes.specs.Node.{name_at}
use Rattle.message_parts.specs.Names.{names_at}
use Rattle.check_parts.specs.Names.{declaration, declared_in}
use Rattle.check_parts.proofs.Declared.contains.Given as goal

abbrev pub invariant-loop : goal.invariant-loop
invariant-loop l = contains (names_at l.self.tape.bytes.now l.self.tape.layout l.p (l.self.params.count - l.counter)) (name_at l.self.tape.bytes.now l.self.tape.layout l.fn.name) ≡ contains (declared_in l.self.tape.bytes.now (declaration l.self)) (name_at l.self.tape.bytes.now l.self.tape.layout l.fn.name)
