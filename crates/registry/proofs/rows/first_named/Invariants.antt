-- `registry::rows::first_named` meets its contract. The invariant: what the rows find from here on is what all of them find.
use mathlib.Core.Path.{◌≡◌}
use lib.ListN.{drop}
use Rattle.registry.specs.Places.{get_at}
use Rattle.registry.proofs.rows.first_named.Given as goal

abbrev pub invariant-loop-i : goal.invariant-loop-i
invariant-loop-i l = get_at l.tape.bytes.now l.tape.layout (drop l.i l.rows) l.name ≡ get_at l.tape.bytes.now l.tape.layout l.rows l.name
