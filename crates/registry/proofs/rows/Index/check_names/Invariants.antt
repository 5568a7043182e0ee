-- `registry::rows::Index::check_names` meets its contract. The invariant: the names of the definitions that are left, after those before
-- them, are judged as all are.
use mathlib.Core.Path.{◌≡◌}
use lib.ListN.{take, drop}
use Rattle.registry.specs.Places.{build_from_at, build_at}
use Rattle.registry.proofs.rows.Index.check_names.Given as goal

abbrev pub invariant-loop-i : goal.invariant-loop-i
invariant-loop-i l = build_from_at l.self.tape.bytes.now l.self.tape.layout (take l.i l.row-items) (drop l.i l.row-items) ≡ build_at l.self.tape.bytes.now l.self.tape.layout l.row-items
