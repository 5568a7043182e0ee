-- The loop's invariant: the bytes up to the index lead nowhere.
use mathlib.Core.Path.{◌≡◌}
use lib.ListN.{drop}
use Rattle.format.specs.Utf8.{run}
use Rattle.tape.proofs.utf8.well_formed.Given as goal

abbrev pub invariant-loop-b : goal.invariant-loop-b
invariant-loop-b l = run 0 (drop l.b-index l.t) ≡ run 0 l.t
