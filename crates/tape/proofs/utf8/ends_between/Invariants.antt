-- The loop's invariant: the bytes from the index on lead where all of them do.
use mathlib.Core.Path.{◌≡◌}
use lib.ListN.{drop}
use Rattle.format.specs.Utf8.{run}
use Rattle.tape.proofs.utf8.ends_between.Given as goal

abbrev pub invariant-loop-b : goal.invariant-loop-b
invariant-loop-b l = run l.state (drop l.b-index l.t) ≡ run 0 l.t
