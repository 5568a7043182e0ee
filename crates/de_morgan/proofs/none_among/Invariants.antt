-- The loop of `de_morgan::none_among`: none was found, and none is among the codes that are left, exactly if there is none.
use mathlib.Core.Path.{◌≡◌}
use mathlib.Core.Bool.{not, ◌&&◌}
use lib.Dec.{eqb}
use lib.ListN.{drop}
use Rattle.format.specs.Macro.{tally}
use Rattle.tape.specs.Ors.{coded}
use Rattle.de_morgan.proofs.none_among.Given as goal

abbrev pub invariant-loop-code : goal.invariant-loop-code
invariant-loop-code l = (not l.found && eqb (tally 2 (coded (drop l.code-index l.codes))) 0) ≡ eqb (tally 2 (coded l.codes)) 0
