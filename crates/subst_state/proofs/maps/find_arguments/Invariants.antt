-- The loop of `subst_state::maps::find_arguments`: what is left to be written makes the whole table of what stands there. Assumes nothing.
use Prim.Native.Nat.{◌-◌}
use mathlib.Core.Path.{◌≡◌}
use Rattle.subst_state.specs.Arguments.{table_from}
use Rattle.subst_state.proofs.maps.find_arguments.Given as goal

abbrev pub invariant-loop-k : goal.invariant-loop-k
invariant-loop-k l = table_from l.tape.bytes.now l.tape.layout (l.count - l.k) l.p l.k l.args ≡ table_from l.tape.bytes.now l.tape.layout l.count l.fn.first 0 l.fn.args
