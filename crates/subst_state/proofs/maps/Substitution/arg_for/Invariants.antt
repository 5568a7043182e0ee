-- The loop of `subst_state::maps::Substitution::arg_for`: what is left to be looked at finds what the whole search finds. Assumes nothing.
use mathlib.Core.Path.{◌≡◌}
use Prim.Native.Nat.{◌-◌}
use Rattle.std.proofs.Common.{None}
use Rattle.subst_state.specs.Arguments.{search_from}
use Rattle.subst_state.proofs.maps.Substitution.arg_for.Given as goal

abbrev pub invariant-loop-i : goal.invariant-loop-i
invariant-loop-i l = search_from l.self.definition.bytes.now l.self.definition.layout l.self.args.now l.name (l.self.params.count - l.i) l.p l.i l.found
    ≡ search_from l.self.definition.bytes.now l.self.definition.layout l.self.args.now l.name l.self.params.count l.self.params.place 0 None
