-- The loop of `sheet::filled_by`: what is left is filled by as many as are left.
use mathlib.Core.Path.{◌≡◌}
use Prim.Native.Nat.{◌-◌}
use Rattle.sheet.specs.Sheet.{filled_by}
use Rattle.sheet.proofs.filled_by.Given as goal

abbrev pub invariant-loop : goal.invariant-loop
invariant-loop l = filled_by (l.count - l.counter) l.rest ≡ filled_by l.count l.s
