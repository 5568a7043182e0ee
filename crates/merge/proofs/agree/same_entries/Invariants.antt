-- `merge::agree::same_entries` meets its contract. The invariant: what is left agrees if all does.
use Rattle.merge.specs.Agree.{same_from}
use Prim.Native.Nat.{◌-◌}
use mathlib.Core.Path.{◌≡◌}
use Rattle.merge.proofs.agree.same_entries.Given as goal

abbrev pub invariant-loop : goal.invariant-loop
invariant-loop l = same_from l.s.bytes.now l.s.layout l.t.bytes.now l.t.layout (l.n - l.counter) l.p l.q ≡ same_from l.s.bytes.now l.s.layout l.t.bytes.now l.t.layout l.n l.fn.from l.fn.other
