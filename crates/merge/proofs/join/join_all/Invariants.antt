-- The loop of `merge::join::join_all`: what is left comes to what all comes to. Assumes nothing.
use mathlib.Core.Path.{◌≡◌}
use lib.ListN.{length}
use Prim.Native.Nat.{◌-◌}
use Rattle.walk_state.specs.Writing.{going_at}
use Rattle.merge.specs.Join.{join_in}
use Rattle.merge.proofs.join.join_all.Given as goal

abbrev pub invariant-loop : goal.invariant-loop
invariant-loop l =
    (join_in l.first.tape.bytes.now l.first.tape.layout l.first.rows.now l.t.bytes.now l.t.layout (l.n - l.counter) (going_at l.c)
    ≡ join_in l.first.tape.bytes.now l.first.tape.layout l.first.rows.now l.t.bytes.now l.t.layout l.n (going_at l.fn.c))
    × (l.c.bytes.ghost_name ≡ l.fn.c.bytes.ghost_name) × (length l.c.bytes.now ≡ length l.fn.c.bytes.now)
