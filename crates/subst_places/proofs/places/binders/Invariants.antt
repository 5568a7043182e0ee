-- The loop of `subst_places::places::binders`: the items that are left give what all of them give. Assumes nothing.
use mathlib.Core.Path.{◌≡◌}
use lib.ListN.{length}
use Prim.Native.Nat.{◌-◌}
use Rattle.walk_state.specs.Writing.{going_at}
use Rattle.subst_places.specs.Parameters.{tapes_of, items_in, binder_in}
use Rattle.subst_places.proofs.places.binders.Given as goal

abbrev pub invariant-loop : goal.invariant-loop
invariant-loop l =
    (items_in (binder_in (tapes_of l.s) l.span) (l.count - l.counter) (going_at l.c)
    ≡ items_in (binder_in (tapes_of l.s) l.span) l.count (going_at l.fn.c))
    × (l.c.bytes.ghost_name ≡ l.fn.c.bytes.ghost_name) × (length l.c.bytes.now ≡ length l.fn.c.bytes.now)
