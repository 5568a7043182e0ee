-- The cycle of the walkers. The measure is eight times the nesting and a rank: a member's rank is above those of the members
-- that it calls at its own nesting, and below 8.
use Prim.Native.Nat.{◌+◌, ◌*◌, ◌-◌}
use mathlib.Core.Path.{◌≡◌}
use lib.ListN.{length}
use Rattle.walk_state.specs.Writing.{going_at}
use Rattle.subst_places.specs.Parameters.{tapes_of, items_in}
use Rattle.subst_walk.specs.Walkers.{field_in, walkers}
use Rattle.subst_walk.proofs.+walk.Given as goal

abbrev pub decreases-agg : goal.decreases-agg
decreases-agg l = l.n * 8 + 1

abbrev pub decreases-both : goal.decreases-both
decreases-both l = l.n * 8 + 1

abbrev pub decreases-sides : goal.decreases-sides
decreases-sides l = l.n * 8 + 1

abbrev pub decreases-condition : goal.decreases-condition
decreases-condition l = l.n * 8 + 5

abbrev pub decreases-exists : goal.decreases-exists
decreases-exists l = l.n * 8 + 1

abbrev pub decreases-field : goal.decreases-field
decreases-field l = l.n * 8 + 1

abbrev pub decreases-fields : goal.decreases-fields
decreases-fields l = l.n * 8 + 2

abbrev pub decreases-inject : goal.decreases-inject
decreases-inject l = l.n * 8 + 3

abbrev pub decreases-inner : goal.decreases-inner
decreases-inner l = l.n * 8 + 1

abbrev pub decreases-predicate : goal.decreases-predicate
decreases-predicate l = l.n * 8 + 3

abbrev pub decreases-refine : goal.decreases-refine
decreases-refine l = l.n * 8 + 4

abbrev pub decreases-since : goal.decreases-since
decreases-since l = l.n * 8 + 1

abbrev pub decreases-subst_temporal_agg : goal.decreases-subst_temporal_agg
decreases-subst_temporal_agg l = l.nesting * 8

abbrev pub decreases-subst_temporal_condition : goal.decreases-subst_temporal_condition
decreases-subst_temporal_condition l = l.nesting * 8

abbrev pub decreases-subst_temporal_term : goal.decreases-subst_temporal_term
decreases-subst_temporal_term l = l.nesting * 8

abbrev pub decreases-term : goal.decreases-term
decreases-term l = l.n * 8 + 2

abbrev pub decreases-terms : goal.decreases-terms
decreases-terms l = l.n * 8 + 1

abbrev pub decreases-formerly : goal.decreases-formerly
decreases-formerly l = l.n * 8 + 1

abbrev pub invariant-fields-loop : goal.invariant-fields-loop
invariant-fields-loop l =
    (items_in (field_in (tapes_of l.s) (walkers (tapes_of l.s) l.n) l.span) (l.count - l.counter) (going_at l.c)
    ≡ items_in (field_in (tapes_of l.s) (walkers (tapes_of l.s) l.n) l.span) l.count (going_at l.initial.c))
    × (l.c.bytes.ghost_name ≡ l.initial.c.bytes.ghost_name) × (length l.c.bytes.now ≡ length l.initial.c.bytes.now)

abbrev pub invariant-terms-loop : goal.invariant-terms-loop
invariant-terms-loop l =
    (items_in ((walkers (tapes_of l.s) l.n).term l.span) (l.count - l.counter) (going_at l.c)
    ≡ items_in ((walkers (tapes_of l.s) l.n).term l.span) l.count (going_at l.initial.c))
    × (l.c.bytes.ghost_name ≡ l.initial.c.bytes.ghost_name) × (length l.c.bytes.now ≡ length l.initial.c.bytes.now)
