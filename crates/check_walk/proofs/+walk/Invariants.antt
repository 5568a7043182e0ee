-- The cycle of the walkers. The measure is twice the nesting, and one more for a member that calls others at its own nesting.
use mathlib.Core.Path.{◌≡◌}
use Prim.Native.Nat.{◌+◌, ◌-◌, ◌*◌}
use Rattle.std.proofs.Common.{Ok}
use Rattle.walk_state.specs.Reading.{items_in}
use Rattle.check_parts.specs.Names.{declaration}
use Rattle.check_walk.specs.Walk.{field_in, walkers}
use Rattle.check_walk.proofs.+walk.Given as goal

abbrev pub decreases-check_temporal_agg_body : goal.decreases-check_temporal_agg_body
decreases-check_temporal_agg_body l = l.nesting * 2

abbrev pub decreases-check_temporal_condition_body : goal.decreases-check_temporal_condition_body
decreases-check_temporal_condition_body l = l.nesting * 2

abbrev pub decreases-check_temporal_term : goal.decreases-check_temporal_term
decreases-check_temporal_term l = l.nesting * 2

abbrev pub decreases-fields : goal.decreases-fields
decreases-fields l = l.nesting * 2 + 1

abbrev pub decreases-since : goal.decreases-since
decreases-since l = l.nesting * 2 + 1

-- the walk over the items that are left is that over all
abbrev pub invariant-fields-loop : goal.invariant-fields-loop
invariant-fields-loop l = items_in (field_in l.d.tape.bytes.now (declaration l.d) (walkers l.d.tape.bytes.now (declaration l.d) l.nesting) l.span) (l.count - l.counter) (Ok l.q) ≡ items_in (field_in l.d.tape.bytes.now (declaration l.d) (walkers l.d.tape.bytes.now (declaration l.d) l.nesting) l.span) l.count (Ok l.initial.q)

abbrev pub invariant-check_temporal_term-loop : goal.invariant-check_temporal_term-loop
invariant-check_temporal_term-loop l = items_in ((walkers l.d.tape.bytes.now (declaration l.d) l.n).term l.span) (l.count - l.counter) (Ok l.q) ≡ items_in ((walkers l.d.tape.bytes.now (declaration l.d) l.n).term l.span) l.count (Ok l.initial.q)
