-- The cycle of the walkers. The measure is eight times the nesting and a rank: a member's rank is above those of the members
-- that it calls at its own nesting, and below 8.
use Prim.Native.Nat.{◌+◌, ◌-◌, ◌*◌}
use mathlib.Core.Path.{◌≡◌}
use lib.ListN.{length}
use Rattle.expand_calls.specs.Output.{reads_of, going_at}
use Rattle.expand_walk.specs.Walkers.{items_in, arg_in, walkers}
use Rattle.expand_walk.proofs.+walk.Given as goal

abbrev pub decreases-arg : goal.decreases-arg
decreases-arg l = l.n * 8 + 3

abbrev pub decreases-value_arg : goal.decreases-value_arg
decreases-value_arg l = l.nesting * 8

abbrev pub decreases-both : goal.decreases-both
decreases-both l = l.n * 8 + 1

abbrev pub decreases-called : goal.decreases-called
decreases-called l = l.n * 8 + 5

abbrev pub decreases-cond_arg : goal.decreases-cond_arg
decreases-cond_arg l = l.n * 8 + 2

abbrev pub decreases-condition : goal.decreases-condition
decreases-condition l = l.n * 8 + 7

abbrev pub decreases-expand_agg : goal.decreases-expand_agg
decreases-expand_agg l = l.nesting * 8

abbrev pub decreases-expand_call_args : goal.decreases-expand_call_args
decreases-expand_call_args l = l.n * 8 + 4

abbrev pub decreases-expand_call_to_condition : goal.decreases-expand_call_to_condition
decreases-expand_call_to_condition l = l.n * 8 + 6

abbrev pub decreases-expand_call_to_value : goal.decreases-expand_call_to_value
decreases-expand_call_to_value l = l.n * 8 + 6

abbrev pub decreases-expand_condition : goal.decreases-expand_condition
decreases-expand_condition l = l.nesting * 8

abbrev pub decreases-expand_operand : goal.decreases-expand_operand
decreases-expand_operand l = l.nesting * 8

abbrev pub decreases-inner : goal.decreases-inner
decreases-inner l = l.n * 8 + 1

abbrev pub decreases-operand : goal.decreases-operand
decreases-operand l = l.n * 8 + 7

abbrev pub decreases-refine : goal.decreases-refine
decreases-refine l = l.n * 8 + 1

abbrev pub decreases-sides : goal.decreases-sides
decreases-sides l = l.n * 8 + 1

abbrev pub decreases-since : goal.decreases-since
decreases-since l = l.n * 8 + 1

abbrev pub invariant-expand_call_args-loop : goal.invariant-expand_call_args-loop
invariant-expand_call_args-loop l =
    (items_in (arg_in (reads_of l.x) (walkers (reads_of l.x) l.n)) (l.count - l.counter) (going_at l.c l.res)
    ≡ items_in (arg_in (reads_of l.x) (walkers (reads_of l.x) l.n)) l.count (going_at l.initial.c l.initial.res))
    × (l.c.bytes.ghost_name ≡ l.initial.c.bytes.ghost_name) × (length l.c.bytes.now ≡ length l.initial.c.bytes.now)
