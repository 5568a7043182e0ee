-- The cycle of the walkers: where no condition or term is read, which the check does not join by itself.
use Rattle.std.proofs.Common.{rules, arith}
use Rattle.expand_calls.specs.Output.{reads_of}
use Rattle.expand_walk.proofs.Walking.{unread_condition, unread_operand}
use Rattle.expand_walk.proofs.+walk.Goals as goal

pub expand_condition-returns-in_err-node : goal.expand_condition-returns-in_err-node
expand_condition-returns-in_err-node t c =
    let left = rw c.in_ok-n.ensures.ok_part at c.checked_sub.ensures in
    unread_condition (reads_of c.args.x.now) c.args.nesting (λ z. omega (arith, z, left.0)) c.in_err-node.ensures (search rules)

pub expand_operand-returns-in_err-node : goal.expand_operand-returns-in_err-node
expand_operand-returns-in_err-node t c =
    let left = rw c.in_ok-n.ensures.ok_part at c.checked_sub.ensures in
    unread_operand (reads_of c.args.x.now) c.args.nesting (λ z. omega (arith, z, left.0)) c.in_err-node.ensures (search rules)
