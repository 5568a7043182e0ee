-- The cycle of the walkers: where no condition or term is read, which the check does not join by itself.
use Rattle.std.proofs.Common.{rules, arith}
use Rattle.subst_places.specs.Parameters.{tapes_of}
use Rattle.subst_walk.proofs.Walking.{unread_condition, unread_term}
use Rattle.subst_walk.proofs.+walk.Goals as goal

pub subst_temporal_condition-returns-in_err-node : goal.subst_temporal_condition-returns-in_err-node
subst_temporal_condition-returns-in_err-node t c =
    let left = rw c.in_ok-n.ensures.ok_part at c.checked_sub.ensures in
    unread_condition (tapes_of c.args.s.now) c.args.nesting (λ z. omega (arith, z, left.0)) c.in_err-node.ensures (search rules)

pub subst_temporal_term-returns-in_err-node : goal.subst_temporal_term-returns-in_err-node
subst_temporal_term-returns-in_err-node t c =
    let left = rw c.in_ok-n.ensures.ok_part at c.checked_sub.ensures in
    unread_term (tapes_of c.args.s.now) c.args.nesting (λ z. omega (arith, z, left.0)) c.args.span c.in_err-node.ensures (search rules)
