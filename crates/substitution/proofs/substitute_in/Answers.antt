-- `substitution::substitute_in` meets its contract: the three buffers that the answer is written to are as long as those that were
-- lent, which `search` finds for each by itself but not for the law that wants all of it.
use Rattle.std.proofs.Common.{rules}
use Rattle.substitution.proofs.Steps.{ends}
use Rattle.substitution.proofs.substitute_in.Goals as goal

pub returns : goal.returns
returns c =
    ends _ _ _ _ _ _ c.new-c.ensures.unchanged (search rules) (search rules) c.substitute_tapes-walked.ensures c.answer_walk.ensures.answers
