-- `expansion::expand_in` meets its contract: the three buffers that the answer is written to are as long as those that were lent, which
-- `search` finds of each by itself, but not for the law that wants it of all.
use Rattle.std.proofs.Common.{rules}
use Rattle.expansion.proofs.Steps.{ends}
use Rattle.expansion.proofs.expand_in.Goals as goal

pub returns : goal.returns
returns c =
    ends c.new-c.ensures.unchanged (search rules) (search rules) c.expand_tapes-walked.ensures.walked c.expand_tapes-walked.ensures.counted
    c.answer_walk.ensures.answers
