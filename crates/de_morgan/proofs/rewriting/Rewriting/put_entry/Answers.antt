-- `de_morgan::Rewriting::put_entry` meets its contract: what stands for an Or in front of its left side is put by three
-- calls, which `search` does not join.
use Rattle.de_morgan.specs.Rewritten.{heads_of}
use Rattle.de_morgan.proofs.Heads.{three_put}
use Rattle.de_morgan.proofs.rewriting.Rewriting.put_entry.Goals as goal

pub returns : goal.returns
unfolding heads_of
returns c = rw c.if-code-ne-OR.false (three_put c.put-2.ensures c.put-3.ensures c.put-4.ensures)
