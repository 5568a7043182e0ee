-- `registry::answer_names` meets its contract. The law wants functions as its arguments, that each byte is one and what each call finds,
-- which `search` does not build.
use Rattle.std.proofs.Common.{rules}
use Rattle.format.proofs.Accepted.{bytes_all}
use Rattle.registry.proofs.Answers.{built}
use Rattle.registry.proofs.answer_names.Goals as goal

pub returns : goal.returns
returns c = built _ _ (bytes_all _ (λ i. (c.type_inv.registry i).fits)) c.answer_tape.ensures (λ t v p. search rules)
