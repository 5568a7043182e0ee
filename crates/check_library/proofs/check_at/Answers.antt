-- `check_library::check_at` meets its contract. The law wants a function as its argument, what each call of the closure finds, which
-- `search` does not build.
use Rattle.std.proofs.Common.{rules}
use Rattle.check_library.proofs.Operation.{checked}
use Rattle.check_library.proofs.check_at.Goals as goal

pub returns : goal.returns
returns c = checked _ _ _ c.type_inv.registry c.answer_tape.ensures (λ t v p. search rules)
