-- `registry_held::build` meets its contract. The law wants a function as its argument, which `search` does not build.
use Rattle.format.proofs.Accepted.{bytes_all}
use Rattle.registry_held.proofs.Registries.{builds}
use Rattle.registry_held.proofs.build.Goals as goal

pub returns : goal.returns
returns c = builds _ _ _ _ (bytes_all c.args.tape.now (λ i. (c.type_inv.tape i).fits)) c.build.ensures.0 c.layout_of.ensures
