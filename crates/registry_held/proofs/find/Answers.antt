-- `registry_held::find` meets its contract. The law wants a function as its argument, which `search` does not build.
use native.Mathlib.Omega.{arith}
use Rattle.format.proofs.Accepted.{bytes_all}
use Rattle.registry_held.proofs.Registries.{nothing_found, name_found}
use Rattle.registry_held.proofs.find.Goals as goal

pub returns-then-refused : goal.returns-then-refused
returns-then-refused c = nothing_found _ _ _ (λ z. omega (arith, z))

pub returns : goal.returns
returns c = name_found _ _ _ (bytes_all c.args.tape.now (λ i. (c.type_inv.tape i).fits)) (omega arith) c.find_at.ensures
