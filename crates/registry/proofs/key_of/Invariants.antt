-- `registry::key_of` meets its contract. The invariant: the key so far and the bytes that are left give the name's key.
use Prim.Native.Nat.{◌<◌}
use mathlib.Core.Path.{◌≡◌}
use lib.ListN.{drop}
use Rattle.registry.specs.Places.{key_from, key_of}
use Rattle.registry.proofs.key_of.Given as goal

abbrev pub invariant-loop-b : goal.invariant-loop-b
invariant-loop-b l = (l.h < 4294967296) × (key_from l.h (drop l.b-index l.name) ≡ key_of l.name)
