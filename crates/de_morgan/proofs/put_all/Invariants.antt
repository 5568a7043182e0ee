-- The loop of `de_morgan::put_all`: what is left to put gives the whole, and the vector has room for the Ors that are left.
use Prim.Native.Nat.{◌+◌, ◌-◌, ◌*◌, ◌≤◌}
use mathlib.Core.Path.{◌≡◌}
use mathlib.Core.List.{[]}
use Rattle.arrayvec.specs.ArrayVec.{array_vec_len}
use Rattle.tape.specs.Ors.{ors_from}
use Rattle.de_morgan.proofs.Heads.{left_to_put}
use Rattle.de_morgan.proofs.put_all.Given as goal

abbrev pub invariant-loop-at : goal.invariant-loop-at
invariant-loop-at l = (l.text ≤ l.held.tape.layout.size) × (array_vec_len l.sides + ors_from l.held.tape.bytes.now l.held.tape.layout l.at ≤ 256) × (l.rewriting.next ≤ 4 * l.at)
    × (l.rewriting.n ≡ l.initial.rewriting.n) × (l.rewriting.out.ghost_name ≡ l.initial.rewriting.out.ghost_name)
    × (left_to_put l.held.tape.bytes.now l.held.tape.layout (l.held.tape.layout.entries - l.at) l.at l.text l.sides.items l.rewriting ≡ left_to_put l.held.tape.bytes.now l.held.tape.layout l.held.tape.layout.entries 0 0 [] l.initial.rewriting)
