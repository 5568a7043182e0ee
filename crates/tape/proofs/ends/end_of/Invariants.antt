-- `tape::ends::end_of` meets its contract. The loop's invariant: the count of what is left gives the whole count's answer.
use Prim.Native.Nat.{◌+◌, ◌-◌, ◌*◌, ◌≤◌}
use mathlib.Core.Path.{◌≡◌}
use Rattle.tape.specs.Skip.{count_from}
use Rattle.tape.proofs.ends.end_of.Given as goal

abbrev pub invariant-loop-left : goal.invariant-loop-left
invariant-loop-left l = (l.at ≤ l.held.tape.layout.entries) × (l.text ≤ l.held.tape.layout.size) × (l.left ≤ 2 + 2048 * l.at)
    × (count_from l.counts l.held.tape.bytes.now l.held.tape.layout (l.held.tape.layout.entries - l.at) l.left l.paired l.at l.text ≡ count_from l.counts l.held.tape.bytes.now l.held.tape.layout (l.held.tape.layout.entries - l.initial.at) l.due l.pairs l.initial.at l.initial.text)

abbrev pub decreases-loop-left : goal.decreases-loop-left
decreases-loop-left l = l.held.tape.layout.entries - l.at
