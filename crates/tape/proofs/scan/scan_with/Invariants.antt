-- `tape::scan::scan_with` meets its contract. The loop's invariant: the scan of what is left gives the whole scan's answer.
use mathlib.Core.Path.{◌≡◌}
use Prim.Native.Nat.{◌+◌, ◌-◌, ◌≤◌}
use lib.ListN.{length}
use Rattle.tape.specs.Layouts.{entries_at}
use Rattle.tape.specs.Scan.{scan_of, scan_from}
use Rattle.grammar.specs.Stack.{stack_of}
use Rattle.grammar.specs.Waits.{longest_in}
use Rattle.grammar.specs.Words.{rules}
use Rattle.tape.proofs.scan.scan_with.Given as goal

abbrev pub invariant-loop-cell : goal.invariant-loop-cell
invariant-loop-cell g l = (length l.stack.items + l.initial.at ≤ l.at + 1) × (l.initial.at ≤ l.at) × (l.at ≤ l.tape.layout.entries) × (l.text ≤ l.tape.layout.size)
    × (scan_of (rules l.grammar) (longest_in l.longest) l.tape.layout.size (entries_at (rules l.grammar) l.tape.bytes.now l.tape.layout l.at l.text (l.tape.layout.entries - l.at)) (stack_of l.stack.items) l.at l.text l.over
    ≡ scan_from (rules l.grammar) l.tape.bytes.now l.tape.layout (record { at = l.initial.at; text = l.initial.text }) l.sort (longest_in l.longest))

abbrev pub decreases-loop-cell : goal.decreases-loop-cell
decreases-loop-cell g l = l.tape.layout.entries - l.at
