-- `judge_names::same_entries` meets its contract. The invariant: the entries that are left are the same, behind the pairs of those
-- before, if all are.
use Prim.Native.Nat.{◌≤◌}
use mathlib.Core.Path.{◌≡◌}
use mathlib.Core.List.{[]}
use Rattle.definition.specs.Agree.{same_but_names}
use Rattle.judge_names.specs.Entries.{text_at, entries_in, protected_in}
use Rattle.judge_names.proofs.Steps.{Left}
use Rattle.judge_names.proofs.same_entries.Given as goal

abbrev pub invariant-loop-at : goal.invariant-loop-at
invariant-loop-at l = (Left (protected_in l.protected.registry.tape.bytes.now l.protected.registry.tape.layout l.protected.condition.tape.bytes.now l.protected.condition.tape.layout) l.sides.left.tape.bytes.now l.sides.left.tape.layout l.sides.right.tape.bytes.now l.sides.right.tape.layout l.at l.sides.left.tape.layout.entries ≡ same_but_names (protected_in l.protected.registry.tape.bytes.now l.protected.registry.tape.layout l.protected.condition.tape.bytes.now l.protected.condition.tape.layout) [] (entries_in l.sides.left.tape.bytes.now l.sides.left.tape.layout) (entries_in l.sides.right.tape.bytes.now l.sides.right.tape.layout))
    × (l.a ≡ text_at l.sides.left.tape.bytes.now l.sides.left.tape.layout l.at) × (l.b ≡ text_at l.sides.right.tape.bytes.now l.sides.right.tape.layout l.at) × (l.a ≤ l.sides.left.tape.layout.size) × (l.b ≤ l.sides.right.tape.layout.size)
