-- `judge_names::agrees_before` meets its contract. The invariant: whether the pair agrees with those before entry `at`.
use Prim.Native.Nat.{◌≤◌}
use mathlib.Core.Path.{◌≡◌}
use Rattle.definition.specs.Agree.{consistent_with}
use Rattle.judge_names.specs.Entries.{text_at, pair, pairs_before}
use Rattle.judge_names.proofs.agrees_before.Given as goal

abbrev pub invariant-loop-at : goal.invariant-loop-at
invariant-loop-at l = (l.agrees ≡ consistent_with (pair l.names.ours.now l.names.theirs.now) (pairs_before l.sides.left.tape.bytes.now l.sides.left.tape.layout l.sides.right.tape.bytes.now l.sides.right.tape.layout l.at))
    × (l.a ≡ text_at l.sides.left.tape.bytes.now l.sides.left.tape.layout l.at) × (l.b ≡ text_at l.sides.right.tape.bytes.now l.sides.right.tape.layout l.at) × (l.a ≤ l.sides.left.tape.layout.size) × (l.b ≤ l.sides.right.tape.layout.size)
