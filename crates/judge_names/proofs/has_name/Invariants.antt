-- `judge_names::has_name` meets its contract. The invariant: the names that are left hold it if all do.
use Prim.Native.Nat.{◌-◌, ◌≤◌}
use mathlib.Core.Path.{◌≡◌}
use Rattle.definition.specs.Check.{contains}
use Rattle.format.specs.Names.{names_in}
use Rattle.judge_names.specs.Entries.{text_at, entries_from, entries_in}
use Rattle.judge_names.proofs.has_name.Given as goal

abbrev pub invariant-loop-at : goal.invariant-loop-at
invariant-loop-at l = (contains (names_in (entries_from l.held.tape.bytes.now l.held.tape.layout l.at (l.held.tape.layout.entries - l.at))) l.name ≡ contains (names_in (entries_in l.held.tape.bytes.now l.held.tape.layout)) l.name)
    × (l.text ≡ text_at l.held.tape.bytes.now l.held.tape.layout l.at) × (l.text ≤ l.held.tape.layout.size)
