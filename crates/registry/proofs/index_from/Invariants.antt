-- `registry::index_from` meets its contract. The invariant: the rows that are written, and then those that are left, are the whole index.
use Prim.Native.Nat.{◌-◌, ◌≤◌}
use mathlib.Core.Path.{◌≡◌}
use mathlib.Core.List.{◌++◌}
use lib.ListN.{length, take}
use Rattle.tape.proofs.Runs.{place}
use Rattle.registry.specs.Places.{origin, rows_from}
use Rattle.registry.proofs.index_from.Given as goal

abbrev pub invariant-loop-at : goal.invariant-loop-at
invariant-loop-at l = (take l.n l.rows ++ take (length l.initial.rows - l.n) (rows_from l.held.tape.bytes.now l.held.tape.layout (l.held.tape.layout.entries - l.at) (place l.at l.text)) ≡ take (length l.initial.rows) (rows_from l.held.tape.bytes.now l.held.tape.layout l.held.tape.layout.entries origin))
    × (l.n ≤ length l.initial.rows) × (l.text ≤ l.held.tape.layout.size)
