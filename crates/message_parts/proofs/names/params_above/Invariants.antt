-- `message_parts::names::params_above` meets its contract. The loop's invariant: what is left, written behind what was written, is what
-- is promised. The measure: how many names are left above the last one.
use mathlib.Core.Path.{◌≡◌}
use mathlib.Core.List.{[], ◌∷◌, flatten}
use lib.ListN.{length}
use Rattle.definition.specs.Text.{utf8}
use Rattle.buffer.specs.Buffer.{write_in}
use Rattle.buffer.specs.Message.{so_far}
use Rattle.message_parts.specs.Names.{names_at, spelled, rest, list_above}
use Rattle.message_parts.proofs.names.params_above.Given as goal

abbrev pub invariant-loop-name : goal.invariant-loop-name
invariant-loop-name l =
    let s = l.tape.bytes.now in
    let names = names_at s l.tape.layout l.fn.params.place l.fn.params.count in
    let last = spelled s l.tape.layout l.last in
    let floor = spelled s l.tape.layout l.initial.last in
    (l.message.bytes.ghost_name ≡ l.initial.message.bytes.ghost_name)
    × (write_in (flatten (list_above last (rest last names) ∷ utf8 ")" ∷ [])) (so_far l.message)
    ≡ write_in (flatten (list_above floor (rest floor names) ∷ utf8 ")" ∷ [])) (so_far l.initial.message))

abbrev pub decreases-loop-name : goal.decreases-loop-name
decreases-loop-name l =
    let s = l.tape.bytes.now in
    let last = spelled s l.tape.layout l.last in
    length (rest last (names_at s l.tape.layout l.fn.params.place l.fn.params.count))
