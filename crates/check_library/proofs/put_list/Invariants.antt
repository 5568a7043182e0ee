-- The loop of `check_library::put_list`: the rows that are left, behind the list so far, make the whole list.
use mathlib.Core.Path.{◌≡◌}
use lib.ListN.{drop}
use Rattle.buffer.specs.Message.{so_far}
use Rattle.check_library.specs.Rows.{put_from}
use Rattle.check_library.proofs.put_list.Given as goal

abbrev pub invariant-loop-i : goal.invariant-loop-i
invariant-loop-i l =
    (l.list.bytes.ghost_name ≡ l.initial.list.bytes.ghost_name)
    × (put_from l.index.tape.bytes.now l.index.tape.layout l.i (drop l.i l.index.rows.now) (so_far l.list)
    ≡ put_from l.index.tape.bytes.now l.index.tape.layout 0 l.index.rows.now (so_far l.initial.list))
