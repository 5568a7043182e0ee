-- `weeks::write_values` meets its contract. The loop's invariant: with the values from i on the result is what it is to be, and each of
-- them fits.
use Rattle.std.proofs.Common.{◌≡◌, ◌+◌, ◌-◌, ◌*◌, T}
use lib.Seq.{sets}
use Rattle.format.specs.Entry.{values_of}
use Rattle.format.specs.Older.{older_entries, fits_older}
use Rattle.weeks.specs.Heads.{heads_at}
use Rattle.weeks.proofs.write_values.Given as goal

abbrev pub invariant-loop-i : goal.invariant-loop-i
invariant-loop-i l = T (fits_older (heads_at l.tape.held.tape.bytes.now l.tape.held.tape.layout l.i (l.n - l.i)))
    × (sets l.res (8 + l.n + 8 * l.i) (values_of (older_entries (heads_at l.tape.held.tape.bytes.now l.tape.held.tape.layout l.i (l.n - l.i))))
    ≡ sets l.initial.res (8 + l.n) (values_of (older_entries (heads_at l.tape.held.tape.bytes.now l.tape.held.tape.layout 0 l.n))))
