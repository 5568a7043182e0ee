-- `de_morgan::Rewriting::begin_side` meets its contract. The side on top and those below it stand in no conclusion, so that `search` does
-- not find them.
use Rattle.std.proofs.Common.{sym}
use Rattle.de_morgan.proofs.Sides.{none_waits, other_waits, side_begins}
use Rattle.de_morgan.proofs.rewriting.Rewriting.begin_side.Goals as goal

pub returns-in_default : goal.returns-in_default
returns-in_default g c = none_waits _ _ (sym (rw (c.as_slice.ensures.value, c.in_default.is) at c.last.ensures.value))

pub returns-then-side-at : goal.returns-then-side-at
returns-then-side-at g c =
    side_begins _ _ (sym (rw c.as_slice.ensures.value at c.in-Some.ensures.value)) c.if-side-at.true c.pop.ensures.value c.pop.ensures.items c.put.ensures

pub returns-else-side-at : goal.returns-else-side-at
returns-else-side-at g c = other_waits _ _ (sym (rw c.as_slice.ensures.value at c.in-Some.ensures.value)) c.if-side-at.false
