-- A condition that passes the profile is returned unchanged, of what the operations return and write.
-- Assumes nothing.
use mathlib.Core.Path.{sym, ap, ◌∙◌}
use mathlib.Core.List.{List}
use Prim.Native.Nat.{ℕ}
use Rattle.definition.specs.Answers.{Answer}
use Rattle.definition.specs.Profile.{Passing}
use Rattle.definition.proofs.Profile.{returned_unchanged}
use Rattle.profile.specs.Returned.{Built, UnchangedReturned}

-- the registry's answer has the number that was returned
passing : {registry : List ℕ} → Built registry → Passing registry
passing h =
    record {
      message_length = h.message_length;
      long_enough = h.long_enough;
      passes = sym (ap (λ (a : Answer). a.number) h.met) ∙ h.passes;
    }

pub unchanged_returned : UnchangedReturned
unchanged_returned b limit file registry input c r result work message long bytes built fits e plain met =
    let same = returned_unchanged b limit file registry input c long (passing built) bytes
    (sym (ap (λ (a : Answer). a.number) fits.met) ∙ fits.passes) e plain in
    (met ∙ same.0, same.1)
