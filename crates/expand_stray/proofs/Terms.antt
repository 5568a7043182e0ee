-- The check of a field hands on a refusal on the way to its term. Assumes nothing.
use Rattle.std.proofs.Common.{Ok, Err}
use Prim.Native.Nat.{ℕ, zero, suc}
use mathlib.Core.Path.{◌≡◌}
use mathlib.Core.List.{List}
use Rattle.tape.specs.declared.layout.Layout.{Layout}
use Rattle.tape.specs.declared.layout.Place.{Place}
use Rattle.messages.specs.declared.Refused.{Refused}
use Rattle.walk_state.specs.Reading.{past_name_in}
use Rattle.expand_stray.specs.Concrete.{concrete_term_in, concrete_field_in}

-- a refusal on the way to a field's term is the field's
pub field_refused : (s : List ℕ) (l : Layout) (span : ℕ) (p : Place) (n : ℕ) {r : Refused} → Err r ≡ past_name_in s l (Ok p)
    → Err r ≡ concrete_field_in s l n span (Ok p)
unfolding concrete_term_in
field_refused s l span p zero e = rw (← e)
field_refused s l span p (suc n) e = rw (← e)
