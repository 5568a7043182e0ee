-- Laws of the walks that only read, which the proofs of the walks above cite.
-- Assumes nothing.
use Rattle.std.proofs.Common.{Option, Some, Result, Ok, Err}
use Prim.Native.Nat.{ℕ, zero, suc}
use mathlib.Core.Path.{◌≡◌, refl}
use Rattle.tape.specs.declared.layout.Place.{Place}
use Rattle.messages.specs.declared.Refused.{Refused}
use Rattle.walk_state.specs.Reading.{items_in, passed_in}

-- ------------------------------------------------------------------ ways past what is not looked at

pub passed_at_lem : {x : Option Place} {next : Place} → x ≡ Some next → Ok next ≡ passed_in x
unfolding passed_in
passed_at_lem e = rw e

-- ------------------------------------------------------------------ refusals handed on

-- f hands a refusal on
abbrev pub Strict : ((Result Place Refused) → Result Place Refused) → Type 0
Strict f = (r : Refused) → f (Err r) ≡ Err r

pub strict_items : (f : Result Place Refused → Result Place Refused) (n : ℕ) → Strict (items_in f n)
unfolding items_in
strict_items f zero r = refl
strict_items f (suc n) r = refl
