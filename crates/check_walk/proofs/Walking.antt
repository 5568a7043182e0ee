-- The walkers hand a refusal on. Assumes nothing.
use Rattle.std.proofs.Common.{Err}
use Prim.Native.Nat.{ℕ, zero, suc}
use mathlib.Core.Path.{◌≡◌, refl}
use mathlib.Core.List.{List}
use Rattle.messages.specs.declared.Refused.{Refused}
use Rattle.check_parts.specs.Names.{Declaration}
use Rattle.check_walk.specs.Walk.{Walkers, fields_in, walkers}

module _ (s : List ℕ) (d : Declaration) where
  pub condition_handed_on : (n : ℕ) (r : Refused) → (walkers s d n).condition (Err r) ≡ Err r
  unfolding walkers
  condition_handed_on zero r = refl
  condition_handed_on (suc n) r = refl

  pub term_handed_on : (n span : ℕ) (r : Refused) → (walkers s d n).term span (Err r) ≡ Err r
  unfolding walkers
  term_handed_on zero span r = refl
  term_handed_on (suc n) span r = refl

  pub fields_handed_on : (W : Walkers) (span : ℕ) (r : Refused) → fields_in s d W span (Err r) ≡ Err r
  unfolding fields_in
  fields_handed_on W span r = refl
