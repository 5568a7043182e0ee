-- A refusal is handed on past what would come behind the walk.
-- Assumes nothing.
use Prim.Native.Nat.{ℕ}
use mathlib.Core.Path.{◌≡◌, refl}
use mathlib.Core.List.{List}
use Rattle.messages.specs.declared.Refused.{Refused}
use Rattle.walk_state.specs.Writing.{progress}
use Rattle.walk_state.specs.Walk as walk
use Rattle.subst_places.specs.Parameters.{Tapes}
use Rattle.subst_walk.specs.Walkers.{walkers}
use Rattle.subst_call.specs.Front.{refuse_too_large_in, temporal_condition_in, temporal_value_in}

module _ (r : Refused) (k : ℕ) (bytes : List ℕ) where
  pub hands_on : (span sort : ℕ) → refuse_too_large_in span sort (progress (walk.Refused r k) bytes) ≡ progress (walk.Refused r k) bytes
  unfolding refuse_too_large_in
  hands_on span sort = refl

  pub condition_hands_on : (T : Tapes) → temporal_condition_in T (progress (walk.Refused r k) bytes) ≡ progress (walk.Refused r k) bytes
  unfolding temporal_condition_in refuse_too_large_in walkers
  condition_hands_on T = refl

  pub value_hands_on : (T : Tapes) → temporal_value_in T (progress (walk.Refused r k) bytes) ≡ progress (walk.Refused r k) bytes
  unfolding temporal_value_in refuse_too_large_in walkers
  value_hands_on T = refl
