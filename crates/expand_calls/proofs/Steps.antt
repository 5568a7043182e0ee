-- A refusal that is handed on.
-- Assumes nothing.
use Prim.Native.Nat.{ℕ}
use mathlib.Core.Path.{◌≡◌, refl}
use mathlib.Core.List.{List}
use Rattle.messages.specs.declared.Refused.{Refused}
use Rattle.walk_state.specs.Writing.{progress}
use Rattle.walk_state.specs.Walk as walk
use Rattle.subst_places.specs.Refines.{fold_in}

pub fold_hands_on : (base count own shape : ℕ) (r : Refused) (k : ℕ) (bytes : List ℕ)
    → fold_in base count own shape (progress (walk.Refused r k) bytes) ≡ progress (walk.Refused r k) bytes
unfolding fold_in
fold_hands_on base count own shape r k bytes = refl
