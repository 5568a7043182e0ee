-- Items one after the other, up to the first refusal: what a loop over them comes to.
-- Assumes nothing.
use Prim.Native.Nat.{ℕ, zero, suc, ◌+◌, ◌-◌, ◌<◌, ◌≤◌}
use native.Mathlib.Omega.{arith}
use mathlib.Core.Path.{◌≡◌, refl, sym, ap, ◌∙◌}
use mathlib.Core.List.{List}
use lib.ListN.{length}
use Rattle.messages.specs.declared.Refused.{Refused}
use Rattle.std.proofs.Common.{Result, Err}
use Rattle.walk_state.specs.Writing.{Progress, progress, state_at, going_at, Walks}
use Rattle.walk_state.specs.declared.writing.Cursor.{Cursor}
use Rattle.walk_state.specs.Walk.{State}
use Rattle.walk_state.specs.Walk.{Walk}
use Rattle.walk_state.specs.Walk as walk
use Rattle.subst_places.specs.Parameters.{items_in}

-- a loop over n items, with j of them walked
module _ (f : Progress → Progress) (bytes : List ℕ) where
  -- a refusal is handed on
  pub hands_on : (n : ℕ) (r : Refused) (k : ℕ) → items_in f n (progress (walk.Refused r k) bytes) ≡ progress (walk.Refused r k) bytes
  unfolding items_in
  hands_on zero r k = refl
  hands_on (suc n) r k = refl

  -- none is left
  pub no_more : (n j : ℕ) (w : Walk) → n ≤ j → items_in f (n - j) (progress w bytes) ≡ progress w bytes
  unfolding items_in
  no_more n j w h = let e : n - j ≡ 0 = omega (arith, h) in ap (λ (m : ℕ). items_in f m (progress w bytes)) e

  -- a turn of the loop
  pub item_walked : (n j : ℕ) (st : State) → j < n
      → items_in f (n - j) (progress (walk.Going st) bytes) ≡ items_in f (n - (j + 1)) (f (progress (walk.Going st) bytes))
  unfolding items_in
  item_walked n j st h = let e : n - j ≡ suc (n - (j + 1)) = omega (arith, h) in ap (λ (m : ℕ). items_in f m (progress (walk.Going st) bytes)) e

-- a turn of a loop that stops at a refusal
module _ (f : Progress → Progress) (n j : ℕ) (st : State) (bytes : List ℕ) {whole : Progress}
    (i : items_in f (n - j) (progress (walk.Going st) bytes) ≡ whole) where
  turn : j < n → items_in f (n - (j + 1)) (f (progress (walk.Going st) bytes)) ≡ whole
  turn h = sym (item_walked f bytes n j st h) ∙ i

  pub item_passed : {st' : State} {bytes' : List ℕ} → j < n → progress (walk.Going st') bytes' ≡ f (progress (walk.Going st) bytes)
      → items_in f (n - (j + 1)) (progress (walk.Going st') bytes') ≡ whole
  item_passed h e = ap (items_in f (n - (j + 1))) e ∙ turn h

  pub item_refused : {r : Refused} {k : ℕ} {bytes' : List ℕ} → j < n → progress (walk.Refused r k) bytes' ≡ f (progress (walk.Going st) bytes)
      → progress (walk.Refused r k) bytes' ≡ whole
  item_refused {r} {k} {bytes'} h e = sym (hands_on f bytes' (n - (j + 1)) r k) ∙ ap (items_in f (n - (j + 1))) e ∙ turn h

  pub items_passed : n ≤ j → progress (walk.Going st) bytes ≡ whole
  items_passed h = sym (no_more f bytes n j (walk.Going st) h) ∙ i

-- the same of a cursor that is lent to each turn
module _ (f : Progress → Progress) (n j : ℕ) {start c c' : Cursor} (i : items_in f (n - j) (going_at c) ≡ items_in f n (going_at start))
    (same : c.bytes.ghost_name ≡ start.bytes.ghost_name) (long : length c.bytes.now ≡ length start.bytes.now) where
  pub turn_refused : {a : Result Unit Refused} (r : Refused) → a ≡ Err r → j < n → Walks c c' (Err r) (f (going_at c))
      → Walks start c' a (items_in f n (going_at start))
  turn_refused r e h w =
      rw e (record { same_slice = w.same_slice ∙ same; same_length = w.same_length ∙ long; walked = item_refused f n j (state_at c) c.bytes.now i h w.walked })
