-- The items of a list, one at a time, of a walk that reads: f goes on behind one of them, and k of n are behind p.
-- Assumes nothing.
use Rattle.std.proofs.Common.{Result, Ok, Err}
use Prim.Native.Nat.{ℕ, zero, suc, ◌+◌, ◌-◌, ◌≤◌, ◌<◌}
use native.Mathlib.Omega.{arith}
use mathlib.Core.Path.{◌≡◌, refl, ap, sym, ◌∙◌}
use Rattle.tape.specs.declared.layout.Place.{Place}
use Rattle.messages.specs.declared.Refused.{Refused}
use Rattle.walk_state.specs.Reading.{items_in}

module _ (f : Result Place Refused → Result Place Refused) where
  pub none_behind : (n : ℕ) (r : Refused) → items_in f n (Err r) ≡ Err r
  unfolding items_in
  none_behind zero r = refl
  none_behind (suc n) r = refl

  module _ (n k : ℕ) (p : Place) {whole : Result Place Refused} (i : items_in f (n - k) (Ok p) ≡ whole) where
    one_more : k < n → items_in f (n - k) (Ok p) ≡ items_in f (n - (k + 1)) (f (Ok p))
    unfolding items_in
    one_more h = let m : n - k ≡ suc (n - (k + 1)) = omega (arith, h) in ap (λ (j : ℕ). items_in f j (Ok p)) m

    -- a turn of the loop
    pub item_passed : {q : Place} → k < n → Ok q ≡ f (Ok p) → items_in f (n - (k + 1)) (Ok q) ≡ whole
    item_passed h e = ap (items_in f (n - (k + 1))) e ∙ sym (one_more h) ∙ i

    -- its refusal is that of all
    pub item_refused : {r : Refused} → k < n → Err r ≡ f (Ok p) → Err r ≡ whole
    item_refused {r} h e = sym (none_behind (n - (k + 1)) r) ∙ ap (items_in f (n - (k + 1))) e ∙ sym (one_more h) ∙ i

    pub items_passed : n ≤ k → Ok p ≡ whole
    unfolding items_in
    items_passed h = let m : n - k ≡ 0 = omega (arith, h) in sym (ap (λ (j : ℕ). items_in f j (Ok p)) m) ∙ i
