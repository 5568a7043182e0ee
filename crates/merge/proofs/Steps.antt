-- A turn of each loop: what is left, k of n being done, comes to what all comes to.
-- Assumes nothing.
use Rattle.std.proofs.Common.{Some, None, Result, Err}
use Prim.Native.Nat.{ℕ, zero, suc, ◌+◌, ◌-◌, ◌≤◌, ◌<◌}
use native.Mathlib.Omega.{arith}
use mathlib.Core.Path.{◌≡◌, refl, sym, ap, ◌∙◌}
use mathlib.Core.List.{List}
use mathlib.Core.Bool.{Bool, true, false}
use lib.ListN.{length}
use Rattle.tape.specs.declared.layout.Layout.{Layout}
use Rattle.tape.specs.declared.layout.Place.{Place}
use Rattle.messages.specs.declared.Refused.{Refused}
use Rattle.walk_state.specs.Writing.{Progress, progress, state_at, going_at, Walks}
use Rattle.walk_state.specs.declared.writing.Cursor.{Cursor}
use Rattle.walk_state.specs.Walk.{State}
use Rattle.walk_state.specs.Walk as walk
use Rattle.registry.specs.declared.rows.Row.{Row}
use Rattle.merge.specs.Agree.{alike_at, on_alike, same_from}
use Rattle.merge.specs.Join.{join_one_in, join_in}

-- ------------------------------------------------------------------ a run of entries

module _ (s : List ℕ) (d : Layout) (t : List ℕ) (e : Layout) (n k : ℕ) (p q : Place) where
  one_more : k < n → same_from s d t e (n - k) p q ≡ on_alike false (same_from s d t e (n - (k + 1))) (alike_at s d p t e q)
  unfolding same_from
  one_more h = let m : n - k ≡ suc (n - (k + 1)) = omega (arith, h) in ap (λ (j : ℕ). same_from s d t e j p q) m

  pub same_next : {next behind : Place} {whole : Bool} → k < n → alike_at s d p t e q ≡ Some (next, behind)
      → same_from s d t e (n - k) p q ≡ whole → same_from s d t e (n - (k + 1)) next behind ≡ whole
  same_next h a i = sym (one_more h ∙ ap (on_alike false (same_from s d t e (n - (k + 1)))) a) ∙ i

  pub same_differ : {whole : Bool} → k < n → alike_at s d p t e q ≡ None → same_from s d t e (n - k) p q ≡ whole → false ≡ whole
  same_differ h a i = sym (one_more h ∙ ap (on_alike false (same_from s d t e (n - (k + 1)))) a) ∙ i

  pub same_done : {whole : Bool} → n ≤ k → same_from s d t e (n - k) p q ≡ whole → true ≡ whole
  unfolding same_from
  same_done h i = let m : n - k ≡ 0 = omega (arith, h) in sym (ap (λ (j : ℕ). same_from s d t e j p q) m) ∙ i

-- ------------------------------------------------------------------ the second's definitions

module _ (s : List ℕ) (d : Layout) (rows : List Row) (t : List ℕ) (e : Layout) where
  -- a refusal stays
  pub join_stays : (n : ℕ) (f : Refused) (c : ℕ) (bytes : List ℕ)
      → join_in s d rows t e n (progress (walk.Refused f c) bytes) ≡ progress (walk.Refused f c) bytes
  unfolding join_in
  join_stays zero f c bytes = refl
  join_stays (suc n) f c bytes = join_stays n f c bytes

  -- a turn of the loop, with k of n definitions joined
  module _ (n k : ℕ) (st : State) (bytes : List ℕ) {whole : Progress} (i : join_in s d rows t e (n - k) (progress (walk.Going st) bytes) ≡ whole) where
    turn : k < n → join_in s d rows t e (n - (k + 1)) (join_one_in s d rows t e st bytes) ≡ whole
    unfolding join_in
    turn h =
        let m : n - k ≡ suc (n - (k + 1)) = omega (arith, h) in
        sym (ap (λ (j : ℕ). join_in s d rows t e j (progress (walk.Going st) bytes)) m) ∙ i

    pub join_next : {st' : State} {bytes' : List ℕ} → k < n → progress (walk.Going st') bytes' ≡ join_one_in s d rows t e st bytes
        → join_in s d rows t e (n - (k + 1)) (progress (walk.Going st') bytes') ≡ whole
    join_next h q = ap (join_in s d rows t e (n - (k + 1))) q ∙ turn h

    pub join_refused : {f : Refused} {c : ℕ} {bytes' : List ℕ} → k < n → progress (walk.Refused f c) bytes' ≡ join_one_in s d rows t e st bytes
        → progress (walk.Refused f c) bytes' ≡ whole
    join_refused {f} {c} {bytes'} h q = sym (join_stays (n - (k + 1)) f c bytes') ∙ ap (join_in s d rows t e (n - (k + 1))) q ∙ turn h

    pub join_done : n ≤ k → progress (walk.Going st) bytes ≡ whole
    unfolding join_in
    join_done h = let m : n - k ≡ 0 = omega (arith, h) in sym (ap (λ (j : ℕ). join_in s d rows t e j (progress (walk.Going st) bytes)) m) ∙ i

  -- the same of a cursor that is lent to each turn
  module _ (n k : ℕ) {start c c' : Cursor} (i : join_in s d rows t e (n - k) (going_at c) ≡ join_in s d rows t e n (going_at start))
      (same : c.bytes.ghost_name ≡ start.bytes.ghost_name) (long : length c.bytes.now ≡ length start.bytes.now) where
    pub join_stopped : {a : Result Unit Refused} (r : Refused) → a ≡ Err r → k < n
        → Walks c c' (Err r) (join_one_in s d rows t e (state_at c) c.bytes.now) → Walks start c' a (join_in s d rows t e n (going_at start))
    join_stopped r q h w =
        rw q
        (record {
          same_slice = w.same_slice ∙ same;
          same_length = w.same_length ∙ long;
          walked = join_refused n k (state_at c) c.bytes.now i h w.walked;
        })
