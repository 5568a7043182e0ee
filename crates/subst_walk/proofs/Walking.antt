-- The three walkers: a refusal is handed on, or a node is entered with one level less.
-- Assumes nothing.
use Prim.Native.Nat.{ℕ, zero, suc, ◌-◌}
use native.Mathlib.Omega.{arith}
use mathlib.Core.Path.{◌≡◌, refl, ap, sym, ◌∙◌}
use mathlib.Core.List.{List}
use Rattle.std.proofs.Common.{Result, Err}
use Rattle.nodes.specs.declared.Refusal.{Refusal}
use Rattle.messages.specs.Reason.{without_message}
use Rattle.subst_places.proofs.Unread.{condition_unread, term_unread}
use Rattle.nodes.specs.Node.{refusal_of, span_of, condition_at, term_at, agg_at}
use Rattle.messages.specs.declared.Refused.{Refused}
use Rattle.walk_state.specs.Writing.{progress, state_at, going_at, Walks}
use Rattle.walk_state.specs.declared.writing.Cursor.{Cursor}
use Rattle.subst_places.specs.Parameters.{Tapes, binders_in}
use Rattle.subst_walk.specs.Walkers.{Walkers, on_condition, on_agg, on_term, deeper, walkers}
use Rattle.walk_state.specs.Walk.{State}
use Rattle.walk_state.specs.Walk as walk

module _ (T : Tapes) (bytes : List ℕ) where
  one_down : (n : ℕ) → (n ≡ 0 → ⊥) → walkers T n ≡ deeper T (walkers T (n - 1))
  unfolding walkers
  one_down n h = let s : n ≡ suc (n - 1) = omega arith in ap (walkers T) s

  -- conditions
  pub hands_on_condition : (n : ℕ) (r : Refused) (k : ℕ) → (walkers T n).condition (progress (walk.Refused r k) bytes) ≡ progress (walk.Refused r k) bytes
  unfolding walkers
  hands_on_condition zero r k = refl
  hands_on_condition (suc n) r k = refl

  pub one_down_condition : (n : ℕ) (st : State) → (n ≡ 0 → ⊥) → (walkers T n).condition (progress (walk.Going st) bytes) ≡ on_condition T (walkers T (n - 1)) st bytes (condition_at T.definition T.maps.definition st.place)
  one_down_condition n st h = ap (λ (W : Walkers). W.condition (progress (walk.Going st) bytes)) (one_down n h)

  -- aggregates
  pub one_down_agg : (n : ℕ) (st : State) → (n ≡ 0 → ⊥) → (walkers T n).agg (progress (walk.Going st) bytes) ≡ on_agg T (walkers T (n - 1)) st bytes (agg_at T.definition T.maps.definition st.place)
  one_down_agg n st h = ap (λ (W : Walkers). W.agg (progress (walk.Going st) bytes)) (one_down n h)

  -- terms
  pub hands_on_term : (n : ℕ) (span : ℕ) (r : Refused) (k : ℕ) → (walkers T n).term span (progress (walk.Refused r k) bytes) ≡ progress (walk.Refused r k) bytes
  unfolding walkers
  hands_on_term zero span r k = refl
  hands_on_term (suc n) span r k = refl

  pub one_down_term : (n : ℕ) (span : ℕ) (st : State) → (n ≡ 0 → ⊥) → (walkers T n).term span (progress (walk.Going st) bytes) ≡ on_term T (walkers T (n - 1)) span st bytes (term_at T.definition T.maps.definition st.place)
  one_down_term n span st h = ap (λ (W : Walkers). W.term span (progress (walk.Going st) bytes)) (one_down n h)

  -- a list of binders
  pub hands_on_binders : (span : ℕ) (r : Refused) (k : ℕ) → binders_in T span (progress (walk.Refused r k) bytes) ≡ progress (walk.Refused r k) bytes
  unfolding binders_in
  hands_on_binders span r k = refl

-- Where nothing is read, the walk stops there.
module _ (T : Tapes) (n : ℕ) (some : n ≡ 0 → ⊥) {c : Cursor} {a : Result Unit Refused} {r : Refusal} where
  pub unread_condition : Err r ≡ condition_at T.definition T.maps.definition c.place → a ≡ Err (without_message r)
      → Walks c c a ((walkers T n).condition (going_at c))
  unfolding refusal_of span_of
  unread_condition h e =
      rw e
      (record {
        same_slice = refl;
        same_length = refl;
        walked =
            rw (condition_unread _ _ _ h)
            (sym (one_down_condition T c.bytes.now n (state_at c) some ∙ ap (on_condition T (walkers T (n - 1)) (state_at c) c.bytes.now) (sym h)));
      })

  pub unread_term : (span : ℕ) → Err r ≡ term_at T.definition T.maps.definition c.place → a ≡ Err (without_message r)
      → Walks c c a ((walkers T n).term span (going_at c))
  unfolding refusal_of span_of
  unread_term span h e =
      rw e
      (record {
        same_slice = refl;
        same_length = refl;
        walked =
            rw (term_unread _ _ _ h)
            (sym (one_down_term T c.bytes.now n span (state_at c) some ∙ ap (on_term T (walkers T (n - 1)) span (state_at c) c.bytes.now) (sym h)));
      })
