-- The walkers one level down, where a level is left; and the items of a list, one at a time.
-- Assumes nothing.
use Rattle.std.proofs.Common.{Result, Err}
use Prim.Native.Nat.{ℕ, zero, suc, ◌+◌, ◌-◌, ◌≤◌, ◌<◌}
use native.Mathlib.Omega.{arith}
use mathlib.Core.Path.{◌≡◌, refl, sym, ap, ◌∙◌}
use mathlib.Core.List.{List}
use lib.ListN.{length}
use Rattle.nodes.specs.declared.Refusal.{Refusal}
use Rattle.nodes.specs.declared.Heading.{Heading}
use Rattle.nodes.specs.Node.{refusal_of, span_of, condition_at, term_at, agg_at}
use Rattle.area.specs.declared.Writer.{Writer}
use Rattle.tape.specs.declared.layout.Layout.{Layout}
use Rattle.tape.specs.declared.layout.Place.{Place}
use Rattle.messages.specs.declared.Refused.{Refused}
use Rattle.messages.specs.Reason.{without_message}
use Rattle.walk_state.specs.Writing as one
use Rattle.walk_state.specs.declared.writing.Cursor.{Cursor}
use Rattle.subst_places.proofs.Unread.{condition_unread, term_unread}
use Rattle.subst_call.specs.Front.{refuse_too_large_in}
use Rattle.subst_call.specs.declared.Macro.{Macro}
use Rattle.walk_state.specs.Walk.{State}
use Rattle.walk_state.specs.Walk as walk
use Rattle.expand_stray.specs.Concrete.{concrete_fields_in}
use Rattle.expand_calls.specs.Output.{Reads, Progress, progress, going_at, Expands}
use Rattle.expand_calls.specs.Calls.{outcome_in}
use Rattle.expand_walk.specs.Walkers.{Walkers, items_in, value_arg_in, on_condition, on_operand, on_agg, deeper, walkers}

-- ------------------------------------------------------------------ items

module _ (f : Progress → Progress) where
  none_behind : (n : ℕ) (r : Refused) (charged : ℕ) (work result : List ℕ)
      → items_in f n (progress (walk.Refused r charged) work result) ≡ progress (walk.Refused r charged) work result
  unfolding items_in
  none_behind zero r charged work result = refl
  none_behind (suc n) r charged work result = refl

  -- of n items k are walked
  module _ (n k : ℕ) (st : State) (work result : List ℕ) {whole : Progress} (i : items_in f (n - k) (progress (walk.Going st) work result) ≡ whole) where
    turn : k < n → items_in f (n - (k + 1)) (f (progress (walk.Going st) work result)) ≡ whole
    unfolding items_in
    turn h =
        let m : n - k ≡ suc (n - (k + 1)) = omega (arith, h) in
        sym (ap (λ (j : ℕ). items_in f j (progress (walk.Going st) work result)) m) ∙ i

    -- a turn of the loop
    pub item_passed : {st' : State} {work' result' : List ℕ} → k < n → progress (walk.Going st') work' result' ≡ f (progress (walk.Going st) work result)
        → items_in f (n - (k + 1)) (progress (walk.Going st') work' result') ≡ whole
    item_passed h e = ap (items_in f (n - (k + 1))) e ∙ turn h

    pub items_passed : n ≤ k → progress (walk.Going st) work result ≡ whole
    unfolding items_in
    items_passed h = let m : n - k ≡ 0 = omega (arith, h) in sym (ap (λ (j : ℕ). items_in f j (progress (walk.Going st) work result)) m) ∙ i

  -- a refusal is that of all
  module _ (n k : ℕ) {start c c' : Cursor} {whole : Progress} {res : List ℕ} (i : items_in f (n - k) (going_at c res) ≡ whole)
      (same : c.bytes.ghost_name ≡ start.bytes.ghost_name) (long : length c.bytes.now ≡ length start.bytes.now) where
    pub turn_refused : {a : Result Unit Refused} {res' : List ℕ} (r : Refused) → a ≡ Err r → k < n → Expands c c' (Err r) res' (f (going_at c res))
        → Expands start c' a res' whole
    turn_refused {res'} r e h w =
        rw e
        (record {
          same_slice = w.same_slice ∙ same;
          same_length = w.same_length ∙ long;
          expanded =
              sym (none_behind (n - (k + 1)) r c'.charged c'.bytes.now res') ∙ ap (items_in f (n - (k + 1))) w.expanded
              ∙ turn n k (one.state_at c) c.bytes.now res i h;
        })

-- ------------------------------------------------------------------ the walkers

-- the fields of a predicate at the level
pub fields_at : (R : Reads) (n span : ℕ) (w : Result Place Refused) → (walkers R n).fields span w ≡ concrete_fields_in R.condition R.layout n span w
unfolding walkers
fields_at R zero span w = refl
fields_at R (suc n) span w = refl

module _ (R : Reads) (n : ℕ) (work result : List ℕ) where
  -- a refusal is handed on
  module _ (r : Refused) (charged : ℕ) where
    pub hands_on_condition : (walkers R n).condition (progress (walk.Refused r charged) work result) ≡ progress (walk.Refused r charged) work result
    unfolding walkers
    hands_on_condition = by_level n
      where
        by_level : (n : ℕ) → (walkers R n).condition (progress (walk.Refused r charged) work result) ≡ progress (walk.Refused r charged) work result
        by_level zero = refl
        by_level (suc n) = refl

    pub hands_on_operand : (walkers R n).operand (progress (walk.Refused r charged) work result) ≡ progress (walk.Refused r charged) work result
    unfolding walkers
    hands_on_operand = by_level n
      where
        by_level : (n : ℕ) → (walkers R n).operand (progress (walk.Refused r charged) work result) ≡ progress (walk.Refused r charged) work result
        by_level zero = refl
        by_level (suc n) = refl

  -- one level down
  module _ (h : n ≡ 0 → ⊥) (st : State) where
    down : walkers R n ≡ deeper R (walkers R (n - 1)) n
    unfolding walkers
    down =
        let s : n ≡ suc (n - 1) = omega (arith, h) in
        ap (walkers R) s ∙ ap (deeper R (walkers R (n - 1))) (sym s)

    pub down_condition : (walkers R n).condition (progress (walk.Going st) work result)
        ≡ on_condition R (walkers R (n - 1)) st work result (condition_at R.condition R.layout st.place)
    down_condition = ap (λ (W : Walkers). W.condition (progress (walk.Going st) work result)) down

    pub down_operand : (walkers R n).operand (progress (walk.Going st) work result)
        ≡ on_operand R (walkers R (n - 1)) st work result (term_at R.condition R.layout st.place)
    down_operand = ap (λ (W : Walkers). W.operand (progress (walk.Going st) work result)) down

    pub down_agg : (p : Place) → (walkers R n).agg st p work result ≡ on_agg R (walkers R (n - 1)) st work result (agg_at R.condition R.layout p)
    down_agg p = ap (λ (W : Walkers). W.agg st p work result) down

    pub down_value : (p : Place) → (walkers R n).value_arg st p work result ≡ value_arg_in R (walkers R (n - 1)) st p work result
    down_value p = ap (λ (W : Walkers). W.value_arg st p work result) down

-- a refusal of an argument is that of the call
pub outcome_hands_on : (reg : List ℕ) (d : Layout) (limit file : ℕ) (def : Macro) (call : Heading) (out : Writer) (r : Refused) (charged : ℕ)
    (work result : List ℕ)
    → outcome_in reg d limit file def call out (progress (walk.Refused r charged) work result) ≡ progress (walk.Refused r charged) work result
unfolding outcome_in refuse_too_large_in
outcome_hands_on reg d limit file def call out r charged work result = refl

-- Where nothing is read, the walk stops there.
module _ (R : Reads) (n : ℕ) (some : n ≡ 0 → ⊥) {c : Cursor} {a : Result Unit Refused} {res : List ℕ} {r : Refusal} where
  pub unread_condition : Err r ≡ condition_at R.condition R.layout c.place → a ≡ Err (without_message r)
      → Expands c c a res ((walkers R n).condition (going_at c res))
  unfolding refusal_of span_of
  unread_condition h e =
      rw e
      (record {
        same_slice = refl;
        same_length = refl;
        expanded =
            rw (condition_unread _ _ _ h)
            (sym
            (down_condition R n c.bytes.now res some (one.state_at c)
            ∙ ap (on_condition R (walkers R (n - 1)) (one.state_at c) c.bytes.now res) (sym h)));
      })

  pub unread_operand : Err r ≡ term_at R.condition R.layout c.place → a ≡ Err (without_message r)
      → Expands c c a res ((walkers R n).operand (going_at c res))
  unfolding refusal_of span_of
  unread_operand h e =
      rw e
      (record {
        same_slice = refl;
        same_length = refl;
        expanded =
            rw (term_unread _ _ _ h)
            (sym
            (down_operand R n c.bytes.now res some (one.state_at c)
            ∙ ap (on_operand R (walkers R (n - 1)) (one.state_at c) c.bytes.now res) (sym h)));
      })
