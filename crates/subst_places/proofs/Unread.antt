-- Where no condition or term is read, the refusal is the one of what does not stand where it is asked for.
-- Assumes nothing.
use Rattle.std.proofs.Common.{Option, Some, None, Result, Ok, Err}
use Prim.Native.Nat.{ℕ}
use mathlib.Core.Path.{◌≡◌, refl, sym, subst}
use mathlib.Core.List.{List, [], ◌∷◌}
use mathlib.Core.Bool.{Bool, true, false}
use lib.Dec.{eqb}
use Rattle.tape.specs.Pick.{pick}
use Rattle.tape.specs.declared.layout.Layout.{Layout}
use Rattle.tape.specs.declared.layout.Place.{Place}
use Rattle.nodes.specs.declared.Refusal.{Refusal}
use Rattle.nodes.specs.Node.{malformed, by_code, on_place, on_value, on_entry, entry_at, expect_at, past_heading_at, past_texts_at, condition_at, predicate_at, comparison_at, refine_at, sigil_at, sigil_rows, condition_rows, term_at, path_at, term_rows, named}

-- whatever was read, the refusal of what was not
data Only {A : Type 0} : Result A Refusal → Type 0 where
  passes : (a : A) → Only (Ok a)
  refuses : Only (Err malformed)

module _ {A : Type 0} where
  picked : (b : Bool) {x y : Result A Refusal} → Only x → Only y → Only (pick b x y)
  picked true h k = h
  picked false h k = k

  -- every row of a table
  unfoldable Rows : List (ℕ × (Result A Refusal)) → Type 0
  Rows [] = Unit {0}
  Rows (r ∷ rows) = Only r.1 × Rows rows

  by_rows : (code : ℕ) (rows : List (ℕ × (Result A Refusal))) → Rows rows → Only (by_code rows (Err malformed) code)
  unfolding Rows
  by_rows code [] h = Only.refuses
  by_rows code (r ∷ rows) h = picked (eqb code r.0) h.0 (by_rows code rows h.1)

  at_place : (o : Option Place) {f : Place → Result A Refusal} → ((q : Place) → Only (f q)) → Only (on_place (Err malformed) f o)
  at_place None h = Only.refuses
  at_place (Some q) h = h q

  at_value : (o : Option (ℕ × Place)) {f : ℕ → Place → Result A Refusal} → ((v : ℕ) (q : Place) → Only (f v q)) → Only (on_value (Err malformed) f o)
  at_value None h = Only.refuses
  at_value (Some (v, q)) h = h v q

  at_entry : (o : Option (ℕ × ℕ × Place)) {f : ℕ → ℕ → Place → Result A Refusal} → ((c v : ℕ) (q : Place) → Only (f c v q))
      → Only (on_entry (Err malformed) f o)
  at_entry None h = Only.refuses
  at_entry (Some (c, v, q)) h = h c v q

  unfoldable Reason : Result A Refusal → Type 0
  Reason (Ok a) = Unit {0}
  Reason (Err r) = r ≡ malformed

  reason : {x : Result A Refusal} → Only x → Reason x
  unfolding Reason
  reason (Only.passes a) = tt
  reason Only.refuses = refl

  so : {x : Result A Refusal} {r : Refusal} → Only x → Err r ≡ x → r ≡ malformed
  unfolding Reason
  so {r = r} h e = subst (λ (y : Result A Refusal). Reason y) (sym e) (reason h)

module _ (s : List ℕ) (l : Layout) (p : Place) where
  condition_only : Only (condition_at s l p)
  unfolding condition_at predicate_at comparison_at refine_at sigil_at Rows
  condition_only = at_entry (entry_at s l p) (λ code v next. by_rows code (condition_rows s l v next) (Only.passes _, (Only.passes _, (Only.passes _, (Only.passes _, (Only.passes _, (Only.passes _, (at_place (past_heading_at s l next) (λ q. Only.passes _), (at_value (expect_at s l next 53) (λ op q. Only.passes _), (Only.passes _, (Only.passes _, (Only.passes _, (at_entry (entry_at s l next) (λ c w q. by_rows c (sigil_rows v (named next w) q) (Only.passes _, (Only.passes _, tt))), (at_value (expect_at s l next 42) (λ own q. Only.passes _), tt))))))))))))))

  term_only : Only (term_at s l p)
  unfolding term_at path_at Rows
  term_only = at_entry (entry_at s l p) (λ code v next. by_rows code (term_rows s l p v next) (at_place (past_texts_at s l next 2) (λ q. Only.passes _), (Only.passes _, (Only.passes _, (Only.passes _, (Only.passes _, (at_place (past_texts_at s l next v) (λ q. Only.passes _), (at_place (past_texts_at s l next v) (λ q. Only.passes _), (Only.passes _, (Only.passes _, (Only.passes _, (Only.passes _, (Only.passes _, (Only.passes _, (Only.passes _, tt)))))))))))))))

  pub condition_unread : {r : Refusal} → Err r ≡ condition_at s l p → r ≡ malformed
  condition_unread = so condition_only

  pub term_unread : {r : Refusal} → Err r ≡ term_at s l p → r ≡ malformed
  term_unread = so term_only
