-- The way past the items of a list, as a fold of calls over a range, each of which goes past one item or stops the fold.
-- Assumes nothing.
use Rattle.std.proofs.Common.{Option, Some, None}
use Prim.Native.Nat.{ℕ, zero, suc, ◌+◌}
use mathlib.Core.Path.{◌≡◌, refl, ap, sym, subst, ◌∙◌}
use mathlib.Core.List.{List, [], ◌∷◌}
use denote.Param.Members.{Mut}
use Rattle.std.specs.ControlFlow.{continue_value}
use Rattle.std.specs.Fn.{Called}
use Rattle.std.specs.Iterator.{Yields, AlwaysYields, TryFoldsItems}
use Rattle.std.specs.List.{FoldsTo, range_with_len}
use Rattle.std.specs.Option.{MatchOption}
use Rattle.std.proofs.lemmas.Iterator.{YieldsList}
use Rattle.nodes.specs.Node.{past_items, on_place}
use Rattle.tape.specs.declared.layout.Place.{Place}

module _ {F : Type 0} (g : Mut F (Place × (ℕ × Unit {0})) (Option Place)) where
  -- a call that goes past an item, and what the fold answers where it ended
  abbrev Turn : F × Place → ℕ → F × Place → Type 0
  Turn p i q = (x : Option Place) × Called g p.0 (p.1, (i, tt)) x q.0 × (x ≡ Some q.1)

  abbrev Ends : (E : Type 0) → Option ℕ → F → Place → Option Place → Type 0
  Ends E o k q r =
      MatchOption o (r ≡ Some q) (λ i. (x : Option Place) × (h : F) × (e : E) × Called g k (q, (i, tt)) x h × (x ≡ None) × (r ≡ None))

-- The calls of `past` leave it as it is and answer f.
module _ {S F : Type 0} (E : Type 0) (steps : S → Option ℕ → S → Type 0) (g : Mut F (Place × (ℕ × Unit {0})) (Option Place)) (f : Place → Option Place)
    (past : F) (answers : (p : Place) (i : ℕ) (x : Option Place) (k : F) → Called g past (p, (i, tt)) x k → (k ≡ past) × (x ≡ f p)) where
  from_item : (n a : ℕ) (s : S) → AlwaysYields steps (λ i. i) s (range_with_len a n) → (w : F × Place) → w.0 ≡ past → (is : List ℕ) (o : Option ℕ)
      (k : F) (q : Place) (t u : S) → Yields steps s is t → steps t o u → FoldsTo (Turn g) w is (k, q) → (r : Option Place) → Ends g E o k q r
      → r ≡ past_items f n w.1
  unfolding past_items
  from_item zero a s y w m [] None k q t u b c d r e = e ∙ ap (λ (v : F × Place). Some v.1) (sym d)
  from_item zero a s y w m [] (Some i) k q t u b c d r e = absurd (y i u (subst (λ (v : S). steps v (Some i) u) (sym b) c))
  from_item zero a s y w m (i ∷ is) o k q t u b c d r e = absurd (y i b.0 b.1)
  from_item (suc n) a s y w m [] None k q t u b c d r e = absurd (y.0 u (subst (λ (v : S). steps v None u) (sym b) c))
  from_item (suc n) a s y w m [] (Some i) k q t u b c d r e =
      let l : k ≡ past = ap (λ (v : F × Place). v.0) (sym d) ∙ m in
      let j = answers q i e.0 e.1 (subst (λ (v : F). Called g v (q, (i, tt)) e.0 e.1) l e.3) in
      let none : f w.1 ≡ None = ap (λ (v : F × Place). f v.1) d ∙ sym j.1 ∙ e.4 in
      e.5 ∙ ap (on_place None (past_items f n)) (sym none)
  from_item (suc n) a s y w m (i ∷ is) o k q t u b c d r e =
      let j = answers w.1 i d.1.0 d.0.0 (subst (λ (v : F). Called g v (w.1, (i, tt)) d.1.0 d.0.0) m d.1.1) in
      let some : f w.1 ≡ Some d.0.1 = sym j.1 ∙ d.1.2 in
      from_item n (a + 1) b.0 (y.1 i b.0 b.1).1 d.0 j.0 is o k q t u b.2 c d.2 r e ∙ ap (on_place None (past_items f n)) (sym some)

  pub items_passed : (n : ℕ) {s u : S} {p : Place} {r : Option Place} → YieldsList steps (λ i. i) s (range_with_len 0 n)
      → TryFoldsItems steps g (λ x c. x ≡ continue_value c) (λ (e : E) x. x ≡ None) s past p r u → r ≡ past_items f n p
  items_passed n {s} {u} {p} {r} y d = from_item n 0 s y.runs (past, p) refl d.0 d.1 d.2 d.3 d.4.0 u d.4.1 d.4.2 d.5 r d.6
