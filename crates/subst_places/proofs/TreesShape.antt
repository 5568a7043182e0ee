-- What a refined base comes out as is told from the body and the arguments: the code that is read there is that of the condition which
-- the substitution gives, if it gives one.
-- Assumes nothing.
use Prim.Native.Nat.{ℕ}
use mathlib.Core.Path.{◌≡◌, refl}
use mathlib.Core.List.{[], ◌∷◌}
use lib.ListN.{length}
use Rattle.format.specs.Entry.{Text, entry, text_entry}
use Rattle.format.specs.Ast.{Sigil, Condition, NamedArgs, CallArg}
use Rattle.format.specs.Flat.{flat_sigil, flat_condition}
use Rattle.definition.specs.Outcome.{Outcome, open_outcome}
use Rattle.definition.specs.Size.{call_arg_size}
use Rattle.definition.specs.Substitute.{
  SubstMaps,
  charge,
  lookup,
  arg_for,
  charge_paste,
  paste_condition,
  subst_sigil_ref,
  fold_refine,
  subst_binder_slot,
  subst_binder,
  subst_within,
  subst_temporal_condition,
  subst_temporal_term,
  subst_temporal_fields,
}
use Rattle.nodes.specs.Node.{named}
use Rattle.tape.specs.declared.layout.Place.{Place}
use Rattle.tape.proofs.Located.{past, Inside, inside_next}
use Rattle.nodes.proofs.Entries.{is_entry, is_expected, is_spelled}
use Rattle.subst_state.specs.Arguments.{arg_for as find}
use Rattle.subst_places.specs.Parameters.{Tapes}
use Rattle.subst_places.specs.Refines.{sigil_shape_in, shape_in}
use Rattle.subst_places.proofs.TreesWalk.{AllDone, all_bind, all_weaken}
use Rattle.subst_places.proofs.TreesBound.{root_condition, root_of, FoundIs, nothing, argument, Bound}

-- a fold that is not refused gives a predicate
pub folded_shape : (c : Condition) (gs : NamedArgs) (span k : ℕ) → AllDone (λ (c' : Condition). 7 ≡ root_condition c') (fold_refine c gs span k)
unfolding fold_refine AllDone root_condition
folded_shape (Condition.Predicate s o ns a kd fs) gs span k = refl
folded_shape (Condition.And s l r) gs span k = tt
folded_shape (Condition.Or s l r) gs span k = tt
folded_shape (Condition.Not s c) gs span k = tt
folded_shape (Condition.Formerly s v c) gs span k = tt
folded_shape (Condition.Previous s v c) gs span k = tt
folded_shape (Condition.Since s l v r) gs span k = tt
folded_shape (Condition.Comparison s op l r) gs span k = tt
folded_shape (Condition.Exists s b c) gs span k = tt
folded_shape (Condition.Tp s v) gs span k = tt
folded_shape (Condition.ConditionCall s c) gs span k = tt
folded_shape (Condition.SigilRef s g n) gs span k = tt
folded_shape (Condition.Refine s o c fs) gs span k = tt

module _ {T : Tapes} {maps : SubstMaps} (B : Bound T maps) where
  abbrev shape_at : Place → ℕ
  shape_at p = shape_in T.definition T.table T.maps p

  -- the condition is of the shape that is read
  abbrev pub HasShape : Place → Condition → Type 0
  HasShape p c = shape_at p ≡ root_condition c

  abbrev pub Shaped : Place → Outcome Condition → Type 0
  Shaped p o = AllDone (HasShape p) o

  -- a `?` comes out as its argument
  param_shape : (span : ℕ) (n : Text) (k : ℕ) {p : Place}
      → Inside T.definition T.maps.definition p (flat_condition (Condition.SigilRef span Sigil.Param n))
      → (q : Place) → q ≡ past (entry 12 span ∷ []) p
      → FoundIs T.call T.maps.call (lookup maps.params maps.args n)
      (find T.definition T.table T.maps (named q (length n)))
      → Shaped p (subst_sigil_ref maps span Sigil.Param n k)
  unfolding subst_sigil_ref arg_for paste_condition charge_paste open_outcome AllDone flat_condition flat_sigil shape_in sigil_shape_in root_of
  param_shape span n k h q e (nothing o x) = rw (o, arg_for) tt
  param_shape span n k {p} h q e (argument (CallArg.ConditionArg c) arg o x a) =
      let j = inside_next (entry 12 span) (text_entry 58 n ∷ []) h in
      rw (o, arg_for)
      (all_bind (HasShape p) _ (charge maps.limit (call_arg_size (CallArg.ConditionArg c)) maps.call_span k)
      (λ u k₁. rw (is_entry h, is_expected j, ← e, x) a.its_root))
  param_shape span n k h q e (argument (CallArg.TermArg t) arg o x a) = rw (o, arg_for) tt
  param_shape span n k h q e (argument (CallArg.WithinArg i) arg o x a) = rw (o, arg_for) tt

  pub shape_right : (c : Condition) (k : ℕ) {p : Place} → Inside T.definition T.maps.definition p (flat_condition c)
      → Shaped p (subst_temporal_condition maps c k)
  unfolding subst_temporal_condition subst_sigil_ref open_outcome AllDone flat_condition flat_sigil shape_in root_condition
  shape_right (Condition.And s l r) k {p} h =
      all_bind (HasShape p) _ (subst_temporal_condition maps l k)
      (λ l' k₁. all_bind (HasShape p) _ (subst_temporal_condition maps r k₁) (λ r' k₂. rw (is_entry h)))
  shape_right (Condition.Or s l r) k {p} h =
      all_bind (HasShape p) _ (subst_temporal_condition maps l k)
      (λ l' k₁. all_bind (HasShape p) _ (subst_temporal_condition maps r k₁) (λ r' k₂. rw (is_entry h)))
  shape_right (Condition.Not s c) k {p} h =
      all_bind (HasShape p) _ (subst_temporal_condition maps c k) (λ c' k₁. rw (is_entry h))
  shape_right (Condition.Formerly s v c) k {p} h =
      all_bind (HasShape p) _ (subst_within maps v s k)
      (λ v' k₁. all_bind (HasShape p) _ (subst_temporal_condition maps c k₁) (λ c' k₂. rw (is_entry h)))
  shape_right (Condition.Previous s v c) k {p} h =
      all_bind (HasShape p) _ (subst_within maps v s k)
      (λ v' k₁. all_bind (HasShape p) _ (subst_temporal_condition maps c k₁) (λ c' k₂. rw (is_entry h)))
  shape_right (Condition.Since s l v r) k {p} h =
      all_bind (HasShape p) _ (subst_within maps v s k)
      (λ v' k₁. all_bind (HasShape p) _ (subst_temporal_condition maps l k₁)
      (λ l' k₂. all_bind (HasShape p) _ (subst_temporal_condition maps r k₂) (λ r' k₃. rw (is_entry h))))
  shape_right (Condition.Predicate s o ns a kd fs) k {p} h =
      all_bind (HasShape p) _ (subst_temporal_fields maps fs s k) (λ fs' k₁. rw (is_entry h))
  shape_right (Condition.Comparison s op l r) k {p} h =
      all_bind (HasShape p) _ (subst_temporal_term maps l s k)
      (λ l' k₁. all_bind (HasShape p) _ (subst_temporal_term maps r s k₁) (λ r' k₂. rw (is_entry h)))
  shape_right (Condition.Tp s v) k {p} h =
      all_bind (HasShape p) _ (subst_binder_slot maps v s k) (λ v' k₁. rw (is_entry h))
  shape_right (Condition.Exists s b c) k {p} h =
      all_bind (HasShape p) _ (subst_binder maps b s k)
      (λ b' k₁. all_bind (HasShape p) _ (subst_temporal_condition maps c k₁) (λ c' k₂. rw (is_entry h)))
  shape_right (Condition.Refine s o c fs) k {p} h =
      all_bind (HasShape p) _ (subst_temporal_condition maps c k)
      (λ c' k₁. all_bind (HasShape p) _ (subst_temporal_fields maps fs s k₁)
      (λ fs' k₂. all_weaken (λ c'' q. rw (is_entry h) q) (fold_refine c' fs' o k₂) (folded_shape c' fs' o k₂)))
  shape_right (Condition.SigilRef s Sigil.Param n) k {p} h =
      param_shape s n k h (past (entry 12 s ∷ []) p) refl
      (B.finds (named (past (entry 12 s ∷ []) p) (length n)) (is_spelled (inside_next (entry 12 s) (text_entry 58 n ∷ []) h)))
  shape_right (Condition.SigilRef s Sigil.Binder n) k h = tt
  shape_right (Condition.ConditionCall s c) k h = tt
