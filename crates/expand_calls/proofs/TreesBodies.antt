-- The two kinds of temporal macros, conditions and values: what is substituted for a call of one, and what is known of the outcome.
-- Assumes nothing.
use Prim.Native.Nat.{ℕ, ◌+◌, ◌≤◌}
use native.Mathlib.Omega.{arith}
use mathlib.Core.Path.{◌≡◌, refl, ap, ◌∙◌}
use mathlib.Core.List.{List, [], ◌∷◌}
use mathlib.Core.Bool.{true}
use lib.ListN.{length, get_or}
use Rattle.format.specs.Entry.{Text, Entry}
use Rattle.format.specs.Ast.{Condition, Term, Call, CallArgs, Tree, MacroBody, MacroDef}
use Rattle.format.specs.Flat.{length_args, flat_condition, flat_term, flat_call, flat_tree, flat_body, flat_def, open_flat}
use Rattle.format.specs.Limits.{node_weight, deep_body, too_large_tree}
use Rattle.format.specs.Stands.{Stands}
use Rattle.format.proofs.Stands.{stands_code}
use Rattle.definition.specs.Outcome.{Walk as Walks, proceed, open_outcome}
use Rattle.definition.specs.Substitute.{SubstMaps, maps_of, charge_body, subst_temporal_condition, subst_temporal_term, substitute_temporal_condition, substitute_temporal_value}
use Rattle.tape.specs.declared.layout.Layout.{Layout}
use Rattle.tape.specs.declared.layout.Place.{Place}
use Rattle.nodes.specs.declared.Name.{Name}
use Rattle.tape.proofs.Located.{past, Inside}
use Rattle.area.specs.Area.{Area, fits_area}
use Rattle.subst_call.specs.Front.{call_in}
use Rattle.subst_places.proofs.TreesBound.{root_condition}
use Rattle.subst_call.proofs.TreesFront.{small_fits, limited, body_start, called, call_head, first, T, call_condition, call_value}
use Rattle.subst_places.proofs.TreesWalk.{Written, WalkMatches, AllDone, all_bind}
use Rattle.expand_calls.proofs.TreesWalk.{Nothing}

-- ------------------------------------------------------------------ an outcome fits

condition_fits : (b : Condition) (maps : SubstMaps) (k : ℕ)
    → AllDone (λ (c : Condition). fits_area (flat_condition c) ≡ true) (substitute_temporal_condition b maps k)
unfolding substitute_temporal_condition open_outcome flat_tree
condition_fits b maps k =
    let Fits : Condition → Type 0 = λ c. fits_area (flat_condition c) ≡ true in
    all_bind Fits _ (subst_temporal_condition maps b k) (λ c k₁.
    limited Fits (too_large_tree (Tree.condition c)) maps.call_span k₁ c (small_fits (Tree.condition c)))

value_fits : (b : Term) (maps : SubstMaps) (k : ℕ)
    → AllDone (λ (t : Term). fits_area (flat_term t) ≡ true) (substitute_temporal_value b maps k)
unfolding substitute_temporal_value open_outcome flat_tree
value_fits b maps k =
    let Fits : Term → Type 0 = λ t. fits_area (flat_term t) ≡ true in
    all_bind Fits _ (subst_temporal_term maps b maps.call_span k) (λ t k₁.
    limited Fits (too_large_tree (Tree.term t)) maps.call_span k₁ t (small_fits (Tree.term t)))

-- ------------------------------------------------------------------ the code that it starts with

data Starts (code : ℕ) : List Entry → Type 0 where
  starts : {e : Entry} {es : List Entry} → e.code ≡ code → Starts code (e ∷ es)

starts_condition : (c : Condition) → Starts (root_condition c) (flat_condition c)
unfolding open_flat root_condition
starts_condition (Condition.And s l r) = starts refl
starts_condition (Condition.Or s l r) = starts refl
starts_condition (Condition.Not s c) = starts refl
starts_condition (Condition.Formerly s w c) = starts refl
starts_condition (Condition.Previous s w c) = starts refl
starts_condition (Condition.Since s l w r) = starts refl
starts_condition (Condition.Predicate s o ns a k fs) = starts refl
starts_condition (Condition.Comparison s op l r) = starts refl
starts_condition (Condition.Exists s b c) = starts refl
starts_condition (Condition.Tp s v) = starts refl
starts_condition (Condition.ConditionCall s c) = starts refl
starts_condition (Condition.SigilRef s g n) = starts refl
starts_condition (Condition.Refine s o c fs) = starts refl

first_code : {code base values text : ℕ} {bytes : List ℕ} {es : List Entry} → Starts code es → base ≡ 0 → Stands bytes base values text 0 0 es
    → get_or bytes 0 0 ≡ code
first_code {base = base} {bytes = bytes} (starts e) z h =
    let at : 0 ≡ base + 0 = omega arith in
    ap (λ (i : ℕ). get_or bytes i 0) at ∙ (stands_code h).1 ∙ e

-- the result buffer starts with the code of the condition that a call became
abbrev pub Rooted : List ℕ → Condition → Type 0
Rooted result c = get_or result 0 0 ≡ root_condition c

-- ------------------------------------------------------------------ the kinds

-- Bodies `b : A` that are substituted by `become`: the code of substitution does it, and the outcome, which fits an area at the start
-- of the result buffer, is `Also`.
pub record Kind {A : Type 0} (Also : List ℕ → A → Type 0) (flat : A → List Entry) (body : A → MacroBody) (become : A → SubstMaps → Walks A)
    : Type 0 where
  pub substitutes : (dm : MacroDef) (span : ℕ) (name : Text) (args : CallArgs) (limit file : ℕ) (located : Name) (def call : List ℕ)
      (l c : Layout) (p q : Place) (h : Inside def l p (flat_def dm)) (g : Inside call c q (flat_call (Call.MacroCall span name args)))
      → length_args args ≡ length dm.params → length dm.params ≤ 16 → (b : A) (k : ℕ) (P : Area)
      → Inside def l (body_start dm h) (flat_body (body b)) → deep_body node_weight (body b) ≤ 64 → Written P []
      → WalkMatches (T dm span name args limit file located h g) flat P []
      (call_in def l call c limit file (called dm h (body b)) (call_head dm span name args limit file located h g)
      (first dm span name args limit file located h g) k P.out P.bytes)
      (past (flat_body (body b)) (body_start dm h))
      (proceed (charge_body limit (body b) span k) (λ u. become b (maps_of dm limit file (Call.MacroCall span name args))))
  pub fits : (b : A) (maps : SubstMaps) (k : ℕ) → AllDone (λ (a : A). fits_area (flat a) ≡ true) (become b maps k)
  pub also : (a : A) (Q : Area) → Q.out.base ≡ 0 → fits_area (flat a) ≡ true → Written Q (flat a) → Also Q.bytes a

pub conditions : Kind Rooted flat_condition (λ b. MacroBody.TemporalCondition b) substitute_temporal_condition
unfolding deep_body
conditions =
    record {
      substitutes = λ dm span name args limit file located def call l c p q h g same few b k P i d w.
          call_condition dm span name args limit file located h g same few b k i d w;
      fits = condition_fits;
      also = λ c Q base fits w. first_code (starts_condition c) base (w.out.holds fits).stands;
    }

pub values : Kind Nothing flat_term (λ b. MacroBody.TemporalValue b) substitute_temporal_value
unfolding deep_body
values =
    record {
      substitutes = λ dm span name args limit file located def call l c p q h g same few b k P i d w.
          call_value dm span name args limit file located h g same few b k i d w;
      fits = value_fits;
      also = λ t Q base fits w. tt;
    }
