-- Two tapes, each with a tree alone on it: the substitution comes to the outcome that its definition has.
-- Assumes nothing.
use Prim.Native.Nat.{ℕ, ◌≤◌}
use native.Mathlib.Omega.{arith}
use mathlib.Core.Path.{◌≡◌, refl}
use mathlib.Core.Logic.{◌≢◌, ◌⊎◌, inl, inr}
use mathlib.Core.List.{List, []}
use mathlib.Core.Bool.{true}
use lib.ListN.{length}
use Rattle.format.specs.Ast.{Condition, Term, Call, Tree, MacroBody, MacroDef}
use Rattle.format.specs.Flat.{length_args, flat_condition, flat_term, flat_tree, flat_call, flat_def}
use Rattle.format.specs.Limits.{node_weight, call_weight, deep_body, too_large_tree}
use Rattle.format.specs.Tape.{definition_root, call_root}
use Rattle.definition.specs.Outcome.{Outcome, open_outcome}
use Rattle.definition.specs.Substitute.{
  maps_of,
  charge_body,
  check_arity,
  subst_temporal_condition,
  subst_temporal_term,
  substitute_temporal_condition,
  substitute_temporal_value,
  substitute_body,
  substitute,
}
use Rattle.tape.specs.declared.layout.Layout.{Layout}
use Rattle.tape.specs.declared.layout.Place.{Place}
use Rattle.tape.proofs.Located.{Inside, Alone}
use Rattle.tape.proofs.Roots.{few_params_lem, nesting_64}
use Rattle.area.specs.Area.{Area, fits_area}
use Rattle.walk_state.specs.Writing.{Progress}
use Rattle.subst_places.specs.Parameters.{Tapes}
use Rattle.answer.specs.Matches.{OutcomeMatches}
use Rattle.subst_call.specs.Front.{origin, tapes_in}
use Rattle.subst_places.proofs.TreesWalk.{WalkMatches, writes, refuses, AllDone, all_bind, all_map, all_of}
use Rattle.subst_call.proofs.TreesFront.{small_fits, limited, tapes_cedar, cedar_refusal_matches, tapes_matches}

-- ------------------------------------------------------------------ a result fits

module _ (limit file : ℕ) (dm : MacroDef) where
  abbrev Fits : Tree → Type 0
  Fits t = fits_area (flat_tree t) ≡ true

  body_fits : (b : MacroBody) (c : Call) → AllDone Fits (substitute_body limit file dm b c 0)
  unfolding substitute_body substitute_temporal_condition substitute_temporal_value open_outcome AllDone flat_tree
  body_fits MacroBody.Cedar (Call.MacroCall span name args) = tt
  body_fits (MacroBody.TemporalCondition b) (Call.MacroCall span name args) =
      let maps = maps_of dm limit file (Call.MacroCall span name args) in
      all_bind Fits _ (check_arity dm (length_args args) span 0) (λ u k.
      all_bind Fits _ (charge_body limit (MacroBody.TemporalCondition b) span k) (λ u k₁.
      all_map (λ (c : Condition). fits_area (flat_condition c) ≡ true) Fits (λ c. Tree.condition c)
      (substitute_temporal_condition b maps k₁) (λ c e. e)
      (all_bind (λ (c : Condition). fits_area (flat_condition c) ≡ true) _ (subst_temporal_condition maps b k₁) (λ c k₂.
      limited (λ (c : Condition). fits_area (flat_condition c) ≡ true) (too_large_tree (Tree.condition c)) maps.call_span k₂ c
      (small_fits (Tree.condition c))))))
  body_fits (MacroBody.TemporalValue b) (Call.MacroCall span name args) =
      let maps = maps_of dm limit file (Call.MacroCall span name args) in
      all_bind Fits _ (check_arity dm (length_args args) span 0) (λ u k.
      all_bind Fits _ (charge_body limit (MacroBody.TemporalValue b) span k) (λ u k₁.
      all_map (λ (t : Term). fits_area (flat_term t) ≡ true) Fits (λ t. Tree.term t) (substitute_temporal_value b maps k₁) (λ t e. e)
      (all_bind (λ (t : Term). fits_area (flat_term t) ≡ true) _ (subst_temporal_term maps b maps.call_span k₁) (λ t k₂.
      limited (λ (t : Term). fits_area (flat_term t) ≡ true) (too_large_tree (Tree.term t)) maps.call_span k₂ t (small_fits (Tree.term t))))))

-- ------------------------------------------------------------------ how a substitution ends

is_cedar : (b : MacroBody) → (b ≡ MacroBody.Cedar) ⊎ (b ≢ MacroBody.Cedar)
is_cedar MacroBody.Cedar = inl refl
is_cedar (MacroBody.TemporalCondition c) = inr λ e. let z : ◌≡◌ {A = ℕ} 0 1 = cc in omega arith
is_cedar (MacroBody.TemporalValue t) = inr λ e. let z : ◌≡◌ {A = ℕ} 0 1 = cc in omega arith

pub substitution_matches : (limit file : ℕ) {def call : List ℕ} {l c : Layout} (dm : MacroDef) (cl : Call) → Alone definition_root def l dm
    → Alone call_root call c cl
    → (bytes : List ℕ) → 12288 ≤ length bytes
    → let X : Progress = tapes_in def l call c limit file bytes in OutcomeMatches def l call c X.walk X.bytes (substitute limit file dm cl)
unfolding definition_root call_root substitute substitute_body OutcomeMatches open_outcome
substitution_matches limit file {def} {call} {l} {c} dm (Call.MacroCall span name args) h g bytes room = by_kind (is_cedar dm.body)
  where
    d : Inside def l origin (flat_def dm)
    d = h.inside

    i : Inside call c origin (flat_call (Call.MacroCall span name args))
    i = g.inside

    whole : l.entries ≡ length (flat_def dm)
    whole = h.entries_are

    go : {T : Tapes} {P : Area} {X : Progress} {end : Place} (o : Outcome Tree) → substitute limit file dm (Call.MacroCall span name args) ≡ o
        → WalkMatches T flat_tree P [] X end o → OutcomeMatches T.definition T.maps.definition call c X.walk X.bytes o
    go o e (writes Q x w v) = rw x (refl, w.out, all_of (Fits limit file dm) (body_fits limit file dm dm.body (Call.MacroCall span name args)) e)
    go o e (refuses after x same v) = rw x (refl, same call c)

    by_kind : (dm.body ≡ MacroBody.Cedar) ⊎ (dm.body ≢ MacroBody.Cedar)
        → OutcomeMatches def l call c (tapes_in def l call c limit file bytes).walk (tapes_in def l call c limit file bytes).bytes
        (substitute limit file dm (Call.MacroCall span name args))
    by_kind (inl e) = rw (tapes_cedar dm span name args limit file d i whole bytes e, e) (refl, cedar_refusal_matches dm span name args limit file d i whole)
    by_kind (inr n) =
        go (substitute limit file dm (Call.MacroCall span name args)) refl
        (tapes_matches dm span name args limit file d i whole n (few_params_lem dm h.few)
        (nesting_64 (deep_body node_weight dm.body) (deep_body call_weight dm.body) h.depths) bytes room)
