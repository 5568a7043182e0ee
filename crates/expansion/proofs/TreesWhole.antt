-- Two tapes, each with a tree alone on it: the expansion comes to the outcome that its definition has.
-- Assumes nothing.
use Rattle.nodes.specs.declared.Refusal.{Refusal}
use Rattle.messages.specs.declared.Refused.{Refused}
use Rattle.std.proofs.Common.{Option, Some, None, Result, Ok, Err}
use Prim.Native.Nat.{ℕ, ◌≤◌}
use native.Mathlib.Omega.{arith}
use mathlib.Core.Path.{◌≡◌, refl, ◌∙◌}
use mathlib.Core.Bool.{Bool, true, false, ◌||◌}
use mathlib.Core.List.{List, [], ◌∷◌, ◌++◌}
use mathlib.Core.Option.{none, some}
use lib.Dec.{T, leb, leb→le}
use lib.ListN.{length}
use Rattle.grammar.specs.Grammar as grammar
use Rattle.format.specs.Ast.{Condition, Tree, MacroDef}
use Rattle.format.specs.Flat.{flat_condition, flat_tree}
use Rattle.format.specs.Limits.{node_weight, call_weight, deep_condition, deep_tree, fits_depths, too_large_tree}
use Rattle.format.specs.Tape.{condition_root, registry_root}
use Rattle.definition.specs.Check as definition
use Rattle.definition.specs.Check.{contains}
use Rattle.definition.specs.Outcome.{Outcome, pure, proceed, ◌>>◌, open_outcome}
use Rattle.definition.specs.Registry.{reserved_names, build}
use Rattle.definition.specs.Substitute.{check_limits}
use Rattle.definition.specs.Expand.{Registry, unless, expand_whole, expand}
use Rattle.tape.specs.Pick.{pick}
use Rattle.tape.specs.Layouts.{area_layout}
use Rattle.nodes.specs.Node.{on_heading, heading_at, name_at}
use Rattle.tape.specs.Scan.{too_deep}
use Rattle.tape.specs.declared.layout.Layout.{Layout}
use Rattle.tape.specs.declared.layout.Place.{Place}
use Rattle.nodes.specs.declared.Heading.{Heading}
use Rattle.tape.proofs.Located.{Inside, Alone}
use Rattle.tape.proofs.Roots.{nesting_64}
use Rattle.format.proofs.Tests.{and_right}
use Rattle.tape.proofs.Trees.{passes_condition}
use Rattle.area.specs.Area.{Area, area_in, empty_at, fits_area}
use Rattle.messages.specs.Reason.{refused_at, message_of}
use Rattle.messages.specs.declared.Reason.TheVariants.{WithoutMessage, Reserved}
use Rattle.answer.specs.Matches.{VerdictMatches, OutcomeMatches}
use Rattle.nodes.specs.declared.Definition.{Definition}
use Rattle.registry.specs.declared.rows.Row.{Row}
use Rattle.registry.specs.Places.{duplicate_of, and_then_in, get_at, name_check, check_at, build_from_at, build_at, index_at}
use Rattle.registry.proofs.Standing.{indexed_registry, ended_registry}
use Rattle.registry.proofs.Verdicts.{build_matches}
use Rattle.walk_state.specs.Writing as one
use Rattle.walk_state.specs.Writing.{without_message_at}
use Rattle.subst_call.specs.Front.{origin, refuse_too_large_in}
use Rattle.subst_places.proofs.TreesWalk.{Written, written_none}
use Rattle.subst_call.proofs.TreesFront.{too_large_lem, small_fits}
use Rattle.expand_calls.specs.Output.{Reads, Progress, on_work}
use Rattle.expansion.specs.Expansion.{whole_in, on_verdict, reads_of, named_in}
use Rattle.expand_calls.proofs.TreesWalk.{Ready, WalkMatches, writes, refuses}
use Rattle.expand_calls.proofs.TreesResolve.{Settled, settled_of}
use Rattle.expand_walk.proofs.TreesRight.{right}

-- ------------------------------------------------------------------ the names of a registry

module _ (s : List ℕ) (l : Layout) where
  -- a refusal that names the registry's tape alone
  abbrev Own : Result Unit Refused → Type 0
  Own (Ok tt) = Unit {0}
  Own (Err f) = (t t' : List ℕ) (c c' : Layout) → message_of s l t c f.reason ≡ message_of s l t' c' f.reason

  own_then : (v w : Result Unit Refused) → Own v → Own w → Own (and_then_in v w)
  own_then (Ok tt) w h k = k
  own_then (Err f) w h k = h

  own_duplicate : (h : Heading) (f : Option Definition) → Own (duplicate_of h f)
  unfolding message_of
  own_duplicate h None = tt
  own_duplicate h (Some first) = λ t t' c c'. refl

  own_name : (b : Bool) (h : Heading) (f : Option Definition) → Own (pick b (Err (refused_at h.span (Reserved h.name))) (duplicate_of h f))
  unfolding message_of
  own_name true h f = λ t t' c c'. refl
  own_name false h f = own_duplicate h f

  own_check : (seen : List Row) (x : Result (Heading × Place) Refusal) → Own (on_heading (Err (refused_at 0 (WithoutMessage 2))) (λ h params. name_check s l seen h) x)
  unfolding message_of
  own_check seen (Ok (h, next)) =
      own_name (contains reserved_names (name_at s l h.name)) h (get_at s l seen (name_at s l h.name))
  own_check seen (Err r) = λ t t' c c'. refl

  own_build : (seen rest : List Row) → Own (build_from_at s l seen rest)
  unfolding build_from_at check_at
  own_build seen [] = tt
  own_build seen (r ∷ rs) =
      own_then (check_at s l seen r.place) (build_from_at s l (seen ++ r ∷ []) rs) (own_check seen (heading_at s l r.place 60))
      (own_build (seen ++ r ∷ []) rs)

-- a condition has a 54 inside the arguments of 3 others at the most
calls_4 : (nodes calls : ℕ) → T (fits_depths nodes calls) → calls ≤ 4
unfolding fits_depths
calls_4 nodes calls t = leb→le calls 4 (and_right (leb nodes 64) _ t)

-- ------------------------------------------------------------------ how an expansion ends

large_is : (c : Condition) {Q : Area} → Written Q (flat_condition c)
    → (Q.out.overflowed || too_deep Q.bytes (area_layout Q.out.base Q.out.n Q.out.t) grammar.condition) ≡ too_large_tree (Tree.condition c)
unfolding too_large_tree flat_tree deep_tree
large_is c w = too_large_lem (passes_condition c) (omega arith) w

module _ (R : Reads) where
  -- what came of the walk, among the two tapes
  abbrev End : Progress → Outcome Tree → Type 0
  End X o = OutcomeMatches R.registry R.definitions R.condition R.layout X.walk X.work o

  -- 3 if the whole result is too large
  limited : (c : Condition) (k : ℕ) (b : Bool) (end : Place) {Q : Area} → Written Q (flat_condition c)
      → (b ≡ false → fits_area (flat_condition c) ≡ true)
      → let Y : one.Progress = pick b (one.progress (without_message_at 3 0 k) Q.bytes) (one.going end k Q) in
      OutcomeMatches R.registry R.definitions R.condition R.layout Y.walk Y.bytes
      (proceed (check_limits b 0 k) (λ u. pure (Tree.condition c)))
  unfolding OutcomeMatches check_limits open_outcome message_of flat_tree
  limited c k true end w f = (refl, record { its_number = refl; its_span = refl; its_message = refl })
  limited c k false end w f = (refl, w.out, f refl)

  ends : {Also : List ℕ → Condition → Type 0} {P : Area} {X : Progress} {end : Place} {o : Outcome Condition}
      → WalkMatches R Also flat_condition P [] X end o
      → End (on_work (refuse_too_large_in 0 grammar.condition) X)
      (proceed o (λ c. check_limits (too_large_tree (Tree.condition c)) 0 >> pure (Tree.condition c)))
  unfolding refuse_too_large_in open_outcome flat_tree OutcomeMatches
  ends {end = end} (writes {a} {k} Q result e w above ready also) =
      rw (e, large_is a w) (limited a k (too_large_tree (Tree.condition a)) end w (small_fits (Tree.condition a)))
  ends (refuses work result e matches) = rw e (refl, matches)

  module _ (reg : Registry) (S : Settled R reg) (t : Condition) (h : Inside R.condition R.layout origin (flat_condition t))
      (nodes : deep_condition node_weight t ≤ 64) (calls : deep_condition call_weight t ≤ 4) (work result : List ℕ) (room : 65536 ≤ length work)
      (ready : Ready result) where
    whole_outcome_matches : End (whole_in R work result) (expand_whole reg t 0)
    unfolding whole_in expand_whole open_outcome
    whole_outcome_matches =
        ends ((right S 64).condition t 0 {P = area_in (empty_at 0) work} h nodes (omega (arith, calls), room) ready
        (written_none 0 work (omega (arith, room)) (omega arith)))

    -- 10 and 11 before it
    judged : (v : Result Unit Refused) (j : definition.Verdict) → VerdictMatches R.registry R.definitions v j → Own R.registry R.definitions v
        → End (on_verdict (whole_in R work result) work result v) (unless j (expand_whole reg t) 0)
    unfolding VerdictMatches unless OutcomeMatches
    judged (Ok tt) none matches own = whole_outcome_matches
    judged (Ok tt) (some r) matches own = absurd matches
    judged (Err f) none matches own = absurd matches
    judged (Err f) (some r) matches own = (
      refl,
      record {
        its_number = matches.its_number;
        its_span = matches.its_span;
        its_message = own R.condition R.registry R.layout R.definitions ∙ matches.its_message;
      },
    )

pub expansion_matches : (limit file : ℕ) {reg cond : List ℕ} {d c : Layout} (defs : List MacroDef) (t : Condition) → Alone registry_root reg d defs
    → Alone condition_root cond c t
    → (work result : List ℕ) → 65536 ≤ length work → 12288 ≤ length result
    → let X : Progress = named_in reg d 255 cond c limit file work result in OutcomeMatches reg d cond c X.walk X.work (expand limit file defs t)
unfolding registry_root condition_root named_in expand build_at
expansion_matches limit file {reg} {cond} {d} {c} defs t h g work result room ready =
    let indexed = indexed_registry defs h in
    judged (reads_of reg d (index_at reg d 255) cond c limit file) (record { defs = defs; limit = limit; file = file })
    (settled_of h indexed (ended_registry defs h) refl refl) t
    g.inside (nesting_64 (deep_condition node_weight t) (deep_condition call_weight t) g.depths)
    (calls_4 (deep_condition node_weight t) (deep_condition call_weight t) g.depths) work result room ready
    (build_at reg d (index_at reg d 255)) (build defs) (build_matches indexed) (own_build reg d [] (index_at reg d 255))
