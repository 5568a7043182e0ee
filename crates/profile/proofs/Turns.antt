-- A turn of the loop over the entries of a layout.
-- Assumes nothing.
use Prim.Native.Nat.{ℕ, suc, ◌+◌, ◌-◌, ◌≤◌, ◌<◌}
use mathlib.Core.Path.{◌≡◌, refl, sym, ap, ◌∙◌}
use mathlib.Core.Bool.{Bool, true, false, not, ◌&&◌}
use mathlib.Core.List.{List, [], ◌∷◌}
use mathlib.Core.Option.{none, some}
use Rattle.std.proofs.Common.{Option, Some, None}
use Rattle.profile.specs.declared.rules.Rule.{Rule}
use Rattle.profile.specs.declared.rules.Rule.TheVariants.{NoAggregate, SixteenNodes, WithinDay}
use native.Mathlib.Omega.{arith}
use borrow.Author.Tests.{leb-false}
use lib.Dec.{leb, eqb}
use Rattle.format.specs.Entry.{entry}
use Rattle.format.specs.Limits.{is_node, weigh}
use Rattle.definition.specs.Outcome.{refusal, open_outcome}
use Rattle.definition.specs.Answers.{Answer, open_answers}
use Rattle.definition.specs.Check.{Verdict}
use Rattle.definition.specs.Profile.{within_day}
use Rattle.tape.specs.Layouts.{holds}
use Rattle.tape.specs.Pick.{pick}
use Rattle.tape.specs.declared.layout.Layout.{Layout}
use Rattle.answer.specs.Matches.{ended}
use Rattle.profile.specs.Entries.{head_at, heads_at, broken_by, broken_rule, profile_heads, profile_all, profile_in, profiled}
use Rattle.profile.specs.Spans.{is_condition, spans_after}
use Rattle.profile.proofs.Lists.{condition_node}
use Rattle.profile.specs.declared.around.Head.{Head}

-- success is answered as a refusal with number 0 is
pub passes_answered : profiled none ≡ profiled (some (refusal 0 0 []))
unfolding ended open_answers open_outcome
passes_answered = refl

-- a slice that holds the layout, or not
module _ (s : List ℕ) (l : Layout) {b : Bool} (is : b ≡ holds s l) where
  pub not_held : {a : Answer} → a ≡ profiled (some (refusal 0 0 [])) → b ≡ false → a ≡ profiled (profile_in s l)
  unfolding profile_in
  not_held e f = let n : holds s l ≡ false = sym is ∙ f in e ∙ sym passes_answered ∙ rw n

  pub all_held : b ≡ true → profile_all s l ≡ profile_in s l
  unfolding profile_in
  all_held t = let e : holds s l ≡ true = sym is ∙ t in rw e refl

-- an entry that breaks no rule is no seventeenth node
pub room : (nodes : ℕ) (e : Head) → nodes ≤ 16 → broken_by nodes e ≡ None → nodes + weigh (is_node e.code) ≤ 16
unfolding broken_by weigh
room nodes e h = go (eqb e.code 30) (is_node e.code) (leb 16 nodes) (leb-false 16 nodes)
  where
    go : (a b full : Bool) → (full ≡ false → nodes < 16)
        → pick a (Some NoAggregate) (pick (b && full) (Some SixteenNodes) (pick (not (within_day (entry e.code e.value))) (Some WithinDay) None)) ≡ None
        → nodes + weigh b ≤ 16
    go true b full q k = absurd cc
    go false true true q k = absurd cc
    go false true false q k = omega (arith, q refl)
    go false false full q k = omega arith

-- nor one for whose items there is no room
pub shallow_enough : (nodes depth : ℕ) (e : Head) → nodes ≤ 16 → depth ≤ nodes + 1 → broken_by nodes e ≡ None → is_condition e.code ≡ true → depth < 17
unfolding weigh
shallow_enough nodes depth e h k q c =
    let node : weigh (is_node e.code) ≡ 1 = rw (condition_node e.code c) refl in
    omega (arith, k, node, room nodes e h q)

module _ (s : List ℕ) (l : Layout) (i n : ℕ) where
  heads_step : i < n → heads_at s l i (n - i) ≡ head_at s l i ∷ heads_at s l (i + 1) (n - (i + 1))
  unfolding heads_at
  heads_step h = let e : n - i ≡ suc (n - (i + 1)) = omega arith in rw e refl

  pub no_more : (nodes : ℕ) (spans : List ℕ) → n ≤ i → none ≡ profile_heads nodes spans (heads_at s l i (n - i))
  unfolding heads_at profile_heads
  no_more nodes spans h = let e : n - i ≡ 0 = omega arith in rw e refl

  module _ (nodes : ℕ) (spans : List ℕ) {e : Head} {broken : Option Rule} (h : i < n) (head : e ≡ head_at s l i) (rule : broken ≡ broken_by nodes e) where
    pub goes_on : {nodes' : ℕ} {spans' : List ℕ} → broken ≡ None → nodes' ≡ nodes + weigh (is_node e.code) → spans' ≡ spans_after e spans
        → profile_heads nodes' spans' (heads_at s l (i + 1) (n - (i + 1))) ≡ profile_heads nodes spans (heads_at s l i (n - i))
    unfolding profile_heads
    goes_on z p q =
        let kept : broken_by nodes (head_at s l i) ≡ None = rw (← head) (sym rule ∙ z) in
        rw (heads_step h, kept, p, q, head) refl

    pub stops : {r : Rule} → broken ≡ Some r → broken_rule r spans ≡ profile_heads nodes spans (heads_at s l i (n - i))
    unfolding profile_heads
    stops {r} z =
        let is : broken_by nodes (head_at s l i) ≡ Some r = rw (← head) (sym rule ∙ z) in
        rw (heads_step h, is) refl

  -- what the loop hands on, and what it answers
  module _ (nodes : ℕ) (spans : List ℕ) {v : Verdict} (left : profile_heads nodes spans (heads_at s l i (n - i)) ≡ v) where
    pub went_on : {e : Head} {broken : Option Rule} {nodes' : ℕ} {spans' : List ℕ} → e ≡ head_at s l i → broken ≡ broken_by nodes e → broken ≡ None
        → nodes' ≡ nodes + weigh (is_node e.code) → spans' ≡ spans_after e spans → i < n
        → profile_heads nodes' spans' (heads_at s l (i + 1) (n - (i + 1))) ≡ v
    went_on head rule z p q h = goes_on nodes spans h head rule z p q ∙ left

    pub stopped : {a : Answer} {e : Head} {broken : Option Rule} {r : Rule} → e ≡ head_at s l i → broken ≡ broken_by nodes e → broken ≡ Some r
        → a ≡ profiled (broken_rule r spans) → i < n → a ≡ profiled v
    stopped head rule z is h = is ∙ ap profiled (stops nodes spans h head rule z ∙ left)

    pub ended_well : {a : Answer} → a ≡ profiled (some (refusal 0 0 [])) → n ≤ i → a ≡ profiled v
    ended_well is h = is ∙ sym passes_answered ∙ ap profiled (no_more nodes spans h ∙ left)
