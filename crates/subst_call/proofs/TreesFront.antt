-- One definition and one call, where they stand: the front of a substitution does what the tree's definition says.
-- Assumes nothing.
use Rattle.std.proofs.Common.{Some, Ok}
use Prim.Native.Nat.{ℕ, ◌%◌, ◌^◌, ◌≤◌, ◌<◌}
use native.Mathlib.Omega.{arith}
use mathlib.Core.Path.{◌≡◌, refl, sym, ap}
use mathlib.Core.Logic.{◌≢◌}
use mathlib.Core.List.{List, [], ◌∷◌}
use mathlib.Core.Bool.{Bool, true, false, not, ◌||◌}
use lib.Dec.{eqb}
use lib.ListN.{length, replicate}
use Rattle.subst_state.specs.declared.maps.Argument.{Argument}
use borrow.Author.Tests.{eqb-true, not-false}
use Rattle.grammar.specs.Grammar as grammar
use Rattle.format.specs.Entry.{Text, Entry, entry}
use Rattle.format.specs.Ast.{Condition, Term, Call, CallArgs, Tree, MacroBody, MacroDef}
use Rattle.format.specs.Flat.{length_args, flat_condition, flat_term, flat_call, flat_tree, flat_params, flat_body, flat_def}
use Rattle.format.specs.Limits.{node_weight, call_weight, deep_condition, deep_term, deep_tree, deep_body, fits_all, too_large_tree}
use Rattle.format.proofs.Behind.{args_count}
use Rattle.definition.specs.Outcome.{refusal, Outcome, pure, proceed, ◌>>◌, open_outcome}
use Rattle.definition.specs.Messages.{cedar_in_condition, argument_count}
use Rattle.definition.specs.Size.{size, body_size}
use Rattle.definition.specs.Substitute.{
  SubstMaps,
  maps_of,
  charge,
  charge_body,
  check_arity,
  check_limits,
  substitute_temporal_condition,
  substitute_temporal_value,
  substitute_body,
  substitute,
}
use Rattle.buffer.proofs.Decides.{cases}
use Rattle.tape.specs.Pick.{pick}
use Rattle.tape.specs.Layouts.{area_layout}
use Rattle.nodes.specs.Node.{body_at}
use Rattle.tape.specs.Scan.{too_deep}
use Rattle.tape.specs.declared.layout.Layout.{Layout}
use Rattle.tape.specs.declared.layout.Place.{Place}
use Rattle.nodes.specs.declared.BodyNode.{BodyNode}
use Rattle.nodes.specs.declared.BodyNode.TheVariants as body
use Rattle.nodes.specs.declared.Heading.{Heading}
use Rattle.nodes.specs.declared.Name.{Name}
use Rattle.tape.proofs.Located.{past, past_at, Inside, inside_size}
use Rattle.tape.proofs.Passing.{Passes}
use Rattle.nodes.proofs.Placed.{heading_entries, parts_call, parts_def, parts_body, past_params}
use Rattle.tape.proofs.Runs.{deep_run}
use Rattle.tape.proofs.Trees.{passes_condition, passes_term}
use Rattle.format.proofs.Tests.{and_left, is_true, from_true}
use Rattle.area.specs.Area.{Area, area_in, empty_at, fits_area}
use Rattle.area.proofs.Within.{within_refl}
use Rattle.messages.specs.Reason.{refused_at, message_of}
use Rattle.messages.specs.declared.Reason.TheVariants.{WithoutMessage, CedarInCondition}
use Rattle.answer.specs.Matches.{RefusalMatches}
use Rattle.walk_state.specs.Writing.{Progress, progress, state, going, without_message_at}
use Rattle.subst_places.specs.Parameters.{Tapes, tapes}
use Rattle.subst_call.specs.Front.{
  macro_from,
  macro_at,
  wrong_count,
  charge_body_in,
  refuse_too_large_in,
  temporal_condition_in,
  temporal_value_in,
  substitute_body_in,
  maps_for,
  table_of,
  no_argument,
  call_in,
  origin,
  cedar_at,
  counted_in,
  on_kind,
  tapes_in,
}
use Rattle.subst_walk.specs.Walkers.{walkers}
use Rattle.subst_call.specs.declared.Macro.{Macro}
use Rattle.subst_places.proofs.TreesWalk.{Written, written_none, written_inside, RefusalMatchesIn, WalkMatches, writes, stops, starting, ending, reaching, bind_matches, map_matches, regrouped, AllDone}
use Rattle.subst_places.proofs.TreesBound.{Bound}
use Rattle.subst_places.proofs.TreesPlaces.{charged_matches}
use Rattle.subst_walk.proofs.TreesRight.{right}
use Rattle.subst_places.proofs.TreesTable.{bound_of}

-- ------------------------------------------------------------------ the largest figures

-- a tree that was written alone is too large, or has overflowed, exactly where the definition says so
pub too_large_lem : {P : Area} {es : List Entry} {sort : ℕ} {d : (ℕ → ℕ) → ℕ} → Passes (sort ∷ []) es d true → sort < 32 → Written P es
    → (P.out.overflowed || too_deep P.bytes (area_layout P.out.base P.out.n P.out.t) sort) ≡ not (fits_all es (d node_weight) (d call_weight))
unfolding fits_all
too_large_lem {P} {es} {sort} {d} b h w =
    cases (fits_area es)
    (λ f. rw (w.out.overflows, f, deep_run b h (written_inside w f b.texted).run))
    (λ f. rw (w.out.overflows, f))

pub small_fits : (t : Tree) → too_large_tree t ≡ false → fits_area (flat_tree t) ≡ true
unfolding too_large_tree fits_all
small_fits t e = is_true (and_left (fits_area (flat_tree t)) _
    (from_true (not-false (fits_all (flat_tree t) (deep_tree node_weight t) (deep_tree call_weight t)) e)))

pub limited : {A : Type 0} (Q : A → Type 0) (large : Bool) (span k : ℕ) (a : A) → (large ≡ false → Q a)
    → AllDone Q (proceed (check_limits large span k) (λ u. pure a))
unfolding check_limits open_outcome AllDone
limited Q true span k a h = tt
limited Q false span k a h = h refl

module _ (T : Tapes) where
  number_refusal_matches : (number span : ℕ) → RefusalMatchesIn T (refused_at span (WithoutMessage number)) (refusal number span [])
  unfolding message_of
  number_refusal_matches number span = λ t c. record { its_number = refl; its_span = refl; its_message = refl }

  -- "then 3 with call span if the result is too large"
  too_large_matches : {A : Type 0} {flat : A → List Entry} (large : A → Bool) (span sort : ℕ)
      → ((a : A) (P : Area) → Written P (flat a)
      → (P.out.overflowed || too_deep P.bytes (area_layout P.out.base P.out.n P.out.t) sort) ≡ large a)
      → {P : Area} {X : Progress} {end : Place} {o : Outcome A} → WalkMatches T flat P [] X end o
      → WalkMatches T flat P [] (refuse_too_large_in span sort X) end (proceed o (λ a. check_limits (large a) span >> pure a))
  unfolding refuse_too_large_in open_outcome check_limits
  too_large_matches {A} {flat} large span sort same {end = end} h =
      bind_matches T (refuse_too_large_in span sort) (λ r k bytes. refl) _ h (λ a k Q e x. rw (same a Q x) (go (large a) a k x))
    where
      go : (b : Bool) (a : A) (k : ℕ) {Q : Area} → Written Q (flat a)
          → WalkMatches T flat Q [] (pick b (progress (without_message_at 3 span k) Q.bytes) (going end k Q)) end
          (proceed (check_limits b span k) (λ u. pure a))
      go true a k x = stops T (number_refusal_matches 3 span)
      go false a k {Q} x = writes Q refl x within_refl

module _ {T : Tapes} {maps : SubstMaps} (B : Bound T maps) where
  condition_matches : (c : Condition) (k : ℕ) {p : Place} {P : Area} → Inside T.definition T.maps.definition p (flat_condition c)
      → deep_condition node_weight c ≤ 64
      → Written P [] → WalkMatches T flat_condition P [] (temporal_condition_in T (going p k P)) (past (flat_condition c) p)
      (substitute_temporal_condition c maps k)
  unfolding temporal_condition_in substitute_temporal_condition open_outcome too_large_tree flat_tree deep_tree
  condition_matches c k {p} {P} h d w =
      starting T (ap (λ (s : ℕ). refuse_too_large_in s grammar.condition ((walkers T 64).condition (going p k P))) B.its_span)
      (too_large_matches T (λ c. too_large_tree (Tree.condition c)) maps.call_span grammar.condition (λ c Q x. too_large_lem (passes_condition c) (omega arith) x)
      ((right B 64).condition c k h d w))

  value_matches : (t : Term) (k : ℕ) {p : Place} {P : Area} → Inside T.definition T.maps.definition p (flat_term t)
      → deep_term node_weight t ≤ 64
      → Written P [] → WalkMatches T flat_term P [] (temporal_value_in T (going p k P)) (past (flat_term t) p) (substitute_temporal_value t maps k)
  unfolding temporal_value_in substitute_temporal_value open_outcome too_large_tree flat_tree deep_tree
  value_matches t k {p} {P} h d w =
      starting T (ap (λ (s : ℕ). refuse_too_large_in s grammar.term ((walkers T 64).term s (going p k P))) B.its_span)
      (too_large_matches T (λ t. too_large_tree (Tree.term t)) maps.call_span grammar.term (λ t Q x. too_large_lem (passes_term t) (omega arith) x)
      ((right B 64).term t maps.call_span k h d w))

  -- the size of a body is charged
  charge_body_lem : (es : List Entry) (k : ℕ) {p : Place} {P : Area} → Inside T.definition T.maps.definition p es → Written P []
      → WalkMatches T (λ (u : Unit {0}). []) P [] (progress (charge_body_in T.definition T.maps (past es p).at (state p P.out k)) P.bytes) p
      (charge maps.limit (size es) maps.call_span k)
  unfolding charge_body_in
  charge_body_lem es k {p} h w = rw (inside_size h) (charged_matches B (size es) p k w)

-- ------------------------------------------------------------------ a body

-- the entry that announces a body, what it announces, and the trees of its result
abbrev pub body_head : MacroBody → Entry
body_head MacroBody.Cedar = entry 61 0
body_head (MacroBody.TemporalCondition c) = entry 62 0
body_head (MacroBody.TemporalValue t) = entry 63 0

abbrev pub kind_of : MacroBody → BodyNode
kind_of MacroBody.Cedar = body.Cedar
kind_of (MacroBody.TemporalCondition c) = body.Condition
kind_of (MacroBody.TemporalValue t) = body.Value

body_at_lem : {s : List ℕ} {l : Layout} {p : Place} (b : MacroBody) → Inside s l p (flat_body b)
    → body_at s l p ≡ Ok (kind_of b, past (body_head b ∷ []) p)
unfolding flat_body
body_at_lem MacroBody.Cedar h = parts_body MacroBody.Cedar h
body_at_lem (MacroBody.TemporalCondition c) h = (parts_body (MacroBody.TemporalCondition c) h).read
body_at_lem (MacroBody.TemporalValue t) h = (parts_body (MacroBody.TemporalValue t) h).read

-- ------------------------------------------------------------------ a definition and a call

module _ (dm : MacroDef) {def : List ℕ} {l : Layout} {p : Place} (h : Inside def l p (flat_def dm)) where
  abbrev pub def_head : Heading
  def_head = record { span = dm.span; name = (parts_def dm h).its_name; count = length dm.params }

  abbrev pub params : Place
  params = past (heading_entries 60 dm.span dm.name (length dm.params)) p

  abbrev pub body_start : Place
  body_start = past (flat_params dm.params) params

  -- the macro, if it has this body
  abbrev pub called : MacroBody → Macro
  called b =
      record {
        definition = record { heading = def_head; params = params; end = (past (flat_body b) body_start).at };
        kind = kind_of b;
        body = past (body_head b ∷ []) body_start;
      }

  -- the body ends where the definition ends
  pub macro_from_lem : {end : ℕ} → end ≡ (past (flat_def dm) p).at → macro_from def l def_head params end ≡ Some (called dm.body)
  macro_from_lem e =
      let d = (parts_def dm h).parts in
      rw (past_params dm.params d.runs.first, body_at_lem dm.body d.runs.second, e, d.runs.ends)

  pub macro_at_lem : l.entries ≡ (past (flat_def dm) p).at → macro_at def l p ≡ Some (called dm.body)
  unfolding macro_at
  macro_at_lem e = rw (parts_def dm h).parts.read (macro_from_lem e)

-- The head may have its name elsewhere: expansion's stands on the condition's tape, and the call in the work buffer.
module _ (dm : MacroDef) (span : ℕ) (name : Text) (args : CallArgs) (limit file : ℕ) (located : Name) {def call : List ℕ} {l c : Layout}
    {p q : Place} (h : Inside def l p (flat_def dm)) (g : Inside call c q (flat_call (Call.MacroCall span name args))) where
  abbrev pub call_head : Heading
  call_head = record { span = span; name = located; count = length_args args }

  abbrev pub first : Place
  first = past (heading_entries 54 span name (length_args args)) q

  abbrev pub T : Tapes
  T = tapes def call (table_of call c call_head first) (maps_for l c limit file (called dm h dm.body) call_head)

  abbrev pub maps : SubstMaps
  maps = maps_of dm limit file (Call.MacroCall span name args)

  module _ (same : length_args args ≡ length dm.params) (few : length dm.params ≤ 16) where
    its_bound : Bound T maps
    its_bound = bound_of dm span name args limit file (replicate 16 no_argument) h g same
        (let z : length {A = Argument} (replicate 16 no_argument) ≡ 16 = refl in omega arith)

    -- what a call becomes: the body's charge, the walk, and 3
    pub call_condition : (b : Condition) (k : ℕ) {P : Area} → Inside def l (body_start dm h) (flat_body (MacroBody.TemporalCondition b))
        → deep_condition node_weight b ≤ 64 → Written P []
        → WalkMatches T flat_condition P []
        (call_in def l call c limit file (called dm h (MacroBody.TemporalCondition b)) call_head first k P.out P.bytes)
        (past (flat_body (MacroBody.TemporalCondition b)) (body_start dm h))
        (proceed (charge_body limit (MacroBody.TemporalCondition b) span k) (λ u. substitute_temporal_condition b maps))
    unfolding call_in substitute_body_in temporal_condition_in refuse_too_large_in charge_body body_size maps_of flat_body past
    call_condition b k i d w =
        let r = (parts_body (MacroBody.TemporalCondition b) i).runs in
        ending T r.ends
        (bind_matches T (temporal_condition_in T) (λ f k bytes. ap (refuse_too_large_in span 1) ((right its_bound 64).strict_condition f k bytes)) _
        (charge_body_lem its_bound (flat_condition b) k r.first w)
        (λ u k₁ Q e x. condition_matches its_bound b k₁ r.first d x))

    pub call_value : (b : Term) (k : ℕ) {P : Area} → Inside def l (body_start dm h) (flat_body (MacroBody.TemporalValue b))
        → deep_term node_weight b ≤ 64 → Written P []
        → WalkMatches T flat_term P []
        (call_in def l call c limit file (called dm h (MacroBody.TemporalValue b)) call_head first k P.out P.bytes)
        (past (flat_body (MacroBody.TemporalValue b)) (body_start dm h))
        (proceed (charge_body limit (MacroBody.TemporalValue b) span k) (λ u. substitute_temporal_value b maps))
    unfolding call_in substitute_body_in temporal_value_in refuse_too_large_in charge_body body_size maps_of flat_body past
    call_value b k i d w =
        let r = (parts_body (MacroBody.TemporalValue b) i).runs in
        ending T r.ends
        (bind_matches T (temporal_value_in T) (λ f k bytes. ap (refuse_too_large_in span 2) ((right its_bound 64).strict_term span f k bytes)) _
        (charge_body_lem its_bound (flat_term b) k r.first w)
        (λ u k₁ Q e x. value_matches its_bound b k₁ r.first d x))

  -- ---------------------------------------------------------------- another number of arguments

  pub count_refusal_matches : length dm.params ≤ 16
      → RefusalMatchesIn T (wrong_count (def_head dm h) call_head) (refusal 34 span (argument_count dm.name (length dm.params) (length_args args)))
  unfolding message_of
  count_refusal_matches few t k =
      let run = (parts_call span name args g).parts.runs.first.run in
      let wanted : length dm.params % 2 ^ 32 ≡ length dm.params = omega arith in
      let got : length_args args % 2 ^ 32 ≡ length_args args = omega (arith, args_count args, run.entries_left, run.held.entries_most) in
      record { its_number = refl; its_span = refl; its_message = rw ((parts_def dm h).spelled, wanted, got) }

  module _ (few : length dm.params ≤ 16) (bytes : List ℕ) (w : Written (area_in (empty_at 0) bytes) []) where
    counted_matches : (b : MacroBody) → b ≢ MacroBody.Cedar → Inside def l (body_start dm h) (flat_body b) → deep_body node_weight b ≤ 64
        → WalkMatches T flat_tree (area_in (empty_at 0) bytes) []
        (on_kind call_head (counted_in def l call c limit file (called dm h b) call_head first bytes) bytes (kind_of b))
        (past (flat_body b) (body_start dm h)) (substitute_body limit file dm b (Call.MacroCall span name args) 0)
    unfolding substitute_body check_arity counted_in open_outcome deep_body flat_tree
    counted_matches MacroBody.Cedar n i d = absurd (n refl)
    counted_matches (MacroBody.TemporalCondition b) n i d =
        cases (eqb (length dm.params) (length_args args))
        (λ e. rw (e, check_arity)
        (reaching T (regrouped (charge_body limit (MacroBody.TemporalCondition b) span 0) (λ u. substitute_temporal_condition b maps) _)
        (map_matches T (λ t. Tree.condition t) (λ t k e. refl)
        (call_condition (sym (eqb-true (length dm.params) (length_args args) e)) few b 0 i d w))))
        (λ e. rw (e, check_arity) (stops T (count_refusal_matches few)))
    counted_matches (MacroBody.TemporalValue b) n i d =
        cases (eqb (length dm.params) (length_args args))
        (λ e. rw (e, check_arity)
        (reaching T (regrouped (charge_body limit (MacroBody.TemporalValue b) span 0) (λ u. substitute_temporal_value b maps) _)
        (map_matches T (λ t. Tree.term t) (λ t k e. refl)
        (call_value (sym (eqb-true (length dm.params) (length_args args) e)) few b 0 i d w))))
        (λ e. rw (e, check_arity) (stops T (count_refusal_matches few)))

-- ------------------------------------------------------------------ the two tapes

module _ (dm : MacroDef) (span : ℕ) (name : Text) (args : CallArgs) (limit file : ℕ) {def call : List ℕ} {l c : Layout}
    (h : Inside def l origin (flat_def dm)) (g : Inside call c origin (flat_call (Call.MacroCall span name args)))
    (whole : l.entries ≡ length (flat_def dm)) where
  its_end : l.entries ≡ (past (flat_def dm) origin).at
  its_end = omega (arith, whole, past_at (flat_def dm) origin)

  abbrev pub its_name : Name
  its_name = (parts_call span name args g).its_name

  -- 31 alone names the call's tape
  pub tapes_cedar : (bytes : List ℕ) → dm.body ≡ MacroBody.Cedar
      → tapes_in def l call c limit file bytes ≡ progress (cedar_at (call_head dm span name args limit file its_name h g)) bytes
  unfolding tapes_in
  tapes_cedar bytes e =
      let head = call_head dm span name args limit file its_name h g in
      let X = counted_in def l call c limit file (called dm h dm.body) head (first dm span name args limit file its_name h g) bytes in
      rw (macro_at_lem dm h its_end, (parts_call span name args g).parts.read) (ap (λ (b : MacroBody). on_kind head X bytes (kind_of b)) e)

  pub cedar_refusal_matches : RefusalMatches def l call c (refused_at span (CedarInCondition its_name)) (refusal 31 span (cedar_in_condition name))
  unfolding message_of
  cedar_refusal_matches = record { its_number = refl; its_span = refl; its_message = ap cedar_in_condition (parts_call span name args g).spelled }

  -- "one definition and one call, names not compared, arguments as given"; nothing is charged before it
  pub tapes_matches : dm.body ≢ MacroBody.Cedar → length dm.params ≤ 16 → deep_body node_weight dm.body ≤ 64 → (bytes : List ℕ)
      → 12288 ≤ length bytes
      → WalkMatches (T dm span name args limit file its_name h g) flat_tree (area_in (empty_at 0) bytes) [] (tapes_in def l call c limit file bytes)
      (past (flat_body dm.body) (body_start dm h)) (substitute limit file dm (Call.MacroCall span name args))
  unfolding tapes_in substitute
  tapes_matches n few deep bytes room =
      rw (macro_at_lem dm h its_end, (parts_call span name args g).parts.read)
      (counted_matches dm span name args limit file its_name h g few bytes (written_none 0 bytes room (omega arith)) dm.body n
      (parts_def dm h).parts.runs.second deep)
