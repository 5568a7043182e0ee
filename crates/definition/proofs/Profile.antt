-- The profile of point 10 (specs/Profile.antt): what it looks at are the tape's entries, what passes keeps to the three rules, and
-- a plain condition is returned unchanged.
-- Assumes nothing.
use Prim.Native.Nat.{ℕ, suc, ◌+◌, ◌-◌, ◌*◌, ◌^◌, ◌≤◌}
use native.Mathlib.Nat.{add-suc, mul-suc}
use native.Mathlib.Omega.{arith}
use mathlib.Core.Path.{◌≡◌, refl, sym, ◌∙◌, ap, ap₂, subst}
use mathlib.Core.Logic.{◌≢◌, ◌↔◌}
use mathlib.Core.List.{List, [], ◌∷◌, ◌++◌}
use mathlib.Core.Bool.{Bool, true, false, not, ◌&&◌}
use mathlib.Core.Option.{none, some, none-ne-some}
use borrow.Author.Tests.{le-leb}
use lib.Dec.{T, ltb, leb, lt→ltb, le→leb, leb→le, nleb→lt, not_T}
use lib.IntN.{ℤ, pos, negsuc, ◌*ℤ◌}
use lib.ListN.{length}
use Rattle.format.specs.Entry.{Entry, entry, text_of}
use Rattle.format.specs.Ast.{TimeUnit, Condition, Term, AggExpr, Call, CallArg, CallArgs, NamedArgs, Terms, Tree, MacroDef}
use Rattle.format.specs.Flat.{flat_texts, flat_unit, flat_interval, flat_binder, flat_binders, flat_condition, flat_term, flat_agg, flat_call, flat_arg, flat_args, flat_fields, flat_terms, flat_tree}
use Rattle.format.specs.Limits.{is_node, node_weight, call_weight, weigh, deep_condition, deep_tree, fits_sizes, fits_depths, fits_all, too_large_tree}
use Rattle.format.specs.Tape.{Reading, short_texts, small, condition_root, registry_root, named_root, read, Bytes}
use Rattle.format.specs.Older.{unit_seconds, seconds}
use Rattle.format.specs.Signed.{signed}
use Rattle.format.proofs.Tests.{and_left, and_right, and_both, is_true}
use Rattle.format.proofs.Accepted.{accepted_on_tape}
use Rattle.format.proofs.Exact.{lawful_named, lawful_condition}
use Rattle.format.proofs.Rewritten.{rewrites_condition, read_on_tape, read_named}
use Rattle.format.specs.Macro.{holds_macro}
use Rattle.format.proofs.Macro.{to_free}
use Rattle.definition.specs.Outcome.{Refusal, Outcome}
use Rattle.definition.specs.Size.{size}
use Rattle.definition.specs.Check.{Verdict}
use Rattle.definition.specs.Registry.{build}
use Rattle.definition.specs.Answers.{answer, number_alone, reading, tree_answer, expand_tapes, expand_answer, verdict, message_alone, message_answer, registry_answer}
use Rattle.definition.specs.Profile.{Placed, under, place_condition, place_term, place_agg, place_call, place_arg, place_args, place_fields, place_terms, entries_of, PlacedIsFlat, is_aggregate, not_past, within_day, FromZeroToOneDay, rule, profile_from, profile, no_aggregate, short_intervals, FitsBattery, PassesExactly, Passing, unchanged, ReturnedUnchanged}
use Rattle.definition.proofs.Verdicts.{Given, refuses, first, second, joins, nonzero_build}
use Rattle.definition.proofs.Unchanged.{expands_to_itself}

-- ------------------------------------------------------------------ the entries

front : (e : Entry) {es fs : List Entry} → es ≡ fs → e ∷ es ≡ e ∷ fs
front e h = ap (λ (l : List Entry). e ∷ l) h

parts : (ps qs : List Placed) → entries_of (ps ++ qs) ≡ entries_of ps ++ entries_of qs
unfolding entries_of
parts [] qs = refl
parts (p ∷ ps) qs = front p.0 (parts ps qs)

both : (ps qs : List Placed) {es fs : List Entry} → entries_of ps ≡ es → entries_of qs ≡ fs → entries_of (ps ++ qs) ≡ es ++ fs
both ps qs h k = parts ps qs ∙ ap₂ ◌++◌ h k

whole : (s : ℕ) (es : List Entry) → entries_of (under s es) ≡ es
unfolding entries_of under
whole s [] = refl
whole s (e ∷ es) = front e (whole s es)

mutual
  unfolding entries_of under place_condition flat_condition flat_binder

  of_condition : (c : Condition) → entries_of (place_condition c) ≡ flat_condition c
  of_condition (Condition.And s l r) = front _ (both (place_condition l) _ (of_condition l) (of_condition r))
  of_condition (Condition.Or s l r) = front _ (both (place_condition l) _ (of_condition l) (of_condition r))
  of_condition (Condition.Not s c) = front _ (of_condition c)
  of_condition (Condition.Formerly s w c) = front _ (front _ (of_condition c))
  of_condition (Condition.Previous s w c) = front _ (front _ (of_condition c))
  of_condition (Condition.Since s l w r) = front _ (both (place_condition l) _ (of_condition l) (front _ (of_condition r)))
  of_condition (Condition.Predicate s o ns a k fs) =
      front _ (front _ (front _ (both (under s (flat_texts ns)) _ (whole s (flat_texts ns)) (front _ (front _ (front _ (of_fields s fs)))))))
  of_condition (Condition.Comparison s op l r) = front _ (front _ (both (place_term s l) _ (of_term s l) (of_term s r)))
  of_condition (Condition.Exists s b c) = front _ (both (under s (flat_binder b)) _ (whole s (flat_binder b)) (of_condition c))
  of_condition (Condition.Tp s v) = whole s _
  of_condition (Condition.ConditionCall s c) = front _ (of_call s c)
  of_condition (Condition.SigilRef s g n) = whole s _
  of_condition (Condition.Refine s o c fs) = front _ (front _ (both (place_condition c) _ (of_condition c) (front _ (of_fields s fs))))

  of_term : (s : ℕ) (t : Term) → entries_of (place_term s t) ≡ flat_term t
  of_term s (Term.Array ts) = front _ (of_terms s ts)
  of_term s (Term.Agg a) = front _ (of_agg s a)
  of_term s (Term.Arith op l r) = front _ (both (place_term s l) _ (of_term s l) (of_term s r))
  of_term s (Term.Entity ty id) = whole s _
  of_term s (Term.Integer n) = whole s _
  of_term s (Term.Decimal t) = whole s _
  of_term s (Term.String t) = whole s _
  of_term s (Term.Bool b) = whole s _
  of_term s (Term.ContextField path) = whole s _
  of_term s (Term.ScopeField path) = whole s _
  of_term s (Term.Var n) = whole s _
  of_term s Term.Wildcard = whole s _
  of_term s (Term.ParamRef n) = whole s _
  of_term s (Term.BinderRef n) = whole s _

  of_agg : (s : ℕ) (a : AggExpr) → entries_of (place_agg s a) ≡ flat_agg a
  of_agg s (AggExpr.Sum q v bs c) =
      front _ (front _ (front _ (both (under s (flat_binders bs)) _ (whole s (flat_binders bs)) (of_condition c))))
  of_agg s (AggExpr.Count q bs c) = front _ (front _ (both (under s (flat_binders bs)) _ (whole s (flat_binders bs)) (of_condition c)))
  of_agg s (AggExpr.AggCall q c) = front _ (of_call s c)

  of_call : (s : ℕ) (c : Call) → entries_of (place_call s c) ≡ flat_call c
  of_call s (Call.MacroCall q n args) = front _ (front _ (front _ (of_args s args)))

  of_arg : (s : ℕ) (a : CallArg) → entries_of (place_arg s a) ≡ flat_arg a
  of_arg s (CallArg.ConditionArg c) = front _ (of_condition c)
  of_arg s (CallArg.TermArg t) = front _ (of_term s t)
  of_arg s (CallArg.WithinArg i) = refl

  of_args : (s : ℕ) (args : CallArgs) → entries_of (place_args s args) ≡ flat_args args
  of_args s CallArgs.no_args = refl
  of_args s (CallArgs.cons_arg a rest) = both (place_arg s a) _ (of_arg s a) (of_args s rest)

  of_fields : (s : ℕ) (fs : NamedArgs) → entries_of (place_fields s fs) ≡ flat_fields fs
  of_fields s NamedArgs.no_fields = refl
  of_fields s (NamedArgs.cons_field n t fs) = front _ (both (place_term s t) _ (of_term s t) (of_fields s fs))

  of_terms : (s : ℕ) (ts : Terms) → entries_of (place_terms s ts) ≡ flat_terms ts
  of_terms s Terms.no_terms = refl
  of_terms s (Terms.cons_term t ts) = both (place_term s t) _ (of_term s t) (of_terms s ts)

pub placed_is_flat : PlacedIsFlat
placed_is_flat c = of_condition c

-- ------------------------------------------------------------------ the rules

-- a number from 0 on by its successor, and one below by 0
upward : ℤ → ℕ
upward (pos n) = suc n
upward (negsuc n) = 0

below_zero : (s x : ℕ) → upward (pos (suc s) *ℤ negsuc x) ≡ 0
unfolding upward
below_zero s x = rw (mul-suc (suc s) x, add-suc (suc s * x) s) refl

-- an amount in a unit of `suc s` seconds, of which a day has `most`
module _ (s most n : ℕ) where
  abbrev InADay : ℤ → Type 0
  InADay z = (k : ℕ) × (pos (suc s) *ℤ z ≡ pos k) × (k ≤ 86400)

  in_a_day : (n ≤ most → suc s * n ≤ 86400) → most ≤ 86400 → T (leb n most) → InADay (signed n)
  unfolding signed
  in_a_day f day h =
      let l : n ≤ most = leb→le n most h in
      rw (is_true {b = ltb n (2 ^ 63)} (lt→ltb n (2 ^ 63) (omega arith)), signed) (suc s * n, refl, f l)

  day_in : (suc s * n ≤ 86400 → n ≤ most) → InADay (signed n) → T (leb n most)
  unfolding signed upward
  day_in g d = go (ltb n (2 ^ 63)) d
    where
      go : (low : Bool) → InADay (elim low [ true ↦ pos n | false ↦ negsuc (2 ^ 64 - suc n) ]) → T (leb n most)
      go true d = let e : suc (suc s * n) ≡ suc d.0 = ap upward d.1 in le→leb n most (g (omega (arith, d.2)))
      go false d =
          let e : 0 ≡ suc d.0 = sym (below_zero s (2 ^ 64 - suc n)) ∙ ap upward d.1 in
          absurd (omega (arith, e))

  whole_day : (n ≤ most → suc s * n ≤ 86400) → (suc s * n ≤ 86400 → n ≤ most) → most ≤ 86400 → T (leb n most) ↔ InADay (signed n)
  whole_day f g day = (in_a_day f day, day_in g)

pub from_zero_to_one_day : FromZeroToOneDay
unfolding within_day not_past seconds unit_seconds flat_interval flat_unit
from_zero_to_one_day i = go i.amount i.unit
  where
    go : (n : ℕ) (u : TimeUnit)
        → T (within_day (entry (flat_unit u) n)) ↔ ((k : ℕ) × (pos (unit_seconds u) *ℤ signed n ≡ pos k) × (k ≤ 86400))
    go n TimeUnit.Seconds = whole_day 0 86400 n (λ h. omega arith) (λ h. omega arith) (omega arith)
    go n TimeUnit.Minutes = whole_day 59 1440 n (λ h. omega arith) (λ h. omega arith) (omega arith)
    go n TimeUnit.Hours = whole_day 3599 24 n (λ h. omega arith) (λ h. omega arith) (omega arith)
    go n TimeUnit.Days = whole_day 86399 1 n (λ h. omega arith) (λ h. omega arith) (omega arith)
    go n TimeUnit.Weeks = whole_day 604799 0 n (λ h. omega arith) (λ h. omega arith) (omega arith)

kept_rule : (broken : Bool) (number span : ℕ) → rule broken number span ≡ none → T (not broken)
unfolding rule
kept_rule true number span h = absurd (none-ne-some _ (sym h))
kept_rule false number span h = tt

rule_kept : (broken : Bool) (number span : ℕ) → T (not broken) → rule broken number span ≡ none
unfolding rule
rule_kept true number span h = absurd h
rule_kept false number span h = refl

not_not : (b : Bool) → T (not (not b)) → T b
not_not true h = tt
not_not false h = absurd h

to_not_not : (b : Bool) → T b → T (not (not b))
to_not_not true h = tt
to_not_not false h = absurd h

-- the sixteenth node may still be counted
room : (node : Bool) (nodes : ℕ) → nodes ≤ 16 → T (not (node && leb 16 nodes)) → nodes + weigh node ≤ 16
unfolding weigh
room true nodes h k = omega (arith, nleb→lt 16 nodes k)
room false nodes h k = omega arith

no_seventeenth : (node : Bool) (nodes later : ℕ) → nodes + (weigh node + later) ≤ 16 → T (not (node && leb 16 nodes))
unfolding weigh
no_seventeenth true nodes later h = not_T (leb 16 nodes) λ k. let q : 16 ≤ nodes = leb→le 16 nodes k in absurd (omega arith)
no_seventeenth false nodes later h = tt

record Kept (nodes : ℕ) (es : List Entry) : Type 0 where
  aggregates : T (no_aggregate es)
  count : nodes + size es ≤ 16
  intervals : T (short_intervals es)

kept_from : (nodes : ℕ) (ps : List Placed) → nodes ≤ 16 → profile_from nodes ps ≡ none → Kept nodes (entries_of ps)
unfolding profile_from entries_of no_aggregate short_intervals size
kept_from nodes [] m h = record { aggregates = tt; count = omega arith; intervals = tt }
kept_from nodes (p ∷ ps) m h =
    let e : Entry = p.0 in
    let node : Bool = is_node e.code in
    let h₁ = second (rule (is_aggregate e) 53 0) _ h in
    let h₂ = second (rule (node && leb 16 nodes) 54 0) _ h₁ in
    let a : T (not (is_aggregate e)) = kept_rule (is_aggregate e) 53 0 (first (rule (is_aggregate e) 53 0) _ h) in
    let b : T (not (node && leb 16 nodes)) = kept_rule (node && leb 16 nodes) 54 0 (first (rule (node && leb 16 nodes) 54 0) _ h₁) in
    let c : T (not (not (within_day e))) = kept_rule (not (within_day e)) 55 p.1 (first (rule (not (within_day e)) 55 p.1) _ h₂) in
    let rest = kept_from (nodes + weigh node) ps (room node nodes m b) (second (rule (not (within_day e)) 55 p.1) _ h₂) in
    record {
      aggregates = and_both (not (is_aggregate e)) _ a rest.aggregates;
      count = omega (arith, rest.count);
      intervals = and_both (within_day e) _ (not_not (within_day e) c) rest.intervals;
    }

from_kept : (nodes : ℕ) (ps : List Placed) → Kept nodes (entries_of ps) → profile_from nodes ps ≡ none
unfolding profile_from entries_of no_aggregate short_intervals size
from_kept nodes [] k = refl
from_kept nodes (p ∷ ps) k =
    let e : Entry = p.0 in
    let node : Bool = is_node e.code in
    let rest : Kept (nodes + weigh node) (entries_of ps) =
    record {
      aggregates = and_right (not (is_aggregate e)) _ k.aggregates;
      count = omega (arith, k.count);
      intervals = and_right (within_day e) _ k.intervals;
    } in
    joins (rule (is_aggregate e) 53 0) _ (rule_kept (is_aggregate e) 53 0 (and_left (not (is_aggregate e)) _ k.aggregates))
    (joins (rule (node && leb 16 nodes) 54 0) _ (rule_kept (node && leb 16 nodes) 54 0 (no_seventeenth node nodes (size (entries_of ps)) k.count))
    (joins (rule (not (within_day e)) 55 p.1) _
    (rule_kept (not (within_day e)) 55 p.1 (to_not_not (within_day e) (and_left (within_day e) _ k.intervals)))
    (from_kept (nodes + weigh node) ps rest)))

pub passes_exactly : PassesExactly
unfolding profile
passes_exactly c = (there, back)
  where
    there : profile_from 0 (place_condition c) ≡ none → FitsBattery c
    there h =
        let k : Kept 0 (flat_condition c) = subst (Kept 0) (of_condition c) (kept_from 0 (place_condition c) (omega arith) h) in
        record { no_aggregates = k.aggregates; few_nodes = omega (arith, k.count); no_long_interval = k.intervals }

    back : FitsBattery c → profile_from 0 (place_condition c) ≡ none
    back k =
        let whole : Kept 0 (flat_condition c) = record { aggregates = k.no_aggregates; count = omega (arith, k.few_nodes); intervals = k.no_long_interval } in
        from_kept 0 (place_condition c) (subst (Kept 0) (sym (of_condition c)) whole)

-- ------------------------------------------------------------------ a plain condition is returned unchanged

-- an accepted condition is not too large for a result
fits_result : (c : Condition) → T (fits_sizes (length (flat_condition c)) (length (text_of (flat_condition c))))
    → T (fits_depths (deep_condition node_weight c) (deep_condition call_weight c)) → too_large_tree (Tree.condition c) ≡ false
unfolding too_large_tree fits_all flat_tree deep_tree
fits_result c s d =
    rw (is_true {b = fits_sizes (length (flat_condition c)) (length (text_of (flat_condition c)))} s, is_true {b = fits_depths (deep_condition node_weight c) (deep_condition call_weight c)} d)
    refl

-- the definitions of a registry whose answer is 0
registry_passes : (registry : List ℕ) → Passing registry → (defs : List MacroDef) × (read registry_root registry ≡ Reading.accepted defs) × (build defs ≡ none)
unfolding registry_answer message_answer answer number_alone verdict reading
registry_passes registry p = go (leb 2048 m) (le-leb 2048 m p.long_enough) (read registry_root registry) refl p.passes
  where
    m : ℕ
    m = p.message_length

    nothing : Unit {0} → List ℕ
    nothing u = []

    built : (defs : List MacroDef) (v : Verdict) → Given (λ (x : Refusal). x.number ≢ 0) v → (answer nothing (message_alone m) (verdict v)).number ≡ 0 → v ≡ none
    built defs none g e = refl
    built defs (some x) (refuses n) e = absurd (n e)

    go : (long : Bool) → long ≡ true → (r : Reading (List MacroDef)) → read registry_root registry ≡ r
        → (answer nothing (message_alone m) (elim long [ true ↦ reading r (λ defs. verdict (build defs)) | false ↦ number_alone 1 ])).number ≡ 0
        → (defs : List MacroDef) × (r ≡ Reading.accepted defs) × (build defs ≡ none)
    go true l Reading.malformed h e = absurd (omega arith)
    go true l Reading.too_large h e = absurd (omega arith)
    go true l (Reading.accepted defs) h e = (defs, refl, built defs (build defs) (nonzero_build defs) e)
    go false l r h e = absurd (omega arith)

-- of any condition that is read with 64-byte names, profile or not
expands_alone : (limit file : ℕ) (registry input : List ℕ) (c : Condition) → Passing registry → Bytes input → read condition_root input ≡ Reading.accepted c
    → holds_macro (flat_condition c) ≡ false → expand_tapes limit file registry input ≡ Outcome.done (Tree.condition c) 0
unfolding expand_tapes reading condition_root small
expands_alone limit file registry input c passing q e no_macro =
    let r = registry_passes registry passing in
    let t = read_on_tape condition_root rewrites_condition lawful_condition input q c e in
    let depths : Bool = fits_depths (deep_condition node_weight c) (deep_condition call_weight c) in
    let deep = and_left depths _ (and_right (short_texts (flat_condition c)) _ t.small) in
    rw (r.1, e) (expands_to_itself limit file r.0 c r.2 (to_free (flat_condition c) no_macro) (fits_result c t.range.sizes deep))

pub returned_unchanged : ReturnedUnchanged
unfolding expand_answer tree_answer answer unchanged flat_tree named_root
returned_unchanged b limit file registry input c long passing q profiled h plain =
    let e : read condition_root input ≡ Reading.accepted c = read_named 81 input q c h plain.short_names in (
      rw (long, expands_alone limit file registry input c passing q e plain.no_macro) refl,
      λ a. (accepted_on_tape (named_root 81) (lawful_named 81).spells input q c a).encoded,
    )
