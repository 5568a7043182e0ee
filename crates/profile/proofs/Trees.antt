-- The profile of a condition, from its entries: the list of what is still to come gives each interval the span that the tree gives it.
-- Assumes nothing.
use Prim.Native.Nat.{ℕ, ◌+◌}
use mathlib.Core.Path.{◌≡◌, refl, sym, ◌∙◌}
use mathlib.Core.Bool.{Bool, true, false, not, ◌&&◌}
use mathlib.Core.List.{List, [], ◌∷◌, ◌++◌, append-nil, append_assoc}
use native.Mathlib.Omega.{arith}
use lib.Dec.{leb}
use lib.ListN.{replicate}
use Rattle.format.specs.Entry.{Text, Entry, entry, text_entry}
use Rattle.format.specs.Ast.{TimeUnit, Interval, WithinSpec, BinderSlot, BinderType, Sigil, Condition, Term, Call, CallArg, CallArgs, NamedArgs, Terms}
use Rattle.format.specs.Flat.{flat_texts, flat_unit, flat_interval, flat_within, flat_slot, flat_type, flat_binder, flat_sigil, length_args, length_fields, flat_condition, flat_term, flat_call, flat_arg, flat_args, flat_fields, flat_terms}
use Rattle.format.specs.Limits.{is_node, weigh}
use Rattle.definition.specs.Check.{Verdict, ◌and_then◌}
use Rattle.definition.specs.Profile.{Placed, under, place_condition, place_term, place_call, place_arg, place_args, place_fields, place_terms, is_aggregate, not_past, within_day, rule, profile_from, profile}
use Rattle.tape.specs.Pick.{pick}
use Rattle.std.proofs.Common.{Some, None}
use Rattle.profile.specs.declared.rules.Rule.TheVariants.{NoAggregate, SixteenNodes, WithinDay}
use Rattle.profile.specs.Entries.{broken_by, broken_rule, unless_broken, profile_heads}
use Rattle.profile.specs.Spans.{items_of, is_condition, ends_item, spans_after, nearest}
use Rattle.profile.specs.declared.around.Head.{Head}

-- ------------------------------------------------------------------ entries as heads

-- the value of the third entry behind
unfoldable pub args_in : List Entry → ℕ
args_in [] = 0
args_in (a ∷ []) = 0
args_in (a ∷ b ∷ []) = 0
args_in (a ∷ b ∷ c ∷ es) = c.value

abbrev pub head_of : Entry → List Entry → Head
head_of e es = record { code = e.code; value = e.value; args = args_in es }

unfoldable pub heads_of : List Entry → List Head
heads_of [] = []
heads_of (e ∷ es) = head_of e es ∷ heads_of es

-- ------------------------------------------------------------------ one entry

-- with these spans to come the entries are judged as the placed ones are
record Agrees (spans : List ℕ) (es : List Entry) (ps : List Placed) : Type 0 where
  from : (nodes : ℕ) → profile_heads nodes spans (heads_of es) ≡ profile_from nodes ps

rules : (a b w : Bool) (span : ℕ) (spans : List ℕ) {v u : Verdict} → (w ≡ false → nearest spans ≡ span) → v ≡ u
    → unless_broken (pick a (Some NoAggregate) (pick b (Some SixteenNodes) (pick (not w) (Some WithinDay) None))) spans v
    ≡ (rule a 53 0 and_then rule b 54 0 and_then rule (not w) 55 span and_then u)
unfolding broken_rule rule ◌and_then◌
rules true b w span spans q e = refl
rules false true w span spans q e = refl
rules false false true span spans q e = e
rules false false false span spans q e = rw (q refl) refl

step : (e : Entry) (s : ℕ) {spans after : List ℕ} {es : List Entry} {ps : List Placed} → (within_day e ≡ false → nearest spans ≡ s)
    → spans_after (head_of e es) spans ≡ after → Agrees after es ps → Agrees spans (e ∷ es) ((e, s) ∷ ps)
unfolding profile_heads profile_from heads_of broken_by is_aggregate within_day not_past
step e s {spans} q p h =
    record {
      from = λ n.
          rules (is_aggregate e) (is_node e.code && leb 16 n) (within_day e) s spans q
          (rw p (h.from (n + weigh (is_node e.code))));
    }

never : {A : Type 0} → ◌≡◌ {A = Bool} true false → A
never h = let z : ◌≡◌ {A = ℕ} 0 1 = cc in absurd (omega arith)

-- no interval
plain : (e : Entry) (s : ℕ) {spans after : List ℕ} {es : List Entry} {ps : List Placed} → within_day e ≡ true
    → spans_after (head_of e es) spans ≡ after → Agrees after es ps → Agrees spans (e ∷ es) ((e, s) ∷ ps)
plain e s w p h = step e s (λ f. never (sym w ∙ f)) p h

-- an interval, in the condition whose item is next
timed : (e : Entry) (s : ℕ) {spans : List ℕ} {es : List Entry} {ps : List Placed} → spans_after (head_of e es) (s ∷ spans) ≡ spans
    → Agrees spans es ps → Agrees (s ∷ spans) (e ∷ es) ((e, s) ∷ ps)
timed e s p h = step e s (λ f. refl) p h

-- an aggregate: nothing behind it is looked at
aggregate : (s : ℕ) {spans : List ℕ} {es : List Entry} {ps : List Placed} → Agrees spans (entry 30 0 ∷ es) ((entry 30 0, s) ∷ ps)
unfolding profile_heads profile_from heads_of broken_by broken_rule is_aggregate rule ◌and_then◌
aggregate s = record { from = λ n. refl }

-- one list behind another
glue : (es fs : List Entry) (ps qs : List Placed) (rest : List Entry) (more : List Placed) {spans : List ℕ}
    → Agrees spans (es ++ (fs ++ rest)) (ps ++ (qs ++ more)) → Agrees spans ((es ++ fs) ++ rest) ((ps ++ qs) ++ more)
glue es fs ps qs rest more h = rw (append_assoc es fs rest, append_assoc ps qs more) h

-- ------------------------------------------------------------------ what has no items

texts_agree : (ts : List Text) (s : ℕ) {spans : List ℕ} {rest : List Entry} {more : List Placed} → Agrees spans rest more
    → Agrees spans (flat_texts ts ++ rest) (under s (flat_texts ts) ++ more)
unfolding flat_texts under within_day not_past spans_after is_condition ends_item
texts_agree [] s h = h
texts_agree (t ∷ ts) s h = plain (text_entry 40 t) s refl refl (texts_agree ts s h)

slot_agrees : (v : BinderSlot) (s : ℕ) {spans : List ℕ} {rest : List Entry} {more : List Placed} → Agrees spans rest more
    → Agrees spans (flat_slot v ∷ rest) ((flat_slot v, s) ∷ more)
unfolding flat_slot within_day not_past spans_after is_condition ends_item
slot_agrees (BinderSlot.Name n) s h = plain _ s refl refl h
slot_agrees (BinderSlot.ParamRef n) s h = plain _ s refl refl h
slot_agrees (BinderSlot.BinderRef n) s h = plain _ s refl refl h

type_agrees : (t : BinderType) (s : ℕ) {spans : List ℕ} {rest : List Entry} {more : List Placed} → Agrees spans rest more
    → Agrees spans (flat_type t ++ rest) (under s (flat_type t) ++ more)
unfolding flat_type under within_day not_past spans_after is_condition ends_item
type_agrees BinderType.Timepoint s h = plain _ s refl refl h
type_agrees (BinderType.Named path) s h = plain _ s refl refl (texts_agree path s h)

-- ------------------------------------------------------------------ intervals

interval_agrees : (i : Interval) (s : ℕ) {spans : List ℕ} {rest : List Entry} {more : List Placed} → Agrees spans rest more
    → Agrees (s ∷ spans) (flat_interval i ∷ rest) ((flat_interval i, s) ∷ more)
unfolding flat_interval flat_unit spans_after is_condition ends_item
interval_agrees i s {spans} {rest} {more} h = go i.unit
  where
    go : (u : TimeUnit) → Agrees (s ∷ spans) (entry (flat_unit u) i.amount ∷ rest) ((entry (flat_unit u) i.amount, s) ∷ more)
    go TimeUnit.Seconds = timed _ s refl h
    go TimeUnit.Minutes = timed _ s refl h
    go TimeUnit.Hours = timed _ s refl h
    go TimeUnit.Days = timed _ s refl h
    go TimeUnit.Weeks = timed _ s refl h

within_agrees : (w : WithinSpec) (s : ℕ) {spans : List ℕ} {rest : List Entry} {more : List Placed} → Agrees spans rest more
    → Agrees (s ∷ spans) (flat_within w ∷ rest) ((flat_within w, s) ∷ more)
unfolding flat_within spans_after is_condition ends_item
within_agrees (WithinSpec.Concrete i) s h = interval_agrees i s h
within_agrees (WithinSpec.ParamRef n) s h = timed _ s refl h

-- ------------------------------------------------------------------ trees

mutual
  unfolding under place_condition flat_condition flat_binder flat_sigil length_args within_day not_past spans_after is_condition ends_item items_of args_in

  -- a condition is the next item
  condition_agrees : (c : Condition) (a : ℕ) {spans : List ℕ} {rest : List Entry} {more : List Placed} → Agrees spans rest more
      → Agrees (a ∷ spans) (flat_condition c ++ rest) (place_condition c ++ more)
  condition_agrees (Condition.And s l r) a {rest = rest} {more = more} h =
      plain _ s refl refl
      (glue (flat_condition l) (flat_condition r) (place_condition l) (place_condition r) rest more (condition_agrees l s (condition_agrees r s h)))
  condition_agrees (Condition.Or s l r) a {rest = rest} {more = more} h =
      plain _ s refl refl
      (glue (flat_condition l) (flat_condition r) (place_condition l) (place_condition r) rest more (condition_agrees l s (condition_agrees r s h)))
  condition_agrees (Condition.Not s c) a h = plain _ s refl refl (condition_agrees c s h)
  condition_agrees (Condition.Formerly s w c) a h = plain _ s refl refl (within_agrees w s (condition_agrees c s h))
  condition_agrees (Condition.Previous s w c) a h = plain _ s refl refl (within_agrees w s (condition_agrees c s h))
  condition_agrees (Condition.Since s l w r) a {rest = rest} {more = more} h =
      plain _ s refl refl
      (glue (flat_condition l) (flat_within w ∷ flat_condition r) (place_condition l) ((flat_within w, s) ∷ place_condition r) rest more
      (condition_agrees l s (within_agrees w s (condition_agrees r s h))))
  condition_agrees (Condition.Predicate s o ns n k fs) a {rest = rest} {more = more} h =
      plain _ s refl refl (plain _ s refl refl (plain _ s refl refl
      (glue (flat_texts ns) (text_entry 40 n ∷ text_entry 40 k ∷ entry 41 (length_fields fs) ∷ flat_fields fs)
      (under s (flat_texts ns)) ((text_entry 40 n, s) ∷ (text_entry 40 k, s) ∷ (entry 41 (length_fields fs), s) ∷ place_fields s fs) rest more
      (texts_agree ns s (plain _ s refl refl (plain _ s refl refl (plain _ s refl refl (fields_agree fs s h))))))))
  condition_agrees (Condition.Comparison s op l r) a {rest = rest} {more = more} h =
      plain _ s refl refl (plain _ s refl refl
      (glue (flat_term l) (flat_term r) (place_term s l) (place_term s r) rest more (term_agrees l s (term_agrees r s h))))
  condition_agrees (Condition.Exists s b c) a {rest = rest} {more = more} h =
      plain _ s refl refl
      (glue (flat_binder b) (flat_condition c) (under s (flat_binder b)) (place_condition c) rest more
      (slot_agrees b.slot s (type_agrees b.ty s (condition_agrees c s h))))
  condition_agrees (Condition.Tp s v) a h = plain _ s refl refl (slot_agrees v s h)
  condition_agrees (Condition.ConditionCall s c) a h = call_agrees c s a h
  condition_agrees (Condition.SigilRef s Sigil.Param n) a h = plain _ s refl refl (plain _ s refl refl h)
  condition_agrees (Condition.SigilRef s Sigil.Binder n) a h = plain _ s refl refl (plain _ s refl refl h)
  condition_agrees (Condition.Refine s o c fs) a {rest = rest} {more = more} h =
      plain _ s refl refl (plain _ s refl refl
      (glue (flat_condition c) (entry 41 (length_fields fs) ∷ flat_fields fs) (place_condition c) ((entry 41 (length_fields fs), s) ∷ place_fields s fs) rest more
      (condition_agrees c s (plain _ s refl refl (fields_agree fs s h)))))

  -- A term is no item, whatever it is in. Where it holds an aggregate, nothing behind that is looked at.
  term_agrees : (t : Term) (s : ℕ) {spans : List ℕ} {rest : List Entry} {more : List Placed} → Agrees spans rest more
      → Agrees spans (flat_term t ++ rest) (place_term s t ++ more)
  term_agrees (Term.Entity ty id) s h = plain _ s refl refl (plain _ s refl refl (plain _ s refl refl h))
  term_agrees (Term.Integer n) s h = plain _ s refl refl h
  term_agrees (Term.Decimal t) s h = plain _ s refl refl h
  term_agrees (Term.String t) s h = plain _ s refl refl h
  term_agrees (Term.Bool b) s h = plain _ s refl refl h
  term_agrees (Term.ContextField path) s h = plain _ s refl refl (texts_agree path s h)
  term_agrees (Term.ScopeField path) s h = plain _ s refl refl (texts_agree path s h)
  term_agrees (Term.Var n) s h = plain _ s refl refl h
  term_agrees Term.Wildcard s h = plain _ s refl refl h
  term_agrees (Term.Array ts) s h = plain _ s refl refl (terms_agree ts s h)
  term_agrees (Term.Agg a) s h = aggregate s
  term_agrees (Term.Arith op l r) s {rest = rest} {more = more} h =
      plain _ s refl refl (glue (flat_term l) (flat_term r) (place_term s l) (place_term s r) rest more (term_agrees l s (term_agrees r s h)))
  term_agrees (Term.ParamRef n) s h = plain _ s refl refl h
  term_agrees (Term.BinderRef n) s h = plain _ s refl refl h

  terms_agree : (ts : Terms) (s : ℕ) {spans : List ℕ} {rest : List Entry} {more : List Placed} → Agrees spans rest more
      → Agrees spans (flat_terms ts ++ rest) (place_terms s ts ++ more)
  terms_agree Terms.no_terms s h = h
  terms_agree (Terms.cons_term t ts) s {rest = rest} {more = more} h =
      glue (flat_term t) (flat_terms ts) (place_term s t) (place_terms s ts) rest more (term_agrees t s (terms_agree ts s h))

  fields_agree : (fs : NamedArgs) (s : ℕ) {spans : List ℕ} {rest : List Entry} {more : List Placed} → Agrees spans rest more
      → Agrees spans (flat_fields fs ++ rest) (place_fields s fs ++ more)
  fields_agree NamedArgs.no_fields s h = h
  fields_agree (NamedArgs.cons_field n t fs) s {rest = rest} {more = more} h =
      plain _ s refl refl (glue (flat_term t) (flat_fields fs) (place_term s t) (place_fields s fs) rest more (term_agrees t s (fields_agree fs s h)))

  -- a call with its 11, whose items its arguments are
  call_agrees : (c : Call) (s a : ℕ) {spans : List ℕ} {rest : List Entry} {more : List Placed} → Agrees spans rest more
      → Agrees (a ∷ spans) (entry 11 s ∷ (flat_call c ++ rest)) ((entry 11 s, s) ∷ (place_call s c ++ more))
  call_agrees (Call.MacroCall q n args) s a h =
      plain _ s refl refl (plain _ s refl refl (plain _ s refl refl (plain _ s refl refl (args_agree args s h))))

  arg_agrees : (a : CallArg) (s : ℕ) {spans : List ℕ} {rest : List Entry} {more : List Placed} → Agrees spans rest more
      → Agrees (s ∷ spans) (flat_arg a ++ rest) (place_arg s a ++ more)
  arg_agrees (CallArg.ConditionArg c) s h = plain _ s refl refl (condition_agrees c s h)
  arg_agrees (CallArg.TermArg t) s h = plain _ s refl refl (term_agrees t s h)
  arg_agrees (CallArg.WithinArg i) s h = plain _ s refl refl (interval_agrees i s h)

  args_agree : (args : CallArgs) (s : ℕ) {spans : List ℕ} {rest : List Entry} {more : List Placed} → Agrees spans rest more
      → Agrees (replicate (length_args args) s ++ spans) (flat_args args ++ rest) (place_args s args ++ more)
  args_agree CallArgs.no_args s h = h
  args_agree (CallArgs.cons_arg a args) s {rest = rest} {more = more} h =
      glue (flat_arg a) (flat_args args) (place_arg s a) (place_args s args) rest more (arg_agrees a s (args_agree args s h))

nothing_agrees : Agrees [] [] []
unfolding profile_heads heads_of profile_from
nothing_agrees = record { from = λ n. refl }

-- the whole is the only item at the start
pub profile_of : (c : Condition) → profile_heads 0 (0 ∷ []) (heads_of (flat_condition c)) ≡ profile c
unfolding profile
profile_of c =
    let whole : Agrees (0 ∷ []) (flat_condition c ++ []) (place_condition c ++ []) = condition_agrees c 0 nothing_agrees in
    rw (append-nil (flat_condition c), append-nil (place_condition c)) at (whole.from 0)
