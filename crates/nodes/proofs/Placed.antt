-- Trees at a place of a tape or of a work area: for each sort and each of its constructors what the node read gives there, and where
-- the tree's parts stand. One step, and no recursion: a walk's own induction takes the parts from here.
-- Assumes nothing.
use Rattle.std.proofs.Common.{Some, Ok}
use Prim.Native.Nat.{ℕ}
use mathlib.Core.Path.{◌≡◌, refl, sym, ap, ◌∙◌}
use mathlib.Core.List.{List, [], ◌∷◌, ◌++◌, append_assoc}
use lib.ListN.{length}
use Rattle.format.specs.Entry.{Text, Entry, entry, text_entry}
use Rattle.format.specs.Ast.{
  TimeUnit,
  WithinSpec,
  BinderSlot,
  BinderType,
  TypedBinder,
  Sigil,
  Condition,
  Term,
  AggExpr,
  Call,
  CallArg,
  CallArgs,
  NamedArgs,
  Terms,
  MacroParam,
  MacroBody,
  MacroDef,
}
use Rattle.format.specs.Flat.{
  flat_texts,
  flat_unit,
  flat_interval,
  flat_within,
  flat_slot,
  flat_type,
  flat_binders,
  flat_cmp,
  flat_arith,
  length_terms,
  length_fields,
  length_args,
  flat_condition,
  flat_term,
  flat_agg,
  flat_call,
  flat_arg,
  flat_args,
  flat_fields,
  flat_terms,
  flat_params,
  flat_body,
  flat_def,
  flat_defs,
  flat_registry,
  open_flat,
}
use Rattle.nodes.specs.Node.{
  named,
  expect_at,
  past_items,
  past_entry_at,
  past_texts_at,
  past_params_at,
  past_heading_at,
  past_type_at,
  predicate_at,
  comparison_at,
  refine_at,
  sigil_at,
  condition_at,
  path_at,
  term_at,
  agg_at,
  slot_at,
  within_at,
  heading_at,
  argument_at,
  body_at,
  name_at,
}
use Rattle.tape.specs.declared.layout.Layout.{Layout}
use Rattle.tape.specs.declared.layout.Place.{Place}
use Rattle.nodes.specs.declared.Name.{Name}
use Rattle.nodes.specs.declared.Sigil.{Sigil as SigilNode}
use Rattle.nodes.specs.declared.Sigil.TheVariants as sigil
use Rattle.nodes.specs.declared.ConditionNode.{ConditionNode}
use Rattle.nodes.specs.declared.ConditionNode.TheVariants as condition
use Rattle.nodes.specs.declared.TermNode.{TermNode}
use Rattle.nodes.specs.declared.TermNode.TheVariants as term
use Rattle.nodes.specs.declared.AggNode.{AggNode}
use Rattle.nodes.specs.declared.AggNode.TheVariants as agg
use Rattle.nodes.specs.declared.SlotNode.{SlotNode}
use Rattle.nodes.specs.declared.SlotNode.TheVariants as slot
use Rattle.nodes.specs.declared.WithinNode.TheVariants as within
use Rattle.nodes.specs.declared.ArgNode.{ArgNode}
use Rattle.nodes.specs.declared.ArgNode.TheVariants as argument
use Rattle.nodes.specs.declared.BodyNode.{BodyNode}
use Rattle.nodes.specs.declared.BodyNode.TheVariants as body
use Rattle.tape.proofs.Located.{past, past_append, Inside, inside_front, inside_back, inside_next, RunsFrom, joined, runs_from, Parts, parts_of_lem}
use Rattle.nodes.proofs.Entries.{is_entry, is_expected, is_spelled, Named}

-- ------------------------------------------------------------------ texts

module _ {s : List ℕ} {l : Layout} where
  -- the way past an entry, and past texts
  past_entry : {p : Place} (e : Entry) {es : List Entry} → Inside s l p (e ∷ es) → past_entry_at s l e.code p ≡ Some (past (e ∷ []) p)
  past_entry e i = rw (is_expected i)

  pub past_texts : {p : Place} (ts : List Text) → Inside s l p (flat_texts ts) → past_texts_at s l p (length ts) ≡ Some (past (flat_texts ts) p)
  unfolding past_texts_at past_items flat_texts past
  past_texts [] i = refl
  past_texts {p = p} (t ∷ ts) i = rw (past_entry (text_entry 40 t) i) (past_texts {p = past (text_entry 40 t ∷ []) p} ts (inside_next (text_entry 40 t) (flat_texts ts) i))

  -- a list's count, and its items
  pub parts_list : {p : Place} (n : ℕ) (es : List Entry) → Inside s l p (entry 41 n ∷ es)
      → Parts s l p (entry 41 n ∷ []) (λ next. expect_at s l p 41 ≡ Some (n, next)) (es ∷ []) (past (entry 41 n ∷ es) p)
  parts_list n es i = parts_of_lem (entry 41 n ∷ []) es [] i (is_expected i)

-- ------------------------------------------------------------------ slots, types, withins

-- A slot with a name, read as `node` of it.
abbrev pub NamedSlot : List ℕ → Layout → Place → BinderSlot → (Name → SlotNode) → Text → Type 0
NamedSlot s l p v node n = Named s l (λ name. slot_at s l p ≡ Ok (node name, past (flat_slot v ∷ []) p)) n

abbrev pub SlotParts : List ℕ → Layout → Place → BinderSlot → Type 0
SlotParts s l p (BinderSlot.Name n) = NamedSlot s l p (BinderSlot.Name n) slot.Name n
SlotParts s l p (BinderSlot.ParamRef n) = NamedSlot s l p (BinderSlot.ParamRef n) slot.ParamRef n
SlotParts s l p (BinderSlot.BinderRef n) = NamedSlot s l p (BinderSlot.BinderRef n) slot.BinderRef n

module _ {s : List ℕ} {l : Layout} where
  -- the name of the entry at a place
  named_at : {p : Place} {e : Entry} {es : List Entry} (Reads : Name → Type 0) → Inside s l p (e ∷ es)
      → Reads (named p (length e.text)) → Named s l Reads e.text
  named_at {p} {e} Reads i r = record { name = named p (length e.text); read = r; spelled = is_spelled i }

  pub parts_slot : {p : Place} (v : BinderSlot) → Inside s l p (flat_slot v ∷ []) → SlotParts s l p v
  unfolding slot_at flat_slot
  parts_slot (BinderSlot.Name n) i = named_at _ i (rw (is_entry i))
  parts_slot (BinderSlot.ParamRef n) i = named_at _ i (rw (is_entry i))
  parts_slot (BinderSlot.BinderRef n) i = named_at _ i (rw (is_entry i))

-- an interval stands in a within as in an argument
abbrev pub WithinParts : List ℕ → Layout → Place → WithinSpec → Type 0
WithinParts s l p (WithinSpec.Concrete i) =
    within_at s l p ≡ Ok (within.Concrete, past (flat_within (WithinSpec.Concrete i) ∷ []) p)
WithinParts s l p (WithinSpec.ParamRef n) =
    Named s l (λ name. within_at s l p ≡ Ok (within.ParamRef name, past (flat_within (WithinSpec.ParamRef n) ∷ []) p)) n

module _ {s : List ℕ} {l : Layout} {p : Place} where
  pub parts_within : (w : WithinSpec) → Inside s l p (flat_within w ∷ []) → WithinParts s l p w
  unfolding within_at open_flat
  parts_within (WithinSpec.Concrete i) h = go i.unit h
    where
      go : (u : TimeUnit) → Inside s l p (entry (flat_unit u) i.amount ∷ [])
          → within_at s l p ≡ Ok (within.Concrete, past (entry (flat_unit u) i.amount ∷ []) p)
      go TimeUnit.Seconds h = rw (is_entry h)
      go TimeUnit.Minutes h = rw (is_entry h)
      go TimeUnit.Hours h = rw (is_entry h)
      go TimeUnit.Days h = rw (is_entry h)
      go TimeUnit.Weeks h = rw (is_entry h)
  parts_within (WithinSpec.ParamRef n) h = named_at _ h (rw (is_entry h))

  pub past_type : (t : BinderType) → Inside s l p (flat_type t) → past_type_at s l p ≡ Some (past (flat_type t) p)
  unfolding past_type_at flat_type
  past_type BinderType.Timepoint i = rw (is_entry i)
  past_type (BinderType.Named path) i =
      let texts = inside_next (entry 47 (length path)) (flat_texts path) i in
      rw (is_entry i) (past_texts path texts ∙ ap Some (sym (past_append (entry 47 (length path) ∷ []) (flat_texts path) p)))

-- ------------------------------------------------------------------ conditions

abbrev pub sigil_node : Sigil → SigilNode
sigil_node Sigil.Param = sigil.Param
sigil_node Sigil.Binder = sigil.Binder

-- a predicate's entries behind its 7, in front of the list of its fields
abbrev pub predicate_head : ℕ → List Text → Text → Text → List Entry
predicate_head own namespace action kind =
    entry 42 own ∷ entry 41 (length namespace) ∷ (flat_texts namespace ++ flat_texts (action ∷ kind ∷ []))

-- the list of fields with its count
abbrev pub field_list : NamedArgs → List Entry
field_list fs = entry 41 (length_fields fs) ∷ flat_fields fs

module _ (s : List ℕ) (l : Layout) (p : Place) where
  -- a condition of these own entries is read as this node, and these runs follow
  abbrev ConditionOf : Condition → List Entry → ConditionNode → List (List Entry) → Type 0
  ConditionOf c own node ess = Parts s l p own (λ next. condition_at s l p ≡ Ok (node, next)) ess (past (flat_condition c) p)

  abbrev pub ConditionParts : Condition → Type 0
  ConditionParts (Condition.And sp a b) =
      ConditionOf (Condition.And sp a b) (entry 1 sp ∷ []) (condition.And sp) (flat_condition a ∷ flat_condition b ∷ [])
  ConditionParts (Condition.Or sp a b) =
      ConditionOf (Condition.Or sp a b) (entry 2 sp ∷ []) (condition.Or sp) (flat_condition a ∷ flat_condition b ∷ [])
  ConditionParts (Condition.Not sp a) = ConditionOf (Condition.Not sp a) (entry 3 sp ∷ []) (condition.Not sp) (flat_condition a ∷ [])
  ConditionParts (Condition.Formerly sp w a) =
      ConditionOf (Condition.Formerly sp w a) (entry 4 sp ∷ []) (condition.Formerly sp) ((flat_within w ∷ []) ∷ flat_condition a ∷ [])
  ConditionParts (Condition.Previous sp w a) =
      ConditionOf (Condition.Previous sp w a) (entry 5 sp ∷ []) (condition.Previous sp) ((flat_within w ∷ []) ∷ flat_condition a ∷ [])
  ConditionParts (Condition.Since sp a w b) =
      ConditionOf (Condition.Since sp a w b) (entry 6 sp ∷ []) (condition.Since sp)
      (flat_condition a ∷ (flat_within w ∷ []) ∷ flat_condition b ∷ [])
  ConditionParts (Condition.Predicate sp o ns a k fs) =
      ConditionOf (Condition.Predicate sp o ns a k fs) (entry 7 sp ∷ predicate_head o ns a k) (condition.Predicate sp) (field_list fs ∷ [])
  ConditionParts (Condition.Comparison sp op a b) =
      ConditionOf (Condition.Comparison sp op a b) (entry 8 sp ∷ entry 53 (flat_cmp op) ∷ []) (condition.Comparison sp)
      (flat_term a ∷ flat_term b ∷ [])
  ConditionParts (Condition.Exists sp b a) =
      ConditionOf (Condition.Exists sp b a) (entry 9 sp ∷ []) (condition.Exists sp)
      ((flat_slot b.slot ∷ []) ∷ flat_type b.ty ∷ flat_condition a ∷ [])
  ConditionParts (Condition.Tp sp v) = ConditionOf (Condition.Tp sp v) (entry 10 sp ∷ []) (condition.Tp sp) ((flat_slot v ∷ []) ∷ [])
  ConditionParts (Condition.ConditionCall sp c) =
      ConditionOf (Condition.ConditionCall sp c) (entry 11 sp ∷ []) (condition.Call sp) (flat_call c ∷ [])
  ConditionParts (Condition.SigilRef sp g n) =
      Named s l
      (λ name. condition_at s l p ≡ Ok (condition.SigilRef sp (sigil_node g) name, past (flat_condition (Condition.SigilRef sp g n)) p)) n
  ConditionParts (Condition.Refine sp o a fs) =
      ConditionOf (Condition.Refine sp o a fs) (entry 13 sp ∷ entry 42 o ∷ []) (condition.Refine sp o) (flat_condition a ∷ field_list fs ∷ [])

-- the way to a predicate's fields
past_heading : {s : List ℕ} {l : Layout} {p : Place} (o : ℕ) (ns : List Text) (a k : Text) (es : List Entry)
    → Inside s l p (predicate_head o ns a k ++ es)
    → past_heading_at s l p ≡ Some (past (predicate_head o ns a k) p)
unfolding past_heading_at past
past_heading o ns a k es h =
    let two = flat_texts (a ∷ k ∷ []) in
    let i = inside_front (predicate_head o ns a k) es h in
    let list = inside_next (entry 42 o) (entry 41 (length ns) ∷ (flat_texts ns ++ two)) i in
    let texts = inside_next (entry 41 (length ns)) (flat_texts ns ++ two) list in
    rw (is_expected i, is_expected list, past_texts ns (inside_front (flat_texts ns) two texts))
    (past_texts (a ∷ k ∷ []) (inside_back (flat_texts ns) two texts) ∙ rw past_append)

module _ {s : List ℕ} {l : Layout} {p : Place} where
  pub parts_condition : (c : Condition) → Inside s l p (flat_condition c) → ConditionParts s l p c
  unfolding open_flat past condition_at predicate_at comparison_at refine_at sigil_at
  parts_condition (Condition.And sp a b) i = parts_of_lem (entry 1 sp ∷ []) (flat_condition a) (flat_condition b ∷ []) i (rw (is_entry i))
  parts_condition (Condition.Or sp a b) i = parts_of_lem (entry 2 sp ∷ []) (flat_condition a) (flat_condition b ∷ []) i (rw (is_entry i))
  parts_condition (Condition.Not sp a) i = parts_of_lem (entry 3 sp ∷ []) (flat_condition a) [] i (rw (is_entry i))
  parts_condition (Condition.Formerly sp w a) i =
      parts_of_lem (entry 4 sp ∷ []) (flat_within w ∷ []) (flat_condition a ∷ []) i (rw (is_entry i))
  parts_condition (Condition.Previous sp w a) i =
      parts_of_lem (entry 5 sp ∷ []) (flat_within w ∷ []) (flat_condition a ∷ []) i (rw (is_entry i))
  parts_condition (Condition.Since sp a w b) i =
      parts_of_lem (entry 6 sp ∷ []) (flat_condition a) ((flat_within w ∷ []) ∷ flat_condition b ∷ []) i (rw (is_entry i))
  parts_condition (Condition.Predicate sp o ns a k fs) i =
      let split : flat_texts ns ++ (flat_texts (a ∷ k ∷ []) ++ field_list fs) ≡ (flat_texts ns ++ flat_texts (a ∷ k ∷ [])) ++ field_list fs =
      sym (append_assoc (flat_texts ns) (flat_texts (a ∷ k ∷ [])) (field_list fs)) in
      let h : Inside s l p ((entry 7 sp ∷ predicate_head o ns a k) ++ field_list fs) = rw split at i in
      let behind = inside_next (entry 7 sp) (predicate_head o ns a k ++ field_list fs) h in
      rw split
      (parts_of_lem (entry 7 sp ∷ predicate_head o ns a k) (field_list fs) [] h
      (rw (is_entry h, past_heading o ns a k (field_list fs) behind)))
  parts_condition (Condition.Comparison sp op a b) i =
      let operator = inside_next (entry 8 sp) (entry 53 (flat_cmp op) ∷ flat_term a ++ flat_term b) i in
      parts_of_lem (entry 8 sp ∷ entry 53 (flat_cmp op) ∷ []) (flat_term a) (flat_term b ∷ []) i (rw (is_entry i, is_expected operator))
  parts_condition (Condition.Exists sp b a) i =
      parts_of_lem (entry 9 sp ∷ []) (flat_slot b.slot ∷ []) (flat_type b.ty ∷ flat_condition a ∷ []) i (rw (is_entry i))
  parts_condition (Condition.Tp sp v) i = parts_of_lem (entry 10 sp ∷ []) (flat_slot v ∷ []) [] i (rw (is_entry i))
  parts_condition (Condition.ConditionCall sp c) i = parts_of_lem (entry 11 sp ∷ []) (flat_call c) [] i (rw (is_entry i))
  parts_condition (Condition.SigilRef sp Sigil.Param n) i =
      let h = inside_next (entry 12 sp) (text_entry 58 n ∷ []) i in
      named_at _ h (rw (is_entry i, is_entry h))
  parts_condition (Condition.SigilRef sp Sigil.Binder n) i =
      let h = inside_next (entry 12 sp) (text_entry 59 n ∷ []) i in
      named_at _ h (rw (is_entry i, is_entry h))
  parts_condition (Condition.Refine sp o a fs) i =
      let own = inside_next (entry 13 sp) (entry 42 o ∷ flat_condition a ++ field_list fs) i in
      parts_of_lem (entry 13 sp ∷ entry 42 o ∷ []) (flat_condition a) (field_list fs ∷ []) i (rw (is_entry i, is_expected own))

-- ------------------------------------------------------------------ terms

module _ (s : List ℕ) (l : Layout) (p : Place) where
  abbrev TermOf : Term → List Entry → TermNode → List (List Entry) → Type 0
  TermOf t own node ess = Parts s l p own (λ next. term_at s l p ≡ Ok (node, next)) ess (past (flat_term t) p)

  -- a term with no term and no name of a variable in it; and one that is a name
  abbrev PlainTerm : Term → Type 0
  PlainTerm t = term_at s l p ≡ Ok (term.Plain, past (flat_term t) p)

  abbrev NamedTerm : Term → (Name → TermNode) → Text → Type 0
  NamedTerm t node n = Named s l (λ name. term_at s l p ≡ Ok (node name, past (flat_term t) p)) n

  abbrev pub TermParts : Term → Type 0
  TermParts (Term.Entity ty id) = PlainTerm (Term.Entity ty id)
  TermParts (Term.Integer n) = PlainTerm (Term.Integer n)
  TermParts (Term.Decimal t) = PlainTerm (Term.Decimal t)
  TermParts (Term.String t) = PlainTerm (Term.String t)
  TermParts (Term.Bool b) = PlainTerm (Term.Bool b)
  TermParts (Term.ContextField path) = PlainTerm (Term.ContextField path)
  TermParts (Term.ScopeField path) = PlainTerm (Term.ScopeField path)
  TermParts (Term.Var n) = NamedTerm (Term.Var n) term.Var n
  TermParts Term.Wildcard = PlainTerm Term.Wildcard
  TermParts (Term.Array ts) =
      TermOf (Term.Array ts) (entry 29 (length_terms ts) ∷ []) (term.Array (length_terms ts)) (flat_terms ts ∷ [])
  TermParts (Term.Agg a) = TermOf (Term.Agg a) (entry 30 0 ∷ []) term.Agg (flat_agg a ∷ [])
  TermParts (Term.Arith op a b) =
      TermOf (Term.Arith op a b) (entry 31 (flat_arith op) ∷ []) term.Arith (flat_term a ∷ flat_term b ∷ [])
  TermParts (Term.ParamRef n) = NamedTerm (Term.ParamRef n) term.ParamRef n
  TermParts (Term.BinderRef n) = NamedTerm (Term.BinderRef n) term.BinderRef n

-- a term of an entry and texts
path_term : {s : List ℕ} {l : Layout} {p : Place} (e : Entry) (ts : List Text) → Inside s l p (e ∷ flat_texts ts)
    → path_at s l (past (e ∷ []) p) (length ts) ≡ Ok (term.Plain, past (e ∷ flat_texts ts) p)
unfolding path_at past
path_term e ts i = rw (past_texts ts (inside_next e (flat_texts ts) i))

module _ {s : List ℕ} {l : Layout} {p : Place} where
  pub parts_term : (t : Term) → Inside s l p (flat_term t) → TermParts s l p t
  unfolding open_flat past term_at
  parts_term (Term.Entity ty id) i = rw (is_entry i) (path_term (entry 20 0) (ty ∷ id ∷ []) i)
  parts_term (Term.Integer n) i = rw (is_entry i)
  parts_term (Term.Decimal t) i = rw (is_entry i)
  parts_term (Term.String t) i = rw (is_entry i)
  parts_term (Term.Bool b) i = rw (is_entry i)
  parts_term (Term.ContextField path) i = rw (is_entry i) (path_term (entry 25 (length path)) path i)
  parts_term (Term.ScopeField path) i = rw (is_entry i) (path_term (entry 26 (length path)) path i)
  parts_term (Term.Var n) i = named_at _ i (rw (is_entry i))
  parts_term Term.Wildcard i = rw (is_entry i)
  parts_term (Term.Array ts) i = parts_of_lem (entry 29 (length_terms ts) ∷ []) (flat_terms ts) [] i (rw (is_entry i))
  parts_term (Term.Agg a) i = parts_of_lem (entry 30 0 ∷ []) (flat_agg a) [] i (rw (is_entry i))
  parts_term (Term.Arith op a b) i = parts_of_lem (entry 31 (flat_arith op) ∷ []) (flat_term a) (flat_term b ∷ []) i (rw (is_entry i))
  parts_term (Term.ParamRef n) i = named_at _ i (rw (is_entry i))
  parts_term (Term.BinderRef n) i = named_at _ i (rw (is_entry i))

-- ------------------------------------------------------------------ aggregates

-- the list of binders with its count
abbrev pub binder_list : List TypedBinder → List Entry
binder_list bs = entry 41 (length bs) ∷ flat_binders bs

module _ (s : List ℕ) (l : Layout) (p : Place) where
  abbrev AggOf : AggExpr → List Entry → AggNode → List (List Entry) → Type 0
  AggOf a own node ess = Parts s l p own (λ next. agg_at s l p ≡ Ok (node, next)) ess (past (flat_agg a) p)

  abbrev pub AggParts : AggExpr → Type 0
  AggParts (AggExpr.Sum sp v bs c) =
      AggOf (AggExpr.Sum sp v bs c) (entry 34 sp ∷ []) (agg.Sum sp) ((flat_slot v ∷ []) ∷ binder_list bs ∷ flat_condition c ∷ [])
  AggParts (AggExpr.Count sp bs c) =
      AggOf (AggExpr.Count sp bs c) (entry 35 sp ∷ []) (agg.Count sp) (binder_list bs ∷ flat_condition c ∷ [])
  AggParts (AggExpr.AggCall sp c) = AggOf (AggExpr.AggCall sp c) (entry 36 sp ∷ []) (agg.Call sp) (flat_call c ∷ [])

module _ {s : List ℕ} {l : Layout} {p : Place} where
  pub parts_agg : (a : AggExpr) → Inside s l p (flat_agg a) → AggParts s l p a
  unfolding open_flat past agg_at
  parts_agg (AggExpr.Sum sp v bs c) i =
      parts_of_lem (entry 34 sp ∷ []) (flat_slot v ∷ []) (binder_list bs ∷ flat_condition c ∷ []) i (rw (is_entry i))
  parts_agg (AggExpr.Count sp bs c) i = parts_of_lem (entry 35 sp ∷ []) (binder_list bs) (flat_condition c ∷ []) i (rw (is_entry i))
  parts_agg (AggExpr.AggCall sp c) i = parts_of_lem (entry 36 sp ∷ []) (flat_call c) [] i (rw (is_entry i))

-- ------------------------------------------------------------------ items of lists

module _ (s : List ℕ) (l : Layout) (p : Place) where
  -- a binder is a slot and a type
  abbrev pub BindersParts : List TypedBinder → Type 0
  BindersParts [] = past (flat_binders []) p ≡ p
  BindersParts (b ∷ bs) =
      RunsFrom s l p ((flat_slot b.slot ∷ []) ∷ flat_type b.ty ∷ flat_binders bs ∷ []) (past (flat_binders (b ∷ bs)) p)

  -- a field is 40 and a term
  abbrev pub FieldsParts : NamedArgs → Type 0
  FieldsParts NamedArgs.no_fields = past (flat_fields NamedArgs.no_fields) p ≡ p
  FieldsParts (NamedArgs.cons_field n t fs) =
      Parts s l p (text_entry 40 n ∷ []) (λ next. expect_at s l p 40 ≡ Some (length n, next)) (flat_term t ∷ flat_fields fs ∷ [])
      (past (flat_fields (NamedArgs.cons_field n t fs)) p)

  abbrev pub TermsParts : Terms → Type 0
  TermsParts Terms.no_terms = past (flat_terms Terms.no_terms) p ≡ p
  TermsParts (Terms.cons_term t ts) = RunsFrom s l p (flat_term t ∷ flat_terms ts ∷ []) (past (flat_terms (Terms.cons_term t ts)) p)

  abbrev pub ArgsParts : CallArgs → Type 0
  ArgsParts CallArgs.no_args = past (flat_args CallArgs.no_args) p ≡ p
  ArgsParts (CallArgs.cons_arg a rest) = RunsFrom s l p (flat_arg a ∷ flat_args rest ∷ []) (past (flat_args (CallArgs.cons_arg a rest)) p)

  abbrev pub DefsParts : List MacroDef → Type 0
  DefsParts [] = past (flat_defs []) p ≡ p
  DefsParts (d ∷ ds) = RunsFrom s l p (flat_def d ∷ flat_defs ds ∷ []) (past (flat_defs (d ∷ ds)) p)

module _ {s : List ℕ} {l : Layout} {p : Place} where
  pub parts_binders : (bs : List TypedBinder) → Inside s l p (flat_binders bs) → BindersParts s l p bs
  unfolding open_flat past
  parts_binders [] i = refl
  parts_binders (b ∷ bs) i = runs_from (flat_slot b.slot ∷ []) (flat_type b.ty ∷ flat_binders bs ∷ []) i

  pub parts_fields : (fs : NamedArgs) → Inside s l p (flat_fields fs) → FieldsParts s l p fs
  unfolding open_flat past
  parts_fields NamedArgs.no_fields i = refl
  parts_fields (NamedArgs.cons_field n t fs) i = parts_of_lem (text_entry 40 n ∷ []) (flat_term t) (flat_fields fs ∷ []) i (is_expected i)

  pub parts_terms : (ts : Terms) → Inside s l p (flat_terms ts) → TermsParts s l p ts
  unfolding open_flat past
  parts_terms Terms.no_terms i = refl
  parts_terms (Terms.cons_term t ts) i = runs_from (flat_term t) (flat_terms ts ∷ []) i

  pub parts_args : (args : CallArgs) → Inside s l p (flat_args args) → ArgsParts s l p args
  unfolding open_flat past
  parts_args CallArgs.no_args i = refl
  parts_args (CallArgs.cons_arg a rest) i = runs_from (flat_arg a) (flat_args rest ∷ []) i

  pub parts_defs : (ds : List MacroDef) → Inside s l p (flat_defs ds) → DefsParts s l p ds
  unfolding open_flat past
  parts_defs [] i = refl
  parts_defs (d ∷ ds) i = runs_from (flat_def d) (flat_defs ds ∷ []) i

-- ------------------------------------------------------------------ calls and their arguments

-- a call's or a definition's entries in front of its arguments or parameters
abbrev pub heading_entries : ℕ → ℕ → Text → ℕ → List Entry
heading_entries code span name count = entry code span ∷ text_entry 40 name ∷ entry 41 count ∷ []

-- They are read, the name is spelled, and what follows stands behind them.
pub record HeadingParts (s : List ℕ) (l : Layout) (p : Place) (code span : ℕ) (name : Text) (count : ℕ) (ess : List (List Entry)) (end : Place)
    : Type 0 where
  pub its_name : Name
  pub spelled : name_at s l its_name ≡ name
  pub parts : Parts s l p (heading_entries code span name count)
      (λ next. heading_at s l p code ≡ Ok (record { span = span; name = its_name; count = count }, next)) ess end

module _ {s : List ℕ} {l : Layout} {p : Place} where
  parts_heading : (code span : ℕ) (name : Text) (count : ℕ) (es : List Entry) (rest : List (List Entry))
      → Inside s l p (heading_entries code span name count ++ joined es rest)
      → HeadingParts s l p code span name count (es ∷ rest) (past (heading_entries code span name count ++ joined es rest) p)
  unfolding heading_at past
  parts_heading code span name count es rest i =
      let h = inside_next (entry code span) (text_entry 40 name ∷ entry 41 count ∷ joined es rest) i in
      let list = inside_next (text_entry 40 name) (entry 41 count ∷ joined es rest) h in
      record {
        its_name = named (past (entry code span ∷ []) p) (length name);
        spelled = is_spelled h;
        parts = parts_of_lem (heading_entries code span name count) es rest i (rw (is_expected i, is_expected h, is_expected list));
      }

  pub parts_call : (span : ℕ) (name : Text) (args : CallArgs) → Inside s l p (flat_call (Call.MacroCall span name args))
      → HeadingParts s l p 54 span name (length_args args) (flat_args args ∷ []) (past (flat_call (Call.MacroCall span name args)) p)
  unfolding open_flat
  parts_call span name args i = parts_heading 54 span name (length_args args) (flat_args args) [] i

module _ (s : List ℕ) (l : Layout) (p : Place) where
  abbrev ArgOf : CallArg → List Entry → ArgNode → List (List Entry) → Type 0
  ArgOf a own node ess = Parts s l p own (λ next. argument_at s l p ≡ Ok (node, next)) ess (past (flat_arg a) p)

  -- an interval stands there as a within does
  abbrev pub ArgParts : CallArg → Type 0
  ArgParts (CallArg.ConditionArg c) = ArgOf (CallArg.ConditionArg c) (entry 55 0 ∷ []) argument.Condition (flat_condition c ∷ [])
  ArgParts (CallArg.TermArg t) = ArgOf (CallArg.TermArg t) (entry 56 0 ∷ []) argument.Term (flat_term t ∷ [])
  ArgParts (CallArg.WithinArg v) =
      ArgOf (CallArg.WithinArg v) (entry 57 0 ∷ []) argument.Within ((flat_within (WithinSpec.Concrete v) ∷ []) ∷ [])

module _ {s : List ℕ} {l : Layout} {p : Place} where
  pub parts_arg : (a : CallArg) → Inside s l p (flat_arg a) → ArgParts s l p a
  unfolding open_flat past argument_at
  parts_arg (CallArg.ConditionArg c) i = parts_of_lem (entry 55 0 ∷ []) (flat_condition c) [] i (rw (is_entry i))
  parts_arg (CallArg.TermArg t) i = parts_of_lem (entry 56 0 ∷ []) (flat_term t) [] i (rw (is_entry i))
  parts_arg (CallArg.WithinArg v) i = parts_of_lem (entry 57 0 ∷ []) (flat_interval v ∷ []) [] i (rw (is_entry i))

-- ------------------------------------------------------------------ definitions

-- A parameter is its span and its name.
pub record ParamParts (s : List ℕ) (l : Layout) (p : Place) (q : MacroParam) (es : List Entry) (end : Place) : Type 0 where
  pub span : expect_at s l p 42 ≡ Some (q.span, past (entry 42 q.span ∷ []) p)
  pub name : Parts s l (past (entry 42 q.span ∷ []) p) (text_entry 40 q.name ∷ [])
      (λ next. expect_at s l (past (entry 42 q.span ∷ []) p) 40 ≡ Some (length q.name, next)) (es ∷ []) end
  pub spelled : name_at s l (named (past (entry 42 q.span ∷ []) p) (length q.name)) ≡ q.name

module _ (s : List ℕ) (l : Layout) (p : Place) where
  abbrev pub ParamsParts : List MacroParam → Type 0
  ParamsParts [] = past (flat_params []) p ≡ p
  ParamsParts (q ∷ qs) = ParamParts s l p q (flat_params qs) (past (flat_params (q ∷ qs)) p)

  abbrev BodyOf : MacroBody → List Entry → BodyNode → List (List Entry) → Type 0
  BodyOf b own node ess = Parts s l p own (λ next. body_at s l p ≡ Ok (node, next)) ess (past (flat_body b) p)

  abbrev pub BodyParts : MacroBody → Type 0
  BodyParts MacroBody.Cedar = body_at s l p ≡ Ok (body.Cedar, past (flat_body MacroBody.Cedar) p)
  BodyParts (MacroBody.TemporalCondition c) =
      BodyOf (MacroBody.TemporalCondition c) (entry 62 0 ∷ []) body.Condition (flat_condition c ∷ [])
  BodyParts (MacroBody.TemporalValue t) = BodyOf (MacroBody.TemporalValue t) (entry 63 0 ∷ []) body.Value (flat_term t ∷ [])

  -- a definition's parameters, then its body
  abbrev pub DefParts : MacroDef → Type 0
  DefParts d =
      HeadingParts s l p 60 d.span d.name (length d.params) (flat_params d.params ∷ flat_body d.body ∷ []) (past (flat_def d) p)

module _ {s : List ℕ} {l : Layout} where
  pub parts_params : {p : Place} (qs : List MacroParam) → Inside s l p (flat_params qs) → ParamsParts s l p qs
  unfolding open_flat past
  parts_params [] i = refl
  parts_params (q ∷ qs) i =
      let h = inside_next (entry 42 q.span) (text_entry 40 q.name ∷ flat_params qs) i in
      record {
        span = is_expected i;
        name = parts_of_lem (text_entry 40 q.name ∷ []) (flat_params qs) [] h (is_expected h);
        spelled = is_spelled h;
      }

  pub past_params : {p : Place} (qs : List MacroParam) → Inside s l p (flat_params qs)
      → past_params_at s l p (length qs) ≡ Some (past (flat_params qs) p)
  unfolding past_params_at past_items open_flat past
  past_params [] i = refl
  past_params {p = p} (q ∷ qs) i =
      let h = inside_next (entry 42 q.span) (text_entry 40 q.name ∷ flat_params qs) i in
      rw (is_expected i, is_expected h) (past_params {p = past (text_entry 40 q.name ∷ []) (past (entry 42 q.span ∷ []) p)} qs (inside_next (text_entry 40 q.name) (flat_params qs) h))

  pub parts_body : {p : Place} (b : MacroBody) → Inside s l p (flat_body b) → BodyParts s l p b
  unfolding open_flat past body_at
  parts_body MacroBody.Cedar i = rw (is_entry i)
  parts_body (MacroBody.TemporalCondition c) i = parts_of_lem (entry 62 0 ∷ []) (flat_condition c) [] i (rw (is_entry i))
  parts_body (MacroBody.TemporalValue t) i = parts_of_lem (entry 63 0 ∷ []) (flat_term t) [] i (rw (is_entry i))

  pub parts_def : {p : Place} (d : MacroDef) → Inside s l p (flat_def d) → DefParts s l p d
  unfolding open_flat
  parts_def d i =
      parts_heading 60 d.span d.name (length d.params) (flat_params d.params) (flat_body d.body ∷ []) i

  -- the list of definitions
  pub parts_registry : {p : Place} (ds : List MacroDef) → Inside s l p (flat_registry ds)
      → Parts s l p (entry 41 (length ds) ∷ []) (λ next. expect_at s l p 41 ≡ Some (length ds, next)) (flat_defs ds ∷ []) (past (flat_registry ds) p)
  unfolding flat_registry
  parts_registry ds i = parts_list (length ds) (flat_defs ds) i
