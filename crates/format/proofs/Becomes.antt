-- What the entries of a tree become when every Or is rewritten (`Becomes`, specs/DeMorgan.antt), and what holds of the rewritten ones,
-- shown here once and not of each kind of tree. The two sides of an Or are said to be conditions, so that whoever rewrites a tape can
-- find where the left one ends.
-- Assumes nothing.
use Prim.Native.Nat.{ℕ, ◌+◌, ◌*◌}
use native.Mathlib.Omega.{arith}
use mathlib.Core.Path.{◌≡◌, refl, sym, ◌∙◌, ap, ap₂}
use mathlib.Core.List.{List, [], ◌∷◌, ◌++◌}
use mathlib.Core.Bool.{Bool, true, false, ◌&&◌, ◌||◌, and_assoc, or_assoc}
use lib.Dec.{eqb, leb, le→leb}
use lib.ListN.{length, length-append}
use Rattle.format.specs.Entry.{Text, Entry, entry, text_of}
use Rattle.format.specs.Ast.{Condition, Term, AggExpr, Call, CallArg, CallArgs, NamedArgs, Terms, Tree, MacroBody, MacroDef}
use Rattle.format.specs.Flat.{flat_condition, flat_term, flat_agg, flat_call, flat_arg, flat_args, flat_fields, flat_terms, flat_tree, flat_body, flat_def, flat_defs, flat_registry}
use Rattle.format.specs.Macro.{is_macro, holds_macro, holds, tally}
use Rattle.format.specs.Limits.{weigh}
use Rattle.format.specs.Tape.{texts_within}
use Rattle.format.specs.Replace.{replace_condition, replace_term, replace_agg, replace_call, replace_arg, replace_args, replace_fields, replace_terms, replace_tree, replace_body, replace_def, replace_defs}
use Rattle.format.specs.DeMorgan.{de_morgan}
pub use Rattle.format.specs.DeMorgan.{Becomes, nothing, kept, joined, parted}
use Rattle.format.proofs.All.{All, all_nil, all_cons, all_head, all_tail, all_append, all_left, all_right}
use Rattle.format.proofs.Tests.{is_true}
use Rattle.format.proofs.Counts.{length_args_lem, length_fields_lem, length_terms_lem, length_defs}
use Rattle.format.proofs.Stands.{text_append}
use Rattle.format.proofs.Parts.{Later, Part, part_texts, later_interval, later_within, part_slot, part_binder, part_binders, part_sigil, part_params, later, later_no_or}

-- ------------------------------------------------------------------ trees

timed : {e : Entry} {es fs : List Entry} → Later e → Becomes es fs → Becomes (e ∷ es) (e ∷ fs)
timed {e} h b = kept (later_no_or e h) b

part : {e : Entry} {es fs : List Entry} → Part e → Becomes es fs → Becomes (e ∷ es) (e ∷ fs)
part {e} h b = timed (later e h) b

parts : {es : List Entry} → All Part es → Becomes es es
parts all_nil = nothing
parts (all_cons h f) = part h (parts f)

-- a count stays, though it is the count of other things
counted : {c m n : ℕ} {es fs : List Entry} → eqb c 2 ≡ false → m ≡ n → Becomes es fs → Becomes (entry c n ∷ es) (entry c m ∷ fs)
counted h e b = rw e (kept h b)

mutual
  unfolding flat_condition replace_condition de_morgan

  pub becomes_condition : (c : Condition) → Becomes (flat_condition c) (flat_condition (replace_condition de_morgan c))
  becomes_condition (Condition.Or s l r) = parted l r (becomes_condition l) (becomes_condition r)
  becomes_condition (Condition.And s l r) = kept refl (joined (becomes_condition l) (becomes_condition r))
  becomes_condition (Condition.Not s c) = kept refl (becomes_condition c)
  becomes_condition (Condition.Formerly s w c) = kept refl (timed (later_within w) (becomes_condition c))
  becomes_condition (Condition.Previous s w c) = kept refl (timed (later_within w) (becomes_condition c))
  becomes_condition (Condition.Since s l w r) =
      kept refl (joined (becomes_condition l) (timed (later_within w) (becomes_condition r)))
  becomes_condition (Condition.Predicate s o ns a k fs) =
      kept refl (kept refl (kept refl (joined (parts (part_texts ns)) (kept refl (kept refl (counted refl (length_fields_lem de_morgan fs) (becomes_fields fs)))))))
  becomes_condition (Condition.Comparison s op l r) = kept refl (kept refl (joined (becomes_term l) (becomes_term r)))
  becomes_condition (Condition.Exists s b c) = kept refl (joined (parts (part_binder b)) (becomes_condition c))
  becomes_condition (Condition.Tp s v) = kept refl (part (part_slot v) nothing)
  becomes_condition (Condition.ConditionCall s c) = kept refl (becomes_call c)
  becomes_condition (Condition.SigilRef s g n) = kept refl (part (part_sigil g n) nothing)
  becomes_condition (Condition.Refine s o c fs) =
      kept refl (kept refl (joined (becomes_condition c) (counted refl (length_fields_lem de_morgan fs) (becomes_fields fs))))

  pub becomes_term : (t : Term) → Becomes (flat_term t) (flat_term (replace_term de_morgan t))
  becomes_term (Term.Entity ty id) = kept refl (kept refl (kept refl nothing))
  becomes_term (Term.Integer n) = kept refl nothing
  becomes_term (Term.Decimal t) = kept refl nothing
  becomes_term (Term.String t) = kept refl nothing
  becomes_term (Term.Bool b) = kept refl nothing
  becomes_term (Term.ContextField path) = kept refl (parts (part_texts path))
  becomes_term (Term.ScopeField path) = kept refl (parts (part_texts path))
  becomes_term (Term.Var n) = kept refl nothing
  becomes_term Term.Wildcard = kept refl nothing
  becomes_term (Term.Array ts) = counted refl (length_terms_lem de_morgan ts) (becomes_terms ts)
  becomes_term (Term.Agg a) = kept refl (becomes_agg a)
  becomes_term (Term.Arith op l r) = kept refl (joined (becomes_term l) (becomes_term r))
  becomes_term (Term.ParamRef n) = kept refl nothing
  becomes_term (Term.BinderRef n) = kept refl nothing

  becomes_agg : (a : AggExpr) → Becomes (flat_agg a) (flat_agg (replace_agg de_morgan a))
  becomes_agg (AggExpr.Sum s v bs c) =
      kept refl (part (part_slot v) (kept refl (joined (parts (part_binders bs)) (becomes_condition c))))
  becomes_agg (AggExpr.Count s bs c) = kept refl (kept refl (joined (parts (part_binders bs)) (becomes_condition c)))
  becomes_agg (AggExpr.AggCall s c) = kept refl (becomes_call c)

  pub becomes_call : (c : Call) → Becomes (flat_call c) (flat_call (replace_call de_morgan c))
  becomes_call (Call.MacroCall s n args) = kept refl (kept refl (counted refl (length_args_lem de_morgan args) (becomes_args args)))

  becomes_arg : (a : CallArg) → Becomes (flat_arg a) (flat_arg (replace_arg de_morgan a))
  becomes_arg (CallArg.ConditionArg c) = kept refl (becomes_condition c)
  becomes_arg (CallArg.TermArg t) = kept refl (becomes_term t)
  becomes_arg (CallArg.WithinArg i) = kept refl (timed (later_interval i) nothing)

  becomes_args : (args : CallArgs) → Becomes (flat_args args) (flat_args (replace_args de_morgan args))
  becomes_args CallArgs.no_args = nothing
  becomes_args (CallArgs.cons_arg a rest) = joined (becomes_arg a) (becomes_args rest)

  becomes_fields : (fs : NamedArgs) → Becomes (flat_fields fs) (flat_fields (replace_fields de_morgan fs))
  becomes_fields NamedArgs.no_fields = nothing
  becomes_fields (NamedArgs.cons_field n t fs) = kept refl (joined (becomes_term t) (becomes_fields fs))

  becomes_terms : (ts : Terms) → Becomes (flat_terms ts) (flat_terms (replace_terms de_morgan ts))
  becomes_terms Terms.no_terms = nothing
  becomes_terms (Terms.cons_term t ts) = joined (becomes_term t) (becomes_terms ts)

pub becomes_tree : (t : Tree) → Becomes (flat_tree t) (flat_tree (replace_tree de_morgan t))
unfolding flat_tree replace_tree de_morgan
becomes_tree (Tree.condition c) = becomes_condition c
becomes_tree (Tree.term t) = becomes_term t

becomes_body : (b : MacroBody) → Becomes (flat_body b) (flat_body (replace_body de_morgan b))
unfolding flat_body replace_body de_morgan
becomes_body MacroBody.Cedar = kept refl nothing
becomes_body (MacroBody.TemporalCondition c) = kept refl (becomes_condition c)
becomes_body (MacroBody.TemporalValue t) = kept refl (becomes_term t)

pub becomes_definition : (d : MacroDef) → Becomes (flat_def d) (flat_def (replace_def de_morgan d))
unfolding flat_def replace_def de_morgan
becomes_definition d =
    kept refl (kept refl (kept refl (joined (parts (part_params d.params)) (becomes_body d.body))))

becomes_definitions : (ds : List MacroDef) → Becomes (flat_defs ds) (flat_defs (replace_defs de_morgan ds))
unfolding flat_defs replace_defs de_morgan
becomes_definitions [] = nothing
becomes_definitions (d ∷ ds) = joined (becomes_definition d) (becomes_definitions ds)

pub becomes_registry : (ds : List MacroDef) → Becomes (flat_registry ds) (flat_registry (replace_defs de_morgan ds))
unfolding flat_registry
becomes_registry ds = counted refl (length_defs de_morgan ds) (becomes_definitions ds)

-- ------------------------------------------------------------------ what holds of the rewritten entries

pub same_text : {es fs : List Entry} → Becomes es fs → text_of fs ≡ text_of es
unfolding text_of
same_text nothing = refl
same_text (kept {e = e} h b) = ap (λ (t : Text). e.text ++ t) (same_text b)
same_text (joined {es} {fs} {es'} {fs'} b b') =
    rw (text_append es es', text_append fs fs', same_text b, same_text b') refl
same_text (parted {s = s} l r {l' = l'} {r' = r'} b b') =
    rw (text_append (flat_condition l) (flat_condition r), text_append l' (entry 3 s ∷ r'), same_text b, same_text b') refl

pub tally_append : (k : ℕ) (es fs : List Entry) → tally k (es ++ fs) ≡ tally k es + tally k fs
unfolding tally
tally_append k [] fs = omega arith
tally_append k (e ∷ es) fs = omega (arith, tally_append k es fs)

-- a code that is counted nowhere stands nowhere
pub tally_none : (k : ℕ) (es : List Entry) → tally k es ≡ 0 → holds k es ≡ false
unfolding tally weigh holds
tally_none k [] h = refl
tally_none k (e ∷ es) h = go (eqb e.code k) h (tally_none k es (omega arith))
  where
    go : (b : Bool) → weigh b + tally k es ≡ 0 → holds k es ≡ false → (b || holds k es) ≡ false
    go true h r = absurd (omega arith)
    go false h r = r

-- three entries more for each Or
pub more_entries : {es fs : List Entry} → Becomes es fs → length fs ≡ length es + 3 * tally 2 es
unfolding tally weigh
more_entries nothing = refl
more_entries (kept {e = e} {es = es} h b) = omega (arith, no_weight (eqb e.code 2) h, more_entries b)
  where
    no_weight : (b : Bool) → b ≡ false → weigh b ≡ 0
    no_weight b h = rw h refl
more_entries (joined {es} {fs} {es'} {fs'} b b') =
    omega (arith, length-append es es', length-append fs fs', tally_append 2 es es', more_entries b, more_entries b')
more_entries (parted {s = s} l r {l' = l'} {r' = r'} b b') =
    omega (arith, length-append (flat_condition l) (flat_condition r), length-append l' (entry 3 s ∷ r'), tally_append 2 (flat_condition l) (flat_condition r), more_entries b, more_entries b')

-- what holds of every entry, and of the new ones if it holds of the old one
pub all_become : {P : Entry → Type 0} → ((s : ℕ) → P (entry 2 s) → P (entry 1 s) × P (entry 3 s)) → {es fs : List Entry} → Becomes es fs
    → All P es → All P fs
all_become f nothing h = h
all_become f (kept k b) h = all_cons (all_head h) (all_become f b (all_tail h))
all_become f (joined {es = es} b b') h =
    all_append (all_become f b (all_left es _ h)) (all_become f b' (all_right es h))
all_become f (parted {s = s} l r b b') h =
    let new = f s (all_head h) in
    all_cons new.1 (all_cons new.0 (all_cons new.1
    (all_append (all_become f b (all_left (flat_condition l) _ (all_tail h))) (all_cons new.1 (all_become f b' (all_right (flat_condition l) (all_tail h)))))))

-- an entry that is no Or
abbrev pub NoOr : Entry → Type 0
NoOr e = eqb e.code 2 ≡ false

pub become_no_or : {es fs : List Entry} → Becomes es fs → All NoOr fs
become_no_or nothing = all_nil
become_no_or (kept h b) = all_cons h (become_no_or b)
become_no_or (joined b b') = all_append (become_no_or b) (become_no_or b')
become_no_or (parted l r b b') =
    all_cons refl (all_cons refl (all_cons refl (all_append (become_no_or b) (all_cons refl (become_no_or b')))))

macro_append : (es fs : List Entry) → holds_macro (es ++ fs) ≡ (holds_macro es || holds_macro fs)
unfolding holds_macro
macro_append [] fs = refl
macro_append (e ∷ es) fs =
    rw (macro_append es fs) (sym (or_assoc (is_macro e.code) (holds_macro es) (holds_macro fs)))

pub same_macros : {es fs : List Entry} → Becomes es fs → holds_macro fs ≡ holds_macro es
unfolding holds_macro is_macro
same_macros nothing = refl
same_macros (kept {e = e} h b) = ap (λ (x : Bool). is_macro e.code || x) (same_macros b)
same_macros (joined {es} {fs} {es'} {fs'} b b') =
    rw (macro_append es es', macro_append fs fs', same_macros b, same_macros b') refl
same_macros (parted {s = s} l r {l' = l'} {r' = r'} b b') =
    rw (macro_append (flat_condition l) (flat_condition r), macro_append l' (entry 3 s ∷ r'), same_macros b, same_macros b') refl

short_append : (most : ℕ → ℕ) (es fs : List Entry) → texts_within most (es ++ fs) ≡ (texts_within most es && texts_within most fs)
unfolding texts_within
short_append most [] fs = refl
short_append most (e ∷ es) fs =
    rw (short_append most es fs)
    (sym (and_assoc (leb (length e.text) (most e.code)) (texts_within most es) (texts_within most fs)))

-- an entry without text
no_text : (most : ℕ → ℕ) (c s : ℕ) (es : List Entry) → texts_within most (entry c s ∷ es) ≡ texts_within most es
unfolding texts_within
no_text most c s es = go (leb 0 (most c)) (is_true (le→leb 0 (most c) (omega arith)))
  where
    go : (b : Bool) → b ≡ true → (b && texts_within most es) ≡ texts_within most es
    go b h = rw h refl

pub same_texts : (most : ℕ → ℕ) {es fs : List Entry} → Becomes es fs → texts_within most fs ≡ texts_within most es
unfolding texts_within
same_texts most nothing = refl
same_texts most (kept {e = e} h b) =
    ap (λ (x : Bool). leb (length e.text) (most e.code) && x) (same_texts most b)
same_texts most (joined {es} {fs} {es'} {fs'} b b') =
    rw (short_append most es es', short_append most fs fs', same_texts most b, same_texts most b') refl
same_texts most (parted {s = s} l r {l' = l'} {r' = r'} b b') =
    let both : List Entry = l' ++ entry 3 s ∷ r' in
    no_text most 3 s (entry 1 s ∷ entry 3 s ∷ both)
    ∙ (no_text most 1 s (entry 3 s ∷ both)
    ∙ (no_text most 3 s both
    ∙ (short_append most l' (entry 3 s ∷ r')
    ∙ (ap₂ ◌&&◌ (same_texts most b) (no_text most 3 s r' ∙ same_texts most b') ∙ (sym (short_append most (flat_condition l) (flat_condition r)) ∙ sym (no_text most 2 s (flat_condition l ++ flat_condition r)))))))
