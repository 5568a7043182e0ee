-- Document 02, point 7, as what is promised of a merge: `Merges g` says of any function g from two tapes, case by case as the paper
-- tells them, what it returns and what it writes. The theorems are `merges` of proofs/Merges.antt, that ours meets it, and
-- `determined` there, that whatever meets it answers as ours does on every input. 10 and 11 are `build`'s, 01's registry operation. What
-- the merged registry does in an expansion, point 7's last sentence ("the same result, charge included"), is `MergeKeeps` of
-- specs/Merge.antt.
-- Assumes nothing.
use Rattle.std.specs.Prelude.{ℕ, ◌<◌, ◌≤◌, ◌≡◌, ◌⊎◌, List, [], ◌∷◌, ◌++◌, Bool as Boolean, length}
use Rattle.std.proofs.Math.Option.{none, some}
use Rattle.format.specs.Entry.{Text, text_of, encode}
use Rattle.format.specs.Ast.{Interval, WithinSpec, BinderSlot, TypedBinder, Sigil, CmpOp, ArithOp, Condition, Term, AggExpr, Call, CallArg, CallArgs, NamedArgs, Terms, MacroParam, MacroBody, MacroDef}
use Rattle.format.specs.Flat.{flat_registry}
use Rattle.format.specs.Names.{◌∈◌}
use Rattle.format.specs.Tape.{Reading, registry_root, read}
use Rattle.definition.specs.Outcome.{Refusal}
use Rattle.definition.specs.Registry.{build}
use Rattle.definition.specs.Answers.{Answer, without_work}
use Rattle.definition.specs.Returned.{Gives, Refuses, RefusesAlone, Unread, ShortResult, ShortMessage}

-- ------------------------------------------------------------------ "agree in everything but spans"

-- Trees of one shape whose spans may be any two: those of conditions, aggregates and calls (01's codes 1 to 13, 34 to 36 and 54), and
-- a predicate's or a refinement's own (42). What has no span, as a within, a slot, a type, an operator, a number or a text, is the same.
-- `Or` is never met here, as `read` gives the rewritten tree (point 12).
mutual
  pub data SameCondition : Condition → Condition → Type 0 where
    And : {s s' : ℕ} {l l' r r' : Condition} → SameCondition l l' → SameCondition r r'
        → SameCondition (Condition.And s l r) (Condition.And s' l' r')
    Or : {s s' : ℕ} {l l' r r' : Condition} → SameCondition l l' → SameCondition r r'
        → SameCondition (Condition.Or s l r) (Condition.Or s' l' r')
    Not : {s s' : ℕ} {c c' : Condition} → SameCondition c c' → SameCondition (Condition.Not s c) (Condition.Not s' c')
    Formerly : {s s' : ℕ} {w : WithinSpec} {c c' : Condition} → SameCondition c c'
        → SameCondition (Condition.Formerly s w c) (Condition.Formerly s' w c')
    Previous : {s s' : ℕ} {w : WithinSpec} {c c' : Condition} → SameCondition c c'
        → SameCondition (Condition.Previous s w c) (Condition.Previous s' w c')
    Since : {s s' : ℕ} {l l' : Condition} {w : WithinSpec} {r r' : Condition} → SameCondition l l' → SameCondition r r'
        → SameCondition (Condition.Since s l w r) (Condition.Since s' l' w r')
    Predicate : {s s' o o' : ℕ} {ns : List Text} {a k : Text} {fs fs' : NamedArgs} → SameFields fs fs'
        → SameCondition (Condition.Predicate s o ns a k fs) (Condition.Predicate s' o' ns a k fs')
    Comparison : {s s' : ℕ} {op : CmpOp} {l l' r r' : Term} → SameTerm l l' → SameTerm r r'
        → SameCondition (Condition.Comparison s op l r) (Condition.Comparison s' op l' r')
    Exists : {s s' : ℕ} {b : TypedBinder} {c c' : Condition} → SameCondition c c'
        → SameCondition (Condition.Exists s b c) (Condition.Exists s' b c')
    Tp : {s s' : ℕ} {v : BinderSlot} → SameCondition (Condition.Tp s v) (Condition.Tp s' v)
    ConditionCall : {s s' : ℕ} {c c' : Call} → SameCall c c' → SameCondition (Condition.ConditionCall s c) (Condition.ConditionCall s' c')
    SigilRef : {s s' : ℕ} {g : Sigil} {n : Text} → SameCondition (Condition.SigilRef s g n) (Condition.SigilRef s' g n)
    Refine : {s s' o o' : ℕ} {c c' : Condition} {fs fs' : NamedArgs} → SameCondition c c' → SameFields fs fs'
        → SameCondition (Condition.Refine s o c fs) (Condition.Refine s' o' c' fs')

  pub data SameTerm : Term → Term → Type 0 where
    Entity : {ty id : Text} → SameTerm (Term.Entity ty id) (Term.Entity ty id)
    Integer : {bits : ℕ} → SameTerm (Term.Integer bits) (Term.Integer bits)
    Decimal : {t : Text} → SameTerm (Term.Decimal t) (Term.Decimal t)
    String : {t : Text} → SameTerm (Term.String t) (Term.String t)
    Bool : {b : Boolean} → SameTerm (Term.Bool b) (Term.Bool b)
    ContextField : {path : List Text} → SameTerm (Term.ContextField path) (Term.ContextField path)
    ScopeField : {path : List Text} → SameTerm (Term.ScopeField path) (Term.ScopeField path)
    Var : {n : Text} → SameTerm (Term.Var n) (Term.Var n)
    Wildcard : SameTerm Term.Wildcard Term.Wildcard
    Array : {ts ts' : Terms} → SameTerms ts ts' → SameTerm (Term.Array ts) (Term.Array ts')
    Agg : {a a' : AggExpr} → SameAgg a a' → SameTerm (Term.Agg a) (Term.Agg a')
    Arith : {op : ArithOp} {l l' r r' : Term} → SameTerm l l' → SameTerm r r' → SameTerm (Term.Arith op l r) (Term.Arith op l' r')
    ParamRef : {n : Text} → SameTerm (Term.ParamRef n) (Term.ParamRef n)
    BinderRef : {n : Text} → SameTerm (Term.BinderRef n) (Term.BinderRef n)

  pub data SameAgg : AggExpr → AggExpr → Type 0 where
    Sum : {s s' : ℕ} {v : BinderSlot} {bs : List TypedBinder} {c c' : Condition} → SameCondition c c'
        → SameAgg (AggExpr.Sum s v bs c) (AggExpr.Sum s' v bs c')
    Count : {s s' : ℕ} {bs : List TypedBinder} {c c' : Condition} → SameCondition c c'
        → SameAgg (AggExpr.Count s bs c) (AggExpr.Count s' bs c')
    AggCall : {s s' : ℕ} {c c' : Call} → SameCall c c' → SameAgg (AggExpr.AggCall s c) (AggExpr.AggCall s' c')

  pub data SameCall : Call → Call → Type 0 where
    MacroCall : {s s' : ℕ} {n : Text} {args args' : CallArgs} → SameArgs args args'
        → SameCall (Call.MacroCall s n args) (Call.MacroCall s' n args')

  pub data SameArg : CallArg → CallArg → Type 0 where
    ConditionArg : {c c' : Condition} → SameCondition c c' → SameArg (CallArg.ConditionArg c) (CallArg.ConditionArg c')
    TermArg : {t t' : Term} → SameTerm t t' → SameArg (CallArg.TermArg t) (CallArg.TermArg t')
    WithinArg : {i : Interval} → SameArg (CallArg.WithinArg i) (CallArg.WithinArg i)

  pub data SameArgs : CallArgs → CallArgs → Type 0 where
    no_args : SameArgs CallArgs.no_args CallArgs.no_args
    cons_arg : {a a' : CallArg} {rest rest' : CallArgs} → SameArg a a' → SameArgs rest rest'
        → SameArgs (CallArgs.cons_arg a rest) (CallArgs.cons_arg a' rest')

  pub data SameFields : NamedArgs → NamedArgs → Type 0 where
    no_fields : SameFields NamedArgs.no_fields NamedArgs.no_fields
    cons_field : {n : Text} {t t' : Term} {fs fs' : NamedArgs} → SameTerm t t' → SameFields fs fs'
        → SameFields (NamedArgs.cons_field n t fs) (NamedArgs.cons_field n t' fs')

  pub data SameTerms : Terms → Terms → Type 0 where
    no_terms : SameTerms Terms.no_terms Terms.no_terms
    cons_term : {t t' : Term} {ts ts' : Terms} → SameTerm t t' → SameTerms ts ts'
        → SameTerms (Terms.cons_term t ts) (Terms.cons_term t' ts')

-- a parameter's span is a 42 of its own
pub data SameParams : List MacroParam → List MacroParam → Type 0 where
  no_params : SameParams [] []
  cons_param : {p p' : MacroParam} {ps ps' : List MacroParam} → p.name ≡ p'.name → SameParams ps ps' → SameParams (p ∷ ps) (p' ∷ ps')

pub data SameBody : MacroBody → MacroBody → Type 0 where
  Cedar : SameBody MacroBody.Cedar MacroBody.Cedar
  TemporalCondition : {c c' : Condition} → SameCondition c c' → SameBody (MacroBody.TemporalCondition c) (MacroBody.TemporalCondition c')
  TemporalValue : {t t' : Term} → SameTerm t t' → SameBody (MacroBody.TemporalValue t) (MacroBody.TemporalValue t')

-- two definitions that "agree in everything but spans", their own (60) too
pub record ButSpans (d e : MacroDef) : Type 0 where
  pub name : d.name ≡ e.name
  pub params : SameParams d.params e.params
  pub body : SameBody d.body e.body

-- ------------------------------------------------------------------ the second registry's names, beside the first's

-- a name that "the first lacks", and one that it has
abbrev pub Lacks : List MacroDef → Text → Type 0
Lacks first name = (e : MacroDef) → e ∈ first → e.name ≡ name → ⊥

abbrev pub Has : List MacroDef → Text → Type 0
Has first name = (e : MacroDef) × (e ∈ first) × (e.name ≡ name)

-- "A name in both" whose "two definitions agree", or a name of the second alone
abbrev pub Accords : List MacroDef → MacroDef → Type 0
Accords first d = (e : MacroDef) → e ∈ first → e.name ≡ d.name → ButSpans e d

-- a name in both whose two definitions do not agree
pub record Differs (first : List MacroDef) (d : MacroDef) : Type 0 where
  pub other : MacroDef
  pub of_first : other ∈ first
  pub same_name : other.name ≡ d.name
  pub disagree : ButSpans other d → ⊥

-- "the second definition" of "the second tape's first name that differs"
pub data FirstDiffers (first : List MacroDef) : List MacroDef → MacroDef → Type 0 where
  here : {d : MacroDef} {ds : List MacroDef} → Differs first d → FirstDiffers first (d ∷ ds) d
  later : {x d : MacroDef} {ds : List MacroDef} → Accords first x → FirstDiffers first ds d → FirstDiffers first (x ∷ ds) d

abbrev pub NoneDiffers : (first second : List MacroDef) → Type 0
NoneDiffers first second = (d : MacroDef) → d ∈ second → Accords first d

-- "those of the second whose names the first lacks", in the second's order
pub data Added (first : List MacroDef) : (second added : List MacroDef) → Type 0 where
  no_more : Added first [] []
  adds : {d : MacroDef} {ds added : List MacroDef} → Lacks first d.name → Added first ds added → Added first (d ∷ ds) (d ∷ added)
  leaves : {d : MacroDef} {ds added : List MacroDef} → Has first d.name → Added first ds added → Added first (d ∷ ds) added

-- "the first one's definitions in order, then those of the second whose names the first lacks"; of "a name in both" the first's
-- definition stays, and so "the first's spans stay"
pub record Joined (first second all : List MacroDef) : Type 0 where
  pub added : List MacroDef
  pub of_second : Added first second added
  pub first_then_added : all ≡ first ++ added

-- "if the merged tape is too large": "N 1,024; T 3,072"
abbrev pub TooLarge : List MacroDef → Type 0
TooLarge all = (1024 < length (flat_registry all)) ⊎ (3072 < length (text_of (flat_registry all)))

abbrev pub Fits : List MacroDef → Type 0
Fits all = (length (flat_registry all) ≤ 1024) × (length (text_of (flat_registry all)) ≤ 3072)

-- ------------------------------------------------------------------ what is promised

-- buffers that are long enough, and two tapes that are read as these registries
pub record BothRead (r m : ℕ) (x y : List ℕ) (first second : List MacroDef) : Type 0 where
  pub long_result : 12296 ≤ r
  pub long_message : 2048 ≤ m
  pub first_read : read registry_root x ≡ Reading.accepted first
  pub second_read : read registry_root y ≡ Reading.accepted second

-- and "Both inputs must pass 10 and 11"
pub record BothPass (r m : ℕ) (x y : List ℕ) (first second : List MacroDef) : Type 0 where
  pub both_read : BothRead r m x y first second
  pub first_passes : build first ≡ none
  pub second_passes : build second ≡ none

-- Of a function g from the lengths of the result and message buffers, r and m, and the two tapes, x and y: one field for each case, so
-- that every input is in one of them.
pub record Merges (g : (result_length message_length : ℕ) → (first second : List ℕ) → Answer) : Type 0 where
  -- "result below 12,296 bytes, … or message below 2,048" is 1
  pub short : (r m : ℕ) (x y : List ℕ) → ShortResult (without_work r m) ⊎ ShortMessage (without_work r m)
      → RefusesAlone (without_work r m) 1 (g r m x y)
  -- then the first tape's 2 and 3, then the second's
  pub first_unread : (r m : ℕ) (x y : List ℕ) (why : ℕ) → 12296 ≤ r → 2048 ≤ m → Unread (read registry_root x) why
      → RefusesAlone (without_work r m) why (g r m x y)
  pub second_unread : (r m : ℕ) (x y : List ℕ) (first : List MacroDef) (why : ℕ) → 12296 ≤ r → 2048 ≤ m
      → read registry_root x ≡ Reading.accepted first → Unread (read registry_root y) why
      → RefusesAlone (without_work r m) why (g r m x y)
  -- "Both inputs must pass 10 and 11, the first before the second, after both tapes' 2 and 3": what is refused of a registry, with
  -- its span and message
  pub first_refused : (r m : ℕ) (x y : List ℕ) (first second : List MacroDef) (v : Refusal) → BothRead r m x y first second
      → build first ≡ some v
      → Refuses (without_work r m) v.number v.span v.message 0 (g r m x y)
  pub second_refused : (r m : ℕ) (x y : List ℕ) (first second : List MacroDef) (v : Refusal) → BothRead r m x y first second
      → build first ≡ none → build second ≡ some v
      → Refuses (without_work r m) v.number v.span v.message 0 (g r m x y)
  -- "51 with the second definition's span for the second tape's first name that differs, after 11"
  pub differs : (r m : ℕ) (x y : List ℕ) (first second : List MacroDef) (d : MacroDef) → BothPass r m x y first second
      → FirstDiffers first second d
      → Refuses (without_work r m) 51 d.span [] 0 (g r m x y)
  -- "then 3 with 0..0 if the merged tape is too large"
  pub too_large : (r m : ℕ) (x y : List ℕ) (first second all : List MacroDef) → BothPass r m x y first second
      → NoneDiffers first second → Joined first second all → TooLarge all
      → RefusesAlone (without_work r m) 3 (g r m x y)
  -- "Merge the two into one registry tape"
  pub merged : (r m : ℕ) (x y : List ℕ) (first second all : List MacroDef) → BothPass r m x y first second
      → NoneDiffers first second → Joined first second all → Fits all
      → Gives (without_work r m) (encode (flat_registry all)) 0 (g r m x y)
