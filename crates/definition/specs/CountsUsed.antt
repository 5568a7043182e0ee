-- Document 02, point 9, as what is promised of the counts: `CountsUsed built g` says of any functions built, from a registry, and g, from
-- an expansion and the state that it was given, which counts they hand back, case by case as the paper tells them. The theorems are
-- `counts_used` of proofs/CountsUsed.antt, that ours meet it, and `determined` there, that whatever meets it hands back what ours do, on
-- every input and every state.
-- Assumes nothing.
use Rattle.std.specs.Prelude.{ℕ, ◌+◌, ◌<◌, ◌≤◌, ◌≡◌, ◌≢◌, min, List, [], ◌∷◌, Bool as Boolean, false, ◌&&◌, eqb, length}
use Rattle.format.specs.Entry.{Text, Entry}
use Rattle.format.specs.Ast.{Condition, Term, AggExpr, Call, CallArg, CallArgs, NamedArgs, Terms, MacroDef}
use Rattle.format.specs.Flat.{flat_condition}
use Rattle.format.specs.Limits.{weigh}
use Rattle.format.specs.Tape.{Reading, condition_root, registry_root, read, Bytes}
use Rattle.definition.specs.Text.{eq_text}
use Rattle.definition.specs.Answers.{Buffers, expand_answer}
use Rattle.definition.specs.Residue.{ClearCondition}
use Rattle.definition.specs.Counts.{Expansion}
use Rattle.definition.specs.Returned.{At}

-- ------------------------------------------------------------------ what expansion enters

-- The tree without the places that expansion does not enter: "Fields of a Refine are not inspected. In a field only arrays are entered; in
-- an operand only aggregates, arithmetic and calls." So no field of a predicate or of a refinement, and no item of an operand's array:
-- a call that stands there is not substituted. All else is kept as it is, the arguments of a call among it, whether its body uses them
-- or not.
unfoldable mutual
  pub entered_condition : Condition → Condition
  entered_condition (Condition.And s l r) = Condition.And s (entered_condition l) (entered_condition r)
  entered_condition (Condition.Or s l r) = Condition.Or s (entered_condition l) (entered_condition r)
  entered_condition (Condition.Not s c) = Condition.Not s (entered_condition c)
  entered_condition (Condition.Formerly s w c) = Condition.Formerly s w (entered_condition c)
  entered_condition (Condition.Previous s w c) = Condition.Previous s w (entered_condition c)
  entered_condition (Condition.Since s l w r) = Condition.Since s (entered_condition l) w (entered_condition r)
  entered_condition (Condition.Predicate s o ns a k fs) = Condition.Predicate s o ns a k NamedArgs.no_fields
  entered_condition (Condition.Comparison s op l r) = Condition.Comparison s op (entered_operand l) (entered_operand r)
  entered_condition (Condition.Exists s b c) = Condition.Exists s b (entered_condition c)
  entered_condition (Condition.Tp s v) = Condition.Tp s v
  entered_condition (Condition.ConditionCall s c) = Condition.ConditionCall s (entered_call c)
  entered_condition (Condition.SigilRef s g n) = Condition.SigilRef s g n
  entered_condition (Condition.Refine s o c fs) = Condition.Refine s o (entered_condition c) NamedArgs.no_fields

  pub entered_operand : Term → Term
  entered_operand (Term.Entity ty id) = Term.Entity ty id
  entered_operand (Term.Integer n) = Term.Integer n
  entered_operand (Term.Decimal t) = Term.Decimal t
  entered_operand (Term.String t) = Term.String t
  entered_operand (Term.Bool b) = Term.Bool b
  entered_operand (Term.ContextField path) = Term.ContextField path
  entered_operand (Term.ScopeField path) = Term.ScopeField path
  entered_operand (Term.Var n) = Term.Var n
  entered_operand Term.Wildcard = Term.Wildcard
  entered_operand (Term.Array ts) = Term.Array Terms.no_terms
  entered_operand (Term.Agg a) = Term.Agg (entered_agg a)
  entered_operand (Term.Arith op l r) = Term.Arith op (entered_operand l) (entered_operand r)
  entered_operand (Term.ParamRef n) = Term.ParamRef n
  entered_operand (Term.BinderRef n) = Term.BinderRef n

  pub entered_agg : AggExpr → AggExpr
  entered_agg (AggExpr.Sum s v bs c) = AggExpr.Sum s v bs (entered_condition c)
  entered_agg (AggExpr.Count s bs c) = AggExpr.Count s bs (entered_condition c)
  entered_agg (AggExpr.AggCall s c) = AggExpr.AggCall s (entered_call c)

  pub entered_call : Call → Call
  entered_call (Call.MacroCall s n args) = Call.MacroCall s n (entered_args args)

  pub entered_arg : CallArg → CallArg
  entered_arg (CallArg.ConditionArg c) = CallArg.ConditionArg (entered_condition c)
  entered_arg (CallArg.TermArg t) = CallArg.TermArg (entered_operand t)
  entered_arg (CallArg.WithinArg i) = CallArg.WithinArg i

  pub entered_args : CallArgs → CallArgs
  entered_args CallArgs.no_args = CallArgs.no_args
  entered_args (CallArgs.cons_arg a rest) = CallArgs.cons_arg (entered_arg a) (entered_args rest)

-- ------------------------------------------------------------------ how many calls

-- "54: call: S; 40 name, list of arguments": how often a 54 with this name in its 40 stands among some entries
unfoldable pub named_next : Text → List Entry → Boolean
named_next name [] = false
named_next name (e ∷ es) = eqb e.code 40 && eq_text name e.text

unfoldable pub calls_spelled : Text → List Entry → ℕ
calls_spelled name [] = 0
calls_spelled name (e ∷ es) = weigh (eqb e.code 54 && named_next name es) + calls_spelled name es

-- "how many of its calls were substituted without refusal", in an expansion of this condition that is not refused: each call that
-- expansion enters is substituted once, a value macro's as a condition macro's, and one in an argument as any other. "A call inside an
-- unused argument counts."
unfoldable pub calls_entered : Text → Condition → ℕ
calls_entered name c = calls_spelled name (flat_condition (entered_condition c))

-- They are all its calls where the places that expansion does not enter hold no call, no sigil and no refinement: `all_calls_entered` of
-- proofs/CallsSpelled.antt.
abbrev pub AllCallsEntered : Type 0
AllCallsEntered = (name : Text) (c : Condition) → ClearCondition c → calls_entered name c ≡ calls_spelled name (flat_condition c)

-- ------------------------------------------------------------------ what is promised

-- from the length of the message buffer and the registry's tape, the state of the registry just built
abbrev pub Builds : Type 0
Builds = (message_length : ℕ) → (registry : List ℕ) → List ℕ

-- from the buffers, the limit, the file number, the tapes of registry and condition and the state that is given, the state that is handed
-- back
abbrev pub HandsBack : Type 0
HandsBack = Buffers → (limit file : ℕ) → (registry input state : List ℕ) → List ℕ

-- an expansion of this condition with these definitions, whose answer is not a refusal: "Success is 0"
pub record Succeeds (b : Buffers) (limit file : ℕ) (x y : List ℕ) (defs : List MacroDef) (c : Condition) : Type 0 where
  pub its_defs : read registry_root x ≡ Reading.accepted defs
  pub its_condition : read condition_root y ≡ Reading.accepted c
  pub is_0 : (expand_answer b limit file x y).number ≡ 0

-- "The registry state holds for each definition how many of its calls were substituted without refusal, and expansion hands it back": a
-- list of counts, in the order of the definitions. The tapes of registry and condition are x and y.
pub record CountsUsed (built : Builds) (g : HandsBack) : Type 0 where
  -- "Counts start at 0 when the registry is built": 255 of them, as many as the definitions that 1,024 entries have room for
  pub start_at_0 : (m : ℕ) (x : List ℕ) (i k : ℕ) → At (built m x) i k → k ≡ 0
  pub cells_built : (m : ℕ) (x : List ℕ) → length (built m x) ≡ 255
  -- "A refused expansion gives back the counts it was given", whatever its number
  pub refused : (b : Buffers) (limit file : ℕ) (x y state : List ℕ) → (expand_answer b limit file x y).number ≢ 0
      → g b limit file x y state ≡ state
  -- of one that is not refused, each definition's count is raised by the number of its calls;
  pub raised : (b : Buffers) (limit file : ℕ) (x y state : List ℕ) (defs : List MacroDef) (c : Condition)
      → Succeeds b limit file x y defs c
      → (i k : ℕ) (d : MacroDef) → At defs i d → At state i k → k + calls_entered d.name c ≤ 4294967295
      → At (g b limit file x y state) i (k + calls_entered d.name c)
  -- "A count that would pass 4,294,967,295 stays there";
  pub at_the_ceiling : (b : Buffers) (limit file : ℕ) (x y state : List ℕ) (defs : List MacroDef) (c : Condition)
      → Succeeds b limit file x y defs c
      → (i k : ℕ) (d : MacroDef) → At defs i d → At state i k → 4294967295 < k + calls_entered d.name c
      → At (g b limit file x y state) i 4294967295
  -- cells behind the last definition's are handed back as they were given; and there are as many cells as before.
  pub behind_the_last : (b : Buffers) (limit file : ℕ) (x y state : List ℕ) (defs : List MacroDef) (c : Condition)
      → Succeeds b limit file x y defs c
      → (i k : ℕ) → length defs ≤ i → At state i k
      → At (g b limit file x y state) i k
  pub as_many_cells : (b : Buffers) (limit file : ℕ) (x y state : List ℕ) (defs : List MacroDef) (c : Condition)
      → Succeeds b limit file x y defs c
      → length (g b limit file x y state) ≡ length state

-- ------------------------------------------------------------------ runs

-- "any run of expansions" with one registry, of tape x, that "hands each state to the next": from the state that is given to the one that
-- is handed back last
pub data Run (g : HandsBack) (x : List ℕ) : List Expansion → (given back : List ℕ) → Type 0 where
  ended : {state : List ℕ} → Run g x [] state state
  then : {e : Expansion} {es : List Expansion} {state back : List ℕ} → Run g x es (g e.buffers e.limit e.file x e.input state) back
      → Run g x (e ∷ es) state back

-- "the number of such calls in the successful ones", those of one name
pub data Substituted (x : List ℕ) (name : Text) : List Expansion → ℕ → Type 0 where
  no_more : Substituted x name [] 0
  of_refused : {e : Expansion} {es : List Expansion} {n : ℕ} → (expand_answer e.buffers e.limit e.file x e.input).number ≢ 0
      → Substituted x name es n
      → Substituted x name (e ∷ es) n
  of_successful : {e : Expansion} {es : List Expansion} {n : ℕ} {defs : List MacroDef} {c : Condition}
      → Succeeds e.buffers e.limit e.file x e.input defs c
      → Substituted x name es n
      → Substituted x name (e ∷ es) (calls_entered name c + n)

-- "For any run of expansions that starts with a registry just built and hands each state to the next, a count equals, up to that ceiling,
-- the number of such calls in the successful ones." It holds of whatever meets the promises: `counts_add_up` of proofs/CountsUsed.antt.
abbrev pub CountsAddUp : Type 0
CountsAddUp =
    (built : Builds) (g : HandsBack) → CountsUsed built g
    → (m : ℕ) (x : List ℕ) (defs : List MacroDef) → Bytes x → read registry_root x ≡ Reading.accepted defs
    → (es : List Expansion) (back : List ℕ) → Run g x es (built m x) back
    → (i n : ℕ) (d : MacroDef) → At defs i d → Substituted x d.name es n
    → At back i (min 4294967295 n)

-- Whoever unfolds this unfolds every definition of this file.
unfoldable pub open_counts_used : Unit {0}
unfolding
    entered_condition named_next calls_spelled calls_entered
open_counts_used = tt
