-- Document 02, point 8: "On tapes with weeks the definition of demand 2 treats 64 exactly as it treats 51, code and amount kept".
-- First what is kept: an interval of a result is one of the inputs', entry for entry. Then that 64 and 51 are treated alike: on inputs
-- with days and weeks exchanged an operation does the same. The theorems are in proofs/Weeks.antt.
-- Assumes nothing.
use Rattle.std.specs.Prelude.{ℕ, ◌≡◌, List, [], ◌∷◌, ◌++◌, Bool, T}
use Rattle.format.specs.Entry.{Entry}
use Rattle.format.specs.Ast.{TimeUnit, Interval, WithinSpec, Condition, Call, Tree, MacroDef, args_of}
use Rattle.format.specs.Flat.{flat_condition, flat_args, flat_tree, flat_def, flat_registry}
use Rattle.format.specs.Macro.{is_code}
use Rattle.format.specs.Names.{◌∈◌}
use Rattle.format.specs.Replace.{Replacement, replace_condition, replace_call, replace_tree, replace_def, replace_defs}
use Rattle.definition.specs.Outcome.{Outcome}
use Rattle.definition.specs.Check.{check_def}
use Rattle.definition.specs.Registry.{build}
use Rattle.definition.specs.Substitute.{substitute}
use Rattle.definition.specs.Expand.{expand}

-- ------------------------------------------------------------------ "code and amount kept"

-- seconds, minutes, hours, days and weeks
unfoldable pub is_interval : ℕ → Bool
unfolding is_code
is_interval c = is_code (48 ∷ 49 ∷ 50 ∷ 51 ∷ 64 ∷ []) c

-- each interval of the tree stands among the entries given, code and value
abbrev pub KeepsIntervals : List Entry → Outcome Tree → Type 0
KeepsIntervals given o =
    (t : Tree) (charged : ℕ) → o ≡ Outcome.done t charged → (e : Entry) → e ∈ flat_tree t → T (is_interval e.code) → e ∈ given

abbrev pub SubstituteKeepsIntervals : Type 0
SubstituteKeepsIntervals =
    (limit file : ℕ) (def : MacroDef) (call : Call)
    → KeepsIntervals (flat_def def ++ flat_args (args_of call)) (substitute limit file def call)

abbrev pub ExpandKeepsIntervals : Type 0
ExpandKeepsIntervals =
    (limit file : ℕ) (defs : List MacroDef) (c : Condition)
    → KeepsIntervals (flat_registry defs ++ flat_condition c) (expand limit file defs c)

-- ------------------------------------------------------------------ "exactly as it treats 51"

-- days and weeks exchanged, the amount kept, in every within and every interval argument; all else as it is
unfoldable pub exchanged_unit : TimeUnit → TimeUnit
exchanged_unit TimeUnit.Seconds = TimeUnit.Seconds
exchanged_unit TimeUnit.Minutes = TimeUnit.Minutes
exchanged_unit TimeUnit.Hours = TimeUnit.Hours
exchanged_unit TimeUnit.Days = TimeUnit.Weeks
exchanged_unit TimeUnit.Weeks = TimeUnit.Days

unfoldable pub exchanged_interval : Interval → Interval
exchanged_interval i = record { amount = i.amount; unit = exchanged_unit i.unit }

unfoldable pub exchanged_within : WithinSpec → WithinSpec
exchanged_within (WithinSpec.Concrete i) = WithinSpec.Concrete (exchanged_interval i)
exchanged_within (WithinSpec.ParamRef n) = WithinSpec.ParamRef n

unfoldable pub exchanged : Replacement
exchanged = record { either = Condition.Or; within = exchanged_within; interval = exchanged_interval }

-- the body check and the registry see no difference
abbrev pub CheckExchanged : Type 0
CheckExchanged = (def : MacroDef) → check_def (replace_def exchanged def) ≡ check_def def

abbrev pub BuildExchanged : Type 0
BuildExchanged = (defs : List MacroDef) → build (replace_defs exchanged defs) ≡ build defs

-- substitution and expansion answer the same refusal, or the same tree with days and weeks exchanged, each with the same charge
unfoldable pub map_outcome : {A B : Type 0} → (A → B) → Outcome A → Outcome B
map_outcome f (Outcome.done a n) = Outcome.done (f a) n
map_outcome f (Outcome.refused r n) = Outcome.refused r n

abbrev pub SubstituteExchanged : Type 0
SubstituteExchanged =
    (limit file : ℕ) (def : MacroDef) (call : Call)
    → substitute limit file (replace_def exchanged def) (replace_call exchanged call)
    ≡ map_outcome (replace_tree exchanged) (substitute limit file def call)

abbrev pub ExpandExchanged : Type 0
ExpandExchanged =
    (limit file : ℕ) (defs : List MacroDef) (c : Condition)
    → expand limit file (replace_defs exchanged defs) (replace_condition exchanged c)
    ≡ map_outcome (replace_tree exchanged) (expand limit file defs c)

-- Whoever unfolds this unfolds every definition of this file.
unfoldable pub open_weeks : Unit {0}
unfolding
    is_interval exchanged_unit exchanged_interval exchanged_within exchanged map_outcome
open_weeks = tt
