-- The words of a stray sigil, and the conditions that stand for the codes in the message of 47.
-- Assumes nothing.
use Rattle.std.specs.Prelude.{ℕ, List, [], ◌∷◌, get_or}
use Rattle.format.specs.Entry.{Text}
use Rattle.format.specs.Ast.{WithinSpec, BinderSlot, BinderType, Sigil, CmpOp, Condition, Term, Call, CallArgs, NamedArgs}
use Rattle.definition.specs.Text.{utf8}
use Rattle.definition.specs.Messages.{sigil_kind, sigil_mark}
use Rattle.nodes.specs.declared.Sigil.{Sigil as TapeSigil}
use Rattle.nodes.specs.declared.Sigil.TheVariants.{Param, Binder}

abbrev pub sigil_of : TapeSigil → Sigil
sigil_of Param = Sigil.Param
sigil_of Binder = Sigil.Binder

-- a stray sigil with its name, and where it stands
unfoldable pub stray_pieces : Sigil → Text → Text → List Text
stray_pieces g name place = utf8 "stray " ∷ sigil_kind g ∷ utf8 " reference `" ∷ sigil_mark g ∷ name ∷ place ∷ []

-- Some condition of each code, for the words that the message has for all of them: `by_code` has them by the code, and a refinement for
-- every other number.
abbrev pub any_tp : Condition
any_tp = Condition.Tp 0 (BinderSlot.Name [])

abbrev pub any_refine : Condition
any_refine = Condition.Refine 0 0 any_tp NamedArgs.no_fields

abbrev pub any_within : WithinSpec
any_within = WithinSpec.ParamRef []

abbrev pub by_code : List Condition
by_code =
    any_refine ∷ Condition.And 0 any_tp any_tp ∷ Condition.Or 0 any_tp any_tp ∷ Condition.Not 0 any_tp
    ∷ Condition.Formerly 0 any_within any_tp ∷ Condition.Previous 0 any_within any_tp ∷ Condition.Since 0 any_tp any_within any_tp
    ∷ Condition.Predicate 0 0 [] [] [] NamedArgs.no_fields ∷ Condition.Comparison 0 CmpOp.Eq Term.Wildcard Term.Wildcard
    ∷ Condition.Exists 0 (record { slot = BinderSlot.Name []; ty = BinderType.Timepoint }) any_tp ∷ any_tp
    ∷ Condition.ConditionCall 0 (Call.MacroCall 0 [] CallArgs.no_args) ∷ Condition.SigilRef 0 Sigil.Param [] ∷ []

unfoldable pub of_code : ℕ → Condition
of_code code = get_or by_code code any_refine
