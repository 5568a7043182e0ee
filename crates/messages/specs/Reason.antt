-- What a refusal says: document 01's number and message for each reason.
-- Assumes nothing.
use Rattle.std.specs.Prelude.{ℕ, ◌%◌, ◌^◌, List, []}
use Rattle.format.specs.Entry.{Text}
use Rattle.definition.specs.Outcome.{span_start}
use Rattle.definition.specs.Messages.{
  reserved_name,
  duplicate_definition,
  undeclared_parameter,
  plain_identifier,
  macro_in_macro,
  unknown_macro,
  cedar_in_condition,
  cedar_in_value,
  value_as_condition,
  condition_as_value,
  argument_count,
  budget_exceeded,
  stray_condition,
  stray_within,
  stray_slot,
  stray_field,
  stray_operand,
  unbound_parameter,
  not_a_condition,
  binder_as_condition,
  not_an_interval,
  not_a_term,
  not_an_identifier,
  not_a_predicate,
}
use Rattle.nodes.specs.Node.{name_at, span_of}
use Rattle.tape.specs.declared.layout.Layout.{Layout}
use Rattle.message_parts.specs.Names.{names_at}
use Rattle.message_places.specs.Words.{sigil_of, of_code}
use Rattle.messages.specs.declared.Reason.{Reason}
use Rattle.messages.specs.declared.Reason.TheVariants.{
  WithoutMessage,
  Reserved,
  Duplicate,
  Undeclared,
  PlainIdentifier,
  MacroInMacro,
  UnknownMacro,
  CedarInCondition,
  CedarInValue,
  ValueAsCondition,
  ConditionAsValue,
  ArgumentCount,
  Budget,
  StrayCondition,
  StrayWithin,
  StraySlot,
  StrayField,
  StrayOperand,
  Unbound,
  NotACondition,
  BinderAsCondition,
  NotAnInterval,
  NotATerm,
  NotAnIdentifier,
  NotAPredicate,
}
use Rattle.messages.specs.declared.Refused.{Refused}
use Rattle.nodes.specs.declared.Refusal.{Refusal}

abbrev pub refused_at : ℕ → Reason → Refused
refused_at span reason = record { span = span_of span; reason = reason }

-- what does not stand where it is asked for
abbrev pub without_message : Refusal → Refused
without_message f = record { span = f.span; reason = WithoutMessage f.number }

abbrev pub number_of : Reason → ℕ
number_of (WithoutMessage n) = n
number_of (Reserved n) = 10
number_of (Duplicate n s) = 11
number_of (Undeclared n params) = 20
number_of (PlainIdentifier n) = 21
number_of MacroInMacro = 22
number_of (UnknownMacro n) = 30
number_of (CedarInCondition n) = 31
number_of (CedarInValue n) = 31
number_of (ValueAsCondition n) = 32
number_of (ConditionAsValue n) = 33
number_of (ArgumentCount n w g) = 34
number_of (Budget l) = 35
number_of (StrayCondition g n) = 36
number_of (StrayWithin n) = 37
number_of (StraySlot g n) = 38
number_of (StrayField g n) = 39
number_of (StrayOperand g n) = 40
number_of (Unbound m n) = 41
number_of (NotACondition m n) = 42
number_of (BinderAsCondition n) = 43
number_of (NotAnInterval m n) = 44
number_of (NotATerm m n) = 45
number_of (NotAnIdentifier m n) = 46
number_of (NotAPredicate k) = 47

-- Names of the definition's tape s, laid out as d, and of the call's tape t, laid out as c. The counts of an accepted tape are
-- far below 2 ^ 32.
unfoldable pub message_of : List ℕ → Layout → List ℕ → Layout → Reason → Text
message_of s d t c (WithoutMessage n) = []
message_of s d t c (Reserved n) = reserved_name (name_at s d n)
message_of s d t c (Duplicate n span) = duplicate_definition (name_at s d n) (span_start span)
message_of s d t c (Undeclared n params) = undeclared_parameter (name_at s d n) (names_at s d params.place params.count)
message_of s d t c (PlainIdentifier n) = plain_identifier (name_at s d n)
message_of s d t c MacroInMacro = macro_in_macro
message_of s d t c (UnknownMacro n) = unknown_macro (name_at t c n)
message_of s d t c (CedarInCondition n) = cedar_in_condition (name_at t c n)
message_of s d t c (CedarInValue n) = cedar_in_value (name_at t c n)
message_of s d t c (ValueAsCondition n) = value_as_condition (name_at t c n)
message_of s d t c (ConditionAsValue n) = condition_as_value (name_at t c n)
message_of s d t c (ArgumentCount n wanted got) = argument_count (name_at s d n) (wanted % 2 ^ 32) (got % 2 ^ 32)
message_of s d t c (Budget limit) = budget_exceeded limit
message_of s d t c (StrayCondition g n) = stray_condition (sigil_of g) (name_at t c n)
message_of s d t c (StrayWithin n) = stray_within (name_at t c n)
message_of s d t c (StraySlot g n) = stray_slot (sigil_of g) (name_at t c n)
message_of s d t c (StrayField g n) = stray_field (sigil_of g) (name_at t c n)
message_of s d t c (StrayOperand g n) = stray_operand (sigil_of g) (name_at t c n)
message_of s d t c (Unbound m n) = unbound_parameter (name_at s d m) (name_at s d n)
message_of s d t c (NotACondition m n) = not_a_condition (name_at s d m) (name_at s d n)
message_of s d t c (BinderAsCondition n) = binder_as_condition (name_at s d n)
message_of s d t c (NotAnInterval m n) = not_an_interval (name_at s d m) (name_at s d n)
message_of s d t c (NotATerm m n) = not_a_term (name_at s d m) (name_at s d n)
message_of s d t c (NotAnIdentifier m n) = not_an_identifier (name_at s d m) (name_at s d n)
message_of s d t c (NotAPredicate code) = not_a_predicate (of_code code)
