-- The definition answers each of the fourteen bench cases as document 01 says: one claim over one list, by computation.
-- Assumes nothing.
use mathlib.Core.Path.{◌≡◌, refl}
use mathlib.Core.List.{[], ◌∷◌, map}
use mathlib.Core.Option.{none, some}
use Rattle.format.specs.Entry.{open_entry}
use Rattle.format.specs.Utf8.{open_utf8}
use Rattle.format.specs.Flat.{open_flat}
use Rattle.format.specs.Macro.{open_macro}
use Rattle.format.specs.Limits.{open_limits}
use Rattle.format.specs.Replace.{open_replace}
use Rattle.format.specs.DeMorgan.{open_de_morgan}
use Rattle.format.specs.Build.{open_build}
use Rattle.format.specs.Tape.{open_tape}
use Rattle.definition.specs.Text.{utf8, open_text}
use Rattle.definition.specs.Outcome.{refusal, Outcome, open_outcome}
use Rattle.definition.specs.Size.{open_size}
use Rattle.definition.specs.Check.{check_def, open_check}
use Rattle.definition.specs.Substitute.{substitute, open_substitute}
use Rattle.definition.specs.Registry.{open_registry}
use Rattle.definition.specs.Expand.{open_expand}
use Rattle.definition.specs.Answers.{answer, number_alone, reading, long_buffers, tree_answer, expand_tapes, expand_answer}
use Rattle.definition.specs.Messages.{open_messages}
use Rattle.definition.specs.Cases.{macro_m, definitions, cases, or_case, run_in, run, case_in_file, call_m, tree_in_file, result_of, expected, line, run_bytes, undeclared}

pub fourteen_cases : map run cases ≡ cases
unfolding
    open_entry open_flat open_limits open_text open_outcome open_size open_check open_substitute open_registry open_expand definitions
    cases run
fourteen_cases = refl

-- a file above 0 is in the name, and nothing else changes
pub case_in_file_lem : run_in 65535 case_in_file ≡ case_in_file
unfolding
    open_entry open_flat open_limits open_text open_outcome open_size open_check open_substitute open_registry open_expand definitions
    run_in case_in_file
case_in_file_lem = refl

-- and of substitution alike: m(5) at 7..9 in file 3 has t$7#3
pub substitute_in_file : substitute 4 3 macro_m call_m ≡ Outcome.done tree_in_file 4
unfolding
    open_entry open_flat open_limits open_text open_outcome open_size open_substitute macro_m call_m tree_in_file
substitute_in_file = refl

-- the fourteen through bytes: the registry and the condition are encoded, read back and expanded, and the result is encoded
pub fourteen_cases_through_bytes : map run_bytes cases ≡ map expected cases
unfolding
    open_entry open_utf8 open_flat open_macro open_limits open_replace open_de_morgan open_build open_tape open_text open_outcome open_size open_check open_substitute
    open_registry open_expand answer number_alone reading long_buffers tree_answer expand_tapes expand_answer definitions cases
    result_of expected line run_bytes
fourteen_cases_through_bytes = refl

pub or_through_bytes : run_bytes or_case ≡ expected or_case
unfolding
    open_entry open_utf8 open_flat open_macro open_limits open_replace open_de_morgan open_build open_tape open_text open_outcome open_size
    open_check open_substitute open_registry open_expand answer number_alone reading long_buffers tree_answer expand_tapes expand_answer
    definitions or_case result_of expected line run_bytes
or_through_bytes = refl

-- "m passes, a body `?y` of m is 20": the body check passes the six definitions, `$b` of z among them, and not every one.
pub definitions_pass : map check_def definitions ≡ none ∷ none ∷ none ∷ none ∷ none ∷ none ∷ []
unfolding open_text open_check definitions
definitions_pass = refl

pub undeclared_refused : check_def undeclared
    ≡ some (refusal 20 0 (utf8 "in `def temporal` body: `?y` does not name a declared parameter (declared: ?x)"))
unfolding open_text open_check open_messages undeclared
undeclared_refused = refl
