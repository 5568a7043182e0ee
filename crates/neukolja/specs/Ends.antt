-- "It always ends": what C is answered. Of each function the contract says that the words and the buffers are the definition's answer; from
-- that alone it follows that they are a result, or a refusal of the function's own table, with zeros (definition/specs/Ends.antt). The
-- theorem is `each_ends` of proofs/Ends.antt.
-- Assumes nothing.
use Rattle.std.specs.Prelude.{ℕ, ◌≡◌, List, []}
use Rattle.definition.specs.Answers.{Buffers, message_alone, without_work, check_answer, registry_answer, substitute_answer, expand_answer}
use Rattle.definition.specs.Library.{library_answer, check_at_answer}
use Rattle.definition.specs.Merge.{merge_answer}
use Rattle.definition.specs.Preview.{without_result, preview_answer}
use Rattle.definition.specs.Judge.{judge_answer}
use Rattle.definition.specs.Profile.{no_buffers, profile_answer}
use Rattle.definition.specs.Older.{result_alone, older_answer}
use Rattle.definition.specs.Provider.{provider_answer, argument_to_term_answer, term_to_argument_answer}
use Rattle.definition.specs.Ends.{Nothing, TreeTape, RegistryTape, Rows, EntriesTape, TermTape, ArgumentTape, Ends, check_numbers, registry_numbers, substitution_numbers, expansion_numbers, check_at_numbers, merge_numbers, judge_numbers, profile_numbers, older_numbers, provider_numbers, argument_numbers, term_numbers}
use Rattle.sheet.specs.declared.Progress.{Progress}
use Rattle.sheet.specs.Sheet.{sheet_open_answer, sheet_next_answer}
use Rattle.sheet.specs.Ends.{sheet_numbers, NextTape}
use Rattle.neukolja.specs.Words.{words_with, seven_with}

-- the five words, or a preview's seven, and the three buffers behind a call
pub record EachEnds (words result work message : List ℕ) : Type 0 where
  pub check : (m : ℕ) (definition : List ℕ) → words_with words [] [] message ≡ check_answer m definition
      → Ends check_numbers Nothing (message_alone m) (words_with words [] [] message)
  pub registry : (m : ℕ) (tape : List ℕ) → words_with words [] [] message ≡ registry_answer m tape
      → Ends registry_numbers Nothing (message_alone m) (words_with words [] [] message)
  pub check_library : (r m : ℕ) (tape : List ℕ) → words_with words result [] message ≡ library_answer r m tape
      → Ends registry_numbers Rows (without_work r m) (words_with words result [] message)
  pub check_at : (m : ℕ) (tape : List ℕ) (i : ℕ) → words_with words [] [] message ≡ check_at_answer m tape i
      → Ends check_at_numbers Nothing (message_alone m) (words_with words [] [] message)
  pub merge : (r m : ℕ) (first second : List ℕ) → words_with words result [] message ≡ merge_answer r m first second
      → Ends merge_numbers RegistryTape (without_work r m) (words_with words result [] message)
  pub substitute : (b : Buffers) (limit file : ℕ) (definition call : List ℕ)
      → words_with words result work message ≡ substitute_answer b limit file definition call
      → Ends substitution_numbers TreeTape b (words_with words result work message)
  pub expand : (b : Buffers) (limit file : ℕ) (tape input : List ℕ) → words_with words result work message ≡ expand_answer b limit file tape input
      → Ends expansion_numbers TreeTape b (words_with words result work message)
  pub preview : (w m limit file : ℕ) (tape input : List ℕ) → seven_with words work message ≡ preview_answer w m limit file tape input
      → Ends expansion_numbers Nothing (without_result w m) (seven_with words work message).answered
  pub judge : (b : Buffers) (limit file : ℕ) (tape input supplied : List ℕ)
      → words_with words result work message ≡ judge_answer b limit file tape input supplied
      → Ends judge_numbers TreeTape b (words_with words result work message)
  pub older : (r : ℕ) (tape : List ℕ) → words_with words result [] [] ≡ older_answer r tape
      → Ends older_numbers EntriesTape (result_alone r) (words_with words result [] [])
  pub profile : (condition : List ℕ) → words_with words [] [] [] ≡ profile_answer condition → Ends profile_numbers Nothing no_buffers (words_with words [] [] [])
  pub provider : (tape : List ℕ) → words_with words [] [] [] ≡ provider_answer tape
      → Ends provider_numbers Nothing (result_alone 0) (words_with words [] [] [])
  pub argument_to_term : (r : ℕ) (tape : List ℕ) → words_with words result [] [] ≡ argument_to_term_answer r tape
      → Ends argument_numbers TermTape (result_alone r) (words_with words result [] [])
  pub term_to_argument : (r : ℕ) (tape : List ℕ) → words_with words result [] [] ≡ term_to_argument_answer r tape
      → Ends term_numbers ArgumentTape (result_alone r) (words_with words result [] [])
  pub sheet_open : (m : ℕ) (tape sheet : List ℕ) → words_with words [] [] message ≡ sheet_open_answer m tape sheet
      → Ends sheet_numbers Nothing (message_alone m) (words_with words [] [] message)
  pub sheet_next : (b : Buffers) (tape sheet : List ℕ) (p : Progress) → words_with words result work message ≡ sheet_next_answer b tape sheet p
      → Ends expansion_numbers NextTape b (words_with words result work message)

abbrev pub EachCallEnds : Type 0
EachCallEnds = (words result work message : List ℕ) → EachEnds words result work message
