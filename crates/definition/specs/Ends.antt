-- "It always ends": every public operation, on every input, ends in a result or in a refusal of document 01: number, span, message.
-- After a refusal result and work are zero throughout and the message buffer holds the message, then zeros. Each answer is a total
-- function of the tapes, the limit, the file number and the buffers' lengths; of each this says which numbers come, and what is
-- returned and written with them. That each buffer is as long as it was lent, and that no message is cut, is `Bounded` of Kept.antt, of an
-- older tape `OlderBounded` of Older.antt, and of the house sheet `OpenBounded` in its crate. Which span, which message and which charge
-- come with a number is what the operation's own promises determine. The theorems are in proofs/Ends.antt; those of the house sheet in its
-- crate, and of what C is answered in neukolja/specs/Ends.antt.
-- Assumes nothing.
use Rattle.std.specs.Prelude.{ℕ, ◌*◌, ◌≤◌, ◌≡◌, ◌≢◌, ◌⊎◌, List, [], ◌∷◌, T, length}
use Rattle.format.specs.Entry.{Text, Entry, encode}
use Rattle.format.specs.Ast.{Term, Tree, MacroDef}
use Rattle.format.specs.Flat.{flat_term, flat_tree, flat_registry}
use Rattle.format.specs.Provider.{Arg, flat_argument}
use Rattle.format.specs.Macro.{is_code}
use Rattle.definition.specs.Answers.{Answer, Buffers, message_alone, without_work, check_answer, registry_answer, substitute_answer, expand_answer}
use Rattle.definition.specs.Library.{library_answer, check_at_answer}
use Rattle.definition.specs.Merge.{merge_answer}
use Rattle.definition.specs.Preview.{without_result, preview_answer}
use Rattle.definition.specs.Judge.{judge_answer}
use Rattle.definition.specs.Profile.{no_buffers, profile_answer}
use Rattle.definition.specs.Older.{result_alone, older_answer}
use Rattle.definition.specs.Provider.{provider_answer, argument_to_term_answer, term_to_argument_answer}
use Rattle.definition.specs.Returned.{Gives, Refuses}

-- ------------------------------------------------------------------ what a result is

-- an operation that writes no result
abbrev pub Nothing : List ℕ → Type 0
Nothing bytes = bytes ≡ []

-- "A result's root is a condition or a term."
abbrev pub TreeTape : List ℕ → Type 0
TreeTape bytes = (t : Tree) × (bytes ≡ encode (flat_tree t))

abbrev pub RegistryTape : List ℕ → Type 0
RegistryTape bytes = (defs : List MacroDef) × (bytes ≡ encode (flat_registry defs))

-- "index (from 0), number, start and end, 4 bytes each", for so many definitions
abbrev pub Rows : List ℕ → Type 0
Rows bytes = (k : ℕ) × (length bytes ≡ 16 * k)

-- the bytes of some entries; of an older tape `OlderResult` of Older.antt says which
abbrev pub EntriesTape : List ℕ → Type 0
EntriesTape bytes = (es : List Entry) × (bytes ≡ encode es)

abbrev pub TermTape : List ℕ → Type 0
TermTape bytes = (t : Term) × (bytes ≡ encode (flat_term t))

abbrev pub ArgumentTape : List ℕ → Type 0
ArgumentTape bytes = (a : Arg) × (bytes ≡ encode (flat_argument a))

-- What is returned and written, of an operation whose refusals have these numbers and whose results are such bytes: a result, of which
-- the buffer holds the bytes and then zeros, with span 0..0 and no message; or a refusal with span and message, and zeros.
pub record Ends (numbers : List ℕ) (Result : List ℕ → Type 0) (b : Buffers) (a : Answer) : Type 0 where
  pub its_number : T (is_code (0 ∷ numbers) a.number)
  pub succeeds : a.number ≡ 0 → (bytes : List ℕ) × Result bytes × Gives b bytes a.charged a
  pub refuses : a.number ≢ 0 → (span : ℕ) × (said : Text) × Refuses b a.number span said a.charged a
  -- "1, 2, 3 and all from 48 up have none"
  pub silent : (a.number ≤ 3) ⊎ (48 ≤ a.number) → a.message_length ≡ 0

-- ------------------------------------------------------------------ the four operations of document 01

abbrev pub check_numbers : List ℕ
check_numbers = 1 ∷ 2 ∷ 3 ∷ 20 ∷ 21 ∷ 22 ∷ []

abbrev pub CheckEnds : Type 0
CheckEnds = (m : ℕ) (definition : List ℕ) → Ends check_numbers Nothing (message_alone m) (check_answer m definition)

abbrev pub registry_numbers : List ℕ
registry_numbers = 1 ∷ 2 ∷ 3 ∷ 10 ∷ 11 ∷ []

abbrev pub RegistryEnds : Type 0
RegistryEnds = (m : ℕ) (registry : List ℕ) → Ends registry_numbers Nothing (message_alone m) (registry_answer m registry)

abbrev pub substitution_numbers : List ℕ
substitution_numbers = 1 ∷ 2 ∷ 3 ∷ 31 ∷ 34 ∷ 35 ∷ 41 ∷ 42 ∷ 43 ∷ 44 ∷ 45 ∷ 46 ∷ 47 ∷ 48 ∷ []

abbrev pub SubstituteEnds : Type 0
SubstituteEnds =
    (b : Buffers) (limit file : ℕ) (definition input : List ℕ) → Ends substitution_numbers TreeTape b (substitute_answer b limit file definition input)

-- "10 and 11"; the refusals of a call, of a stray sigil and of a substitution
abbrev pub expansion_numbers : List ℕ
expansion_numbers =
    1 ∷ 2 ∷ 3 ∷ 10 ∷ 11 ∷ 30 ∷ 31 ∷ 32 ∷ 33 ∷ 34 ∷ 35 ∷ 36 ∷ 37 ∷ 38 ∷ 39 ∷ 40 ∷ 41 ∷ 42 ∷ 43 ∷ 44 ∷ 45 ∷ 46 ∷ 47 ∷ 48 ∷ []

abbrev pub ExpandEnds : Type 0
ExpandEnds = (b : Buffers) (limit file : ℕ) (registry input : List ℕ) → Ends expansion_numbers TreeTape b (expand_answer b limit file registry input)

-- ------------------------------------------------------------------ the operations of document 02

abbrev pub LibraryEnds : Type 0
LibraryEnds = (r m : ℕ) (registry : List ℕ) → Ends registry_numbers Rows (without_work r m) (library_answer r m registry)

abbrev pub check_at_numbers : List ℕ
check_at_numbers = 1 ∷ 2 ∷ 3 ∷ 10 ∷ 11 ∷ 20 ∷ 21 ∷ 22 ∷ []

abbrev pub CheckAtEnds : Type 0
CheckAtEnds =
    (m : ℕ) (registry : List ℕ) (i : ℕ) → Ends check_at_numbers Nothing (message_alone m) (check_at_answer m registry i)

abbrev pub PreviewEnds : Type 0
PreviewEnds =
    (w m limit file : ℕ) (registry input : List ℕ)
    → Ends expansion_numbers Nothing (without_result w m) (preview_answer w m limit file registry input).answered

abbrev pub merge_numbers : List ℕ
merge_numbers = 1 ∷ 2 ∷ 3 ∷ 10 ∷ 11 ∷ 51 ∷ []

abbrev pub MergeEnds : Type 0
MergeEnds =
    (r m : ℕ) (first second : List ℕ) → Ends merge_numbers RegistryTape (without_work r m) (merge_answer r m first second)

abbrev pub judge_numbers : List ℕ
judge_numbers = 50 ∷ expansion_numbers

abbrev pub JudgeEnds : Type 0
JudgeEnds =
    (b : Buffers) (limit file : ℕ) (registry input supplied : List ℕ)
    → Ends judge_numbers TreeTape b (judge_answer b limit file registry input supplied)

abbrev pub profile_numbers : List ℕ
profile_numbers = 2 ∷ 3 ∷ 53 ∷ 54 ∷ 55 ∷ []

abbrev pub ProfileEnds : Type 0
ProfileEnds = (input : List ℕ) → Ends profile_numbers Nothing no_buffers (profile_answer input)

abbrev pub older_numbers : List ℕ
older_numbers = 1 ∷ 2 ∷ 3 ∷ 52 ∷ []

abbrev pub OlderEnds : Type 0
OlderEnds = (n : ℕ) (bytes : List ℕ) → Ends older_numbers EntriesTape (result_alone n) (older_answer n bytes)

abbrev pub provider_numbers : List ℕ
provider_numbers = 2 ∷ 3 ∷ []

abbrev pub ProviderEnds : Type 0
ProviderEnds = (tape : List ℕ) → Ends provider_numbers Nothing (result_alone 0) (provider_answer tape)

abbrev pub argument_numbers : List ℕ
argument_numbers = 1 ∷ 2 ∷ 3 ∷ 56 ∷ []

abbrev pub ArgumentEnds : Type 0
ArgumentEnds = (r : ℕ) (tape : List ℕ) → Ends argument_numbers TermTape (result_alone r) (argument_to_term_answer r tape)

abbrev pub term_numbers : List ℕ
term_numbers = 1 ∷ 2 ∷ 3 ∷ 58 ∷ []

abbrev pub TermEnds : Type 0
TermEnds = (r : ℕ) (tape : List ℕ) → Ends term_numbers ArgumentTape (result_alone r) (term_to_argument_answer r tape)
