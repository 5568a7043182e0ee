-- "Expansion, substitution, preview and point 3 take a file number" (02, point 6): what expansion and substitution return and write in
-- a file above 0, told by what the Rust, which is file 0, returns. "For files above 0 the tree is the Rust's with the names so
-- lengthened."
--
-- A generated name may be spelled like a name of the inputs (`s$7` may stand in a condition), so that the tree of file 0 does not tell
-- which of its names `$` binders made. Therefore the binders are marked first: in the definitions, and only there, each `$binder` is
-- written with a mark behind it, such that no name of the inputs is spelled as if a marked binder had made it. The names of the Rust's
-- tree that end in the mark, `$` and a start are then those that the binders made, each is written with the file number in the place
-- of the mark, and nothing else differs: number, span, message, charged and every other entry are those of the Rust's run with the
-- binders marked. How they stand to the Rust's run on the inputs as they are is `expand_lengthened` and `expand_named` for expansion,
-- `substitute_lengthened` and `substitute_named` for substitution (specs/Lengthened.antt): the same but for generated names and a 3.
-- The mark is as long as `#` and the file number. So the tree that the Rust measures, wherever it measures one (a 54 with its expanded
-- arguments, the outcome of a call, the whole result), has the N and the T of the tree with the names so lengthened: `SameFigures`
-- below. With that it is also said when 3 comes, and with which span.
-- The theorems are in proofs/Files.antt.
-- Assumes nothing.
use Rattle.std.specs.Prelude.{ℕ, ◌<◌, ◌≡◌, ◌≢◌, List, ◌++◌, length}
use Rattle.format.specs.Entry.{Text, Entry, text_entry, text_of, encode}
use Rattle.format.specs.Ast.{Tree}
use Rattle.format.specs.Flat.{flat_tree}
use Rattle.format.specs.Names.{◌∈◌, names_in}
use Rattle.format.specs.Tape.{Reading, Root, condition_root, call_root, definition_root, registry_root, read}
use Rattle.definition.specs.Text.{utf8, decimal}
use Rattle.definition.specs.Outcome.{Refusal, Outcome}
use Rattle.definition.specs.Substitute.{substitute}
use Rattle.definition.specs.Expand.{expand}
use Rattle.definition.specs.Answers.{Answer, Buffers, expand_answer, substitute_answer}
use Rattle.definition.specs.Lengthened.{OneByOne}
use Rattle.definition.specs.Returned.{Gives, Refuses, RefusesAlone, Unread, ShortBuffers, LongBuffers}

-- ------------------------------------------------------------------ names

-- That "two generated names are equal only if binder, start and file number are all equal, whatever characters the binder holds" is
-- `names_apart` of proofs/Names.antt, and that `decimal n` spells n is `its_decimal` there.

-- 01: "`$t` becomes t, `$`, and the call's start."
abbrev pub name_of : (binder : Text) (start : ℕ) → Text
name_of binder start = binder ++ (utf8 "$" ++ decimal start)

-- "Otherwise a generated name is the binder, `$`, the start, `#`, the file number in decimal."
abbrev pub name_in_file : (binder : Text) (start file : ℕ) → Text
name_in_file binder start file = binder ++ (utf8 "$" ++ (decimal start ++ (utf8 "#" ++ decimal file)))

-- names are "the texts of 27 and 43"
pub data NameCode : ℕ → Type 0 where
  var : NameCode 27
  slot_name : NameCode 43

-- ------------------------------------------------------------------ marked binders

-- as long as what the file number adds to a name
abbrev pub AsLong : (file : ℕ) (mark : Text) → Type 0
AsLong file mark = length mark ≡ length (utf8 "#" ++ decimal file)

-- A mark for a file, where these are the names of the inputs: no name of theirs is spelled as if a marked binder had made it. Its
-- bytes need not be a tape's, so that there is one for any inputs. (Printable bytes would do: of two there are 9,025, and a name rules
-- out one mark at most, as it is told apart from the right; two tapes have at most 2,048 names.)
pub record Mark (file : ℕ) (names : List Text) (mark : Text) : Type 0 where
  pub as_long : AsLong file mark
  pub is_new : (binder : Text) (start : ℕ) → name_of (binder ++ mark) start ∈ names → ⊥

-- An entry of a definition, and of the marked one. `$binder` stands as a term or as a slot, 33 or 45; as a whole condition, 59, it makes
-- no name and is not marked.
pub data Marked (mark : Text) : Entry → Entry → Type 0 where
  binder_term : (binder : Text) → Marked mark (text_entry 33 binder) (text_entry 33 (binder ++ mark))
  binder_slot : (binder : Text) → Marked mark (text_entry 45 binder) (text_entry 45 (binder ++ mark))
  as_it_is : {e : Entry} → e.code ≢ 33 → e.code ≢ 45 → Marked mark e e

-- An entry of the marked tree, and of the file's: a name that a marked binder made is lengthened, and all else is as it is.
pub data Written (file : ℕ) (mark : Text) : Entry → Entry → Type 0 where
  lengthened : {code : ℕ} → NameCode code → (binder : Text) (start : ℕ)
      → Written file mark (text_entry code (name_of (binder ++ mark) start)) (text_entry code (name_in_file binder start file))
  as_it_is : {e : Entry}
      → ((code : ℕ) (binder : Text) (start : ℕ) → NameCode code → e ≢ text_entry code (name_of (binder ++ mark) start))
      → Written file mark e e

-- as many entries and as much text
pub record SameSizes (es es' : List Entry) : Type 0 where
  pub same_entries : length es ≡ length es'
  pub same_text : length (text_of es) ≡ length (text_of es')

abbrev pub SameFigures : Type 0
SameFigures =
    (file : ℕ) (mark : Text) (es es' : List Entry) → AsLong file mark → OneByOne (Written file mark) es es' → SameSizes es es'

-- ------------------------------------------------------------------ an operation in its files

-- What was read, the registry or the definition first, and then the condition or the call; and the first with its binders marked.
pub record MarkedFirst {A B : Type 0} (first : Root A) (second : Root B) (file : ℕ) (mark : Text) (a : A) (c : B) (marked : A)
    : Type 0 where
  pub its_mark : Mark file (names_in (second.flat c) ++ names_in (first.flat a)) mark
  pub entries : OneByOne (Marked mark) (first.flat a) (first.flat marked)

-- An operation that takes a file number: `rust` is what it does in file 0 with the trees that were read, and `in_rust` is what it
-- returns and writes there.
pub record InFiles {A B : Type 0} (first : Root A) (second : Root B) (rust : (limit : ℕ) → A → B → Outcome Tree)
    (in_rust : Buffers → (limit : ℕ) → List ℕ → List ℕ → Answer) (g : Buffers → (limit file : ℕ) → List ℕ → List ℕ → Answer)
    : Type 0 where
  -- "With 0 nothing changes."
  pub in_file_0 : (b : Buffers) (limit : ℕ) (x y : List ℕ) → g b limit 0 x y ≡ in_rust b limit x y
  -- "Order: 1; then tapes, registry or definition first", in every file
  pub short : (b : Buffers) (limit file : ℕ) (x y : List ℕ) → ShortBuffers b → RefusesAlone b 1 (g b limit file x y)
  pub first_unread : (b : Buffers) (limit file : ℕ) (x y : List ℕ) (why : ℕ) → LongBuffers b → Unread (read first x) why
      → RefusesAlone b why (g b limit file x y)
  pub second_unread : (b : Buffers) (limit file : ℕ) (x y : List ℕ) (why : ℕ) (a : A) → LongBuffers b
      → read first x ≡ Reading.accepted a → Unread (read second y) why → RefusesAlone b why (g b limit file x y)
  -- a refusal is the Rust's with the binders marked, whatever its number and span, 3 too
  pub refused : (b : Buffers) (limit file : ℕ) (x y : List ℕ) (a : A) (c : B) (mark : Text) (marked : A) (r : Refusal) (charged : ℕ)
      → 0 < file → LongBuffers b → read first x ≡ Reading.accepted a → read second y ≡ Reading.accepted c
      → MarkedFirst first second file mark a c marked → rust limit marked c ≡ Outcome.refused r charged
      → Refuses b r.number r.span r.message charged (g b limit file x y)
  -- "the tree is the Rust's with the names so lengthened"
  pub done : (b : Buffers) (limit file : ℕ) (x y : List ℕ) (a : A) (c : B) (mark : Text) (marked : A) (t : Tree) (charged : ℕ)
      (es : List Entry) → 0 < file → LongBuffers b → read first x ≡ Reading.accepted a → read second y ≡ Reading.accepted c
      → MarkedFirst first second file mark a c marked → rust limit marked c ≡ Outcome.done t charged
      → OneByOne (Written file mark) (flat_tree t) es → Gives b (encode es) charged (g b limit file x y)

abbrev pub Expands : (Buffers → (limit file : ℕ) → (registry input : List ℕ) → Answer) → Type 0
Expands =
    InFiles registry_root condition_root (λ limit defs c. expand limit 0 defs c)
    (λ b limit registry input. expand_answer b limit 0 registry input)

abbrev pub Substitutes : (Buffers → (limit file : ℕ) → (definition input : List ℕ) → Answer) → Type 0
Substitutes =
    InFiles definition_root call_root (λ limit def call. substitute limit 0 def call)
    (λ b limit definition input. substitute_answer b limit 0 definition input)
