-- "Expansion, substitution, preview and point 3 take a file number" (02, point 6): preview and judge, told by expansion in the same
-- file. `Previews` says it by `expand_answer`, which specs/Files.antt tells by file 0, and `Judges` by `expand` on the trees that were
-- read, which is what `expand_answer` does once its tapes are read. The theorems are in proofs/OtherFiles.antt.
-- Assumes nothing.
use Rattle.std.specs.Prelude.{ℕ, suc, ◌-◌, ◌<◌, ◌≤◌, ◌≡◌, ◌⊎◌, List, [], ◌++◌, drop}
use Rattle.format.specs.Entry.{encode}
use Rattle.format.specs.Ast.{Condition, Tree, MacroDef}
use Rattle.format.specs.Flat.{flat_condition, flat_tree, flat_registry}
use Rattle.format.specs.Names.{names_in}
use Rattle.format.specs.Tape.{Reading, condition_root, named_root, registry_root, read}
use Rattle.definition.specs.Outcome.{Refusal, Outcome}
use Rattle.definition.specs.Expand.{expand}
use Rattle.definition.specs.Answers.{Answer, Buffers, expand_answer}
use Rattle.definition.specs.Agree.{Generated, Agree}
use Rattle.definition.specs.Returned.{zeros, Gives, Refuses, RefusesAlone, Unread, ShortBuffers, LongBuffers}
use Rattle.definition.specs.Preview.{Preview, without_result, Previewed}

-- ------------------------------------------------------------------ preview

-- 1: "on a refusal both are 0"
pub record PreviewsShort (w m : ℕ) (p : Preview) : Type 0 where
  pub answered : RefusesAlone (without_result w m) 1 p.answered
  pub no_entries : p.entries ≡ 0
  pub no_text : p.text_bytes ≡ 0

-- "The preview returns number, span, charged and the result's N and T, and writes no result": it returns what this answer of an
-- expansion returns, and of the buffers it fills the message's alone.
pub record PreviewsAnswer (w m : ℕ) (a : Answer) (p : Preview) : Type 0 where
  pub returned : Previewed p a
  pub result : p.answered.result ≡ []
  pub work : p.answered.work ≡ zeros w
  pub message : drop p.answered.message_length p.answered.message ≡ zeros (m - p.answered.message_length)

-- "Unless its own buffers give 1, it equals what expansion returns on a copy of the same inputs with buffers that are long enough."
-- "Of the buffers it asks for message and work only."
pub record Previews (g : (work_length message_length limit file : ℕ) → (registry input : List ℕ) → Preview) : Type 0 where
  pub short : (w m limit file : ℕ) (registry input : List ℕ) → (w < 65536) ⊎ (m < 2048)
      → PreviewsShort w m (g w m limit file registry input)
  pub long : (b : Buffers) (w m limit file : ℕ) (registry input : List ℕ) → LongBuffers b → 65536 ≤ w → 2048 ≤ m
      → PreviewsAnswer w m (expand_answer b limit file registry input) (g w m limit file registry input)

-- ------------------------------------------------------------------ judge

-- "with 75 bytes for names"; "for them" (files above 0) "point 3's name limit becomes 81"
pub data NameLimit : (file most : ℕ) → Type 0 where
  in_file_0 : NameLimit 0 75
  above_0 : (file : ℕ) → NameLimit (suc file) 81

-- "yes exactly if our expansion succeeds and the two trees, spans included, are equal after a one-to-one renaming of names": names
-- that stand in the inputs must be equal
abbrev pub SameButNames : (file : ℕ) → List MacroDef → Condition → (ours : Tree) (theirs : Condition) → Type 0
SameButNames file defs c ours theirs =
    Agree (names_in (flat_condition c) ++ names_in (flat_registry defs)) (Generated file defs c) (flat_tree ours) (flat_condition theirs)

-- the three tapes, read in their order
pub record ThreeRead (file : ℕ) (registry input supplied : List ℕ) (defs : List MacroDef) (c theirs : Condition) : Type 0 where
  pub most : ℕ
  pub name_limit : NameLimit file most
  pub its_registry : read registry_root registry ≡ Reading.accepted defs
  pub its_condition : read condition_root input ≡ Reading.accepted c
  pub its_supplied : read (named_root most) supplied ≡ Reading.accepted theirs

pub record Judges (g : Buffers → (limit file : ℕ) → (registry input supplied : List ℕ) → Answer) : Type 0 where
  pub short : (b : Buffers) (limit file : ℕ) (registry input supplied : List ℕ) → ShortBuffers b
      → RefusesAlone b 1 (g b limit file registry input supplied)
  pub registry_unread : (b : Buffers) (limit file : ℕ) (registry input supplied : List ℕ) (why : ℕ) → LongBuffers b
      → Unread (read registry_root registry) why → RefusesAlone b why (g b limit file registry input supplied)
  pub input_unread : (b : Buffers) (limit file : ℕ) (registry input supplied : List ℕ) (why : ℕ) (defs : List MacroDef) → LongBuffers b
      → read registry_root registry ≡ Reading.accepted defs → Unread (read condition_root input) why
      → RefusesAlone b why (g b limit file registry input supplied)
  -- "The supplier's tape is a third tape"
  pub supplied_unread : (b : Buffers) (limit file most : ℕ) (registry input supplied : List ℕ) (why : ℕ) (defs : List MacroDef)
      (c : Condition)
      → LongBuffers b → NameLimit file most → read registry_root registry ≡ Reading.accepted defs
      → read condition_root input ≡ Reading.accepted c → Unread (read (named_root most) supplied) why
      → RefusesAlone b why (g b limit file registry input supplied)
  pub refused : (b : Buffers) (limit file : ℕ) (registry input supplied : List ℕ) (defs : List MacroDef) (c theirs : Condition)
      (r : Refusal)
      (charged : ℕ) → LongBuffers b → ThreeRead file registry input supplied defs c theirs
      → expand limit file defs c ≡ Outcome.refused r charged
      → Refuses b r.number r.span r.message charged (g b limit file registry input supplied)
  -- "Yes is 0, with our tape as result."
  pub yes : (b : Buffers) (limit file : ℕ) (registry input supplied : List ℕ) (defs : List MacroDef) (c theirs : Condition) (ours : Tree)
      (charged : ℕ) → LongBuffers b → ThreeRead file registry input supplied defs c theirs
      → expand limit file defs c ≡ Outcome.done ours charged → SameButNames file defs c ours theirs
      → Gives b (encode (flat_tree ours)) charged (g b limit file registry input supplied)
  -- "50 with span 0..0 for "not equal", after every other refusal"
  pub no : (b : Buffers) (limit file : ℕ) (registry input supplied : List ℕ) (defs : List MacroDef) (c theirs : Condition) (ours : Tree)
      (charged : ℕ) → LongBuffers b → ThreeRead file registry input supplied defs c theirs
      → expand limit file defs c ≡ Outcome.done ours charged → (SameButNames file defs c ours theirs → ⊥)
      → Refuses b 50 0 [] charged (g b limit file registry input supplied)
