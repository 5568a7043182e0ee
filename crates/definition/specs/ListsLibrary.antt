-- Document 02, point 1, as promises over any function: a function that meets `ListsLibrary` answers as the library check does, and one that
-- meets `ChecksAt` as the check of one index does, on every input and all buffers. They are said by the Rust's check of one definition
-- (`check_def`) and its registry (`build`), by the bytes of the paper, and by nothing of the operations' own definition. The theorems are
-- in proofs/ListsLibrary.antt.
-- Assumes nothing.
use Rattle.std.specs.Prelude.{ℕ, suc, ◌^◌, ◌%◌, ◌/◌, ◌≤◌, ◌≡◌, ◌⊎◌, List, [], ◌∷◌, ◌++◌, length}
use Rattle.std.proofs.Math.Option.{none, some}
use Rattle.format.specs.Entry.{le}
use Rattle.format.specs.Ast.{MacroDef}
use Rattle.format.specs.Tape.{Reading, registry_root, read}
use Rattle.definition.specs.Outcome.{Refusal}
use Rattle.definition.specs.Check.{check_def}
use Rattle.definition.specs.Registry.{build}
use Rattle.definition.specs.Answers.{Answer, message_alone, without_work}
use Rattle.definition.specs.Returned.{At, Gives, Refuses, RefusesAlone, Unread, ShortResult, ShortMessage}

-- ------------------------------------------------------------------ the list

-- "index (from 0), number, start and end, 4 bytes each": the span is start + 2^32 × end, and `le 4` little-endian
abbrev pub row : (index : ℕ) → Refusal → List ℕ
row i why = le 4 i ++ (le 4 why.number ++ (le 4 (why.span % 2 ^ 32) ++ le 4 (why.span / 2 ^ 32)))

-- "every refused definition in registry order": the definitions from an index on, and the bytes of their list. A definition that passes
-- has no row, one that is refused has one row, and the index counts both.
pub data Lists : (index : ℕ) → List MacroDef → List ℕ → Type 0 where
  at_the_end : {i : ℕ} → Lists i [] []
  passes : {i : ℕ} {d : MacroDef} {ds : List MacroDef} {bytes : List ℕ} → check_def d ≡ none → Lists (suc i) ds bytes
      → Lists i (d ∷ ds) bytes
  refused : {i : ℕ} {d : MacroDef} {ds : List MacroDef} {bytes : List ℕ} {why : Refusal} → check_def d ≡ some why → Lists (suc i) ds bytes
      → Lists i (d ∷ ds) (row i why ++ bytes)

-- The cases in the paper's order, each with what the earlier ones leave. Together they are every input.
pub record ListsLibrary (g : (result_length message_length : ℕ) → (registry : List ℕ) → Answer) : Type 0 where
  -- "result below 12,296 bytes … or message below 2,048"
  pub short : (r m : ℕ) (x : List ℕ) → ShortResult (without_work r m) ⊎ ShortMessage (without_work r m)
      → RefusesAlone (without_work r m) 1 (g r m x)
  -- the registry's 2 and 3
  pub unread : (r m : ℕ) (x : List ℕ) (why : ℕ) → 12296 ≤ r → 2048 ≤ m → Unread (read registry_root x) why
      → RefusesAlone (without_work r m) why (g r m x)
  -- "It runs after 10 and 11", which have their definition's span and their message
  pub not_built : (r m : ℕ) (x : List ℕ) (ds : List MacroDef) (why : Refusal) → 12296 ≤ r → 2048 ≤ m
      → read registry_root x ≡ Reading.accepted ds → build ds ≡ some why
      → Refuses (without_work r m) why.number why.span why.message 0 (g r m x)
  -- "The list stands in the result buffer …, then zeros, and the call returns 0."
  pub listed : (r m : ℕ) (x : List ℕ) (ds : List MacroDef) (bytes : List ℕ) → 12296 ≤ r → 2048 ≤ m
      → read registry_root x ≡ Reading.accepted ds → build ds ≡ none → Lists 0 ds bytes
      → Gives (without_work r m) bytes 0 (g r m x)

-- ------------------------------------------------------------------ one index

-- "An operation has only the buffers it needs": the message alone, as the check of one definition has.
pub record ChecksAt (g : (message_length : ℕ) → (registry : List ℕ) → (index : ℕ) → Answer) : Type 0 where
  pub short : (m : ℕ) (x : List ℕ) (i : ℕ) → ShortMessage (message_alone m) → RefusesAlone (message_alone m) 1 (g m x i)
  pub unread : (m : ℕ) (x : List ℕ) (i why : ℕ) → 2048 ≤ m → Unread (read registry_root x) why
      → RefusesAlone (message_alone m) why (g m x i)
  pub not_built : (m : ℕ) (x : List ℕ) (i : ℕ) (ds : List MacroDef) (why : Refusal) → 2048 ≤ m
      → read registry_root x ≡ Reading.accepted ds → build ds ≡ some why
      → Refuses (message_alone m) why.number why.span why.message 0 (g m x i)
  -- "For one index it returns what that definition's check alone returns": what the answer of the check is made of, message and all. That
  -- it is the answer to the definition's own tape, as it was uploaded too, are `CheckedAlone` and `CheckedAsUploaded` (Library.antt).
  pub passes : (m : ℕ) (x : List ℕ) (i : ℕ) (ds : List MacroDef) (d : MacroDef) → 2048 ≤ m
      → read registry_root x ≡ Reading.accepted ds → build ds ≡ none → At ds i d → check_def d ≡ none
      → Gives (message_alone m) [] 0 (g m x i)
  pub refused : (m : ℕ) (x : List ℕ) (i : ℕ) (ds : List MacroDef) (d : MacroDef) (why : Refusal) → 2048 ≤ m
      → read registry_root x ≡ Reading.accepted ds → build ds ≡ none → At ds i d → check_def d ≡ some why
      → Refuses (message_alone m) why.number why.span why.message 0 (g m x i)
  -- "past the end 0"
  pub past_the_end : (m : ℕ) (x : List ℕ) (i : ℕ) (ds : List MacroDef) → 2048 ≤ m
      → read registry_root x ≡ Reading.accepted ds → build ds ≡ none → length ds ≤ i
      → Gives (message_alone m) [] 0 (g m x i)
