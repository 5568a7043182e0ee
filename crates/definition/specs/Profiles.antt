-- Document 02, point 10, in the paper's words and of any function that takes a tape and gives an answer: "The profile check takes any
-- accepted condition tape, names of up to 81 bytes allowed, and gives the first broken rule in entry order. For one entry the lowest
-- number is given." That the definition does so, and that nothing else does, is in proofs/Profiles.antt. The point's
-- last sentence, that a condition that passes "is returned unchanged", is `ReturnedUnchanged` of specs/Profile.antt.
-- "Points 3, 7, 8 and 10 and the equality with the Rust speak of the rewritten tree": `read` gives it.
-- Assumes nothing.
use Rattle.std.specs.Prelude.{ℕ, suc, ◌+◌, ◌<◌, ◌≤◌, ◌≡◌, ◌⊎◌, List, [], ◌∷◌, ◌++◌, length, ℤ, pos, negsuc, ◌*ℤ◌}
use Rattle.format.specs.Entry.{Entry, entry}
use Rattle.format.specs.Ast.{Condition}
use Rattle.format.specs.Flat.{flat_condition}
use Rattle.format.specs.Signed.{signed}
use Rattle.format.specs.Tape.{Reading, named_root, read}
use Rattle.definition.specs.Answers.{Answer, Buffers, without_work}
use Rattle.definition.specs.Returned.{Gives, Refuses, RefusesAlone, Unread}

-- ------------------------------------------------------------------ "the nearest condition around it"

-- "A subtree is one run of entries": this condition's run begins behind `front`, and the entry with so many entries before it stands in
-- the run.
pub record Around (es : List Entry) (place : ℕ) (front : List Entry) (c : Condition) (rest : List Entry) : Type 0 where
  pub run : es ≡ front ++ (flat_condition c ++ rest)
  pub begins : length front ≤ place
  pub ends : place < length front + length (flat_condition c)

-- "Entries stand in preorder", so that of the conditions around an entry the nearest is the one that begins last. Its span is the
-- value of its first entry.
pub record Nearest (es : List Entry) (place span : ℕ) : Type 0 where
  pub front : List Entry
  pub condition : Condition
  pub rest : List Entry
  pub around : Around es place front condition rest
  pub nearest : (front' : List Entry) (other : Condition) (rest' : List Entry) → Around es place front' other rest'
      → length front' ≤ length front
  pub code : ℕ
  pub parts : List Entry
  pub spanned : flat_condition condition ≡ entry code span ∷ parts

-- ------------------------------------------------------------------ the three rules

-- "one for each code 1 to 13 and 20 to 36"
abbrev pub IsNode : Entry → Type 0
IsNode e = ((1 ≤ e.code) × (e.code ≤ 13)) ⊎ ((20 ≤ e.code) × (e.code ≤ 36))

-- how many nodes are among these entries
pub data Nodes : List Entry → ℕ → Type 0 where
  none : Nodes [] 0
  node : {e : Entry} {es : List Entry} {n : ℕ} → IsNode e → Nodes es n → Nodes (e ∷ es) (suc n)
  other : {e : Entry} {es : List Entry} {n : ℕ} → (IsNode e → ⊥) → Nodes es n → Nodes (e ∷ es) n

-- "within in seconds, minutes, hours, days", and "Code 64 is an interval in weeks": the seconds that the amount of such a code counts.
-- A 52 has none: "never for a 52".
pub data SecondsEach : (code each : ℕ) → Type 0 where
  second : SecondsEach 48 1
  minute : SecondsEach 49 60
  hour : SecondsEach 50 3600
  day : SecondsEach 51 86400
  week : SecondsEach 64 604800

-- outside "from 0 to one day"; a day has 86,400 seconds
pub data Outside : ℤ → Type 0 where
  below_zero : {n : ℕ} → Outside (negsuc n)
  above_a_day : {n : ℕ} → 86400 < n → Outside (pos n)

-- An entry, which stands behind `before`, breaks the rule of a number: "53 for an aggregate (at its 30)"; "54 for the seventeenth
-- node", before which there are 16; "55 for a code 48 to 51 or 64 outside that range", amounts being signed.
pub data Breaks (before : List Entry) (e : Entry) : (number : ℕ) → Type 0 where
  aggregate : e.code ≡ 30 → Breaks before e 53
  seventeenth : IsNode e → Nodes before 16 → Breaks before e 54
  interval : {each : ℕ} → SecondsEach e.code each → Outside (pos each *ℤ signed e.value) → Breaks before e 55

-- none of these entries, which are a tape's first, breaks a rule
abbrev pub Unbroken : List Entry → Type 0
Unbroken es =
    (before : List Entry) (e : Entry) (after : List Entry) (number : ℕ) → es ≡ before ++ e ∷ after → Breaks before e number → ⊥

-- "the first broken rule in entry order. For one entry the lowest number is given."
pub record FirstBroken (es before : List Entry) (number : ℕ) : Type 0 where
  pub e : Entry
  pub after : List Entry
  pub entries : es ≡ before ++ e ∷ after
  pub unbroken : Unbroken before
  pub broken : Breaks before e number
  pub lowest : (other : ℕ) → Breaks before e other → number ≤ other

-- ------------------------------------------------------------------ the promises

-- the profile check lends no buffer
abbrev pub no_buffer : Buffers
no_buffer = without_work 0 0

-- In order: "all after 3"; "53 for an aggregate (at its 30) and 54 for the seventeenth node, both with 0..0; 55 … with the span of the
-- nearest condition around it"; what breaks no rule passes.
pub record Profiles (g : (tape : List ℕ) → Answer) : Type 0 where
  pub unread : (tape : List ℕ) (why : ℕ) → Unread (read (named_root 81) tape) why → RefusesAlone no_buffer why (g tape)
  pub aggregate : (tape : List ℕ) (c : Condition) (before : List Entry) → read (named_root 81) tape ≡ Reading.accepted c
      → FirstBroken (flat_condition c) before 53 → RefusesAlone no_buffer 53 (g tape)
  pub seventeenth : (tape : List ℕ) (c : Condition) (before : List Entry) → read (named_root 81) tape ≡ Reading.accepted c
      → FirstBroken (flat_condition c) before 54 → RefusesAlone no_buffer 54 (g tape)
  pub interval : (tape : List ℕ) (c : Condition) (before : List Entry) (span : ℕ) → read (named_root 81) tape ≡ Reading.accepted c
      → FirstBroken (flat_condition c) before 55 → Nearest (flat_condition c) (length before) span → Refuses no_buffer 55 span [] 0 (g tape)
  pub passes : (tape : List ℕ) (c : Condition) → read (named_root 81) tape ≡ Reading.accepted c → Unbroken (flat_condition c)
      → Gives no_buffer [] 0 (g tape)
