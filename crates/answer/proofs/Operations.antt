-- The ways in which an operation ends: a buffer is too short; a tape is refused; what was found matches the definition's outcome. Its
-- answer is what the definition says, whichever buffers it has and however long they must be.
-- Assumes nothing.
use Rattle.messages.specs.declared.Refused.{Refused}
use Rattle.tape.specs.declared.header.Fault.{Fault}
use Rattle.std.proofs.Common.{Result, Ok, Err}
use Prim.Native.Nat.{ℕ, ◌≤◌, ◌<◌}
use native.Mathlib.Omega.{arith}
use mathlib.Core.Path.{◌≡◌, refl, sym, ap, ◌∙◌}
use mathlib.Core.List.{List, []}
use mathlib.Core.Bool.{Bool, true, false, ◌&&◌}
use lib.Dec.{leb, leb→le}
use lib.ListN.{length}
use borrow.Author.Tests.{le-leb, lt-leb}
use Rattle.format.specs.Entry.{encode}
use Rattle.format.specs.Ast.{Tree}
use Rattle.format.specs.Flat.{flat_tree}
use Rattle.format.specs.Rewritten.{weighted, map_reading}
use Rattle.format.specs.Tape.{Reading, Root, accept, read, rewritten, Bytes}
use Rattle.format.proofs.Exact.{Lawful}
use Rattle.format.proofs.Rewritten.{Rewrites, read_as}
use Rattle.format.proofs.Tests.{and_left, and_right, from_true}
use Rattle.definition.specs.Outcome.{Outcome}
use Rattle.definition.specs.Check.{Verdict}
use Rattle.definition.specs.Answers.{Answer, Buffers, answer, number_alone, reading, long_buffers, tree_answer, verdict, message_alone, message_answer}
use Rattle.tape.specs.Accept.{accept_named, accept_of}
use Rattle.tape.specs.Header.{fault_number}
use Rattle.tape.specs.declared.layout.Layout.{Layout}
use Rattle.tape.specs.declared.layout.Tape.{Tape}
use Rattle.tape.proofs.Acceptance.{RootOf, RootNamed, Answers, answers_2, answers_3, answers_tape, answers}
use Rattle.walk_state.specs.Walk.{Walk}
use Rattle.answer.specs.Matches.{ended, message_in, VerdictMatches, AnswersVerdict, AnswersTape, short_message, tape_refused, tape_judged, OutcomeMatches, AnswersOutcome}
use Rattle.answer.specs.Tapes.{after_first, on_first, accept_two}

-- ------------------------------------------------------------------ tapes

-- a tape that is refused
pub refused_tape : {A B : Type 0} (root : Root A) {longest sort : ℕ} {f : Fault} → RootNamed longest root sort → (s : List ℕ) (k : A → Outcome B)
    → accept_named longest s sort ≡ Err f → reading (accept (weighted root) s) k ≡ number_alone (fault_number f)
unfolding reading
refused_tape {A} root {f = f} r s k e = go (answers r s) e
  where
    go : {x : Result Layout Fault} {y : Reading A} → Answers (weighted root) s x y → x ≡ Err f → reading y k ≡ number_alone (fault_number f)
    go answers_2 e = ap number_alone cc
    go answers_3 e = ap number_alone cc
    go (answers_tape h p) e = absurd cc

-- one of two
pub refused_tapes : {A B C : Type 0} (first : Root A) (second : Root B) {i j : ℕ} {f : Fault} → RootOf first i → RootOf second j → (s t : List ℕ)
    (k : A → B → Outcome C) → accept_two s i t j ≡ Err f
    → reading (accept (weighted first) s) (λ x. reading (accept (weighted second) t) (k x)) ≡ number_alone (fault_number f)
unfolding accept_two reading
refused_tapes {A} first second {i} {j} {f} p q s t k e = go (answers p s) e
  where
    then : (x : A) (d : Layout) (y : Result Layout Fault) → accept_of t j ≡ y → after_first d y ≡ Err f
        → reading (accept (weighted second) t) (k x) ≡ number_alone (fault_number f)
    then x d (Ok c) z e = absurd cc
    then x d (Err m) z e = refused_tape second q t (k x) (z ∙ cc)

    go : {x : Result Layout Fault} {y : Reading A} → Answers (weighted first) s x y → on_first x (accept_of t j) ≡ Err f
        → reading y (λ x. reading (accept (weighted second) t) (k x)) ≡ number_alone (fault_number f)
    go answers_2 e = ap number_alone cc
    go answers_3 e = ap number_alone cc
    go (answers_tape {a = a} {l = l} h p) e = then a l (accept_of t j) refl e

-- a layout of the two
abbrev layout_of : (Layout × Layout → Layout) → Result (Layout × Layout) Fault → Result Layout Fault
layout_of f (Ok p) = Ok (f p)
layout_of f (Err n) = Err n

both_accepted : {d c : Layout} (x y : Result Layout Fault) → on_first x y ≡ Ok (d, c) → (x ≡ Ok d) × (y ≡ Ok c)
both_accepted (Ok d₁) (Ok c₁) e = (ap (layout_of (λ p. p.0)) e, ap (layout_of (λ p. p.1)) e)
both_accepted (Ok d₁) (Err n) e = absurd cc
both_accepted (Err n) y e = absurd cc

module _ (s t : List ℕ) (i j : ℕ) {d c : Layout} (e : accept_two s i t j ≡ Ok (d, c)) where
  pub first_accepted : accept_of s i ≡ Ok d
  unfolding accept_two
  first_accepted = (both_accepted (accept_of s i) (accept_of t j) e).0

  pub second_accepted : accept_of t j ≡ Ok c
  unfolding accept_two
  second_accepted = (both_accepted (accept_of s i) (accept_of t j) e).1

-- an accepted tape is read as its rewriting
pub accepted_read : {A : Type 0} {root : Root A} → Rewrites root → Lawful root → (s : List ℕ) → Bytes s → {x : A}
    → accept (weighted root) s ≡ Reading.accepted x → read root s ≡ Reading.accepted (rewritten root x)
unfolding map_reading
accepted_read {root = root} w law s bytes e = (read_as root w law s bytes).one_scan ∙ ap (map_reading (rewritten root)) e

-- what is read is the rewriting of what is accepted with the figures of the rewritten tape
pub read_rewritten : {A B : Type 0} {root : Root A} → Rewrites root → Lawful root → (s : List ℕ) → Bytes s → (k : A → Outcome B)
    → reading (read root s) k ≡ reading (accept (weighted root) s) (λ x. k (rewritten root x))
unfolding reading map_reading
read_rewritten {A} {root = root} w law s bytes k = rw (read_as root w law s bytes).one_scan (go (accept (weighted root) s))
  where
    go : (o : Reading A) → reading (map_reading (rewritten root) o) k ≡ reading o (λ x. k (rewritten root x))
    go Reading.malformed = refl
    go Reading.too_large = refl
    go (Reading.accepted x) = refl

-- of two tapes
pub read_two : {A B C : Type 0} {first : Root A} {second : Root B} → Rewrites first → Rewrites second → Lawful first → Lawful second
    → (s t : List ℕ) → Bytes s → Bytes t → (k : A → B → Outcome C)
    → reading (read first s) (λ x. reading (read second t) (k x))
    ≡ reading (accept (weighted first) s) (λ x. reading (accept (weighted second) t) (λ y. k (rewritten first x) (rewritten second y)))
unfolding reading
read_two {A} {first = first} {second = second} w v law rule s t p q k =
    read_rewritten w law s p (λ x. reading (read second t) (k x)) ∙ go (accept (weighted first) s)
  where
    go : (o : Reading A) → reading o (λ x. reading (read second t) (k (rewritten first x)))
        ≡ reading o (λ x. reading (accept (weighted second) t) (λ y. k (rewritten first x) (rewritten second y)))
    go Reading.malformed = refl
    go Reading.too_large = refl
    go (Reading.accepted x) = read_rewritten v rule t q (k (rewritten first x))

-- ------------------------------------------------------------------ buffers

pub record Long (b : Buffers) : Type 0 where
  pub result : 12296 ≤ b.result_length
  pub work : 65536 ≤ b.work_length
  pub message : 2048 ≤ b.message_length

pub long_enough : (b : Buffers) → long_buffers b ≡ true → Long b
unfolding long_buffers
long_enough b e =
    let first = leb 12296 b.result_length in
    let second = leb 65536 b.work_length in
    let third = leb 2048 b.message_length in
    let rest = and_right first (second && third) (from_true e) in
    record {
      result = leb→le 12296 b.result_length (and_left first (second && third) (from_true e));
      work = leb→le 65536 b.work_length (and_left second third rest);
      message = leb→le 2048 b.message_length (and_right second third rest);
    }

-- ------------------------------------------------------------------ the operation's answer

-- what the definition says of an operation: 1 where a buffer is too short, and else the answer of its outcome
abbrev pub operation : {A : Type 0} → (A → List ℕ) → Buffers → Bool → Outcome A → Answer
operation tape b long o = answer tape b (elim long [ true ↦ o | false ↦ number_alone 1 ])

answer_length : {A : Type 0} (tape : A → List ℕ) (b : Buffers) (o : Outcome A) → (answer tape b o).message_length ≡ length (message_in o)
unfolding answer
answer_length tape b (Outcome.done a k) = refl
answer_length tape b (Outcome.refused r k) = refl

module _ {A : Type 0} (tape : A → List ℕ) (b : Buffers) (o : Outcome A) {long : Bool} {a : Answer} where
  pub ends_short : long ≡ false → a ≡ ended b (number_alone 1) → a ≡ operation tape b long o
  unfolding ended answer number_alone
  ends_short h e = rw h e

  pub ends_refused : (n : ℕ) → long ≡ true → o ≡ number_alone n → a ≡ ended b (number_alone n) → a ≡ operation tape b long o
  unfolding ended answer number_alone
  ends_refused n h q e = rw (h, q) e

  -- the message is not cut, since none is longer than the least buffer
  pub ends_matched : long ≡ true → 2048 ≤ b.message_length → (operation tape b long o).message_length ≤ 2048
      → (length (message_in o) ≤ b.message_length → a ≡ answer tape b o) → a ≡ operation tape b long o
  ends_matched h room short found =
      let e : operation tape b long o ≡ answer tape b o = rw h in
      let n : (operation tape b long o).message_length ≡ length (message_in o) = ap (λ (z : Answer). z.message_length) e ∙ answer_length tape b o in
      found (omega arith) ∙ sym e

-- ------------------------------------------------------------------ one tape, and a message buffer alone

message_short : (m : ℕ) (o : Outcome (Unit {0})) {a : Answer} → m < 2048 → a ≡ ended (message_alone m) (number_alone 1) → a ≡ message_answer m o
unfolding message_answer
message_short m o h e = ends_short (λ (u : Unit {0}). []) (message_alone m) o (lt-leb 2048 m h) e

-- an operation that finds the same verdict on the tree as it was given: it accepts the tape, and finds it
module _ {A : Type 0} (root : Root A) {sort : ℕ} (r : RootOf root sort) (find : A → Verdict) (m : ℕ) (s : List ℕ) where
  abbrev verdicts : Outcome (Unit {0})
  verdicts = reading (accept (weighted root) s) λ x. verdict (find x)

  message_refused : {f : Fault} {a : Answer} → 2048 ≤ m → accept_of s sort ≡ Err f → a ≡ ended (message_alone m) (number_alone (fault_number f))
      → a ≡ message_answer m verdicts
  unfolding message_answer
  message_refused {f} h q e =
      ends_refused (λ (u : Unit {0}). []) (message_alone m) verdicts (fault_number f) (le-leb 2048 m h) (refused_tape root r s (λ x. verdict (find x)) q) e

  message_verdict : {x : A} (l : Layout) (v : Result Unit Refused) {a : Answer} → 2048 ≤ m → accept (weighted root) s ≡ Reading.accepted x
      → (message_answer m verdicts).message_length ≤ 2048 → VerdictMatches s l v (find x) → AnswersVerdict s l v (message_alone m) a
      → a ≡ message_answer m verdicts
  unfolding message_answer reading ended
  message_verdict {x} l v h e short matches ends =
      ends_matched (λ (u : Unit {0}). []) (message_alone m) verdicts (le-leb 2048 m h) h short
      (λ n. let o : verdicts ≡ verdict (find x) = rw e in rw o (ends (find x) matches (rw o at n)))

  -- a verdict that is found on the tape, and what the definition finds there
  abbrev pub FoundOn : Layout → Result Unit Refused → Type 0
  FoundOn l v = (x : A) × (accept (weighted root) s ≡ Reading.accepted x) × VerdictMatches s l v (find x)

  pub tape_answered : {P : Tape → Result Unit Refused → Type 0} {a : Answer} → AnswersTape s sort P m a
      → ((t : Tape) (v : Result Unit Refused) → t.bytes.now ≡ s → accept_of s sort ≡ Ok t.layout → P t v → FoundOn t.layout v)
      → (message_answer m verdicts).message_length ≤ 2048 → a ≡ message_answer m verdicts
  tape_answered (short_message h e) found short = message_short m verdicts h e
  tape_answered (tape_refused h q e) found short = message_refused h q e
  tape_answered (tape_judged {t} {v} h b q p ends) found short =
      let x = found t v b q p in
      message_verdict t.layout v h x.1 short x.2 ends

-- ------------------------------------------------------------------ two tapes, and all three buffers

abbrev tree_tape : Tree → List ℕ
tree_tape t = encode (flat_tree t)

pub tree_short : (b : Buffers) (o : Outcome Tree) {a : Answer} → long_buffers b ≡ false → a ≡ ended b (number_alone 1) → a ≡ tree_answer b o
unfolding tree_answer
tree_short b o h e = ends_short tree_tape b o h e

module _ {A B : Type 0} (first : Root A) (second : Root B) {i j : ℕ} (p : RootOf first i) (q : RootOf second j) (find : A → B → Outcome Tree)
    (b : Buffers) (s t : List ℕ) where
  abbrev trees : Outcome Tree
  trees = reading (accept (weighted first) s) λ x. reading (accept (weighted second) t) λ y. find x y

  pub tree_refused : {f : Fault} {a : Answer} → long_buffers b ≡ true → accept_two s i t j ≡ Err f → a ≡ ended b (number_alone (fault_number f)) → a ≡ tree_answer b trees
  unfolding tree_answer
  tree_refused {f} h k e = ends_refused tree_tape b trees (fault_number f) h (refused_tapes first second p q s t find k) e

  -- u and v are the tapes that were walked: those that were given, or rewritten
  pub tree_walked : {x : A} {y : B} (u v : List ℕ) (d c : Layout) (w : Walk) (bytes : List ℕ) {a : Answer} → long_buffers b ≡ true → accept (weighted first) s ≡ Reading.accepted x
      → accept (weighted second) t ≡ Reading.accepted y → (tree_answer b trees).message_length ≤ 2048 → OutcomeMatches u d v c w bytes (find x y)
      → AnswersOutcome u d v c w bytes b a → a ≡ tree_answer b trees
  unfolding tree_answer reading
  tree_walked {x} {y} u v d c w bytes h g k short matches ends =
      ends_matched tree_tape b trees h (long_enough b h).message short
      (λ n. let o : trees ≡ find x y = rw (g, k) in rw o (ends (find x y) matches (long_enough b h).result (rw o at n)))
