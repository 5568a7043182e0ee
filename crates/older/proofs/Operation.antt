-- The older tape's answer, of a tape that was accepted and of its rewriting, is what the definition says.
-- Assumes nothing.
use Rattle.tape.specs.declared.header.Fault.{Fault}
use Rattle.std.proofs.Common.{Result, Ok, Err}
use Prim.Native.Nat.{ℕ, ◌≤◌}
use native.Mathlib.Omega.{arith}
use mathlib.Core.Path.{◌≡◌, refl, sym, ap, ◌∙◌}
use mathlib.Core.List.{List, []}
use mathlib.Core.Bool.{Bool, true, false}
use mathlib.Core.Option.{Option, none, some}
use lib.Dec.{leb, leb→le, eqb, eqb→eq}
use lib.ListN.{length, replicate, length-replicate}
use Rattle.format.specs.Entry.{Entry, encode, text_of}
use Rattle.format.specs.Older.{older_entries, fits_older, Kind, TreeOf, root_of, kind_of, first_code}
use Rattle.format.specs.Rewritten.{map_reading}
use Rattle.format.specs.Tape.{Reading, read, read_tape, rewritten, Bytes}
use Rattle.format.proofs.Becomes.{tally_none}
use Rattle.format.proofs.Encodes.{fitting, length_encode}
use Rattle.format.proofs.LastYear.{lawful_of, rewrites_of, ages_of}
use Rattle.format.proofs.Older.{older_length, older_text}
use Rattle.format.proofs.Rewritten.{rewriting, read_as, read_on_tape}
use Rattle.format.proofs.Tests.{from_true}
use Rattle.definition.specs.Answers.{Answer, padded, answer, number_alone, reading}
use Rattle.definition.specs.Older.{unless_out, older_of, older_tape, result_alone, older_answer}
use Rattle.definition.specs.Outcome.{Outcome}
use Rattle.tape.specs.Accept.{accept_of}
use Rattle.tape.specs.Header.{fault_number}
use Rattle.tape.specs.Ors.{ors_in}
use Rattle.tape.specs.declared.layout.Layout.{Layout}
use Rattle.tape.proofs.Located.{Inside, accepted_inside}
use Rattle.tape.proofs.Roots.{Accepted, accepted_root}
use Rattle.tape.proofs.Runs.{place}
use Rattle.de_morgan.specs.Rewritten.{rewritten_in, rewritten_layout}
use Rattle.de_morgan.proofs.Rewritten.{accepted_rewritten, accepted_ors}
use Rattle.answer.specs.Matches.{answer_with, ended}
use Rattle.answer.specs.declared.Answer as code
use Rattle.answer.proofs.Ends.{result_written}
use Rattle.answer.proofs.Operations.{refused_tape, read_rewritten, ends_short, ends_refused}
use Rattle.weeks.specs.Heads.{fits_in, older_tape_in, written_in}
use Rattle.weeks.proofs.Entries.{fill, fits_are, tape_is}
use Rattle.older.specs.Roots.{sort_of, AnswersOlder}
use Rattle.older.proofs.Roots.{root_of_lem, NoRoot, no_root, none_answers}

-- a result that is bytes, or entries that are encoded
encoded_answer : (n : ℕ) (fits : Bool) (es : List Entry)
    → answer (λ (t : List ℕ). t) (result_alone n) (unless_out fits (encode es)) ≡ answer encode (result_alone n) (unless_out fits es)
unfolding answer unless_out number_alone
encoded_answer n true es = refl
encoded_answer n false es = refl

-- ------------------------------------------------------------------ what was written, or not

module _ (s : List ℕ) (l : Layout) (before : List ℕ) {fits : Bool} {after : List ℕ} (w : (fits ≡ fits_in s l) × (after ≡ written_in s l before)) where
  pub in_written : {r : code.Answer} → fits ≡ true → answer_with r [] [] [] ≡ ended (result_alone 0) (number_alone 0)
      → AnswersOlder s l (length before) (answer_with r after [] [])
  unfolding AnswersOlder unless_out number_alone
  in_written t e room =
      let f : fits_in s l ≡ true = sym w.0 ∙ t in
      let p : after ≡ padded (length before) (older_tape_in s l) = w.1 ∙ rw f (fill before (older_tape_in s l) room) in
      rw f (result_written (λ (t : List ℕ). t) (length before) 0 0 (older_tape_in s l) 0 p e)

  pub in_refused : {a : Answer} → fits ≡ false → a ≡ ended (result_alone (length after)) (number_alone 52) → AnswersOlder s l (length before) a
  unfolding AnswersOlder unless_out ended answer number_alone
  in_refused t e room =
      let f : fits_in s l ≡ false = sym w.0 ∙ t in
      let p : after ≡ before = w.1 ∙ rw f refl in
      rw f (rw p at e)

-- ------------------------------------------------------------------ a short buffer, and a tape that is refused

pub short : (n : ℕ) (s : List ℕ) {a : Answer} → leb 12296 n ≡ false → a ≡ ended (result_alone n) (number_alone 1) → a ≡ older_answer n s
unfolding older_answer
short n s h e = ends_short encode (result_alone n) (older_tape s) h e

-- the root that was asked for is the one that the first code tells
pub sort_told : (s : List ℕ) {first sort : ℕ} {x : Result Layout Fault} → first ≡ first_code s → sort ≡ sort_of (kind_of first) → accept_of s sort ≡ x
    → accept_of s (sort_of (kind_of (first_code s))) ≡ x
sort_told s f k e = rw (← f, ← k) e

module _ (s : List ℕ) (bytes : Bytes s) where
  -- of the root that its first code tells, or of none
  refused_of_lem : (f : Fault) (o : Option Kind) → accept_of s (sort_of o) ≡ Err f
      → elim o as (λ x. Outcome (List Entry)) [ some k ↦ older_of (root_of k) s | none ↦ reading (read_tape s) λ es. number_alone 2 ]
      ≡ number_alone {A = List Entry} (fault_number f)
  unfolding older_of
  refused_of_lem f none e = go (none_answers s) e
    where
      go : {x : Result Layout Fault} {y : Outcome (List Entry)} → NoRoot x y → x ≡ Err f → y ≡ number_alone (fault_number f)
      go (no_root k) e = ap number_alone cc
  refused_of_lem f (some k) e =
      read_rewritten (rewrites_of k) (lawful_of k) s bytes _ ∙ refused_tape (root_of k) (root_of_lem k) s _ e

  pub refused : (n : ℕ) {f : Fault} {a : Answer} → leb 12296 n ≡ true → accept_of s (sort_of (kind_of (first_code s))) ≡ Err f
      → a ≡ ended (result_alone n) (number_alone (fault_number f)) → a ≡ older_answer n s
  unfolding older_answer older_tape
  refused n {f} long e k =
      ends_refused encode (result_alone n) (older_tape s) (fault_number f) long (refused_of_lem f (kind_of (first_code s)) e) k

  -- ------------------------------------------------------------------ a tape that was read

  -- and its tree stands at a layout, of its own slice or of another
  module _ (n : ℕ) (long : leb 12296 n ≡ true) (k : Kind) (first : kind_of (first_code s) ≡ some k) (x : TreeOf k)
      (r : read (root_of k) s ≡ Reading.accepted x) where
    abbrev es : List Entry
    es = (root_of k).flat x

    outcome : older_tape s ≡ unless_out (fits_older es) (older_entries es)
    unfolding older_tape older_of reading
    outcome = rw (first, older_tape) (rw (r, (ages_of k).aged x) refl)

    room : length (encode (older_entries es)) ≤ n
    room =
        let most = fitting (length es) (length (text_of es)) (read_on_tape (root_of k) (rewrites_of k) (lawful_of k) s bytes x r).range.sizes in
        omega (arith, leb→le 12296 n (from_true long), most.0, most.1, length_encode (older_entries es), older_length es, ap length (older_text es))

    answered : {t : List ℕ} {m : Layout} {a : Answer} → Inside t m (place 0 0) es → m.entries ≡ length es → m.size ≡ length (text_of es)
        → AnswersOlder t m n a → a ≡ older_answer n s
    unfolding AnswersOlder older_answer
    answered {t} {m} i entries size h =
        let tape : older_tape_in t m ≡ encode (older_entries es) = tape_is i entries size in
        let written : answer (λ (t : List ℕ). t) (result_alone n) (unless_out (fits_in t m) (older_tape_in t m))
        ≡ answer encode (result_alone n) (unless_out (fits_older es) (older_entries es)) =
        rw (tape, fits_are i entries size) (encoded_answer n (fits_older es) (older_entries es)) in
        rw (long, outcome) (h (rw tape room) ∙ written)

  -- ------------------------------------------------------------------ a tape that was accepted

  record Told (l : Layout) : Type 0 where
    kind : Kind
    first : kind_of (first_code s) ≡ some kind
    tree : TreeOf kind
    accepted : Accepted (root_of kind) s l tree

  told : {l : Layout} → accept_of s (sort_of (kind_of (first_code s))) ≡ Ok l → Told l
  told {l} e = go (kind_of (first_code s)) refl e
    where
      never : {x : Result Layout Fault} {y : Outcome (List Entry)} → NoRoot x y → x ≡ Ok l → Told l
      never (no_root m) e = absurd cc

      go : (o : Option Kind) → kind_of (first_code s) ≡ o → accept_of s (sort_of o) ≡ Ok l → Told l
      go none f e = never (none_answers s) e
      go (some k) f e =
          let x = accepted_root (root_of_lem k) s bytes l e in
          record { kind = k; first = f; tree = x.0; accepted = x.1 }

  was_read : {l : Layout} (t : Told l) → read (root_of t.kind) s ≡ Reading.accepted (rewritten (root_of t.kind) t.tree)
  unfolding map_reading
  was_read t =
      let root = root_of t.kind in
      (read_as root (rewrites_of t.kind) (lawful_of t.kind) s bytes).one_scan ∙ ap (map_reading (rewritten root)) t.accepted.reading

  -- without an Or it is its own rewriting
  pub given : (n : ℕ) {l : Layout} {a : Answer} → leb 12296 n ≡ true → accept_of s (sort_of (kind_of (first_code s))) ≡ Ok l → eqb (ors_in s l) 0 ≡ true
      → AnswersOlder s l n a → a ≡ older_answer n s
  given n {l} long e without h =
      let t = told e in
      let k = t.kind in
      let root = root_of k in
      let same : rewritten root t.tree ≡ t.tree =
      (rewriting root (rewrites_of k)).unchanged t.tree (tally_none 2 (root.flat t.tree) (sym (accepted_ors (root_of_lem k) t.accepted) ∙ eqb→eq (ors_in s l) 0 (from_true without))) in
      answered n long k t.first t.tree (was_read t ∙ ap Reading.accepted same) (accepted_inside (root_of_lem k) t.accepted)
      (ap (λ (m : Layout). m.entries) t.accepted.layout_is) (ap (λ (m : Layout). m.size) t.accepted.layout_is) h

  pub given_or : (n : ℕ) {l : Layout} {a : Answer} → leb 12296 n ≡ true → accept_of s (sort_of (kind_of (first_code s))) ≡ Ok l
      → AnswersOlder (rewritten_in s l (replicate 12296 0)) (rewritten_layout s l) n a → a ≡ older_answer n s
  given_or n long e h =
      let t = told e in
      let k = t.kind in
      let tape = accepted_rewritten (root_of_lem k) t.accepted ((rewrites_of k).becomes t.tree) (replicate 12296 0)
      (omega (arith, length-replicate {A = ℕ} 12296 0)) in
      answered n long k t.first (rewritten (root_of k) t.tree) (was_read t) tape.inside
      (ap (λ (m : Layout). m.entries) tape.layout_is) (ap (λ (m : Layout). m.size) tape.layout_is) h
