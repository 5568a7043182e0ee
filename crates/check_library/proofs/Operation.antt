-- The ways in which the two operations end: a buffer is too short, the tape is refused, and what was found on an accepted one is what
-- the definition says.
-- Assumes nothing.
use Rattle.std.proofs.Common.{Result, Ok, Err, Fits, w8, get_or}
use Prim.Native.Nat.{ℕ, ◌≤◌}
use native.Mathlib.Omega.{arith}
use mathlib.Core.Path.{◌≡◌, sym, ap, subst, ◌∙◌}
use mathlib.Core.List.{List, []}
use mathlib.Core.Bool.{Bool, true, false, ◌&&◌}
use lib.Dec.{leb, leb→le}
use lib.ListN.{length}
use Rattle.grammar.specs.Grammar as grammar
use Rattle.format.specs.Rewritten.{weighted}
use Rattle.format.specs.Tape.{registry_root, accept, Bytes}
use Rattle.format.proofs.Rewritten.{rewrites_registry}
use Rattle.format.proofs.Tests.{and_left, and_right, from_true}
use Rattle.definition.specs.Outcome.{refusal, Outcome}
use Rattle.definition.specs.Answers.{Answer, answer, number_alone, reading, without_work, result_answer}
use Rattle.definition.specs.Library.{Refused as Listed, list_bytes, library_tapes, library_answer, check_at_answer}
use Rattle.definition.proofs.KeptLater.{library_bounded, check_at_bounded}
use Rattle.format.proofs.Accepted.{bytes_all}
use Rattle.tape.specs.Accept.{accept_of}
use Rattle.tape.specs.Header.{fault_number}
use Rattle.tape.specs.declared.header.Fault.{Fault}
use Rattle.tape.specs.declared.layout.Layout.{Layout}
use Rattle.tape.specs.declared.layout.Tape.{Tape}
use Rattle.tape.proofs.Located.{accepted_alone}
use Rattle.tape.proofs.Roots.{registry_root_lem, accepted_root, given_64}
use Rattle.messages.specs.declared.Refused as refused
use Rattle.answer.specs.Matches.{answer_with, buffers, ended, message_in, AnswersRefusal, AnswersTape}
use Rattle.answer.specs.declared.Answer as code
use Rattle.answer.proofs.Ends.{result_written, without_work_lem}
use Rattle.answer.proofs.Operations.{refused_tape, ends_short, ends_refused, ends_matched, FoundOn, tape_answered}
use Rattle.registry.proofs.Standing.{indexed_registry}
use Rattle.check_library.specs.Rows.{checked_in, Listing, listing, listed_in, ListMatches, AnswersList}
use Rattle.check_library.proofs.AsGiven.{library_of, library_as_given, check_of, check_at_as_given}
use Rattle.check_library.proofs.Standing.{checked_matches, list_matches}

bytes : (s : List ℕ) → ((i : ℕ) → Fits w8 (get_or s i 0)) → Bytes s
bytes s in_bytes = bytes_all s (λ i. (in_bytes i).fits)

-- ------------------------------------------------------------------ the answer of a list

module _ (s : List ℕ) (l : Layout) (list : List ℕ) (m : ℕ) {v : Result Unit refused.Refused} {bytes : List ℕ} (e : listing v bytes ≡ listed_in s l 255 list) where
  -- what matches the list that was made
  made : (o : Outcome (List Listed)) → ListMatches s l (listed_in s l 255 list).verdict (listed_in s l 255 list).bytes (length list) o
      → ListMatches s l v bytes (length list) o
  made o h = subst (λ (x : Listing). ListMatches s l x.verdict x.bytes (length list) o) (sym e) h

  pub list_answered : {r : code.Answer} {none work message : List ℕ} → v ≡ (Ok tt) → answer_with r none work message ≡ ended (buffers 0 0 m) (Outcome.refused (refusal 0 0 []) 0)
      → AnswersList s l list m (answer_with r bytes [] message)
  unfolding ListMatches ended answer
  list_answered {r} {message = message} p k o h short = go o (rw p at (made o h))
    where
      go : (o : Outcome (List Listed)) → ListMatches s l (Ok tt) bytes (length list) o
          → answer_with r bytes [] message ≡ answer list_bytes (without_work (length list) m) o
      go (Outcome.done rows charged) q =
          result_written list_bytes (length list) 0 m rows 0 q.1 (without_work_lem (λ (u : Unit {0}). []) 0 m (Outcome.refused (refusal 0 0 []) 0) k)
          ∙ ap (λ (c : ℕ). answer list_bytes (without_work (length list) m) (Outcome.done rows c)) (sym q.0)
      go (Outcome.refused x charged) q = absurd q

  pub list_refused : {f : refused.Refused} {r : code.Answer} {result work message : List ℕ} → v ≡ Err f → length bytes ≡ length list
      → AnswersRefusal s l s l f 0 (buffers (length bytes) 0 m) (answer_with r result work message)
      → AnswersList s l list m (answer_with r result [] message)
  unfolding ListMatches ended answer
  list_refused {f} {r} {result} {work} {message} p kept k o h short = go o (rw p at (made o h)) short
    where
      go : (o : Outcome (List Listed)) → ListMatches s l (Err f) bytes (length list) o → length (message_in o) ≤ m
          → answer_with r result [] message ≡ answer list_bytes (without_work (length list) m) o
      go (Outcome.done rows charged) q n = absurd q
      go (Outcome.refused x charged) q n =
          let there : answer_with r result work message ≡ ended (without_work (length list) m) (Outcome.refused x 0) =
          subst (λ (z : ℕ). answer_with r result work message ≡ ended (without_work z m) (Outcome.refused x 0)) kept (k x q.1 n) in
          without_work_lem (λ (u : Unit {0}). []) (length list) m (Outcome.refused x 0) there
          ∙ ap (λ (c : ℕ). answer list_bytes (without_work (length list) m) (Outcome.refused x c)) (sym q.0)

-- ------------------------------------------------------------------ the whole registry

abbrev long : ℕ → ℕ → Bool
long r m = leb 12296 r && leb 2048 m

module _ (r m : ℕ) (s : List ℕ) {a : Answer} where
  pub library_short : long r m ≡ false → a ≡ ended (without_work r m) (number_alone 1) → a ≡ library_answer r m s
  unfolding library_answer result_answer
  library_short h e = ends_short list_bytes (without_work r m) (library_tapes s) h e

  pub library_refused : {f : Fault} {n : ℕ} → ((i : ℕ) → Fits w8 (get_or s i 0)) → long r m ≡ true → Err f ≡ accept_of s grammar.definitions → n ≡ fault_number f
      → a ≡ ended (without_work r m) (number_alone n) → a ≡ library_answer r m s
  unfolding result_answer
  library_refused {f} {n} in_bytes h e q x =
      ends_refused list_bytes (without_work r m) (reading (accept (weighted registry_root) s) library_of) n h
      (refused_tape registry_root registry_root_lem s library_of (sym e) ∙ ap number_alone (sym q)) x
      ∙ sym (library_as_given r m s (bytes s in_bytes))

pub library_listed : (list : List ℕ) (m : ℕ) (s : List ℕ) {a : Answer} {l : Layout} → ((i : ℕ) → Fits w8 (get_or s i 0)) → long (length list) m ≡ true
    → Ok l ≡ accept_of s grammar.definitions → AnswersList s l list m a → a ≡ library_answer (length list) m s
unfolding result_answer reading registry_root
library_listed list m s {l = l} in_bytes h e x =
    let result : 12296 ≤ length list = leb→le 12296 (length list) (and_left (leb 12296 (length list)) _ (from_true h)) in
    let message : 2048 ≤ m = leb→le 2048 m (and_right (leb 12296 (length list)) _ (from_true h)) in
    let found = accepted_root registry_root_lem s (bytes s in_bytes) l (sym e) in
    let indexed = indexed_registry found.0 (accepted_alone registry_root_lem rewrites_registry found.1) in
    let given = library_as_given (length list) m s (bytes s in_bytes) in
    let o : reading (accept (weighted registry_root) s) library_of ≡ library_of found.0 = rw found.1.reading in
    ends_matched list_bytes (without_work (length list) m) (reading (accept (weighted registry_root) s) library_of) h message
    (subst (λ (z : Answer). z.message_length ≤ 2048) given (library_bounded (length list) m s (bytes s in_bytes)).short_message)
    (λ n. rw o (x (library_of found.0) (list_matches indexed (given_64 rewrites_registry found.1) list (omega (arith, result))) (rw o at n)))
    ∙ sym given

-- ------------------------------------------------------------------ one definition

module _ (m : ℕ) (s : List ℕ) (i : ℕ) (in_bytes : (i : ℕ) → Fits w8 (get_or s i 0)) where
  -- what is found on the tape is what the definition has
  matched : (l : Layout) (v : Result Unit refused.Refused) → accept_of s grammar.definitions ≡ Ok l → v ≡ checked_in s l 255 i
      → FoundOn registry_root registry_root_lem (check_of i) m s l v
  unfolding registry_root
  matched l v e w =
      let found = accepted_root registry_root_lem s (bytes s in_bytes) l e in
      let indexed = indexed_registry found.0 (accepted_alone registry_root_lem rewrites_registry found.1) in
      (found.0, found.1.reading, rw w (checked_matches i indexed (given_64 rewrites_registry found.1)))

  pub checked : {P : Tape → Result Unit refused.Refused → Type 0} {a : Answer} → AnswersTape s grammar.definitions P m a
      → ((t : Tape) (v : Result Unit refused.Refused) → P t v → v ≡ checked_in t.bytes.now t.layout 255 i) → a ≡ check_at_answer m s i
  checked x finds =
      let given = check_at_as_given m s i (bytes s in_bytes) in
      tape_answered registry_root registry_root_lem (check_of i) m s x
      (λ t v b e p. matched t.layout v e (finds t v p ∙ ap (λ (u : List ℕ). checked_in u t.layout 255 i) b))
      (subst (λ (z : Answer). z.message_length ≤ 2048) given (check_at_bounded m s i (bytes s in_bytes)).short_message)
      ∙ sym given
