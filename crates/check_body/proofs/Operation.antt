-- The operation's answer is what the definition says, if what is found on each tape is what its body check comes to.
-- Assumes nothing.
use Rattle.messages.specs.declared.Refused.{Refused}
use Rattle.std.proofs.Common.{Result, Ok, Fits, w8, get_or}
use Prim.Native.Nat.{ℕ, ◌≤◌}
use mathlib.Core.Path.{◌≡◌, sym, ap, subst, ◌∙◌}
use mathlib.Core.List.{List}
use Rattle.grammar.specs.Grammar as grammar
use Rattle.format.specs.Tape.{Bytes, definition_root}
use Rattle.format.proofs.Accepted.{bytes_all}
use Rattle.format.proofs.Rewritten.{rewrites_definition}
use Rattle.definition.specs.Check.{check_def}
use Rattle.definition.specs.Answers.{Answer, check_answer}
use Rattle.definition.proofs.Kept.{check_bounded}
use Rattle.definition.proofs.Withdrawn.{check_as_given}
use Rattle.tape.specs.Accept.{accept_of}
use Rattle.tape.specs.declared.layout.Layout.{Layout}
use Rattle.tape.specs.declared.layout.Tape.{Tape}
use Rattle.tape.proofs.Located.{accepted_inside}
use Rattle.tape.proofs.Roots.{definition_root_lem, accepted_root, given_64}
use Rattle.tape.proofs.Runs.{place}
use Rattle.answer.specs.Matches.{AnswersTape}
use Rattle.answer.proofs.Operations.{FoundOn, tape_answered}
use Rattle.check_body.specs.Definition.{def_in, verdict_of}
use Rattle.check_body.proofs.Definitions.{def_matches}

module _ (m : ℕ) (s : List ℕ) (in_bytes : (i : ℕ) → Fits w8 (get_or s i 0)) where
  bytes : Bytes s
  bytes = bytes_all s (λ i. (in_bytes i).fits)

  -- what is found on the tape is what the definition has
  matched : (l : Layout) (v : Result Unit Refused) → accept_of s grammar.definition ≡ Ok l → v ≡ verdict_of (def_in s l (place 0 0))
      → FoundOn definition_root definition_root_lem check_def m s l v
  unfolding definition_root
  matched l v e w =
      let x = accepted_root definition_root_lem s bytes l e in
      (x.0, x.1.reading, rw w (def_matches x.0 (accepted_inside definition_root_lem x.1) (given_64 rewrites_definition x.1)))

  pub checked : {P : Tape → Result Unit Refused → Type 0} {a : Answer} → AnswersTape s grammar.definition P m a
      → ((t : Tape) (v : Result Unit Refused) → P t v → v ≡ verdict_of (def_in t.bytes.now t.layout (place 0 0))) → a ≡ check_answer m s
  checked x finds =
      let given = check_as_given m s bytes in
      tape_answered definition_root definition_root_lem check_def m s x
      (λ t v b e p. matched t.layout v e (finds t v p ∙ ap (λ (u : List ℕ). verdict_of (def_in u t.layout (place 0 0))) b))
      (subst (λ (b : Answer). b.message_length ≤ 2048) given (check_bounded m s bytes).short_message)
      ∙ sym given
