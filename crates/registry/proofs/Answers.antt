-- The answer on a registry's tape: what the names of its definitions are judged as.
-- Assumes nothing.
use Rattle.messages.specs.declared.Refused.{Refused}
use Rattle.std.proofs.Common.{Result, Ok}
use Prim.Native.Nat.{ℕ, ◌≤◌}
use mathlib.Core.Path.{◌≡◌, sym, ap, subst, ◌∙◌}
use mathlib.Core.List.{List}
use Rattle.grammar.specs.Grammar as grammar
use Rattle.format.specs.Tape.{registry_root, Bytes}
use Rattle.definition.specs.Registry.{build}
use Rattle.definition.specs.Answers.{Answer, registry_answer}
use Rattle.definition.proofs.Kept.{registry_bounded}
use Rattle.definition.proofs.Withdrawn.{registry_as_given}
use Rattle.tape.specs.Accept.{accept_of}
use Rattle.tape.specs.declared.layout.Layout.{Layout}
use Rattle.tape.specs.declared.layout.Tape.{Tape}
use Rattle.format.proofs.Rewritten.{rewrites_registry}
use Rattle.tape.proofs.Located.{accepted_alone}
use Rattle.tape.proofs.Roots.{registry_root_lem, accepted_root}
use Rattle.answer.specs.Matches.{AnswersTape}
use Rattle.answer.proofs.Operations.{FoundOn, tape_answered}
use Rattle.registry.specs.Places.{index_at, build_at}
use Rattle.registry.proofs.Standing.{indexed_registry}
use Rattle.registry.proofs.Verdicts.{build_matches}

module _ (m : ℕ) (s : List ℕ) (bytes : Bytes s) where
  -- what is found on the tape is what the definition has
  matched : (l : Layout) (v : Result Unit Refused) → accept_of s grammar.definitions ≡ Ok l → v ≡ build_at s l (index_at s l 255)
      → FoundOn registry_root registry_root_lem build m s l v
  unfolding registry_root
  matched l v e w =
      let found = accepted_root registry_root_lem s bytes l e in
      (found.0, found.1.reading, rw w (build_matches (indexed_registry found.0 (accepted_alone registry_root_lem rewrites_registry found.1))))

  pub built : {P : Tape → Result Unit Refused → Type 0} {a : Answer} → AnswersTape s grammar.definitions P m a
      → ((t : Tape) (v : Result Unit Refused) → P t v → v ≡ build_at t.bytes.now t.layout (index_at t.bytes.now t.layout 255)) → a ≡ registry_answer m s
  built x finds =
      let given = registry_as_given m s bytes in
      tape_answered registry_root registry_root_lem build m s x
      (λ t v b e p. matched t.layout v e (finds t v p ∙ ap (λ (u : List ℕ). build_at u t.layout (index_at u t.layout 255)) b))
      (subst (λ (b : Answer). b.message_length ≤ 2048) given (registry_bounded m s bytes).short_message)
      ∙ sym given
