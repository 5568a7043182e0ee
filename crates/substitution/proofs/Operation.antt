-- The substitution's answer: what the walk came to, over two accepted tapes or their rewritings, is what the definition says.
-- Assumes nothing.
use Rattle.std.proofs.Common.{Ok, Err}
use Prim.Native.Nat.{ℕ, ◌≤◌, ◌<◌, ◌^◌}
use native.Mathlib.Omega.{arith}
use mathlib.Core.Path.{◌≡◌, sym, ap, subst, ◌∙◌}
use mathlib.Core.List.{List}
use mathlib.Core.Bool.{true, false, ◌&&◌}
use lib.Dec.{eqb, eqb→eq}
use lib.ListN.{length, replicate, length-replicate}
use Rattle.format.specs.Ast.{Call, MacroDef, Tree}
use Rattle.format.specs.Rewritten.{weighted}
use Rattle.format.specs.Tape.{definition_root, call_root, accept, rewritten, Bytes}
use Rattle.format.proofs.Exact.{lawful_definition, lawful_call}
use Rattle.format.proofs.Rewritten.{rewrites_definition, rewrites_call}
use Rattle.format.proofs.Tests.{and_left, and_right, from_true}
use Rattle.definition.specs.Answers.{Answer, Buffers, long_buffers, reading, number_alone, tree_answer, substitute_tapes, substitute_answer}
use Rattle.definition.specs.Outcome.{Outcome}
use Rattle.definition.specs.Substitute.{substitute}
use Rattle.definition.proofs.Kept.{substitute_bounded}
use Rattle.grammar.specs.Grammar as grammar
use Rattle.tape.specs.Ors.{ors_in}
use Rattle.tape.specs.declared.header.Fault.{Fault}
use Rattle.tape.specs.declared.layout.Layout.{Layout}
use Rattle.tape.specs.Header.{fault_number}
use Rattle.tape.proofs.Located.{Alone}
use Rattle.tape.proofs.Roots.{Accepted, definition_root_lem, call_root_lem, accepted_root}
use Rattle.de_morgan.specs.Rewritten.{rewritten_in, rewritten_layout}
use Rattle.de_morgan.proofs.Rewritten.{rewritten_alone, given_alone}
use Rattle.answer.specs.Matches.{buffers, ended}
use Rattle.answer.specs.Tapes.{accept_two}
use Rattle.answer.proofs.Operations.{first_accepted, second_accepted, long_enough, read_two, tree_refused, tree_short, tree_walked}
use Rattle.subst_call.specs.Front.{tapes_in}
use Rattle.substitution.specs.Substituted.{AnswersSubstitution}
use Rattle.substitution.proofs.TreesAccepted.{substitution_matches}

-- what is found of the trees as they were given
abbrev find : (limit file : ℕ) → MacroDef → Call → Outcome Tree
find limit file x y = substitute limit file (rewritten definition_root x) (rewritten call_root y)

module _ (r l m limit file : ℕ) (definition input : List ℕ) (p : Bytes definition) (q : Bytes input) where
  abbrev b : Buffers
  b = buffers r l m

  as_accepted : substitute_answer b limit file definition input
      ≡ tree_answer b (reading (accept (weighted definition_root) definition) λ x. reading (accept (weighted call_root) input) λ y. find limit file x y)
  unfolding substitute_answer substitute_tapes
  as_accepted =
      ap (tree_answer b) (read_two rewrites_definition rewrites_call lawful_definition lawful_call definition input p q (substitute limit file))

  -- a buffer is too short
  pub short : {a : Answer} → long_buffers b ≡ false → a ≡ ended b (number_alone 1) → a ≡ substitute_answer b limit file definition input
  unfolding substitute_answer
  short h e = tree_short b _ h e

  -- a tape is refused
  pub refused : {f : Fault} {a : Answer} → long_buffers b ≡ true → accept_two definition grammar.definition input grammar.call ≡ Err f
      → a ≡ ended b (number_alone (fault_number f)) → a ≡ substitute_answer b limit file definition input
  refused long e k = tree_refused definition_root call_root definition_root_lem call_root_lem (find limit file) b definition input long e k ∙ sym as_accepted

  module _ (small : limit < 2 ^ 32) (long : long_buffers b ≡ true) {d c : Layout}
      (e : accept_two definition grammar.definition input grammar.call ≡ Ok (d, c)) (work : List ℕ) (room : l ≡ length work) where
    first : (x : MacroDef) × Accepted definition_root definition d x
    first = accepted_root definition_root_lem definition p d (first_accepted definition input grammar.definition grammar.call e)

    second : (y : Call) × Accepted call_root input c y
    second = accepted_root call_root_lem input q c (second_accepted definition input grammar.definition grammar.call e)

    walked : {s t : List ℕ} {d' c' : Layout} {a : Answer} → Alone definition_root s d' (rewritten definition_root first.0)
        → Alone call_root t c' (rewritten call_root second.0) → AnswersSubstitution s d' t c' limit file work b a
        → a ≡ substitute_answer b limit file definition input
    unfolding AnswersSubstitution
    walked {s} {t} {d'} {c'} h g k =
        let X = tapes_in s d' t c' limit file work in
        let matches = substitution_matches limit file (rewritten definition_root first.0) (rewritten call_root second.0) h g work
        (omega (arith, room, (long_enough b long).work)) in
        tree_walked definition_root call_root definition_root_lem call_root_lem (find limit file) b definition input s t d' c' X.walk X.bytes long first.1.reading second.1.reading
        (subst (λ (z : Answer). z.message_length ≤ 2048) as_accepted (substitute_bounded b limit file small definition input p q).short_message) matches k
        ∙ sym as_accepted

    -- no tape has an Or
    pub substituted : {a : Answer} → (eqb (ors_in definition d) 0 && eqb (ors_in input c) 0) ≡ true → AnswersSubstitution definition d input c limit file work b a
        → a ≡ substitute_answer b limit file definition input
    substituted none k =
        let t = from_true none in
        let one = eqb (ors_in definition d) 0 in
        walked
        (given_alone definition_root_lem rewrites_definition first.1 (eqb→eq (ors_in definition d) 0 (and_left one _ t)))
        (given_alone call_root_lem rewrites_call second.1 (eqb→eq (ors_in input c) 0 (and_right one _ t))) k

    pub substituted_rewritten : {a : Answer} →
        AnswersSubstitution (rewritten_in definition d (replicate 12296 0)) (rewritten_layout definition d) (rewritten_in input c (replicate 12296 0))
        (rewritten_layout input c) limit file work b a
        → a ≡ substitute_answer b limit file definition input
    substituted_rewritten k =
        walked
        (rewritten_alone definition_root_lem rewrites_definition first.1 (replicate 12296 0) (omega (arith, length-replicate {A = ℕ} 12296 0)))
        (rewritten_alone call_root_lem rewrites_call second.1 (replicate 12296 0) (omega (arith, length-replicate {A = ℕ} 12296 0))) k
