-- The profile's answer, of a tape that was accepted and of its rewriting, is what the definition says.
-- Assumes nothing.
use Rattle.std.proofs.Common.{Ok, Err}
use Prim.Native.Nat.{ℕ}
use native.Mathlib.Omega.{arith}
use mathlib.Core.Path.{◌≡◌, refl, sym, ap, ◌∙◌}
use mathlib.Core.List.{List, []}
use mathlib.Core.Bool.{true}
use mathlib.Core.Option.{some}
use lib.Dec.{eqb, eqb→eq}
use lib.ListN.{replicate, length-replicate}
use Rattle.format.specs.Ast.{Condition}
use Rattle.format.specs.Rewritten.{map_reading}
use Rattle.format.specs.Tape.{Reading, named_root, read, rewritten, Bytes}
use Rattle.format.proofs.Exact.{lawful_named}
use Rattle.format.proofs.Rewritten.{rewrites_named, read_as}
use Rattle.format.proofs.Tests.{from_true}
use Rattle.definition.specs.Outcome.{refusal}
use Rattle.definition.specs.Answers.{Answer, answer, number_alone, reading, verdict}
use Rattle.definition.specs.Profile.{profile, no_buffers, profile_answer}
use Rattle.grammar.specs.Grammar as grammar
use Rattle.tape.specs.Accept.{accept_named}
use Rattle.tape.specs.Header.{fault_number}
use Rattle.tape.specs.declared.header.Fault.{Fault}
use Rattle.tape.specs.Ors.{ors_in}
use Rattle.tape.specs.declared.layout.Layout.{Layout}
use Rattle.tape.proofs.Acceptance.{RootNamed}
use Rattle.tape.proofs.Located.{Alone}
use Rattle.tape.proofs.Roots.{Accepted, named_root_lem, accepted_root}
use Rattle.de_morgan.specs.Rewritten.{rewritten_in, rewritten_layout}
use Rattle.de_morgan.proofs.Rewritten.{rewritten_alone, given_alone}
use Rattle.answer.specs.Matches.{ended}
use Rattle.answer.proofs.Operations.{refused_tape, read_rewritten}
use Rattle.profile.specs.Entries.{profile_in, profiled}
use Rattle.profile.proofs.Standing.{profile_stands}

-- names of up to 81 bytes
root_81 : RootNamed 81 (named_root 81) grammar.condition
root_81 = named_root_lem 81 refl

module _ (s : List ℕ) (bytes : Bytes s) where
  pub refused : {f : Fault} {a : Answer} → accept_named 81 s grammar.condition ≡ Err f → a ≡ profiled (some (refusal (fault_number f) 0 [])) → a ≡ profile_answer s
  unfolding profile_answer ended verdict number_alone
  refused {f} e k =
      let outcome : reading (read (named_root 81) s) (λ c. verdict (profile c)) ≡ number_alone (fault_number f) =
      read_rewritten (rewrites_named 81) (lawful_named 81) s bytes _ ∙ refused_tape (named_root 81) root_81 s _ e in
      k ∙ sym (ap (answer (λ (u : Unit {0}). []) no_buffers) outcome)

  was_read : {l : Layout} {c : Condition} → Accepted (named_root 81) s l c → read (named_root 81) s ≡ Reading.accepted (rewritten (named_root 81) c)
  unfolding map_reading
  was_read h = (read_as (named_root 81) (rewrites_named 81) (lawful_named 81) s bytes).one_scan ∙ ap (map_reading (rewritten (named_root 81))) h.reading

  -- a condition that was read stands alone at a layout, of its own slice or of another
  answered : (c : Condition) {t : List ℕ} {m : Layout} {a : Answer} → read (named_root 81) s ≡ Reading.accepted c → Alone (named_root 81) t m c
      → a ≡ profiled (profile_in t m) → a ≡ profile_answer s
  unfolding profile_answer reading ended named_root
  answered c e h k = k ∙ rw (e, profile_stands c h.inside h.entries_are) refl

  pub given : {l : Layout} {a : Answer} → accept_named 81 s grammar.condition ≡ Ok l → eqb (ors_in s l) 0 ≡ true → a ≡ profiled (profile_in s l)
      → a ≡ profile_answer s
  given {l} e none k =
      let x = accepted_root root_81 s bytes l e in
      answered (rewritten (named_root 81) x.0) (was_read x.1)
      (given_alone root_81 (rewrites_named 81) x.1 (eqb→eq (ors_in s l) 0 (from_true none))) k

  pub given_or : {l : Layout} {a : Answer} → accept_named 81 s grammar.condition ≡ Ok l
      → a ≡ profiled (profile_in (rewritten_in s l (replicate 12296 0)) (rewritten_layout s l)) → a ≡ profile_answer s
  given_or {l} e k =
      let x = accepted_root root_81 s bytes l e in
      answered (rewritten (named_root 81) x.0) (was_read x.1)
      (rewritten_alone root_81 (rewrites_named 81) x.1 (replicate 12296 0) (omega (arith, length-replicate {A = ℕ} 12296 0))) k
