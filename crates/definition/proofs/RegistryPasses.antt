-- A registry's answer with the number 0 is that of a success: no span, no message, and zeros in the message buffer.
-- Assumes nothing.
use Prim.Native.Nat.{ℕ}
use native.Mathlib.Omega.{arith}
use mathlib.Core.Path.{◌≡◌}
use mathlib.Core.Logic.{◌≢◌}
use mathlib.Core.List.{List, []}
use mathlib.Core.Bool.{Bool, true, false}
use mathlib.Core.Option.{none, some}
use lib.Dec.{leb}
use Rattle.format.specs.Ast.{MacroDef}
use Rattle.format.specs.Tape.{Reading, registry_root, read}
use Rattle.definition.specs.Outcome.{Refusal, Outcome}
use Rattle.definition.specs.Check.{Verdict}
use Rattle.definition.specs.Registry.{build}
use Rattle.definition.specs.Answers.{Answer, answer, number_alone, reading, verdict, message_alone, message_answer, registry_answer}
use Rattle.definition.specs.Returned.{Gives}
use Rattle.definition.proofs.Verdicts.{Given, refuses, nonzero_build}
use Rattle.definition.proofs.Returned.{gives}

module _ (m : ℕ) where
  abbrev told : Outcome (Unit {0}) → Answer
  told o = answer (λ (u : Unit {0}). []) (message_alone m) o

  abbrev Passes : Outcome (Unit {0}) → Type 0
  Passes o = (told o).number ≡ 0 → Gives (message_alone m) [] 0 (told o)

  by_number : (k : ℕ) → k ≢ 0 → Passes (number_alone k)
  unfolding answer number_alone
  by_number k h e = absurd (h e)

  by_verdict : (v : Verdict) → Given (λ (r : Refusal). r.number ≢ 0) v → Passes (verdict v)
  unfolding answer verdict
  by_verdict none g e = gives (λ (u : Unit {0}). []) (message_alone m) tt 0
  by_verdict (some r) (refuses h) e = absurd (h e)

  by_reading : (t : Reading (List MacroDef)) → Passes (reading t (λ defs. verdict (build defs)))
  unfolding reading
  by_reading Reading.malformed = by_number 2 (λ e. omega arith)
  by_reading Reading.too_large = by_number 3 (λ e. omega arith)
  by_reading (Reading.accepted defs) = by_verdict (build defs) (nonzero_build defs)

  by_length : (t : Bool) (registry : List ℕ)
      → Passes (elim t [ true ↦ reading (read registry_root registry) (λ defs. verdict (build defs)) | false ↦ number_alone 1 ])
  by_length true registry = by_reading (read registry_root registry)
  by_length false registry = by_number 1 (λ e. omega arith)

pub registry_passes : (m : ℕ) (registry : List ℕ) → (registry_answer m registry).number ≡ 0
    → Gives (message_alone m) [] 0 (registry_answer m registry)
unfolding registry_answer message_answer
registry_passes m registry = by_length m (leb 2048 m) registry
