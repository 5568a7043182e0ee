-- The library check answers to the rewritten definitions what it answers to those that were given, so that it walks the tape as it is.
-- Assumes nothing.
use Prim.Native.Nat.{ℕ, zero, suc}
use mathlib.Core.Path.{◌≡◌, refl, ap, ◌∙◌}
use mathlib.Core.List.{List, [], ◌∷◌}
use mathlib.Core.Option.{none, some}
use Rattle.format.specs.Ast.{MacroDef}
use Rattle.format.specs.Replace.{replace_defs}
use Rattle.format.specs.DeMorgan.{de_morgan}
use Rattle.format.specs.Rewritten.{weighted, map_reading}
use Rattle.format.specs.Tape.{Reading, registry_root, accept, Bytes}
use Rattle.format.proofs.Exact.{lawful_registry}
use Rattle.format.proofs.Rewritten.{rewrites_registry, read_as}
use Rattle.definition.specs.Outcome.{Outcome, pure}
use Rattle.definition.specs.Check.{Verdict, ◌and_then◌}
use Rattle.definition.specs.Registry.{build}
use Rattle.definition.specs.Expand.{unless}
use Rattle.definition.specs.Answers.{reading, verdict, message_answer, result_answer}
use Rattle.definition.specs.Library.{Refused, refused_from, refused_of, list_bytes, library_tapes, library_answer, definition_at, check_found, check_at_answer}
use Rattle.definition.proofs.SameVerdicts.{same_check, same_build}

-- what does not see the rewriting is said of the tree that was accepted
as_given : {A B : Type 0} (f : A → A) (k : A → Outcome B) → ((a : A) → k (f a) ≡ k a) → (o : Reading A) → reading (map_reading f o) k ≡ reading o k
unfolding reading map_reading
as_given f k h Reading.malformed = refl
as_given f k h Reading.too_large = refl
as_given f k h (Reading.accepted a) = h a

same_refused : (i : ℕ) (defs : List MacroDef) → refused_from i (replace_defs de_morgan defs) ≡ refused_from i defs
unfolding refused_from replace_defs
same_refused i [] = refl
same_refused i (d ∷ ds) = rw (same_check d, same_refused (suc i) ds) refl

same_found : (defs : List MacroDef) (i : ℕ) → check_found (definition_at (replace_defs de_morgan defs) i) ≡ check_found (definition_at defs i)
unfolding check_found definition_at replace_defs
same_found [] i = refl
same_found (d ∷ ds) zero = same_check d
same_found (d ∷ ds) (suc i) = same_found ds i

-- ------------------------------------------------------------------ the whole registry

unfoldable pub library_of : List MacroDef → Outcome (List Refused)
library_of defs = unless (build defs) (pure (refused_of defs)) 0

pub library_as_given : (r m : ℕ) (registry : List ℕ) → Bytes registry
    → library_answer r m registry ≡ result_answer list_bytes r m (reading (accept (weighted registry_root) registry) library_of)
unfolding library_answer library_tapes registry_root refused_of library_of
library_as_given r m registry q =
    rw (read_as registry_root rewrites_registry lawful_registry registry q).one_scan
    (ap (result_answer list_bytes r m)
    (as_given (replace_defs de_morgan) _ (λ defs. rw (same_build defs, same_refused 0 defs) refl) (accept (weighted registry_root) registry)))

-- ------------------------------------------------------------------ one definition

unfoldable pub check_of : ℕ → List MacroDef → Verdict
check_of i defs = build defs and_then check_found (definition_at defs i)

-- a verdict behind another
unless_verdict : (v w : Verdict) → unless v (λ n. verdict w) 0 ≡ verdict (v and_then w)
unfolding unless verdict ◌and_then◌
unless_verdict none w = refl
unless_verdict (some r) w = refl

after_build : (i : ℕ) (o : Reading (List MacroDef))
    → reading o (λ defs. unless (build defs) (λ n. verdict (check_found (definition_at defs i))) 0)
    ≡ reading o (λ defs. verdict (build defs and_then check_found (definition_at defs i)))
unfolding reading
after_build i Reading.malformed = refl
after_build i Reading.too_large = refl
after_build i (Reading.accepted defs) = unless_verdict (build defs) (check_found (definition_at defs i))

pub check_at_as_given : (m : ℕ) (registry : List ℕ) (i : ℕ) → Bytes registry
    → check_at_answer m registry i ≡ message_answer m (reading (accept (weighted registry_root) registry) λ defs. verdict (check_of i defs))
unfolding check_at_answer registry_root check_of
check_at_as_given m registry i q =
    rw (read_as registry_root rewrites_registry lawful_registry registry q).one_scan
    (ap (message_answer m)
    (as_given (replace_defs de_morgan) _ (λ defs. rw (same_build defs, same_found defs i) refl) (accept (weighted registry_root) registry)
    ∙ after_build i (accept (weighted registry_root) registry)))
