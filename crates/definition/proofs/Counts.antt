-- The counts of point 9 (specs/Counts.antt): refusals keep them, and on a run each is the number of calls, up to the ceiling.
-- Assumes nothing.
use Prim.Native.Nat.{ℕ, ◌+◌, ◌-◌, ◌≤◌, min}
use native.Mathlib.Omega.{arith}
use mathlib.Core.Path.{◌≡◌, refl, sym, ◌∙◌, ap, ap₂, subst}
use mathlib.Core.Logic.{◌≢◌}
use mathlib.Core.List.{List, [], ◌∷◌, ◌++◌, map}
use mathlib.Core.Bool.{Bool, true, false}
use lib.ListN.{length, replicate, replicate-append-replicate}
use Rattle.format.specs.Entry.{Text, encode}
use Rattle.format.specs.Ast.{Condition, Tree, MacroDef}
use Rattle.format.specs.Flat.{flat_tree}
use Rattle.format.specs.Tape.{Reading, condition_root, registry_root, read}
use Rattle.format.proofs.Exact.{lawful_registry}
use Rattle.format.proofs.Rewritten.{rewrites_registry, read_on_tape}
use Rattle.format.proofs.Registries.{few_fit}
use Rattle.definition.specs.Outcome.{Outcome}
use Rattle.definition.specs.Expand.{expand}
use Rattle.definition.specs.Calls.{calls_condition}
use Rattle.definition.specs.Collect.{collect}
use Rattle.definition.specs.Answers.{Buffers, answer, number_alone, reading, long_buffers, tree_answer, expand_tapes, expand_answer}
use Rattle.definition.specs.Counts.{with_calls, fresh_counts, ceiling, calls_of, add_calls, counts_after, when_read, when_taken, expand_counts, collected, substituted_calls, RefusalKeepsCounts, Expansion, counts_of_run, calls_of_run, CountsOnRuns, FewDefinitions}
use Rattle.definition.proofs.Collected.{collects_listed}

-- ------------------------------------------------------------------ a cell for each definition

pub few_definitions : FewDefinitions
unfolding registry_root
few_definitions registry defs q h = few_fit defs (read_on_tape registry_root rewrites_registry lawful_registry registry q defs h).range.sizes

-- ------------------------------------------------------------------ a refusal

pub refusal_keeps_counts : RefusalKeepsCounts
unfolding expand_answer expand_tapes tree_answer answer reading expand_counts counts_after when_read when_taken
refusal_keeps_counts b limit file registry input state h = go (long_buffers b) (read registry_root registry) (read condition_root input) h
  where
    tape : Tree → List ℕ
    tape t = encode (flat_tree t)

    kept : (o : Outcome Tree) (counted : List ℕ) → (answer tape b o).number ≢ 0 → counts_after o counted state ≡ state
    kept (Outcome.done t n) counted h = absurd (h refl)
    kept (Outcome.refused r n) counted h = refl

    go : (long : Bool) (ds : Reading (List MacroDef)) (c : Reading Condition)
        → (answer tape b (elim long [ true ↦ reading ds (λ defs. reading c (λ c'. expand limit file defs c')) | false ↦ number_alone 1 ])).number ≢ 0
        → ◌≡◌ {A = List ℕ} (elim long [
          | true ↦ when_read state ds λ defs. when_read state c λ c'. counts_after (expand limit file defs c') (add_calls defs (calls_condition c') state) state
          | false ↦ state
        ]) state
    go false ds c h = refl
    go true Reading.malformed c h = refl
    go true Reading.too_large c h = refl
    go true (Reading.accepted defs) Reading.malformed h = refl
    go true (Reading.accepted defs) Reading.too_large h = refl
    go true (Reading.accepted defs) (Reading.accepted c) h = kept (expand limit file defs c) _ h

-- ------------------------------------------------------------------ runs

-- a count for each definition, and the cells behind them
unfoldable cells : (Text → ℕ) → List MacroDef → List ℕ → List ℕ
cells f defs rest = map (λ (d : MacroDef). min ceiling (f d.name)) defs ++ rest

same_cells : {f g : Text → ℕ} → ((name : Text) → f name ≡ g name) → (defs : List MacroDef) (rest : List ℕ) → cells f defs rest ≡ cells g defs rest
unfolding cells
same_cells h [] rest = refl
same_cells {f} {g} h (d ∷ ds) rest = ap₂ ◌∷◌ (ap (min ceiling) (h d.name)) (same_cells h ds rest)

capped : (x y : ℕ) → min ceiling (min ceiling x + y) ≡ min ceiling (x + y)
unfolding ceiling
capped x y = omega arith

add_cells : (f : Text → ℕ) (calls : List Text) (defs : List MacroDef) (rest : List ℕ)
    → add_calls defs calls (cells f defs rest) ≡ cells (λ name. f name + calls_of name calls) defs rest
unfolding add_calls cells
add_cells f calls [] rest = refl
add_cells f calls (d ∷ ds) rest = ap₂ ◌∷◌ (capped (f d.name) (calls_of d.name calls)) (add_cells f calls ds rest)

module _ (registry : List ℕ) (defs : List MacroDef) (accepted : read registry_root registry ≡ Reading.accepted defs) where
  count_one : (b : Buffers) (limit file : ℕ) (input : List ℕ) (f : Text → ℕ) (rest : List ℕ)
      → expand_counts b limit file registry input (cells f defs rest)
      ≡ cells (λ name. f name + calls_of name (substituted_calls b limit file registry input)) defs rest
  unfolding expand_counts substituted_calls when_taken when_read counts_after collected with_calls calls_of
  count_one b limit file input f rest =
      subst (λ (ds : Reading (List MacroDef)). Counted (long_buffers b) ds (read condition_root input)) (sym accepted)
      (go (long_buffers b) (read condition_root input))
    where
      state : List ℕ
      state = cells f defs rest

      unchanged : state ≡ cells (λ name. f name + 0) defs rest
      unchanged = same_cells (λ name. omega arith) defs rest

      counted : (calls : List Text) (o : Outcome Tree)
          → counts_after o (add_calls defs calls state) state ≡ cells (λ name. f name + calls_of name (collected (with_calls calls o))) defs rest
      counted calls (Outcome.done t n) = add_cells f calls defs rest
      counted calls (Outcome.refused r n) = unchanged

      Counted : Bool → Reading (List MacroDef) → Reading Condition → Type 0
      Counted long r c =
          ◌≡◌ {A = List ℕ} (elim long [
            | true ↦ when_read state r λ ds. when_read state c λ c'. counts_after (expand limit file ds c') (add_calls ds (calls_condition c') state) state
            | false ↦ state
          ])
          (cells (λ name. f name + calls_of name (elim long [
            | true ↦ when_read [] r λ ds. when_read [] c λ c'. collected (collect limit file ds c')
            | false ↦ []
          ])) defs rest)

      go : (long : Bool) (c : Reading Condition) → Counted long (Reading.accepted defs) c
      go false c = unchanged
      go true Reading.malformed = unchanged
      go true Reading.too_large = unchanged
      go true (Reading.accepted c) = rw (collects_listed limit file defs c) (counted (calls_condition c) (expand limit file defs c))

  count_run : (es : List Expansion) (f : Text → ℕ) (rest : List ℕ)
      → counts_of_run registry es (cells f defs rest) ≡ cells (λ name. f name + calls_of_run registry es name) defs rest
  unfolding counts_of_run calls_of_run
  count_run [] f rest = same_cells (λ name. omega arith) defs rest
  count_run (e ∷ es) f rest =
      ap (counts_of_run registry es) (count_one e.buffers e.limit e.file e.input f rest)
      ∙ (count_run es _ rest ∙ same_cells (λ name. omega arith) defs rest)

fresh_cells : (defs : List MacroDef) → length defs ≤ 255 → fresh_counts ≡ cells (λ name. 0) defs (replicate (255 - length defs) 0)
unfolding fresh_counts cells ceiling
fresh_cells defs h =
    let e : length defs + (255 - length defs) ≡ 255 = omega arith in
    ap (λ (k : ℕ). replicate {A = ℕ} k 0) (sym e)
    ∙ (sym (replicate-append-replicate {A = ℕ} (length defs) (255 - length defs) 0) ∙ ap (λ (l : List ℕ). l ++ replicate {A = ℕ} (255 - length defs) 0) (zeros defs))
  where
    zeros : (ds : List MacroDef) → replicate {A = ℕ} (length ds) 0 ≡ map (λ (d : MacroDef). 0) ds
    zeros [] = refl
    zeros (d ∷ ds) = ap (λ (l : List ℕ). 0 ∷ l) (zeros ds)

pub counts_on_runs : CountsOnRuns
unfolding cells
counts_on_runs registry defs q h es =
    let rest : List ℕ = replicate (255 - length defs) 0 in
    ap (counts_of_run registry es) (fresh_cells defs (few_definitions registry defs q h))
    ∙ (count_run registry defs h es (λ name. 0) rest ∙ same_cells (λ name. omega arith) defs rest)
