-- What is promised of a merge that gives 0 (specs/Merge.antt). Join has the definitions, Widen the expansion.
-- Assumes nothing.
use Prim.Native.Nat.{ℕ}
use native.Mathlib.Omega.{arith}
use mathlib.Core.Path.{◌≡◌, refl, sym, ◌∙◌, subst}
use mathlib.Core.Logic.{◌≢◌}
use mathlib.Core.List.{List}
use mathlib.Core.Bool.{Bool, true, false, ◌&&◌}
use mathlib.Core.Option.{Option, none, some}
use lib.Dec.{leb}
use lib.ListN.{length}
use Rattle.format.specs.Entry.{encode, text_of}
use Rattle.format.specs.Ast.{Condition, Tree, MacroDef}
use Rattle.format.specs.Flat.{flat_registry, flat_tree}
use Rattle.format.specs.Limits.{fits_sizes}
use Rattle.format.specs.Tape.{Reading, condition_root, registry_root, read, Bytes}
use Rattle.format.proofs.All.{All, all_append}
use Rattle.format.proofs.Tests.{not_refused}
use Rattle.format.proofs.Registries.{FairDef, fair_read, registry_no_or, registry_read}
use Rattle.definition.specs.Outcome.{Refusal, Outcome, pure, proceed, ◌>>=◌, ◌>>◌}
use Rattle.definition.specs.Check.{Verdict}
use Rattle.definition.specs.Registry.{build}
use Rattle.definition.specs.Substitute.{check_limits}
use Rattle.definition.specs.Expand.{unless, expand}
use Rattle.definition.specs.Answers.{Answer, Buffers, padded, answer, number_alone, reading, long_buffers, tree_answer, expand_tapes, expand_answer, without_work, result_answer}
use Rattle.definition.specs.Merge.{joined, first_differing, refuse_differing, too_large_registry, merge, merge_tapes, registry_tape, merge_answer, Merged, MergeKeeps}
use Rattle.definition.proofs.Verdicts.{Given, refuses, nonzero_build}
use Rattle.definition.proofs.Widen.{Alike, alike, differ, unknown, expand_alike}
use Rattle.definition.proofs.Join.{joined_first, joined_finds, joined_builds, joined_in_order, all_new}

-- ------------------------------------------------------------------ expansion with the merged registry

module _ (b : Buffers) where
  abbrev tape : Tree → List ℕ
  tape t = encode (flat_tree t)

  same_answer : {o p : Outcome Tree} → Alike o p → (answer tape b o).number ≢ 30 → answer tape b p ≡ answer tape b o
  unfolding answer
  same_answer alike h = refl
  same_answer (differ (unknown e)) h = absurd (h e)

  answers : (limit file : ℕ) (few many : List MacroDef) → ((c : Condition) → Alike (expand limit file few c) (expand limit file many c))
      → (first_tape merged_tape input : List ℕ) → read registry_root first_tape ≡ Reading.accepted few → read registry_root merged_tape ≡ Reading.accepted many
      → (expand_answer b limit file first_tape input).number ≢ 30
      → expand_answer b limit file merged_tape input ≡ expand_answer b limit file first_tape input
  unfolding expand_answer expand_tapes tree_answer reading
  answers limit file few many k first_tape merged_tape input p q =
      subst (λ (x : Reading (List MacroDef)). Same x (read registry_root merged_tape)) (sym p)
      (subst (λ (y : Reading (List MacroDef)). Same (Reading.accepted few) y) (sym q) (go (long_buffers b) (read condition_root input)))
    where
      out : Bool → Reading (List MacroDef) → Reading Condition → Answer
      out long r c = answer tape b (elim long [ true ↦ reading r (λ defs. reading c (λ c'. expand limit file defs c')) | false ↦ number_alone 1 ])

      Same : Reading (List MacroDef) → Reading (List MacroDef) → Type 0
      Same x y = (out (long_buffers b) x (read condition_root input)).number ≢ 30 → out (long_buffers b) y (read condition_root input) ≡ out (long_buffers b) x (read condition_root input)

      go : (long : Bool) (c : Reading Condition) → (out long (Reading.accepted few) c).number ≢ 30 → out long (Reading.accepted many) c ≡ out long (Reading.accepted few) c
      go false c h = refl
      go true Reading.malformed h = refl
      go true Reading.too_large h = refl
      go true (Reading.accepted c) h = same_answer (k c) h

-- ------------------------------------------------------------------ a merge that gives 0

module _ (first second : List ℕ) (ds es : List MacroDef) (p : Bytes first) (q : Bytes second)
    (hd : read registry_root first ≡ Reading.accepted ds) (he : read registry_root second ≡ Reading.accepted es) where
  -- each definition is one of an accepted registry
  fair : All FairDef (joined ds es)
  unfolding joined
  fair = all_append (fair_read first p ds hd) (all_new ds (fair_read second q es he))

  its_tape : too_large_registry (joined ds es) ≡ false → read registry_root (registry_tape (joined ds es)) ≡ Reading.accepted (joined ds es)
  unfolding too_large_registry registry_tape
  its_tape small =
      registry_read (joined ds es) fair
      (not_refused (fits_sizes (length (flat_registry (joined ds es))) (length (text_of (flat_registry (joined ds es))))) small)

  made : build ds ≡ none → build es ≡ none → first_differing ds es ≡ none → too_large_registry (joined ds es) ≡ false
      → Merged ds es first (registry_tape (joined ds es))
  made bd be agree small =
      record {
        defs = joined ds es;
        spelled = refl;
        no_or = registry_no_or fair;
        its_defs = its_tape small;
        builds = joined_builds ds es bd be;
        in_order = joined_in_order ds es;
        finds_first = joined_first ds es;
        finds_second = joined_finds ds es agree;
        expands_alike = λ b limit file input e. same b limit file input (λ z. let w : ◌≡◌ {A = ℕ} 0 30 = sym e ∙ z in absurd (omega arith));
        answers_alike = same;
      }
    where
      same : (b : Buffers) (limit file : ℕ) (input : List ℕ) → (expand_answer b limit file first input).number ≢ 30
          → expand_answer b limit file (registry_tape (joined ds es)) input ≡ expand_answer b limit file first input
      same b limit file input =
          answers b limit file ds (joined ds es) (expand_alike limit file ds (joined ds es) (joined_first ds es) bd (joined_builds ds es bd be))
          first (registry_tape (joined ds es)) input hd (its_tape small)

-- the last two tests, by what they find
module _ (r m : ℕ) (first : List ℕ) (ds es : List MacroDef) where
  abbrev out : Outcome (List MacroDef) → Answer
  out o = answer registry_tape (without_work r m) o

  abbrev Kept : Outcome (List MacroDef) → Type 0
  Kept o = (out o).number ≡ 0 → (tape : List ℕ) × ((out o).result ≡ padded r tape) × Merged ds es first tape

  tests : Option MacroDef → Bool → Outcome (List MacroDef)
  tests differing large = proceed (refuse_differing differing 0) (λ u. ◌>>=◌ (check_limits large 0) λ u'. pure (joined ds es))

  kept_tests : (differing : Option MacroDef) (large : Bool)
      → (differing ≡ none → large ≡ false → Merged ds es first (registry_tape (joined ds es))) → Kept (tests differing large)
  unfolding tests answer refuse_differing check_limits proceed ◌>>=◌
  kept_tests none false k e = (registry_tape (joined ds es), refl, k refl refl)
  kept_tests none true k e = absurd (omega arith)
  kept_tests (some d) large k e = absurd (omega arith)

  kept_merge : (v w : Verdict) → Given (λ (x : Refusal). x.number ≢ 0) v → Given (λ (x : Refusal). x.number ≢ 0) w
      → (v ≡ none → w ≡ none → first_differing ds es ≡ none → too_large_registry (joined ds es) ≡ false → Merged ds es first (registry_tape (joined ds es)))
      → Kept (unless v (unless w (merge ds es)) 0)
  unfolding answer unless merge tests ◌>>=◌ ◌>>◌
  kept_merge none none g g' k e = kept_tests (first_differing ds es) (too_large_registry (joined ds es)) (k refl refl) e
  kept_merge none (some x) g (refuses n) k e = absurd (n e)
  kept_merge (some x) w (refuses n) g k e = absurd (n e)

pub merged : MergeKeeps
unfolding merge_answer merge_tapes result_answer answer number_alone reading
merged r m first second p q = whole (leb 12296 r && leb 2048 m) (read registry_root first) refl (read registry_root second) refl
  where
    answered : Bool → Reading (List MacroDef) → Reading (List MacroDef) → Answer
    answered long x y =
        answer registry_tape (without_work r m) (elim long [
          | true ↦ reading x (λ ds. reading y (λ es. unless (build ds) (unless (build es) (merge ds es)) 0))
          | false ↦ number_alone 1
        ])

    whole : (long : Bool) (x : Reading (List MacroDef)) → read registry_root first ≡ x → (y : Reading (List MacroDef)) → read registry_root second ≡ y
        → (answered long x y).number ≡ 0
        → (ds : List MacroDef) × (es : List MacroDef) × (tape : List ℕ)
        × (x ≡ Reading.accepted ds)
        × (y ≡ Reading.accepted es)
        × ((answered long x y).result ≡ padded r tape)
        × Merged ds es first tape
    whole false x hx y hy e = absurd (omega arith)
    whole true Reading.malformed hx y hy e = absurd (omega arith)
    whole true Reading.too_large hx y hy e = absurd (omega arith)
    whole true (Reading.accepted ds) hx Reading.malformed hy e = absurd (omega arith)
    whole true (Reading.accepted ds) hx Reading.too_large hy e = absurd (omega arith)
    whole true (Reading.accepted ds) hx (Reading.accepted es) hy e =
        let k = kept_merge r m first ds es (build ds) (build es) (nonzero_build ds) (nonzero_build es) (made first second ds es p q hx hy) e in
        (ds, es, k.0, refl, refl, k.1, k.2)
