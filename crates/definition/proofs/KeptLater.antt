-- Every answer of document 02's operations keeps its bounds too (specs/Kept.antt).
-- Assumes nothing.
use Prim.Native.Nat.{ℕ, suc, ◌*◌, ◌≤◌}
use native.Mathlib.Omega.{arith}
use mathlib.Core.Path.{◌≡◌, refl}
use mathlib.Core.List.{List, [], ◌∷◌}
use mathlib.Core.Bool.{Bool, true, false, ◌&&◌}
use mathlib.Core.Option.{Option, none, some}
use lib.Dec.{T, leb, leb→le}
use lib.ListN.{length}
use Rattle.format.specs.Entry.{Entry, encode, le, text_of}
use Rattle.format.specs.Ast.{Tree, MacroDef}
use Rattle.format.specs.Flat.{flat_condition, flat_tree, flat_registry}
use Rattle.format.specs.Limits.{fits_sizes}
use Rattle.format.specs.Tape.{Reading, condition_root, registry_root, named_root, read, Bytes}
use Rattle.format.proofs.Tests.{and_left, and_right, not_refused}
use Rattle.format.proofs.Encodes.{fitting, length_encode}
use Rattle.format.proofs.Exact.{lawful_registry}
use Rattle.format.proofs.Rewritten.{rewrites_registry, read_on_tape}
use Rattle.format.proofs.Registries.{few_fit, definitions_alone}
use Rattle.definition.specs.Outcome.{Refusal, Outcome, Walk, pure, proceed, ◌>>=◌, ◌>>◌}
use Rattle.definition.specs.Check.{Verdict, check_def}
use Rattle.definition.specs.Registry.{build}
use Rattle.definition.specs.Substitute.{check_limits}
use Rattle.definition.specs.Expand.{unless}
use Rattle.definition.specs.Answers.{Buffers, answer, number_alone, verdict, message_alone, without_work, result_answer}
use Rattle.definition.specs.Preview.{sizes_only}
use Rattle.definition.specs.Library.{in_front, refused_from, refused_of, refused_bytes, list_bytes, library_tapes, library_answer, definition_at, check_found, check_at_answer}
use Rattle.definition.specs.Merge.{joined, first_differing, refuse_differing, too_large_registry, merge, merge_tapes, registry_tape, merge_answer}
use Rattle.definition.specs.Profile.{Placed, rule, profile_from, profile, no_buffers, profile_answer}
use Rattle.definition.specs.Kept.{Bounded, PreviewBounded, LibraryBounded, CheckAtBounded, MergeBounded, ProfileBounded, JudgeBounded}
use Rattle.definition.specs.Agree.{protected_names, same_but_names}
use Rattle.definition.specs.Judge.{require_equal, judge, longest_name, judge_tapes, judge_answer}
use Rattle.definition.proofs.Good.{good_done, good_refused}
use Rattle.definition.proofs.Lengths.{Short}
use Rattle.definition.proofs.Rules.{in_01, Unasked, Fits}
use Rattle.definition.proofs.Verdicts.{Given, passes, refuses, both}
use Rattle.definition.proofs.Kept.{no_message, ShortRefusal, nothing, short_check, sized_registry, short_build, bounded_done, bounded_refused, bounded_number_alone, bounded_reading, bounded_message, bounded_verdict, tree_tape, bounded_tree, bounded_kept, kept_expanded, expand_bounded}
use Rattle.definition.proofs.Library.{found_at}
use Rattle.definition.proofs.Preview.{previews}

-- ------------------------------------------------------------------ the front of an operation with result and message

bounded_result : {A : Type 0} (tape : A → List ℕ) (r m : ℕ) (o : Outcome A)
    → (12296 ≤ r → 2048 ≤ m → Bounded (without_work r m) 0 (answer tape (without_work r m) o)) → Bounded (without_work r m) 0 (result_answer tape r m o)
unfolding result_answer
bounded_result tape r m o f = go (leb 12296 r && leb 2048 m) (λ h. h)
  where
    go : (x : Bool) → (T x → T (leb 12296 r && leb 2048 m))
        → Bounded (without_work r m) 0 (answer tape (without_work r m) (elim x [ true ↦ o | false ↦ number_alone 1 ]))
    go true h = f (leb→le 12296 r (and_left (leb 12296 r) _ (h tt))) (leb→le 2048 m (and_right (leb 12296 r) _ (h tt)))
    go false h = bounded_number_alone tape (without_work r m) 0 1

-- 10 and 11
bounded_unless : {A : Type 0} (tape : A → List ℕ) (b : Buffers) {v : Verdict} (w : Walk A) → 2048 ≤ b.message_length → Given ShortRefusal v
    → Bounded b 0 (answer tape b (w 0)) → Bounded b 0 (answer tape b (unless v w 0))
unfolding unless
bounded_unless tape b w long passes h = h
bounded_unless tape b w long (refuses {r = r} s) h = bounded_refused tape b 0 r 0 (omega arith) s.0 (omega (arith, s.0))

short_registry : (registry : List ℕ) (defs : List MacroDef) → Bytes registry → read registry_root registry ≡ Reading.accepted defs → Given ShortRefusal (build defs)
short_registry registry defs q h =
    short_build defs (sized_registry _ defs (read_on_tape registry_root rewrites_registry lawful_registry registry q defs h))

-- ------------------------------------------------------------------ library check

length_list : (i : ℕ) (defs : List MacroDef) → length (list_bytes (refused_from i defs)) ≤ 16 * length defs
unfolding refused_from in_front list_bytes refused_bytes le
length_list i [] = omega arith
length_list i (d ∷ ds) = go (check_def d) (length_list (suc i) ds)
  where
    go : (v : Verdict) → length (list_bytes (refused_from (suc i) ds)) ≤ 16 * length ds
        → length (list_bytes (in_front i v (refused_from (suc i) ds))) ≤ 16 * suc (length ds)
    go none h = omega arith
    go (some r) h = omega arith

pub library_bounded : LibraryBounded
unfolding library_answer library_tapes refused_of registry_root
library_bounded r m registry q =
    bounded_result list_bytes r m _ λ large long.
    bounded_reading list_bytes (without_work r m) 0 (read registry_root registry) _ λ defs h.
    bounded_unless list_bytes (without_work r m) (pure (refused_of defs)) long (short_registry registry defs q h)
    (bounded_done list_bytes (without_work r m) 0 (refused_of defs) 0 (omega arith)
    (omega (
      arith,
      length_list 0 defs,
      few_fit defs (read_on_tape registry_root rewrites_registry lawful_registry registry q defs h).range.sizes,
    )))

pub check_at_bounded : CheckAtBounded
unfolding check_at_answer check_found
check_at_bounded m registry i q =
    bounded_message m _ λ long.
    bounded_reading nothing (message_alone m) 0 (read registry_root registry) _ λ defs h.
    bounded_unless nothing (message_alone m) (λ n. verdict (check_found (definition_at defs i))) long (short_registry registry defs q h)
    (bounded_verdict m long (found defs h (definition_at defs i) refl))
  where
    found : (defs : List MacroDef) → read registry_root registry ≡ Reading.accepted defs
        → (o : Option MacroDef) → definition_at defs i ≡ o → Given ShortRefusal (check_found o)
    found defs h none e = passes
    found defs h (some d) e =
        short_check (encode _) d
        (found_at (definitions_alone registry q defs h) i d e).on_tape

-- ------------------------------------------------------------------ merge

length_tape : (ds : List MacroDef) → too_large_registry ds ≡ false → length (registry_tape ds) ≤ 12296
unfolding too_large_registry registry_tape
length_tape ds h =
    let es : List Entry = flat_registry ds in
    let q = fitting (length es) (length (text_of es)) (not_refused (fits_sizes (length es) (length (text_of es))) h) in
    omega (arith, length_encode es)

bounded_merge : (r m : ℕ) (ds es : List MacroDef) → 12296 ≤ r → Bounded (without_work r m) 0 (answer registry_tape (without_work r m) (merge ds es 0))
unfolding merge refuse_differing check_limits proceed ◌>>=◌ ◌>>◌
bounded_merge r m ds es large = go (first_differing ds es) (too_large_registry (joined ds es)) (length_tape (joined ds es))
  where
    b : Buffers
    b = without_work r m

    go : (differing : Option MacroDef) (big : Bool) → (big ≡ false → length (registry_tape (joined ds es)) ≤ 12296)
        → Bounded b 0 (answer registry_tape b (proceed (refuse_differing differing 0) (λ u n. proceed (check_limits big 0 n) (λ u'. pure (joined ds es)))))
    go none false h = bounded_done registry_tape b 0 (joined ds es) 0 (omega arith) (omega (arith, h refl))
    go none true h = bounded_refused registry_tape b 0 _ 0 (omega arith) no_message (omega arith)
    go (some d) big h = bounded_refused registry_tape b 0 _ 0 (omega arith) no_message (omega arith)

pub merge_bounded : MergeBounded
unfolding merge_answer merge_tapes
merge_bounded r m first second p q =
    bounded_result registry_tape r m _ λ large long.
    bounded_reading registry_tape (without_work r m) 0 (read registry_root first) _ λ ds h.
    bounded_reading registry_tape (without_work r m) 0 (read registry_root second) _ λ es k.
    bounded_unless registry_tape (without_work r m) (unless (build es) (merge ds es)) long (short_registry first ds p h)
    (bounded_unless registry_tape (without_work r m) (merge ds es) long (short_registry second es q k) (bounded_merge r m ds es large))

-- ------------------------------------------------------------------ preview

pub preview_bounded : PreviewBounded
unfolding sizes_only
preview_bounded w m limit file small registry input p q =
    let b : Buffers = record { result_length = 12296; work_length = w; message_length = m } in
    let e = expand_bounded b limit file small registry input p q in
    rw (previews 12296 w m limit file registry input (omega arith))
    (record {
      short_message = e.short_message;
      within_limit = e.within_limit;
      whole_result = refl;
      whole_work = e.whole_work;
      whole_message = e.whole_message;
    })

-- ------------------------------------------------------------------ profile

abbrev WithoutMessage : Refusal → Type 0
WithoutMessage r = length r.message ≡ 0

silent_rule : (broken : Bool) (number span : ℕ) → Given WithoutMessage (rule broken number span)
unfolding rule
silent_rule true number span = refuses refl
silent_rule false number span = passes

silent_profile : (ps : List Placed) (nodes : ℕ) → Given WithoutMessage (profile_from nodes ps)
unfolding profile_from
silent_profile [] nodes = passes
silent_profile (p ∷ ps) nodes =
    both (silent_rule _ 53 0) (both (silent_rule _ 54 0) (both (silent_rule _ 55 p.1) (silent_profile ps _)))

pub profile_bounded : ProfileBounded
unfolding profile_answer profile verdict
profile_bounded input =
    bounded_reading nothing no_buffers 0 (read (named_root 81) input) _ λ c h. go (profile c) (silent_profile _ 0)
  where
    go : (v : Verdict) → Given WithoutMessage v → Bounded no_buffers 0 (answer nothing no_buffers (verdict v))
    go none g = bounded_done nothing no_buffers 0 tt 0 (omega arith) (omega arith)
    go (some r) (refuses s) = bounded_refused nothing no_buffers 0 r 0 (omega arith) (omega arith) (omega arith)

-- ------------------------------------------------------------------ judge

-- a judge keeps what expansion keeps, and 50 has no message
bounded_judge : (b : Buffers) (limit : ℕ) (same : Tree → Bool) {o : Outcome Tree} → 12296 ≤ b.result_length → 2048 ≤ b.message_length
    → Fits in_01 Short Unasked (λ n. n ≤ limit) (λ t. t) o → Bounded b limit (answer tree_tape b (proceed o λ t. require_equal (same t) t))
unfolding proceed require_equal
bounded_judge b limit same large long (good_refused k) = bounded_kept b limit large long (good_refused k)
bounded_judge b limit same large long (good_done {a = t} {n = n} k) = go (same t)
  where
    go : (x : Bool) → Bounded b limit (answer tree_tape b (require_equal x t n))
    go true = bounded_kept b limit large long (good_done k)
    go false = bounded_refused tree_tape b limit _ n k.0 no_message (omega arith)

pub judge_bounded : JudgeBounded
unfolding judge_answer judge_tapes judge
judge_bounded b limit file small registry input supplied p q =
    bounded_tree b limit _ λ large long.
    bounded_reading tree_tape b limit (read registry_root registry) _ λ defs h.
    bounded_reading tree_tape b limit (read condition_root input) _ λ condition k.
    bounded_reading tree_tape b limit (read (named_root (longest_name file)) supplied) _ λ theirs l.
    bounded_judge b limit (λ t. same_but_names (protected_names defs condition) [] (flat_tree t) (flat_condition theirs)) large long
    (kept_expanded limit file small registry input p q defs h condition k)
