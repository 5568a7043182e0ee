-- The messages of document 02's operations are well-formed, and the judge's tape has well-formed texts (specs/Whole.antt).
-- Assumes nothing.
use Prim.Native.Nat.{ℕ}
use native.Mathlib.Omega.{arith}
use mathlib.Core.Path.{◌≡◌, refl}
use mathlib.Core.List.{List, []}
use mathlib.Core.Bool.{Bool, true, false, ◌&&◌}
use mathlib.Core.Option.{Option, none, some}
use lib.Dec.{leb}
use Rattle.format.specs.Ast.{Tree, MacroDef}
use Rattle.format.specs.Flat.{flat_condition, flat_tree}
use Rattle.format.specs.Tape.{Reading, condition_root, registry_root, named_root, read, Bytes}
use Rattle.format.proofs.All.{All}
use Rattle.format.proofs.Rewritten.{rewrites_condition, rewrites_registry}
use Rattle.format.proofs.Exact.{lawful_condition, lawful_registry}
use Rattle.definition.specs.Outcome.{refusal, Outcome, Walk, pure, proceed, ◌>>=◌, ◌>>◌}
use Rattle.definition.specs.Check.{Verdict}
use Rattle.definition.specs.Registry.{build}
use Rattle.definition.specs.Substitute.{check_limits}
use Rattle.definition.specs.Expand.{unless}
use Rattle.definition.specs.Answers.{Buffers, answer, number_alone, reading, verdict, message_alone, without_work, result_answer}
use Rattle.definition.specs.Preview.{sizes_only}
use Rattle.definition.specs.Library.{refused_of, list_bytes, library_tapes, library_answer, definition_at, check_found, check_at_answer}
use Rattle.definition.specs.Merge.{joined, first_differing, refuse_differing, too_large_registry, merge, merge_tapes, registry_tape, merge_answer}
use Rattle.definition.specs.Agree.{protected_names, same_but_names}
use Rattle.definition.specs.Judge.{require_equal, judge, longest_name, judge_tapes, judge_answer}
use Rattle.definition.specs.Whole.{WholeMessage, PreviewWhole, LibraryWhole, CheckAtWhole, MergeWhole, JudgeWhole}
use Rattle.definition.proofs.Good.{good_done, good_refused}
use Rattle.definition.proofs.Readings.{of_reading}
use Rattle.definition.proofs.Verdicts.{Given, passes, refuses}
use Rattle.definition.specs.Ends.{expansion_numbers}
use Rattle.definition.proofs.Rules.{in_01, includes, tabled}
use Rattle.definition.proofs.SaidExpand.{said_expand}
use Rattle.definition.proofs.Library.{found_at}
use Rattle.definition.proofs.Preview.{previews}
use Rattle.definition.proofs.Whole.{silent, whole_rules, known, WholeDef, known_registry, WholeRefusal, whole_check, whole_build, accepted_texts, SaysWhole, says_done, says_refused, says_bare, nothing, says_verdict, says_message, tree_tape, Answered, WholeFits, answer_whole, bare_whole, tree_whole, expand_tapes_whole}

says_result : {A : Type 0} (tape : A → List ℕ) (r m : ℕ) (o : Outcome A) → SaysWhole tape (without_work r m) o → WholeMessage (result_answer tape r m o)
unfolding result_answer
says_result tape r m o h = go (leb 12296 r && leb 2048 m)
  where
    go : (x : Bool) → SaysWhole tape (without_work r m) (elim x [ true ↦ o | false ↦ number_alone 1 ])
    go true = h
    go false = says_bare tape (without_work r m) 1

-- 10 and 11
says_unless : {A : Type 0} (tape : A → List ℕ) (b : Buffers) {v : Verdict} (w : Walk A) → Given WholeRefusal v
    → SaysWhole tape b (w 0) → SaysWhole tape b (unless v w 0)
unfolding unless
says_unless tape b w passes h = h
says_unless tape b w (refuses {r = r} k) h = says_refused tape b r 0 k.0

whole_registry : (registry : List ℕ) → Bytes registry → (defs : List MacroDef) → read registry_root registry ≡ Reading.accepted defs → All WholeDef defs
unfolding registry_root
whole_registry registry q defs h = known_registry defs (accepted_texts registry_root rewrites_registry lawful_registry registry q defs h)

-- a registry that is read, and what comes behind it
says_registry : {A : Type 0} (tape : A → List ℕ) (b : Buffers) (registry : List ℕ) → Bytes registry → (k : List MacroDef → Outcome A)
    → ((defs : List MacroDef) → All WholeDef defs → SaysWhole tape b (k defs)) → SaysWhole tape b (reading (read registry_root registry) k)
says_registry tape b registry q k f =
    of_reading (SaysWhole tape b) (read registry_root registry) k (says_bare tape b 2) (says_bare tape b 3) λ defs h.
    f defs (whole_registry registry q defs h)

pub library_whole : LibraryWhole
unfolding library_answer library_tapes
library_whole r m registry q =
    says_result list_bytes r m _
    (says_registry list_bytes (without_work r m) registry q _ λ defs w.
    says_unless list_bytes (without_work r m) (pure (refused_of defs)) (whole_build defs w) (says_done list_bytes (without_work r m) (refused_of defs) 0))

pub check_at_whole : CheckAtWhole
unfolding check_at_answer check_found
check_at_whole m registry i q =
    says_message m _
    (says_registry nothing (message_alone m) registry q _ λ defs w.
    says_unless nothing (message_alone m) (λ n. verdict (check_found (definition_at defs i))) (whole_build defs w)
    (says_verdict m (found defs w (definition_at defs i) refl)))
  where
    found : (defs : List MacroDef) → All WholeDef defs → (o : Option MacroDef) → definition_at defs i ≡ o → Given WholeRefusal (check_found o)
    found defs w none e = passes
    found defs w (some d) e = whole_check d (found_at w i d e)

-- 51 and 3 have no message
says_merge : (b : Buffers) (ds es : List MacroDef) → SaysWhole registry_tape b (merge ds es 0)
unfolding merge refuse_differing check_limits proceed ◌>>=◌ ◌>>◌
says_merge b ds es = go (first_differing ds es) (too_large_registry (joined ds es))
  where
    go : (differing : Option MacroDef) (big : Bool)
        → SaysWhole registry_tape b (proceed (refuse_differing differing 0) (λ u n. proceed (check_limits big 0 n) (λ u'. pure (joined ds es))))
    go none false = says_done registry_tape b (joined ds es) 0
    go none true = says_refused registry_tape b _ 0 silent
    go (some d) big = says_refused registry_tape b _ 0 silent

pub merge_whole : MergeWhole
unfolding merge_answer merge_tapes
merge_whole r m first second p q =
    let b : Buffers = without_work r m in
    says_result registry_tape r m _
    (says_registry registry_tape b first p _ λ ds v.
    says_registry registry_tape b second q _ λ es w.
    says_unless registry_tape b (unless (build es) (merge ds es)) (whole_build ds v)
    (says_unless registry_tape b (merge ds es) (whole_build es w) (says_merge b ds es)))

pub preview_whole : PreviewWhole
unfolding sizes_only
preview_whole w m limit file registry input p q =
    rw (previews 12296 w m limit file registry input (omega arith))
    (expand_tapes_whole (record { result_length = 12296; work_length = w; message_length = m }) limit file registry input p q).whole_message

judged_whole : (b : Buffers) (same : Tree → Bool) {o : Outcome Tree} → WholeFits o → Answered b (proceed o λ t. require_equal (same t) t)
unfolding proceed require_equal answer
judged_whole b same (good_refused k) = answer_whole b (good_refused k)
judged_whole b same (good_done {a = t} {n = n} k) = go (same t)
  where
    go : (x : Bool) → Answered b (require_equal x t n)
    go true = answer_whole b (good_done k)
    go false = record { whole_message = says_refused tree_tape b (refusal 50 0 []) n silent; whole_result = λ e. absurd (omega arith) }

pub judge_whole : JudgeWhole
unfolding judge_answer judge_tapes judge condition_root
judge_whole b limit file registry input supplied p q =
    tree_whole b _
    (of_reading (Answered b) (read registry_root registry) _ (bare_whole b 2 (tabled tt)) (bare_whole b 3 (tabled tt)) λ defs h.
    of_reading (Answered b) (read condition_root input) _ (bare_whole b 2 (tabled tt)) (bare_whole b 3 (tabled tt)) λ condition k.
    of_reading (Answered b) (read (named_root (longest_name file)) supplied) _ (bare_whole b 2 (tabled tt)) (bare_whole b 3 (tabled tt)) λ theirs l.
    let ds = whole_registry registry p defs h in
    let c = known (flat_condition condition) (accepted_texts condition_root rewrites_condition lawful_condition input q condition k) in
    judged_whole b (λ t. same_but_names (protected_names defs condition) [] (flat_tree t) (flat_condition theirs))
    (said_expand defs limit file (whole_rules limit file) (includes in_01 expansion_numbers tt) ds (whole_build defs ds) condition c))
