-- Preview and judge in any file are told by expansion in that file (specs/OtherFiles.antt): both meet what is said there, and no
-- other function does.
-- Assumes nothing.
use Prim.Native.Nat.{ℕ, zero, suc, ◌-◌, ◌≤◌, ◌<◌}
use native.Mathlib.Nat.{sub-zero}
use mathlib.Core.Path.{◌≡◌, refl, sym, ◌∙◌, ap, ap₂, subst}
use mathlib.Core.Logic.{◌⊎◌, inl, inr}
use mathlib.Core.List.{List, [], ◌++◌}
use mathlib.Core.Bool.{Bool, true, false, ◌&&◌, false≢true}
use borrow.Author.Tests.{le-leb}
use Rattle.std.proofs.lemmas.Bool.{lt-leb}
use Rattle.std.proofs.lemmas.Bool.Decides.{leb_tells}
use Rattle.std.proofs.lemmas.List.{take-append-drop}
use lib.Seq.{drop-append_seam}
use native.Mathlib.Omega.{arith}
use lib.Dec.{leb}
use lib.ListN.{length, take, drop}
use Rattle.format.specs.Entry.{encode}
use Rattle.format.specs.Ast.{Condition, Tree, MacroDef}
use Rattle.format.specs.Flat.{flat_condition, flat_tree}
use Rattle.format.specs.Tape.{Reading, condition_root, named_root, registry_root, read}
use Rattle.definition.specs.Outcome.{Refusal, refusal, Outcome, proceed}
use Rattle.definition.specs.Expand.{expand}
use Rattle.definition.specs.Answers.{Answer, Buffers, padded, answer, number_alone, long_buffers, expand_tapes, expand_answer}
use Rattle.definition.specs.Agree.{protected_names, Generated, same_but_names}
use Rattle.definition.specs.Judge.{require_equal, judge, longest_name, judge_tapes, judge_answer}
use Rattle.definition.specs.Returned.{zeros, Gives, Refuses, RefusesAlone, Unread, ShortBuffers, LongBuffers}
use Rattle.definition.specs.Preview.{Preview, entries_in, text_in, without_result, preview, preview_answer, Previewed}
use Rattle.definition.specs.Files.{}
use Rattle.definition.specs.OtherFiles.{PreviewsShort, PreviewsAnswer, Previews, NameLimit, SameButNames, ThreeRead, Judges}
use Rattle.definition.proofs.Agree.{walk_decides}
use Rattle.definition.proofs.Generated.{names_generated}
use Rattle.definition.proofs.Preview.{previews_any}
use Rattle.definition.proofs.Returned.{gives_one, refuses_one, gives, refuses, refuses_alone, are_long, short_or_long}
use Rattle.definition.proofs.Files.{tape, Tells, answer_short, answer_long, unread, next, Seen, no_tape, seen, see}

-- ------------------------------------------------------------------ preview

preview_short : (w m limit file : ℕ) (x y : List ℕ) → (w < 65536) ⊎ (m < 2048) → PreviewsShort w m (preview_answer w m limit file x y)
unfolding preview_answer preview entries_in text_in number_alone
preview_short w m limit file x y h = subst (λ (p : Preview). PreviewsShort w m p) (sym (go h)) alone
  where
    alone : PreviewsShort w m (preview (without_result w m) (number_alone 1))
    alone = record { answered = refuses_alone (λ (t : Tree). []) (without_result w m) 1; no_entries = refl; no_text = refl }

    go : (w < 65536) ⊎ (m < 2048) → preview_answer w m limit file x y ≡ preview (without_result w m) (number_alone 1)
    go (inl s) = rw (lt-leb 65536 w s) refl
    go (inr s) = small (leb 65536 w)
      where
        small : (b : Bool)
            → preview (without_result w m) (elim (b && leb 2048 m) [ true ↦ expand_tapes limit file x y | false ↦ number_alone 1 ])
            ≡ preview (without_result w m) (number_alone 1)
        small true = rw (lt-leb 2048 m s) refl
        small false = refl

preview_at_length : (w m limit file : ℕ) (x y : List ℕ) → 65536 ≤ w → 2048 ≤ m
    → preview_answer w m limit file x y ≡ preview (without_result w m) (expand_tapes limit file x y)
unfolding preview_answer
preview_at_length w m limit file x y h k = rw (le-leb 65536 w h, le-leb 2048 m k) refl

-- what a preview leaves in its buffers
preview_buffers : (w m : ℕ) (o : Outcome Tree) (a : Answer) → Previewed (preview (without_result w m) o) a
    → PreviewsAnswer w m a (preview (without_result w m) o)
unfolding preview answer padded
preview_buffers w m (Outcome.done t n) a h =
    record { returned = h; result = refl; work = ap zeros (sub-zero w); message = refl }
preview_buffers w m (Outcome.refused r n) a h =
    record {
      returned = h;
      result = refl;
      work = ap zeros (sub-zero w);
      message = drop-append_seam r.message (zeros (m - length r.message));
    }

preview_long : (b : Buffers) (w m limit file : ℕ) (x y : List ℕ) → LongBuffers b → 65536 ≤ w → 2048 ≤ m
    → PreviewsAnswer w m (expand_answer b limit file x y) (preview_answer w m limit file x y)
preview_long b w m limit file x y long h k =
    subst (λ (p : Preview). PreviewsAnswer w m (expand_answer b limit file x y) p) (sym at_length)
    (preview_buffers w m (expand_tapes limit file x y) (expand_answer b limit file x y)
    (subst (λ (p : Preview). Previewed p (expand_answer b limit file x y)) at_length (previews_any b w m limit file x y long_lem h k)))
  where
    at_length : preview_answer w m limit file x y ≡ preview (without_result w m) (expand_tapes limit file x y)
    at_length = preview_at_length w m limit file x y h k

    long_lem : long_buffers b ≡ true
    long_lem = are_long b long

pub previews_in_files : Previews preview_answer
previews_in_files = record { short = preview_short; long = preview_long }

abbrev made_preview : (number start end length charged : ℕ) (result work message : List ℕ) (n t : ℕ) → Preview
made_preview number start end length charged result work message n t =
    record {
      answered =
          record {
            number = number;
            start = start;
            end = end;
            message_length = length;
            charged = charged;
            result = result;
            work = work;
            message = message;
          };
      entries = n;
      text_bytes = t;
    }

same_preview : {k k' s s' e e' l l' c c' : ℕ} {r r' w w' m m' : List ℕ} {n n' t t' : ℕ} → k ≡ k' → s ≡ s' → e ≡ e'
    → l ≡ l' → c ≡ c' → r ≡ r' → w ≡ w' → m ≡ m' → n ≡ n' → t ≡ t' → made_preview k s e l c r w m n t ≡ made_preview k' s' e' l' c' r' w' m' n' t'
same_preview k s e l c r w m n t = rw (k, s, e, l, c, r, w, m, n, t) refl

one_short : {w m : ℕ} {p q : Preview} → PreviewsShort w m p → PreviewsShort w m q → p ≡ q
one_short {p = p} {q = q} h k =
    same_preview (h.answered.number ∙ sym k.answered.number)
    (h.answered.start ∙ sym k.answered.start)
    (h.answered.end ∙ sym k.answered.end) (h.answered.message_length ∙ sym k.answered.message_length)
    (h.answered.charged ∙ sym k.answered.charged) (h.answered.result ∙ sym k.answered.result) (h.answered.work ∙ sym k.answered.work)
    (h.answered.message ∙ sym k.answered.message) (h.no_entries ∙ sym k.no_entries) (h.no_text ∙ sym k.no_text)

-- a message, from its two parts
same_message : (l l' : ℕ) (x y : List ℕ) → l ≡ l' → take l x ≡ take l' y → drop l x ≡ drop l' y → x ≡ y
same_message l l' x y e p q = sym (take-append-drop l x) ∙ (ap₂ ◌++◌ p q ∙ take-append-drop l' y)

one_long : {w m : ℕ} {a : Answer} {p q : Preview} → PreviewsAnswer w m a p → PreviewsAnswer w m a q → p ≡ q
one_long {m = m} {p = p} {q = q} h k =
    let x = h.returned in
    let y = k.returned in
    let lengths : p.answered.message_length ≡ q.answered.message_length = x.same_length ∙ sym y.same_length in
    same_preview (x.same_number ∙ sym y.same_number) (x.same_start ∙ sym y.same_start)
    (x.same_end ∙ sym y.same_end) lengths (x.same_charged ∙ sym y.same_charged) (h.result ∙ sym k.result) (h.work ∙ sym k.work)
    (same_message p.answered.message_length q.answered.message_length p.answered.message q.answered.message lengths
    (x.same_message ∙ sym y.same_message)
    (h.message ∙ (ap (λ (l : ℕ). zeros (m - l)) lengths ∙ sym k.message)))
    (x.same_entries ∙ sym y.same_entries) (x.same_text ∙ sym y.same_text)

pub preview_determined : (g : (work_length message_length limit file : ℕ) → (registry input : List ℕ) → Preview) → Previews g
    → (w m limit file : ℕ) (registry input : List ℕ) → g w m limit file registry input ≡ preview_answer w m limit file registry input
preview_determined g h w m limit file x y = go (leb_tells 65536 w) (leb_tells 2048 m)
  where
    least : Buffers
    least = record { result_length = 12296; work_length = 65536; message_length = 2048 }

    go : Tells 65536 w → Tells 2048 m → g w m limit file x y ≡ preview_answer w m limit file x y
    go (inr p) q = one_short (h.short w m limit file x y (inl p.1)) (preview_short w m limit file x y (inl p.1))
    go (inl p) (inr q) = one_short (h.short w m limit file x y (inr q.1)) (preview_short w m limit file x y (inr q.1))
    go (inl p) (inl q) =
        let long : LongBuffers least = (omega arith, (omega arith, omega arith)) in
        one_long (h.long least w m limit file x y long p.1 q.1) (preview_long least w m limit file x y long p.1 q.1)

-- ------------------------------------------------------------------ judge

-- the limit of a file, and no other
limit_of : (file : ℕ) → NameLimit file (longest_name file)
unfolding longest_name
limit_of zero = NameLimit.in_file_0
limit_of (suc f) = NameLimit.above_0 f

one_limit : {file most : ℕ} → NameLimit file most → longest_name file ≡ most
unfolding longest_name
one_limit NameLimit.in_file_0 = refl
one_limit (NameLimit.above_0 f) = refl

module _ (b : Buffers) (limit file : ℕ) (x y z : List ℕ) where
  abbrev judged : Answer
  judged = judge_answer b limit file x y z

  judged_alone : (why : ℕ) → judged ≡ answer tape b (number_alone why) → RefusesAlone b why judged
  judged_alone why e = subst (λ (a : Answer). RefusesAlone b why a) (sym e) (refuses_alone tape b why)

  judged_short : ShortBuffers b → RefusesAlone b 1 judged
  unfolding judge_answer
  judged_short h = judged_alone 1 (answer_short b _ h)

  judged_first : (why : ℕ) → LongBuffers b → Unread (read registry_root x) why → RefusesAlone b why judged
  unfolding judge_answer judge_tapes
  judged_first why h u = judged_alone why (answer_long b _ h ∙ ap (λ (o : Outcome Tree). answer tape b o) (unread _ u))

  judged_second : (why : ℕ) (defs : List MacroDef) → LongBuffers b → read registry_root x ≡ Reading.accepted defs
      → Unread (read condition_root y) why → RefusesAlone b why judged
  unfolding judge_answer judge_tapes
  judged_second why defs h p u =
      judged_alone why (answer_long b _ h ∙ ap (λ (o : Outcome Tree). answer tape b o) (next defs (read registry_root x) _ p ∙ unread _ u))

  judged_third : (most why : ℕ) (defs : List MacroDef) (c : Condition) → LongBuffers b → NameLimit file most
      → read registry_root x ≡ Reading.accepted defs → read condition_root y ≡ Reading.accepted c
      → Unread (read (named_root most) z) why → RefusesAlone b why judged
  unfolding judge_answer judge_tapes
  judged_third most why defs c h l p q u =
      judged_alone why
      (answer_long b _ h
      ∙ ap (λ (o : Outcome Tree). answer tape b o)
      (next defs (read registry_root x) _ p
      ∙ (next c (read condition_root y) _ q ∙ unread _ (subst (λ (n : ℕ). Unread (read (named_root n) z) why) (sym (one_limit l)) u))))

  module _ (defs : List MacroDef) (c theirs : Condition) (long : LongBuffers b) (t : ThreeRead file x y z defs c theirs) where
    judged_read : judged ≡ answer tape b (judge limit file defs c theirs)
    unfolding judge_answer judge_tapes
    judged_read =
        answer_long b _ long
        ∙ ap (λ (o : Outcome Tree). answer tape b o)
        (next defs (read registry_root x) _ t.its_registry
        ∙ (next c (read condition_root y) _ t.its_condition
        ∙ next theirs (read (named_root (longest_name file)) z) _
        (subst (λ (n : ℕ). read (named_root n) z ≡ Reading.accepted theirs) (sym (one_limit t.name_limit)) t.its_supplied)))

    judged_refused : (r : Refusal) (n : ℕ) → expand limit file defs c ≡ Outcome.refused r n → Refuses b r.number r.span r.message n judged
    unfolding judge proceed
    judged_refused r n e = subst (λ (a : Answer). Refuses b r.number r.span r.message n a) (sym (judged_read ∙ rw e refl))
        (refuses tape b r n)

    same : Tree → Bool
    same ours = same_but_names (protected_names defs c) [] (flat_tree ours) (flat_condition theirs)

    -- the walk over the two trees decides it
    decides : (ours : Tree) (n : ℕ) → expand limit file defs c ≡ Outcome.done ours n
        → (same ours ≡ true → SameButNames file defs c ours theirs) × (SameButNames file defs c ours theirs → same ours ≡ true)
    unfolding protected_names flat_tree same
    decides ours n e =
        let d = walk_decides (protected_names defs c) (Generated file defs c) ours (Tree.condition theirs)
        (names_generated limit file defs c ours n e) in
        (d.0, d.1)

    judged_done : (ours : Tree) (n : ℕ) → expand limit file defs c ≡ Outcome.done ours n
        → judged ≡ answer tape b (require_equal (same ours) ours n)
    unfolding judge proceed same
    judged_done ours n e = judged_read ∙ rw e refl

    judged_yes : (ours : Tree) (n : ℕ) → expand limit file defs c ≡ Outcome.done ours n → SameButNames file defs c ours theirs
        → Gives b (encode (flat_tree ours)) n judged
    unfolding require_equal
    judged_yes ours n e s =
        subst (λ (a : Answer). Gives b (encode (flat_tree ours)) n a)
        (sym (judged_done ours n e ∙ rw ((decides ours n e).1 s, require_equal) refl)) (gives tape b ours n)

    judged_no : (ours : Tree) (n : ℕ) → expand limit file defs c ≡ Outcome.done ours n → (SameButNames file defs c ours theirs → ⊥)
        → Refuses b 50 0 [] n judged
    unfolding require_equal
    judged_no ours n e s =
        subst (λ (a : Answer). Refuses b 50 0 [] n a) (sym (judged_done ours n e ∙ rw (go (same ours) refl, require_equal) refl))
        (refuses tape b (refusal 50 0 []) n)
      where
        go : (v : Bool) → same ours ≡ v → same ours ≡ false
        go true k = absurd (s ((decides ours n e).0 k))
        go false k = k

pub judges : Judges judge_answer
judges =
    record {
      short = λ b limit file x y z h. judged_short b limit file x y z h;
      registry_unread = λ b limit file x y z why h u. judged_first b limit file x y z why h u;
      input_unread = λ b limit file x y z why defs h p u. judged_second b limit file x y z why defs h p u;
      supplied_unread = λ b limit file most x y z why defs c h l p q u. judged_third b limit file x y z most why defs c h l p q u;
      refused = λ b limit file x y z defs c theirs r n h t e. judged_refused b limit file x y z defs c theirs h t r n e;
      yes = λ b limit file x y z defs c theirs ours n h t e s. judged_yes b limit file x y z defs c theirs h t ours n e s;
      no = λ b limit file x y z defs c theirs ours n h t e s. judged_no b limit file x y z defs c theirs h t ours n e s;
    }

pub judge_determined : (g : Buffers → (limit file : ℕ) → (registry input supplied : List ℕ) → Answer) → Judges g
    → (b : Buffers) (limit file : ℕ) (registry input supplied : List ℕ)
    → g b limit file registry input supplied ≡ judge_answer b limit file registry input supplied
judge_determined g h b limit file x y z = go (short_or_long b)
  where
    walked : (defs : List MacroDef) (c theirs : Condition) → LongBuffers b → ThreeRead file x y z defs c theirs
        → g b limit file x y z ≡ judge_answer b limit file x y z
    walked defs c theirs long t = of_walk (expand limit file defs c) refl
      where
        of_test : (ours : Tree) (n : ℕ) → expand limit file defs c ≡ Outcome.done ours n
            → (v : Bool) → same b limit file x y z defs c theirs long t ours ≡ v → g b limit file x y z ≡ judge_answer b limit file x y z
        of_test ours n e true k =
            let s = (decides b limit file x y z defs c theirs long t ours n e).0 k in
            gives_one (h.yes b limit file x y z defs c theirs ours n long t e s)
            (judges.yes b limit file x y z defs c theirs ours n long t e s)
        of_test ours n e false k =
            let s : SameButNames file defs c ours theirs → ⊥ =
            λ a. false≢true (sym k ∙ (decides b limit file x y z defs c theirs long t ours n e).1 a) in
            refuses_one (h.no b limit file x y z defs c theirs ours n long t e s)
            (judges.no b limit file x y z defs c theirs ours n long t e s)

        of_walk : (o : Outcome Tree) → expand limit file defs c ≡ o → g b limit file x y z ≡ judge_answer b limit file x y z
        of_walk (Outcome.refused r n) e =
            refuses_one (h.refused b limit file x y z defs c theirs r n long t e)
            (judges.refused b limit file x y z defs c theirs r n long t e)
        of_walk (Outcome.done ours n) e = of_test ours n e (same b limit file x y z defs c theirs long t ours) refl

    third : LongBuffers b → (defs : List MacroDef) (c : Condition) → read registry_root x ≡ Reading.accepted defs
        → read condition_root y ≡ Reading.accepted c → Seen (read (named_root (longest_name file)) z)
        → g b limit file x y z ≡ judge_answer b limit file x y z
    third long defs c p q (no_tape why u) =
        refuses_one (h.supplied_unread b limit file (longest_name file) x y z why defs c long (limit_of file) p q u)
        (judges.supplied_unread b limit file (longest_name file) x y z why defs c long (limit_of file) p q u)
    third long defs c p q (seen theirs s) =
        walked defs c theirs long
        (record { most = longest_name file; name_limit = limit_of file; its_registry = p; its_condition = q; its_supplied = s })

    second : LongBuffers b → (defs : List MacroDef) → read registry_root x ≡ Reading.accepted defs → Seen (read condition_root y)
        → g b limit file x y z ≡ judge_answer b limit file x y z
    second long defs p (no_tape why u) =
        refuses_one (h.input_unread b limit file x y z why defs long p u) (judges.input_unread b limit file x y z why defs long p u)
    second long defs p (seen c q) = third long defs c p q (see (read (named_root (longest_name file)) z))

    first : LongBuffers b → Seen (read registry_root x) → g b limit file x y z ≡ judge_answer b limit file x y z
    first long (no_tape why u) =
        refuses_one (h.registry_unread b limit file x y z why long u) (judges.registry_unread b limit file x y z why long u)
    first long (seen defs p) = second long defs p (see (read condition_root y))

    go : ShortBuffers b ⊎ LongBuffers b → g b limit file x y z ≡ judge_answer b limit file x y z
    go (inl s) = refuses_one (h.short b limit file x y z s) (judges.short b limit file x y z s)
    go (inr long) = first long (see (read registry_root x))
