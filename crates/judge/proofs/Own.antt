-- The result of an expansion is kept by its tape: its values have 64 bits, and it is not too large. From what the definition promises of
-- our own result (`own_result`): its tape is accepted as the supplier's, and what is read there is our result but for names. Its sizes are
-- those that a preview gives. And a refusal's number is not 0.
-- Assumes nothing.
use Prim.Native.Nat.{ℕ, zero, suc, ◌+◌, ◌-◌, ◌^◌, ◌≤◌, ◌<◌}
use native.Mathlib.Omega.{arith}
use mathlib.Core.Path.{◌≡◌, refl, sym, ap, ap₂, subst, ◌∙◌}
use mathlib.Core.List.{List, [], ◌∷◌, ◌++◌}
use mathlib.Core.Bool.{Bool, true, false, ◌&&◌}
use lib.Dec.{T, leb}
use lib.ListN.{length, length-append, take, drop, replicate}
use Rattle.format.specs.Entry.{Text, Entry, text_entry, le, text_of, encode}
use Rattle.format.specs.Ast.{Condition, MacroDef, Tree}
use Rattle.format.specs.Flat.{flat_condition, flat_tree}
use Rattle.format.specs.Names.{is_name, rename, rename_entry}
use Rattle.format.specs.Tape.{Reading, condition_root, named_root, registry_root, from_le, read, Bytes}
use Rattle.format.proofs.Accepted.{Values64, accepted_on_tape}
use Rattle.format.proofs.All.{All, all_nil, all_cons, all_head, all_tail, all_map, all_both}
use Rattle.format.proofs.Encodes.{well_tree, fitting, from_le_le}
use Rattle.format.proofs.Exact.{lawful_named}
use Rattle.format.proofs.Rewritten.{rewrites_named, read_from, read_on_tape}
use borrow.Author.Tests.{le-leb}
use Rattle.definition.specs.Outcome.{Refusal, Outcome, proceed, number_of}
use Rattle.definition.specs.Answers.{Answer, Buffers, padded, answer, reading, long_buffers, tree_answer, expand_tapes, expand_answer}
use Rattle.definition.specs.Expand.{expand}
use Rattle.definition.specs.Judge.{judge, longest_name, judge_answer, Equal, OnTapes}
use Rattle.definition.specs.Preview.{Preview, entries_in, text_in, preview, preview_answer, sizes_only}
use Rattle.definition.proofs.Agree.{names_texted}
use Rattle.definition.proofs.Judge.{judge_exact, judge_on_tapes, same_tree}
use Rattle.definition.proofs.OwnResult.{own_result}
use Rattle.definition.proofs.Preview.{previews}
use Rattle.answer.proofs.Operations.{long_enough}
use Rattle.judge_names.proofs.Compared.{Kept}

-- ------------------------------------------------------------------ the longest name

pub longest_above : (file : ℕ) → (file ≡ 0 → ⊥) → longest_name file ≡ 81
unfolding longest_name
longest_above zero h = absurd (h refl)
longest_above (suc f) h = refl

-- ------------------------------------------------------------------ a refusal

pub refused_number : (limit file : ℕ) (defs : List MacroDef) (c : Condition) (r : Refusal) (n : ℕ) → expand limit file defs c ≡ Outcome.refused r n
    → r.number ≡ 0 → ⊥
unfolding judge proceed number_of
refused_number limit file defs c r n e z =
    let number : number_of (judge limit file defs c c) ≡ 0 = rw e z in
    let other : Outcome.refused r n ≡ Outcome.done _ _ = sym e ∙ ((judge_exact limit file defs c c).yes_exactly.0 number).succeeds in
    let no : ◌≡◌ {A = ℕ} 0 1 = cc in
    omega arith

-- ------------------------------------------------------------------ values

-- a name's value is its length; every other entry is also the renamed one
values_renamed : (f : Text → Text) (es : List Entry) → Values64 (rename f es) → All (λ (e : Entry). T (is_name e.code) → e.value < 256 ^ 8) es → Values64 es
unfolding rename rename_entry
values_renamed f [] h k = all_nil
values_renamed f (e ∷ es) h k =
    all_cons (go (is_name e.code) (all_head h) (all_head k)) (values_renamed f es (all_tail h) (all_tail k))
  where
    either : Bool → Entry
    either x = elim x [ true ↦ text_entry e.code (f e.text) | false ↦ e ]

    go : (x : Bool) → (either x).value < 256 ^ 8 → (T x → e.value < 256 ^ 8) → e.value < 256 ^ 8
    go true v g = g tt
    go false v g = v

-- no text is longer than all together
texts_within_lem : (es : List Entry) → All (λ (e : Entry). length e.text ≤ length (text_of es)) es
unfolding text_of
texts_within_lem [] = all_nil
texts_within_lem (e ∷ es) =
    let all : length (e.text ++ text_of es) ≡ length e.text + length (text_of es) = length-append e.text (text_of es) in
    let own : length e.text ≤ length (e.text ++ text_of es) = omega arith in
    all_cons own (all_map (λ f h. further f h) (texts_within_lem es))
  where
    further : (f : Entry) → length f.text ≤ length (text_of es) → length f.text ≤ length (e.text ++ text_of es)
    further f h = omega (arith, length-append e.text (text_of es))

-- ------------------------------------------------------------------ sizes

front_bytes : (xs ys : List ℕ) → Bytes (xs ++ ys) → Bytes xs
front_bytes [] ys h = tt
front_bytes (x ∷ xs) ys h = (h.0, front_bytes xs ys h.1)

-- the sizes that a tape in a buffer begins with
tape_sizes : (n : ℕ) (es : List Entry) → length es ≤ 1024 → length (text_of es) ≤ 3072
    → (from_le (take 4 (padded n (encode es))) ≡ length es) × (from_le (take 4 (drop 4 (padded n (encode es)))) ≡ length (text_of es))
unfolding padded encode le
tape_sizes n es few short =
    let a : length es < 256 ^ 4 = omega (arith, few) in
    let b : length (text_of es) < 256 ^ 4 = omega (arith, short) in
    (from_le_le 4 (length es) a, from_le_le 4 (length (text_of es)) b)

accepted_same : {A : Type 0} {a c : A} → Reading.accepted a ≡ Reading.accepted c → a ≡ c
accepted_same e = cc

-- ------------------------------------------------------------------ our own result

module _ (b : Buffers) (limit file : ℕ) (below : limit < 2 ^ 32) (few : file < 65536) (registry input : List ℕ) (p : Bytes registry) (q : Bytes input)
    (long : long_buffers b ≡ true) (defs : List MacroDef) (c : Condition) (its_registry : read registry_root registry ≡ Reading.accepted defs)
    (its_condition : read condition_root input ≡ Reading.accepted c) (t : Tree) (n : ℕ) (e : expand limit file defs c ≡ Outcome.done t n) where
  abbrev X : Answer
  X = expand_answer b limit file registry input

  tapes_are : expand_tapes limit file registry input ≡ Outcome.done t n
  unfolding expand_tapes reading
  tapes_are = rw (its_registry, its_condition) e

  number_is : X.number ≡ 0
  unfolding expand_answer tree_answer answer
  number_is = rw (long, tapes_are) refl

  -- what a preview gives
  sizes_are : (from_le (take 4 X.result) ≡ length (flat_tree t)) × (from_le (take 4 (drop 4 X.result)) ≡ length (text_of (flat_tree t)))
  unfolding preview_answer preview entries_in text_in sizes_only long_buffers
  sizes_are =
      let whole = long_enough b long in
      let same = previews b.result_length b.work_length b.message_length limit file registry input whole.result in
      let wide : (leb 65536 b.work_length && leb 2048 b.message_length) ≡ true = rw (le-leb 65536 b.work_length whole.work, le-leb 2048 b.message_length whole.message) refl in (
        sym (ap (λ (v : Preview). v.entries) same) ∙ rw (wide, tapes_are) refl,
        sym (ap (λ (v : Preview). v.text_bytes) same) ∙ rw (wide, tapes_are) refl,
      )

  module _ (bytes : Bytes X.result) where
    abbrev Own : Type 0
    Own = (tape : List ℕ) × (X.result ≡ padded b.result_length tape) × (judge_answer b limit file registry input tape ≡ X)

    kept_own : Own → Kept (flat_tree t)
    unfolding padded named_root
    kept_own own =
        let tape : List ℕ = own.0 in
        let most : ℕ = longest_name file in
        let tape_bytes : Bytes tape = front_bytes tape (replicate (b.result_length - length tape) 0) (subst Bytes own.1 bytes) in
        let yes : OnTapes b file registry input tape (Equal limit file) =
        (judge_on_tapes b limit file registry input tape).yes_exactly.0 (ap (λ (a : Answer). a.number) own.2 ∙ number_is) in
        let read_as = yes.tapes.its_supplied in
        let from = read_from (named_root most) (rewrites_named most) tape yes.tapes.theirs read_as in
        let given = accepted_on_tape (named_root most) (lawful_named most).spells tape tape_bytes from.given from.was_given in
        let fit = fitting (length (flat_condition from.given)) (length (text_of (flat_condition from.given))) given.range.sizes in
        let result_is : X.result ≡ padded b.result_length (encode (flat_condition from.given)) = own.1 ∙ ap (padded b.result_length) (sym given.encoded) in
        let sizes = tape_sizes b.result_length (flat_condition from.given) fit.0 fit.1 in
        let entries : length (flat_tree t) ≡ length (flat_condition from.given) = sym sizes_are.0 ∙ ap (λ (s : List ℕ). from_le (take 4 s)) result_is ∙ sizes.0 in
        let texts : length (text_of (flat_tree t)) ≡ length (text_of (flat_condition from.given)) =
        sym sizes_are.1 ∙ ap (λ (s : List ℕ). from_le (take 4 (drop 4 s))) result_is ∙ sizes.1 in
        let again = read_on_tape (named_root most) (rewrites_named most) (lawful_named most) tape tape_bytes yes.tapes.theirs read_as in
        let defs_same : yes.tapes.defs ≡ defs = accepted_same (sym yes.tapes.its_registry ∙ its_registry) in
        let rule_same : yes.tapes.condition ≡ c = accepted_same (sym yes.tapes.its_condition ∙ its_condition) in
        let ours_same : yes.holds.ours ≡ t =
        same_tree (sym yes.holds.succeeds ∙ ap₂ (expand limit file) defs_same rule_same ∙ e) in
        let renaming : Text → Text = yes.holds.agree.renaming in
        let takes : rename renaming (flat_tree t) ≡ flat_condition yes.tapes.theirs =
        ap (λ (u : Tree). rename renaming (flat_tree u)) (sym ours_same) ∙ yes.holds.agree.takes in
        let short : length (text_of (flat_tree t)) ≤ 3072 = omega (arith, texts, fit.1) in
        let names : All (λ (f : Entry). T (is_name f.code) → f.value < 256 ^ 8) (flat_tree t) =
        all_map (λ f h m. omega (arith, h.0 m, h.1, short)) (all_both (names_texted (well_tree t)) (texts_within_lem (flat_tree t))) in
        record {
          values = values_renamed renaming (flat_tree t) (rw takes again.range.values) names;
          texted = well_tree t;
          few = omega (arith, entries, fit.0);
          short = short;
        }

    pub kept : Kept (flat_tree t)
    kept = kept_own (own_result b limit file below few registry input p q number_is)
