-- Our own result is judged equal. On trees no name is renamed; on tapes the result is read again, since its texts are well-formed,
-- its names have at most 75 bytes, or 81, its values are an input's or counts of few entries, and it holds no Or.
-- Assumes nothing.
use Prim.Native.Nat.{ℕ, zero, suc, ◌^◌, ◌≤◌, ◌<◌}
use native.Mathlib.Omega.{arith}
use mathlib.Core.Path.{◌≡◌, refl, sym, ◌∙◌, ap, ap₂, subst}
use mathlib.Core.Logic.{◌⊎◌, inl, inr}
use mathlib.Core.List.{List, [], ◌∷◌}
use mathlib.Core.Bool.{Bool, true, false, ◌&&◌, ◌||◌}
use mathlib.Core.Option.{none, some}
use lib.Dec.{T, leb, eqb, le→leb, leb→le, eqb→eq}
use lib.ListN.{length}
use Rattle.format.specs.Entry.{Text, Entry, text_entry, encode, text_of}
use Rattle.format.specs.Ast.{Condition, Tree, MacroDef}
use Rattle.format.specs.Flat.{flat_condition, flat_tree, flat_def}
use Rattle.format.specs.Macro.{is_code}
use Rattle.format.specs.Names.{is_name, rename, rename_entry}
use Rattle.format.specs.Utf8.{open_utf8}
use Rattle.format.specs.Limits.{node_weight, call_weight, deep_condition, deep_tree, fits_sizes, fits_depths, fits_all, too_large_tree}
use Rattle.format.specs.Tape.{Reading, longest_text, longest_named, texts_within, short_texts, small, condition_root, named_root, registry_root, read}
use Rattle.format.proofs.All.{All, all_nil, all_cons, all_head, all_tail, all_both, all_map}
use Rattle.format.proofs.Tests.{and_left, and_right, and_both, not_refused}
use Rattle.format.proofs.Utf8.{Whole, whole_all}
use Rattle.format.proofs.Accepted.{Values64}
use Rattle.format.proofs.Becomes.{NoOr}
use Rattle.format.proofs.Behind.{IsCount, counts_condition}
use Rattle.format.proofs.Encodes.{well_condition, fitting}
use Rattle.format.proofs.Exact.{lawful_condition, lawful_named}
use Rattle.format.proofs.Rewritten.{rewrites_condition, rewrites_named, read_no_or, read_on_tape, on_tape_read}
use Rattle.format.proofs.Registries.{Fair, fair_entries, fair_read}
use Rattle.definition.specs.Outcome.{Outcome, number_of, span_start, ◌>>=◌, ◌>>◌}
use Rattle.definition.specs.Substitute.{generated}
use Rattle.definition.specs.Check.{Verdict}
use Rattle.definition.specs.Registry.{build}
use Rattle.definition.specs.Expand.{unless, expand_whole, expand}
use Rattle.definition.specs.Answers.{Buffers, padded, answer, number_alone, reading, long_buffers, tree_answer, expand_tapes, expand_answer}
use Rattle.definition.specs.Judge.{longest_name, judge_answer, OwnTree, OwnResult}
use Rattle.definition.proofs.Good.{Good, good_done, good_refused, of_done, step}
use Rattle.definition.proofs.Verdicts.{Any}
use Rattle.definition.proofs.Names.{generated_short}
use Rattle.definition.proofs.WholeMessages.{Well, well_generated}
use Rattle.definition.proofs.Rules.{Closed, Unasked, Bears}
use Rattle.definition.proofs.Borne.{expand_bears, all_unasked, Small, expand_small}
use Rattle.definition.proofs.Agree.{NamesTexted, names_texted}
use Rattle.definition.proofs.Judge.{number_answer, reading_number, table_from_lem, judge_exact, judge_on_tapes, yes_is_ours}

-- ------------------------------------------------------------------ on trees

rename_none : (es : List Entry) → NamesTexted es → rename (λ (a : Text). a) es ≡ es
unfolding rename rename_entry
rename_none [] h = refl
rename_none (e ∷ es) h = ap₂ ◌∷◌ (go (is_name e.code) (all_head h)) (rename_none es (all_tail h))
  where
    go : (x : Bool) → (T x → e.value ≡ length e.text)
        → ◌≡◌ {A = Entry} (elim x [ true ↦ text_entry e.code e.text | false ↦ e ]) e
    go true v = λ i. record { code = e.code; value = sym (v tt) i; text = e.text }
    go false v = refl

pub own_tree : OwnTree
unfolding flat_tree
own_tree limit file defs input ours charged e =
    (judge_exact limit file defs input ours).yes_exactly.1
    (record {
      ours = Tree.condition ours;
      charged = charged;
      succeeds = e;
      agree =
          record {
            renaming = λ a. a;
            one_to_one = λ a b m n d. d;
            only_generated = λ a n. absurd (n refl);
            protected_equal = λ a m. refl;
            no_other_to_it = λ a m. m;
            takes = rename_none (flat_condition ours) (names_texted (well_condition ours));
          };
    })

-- ------------------------------------------------------------------ the entries of a result

record Again (most : ℕ) (e : Entry) : Type 0 where
  whole : Whole e
  short : length e.text ≤ longest_named most e.code
  small : IsCount e ⊎ (e.value < 256 ^ 8)
  no_or : NoOr e

-- a name is no number and no string
name_short : (c : ℕ) → T (is_name c) → is_code (22 ∷ 23 ∷ 72 ∷ 74 ∷ []) c ≡ false
unfolding is_name is_code
name_short c t = go (eqb c 27) (eqb c 43) t (eqb→eq c 27) (eqb→eq c 43)
  where
    go : (x y : Bool) → T (x || (y || false)) → (T x → c ≡ 27) → (T y → c ≡ 43) → is_code (22 ∷ 23 ∷ 72 ∷ 74 ∷ []) c ≡ false
    go true y u f g = rw (f tt) refl
    go false true u f g = rw (g tt) refl
    go false false u f g = absurd u

again_short : (most : ℕ) → 64 ≤ most → (e : Entry) → length e.text ≤ longest_text e.code → length e.text ≤ longest_named most e.code
unfolding longest_named longest_text
again_short most m e h = go (is_name e.code) (name_short e.code)
  where
    go : (x : Bool) → (T x → is_code (22 ∷ 23 ∷ 72 ∷ 74 ∷ []) e.code ≡ false)
        → length e.text ≤ elim x [ true ↦ most | false ↦ longest_text e.code ]
    go true f = let k : length e.text ≤ 64 = rw (f tt, longest_text) at h in omega arith
    go false f = h

again : (most : ℕ) → 64 ≤ most → (e : Entry) → Fair e → Again most e
again most m e g =
    record {
      whole = g.text;
      short = again_short most m e (leb→le (length e.text) (longest_text e.code) g.short);
      small = inr g.value;
      no_or = g.no_or;
    }

longest_from : (file : ℕ) → 64 ≤ longest_name file
unfolding longest_name
longest_from zero = omega arith
longest_from (suc f) = omega arith

longest_to : (file : ℕ) → longest_name file ≤ 81
unfolding longest_name
longest_to zero = omega arith
longest_to (suc f) = omega arith

-- a generated name has at most 75 bytes, or 81
name_fits : (t : Text) → length t ≤ 64 → (span file : ℕ) → file < 65536 → length (generated t (span_start span) file) ≤ longest_name file
unfolding longest_name span_start
name_fits t h span zero q = (generated_short t (span_start span) h (omega arith)).in_file_0
name_fits t h span (suc f) q = (generated_short t (span_start span) h (omega arith)).in_any_file (suc f) q

module _ (file : ℕ) (few : file < 65536) where
  abbrev Ours : Entry → Type 0
  Ours e = Again (longest_name file) e

  made : (t : Text) → Well t → length t ≤ 64 → (span : ℕ)
      → Well (generated t (span_start span) file) × (length (generated t (span_start span) file) ≤ longest_name file) × (length (generated t (span_start span) file) < 256 ^ 8)
  made t w h span =
      let short = name_fits t h span file few in
      (well_generated t w (span_start span) file, short, omega (arith, short, longest_to file))

  closed : Closed Any Unasked Unasked Ours file
  unfolding longest_named longest_text is_name is_code open_utf8
  closed =
      record {
        made_term = λ t k m b span i.
            let n = made t m.whole m.short span in
            record { whole = n.0; short = n.1; small = inr n.2; no_or = refl };
        made_slot = λ t k m b span i.
            let n = made t m.whole m.short span in
            record { whole = n.0; short = n.1; small = inr n.2; no_or = refl };
        named_slot = λ t m.
            record { whole = m.whole; short = m.short; small = inr (omega (arith, m.short, longest_to file)); no_or = refl };
        call_term = λ m. record { whole = tt; short = m.short; small = inr (omega arith); no_or = refl };
        listed = λ k l m. record { whole = tt; short = m.short; small = inl tt; no_or = refl };
        arrayed = λ k l m. record { whole = tt; short = m.short; small = inl tt; no_or = refl };
      }

-- ------------------------------------------------------------------ the result's tape is read

short_again : (most : ℕ) {es : List Entry} → All (Again most) es → T (texts_within (longest_named most) es)
unfolding texts_within
short_again most all_nil = tt
short_again most (all_cons {a = e} {l = es} h k) =
    and_both (leb (length e.text) (longest_named most e.code)) (texts_within (longest_named most) es)
    (le→leb (length e.text) (longest_named most e.code) h.short) (short_again most k)

module _ (most : ℕ) (c : Condition) (fits : too_large_tree (Tree.condition c) ≡ false) (h : All (Again most) (flat_condition c)) where
  abbrev sizes_fit : Bool
  sizes_fit = fits_sizes (length (flat_condition c)) (length (text_of (flat_condition c)))

  abbrev depths_fit_lem : Bool
  depths_fit_lem = fits_depths (deep_condition node_weight c) (deep_condition call_weight c)

  fit : T (sizes_fit && depths_fit_lem)
  unfolding too_large_tree fits_all flat_tree deep_tree
  fit = not_refused (sizes_fit && depths_fit_lem) fits

  values : Values64 (flat_condition c)
  values = all_map (λ e p. small e p.0.small p.1) (all_both h (counts_condition c))
    where
      few : length (flat_condition c) ≤ 1024
      few = (fitting (length (flat_condition c)) (length (text_of (flat_condition c))) (and_left sizes_fit depths_fit_lem fit)).0

      small : (e : Entry) → IsCount e ⊎ (e.value < 256 ^ 8) → (IsCount e → e.value ≤ length (flat_condition c)) → e.value < 256 ^ 8
      small e (inl i) k = omega (arith, k i, few)
      small e (inr v) k = v

  read_own : read (named_root most) (encode (flat_condition c)) ≡ Reading.accepted c
  unfolding named_root small
  read_own =
      on_tape_read (named_root most) (rewrites_named most) (lawful_named most)
      (record {
        encoded = refl;
        range =
            record {
              values = values;
              sizes = and_left sizes_fit depths_fit_lem fit;
              texts = whole_all (all_map (λ e p. p.whole) h);
            };
        small =
            and_both (texts_within (longest_named most) (flat_condition c)) _ (short_again most h)
            (and_both depths_fit_lem true (and_right sizes_fit depths_fit_lem fit) tt);
      })
      (all_map (λ e p. p.no_or) h)

-- ------------------------------------------------------------------ on tapes

-- an expansion's tree is a condition
any_outcome : {A : Type 0} (o : Outcome A) → Good (λ r n. Unit {0}) (λ a n. Unit {0}) o
any_outcome (Outcome.done a n) = good_done tt
any_outcome (Outcome.refused r n) = good_refused tt

is_condition_lem : (limit file : ℕ) (defs : List MacroDef) (c : Condition)
    → Good (λ r n. Unit {0}) (λ (t : Tree) n. (d : Condition) × (t ≡ Tree.condition d)) (expand limit file defs c)
unfolding expand expand_whole unless ◌>>=◌ ◌>>◌
is_condition_lem limit file defs c = go (build defs)
  where
    go : (v : Verdict) → Good (λ r n. Unit {0}) (λ (t : Tree) n. (d : Condition) × (t ≡ Tree.condition d))
        (unless v (expand_whole (record { defs = defs; limit = limit; file = file }) c) 0)
    go none = step (any_outcome _) λ d n u. step (any_outcome _) λ w m v. good_done (d, refl)
    go (some r) = good_refused tt

-- what an answer of 0 stands on
pub record Expanded (b : Buffers) (limit file : ℕ) (registry input : List ℕ) : Type 0 where
  pub long_enough : long_buffers b ≡ true
  pub defs : List MacroDef
  pub condition : Condition
  pub its_registry : read registry_root registry ≡ Reading.accepted defs
  pub its_condition : read condition_root input ≡ Reading.accepted condition
  pub ours : Condition
  pub charged : ℕ
  pub succeeds : expand limit file defs condition ≡ Outcome.done (Tree.condition ours) charged

pub expanded : (b : Buffers) (limit file : ℕ) (registry input : List ℕ) → (expand_answer b limit file registry input).number ≡ 0 → Expanded b limit file registry input
unfolding expand_answer tree_answer expand_tapes number_alone number_of
expanded b limit file registry input = go (long_buffers b) refl
  where
    tape : Tree → List ℕ
    tape t = encode (flat_tree t)

    made : long_buffers b ≡ true → (ds : List MacroDef) → read registry_root registry ≡ Reading.accepted ds
        → (c : Condition) → read condition_root input ≡ Reading.accepted c → (o : Outcome Tree) → expand limit file ds c ≡ o
        → Small o → Good (λ r n. Unit {0}) (λ (t : Tree) n. (d : Condition) × (t ≡ Tree.condition d)) o
        → number_of o ≡ 0 → Expanded b limit file registry input
    made long ds r c s (Outcome.done t n) e g (good_done k) z =
        record {
          long_enough = long;
          defs = ds;
          condition = c;
          its_registry = r;
          its_condition = s;
          ours = k.0;
          charged = n;
          succeeds = e ∙ ap (λ (u : Tree). Outcome.done u n) k.1;
        }
    made long ds r c s (Outcome.refused q n) e (good_refused h) k z = absurd (omega (arith, z, table_from_lem q h))

    read_all : long_buffers b ≡ true → number_of (expand_tapes limit file registry input) ≡ 0 → Expanded b limit file registry input
    read_all long e =
        let d = reading_number 0 (λ z. omega arith) (λ z. omega arith) (read registry_root registry) _ e in
        let c = reading_number 0 (λ z. omega arith) (λ z. omega arith) (read condition_root input) _ d.2 in
        made long d.0 d.1 c.0 c.1 (expand limit file d.0 c.0) refl (expand_small limit file d.0 c.0) (is_condition_lem limit file d.0 c.0) c.2

    go : (x : Bool) → long_buffers b ≡ x
        → (answer tape b (elim x [ true ↦ expand_tapes limit file registry input | false ↦ number_alone 1 ])).number ≡ 0 → Expanded b limit file registry input
    go true long e = read_all long (sym (number_answer tape b (expand_tapes limit file registry input)) ∙ e)
    go false long e = absurd (omega (arith, e, number_answer tape b (number_alone 1)))

pub own_result : OwnResult
unfolding expand_answer tree_answer expand_tapes reading answer flat_tree condition_root small
own_result b limit file below few registry input p q e =
    go (expanded b limit file registry input e)
  where
    go : Expanded b limit file registry input
        → (tape : List ℕ)
        × ((expand_answer b limit file registry input).result ≡ padded b.result_length tape)
        × (judge_answer b limit file registry input tape ≡ expand_answer b limit file registry input)
    go x =
        let most : ℕ = longest_name file in
        let old : (f : Entry) → Fair f → Again most f = again most (longest_from file) in
        let ds : All (λ (d : MacroDef). All (Again most) (flat_def d) × All Unasked (flat_def d)) x.defs =
        all_map (λ d f. (all_map old f.entries, all_unasked (flat_def d))) (fair_read registry p x.defs x.its_registry) in
        let on = read_on_tape condition_root rewrites_condition lawful_condition input q x.condition x.its_condition in
        let c : All (Again most) (flat_condition x.condition) =
        all_map old
        (fair_entries on.range (and_left (short_texts (flat_condition x.condition)) _ on.small)
        (read_no_or condition_root rewrites_condition input x.condition x.its_condition)) in
        let fits = of_done (subst (λ (o : Outcome Tree). Small o) x.succeeds (expand_small limit file x.defs x.condition)) in
        let held =
        of_done (subst (λ (o : Outcome Tree). Bears (Again most) flat_tree o) x.succeeds
        (expand_bears limit file (closed file few) x.defs ds x.condition c (all_unasked _))) in
        let tape : List ℕ = encode (flat_condition x.ours) in (
          tape,
          rw (x.long_enough, x.its_registry, x.its_condition, x.succeeds) refl,
          yes_is_ours b limit file registry input tape
              ((judge_on_tapes b limit file registry input tape).yes_exactly.1
              (record {
                long_enough = x.long_enough;
                tapes =
                    record {
                      defs = x.defs;
                      condition = x.condition;
                      theirs = x.ours;
                      its_registry = x.its_registry;
                      its_condition = x.its_condition;
                      its_supplied = read_own most x.ours fits held;
                    };
                holds =
                    (judge_exact limit file x.defs x.condition x.ours).yes_exactly.0
                    (own_tree limit file x.defs x.condition x.ours x.charged x.succeeds);
              })),
        )
