-- Acceptance, by any table that is well made: what the scan of a slice answers is what format's `accept` gives, for every list of bytes.
-- Assumes nothing.
use Rattle.tape.specs.declared.header.Fault.TheVariants.{Malformed, TooLarge}
use Rattle.tape.specs.declared.header.Fault.{Fault}
use Rattle.std.proofs.Common.{Option, Some, None, Result, Ok, Err}
use Prim.Native.Nat.{ℕ, ◌+◌, ◌*◌, ◌≤◌, ◌<◌}
use mathlib.Core.Path.{◌≡◌, refl, ap, sym, ◌∙◌}
use mathlib.Core.Bool.{Bool, true, false, not, ◌&&◌}
use mathlib.Core.List.{List, [], ◌∷◌, ◌++◌, append-nil}
use mathlib.Core.Option.{Option as Maybe, none, some}
use native.Mathlib.Nat.{add-zero, zero-add, sub-zero}
use native.Mathlib.Omega.{arith}
use borrow.Author.Tests.{eq-eqb, eqb-true, eqb-false, not-true}
use lib.Dec.{T, leb, eqb, leb→le, le→leb, eqb→eq}
use lib.ListN.{length, take, drop, length-drop, length-append}
use lib.Seq.{drop-drop}
use Rattle.format.specs.Entry.{Text, Entry, text_of}
use Rattle.format.specs.Limits.{node_weight, call_weight, fits_sizes, fits_depths}
use Rattle.format.specs.Macro.{tally}
use Rattle.format.specs.Rewritten.{weighted}
use Rattle.format.specs.Build.{Stack, build}
use Rattle.format.specs.Tape.{Reading, split, read_texts, read_sections, read_sizes, read_tape, Root, small, read_limits, read_root, read_stack, read_tree, accept, Bytes}
use Rattle.format.specs.Utf8.{well_formed, well_texts}
use Rattle.format.proofs.Accepted.{Values64}
use Rattle.format.proofs.All.{all_map}
use Rattle.format.proofs.Builds.{Rooted}
use Rattle.format.proofs.Encodes.{WellTexted}
use Rattle.format.proofs.Spells.{Spells, s_at_root, build_spells}
use Rattle.format.proofs.Utf8.{all_whole, whole_all}
use Rattle.tape.specs.Accept.{figured, judged, accept_in, after_open, accept_by}
use Rattle.tape.specs.Header.{entries_of, size_of}
use Rattle.tape.specs.Layouts.{holds, tape_layout, entries_at}
use Rattle.tape.specs.Ors.{ors_from, rewritten_count}
use Rattle.tape.specs.Pick.{pick}
use Rattle.grammar.specs.Waits.{wait, is_limited}
use Rattle.grammar.proofs.Marks.{Table}
use Rattle.tape.specs.Scan.{scan_of, starts, scan_at, text_passes}
use Rattle.tape.specs.declared.layout.Layout.{Layout}
use Rattle.tape.specs.declared.layout.Place.{Place}
use Rattle.tape.proofs.Counting.{entries_ors}
use Rattle.tape.proofs.Holding.{holding, starting}
use Rattle.tape.proofs.Found.{Language, found, took_all}
use Rattle.tape.proofs.Passing.{PassesBy, Keeps, TextsPass, short_in, reported}
use Rattle.tape.proofs.Places.{widths_of, widths_texted, entries_texted, split_entries, values_64, eq→eqb}
use Rattle.format.proofs.Tests.{and_left, and_right, and_both, is_true, from_true, same_test}
use Rattle.grammar.specs.Words.{Rules}
use Rattle.tape.proofs.Turns.{length_entries}
use Rattle.tape.proofs.Typed.{temporal_trees}

-- What a root of format has to do with a sort: its trees are those of the sort, and its limits are those of the scan and of the entries
-- that there are once Ors are rewritten.
pub record RootBy {t : Table} (trees : Language t) (longest : ℕ) {A : Type 0} (root : Root A) (sort : ℕ) : Type 0 where
  pub is_sort : sort < 32
  pub is_limited_lem : is_limited longest ≡ true
  pub tree : trees.Tree sort → A
  pub spelled : (x : trees.Tree sort) → root.flat (tree x) ≡ trees.spell sort x
  pub sound : Spells root.flat [] root.reader
  pub rooted : (a : A) → Rooted root a
  pub deep : A → (ℕ → ℕ) → ℕ
  pub listed : A → Bool
  pub passes : (a : A) → PassesBy t (sort ∷ []) (root.flat a) (deep a) (listed a)
  pub short : (a : A) → length (root.flat a) ≤ 1024
      → (short_in t.grammar longest (root.flat a) && leb (length (root.flat a) + 3 * tally 2 (root.flat a)) 1024) ≡ root.texts (root.flat a)
  pub limits : (a : A) → (leb (deep a (t.nodes (is_limited longest))) 64 && (leb (deep a t.calls) 4 && listed a))
      ≡ (fits_depths (root.deep node_weight a) (root.deep call_weight a) && root.few a)

-- by the table of document 01, with the longest text of a name, and with the figures of the rewritten tape
abbrev pub RootNamed : {A : Type 0} → ℕ → Root A → ℕ → Type 0
RootNamed longest root sort = RootBy temporal_trees longest (weighted root) sort

-- where 64 bytes of text are the most
abbrev pub RootOf : {A : Type 0} → Root A → ℕ → Type 0
RootOf root sort = RootNamed 64 root sort

-- ------------------------------------------------------------------ the tree of some entries

-- what is read from entries: 2 where they spell no tree, and else whether it keeps to the limits
data Parsed {A : Type 0} (root : Root A) (es : List Entry) : Reading A → Type 0 where
  no_tree : ((a : A) → root.flat a ≡ es → ⊥) → Parsed root es Reading.malformed
  a_tree : (a : A) → root.flat a ≡ es → Parsed root es (read_limits (small root es a) a)

-- What an accepted slice holds: the tree's entries, their values 64 bits each, its texts well-formed, its sizes and its tree within the
-- limits.
pub record Holds {A : Type 0} (root : Root A) (s : List ℕ) (a : A) : Type 0 where
  pub values_are : Bytes s → Values64 (root.flat a)
  pub entries_count : length (root.flat a) ≡ entries_of s
  pub text_count_lem : length (text_of (root.flat a)) ≡ size_of s
  pub sized : length s ≡ 8 + 9 * entries_of s + size_of s
  pub fitting : T (fits_sizes (entries_of s) (size_of s))
  pub well : T (well_texts (root.flat a))
  pub keeping : T (small root (root.flat a) a)

-- the answer to a reading
pub data Answers {A : Type 0} (root : Root A) (s : List ℕ) : Result Layout Fault → Reading A → Type 0 where
  answers_2 : Answers root s (Err Malformed) Reading.malformed
  answers_3 : Answers root s (Err TooLarge) Reading.too_large
  answers_tape : {a : A} {l : Layout} → Holds root s a → l ≡ tape_layout (length (root.flat a)) (length (text_of (root.flat a)))
      → Answers root s (Ok l) (Reading.accepted a)

-- ------------------------------------------------------------------ limits

module _ (g : Rules) (longest : ℕ) (limited : is_limited longest ≡ true) (es : List Entry) {nodes calls : ℕ} {listed : Bool} where
  to_limits : T (short_in g longest es && (leb nodes 64 && (leb calls 4 && listed))) → Keeps g longest 0 0 nodes calls listed es
  to_limits t =
      let m = and_right (short_in g longest es) _ t in
      let q = and_right (leb nodes 64) _ m in
      record {
        nodes_keep = omega (arith, leb→le nodes 64 (and_left (leb nodes 64) _ m));
        calls_keep = omega (arith, leb→le calls 4 (and_left (leb calls 4) _ q));
        listed_keep = rw limited (and_right (leb calls 4) _ q);
        texts_keep = rw limited (and_left (short_in g longest es) _ t);
      }

  from_limits : Keeps g longest 0 0 nodes calls listed es → T (short_in g longest es && (leb nodes 64 && (leb calls 4 && listed)))
  from_limits k =
      and_both (short_in g longest es) _ (rw limited at k.texts_keep)
      (and_both (leb nodes 64) _ (le→leb nodes 64 (omega (arith, k.nodes_keep)))
      (and_both (leb calls 4) _ (le→leb calls 4 (omega (arith, k.calls_keep))) (rw limited at k.listed_keep)))

-- a scan with figures takes the texts that are well-formed
module _ (longest : ℕ) (limited : is_limited longest ≡ true) where
  passes_well : (t : Text) → text_passes longest t ≡ well_formed t
  passes_well t = rw (not-true (eqb longest 0) limited)

  to_texts : (es : List Entry) → T (well_texts es) → TextsPass longest es
  to_texts es h = all_map (λ e w. rw (passes_well e.text) w) (all_whole es h)

  from_texts : {es : List Entry} → TextsPass longest es → T (well_texts es)
  from_texts h = whole_all (all_map (λ e w. rw (passes_well e.text) at w) h)

-- a scan that did not use up entries and text is a refusal
judged_else : (s : List ℕ) (l : Layout) (x : Option (Place × Bool)) → ((p : Place) (o : Bool) → x ≡ Some (p, o) → p.at ≡ l.entries → p.text ≡ l.size → ⊥)
    → judged s l x ≡ Err Malformed
judged_else s l None not-all = refl
judged_else s l (Some (p, o)) not-all =
    go (eqb p.at l.entries) (eqb p.text l.size) (eqb-true p.at l.entries) (eqb-true p.text l.size)
  where
    go : (a b : Bool) → (a ≡ true → p.at ≡ l.entries) → (b ≡ true → p.text ≡ l.size)
        → pick a (pick b (figured s l o) (Err Malformed)) (Err Malformed) ≡ Err Malformed
    go true true h g = absurd (not-all p o refl (h refl) (g refl))
    go true false h g = refl
    go false b h g = refl

-- the scan's figures and that of the rewritten entries are the limits
both_figures : (short few rest : Bool) (x y : Result Layout Fault)
    → pick (not (short && rest)) x (pick few y x) ≡ pick (not ((short && few) && rest)) x y
both_figures true true rest x y = refl
both_figures true false true x y = refl
both_figures true false false x y = refl
both_figures false few rest x y = refl

fits_entries : (n t : ℕ) → T (fits_sizes n t) → n ≤ 1024
unfolding fits_sizes
fits_entries n t f = leb→le n 1024 (and_left (leb n 1024) _ f)

empty : (l : List Entry) → length l ≡ 0 → l ≡ []
empty [] e = refl
empty (x ∷ l) e = absurd (omega arith)

some_eq : {X : Type 0} {x y : X} → some x ≡ some y → x ≡ y
some_eq h = (cc)

module _ {t : Table} {trees : Language t} {longest : ℕ} {A : Type 0} {root : Root A} {sort : ℕ} (r : RootBy trees longest root sort) where
  parsed : (es : List Entry) → Parsed root es (read_stack root es (build es))
  unfolding read_stack read_root
  parsed es = go (build es) refl
    where
      -- the entries of a tree are built and taken
      known : (a : A) → root.flat a ≡ es → (o : Maybe Stack) → build es ≡ o → o ≡ some (r.rooted a).stack
      known a e o b = sym b ∙ ap build (sym e) ∙ (r.rooted a).built

      taken : (a : A) → root.flat a ≡ es → (st : Stack) → build es ≡ some st → root.reader st ≡ some (a, [])
      taken a e st b =
          let same : st ≡ (r.rooted a).stack = some_eq (known a e (some st) b) in
          ap root.reader same ∙ (r.rooted a).taken

      go : (o : Maybe Stack) → build es ≡ o → Parsed root es (read_stack root es o)
      go none b = no_tree (λ a e. let z : ◌≡◌ {A = ℕ} 0 1 = cc (known a e none b) in omega arith)
      go (some st) b = next (root.reader st) refl
        where
          next : (o : Maybe (A × Stack)) → root.reader st ≡ o → Parsed root es (read_root root es o)
          next none q = no_tree (λ a e. let z : ◌≡◌ {A = ℕ} 0 1 = cc (taken a e st b) in omega arith)
          next (some x) q = last x.1 q
            where
              last : (more : Stack) → root.reader st ≡ some (x.0, more)
                  → Parsed root es (elim more [ [] ↦ read_limits (small root es x.0) x.0 | ◌∷◌ i rest ↦ Reading.malformed ])
              last [] q = (a_tree x.0 (s_at_root r.sound st x.0 q ∙ build_spells es st b))
              last (i ∷ rest) q =
                  no_tree (λ a e.
                  let more : [] ≡ i ∷ rest = ap (λ (y : A × Stack). y.1) (some_eq (sym (taken a e st b) ∙ q)) in
                  let z : ◌≡◌ {A = ℕ} 0 1 = cc in
                  omega arith)

  -- ---------------------------------------------------------------- the scan of all entries

  -- the scan says what the limits on depths and texts say
  over_is : (a : A) → (r.passes a).over longest 0 0
      ≡ not (short_in t.grammar longest (root.flat a) && (fits_depths (root.deep node_weight a) (root.deep call_weight a) && root.few a))
  over_is a =
      let es = root.flat a in
      let nodes = r.deep a (t.nodes (is_limited longest)) in
      rw (← (r.limits a))
      (reported (short_in t.grammar longest es && (leb nodes 64 && (leb (r.deep a t.calls) 4 && r.listed a)))
      ((r.passes a).says longest 0 0 (omega arith) (omega arith)) (to_limits t.grammar longest r.is_limited_lem es)
      (from_limits t.grammar longest r.is_limited_lem es))

  module _ (s : List ℕ) (l : Layout) (es : List Entry) (sized : l.entries ≡ length es) (filled : l.size ≡ widths_of es) (w : WellTexted es)
      (most : length es ≤ 1024) (counted : rewritten_count s l ≡ length es + 3 * tally 2 es) where
    abbrev scanned : Option (Place × Bool)
    scanned = scan_of t.grammar longest l.size es (wait sort 0 0 ∷ []) 0 0 false

    -- the entries of a tree are passed over
    judged_tree : T (well_texts es) → (a : A) → root.flat a ≡ es → judged s l scanned ≡ pick (not (small root es a)) (Err TooLarge) (Ok l)
    unfolding small
    judged_tree well a e =
        let p = r.passes a in
        let n : length (text_of (root.flat a)) ≡ l.size = ap (λ (x : List Entry). length (text_of x)) e ∙ sym (widths_texted w) ∙ sym filled in
        let k : length (root.flat a) ≡ l.entries = ap length e ∙ sym sized in
        let q = p.run longest l.size 0 0 [] [] 0 0 false (omega arith) (omega arith) (omega arith)
        (rw e (to_texts longest r.is_limited_lem es well)) in
        let depths = fits_depths (root.deep node_weight a) (root.deep call_weight a) && root.few a in
        let short = short_in t.grammar longest es in
        let texts : (short && leb (length es + 3 * tally 2 es) 1024) ≡ root.texts es = rw e at (r.short a (rw e most)) in
        let z : scanned ≡ Some (record { at = l.entries; text = l.size }, not (short && depths)) =
        ap (λ (x : List Entry). scan_of t.grammar longest l.size x (wait sort 0 0 ∷ []) 0 0 false) (sym e ∙ sym (append-nil (root.flat a)))
        ∙ q ∙ rw (zero-add, zero-add, k, n, over_is a, e) in
        rw (z, eq-eqb l.entries l.entries refl, eq-eqb l.size l.size refl, counted, ← texts)
        (both_figures short (leb (length es + 3 * tally 2 es) 1024) depths (Err TooLarge) (Ok l))

    -- where they spell no tree, the scan does not end behind them
    judged_no_tree : ((a : A) → root.flat a ≡ es → ⊥) → judged s l scanned ≡ Err Malformed
    judged_no_tree not-one =
        judged_else s l scanned (λ p o h e₁ e₂.
        let f = found trees longest l.size es (wait sort 0 0 ∷ []) 0 0 false p o w h in
        let x = f.trees_are.0 in
        let k = length-append (trees.spell sort x ++ []) f.rest in
        let z : f.rest ≡ [] = empty f.rest (omega (arith, f.ends, ap length f.split)) in
        let y = trees.spell sort x in
        let all : es ≡ y = f.split ∙ ap (λ (more : List Entry). (y ++ []) ++ more) z ∙ append-nil (y ++ []) ∙ append-nil y in
        not-one (r.tree x) (r.spelled x ∙ sym all))

  -- ---------------------------------------------------------------- the whole tape

  module _ (s : List ℕ) where
    es : List Entry
    es = entries_at t.grammar s (tape_layout (entries_of s) (size_of s)) 0 0 (entries_of s)

    -- a slice as long as its sizes say
    module _ (sized : length s ≡ 8 + 9 * entries_of s + size_of s) (most : entries_of s ≤ 1024) where
      abbrev l : Layout
      l = tape_layout (entries_of s) (size_of s)

      scan_is : scan_at t.grammar s l (record { at = 0; text = 0 }) sort longest ≡ scan_of t.grammar longest (size_of s) es (wait sort 0 0 ∷ []) 0 0 false
      unfolding es
      scan_is =
          let e : starts s l (record { at = 0; text = 0 }) sort ≡ true =
          is_true (starting s l (record { at = 0; text = 0 }) sort (record {
            held = record { entries_most = most; codes_held = omega arith; values_held = omega arith };
            at_most = omega arith;
            text_most = omega arith;
            is_sort = r.is_sort;
          })) in
          rw (e, sub-zero (entries_of s))

      sections_are : split (take (entries_of s) (drop 8 s)) (take (8 * entries_of s) (drop (entries_of s) (drop 8 s))) (drop (9 * entries_of s) (drop 8 s))
          ≡ pick (eqb (widths_of es) (size_of s)) (some es) none
      unfolding es
      sections_are =
          let k : length (drop (8 + 9 * entries_of s) s) ≡ size_of s = length-drop (8 + 9 * entries_of s) s ∙ omega arith in
          let q = split_entries t s l (entries_of s) 0 0 (omega arith) (omega arith) in
          rw (drop-drop (entries_of s) 8 s, drop-drop (9 * entries_of s) 8 s) (rw (add-zero, add-zero, k) at q)

      -- the scan of a tape's entries answers what is read from its sections
      scan_reads : T (fits_sizes (entries_of s) (size_of s))
          → Answers root s (judged s l (scan_of t.grammar longest (size_of s) es (wait sort 0 0 ∷ []) 0 0 false))
          (read_tree root (read_texts (pick (eqb (widths_of es) (size_of s)) (some es) none)))
      unfolding es read_texts read_tree read_limits
      scan_reads fit = go (eqb (widths_of es) (size_of s)) (eqb-true (widths_of es) (size_of s)) (eqb-false (widths_of es) (size_of s))
        where
          scanned : Option (Place × Bool)
          scanned = scan_of t.grammar longest (size_of s) es (wait sort 0 0 ∷ []) 0 0 false

          k : length es ≡ entries_of s
          k = length_entries t.grammar s l 0 0 (entries_of s)

          texted : widths_of es ≡ size_of s → WellTexted es
          texted e = entries_texted t s l (entries_of s) 0 0 (omega arith)

          most_es : length es ≤ 1024
          most_es = omega (arith, k)

          counted : rewritten_count s l ≡ length es + 3 * tally 2 es
          counted =
              let h : holds s l ≡ true =
              is_true (holding s l (record { entries_most = most; codes_held = omega arith; values_held = omega arith })) in
              let ors : ors_from s l 0 ≡ tally 2 es = rw (sub-zero (entries_of s)) (entries_ors t.grammar s l (entries_of s) 0 0 (omega arith)) in
              rw h (omega (arith, k, ors))

          limited : widths_of es ≡ size_of s → T (well_texts es) → (a : A) → root.flat a ≡ es → (b : Bool) → small root es a ≡ b
              → Answers root s (pick (not b) (Err TooLarge) (Ok l)) (read_limits b a)
          limited e well a x false q = answers_3
          limited e well a x true q =
              let n : length (root.flat a) ≡ entries_of s = ap length x ∙ k in
              let m : length (text_of (root.flat a)) ≡ size_of s = ap (λ (fs : List Entry). length (text_of fs)) x ∙ sym (widths_texted (texted e)) ∙ e in
              answers_tape {a = a} {l = l}
              (record {
                values_are = λ bytes. rw x (values_64 t.grammar s l (entries_of s) 0 0 bytes);
                entries_count = n;
                text_count_lem = m;
                sized = sized;
                fitting = fit;
                well = rw x well;
                keeping = rw x (from_true q);
              })
              (rw (n, m))

          told : widths_of es ≡ size_of s → T (well_texts es) → (o : Reading A) → Parsed root es o → Answers root s (judged s l scanned) o
          told e well Reading.malformed (no_tree x) = rw (judged_no_tree s l es (sym k) (sym e) (texted e) most_es counted x) answers_2
          told e well o (a_tree a x) =
              rw (judged_tree s l es (sym k) (sym e) (texted e) most_es counted well a x) (limited e well a x (small root es a) refl)

          -- a scan that ends behind them all took each text
          welled : widths_of es ≡ size_of s → (b : Bool) → well_texts es ≡ b
              → Answers root s (judged s l scanned) (read_tree root (elim b [ true ↦ Reading.accepted es | false ↦ Reading.malformed ]))
          welled e true q = told e (from_true q) (read_stack root es (build es)) (parsed es)
          welled e false q =
              rw (judged_else s l scanned (λ p o h e₁ e₂.
              let all = took_all t longest (size_of s) es (wait sort 0 0 ∷ []) 0 0 false p o h (omega (arith, k)) in
              rw q at (from_texts longest r.is_limited_lem all.texts_pass)))
              answers_2

          go : (b : Bool) → (b ≡ true → widths_of es ≡ size_of s) → (b ≡ false → widths_of es ≡ size_of s → ⊥)
              → Answers root s (judged s l scanned) (read_tree root (read_texts (pick b (some es) none)))
          go true h g = welled (h refl) (well_texts es) refl
          go false h g =
              rw (judged_else s l scanned (λ p o q e₁ e₂.
              g refl (omega (arith, (took_all t longest (size_of s) es (wait sort 0 0 ∷ []) 0 0 false p o q (omega (arith, k))).text_ends))))
              answers_2

      pub sections_answer : T (fits_sizes (entries_of s) (size_of s))
          → Answers root s (accept_in t.grammar longest s sort l) (read_tree root (read_texts
          (split (take (entries_of s) (drop 8 s)) (take (8 * entries_of s) (drop (entries_of s) (drop 8 s))) (drop (9 * entries_of s) (drop 8 s)))))
      sections_answer fit = rw (scan_is, sections_are) (scan_reads fit)

  -- The code's acceptance answers what format's gives, for every list of bytes.
  pub answers : (s : List ℕ) → Answers root s (accept_by t.grammar longest s sort) (accept root s)
  unfolding accept read_tape read_sizes read_sections read_tree
  answers s = long (leb 8 (length s)) (leb→le 8 (length s))
    where
      n : ℕ
      n = entries_of s

      m : ℕ
      m = size_of s

      exact : T (fits_sizes n m) → 8 ≤ length s → (b : Bool) → (T b → length (drop 8 s) ≡ 9 * n + m)
          → Answers root s (after_open t.grammar longest s sort (pick b (Ok (tape_layout n m)) (Err Malformed)))
          (read_tree root (elim b [
            | true ↦ read_texts (split (take n (drop 8 s)) (take (8 * n) (drop n (drop 8 s))) (drop (9 * n) (drop 8 s)))
            | false ↦ Reading.malformed
          ]))
      exact fit h false e = answers_2
      exact fit h true e = sections_answer s (omega (arith, e tt, length-drop 8 s)) (fits_entries n m fit) fit

      same_size : 8 ≤ length s → eqb (length s) (8 + 9 * n + m) ≡ eqb (length (drop 8 s)) (9 * n + m)
      same_size h =
          let k = length-drop 8 s in
          same_test
          (λ u. let z = eqb→eq (length s) (8 + 9 * n + m) u in eq→eqb (length (drop 8 s)) (9 * n + m) (omega arith))
          (λ u. let z = eqb→eq (length (drop 8 s)) (9 * n + m) u in eq→eqb (length s) (8 + 9 * n + m) (omega arith))

      fits : 8 ≤ length s → (b : Bool) → (T b → T (fits_sizes n m))
          → Answers root s (after_open t.grammar longest s sort (pick b (pick (eqb (length s) (8 + 9 * n + m)) (Ok (tape_layout n m)) (Err Malformed)) (Err TooLarge)))
          (read_tree root (elim b [ true ↦ read_sections n m (drop 8 s) | false ↦ Reading.too_large ]))
      fits h false fit = answers_3
      fits h true fit =
          rw (same_size h) (exact (fit tt) h (eqb (length (drop 8 s)) (9 * n + m)) (eqb→eq (length (drop 8 s)) (9 * n + m)))

      long : (b : Bool) → (T b → 8 ≤ length s)
          → Answers root s
          (after_open t.grammar longest s sort (pick b (pick (fits_sizes n m) (pick (eqb (length s) (8 + 9 * n + m)) (Ok (tape_layout n m)) (Err Malformed)) (Err TooLarge)) (Err Malformed)))
          (read_tree root (elim b [ true ↦ read_sizes n m (drop 8 s) | false ↦ Reading.malformed ]))
      long false h = answers_2
      long true h = fits (h tt) (fits_sizes n m) (λ u. u)
