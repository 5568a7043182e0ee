-- The rewriting of document 02's point 12, of each root: what it does to the figures, and what reading comes to.
-- Assumes nothing.
use Prim.Native.Nat.{ℕ, ◌+◌, ◌*◌, ◌≤◌}
use native.Mathlib.Omega.{arith}
use mathlib.Core.Path.{◌≡◌, refl, sym, ◌∙◌, ap, subst}
use mathlib.Core.List.{List, [], ◌∷◌}
use mathlib.Core.Bool.{Bool, true, false, ◌&&◌}
use mathlib.Core.Option.{Option, none, some}
use lib.Dec.{T, leb, eqb, leb→le, le→leb}
use lib.ListN.{length}
use Rattle.format.specs.Entry.{Entry, encode, text_of}
use Rattle.format.specs.Ast.{Condition}
use Rattle.format.specs.Flat.{flat_condition}
use Rattle.format.specs.Limits.{node_weight, call_weight, fits_sizes, fits_depths}
use Rattle.format.specs.Macro.{holds, tally}
use Rattle.format.specs.Replace.{Replacement, replace_def}
use Rattle.format.specs.DeMorgan.{de_morgan, or_weight}
use Rattle.format.specs.Build.{Stack, build}
use Rattle.format.specs.Tape.{Reading, Root, few_params, condition_root, definition_root, call_root, registry_root, tree_root, named_root, longest_text, longest_named, texts_within, short_texts, small, read_limits, read_tape, read_root, read_stack, read_tree, accept, fits, rewrite, read, Bytes, rewritten}
use Rattle.format.specs.Rewritten.{Rewriting, weighted, map_reading, ReadAs}
use Rattle.format.proofs.All.{All, all_nil, all_cons}
use Rattle.format.proofs.Tests.{and_left, and_right, and_both, or_none, or_neither, is_true}
use Rattle.format.proofs.Spells.{flat_stack, s_at_root, build_spells}
use Rattle.format.proofs.Accepted.{OnTape, accepted_on_tape, Accepts, was_accepted, Entries, reads_tape}
use Rattle.format.proofs.Exact.{Lawful, within_limits, on_tape_accepted, lawful_condition, lawful_named}
use Rattle.format.proofs.Utf8.{all_whole, whole_all}
use Rattle.format.proofs.Counts.{few_each}
use Rattle.format.proofs.Becomes.{Becomes, becomes_condition, becomes_call, becomes_tree, becomes_definition, becomes_registry, same_text, more_entries, all_become, NoOr, become_no_or, same_macros, same_texts}
use Rattle.format.proofs.Weights.{Outweighs, de_morgan_outweighs, weighs_condition, weighs_call, weighs_tree, weighs_body, weighs_bodies, or_calls, or_nodes, heavier_condition, heavier_call, heavier_tree, heavier_body, heavier_bodies}
use Rattle.format.proofs.Unchanged.{unchanged_condition, unchanged_call, unchanged_tree, unchanged_definition, unchanged_registry}

-- ------------------------------------------------------------------ holding an Or, as a statement of each entry

pub no_holds : {es : List Entry} → All NoOr es → holds 2 es ≡ false
unfolding holds
no_holds all_nil = refl
no_holds (all_cons h f) = rw h (no_holds f)

pub holds_no : (es : List Entry) → holds 2 es ≡ false → All NoOr es
unfolding holds
holds_no [] h = all_nil
holds_no (e ∷ es) h =
    all_cons (or_none (eqb e.code 2) (holds 2 es) h) (holds_no es (or_neither (eqb e.code 2) (holds 2 es) h))

-- ------------------------------------------------------------------ each root

-- what is shown of each root by itself
pub record Rewrites {A : Type 0} (root : Root A) : Type 0 where
  pub becomes : (a : A) → Becomes (root.flat a) (root.flat (rewritten root a))
  pub short : {es fs : List Entry} → Becomes es fs → root.texts fs ≡ root.texts es
  pub weighs : {x : Replacement} {w v : ℕ → ℕ} → Outweighs x w v → (a : A) → root.deep w (root.replace x a) ≡ root.deep v a
  pub heavier : (w v : ℕ → ℕ) → ((c : ℕ) → w c ≤ v c) → (a : A) → root.deep w a ≤ root.deep v a
  pub same_params : (x : Replacement) (a : A) → root.few (root.replace x a) ≡ root.few a
  pub kept : (a : A) → All NoOr (root.flat a) → rewritten root a ≡ a

pub rewrites_condition : Rewrites condition_root
unfolding condition_root
rewrites_condition =
    record {
      becomes = becomes_condition;
      short = same_texts longest_text;
      weighs = weighs_condition;
      heavier = heavier_condition;
      same_params = λ x c. refl;
      kept = unchanged_condition;
    }

pub rewrites_named : (most : ℕ) → Rewrites (named_root most)
unfolding named_root
rewrites_named most =
    record {
      becomes = becomes_condition;
      short = same_texts (longest_named most);
      weighs = weighs_condition;
      heavier = heavier_condition;
      same_params = λ x c. refl;
      kept = unchanged_condition;
    }

pub rewrites_call : Rewrites call_root
unfolding call_root
rewrites_call =
    record {
      becomes = becomes_call;
      short = same_texts longest_text;
      weighs = weighs_call;
      heavier = heavier_call;
      same_params = λ x c. refl;
      kept = unchanged_call;
    }

pub rewrites_definition : Rewrites definition_root
unfolding definition_root replace_def few_params de_morgan
rewrites_definition =
    record {
      becomes = becomes_definition;
      short = same_texts longest_text;
      weighs = λ h d. weighs_body h d.body;
      heavier = λ w v h d. heavier_body w v h d.body;
      same_params = λ x d. refl;
      kept = unchanged_definition;
    }

pub rewrites_registry : Rewrites registry_root
unfolding registry_root
rewrites_registry =
    record {
      becomes = becomes_registry;
      short = same_texts longest_text;
      weighs = weighs_bodies;
      heavier = heavier_bodies;
      same_params = few_each;
      kept = unchanged_registry;
    }

pub rewrites_tree : Rewrites tree_root
unfolding tree_root
rewrites_tree =
    record {
      becomes = becomes_tree;
      short = λ b. refl;
      weighs = weighs_tree;
      heavier = heavier_tree;
      same_params = λ x t. refl;
      kept = unchanged_tree;
    }

module _ {A : Type 0} (root : Root A) (r : Rewrites root) where
  pub rewriting : Rewriting root
  rewriting =
      record {
        entries = λ a. more_entries (r.becomes a);
        text = λ a. same_text (r.becomes a);
        texts = λ a. r.short (r.becomes a);
        nesting = r.weighs (de_morgan_outweighs node_weight);
        calls = λ a. r.weighs (de_morgan_outweighs call_weight) a ∙ ap (λ (w : ℕ → ℕ). root.deep w a) or_calls;
        params = r.same_params de_morgan;
        macros = λ a. same_macros (r.becomes a);
        no_or = λ a. no_holds (become_no_or (r.becomes a));
        unchanged = λ a h. r.kept a (holds_no (root.flat a) h);
        twice = λ a. r.kept (rewritten root a) (become_no_or (r.becomes a));
      }

  -- ------------------------------------------------------------------ one scan

  -- both sets of figures are kept exactly if the weighted ones are: p short texts, q entries, d and d' depths, f parameters, m text
  one_test : (p q d d' f m : Bool) → T m → (T d' → T d) → ((p && q) && (d' && f)) ≡ ((p && (d && f)) && ((q && m) && (p && (d' && f))))
  one_test p q d d' f false t h = absurd t
  one_test false q d d' f true t h = refl
  one_test true false true d' true true t h = refl
  one_test true false true d' false true t h = refl
  one_test true false false d' f true t h = refl
  one_test true true true false true true t h = refl
  one_test true true true false false true t h = refl
  one_test true true false false f true t h = refl
  one_test true true true true true true t h = refl
  one_test true true true true false true t h = refl
  one_test true true false true f true t h = absurd (h tt)

  -- an Or weighs no less than it does elsewhere
  pub lighter : (a : A) → T (fits_depths (root.deep (or_weight node_weight) a) (root.deep call_weight a))
      → T (fits_depths (root.deep node_weight a) (root.deep call_weight a))
  unfolding fits_depths
  lighter a t =
      let n = root.deep (or_weight node_weight) a in
      let low : root.deep node_weight a ≤ 64 =
      omega (arith, leb→le n 64 (and_left (leb n 64) _ t), r.heavier node_weight (or_weight node_weight) or_nodes a) in
      rw (is_true {b = leb (root.deep node_weight a) 64} (le→leb (root.deep node_weight a) 64 low)) (and_right (leb n 64) _ t)

  weighted_test : (es : List Entry) (a : A) → root.flat a ≡ es → T (fits_sizes (length es) (length (text_of es)))
      → small (weighted root) es a ≡ (small root es a && fits root (rewritten root a))
  unfolding small weighted fits fits_sizes
  weighted_test es a e t =
      let law = rewriting in
      rw (
        law.entries a,
        law.text a,
        law.texts a,
        law.nesting a,
        law.calls a,
        law.params a,
        e,
        ap (λ (w : ℕ → ℕ). root.deep w a) or_calls,
      )
      (one_test (root.texts es) (leb (length es + 3 * tally 2 es) 1024)
      (fits_depths (root.deep node_weight a) (root.deep call_weight a))
      (fits_depths (root.deep (or_weight node_weight) a) (root.deep call_weight a))
      (root.few a) (leb (length (text_of es)) 3072)
      (and_right (leb (length es) 1024) _ t) (lighter a))

  -- a figure that is passed before or after the rewriting is 3, and else the rewritten tree is read
  scan_limits : (a : A) (x z : Bool) → z ≡ (x && fits root (rewritten root a))
      → rewrite root (read_limits x a) ≡ map_reading (rewritten root) (read_limits z a)
  unfolding rewrite read_limits map_reading
  scan_limits a true z e = rw e (go (fits root (rewritten root a)))
    where
      go : (b : Bool) → read_limits b (rewritten root a) ≡ map_reading (rewritten root) (read_limits b a)
      go true = refl
      go false = refl
  scan_limits a false z e = rw e refl

  -- ------------------------------------------------------------------ what is read

  -- the rewriting of what was accepted, within every figure
  pub record ReadFrom (bytes : List ℕ) (a : A) : Type 0 where
    pub given : A
    pub was_given : accept root bytes ≡ Reading.accepted given
    pub is_rewritten : rewritten root given ≡ a
    pub fitting : T (fits root a)

  pub read_from : (bytes : List ℕ) (a : A) → read root bytes ≡ Reading.accepted a → ReadFrom bytes a
  unfolding read rewrite read_limits
  read_from bytes a h = go (accept root bytes) refl h
    where
      go : (o : Reading A) → accept root bytes ≡ o → rewrite root o ≡ Reading.accepted a → ReadFrom bytes a
      go Reading.malformed e k = let z : ◌≡◌ {A = ℕ} 0 1 = cc in absurd (omega arith)
      go Reading.too_large e k = let z : ◌≡◌ {A = ℕ} 0 1 = cc in absurd (omega arith)
      go (Reading.accepted given) e k = limited (fits root (rewritten root given)) (λ t. t) k
        where
          limited : (b : Bool) → (T b → T (fits root (rewritten root given))) → read_limits b (rewritten root given) ≡ Reading.accepted a
              → ReadFrom bytes a
          limited false f k = let z : ◌≡◌ {A = ℕ} 0 1 = cc in absurd (omega arith)
          limited true f k =
              let same : rewritten root given ≡ a = cc in
              record { given = given; was_given = e; is_rewritten = same; fitting = subst (λ (x : A). T (fits root x)) same (f tt) }

  pub read_no_or : (bytes : List ℕ) (a : A) → read root bytes ≡ Reading.accepted a → All NoOr (root.flat a)
  read_no_or bytes a h =
      let f = read_from bytes a h in
      rw f.is_rewritten at (become_no_or (r.becomes f.given))

  module _ (law : Lawful root) where
    scan_entries : (es : List Entry) → T (fits_sizes (length es) (length (text_of es)))
        → rewrite root (read_tree root (Reading.accepted es)) ≡ map_reading (rewritten root) (read_tree (weighted root) (Reading.accepted es))
    unfolding rewrite map_reading read_tree read_stack read_root weighted
    scan_entries es t = stacked (build es) refl
      where
        ended : (st : Stack) → flat_stack st ≡ es → (a : A) (rest : Stack) → root.reader st ≡ some (a, rest)
            → rewrite root (read_root root es (some (a, rest)))
            ≡ map_reading (rewritten root) (read_root (weighted root) es (some (a, rest)))
        ended st h a [] k =
            scan_limits a (small root es a) (small (weighted root) es a)
            (weighted_test es a (s_at_root law.spells st a k ∙ h) t)
        ended st h a (i ∷ more) k = refl

        stacked : (o : Option Stack) → build es ≡ o
            → rewrite root (read_stack root es o) ≡ map_reading (rewritten root) (read_stack (weighted root) es o)
        stacked none e = refl
        stacked (some st) e = taken (root.reader st) refl
          where
            taken : (o : Option (A × Stack)) → root.reader st ≡ o
                → rewrite root (read_root root es o) ≡ map_reading (rewritten root) (read_root (weighted root) es o)
            taken none k = refl
            taken (some x) k = ended st (build_spells es st e) x.0 x.1 k

    -- a tree within the limits that holds no Or is read from its tape
    pub on_tape_read : {bytes : List ℕ} {a : A} → OnTape root bytes a → All NoOr (root.flat a) → read root bytes ≡ Reading.accepted a
    unfolding read rewrite fits
    on_tape_read {bytes} {a} t h =
        rw (on_tape_accepted root law t, r.kept a h)
        (within_limits (fits_sizes (length (root.flat a)) (length (text_of (root.flat a))) && small root (root.flat a) a) a
        (and_both (fits_sizes (length (root.flat a)) (length (text_of (root.flat a)))) _ t.range.sizes t.small))

    module _ (bytes : List ℕ) (q : Bytes bytes) where
      in_one_scan : read root bytes ≡ map_reading (rewritten root) (accept (weighted root) bytes)
      unfolding read accept rewrite map_reading read_tree
      in_one_scan = go (read_tape bytes) (reads_tape bytes q)
        where
          go : (o : Reading (List Entry)) → Accepts (Entries bytes) o
              → rewrite root (read_tree root o) ≡ map_reading (rewritten root) (read_tree (weighted root) o)
          go Reading.malformed h = refl
          go Reading.too_large h = refl
          go (Reading.accepted es) (was_accepted h) = scan_entries es h.range.sizes

      -- what is read is on a tape of its own
      pub read_on_tape : (a : A) → read root bytes ≡ Reading.accepted a → OnTape root (encode (root.flat a)) a
      unfolding fits
      read_on_tape a h =
          let f = read_from bytes a h in
          let es = root.flat a in
          let given : OnTape root bytes f.given = accepted_on_tape root law.spells bytes q f.given f.was_given in
          let b : Becomes (root.flat f.given) es = rw f.is_rewritten at (r.becomes f.given) in
          record {
            encoded = refl;
            range = record {
              values = all_become (λ s v. (v, v)) b given.range.values;
              sizes = and_left (fits_sizes (length es) (length (text_of es))) _ f.fitting;
              texts = whole_all (all_become (λ s v. (v, v)) b (all_whole (root.flat f.given) given.range.texts));
            };
            small = and_right (fits_sizes (length es) (length (text_of es))) _ f.fitting;
          }

      pub read_as : ReadAs root bytes
      read_as =
          record {
            one_scan = in_one_scan;
            accepted_again = λ a h. on_tape_accepted root law (read_on_tape a h);
            read_again = λ a h. on_tape_read (read_on_tape a h) (read_no_or bytes a h);
            no_or = λ a h. no_holds (read_no_or bytes a h);
            as_accepted = λ a n h. on_tape_read (accepted_on_tape root law.spells bytes q a h) (holds_no (root.flat a) n);
          }

-- ------------------------------------------------------------------ longer names

-- what is read with longer names, and has none, is read without
pub read_named : (most : ℕ) (bytes : List ℕ) → Bytes bytes → (c : Condition) → read (named_root most) bytes ≡ Reading.accepted c
    → T (short_texts (flat_condition c)) → read condition_root bytes ≡ Reading.accepted c
unfolding read rewrite fits small named_root condition_root
read_named most bytes q c h short =
    let f = read_from (named_root most) (rewrites_named most) bytes c h in
    let d : Condition = f.given in
    let named = accepted_on_tape (named_root most) (lawful_named most).spells bytes q d f.was_given in
    let texts : T (short_texts (flat_condition d)) =
    subst T (same_texts longest_text (becomes_condition d)) (subst (λ (x : Condition). T (short_texts (flat_condition x))) (sym f.is_rewritten) short) in
    let plain : OnTape condition_root bytes d =
    record {
      encoded = named.encoded;
      range = named.range;
      small = and_both (short_texts (flat_condition d)) _ texts (and_right (texts_within (longest_named most) (flat_condition d)) _ named.small);
    } in
    let sizes : Bool = fits_sizes (length (flat_condition c)) (length (text_of (flat_condition c))) in
    let behind = and_right (texts_within (longest_named most) (flat_condition c)) _ (and_right sizes _ f.fitting) in
    rw (on_tape_accepted condition_root lawful_condition plain, f.is_rewritten)
    (within_limits (sizes && small condition_root (flat_condition c) c) c
    (and_both sizes _ (and_left sizes _ f.fitting) (and_both (short_texts (flat_condition c)) _ short behind)))
