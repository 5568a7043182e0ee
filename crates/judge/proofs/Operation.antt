-- The operation's answer is what the definition says: a buffer is too short; one of the first two tapes is refused; the third is; the
-- expansion is refused; the supplied tape is our result but for names, or it is not.
-- Assumes nothing.
use Rattle.tape.specs.declared.header.Fault.{Fault}
use Rattle.std.proofs.Common.{Result, Ok, Err}
use Prim.Native.Nat.{ℕ, zero, suc, ◌^◌, ◌<◌}
use mathlib.Core.Path.{◌≡◌, refl, sym, ap, ap₂, subst, ◌∙◌}
use mathlib.Core.List.{List, []}
use mathlib.Core.Bool.{Bool, true, false}
use lib.ListN.{get_or}
use Rattle.format.specs.Entry.{encode}
use Rattle.format.specs.Ast.{Condition, MacroDef, Tree}
use Rattle.format.specs.Flat.{flat_condition, flat_tree}
use Rattle.format.specs.Rewritten.{weighted}
use Rattle.format.specs.Tape.{Reading, Root, condition_root, named_root, registry_root, accept, read, rewritten, Bytes}
use Rattle.format.proofs.Exact.{lawful_registry, lawful_condition, lawful_named}
use Rattle.format.proofs.Rewritten.{rewrites_registry, rewrites_condition, rewrites_named}
use Rattle.definition.specs.Outcome.{Refusal, refusal, Outcome, proceed}
use Rattle.definition.specs.Answers.{Answer, Buffers, padded, answer, number_alone, reading, long_buffers, tree_answer, expand_tapes, expand_answer}
use Rattle.definition.specs.Expand.{expand}
use Rattle.definition.specs.Agree.{protected_names, same_but_names}
use Rattle.definition.specs.Judge.{require_equal, judge, longest_name, judge_tapes, judge_answer}
use Rattle.grammar.specs.Grammar as grammar
use Rattle.grammar.specs.Waits.{is_limited}
use Rattle.tape.specs.Accept.{accept_named}
use Rattle.tape.specs.Header.{fault_number}
use Rattle.tape.specs.declared.layout.Layout.{Layout}
use Rattle.format.proofs.Accepted.{bytes_all}
use Rattle.tape.proofs.Roots.{Accepted, registry_root_lem, condition_root_lem, named_root_lem, accepted_root}
use Rattle.answer.specs.Matches.{buffers, ended}
use Rattle.answer.specs.Tapes.{accept_two}
use Rattle.answer.proofs.Operations.{refused_tape, accepted_read, first_accepted, second_accepted, read_rewritten, read_two, long_enough, ends_refused, tree_short, tree_refused}
use Rattle.judge_names.specs.Compared.{equal_in}
use Rattle.judge_names.proofs.Compared.{equal_is}
use Rattle.judge.proofs.Own.{refused_number, kept}

-- names are measured by a figure
longest_limited : (file : ℕ) → is_limited (longest_name file) ≡ true
unfolding longest_name
longest_limited zero = refl
longest_limited (suc f) = refl

-- the third tape, as the code accepts it
pub as_opened : (file : ℕ) (supplied : List ℕ) {most : ℕ} {x o : Result Layout Fault} → most ≡ longest_name file → x ≡ accept_named most supplied grammar.condition → x ≡ o
    → accept_named (longest_name file) supplied grammar.condition ≡ o
as_opened file supplied e k t = rw (← e) (sym k ∙ t)

-- buffers that a call has left as long as they were
pub same_buffers : {r l m r' l' m' : ℕ} → r' ≡ r → l' ≡ l → m' ≡ m → buffers r' l' m' ≡ buffers r l m
same_buffers e f g = rw (e, f, g) refl

-- ------------------------------------------------------------------ what the expansion comes to

module _ (b : Buffers) (long : long_buffers b ≡ true) (same : Tree → Bool) where
  -- the definition's answer, of an expansion's outcome
  abbrev Judged : Outcome Tree → Answer
  Judged o = tree_answer b (proceed o λ t. require_equal (same t) t)

  refusal_stays : (o : Outcome Tree) → ((tree_answer b o).number ≡ 0 → ⊥) → tree_answer b o ≡ Judged o
  unfolding tree_answer answer proceed
  refusal_stays (Outcome.done t n) h = absurd (h (rw long refl))
  refusal_stays (Outcome.refused r n) h = refl

  module _ (equal : List ℕ → Bool) (o : Outcome Tree) (not_0 : (r : Refusal) (n : ℕ) → o ≡ Outcome.refused r n → r.number ≡ 0 → ⊥)
      (agree : (t : Tree) (n : ℕ) → o ≡ Outcome.done t n → equal (padded b.result_length (encode (flat_tree t))) ≡ same t) where
    yes : (tree_answer b o).number ≡ 0 → equal (tree_answer b o).result ≡ true → tree_answer b o ≡ Judged o
    unfolding tree_answer answer proceed require_equal
    yes = go o refl
      where
        go : (x : Outcome Tree) → o ≡ x → (tree_answer b x).number ≡ 0 → equal (tree_answer b x).result ≡ true → tree_answer b x ≡ Judged x
        go (Outcome.done t n) e z q =
            let s : same t ≡ true = sym (agree t n e) ∙ (rw long at q) in ap (λ (y : Bool). tree_answer b (require_equal y t n)) (sym s)
        go (Outcome.refused r n) e z q = refl

    no : (tree_answer b o).number ≡ 0 → equal (tree_answer b o).result ≡ false
        → ended b (Outcome.refused (refusal 50 0 []) (tree_answer b o).charged) ≡ Judged o
    unfolding tree_answer answer proceed require_equal ended
    no = go o refl
      where
        go : (x : Outcome Tree) → o ≡ x → (tree_answer b x).number ≡ 0 → equal (tree_answer b x).result ≡ false
            → ended b (Outcome.refused (refusal 50 0 []) (tree_answer b x).charged) ≡ Judged x
        go (Outcome.done t n) e z q =
            let s : same t ≡ false = sym (agree t n e) ∙ (rw long at q) in
            let fifty : ended b (Outcome.refused (refusal 50 0 []) (tree_answer b (Outcome.done t n)).charged) ≡ tree_answer b (require_equal false t n) = rw long refl in
            fifty ∙ ap (λ (y : Bool). tree_answer b (require_equal y t n)) (sym s)
        go (Outcome.refused r n) e z q = absurd (not_0 r n e (rw long at z))

-- ------------------------------------------------------------------ the operation

module _ (r l m limit file : ℕ) (registry input supplied : List ℕ) (p : Bytes registry) (q : Bytes input) where
  abbrev b : Buffers
  b = buffers r l m

  abbrev their_root : Root Condition
  their_root = named_root (longest_name file)

  -- what is found of the first two trees as they were read
  abbrev found : List MacroDef → Condition → Outcome Tree
  found defs c = reading (read their_root supplied) λ theirs. judge limit file defs c theirs

  as_accepted : judge_answer b limit file registry input supplied
      ≡ tree_answer b (reading (accept (weighted registry_root) registry) λ x. reading (accept (weighted condition_root) input) λ y. found (rewritten registry_root x) (rewritten condition_root y))
  unfolding judge_answer judge_tapes
  as_accepted = ap (tree_answer b) (read_two rewrites_registry rewrites_condition lawful_registry lawful_condition registry input p q found)

  pub short : {a : Answer} → long_buffers b ≡ false → a ≡ ended b (number_alone 1) → a ≡ judge_answer b limit file registry input supplied
  unfolding judge_answer
  short h k = tree_short b (judge_tapes limit file registry input supplied) h k

  pub refused : {f : Fault} {a : Answer} → long_buffers b ≡ true → accept_two registry grammar.definitions input grammar.condition ≡ Err f
      → a ≡ ended b (number_alone (fault_number f)) → a ≡ judge_answer b limit file registry input supplied
  refused long e k =
      tree_refused registry_root condition_root registry_root_lem condition_root_lem (λ x y. found (rewritten registry_root x) (rewritten condition_root y)) b registry input long e k
      ∙ sym as_accepted

  module _ (s : Bytes supplied) (long : long_buffers b ≡ true) {d c : Layout} (e : accept_two registry grammar.definitions input grammar.condition ≡ Ok (d, c)) where
    first : (x : List MacroDef) × Accepted registry_root registry d x
    first = accepted_root registry_root_lem registry p d (first_accepted registry input grammar.definitions grammar.condition e)

    second : (y : Condition) × Accepted condition_root input c y
    second = accepted_root condition_root_lem input q c (second_accepted registry input grammar.definitions grammar.condition e)

    abbrev defs : List MacroDef
    defs = rewritten registry_root first.0

    abbrev rule : Condition
    rule = rewritten condition_root second.0

    its_registry : read registry_root registry ≡ Reading.accepted defs
    its_registry = accepted_read rewrites_registry lawful_registry registry p first.1.reading

    its_condition : read condition_root input ≡ Reading.accepted rule
    its_condition = accepted_read rewrites_condition lawful_condition input q second.1.reading

    as_third : judge_answer b limit file registry input supplied ≡ tree_answer b (found defs rule)
    unfolding judge_answer judge_tapes reading
    as_third = rw (its_registry, its_condition) refl

    as_expanded : expand_answer b limit file registry input ≡ tree_answer b (expand limit file defs rule)
    unfolding expand_answer expand_tapes reading
    as_expanded = rw (its_registry, its_condition) refl

    pub third_refused : {f : Fault} {a : Answer} → accept_named (longest_name file) supplied grammar.condition ≡ Err f → a ≡ ended b (number_alone (fault_number f))
        → a ≡ judge_answer b limit file registry input supplied
    unfolding tree_answer
    third_refused {f} k h =
        let most : ℕ = longest_name file in
        ends_refused (λ (t : Tree). encode (flat_tree t)) b (found defs rule) (fault_number f) long
        (read_rewritten (rewrites_named most) (lawful_named most) supplied s (judge limit file defs rule)
        ∙ refused_tape their_root (named_root_lem most (longest_limited file)) supplied (λ z. judge limit file defs rule (rewritten their_root z)) k)
        h
        ∙ sym as_third

    module _ {t : Layout} (k : accept_named (longest_name file) supplied grammar.condition ≡ Ok t) where
      third : (z : Condition) × Accepted their_root supplied t z
      third = accepted_root (named_root_lem (longest_name file) (longest_limited file)) supplied s t k

      abbrev theirs : Condition
      theirs = rewritten their_root third.0

      same : Tree → Bool
      same u = same_but_names (protected_names defs rule) [] (flat_tree u) (flat_condition theirs)

      as_judged : judge_answer b limit file registry input supplied ≡ Judged b long same (expand limit file defs rule)
      unfolding reading judge same
      as_judged =
          let its_supplied = accepted_read (rewrites_named (longest_name file)) (lawful_named (longest_name file)) supplied s third.1.reading in
          as_third ∙ rw its_supplied refl

      pub stays_refused : ((expand_answer b limit file registry input).number ≡ 0 → ⊥)
          → expand_answer b limit file registry input ≡ judge_answer b limit file registry input supplied
      stays_refused h =
          as_expanded
          ∙ refusal_stays b long same (expand limit file defs rule) (λ z. h (ap (λ (a : Answer). a.number) as_expanded ∙ z))
          ∙ sym as_judged

      pub answers_refused : {a : Answer} → a ≡ expand_answer b limit file registry input → (a.number ≡ 0 → ⊥) → a ≡ judge_answer b limit file registry input supplied
      answers_refused from h = from ∙ stays_refused (λ z. h (ap (λ (v : Answer). v.number) from ∙ z))

      module _ (below : limit < 2 ^ 32) (few : file < 65536) (bytes : Bytes (expand_answer b limit file registry input).result) where
        abbrev equal : List ℕ → Bool
        equal result = equal_in registry d input c supplied t result

        agree : (u : Tree) (n : ℕ) → expand limit file defs rule ≡ Outcome.done u n → equal (padded r (encode (flat_tree u))) ≡ same u
        unfolding same
        agree u n h =
            equal_is (longest_name file) (longest_limited file) first.1 second.1 third.1 r (long_enough b long).result (flat_tree u)
            (kept b limit file below few registry input p q long defs rule its_registry its_condition u n h bytes)

        pub judged_equal : (expand_answer b limit file registry input).number ≡ 0 → equal (expand_answer b limit file registry input).result ≡ true
            → expand_answer b limit file registry input ≡ judge_answer b limit file registry input supplied
        judged_equal z x =
            as_expanded
            ∙ yes b long same equal (expand limit file defs rule) (refused_number limit file defs rule) agree (sym (ap (λ (a : Answer). a.number) as_expanded) ∙ z)
            (sym (ap (λ (a : Answer). equal a.result) as_expanded) ∙ x)
            ∙ sym as_judged

        pub judged_other : (expand_answer b limit file registry input).number ≡ 0 → equal (expand_answer b limit file registry input).result ≡ false
            → ended b (Outcome.refused (refusal 50 0 []) (expand_answer b limit file registry input).charged) ≡ judge_answer b limit file registry input supplied
        judged_other z x =
            ap (λ (a : Answer). ended b (Outcome.refused (refusal 50 0 []) a.charged)) as_expanded
            ∙ no b long same equal (expand limit file defs rule) (refused_number limit file defs rule) agree (sym (ap (λ (a : Answer). a.number) as_expanded) ∙ z)
            (sym (ap (λ (a : Answer). equal a.result) as_expanded) ∙ x)
            ∙ sym as_judged

      -- the same of what the code has: an answer that is the expansion's, in a buffer of bytes, and what the comparison said of its result
      module _ (below : limit < 2 ^ 32) (few : file < 65536) {a : Answer} (from : a ≡ expand_answer b limit file registry input)
          (each : (i : ℕ) → get_or a.result i 0 < 256) (z : a.number ≡ 0) {x : Bool} (h : x ≡ equal_in registry d input c supplied t a.result) where
        its_bytes : Bytes (expand_answer b limit file registry input).result
        its_bytes = subst (λ (v : Answer). Bytes v.result) from (bytes_all a.result each)

        its_number : (expand_answer b limit file registry input).number ≡ 0
        its_number = sym (ap (λ (v : Answer). v.number) from) ∙ z

        its_equal : equal_in registry d input c supplied t (expand_answer b limit file registry input).result ≡ x
        its_equal = sym (ap (λ (v : Answer). equal_in registry d input c supplied t v.result) from) ∙ sym h

        pub answers_equal : x ≡ true → a ≡ judge_answer b limit file registry input supplied
        answers_equal y = from ∙ judged_equal below few its_bytes its_number (its_equal ∙ y)

        pub answers_other : {u : Answer} {b' : Buffers} → x ≡ false → b' ≡ b → u ≡ ended b' (Outcome.refused (refusal 50 0 []) a.charged)
            → u ≡ judge_answer b limit file registry input supplied
        answers_other {u} n left g =
            g
            ∙ ap₂ (λ (v : Buffers) (w : ℕ). ended v (Outcome.refused (refusal 50 0 []) w)) left (ap (λ (v : Answer). v.charged) from)
            ∙ judged_other below few its_bytes its_number (its_equal ∙ n)
