-- The judge says 0 exactly if the sentence of specs/Agree.antt holds, and else it answers what expansion does, or 50.
-- Assumes nothing.
use Prim.Native.Nat.{ℕ, ◌≤◌}
use native.Mathlib.Omega.{arith}
use mathlib.Core.Path.{◌≡◌, refl, sym, ◌∙◌, ap, subst}
use mathlib.Core.Logic.{◌≢◌, ◌↔◌, ◌⊎◌, inl, inr}
use mathlib.Core.List.{List, []}
use mathlib.Core.Bool.{Bool, true, false, false≢true}
use Rattle.format.specs.Entry.{encode}
use Rattle.format.specs.Ast.{Condition, Tree, MacroDef}
use Rattle.format.specs.Flat.{flat_condition, flat_tree}
use Rattle.format.specs.Tape.{Reading, condition_root, named_root, registry_root, read}
use Rattle.definition.specs.Outcome.{Refusal, refusal, Outcome, proceed, number_of, span_start, span_end}
use Rattle.definition.specs.Expand.{expand}
use Rattle.definition.specs.Answers.{Answer, Buffers, answer, number_alone, reading, long_buffers, tree_answer, expand_tapes, expand_answer}
use Rattle.definition.specs.Agree.{protected_names, Generated, Agree, same_but_names}
use Rattle.definition.specs.Judge.{require_equal, judge, longest_name, judge_tapes, judge_answer, Equal, Different, JudgeExact, Accepted, OnTapes, JudgeOnTapes, NotEqual, JudgeAnswers, JudgeCharges, YesIsOurs, NoIsLast}
use Rattle.definition.proofs.Good.{good_done, good_refused}
use Rattle.definition.proofs.Rules.{in_01, Tabled, table_bounds}
use Rattle.definition.proofs.Borne.{Small, expand_small}
use Rattle.definition.proofs.Agree.{walk_decides}
use Rattle.definition.proofs.Generated.{names_generated}

-- ------------------------------------------------------------------ the numbers of expansion

-- a refusal of expansion is one of 01's table, neither 0 nor 50 (`expand_small` of Borne)
pub table_from_lem : (r : Refusal) → Tabled in_01 r → 1 ≤ r.number
table_from_lem r t = (table_bounds t).0

table_to : (r : Refusal) → Tabled in_01 r → r.number ≤ 48
table_to r t = (table_bounds t).1

-- ------------------------------------------------------------------ on trees

data Judged (same : Tree → Bool) : (expanded judged : Outcome Tree) → Type 0 where
  agreed : {t : Tree} {n : ℕ} → same t ≡ true → Judged same (Outcome.done t n) (Outcome.done t n)
  differed : {t : Tree} {n : ℕ} → same t ≡ false → Judged same (Outcome.done t n) (Outcome.refused (refusal 50 0 []) n)
  refused_too : {r : Refusal} {n : ℕ} → Judged same (Outcome.refused r n) (Outcome.refused r n)

judged : (same : Tree → Bool) (o : Outcome Tree) → Judged same o (proceed o λ t. require_equal (same t) t)
unfolding proceed require_equal
judged same (Outcome.refused r n) = refused_too
judged same (Outcome.done t n) = go (same t) refl
  where
    go : (x : Bool) → same t ≡ x → Judged same (Outcome.done t n) (require_equal x t n)
    go true e = agreed e
    go false e = differed e

pub same_tree : {t u : Tree} {n m : ℕ} → Outcome.done t n ≡ Outcome.done u m → t ≡ u
same_tree e = cc

not_both : {A : Type 0} {r : Refusal} {t : A} {n m : ℕ} → Outcome.refused r n ≡ Outcome.done t m → ⊥
not_both e = let z : ◌≡◌ {A = ℕ} 0 1 = cc in omega arith

pub judge_exact : JudgeExact
unfolding judge flat_tree number_of
judge_exact limit file defs input theirs =
    let s = sides (expand limit file defs input) _ refl (judged same (expand limit file defs input)) (expand_small limit file defs input) in
    record { yes_exactly = s.0; no_exactly = s.1 }
  where
    same : Tree → Bool
    same t = same_but_names (protected_names defs input) [] (flat_tree t) (flat_condition theirs)

    says : (t : Tree) (n : ℕ) → expand limit file defs input ≡ Outcome.done t n
        → (same t ≡ true) ↔ Agree (protected_names defs input) (Generated file defs input) (flat_tree t) (flat_condition theirs)
    says t n e =
        walk_decides (protected_names defs input) (Generated file defs input) t (Tree.condition theirs) (names_generated limit file defs input t n e)

    sides : (o p : Outcome Tree) → expand limit file defs input ≡ o → Judged same o p → Small o
        → ((number_of p ≡ 0) ↔ Equal limit file defs input theirs) × ((number_of p ≡ 50) ↔ Different limit file defs input theirs)
    sides o p e (agreed {t = t} {n = n} s) g = (
      (λ z. record { ours = t; charged = n; succeeds = e; agree = (says t n e).0 s }, λ q. refl),
      (
        λ z. absurd (omega arith),
        λ q. let ours : t ≡ q.ours = same_tree (sym e ∙ q.succeeds) in
            absurd (q.disagree ((says q.ours q.charged q.succeeds).0 (sym (ap same ours) ∙ s))),
      ),
    )
    sides o p e (differed {t = t} {n = n} s) g = (
      (
        λ z. absurd (omega arith),
        λ q. let ours : q.ours ≡ t = same_tree (sym q.succeeds ∙ e) in
            absurd (false≢true (sym s ∙ (sym (ap same ours) ∙ (says q.ours q.charged q.succeeds).1 q.agree))),
      ),
      (λ z. record { ours = t; charged = n; succeeds = e; disagree = λ a. false≢true (sym s ∙ (says t n e).1 a) }, λ q. refl),
    )
    sides o p e (refused_too {r = r} {n = n}) (good_refused h) = (
      (λ z. absurd (omega (arith, table_from_lem r h)), λ q. absurd (not_both (sym e ∙ q.succeeds))),
      (λ z. absurd (omega (arith, table_to r h)), λ q. absurd (not_both (sym e ∙ q.succeeds))),
    )

-- ------------------------------------------------------------------ on tapes

pub number_answer : {A : Type 0} (tape : A → List ℕ) (b : Buffers) (o : Outcome A) → (answer tape b o).number ≡ number_of o
unfolding answer number_of
number_answer tape b (Outcome.done a n) = refl
number_answer tape b (Outcome.refused r n) = refl

-- a number that is neither 2 nor 3 comes from behind a tape that is accepted
pub reading_number : {A B : Type 0} (m : ℕ) → m ≢ 2 → m ≢ 3 → (r : Reading A) (k : A → Outcome B) → number_of (reading r k) ≡ m
    → (a : A) × (r ≡ Reading.accepted a) × (number_of (k a) ≡ m)
unfolding reading number_alone number_of
reading_number m p q Reading.malformed k e = absurd (p (sym e))
reading_number m p q Reading.too_large k e = absurd (q (sym e))
reading_number m p q (Reading.accepted a) k e = (a, refl, e)

-- a number that is not 1 either comes with buffers that are long enough
record Behind (b : Buffers) (limit file : ℕ) (registry input supplied : List ℕ) (m : ℕ) : Type 0 where
  long_enough : long_buffers b ≡ true
  tapes : Accepted file registry input supplied
  judge_number : number_of (judge limit file tapes.defs tapes.condition tapes.theirs) ≡ m

behind : (b : Buffers) (limit file : ℕ) (registry input supplied : List ℕ) (m : ℕ) → m ≢ 1 → m ≢ 2 → m ≢ 3
    → (judge_answer b limit file registry input supplied).number ≡ m → Behind b limit file registry input supplied m
unfolding judge_answer tree_answer judge_tapes number_alone number_of
behind b limit file registry input supplied m not-1 not-2 not-3 = go (long_buffers b) refl
  where
    tape : Tree → List ℕ
    tape t = encode (flat_tree t)

    read_all : long_buffers b ≡ true → number_of (judge_tapes limit file registry input supplied) ≡ m → Behind b limit file registry input supplied m
    read_all long e =
        let d = reading_number m not-2 not-3 (read registry_root registry) _ e in
        let c = reading_number m not-2 not-3 (read condition_root input) _ d.2 in
        let s = reading_number m not-2 not-3 (read (named_root (longest_name file)) supplied) _ c.2 in
        record {
          long_enough = long;
          tapes =
              record {
                defs = d.0;
                condition = c.0;
                theirs = s.0;
                its_registry = d.1;
                its_condition = c.1;
                its_supplied = s.1;
              };
          judge_number = s.2;
        }

    go : (x : Bool) → long_buffers b ≡ x
        → (answer tape b (elim x [ true ↦ judge_tapes limit file registry input supplied | false ↦ number_alone 1 ])).number ≡ m
        → Behind b limit file registry input supplied m
    go true long e = read_all long (sym (number_answer tape b (judge_tapes limit file registry input supplied)) ∙ e)
    go false long e = absurd (not-1 (sym e ∙ number_answer tape b (number_alone 1)))

pub judge_on_tapes : JudgeOnTapes
unfolding judge_answer tree_answer judge_tapes reading
judge_on_tapes b limit file registry input supplied =
    record {
      yes_exactly = side 0 (λ z. omega arith) (λ z. omega arith) (λ z. omega arith) (Equal limit file) (λ ds c t. (judge_exact limit file ds c t).yes_exactly);
      no_exactly = side 50 (λ z. omega arith) (λ z. omega arith) (λ z. omega arith) (Different limit file) (λ ds c t. (judge_exact limit file ds c t).no_exactly);
    }
  where
    side : (m : ℕ) → m ≢ 1 → m ≢ 2 → m ≢ 3 → (Holds : List MacroDef → Condition → Condition → Type 0)
        → ((defs : List MacroDef) (c theirs : Condition) → (number_of (judge limit file defs c theirs) ≡ m) ↔ Holds defs c theirs)
        → ((judge_answer b limit file registry input supplied).number ≡ m) ↔ OnTapes b file registry input supplied Holds
    side m not-1 not-2 not-3 Holds exact = (
      λ e.
          let h = behind b limit file registry input supplied m not-1 not-2 not-3 e in
          record {
            long_enough = h.long_enough;
            tapes = h.tapes;
            holds = (exact h.tapes.defs h.tapes.condition h.tapes.theirs).0 h.judge_number;
          },
      λ q.
          rw (q.long_enough, q.tapes.its_registry, q.tapes.its_condition, q.tapes.its_supplied)
          (number_answer _ b (judge limit file q.tapes.defs q.tapes.condition q.tapes.theirs)
          ∙ (exact q.tapes.defs q.tapes.condition q.tapes.theirs).1 q.holds),
    )

-- ------------------------------------------------------------------ expansion's answer, or 50

data Beside : (expanded judged : Outcome Tree) → Type 0 where
  the_same : {o : Outcome Tree} → Beside o o
  fifty : {t : Tree} {n : ℕ} → Beside (Outcome.done t n) (Outcome.refused (refusal 50 0 []) n)

beside_judged : {same : Tree → Bool} {o p : Outcome Tree} → Judged same o p → Beside o p
beside_judged (agreed s) = the_same
beside_judged (differed s) = fifty
beside_judged refused_too = the_same

beside_tapes : (limit file : ℕ) (registry input supplied : List ℕ) (theirs : Condition)
    → read (named_root (longest_name file)) supplied ≡ Reading.accepted theirs
    → Beside (expand_tapes limit file registry input) (judge_tapes limit file registry input supplied)
unfolding expand_tapes judge_tapes reading judge
beside_tapes limit file registry input supplied theirs e = rw e (go (read registry_root registry))
  where
    over : (defs : List MacroDef) (c : Reading Condition)
        → Beside (reading c λ d. expand limit file defs d)
        (reading c λ d. reading (Reading.accepted theirs) λ s. judge limit file defs d s)
    over defs Reading.malformed = the_same
    over defs Reading.too_large = the_same
    over defs (Reading.accepted c) =
        beside_judged (judged (λ t. same_but_names (protected_names defs c) [] (flat_tree t) (flat_condition theirs)) (expand limit file defs c))

    go : (r : Reading (List MacroDef))
        → Beside (reading r λ defs. reading (read condition_root input) λ d. expand limit file defs d)
        (reading r λ defs. reading (read condition_root input) λ d. reading (Reading.accepted theirs) λ s. judge limit file defs d s)
    go Reading.malformed = the_same
    go Reading.too_large = the_same
    go (Reading.accepted defs) = over defs (read condition_root input)

beside_answer : (b : Buffers) {o p : Outcome Tree} → Beside o p → (tree_answer b p ≡ tree_answer b o) ⊎ NotEqual b (tree_answer b o) (tree_answer b p)
unfolding tree_answer answer number_alone span_start span_end
beside_answer b the_same = inl refl
beside_answer b (fifty {t = t} {n = n}) = go (long_buffers b) refl
  where
    go : (x : Bool) → long_buffers b ≡ x
        → (tree_answer b (Outcome.refused (refusal 50 0 []) n) ≡ tree_answer b (Outcome.done t n))
        ⊎ NotEqual b (tree_answer b (Outcome.done t n)) (tree_answer b (Outcome.refused (refusal 50 0 []) n))
    go true e =
        inr
        (rw e
        (record {
          succeeded = refl;
          number = refl;
          start = refl;
          end = refl;
          no_message = refl;
          same_charge = refl;
          zero_result = refl;
          zero_work = refl;
          zero_message = refl;
        }))
    go false e = inl (rw e refl)

pub judge_answers : JudgeAnswers
unfolding judge_answer expand_answer
judge_answers b limit file registry input supplied theirs e = beside_answer b (beside_tapes limit file registry input supplied theirs e)

pub judge_charges : JudgeCharges
judge_charges b limit file registry input supplied theirs e = go (judge_answers b limit file registry input supplied theirs e)
  where
    go : (judge_answer b limit file registry input supplied ≡ expand_answer b limit file registry input)
        ⊎ NotEqual b (expand_answer b limit file registry input) (judge_answer b limit file registry input supplied)
        → (judge_answer b limit file registry input supplied).charged ≡ (expand_answer b limit file registry input).charged
    go (inl q) = ap (λ (a : Answer). a.charged) q
    go (inr q) = q.same_charge

pub yes_is_ours : YesIsOurs
yes_is_ours b limit file registry input supplied e =
    go (judge_answers b limit file registry input supplied _ ((judge_on_tapes b limit file registry input supplied).yes_exactly.0 e).tapes.its_supplied)
  where
    go : (judge_answer b limit file registry input supplied ≡ expand_answer b limit file registry input)
        ⊎ NotEqual b (expand_answer b limit file registry input) (judge_answer b limit file registry input supplied)
        → judge_answer b limit file registry input supplied ≡ expand_answer b limit file registry input
    go (inl q) = q
    go (inr q) = absurd (omega (arith, e, q.number))

-- expansion's own numbers
expand_number : (b : Buffers) (limit file : ℕ) (registry input : List ℕ) → (expand_answer b limit file registry input).number ≤ 48
unfolding expand_answer tree_answer expand_tapes reading number_alone number_of
expand_number b limit file registry input = go (long_buffers b) (read registry_root registry) (read condition_root input)
  where
    tape : Tree → List ℕ
    tape t = encode (flat_tree t)

    small : {o : Outcome Tree} → Small o → number_of o ≤ 48
    small (good_done h) = omega arith
    small (good_refused {r = r} h) = table_to r h

    made : (o : Outcome Tree) → number_of o ≤ 48 → (answer tape b o).number ≤ 48
    made o h = subst (λ (k : ℕ). k ≤ 48) (sym (number_answer tape b o)) h

    go : (x : Bool) (r : Reading (List MacroDef)) (c : Reading Condition)
        → (answer tape b (elim x [
          | true ↦ reading r λ defs. reading c λ d. expand limit file defs d
          | false ↦ number_alone 1
        ])
        ).number
        ≤ 48
    go false r c = made (number_alone 1) (omega arith)
    go true Reading.malformed c = made (number_alone 2) (omega arith)
    go true Reading.too_large c = made (number_alone 3) (omega arith)
    go true (Reading.accepted defs) Reading.malformed = made (number_alone 2) (omega arith)
    go true (Reading.accepted defs) Reading.too_large = made (number_alone 3) (omega arith)
    go true (Reading.accepted defs) (Reading.accepted c) = made (expand limit file defs c) (small (expand_small limit file defs c))

pub no_is_last : NoIsLast
no_is_last b limit file registry input supplied e =
    let h = behind b limit file registry input supplied 50 (λ z. omega arith) (λ z. omega arith) (λ z. omega arith) e in
    go (judge_answers b limit file registry input supplied h.tapes.theirs h.tapes.its_supplied)
  where
    go : (judge_answer b limit file registry input supplied ≡ expand_answer b limit file registry input)
        ⊎ NotEqual b (expand_answer b limit file registry input) (judge_answer b limit file registry input supplied)
        → NotEqual b (expand_answer b limit file registry input) (judge_answer b limit file registry input supplied)
    go (inl q) =
        absurd (omega (arith, e, ap (λ (a : Answer). a.number) q, expand_number b limit file registry input))
    go (inr q) = q
