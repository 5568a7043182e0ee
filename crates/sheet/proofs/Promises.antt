-- The theorems of specs/Promises.antt on steps: the total, and the expansions one after another.
-- Assumes nothing.
use Prim.Native.Nat.{ℕ, ◌+◌, ◌-◌, ◌≤◌, ◌<◌, ◌^◌}
use mathlib.Core.Path.{◌≡◌, refl, sym, ap, ap₂, ◌∙◌}
use mathlib.Core.List.{List, [], ◌∷◌, ◌++◌}
use mathlib.Core.Bool.{Bool, true, false}
use native.Mathlib.Omega.{arith}
use borrow.Author.Tests.{eqb-true, eqb-false}
use lib.Dec.{eqb}
use lib.ListN.{length, drop}
use lib.Seq.{drop-drop}
use Rattle.format.specs.Entry.{le}
use Rattle.format.specs.Tape.{Bytes}
use Rattle.definition.specs.Answers.{Answer, Buffers, expand_answer}
use Rattle.definition.specs.Counts.{expand_counts, counts_of_run}
use Rattle.sheet.specs.declared.Progress.{Progress}
use Rattle.sheet.specs.Sheet.{conditions_of, width_of, sheet_open_answer, sheet_open_progress, limit_of, file_of, next_condition, expansion_answer, expansion_counts, sheet_next_answer, behind_next, sheet_next_progress, sheet_next_counts}
use Rattle.sheet.specs.Promises.{answers_of, progress_after, OneLessIsLeft, sum_of_charges, TotalIsTheSum, NeverAboveTheBudget, NeverAboveFromAnywhere, expansions_of, GoesThrough, ExpandsInOrder, open_promises}
use Rattle.sheet.proofs.Stepping.{done_free, done_answer, done_progress, next_is_expansion, next_moves, next_hands_on, within_budget}
use Rattle.sheet.proofs.Opening.{all_left}
use Rattle.sheet.proofs.Exactly.{spelled_first, spelled_rest, spelled_length, short_length, counted, behind_count, sheet_length}

-- ------------------------------------------------------------------ one step

-- charged grows by what the answer reports
step_charged : (b : Buffers) (registry sheet : List ℕ) (p : Progress)
    → (sheet_next_progress b registry sheet p).charged ≡ p.charged + (sheet_next_answer b registry sheet p).charged
unfolding behind_next
step_charged b registry sheet p = go (eqb p.left 0) refl
  where
    go : (t : Bool) → eqb p.left 0 ≡ t → (sheet_next_progress b registry sheet p).charged ≡ p.charged + (sheet_next_answer b registry sheet p).charged
    go true e =
        let none = eqb-true p.left 0 e in
        omega (
          arith,
          ap (λ (x : Progress). x.charged) (done_progress b registry sheet p none),
          ap (λ (x : Answer). x.charged) (done_answer b registry sheet p none refl),
          done_free b,
        )
    go false e =
        let some = eqb-false p.left 0 e in
        ap (λ (x : Progress). x.charged) (next_moves b registry sheet p some)
        ∙ ap (λ (x : Answer). p.charged + x.charged) (sym (next_is_expansion b registry sheet p some))

-- the budget stays
step_budget : (b : Buffers) (registry sheet : List ℕ) (p : Progress) → (sheet_next_progress b registry sheet p).budget ≡ p.budget
unfolding behind_next
step_budget b registry sheet p = go (eqb p.left 0) refl
  where
    go : (t : Bool) → eqb p.left 0 ≡ t → (sheet_next_progress b registry sheet p).budget ≡ p.budget
    go true e = sym (ap (λ (x : Progress). x.budget) (done_progress b registry sheet p (eqb-true p.left 0 e)))
    go false e = ap (λ (x : Progress). x.budget) (next_moves b registry sheet p (eqb-false p.left 0 e))

pub one_less_is_left : OneLessIsLeft
unfolding behind_next
one_less_is_left b registry sheet p h = ap (λ (x : Progress). x.left) (next_moves b registry sheet p (λ z. omega arith))

pub never_above_from_anywhere : NeverAboveFromAnywhere
unfolding behind_next
never_above_from_anywhere registry sheet r s b p h = go (eqb p.left 0) refl
  where
    go : (t : Bool) → eqb p.left 0 ≡ t → (sheet_next_progress b registry sheet p).charged ≤ p.budget
    go true e = omega (arith, ap (λ (x : Progress). x.charged) (done_progress b registry sheet p (eqb-true p.left 0 e)))
    go false e =
        omega (
          arith,
          ap (λ (x : Progress). x.charged) (next_moves b registry sheet p (eqb-false p.left 0 e)),
          within_budget b registry sheet p r s,
        )

-- ------------------------------------------------------------------ the total

total_from : (registry sheet : List ℕ) (bs : List Buffers) (p : Progress)
    → (progress_after registry sheet bs p).charged ≡ p.charged + sum_of_charges (answers_of registry sheet bs p)
unfolding open_promises
total_from registry sheet [] p = omega arith
total_from registry sheet (b ∷ bs) p =
    omega (arith, total_from registry sheet bs (sheet_next_progress b registry sheet p), step_charged b registry sheet p)

pub total_is_the_sum : TotalIsTheSum
unfolding sheet_open_progress
total_is_the_sum m registry sheet budget file bs =
    total_from registry sheet bs (sheet_open_progress m registry sheet budget file) ∙ omega arith

never_above_run : (registry sheet : List ℕ) → Bytes registry → Bytes sheet → (bs : List Buffers) (p : Progress) → p.charged ≤ p.budget
    → (progress_after registry sheet bs p).charged ≤ p.budget
unfolding progress_after
never_above_run registry sheet r s [] p h = h
never_above_run registry sheet r s (b ∷ bs) p h =
    let stays = step_budget b registry sheet p in
    let below = never_above_from_anywhere registry sheet r s b p h in
    let behind = never_above_run registry sheet r s bs (sheet_next_progress b registry sheet p) (omega arith) in
    omega arith

pub never_above_the_budget : NeverAboveTheBudget
unfolding sheet_open_progress
never_above_the_budget m registry sheet r s budget file bs =
    let start = sheet_open_progress m registry sheet budget file in
    omega (arith, total_from registry sheet bs start, never_above_run registry sheet r s bs start (omega arith))

-- ------------------------------------------------------------------ the expansions one after another

-- a step at a condition that stands behind its length, with so much of the budget left
module _ (b : Buffers) (registry sheet : List ℕ) (p : Progress) (left file : ℕ) (c rest : List ℕ)
    (stands : drop p.at sheet ≡ le 4 (length c) ++ (c ++ rest)) (short : length c < 256 ^ 4) (some : p.left ≡ 0 → ⊥)
    (its_file : p.file ≡ file) (small_file : file < 2 ^ 16) (its_left : p.budget - p.charged ≡ left) (small : left < 2 ^ 32) where
  its_limit : limit_of p ≡ left
  unfolding limit_of
  its_limit = omega (arith, its_left, small)

  its_number : file_of p ≡ file
  unfolding file_of
  its_number = omega (arith, its_file, small_file)

  its_condition : next_condition sheet p ≡ c
  unfolding next_condition
  its_condition = spelled_first (drop p.at sheet) c rest stands short

  as_expansion : expansion_answer b registry sheet p ≡ expand_answer b left file registry c
  unfolding expansion_answer
  as_expansion = rw (its_limit, its_number, its_condition) refl

  pub step_answer : sheet_next_answer b registry sheet p ≡ expand_answer b left file registry c
  step_answer = next_is_expansion b registry sheet p some ∙ as_expansion

  pub step_counts : (counts : List ℕ) → sheet_next_counts b registry sheet p counts ≡ expand_counts b left file registry c counts
  unfolding expansion_counts
  step_counts counts = next_hands_on b registry sheet p some counts ∙ rw (its_limit, its_number, its_condition) refl

  moved : {A : Type 0} (f : Progress → A) → f (sheet_next_progress b registry sheet p) ≡ f (behind_next b registry sheet p)
  moved f = ap f (next_moves b registry sheet p some)

  pub step_stands : drop (sheet_next_progress b registry sheet p).at sheet ≡ rest
  unfolding behind_next
  step_stands =
      moved (λ (x : Progress). drop x.at sheet)
      ∙ sym (drop-drop (width_of (drop p.at sheet)) p.at sheet)
      ∙ spelled_rest (drop p.at sheet) c rest stands short

  pub step_left : (sheet_next_progress b registry sheet p).left ≡ p.left - 1
  unfolding behind_next
  step_left = moved (λ (x : Progress). x.left)

  pub step_file : (sheet_next_progress b registry sheet p).file ≡ file
  unfolding behind_next
  step_file = moved (λ (x : Progress). x.file) ∙ its_file

  pub step_budget_left :
      (sheet_next_progress b registry sheet p).budget - (sheet_next_progress b registry sheet p).charged ≡ left - (expand_answer b left file registry c).charged
  unfolding behind_next
  step_budget_left =
      omega (
        arith,
        moved (λ (x : Progress). x.budget),
        moved (λ (x : Progress). x.charged),
        ap (λ (x : Answer). x.charged) as_expansion,
        its_left,
      )

goes_through : (registry sheet : List ℕ) (file : ℕ) → file < 2 ^ 16 → (bs : List Buffers) (cs : List (List ℕ)) (p : Progress) (left : ℕ)
    → drop p.at sheet ≡ conditions_of cs → length (conditions_of cs) ≤ 65536 → p.left ≡ length cs → p.file ≡ file
    → p.budget - p.charged ≡ left → left < 2 ^ 32 → length bs ≤ length cs → GoesThrough registry sheet left file cs bs p
unfolding open_promises counts_of_run conditions_of
goes_through registry sheet file fits [] cs p left stands short many its_file its_left small few =
    record { each_is_an_expansion = refl; state_is_handed_on = λ counts. refl; as_many_are_left = omega arith }
goes_through registry sheet file fits (b ∷ bs) [] p left stands short many its_file its_left small few = absurd (omega arith)
goes_through registry sheet file fits (b ∷ bs) (c ∷ cs) p left stands short many its_file its_left small few =
    let rest = conditions_of cs in
    let long : length (conditions_of (c ∷ cs)) ≡ 4 + (length c + length rest) = spelled_length (conditions_of (c ∷ cs)) c rest refl in
    let brief : length c < 256 ^ 4 = short_length {k = length (conditions_of (c ∷ cs))} (omega arith) short in
    let some : p.left ≡ 0 → ⊥ = λ z. omega arith in
    let step = sheet_next_progress b registry sheet p in
    let spent = (expand_answer b left file registry c).charged in
    let then =
    goes_through registry sheet file fits bs cs step (left - spent)
    (step_stands b registry sheet p left file c rest stands brief some its_file fits its_left small)
    (omega arith)
    (step_left b registry sheet p left file c rest stands brief some its_file fits its_left small ∙ omega arith)
    (step_file b registry sheet p left file c rest stands brief some its_file fits its_left small)
    (step_budget_left b registry sheet p left file c rest stands brief some its_file fits its_left small)
    (omega arith)
    (omega arith) in
    record {
      each_is_an_expansion =
          ap₂
          (λ (x : Answer) (xs : List Answer). x ∷ xs)
          (step_answer b registry sheet p left file c rest stands brief some its_file fits its_left small)
          then.each_is_an_expansion;
      state_is_handed_on =
          λ counts.
          then.state_is_handed_on (sheet_next_counts b registry sheet p counts)
          ∙ ap
          (counts_of_run registry (expansions_of registry (left - spent) file bs cs))
          (step_counts b registry sheet p left file c rest stands brief some its_file fits its_left small counts);
      as_many_are_left = omega (arith, then.as_many_are_left);
    }

pub expands_in_order : ExpandsInOrder
unfolding sheet_open_progress
expands_in_order m registry sheet budget file small fits cs bs opened h few =
    goes_through registry sheet file fits bs cs (sheet_open_progress m registry sheet budget file) budget
    (behind_count sheet cs h)
    (omega (arith, sheet_length sheet cs h, h.short))
    (sym (all_left (sheet_open_answer m registry sheet).number sheet opened (counted sheet cs h)))
    refl
    (omega arith)
    small
    few
