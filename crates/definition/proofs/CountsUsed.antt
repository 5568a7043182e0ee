-- The counts that expansion hands back are what specs/CountsUsed.antt promises, and whatever meets the promises hands back the same. Which
-- calls are counted is in CallsSpelled.
-- Assumes nothing.
use Prim.Native.Nat.{ℕ, zero, suc, ◌+◌, ◌<◌, ◌≤◌, min}
use native.Mathlib.Omega.{arith}
use mathlib.Core.Path.{◌≡◌, refl, sym, ◌∙◌, ap, ap₂, subst}
use mathlib.Core.Logic.{◌≢◌, ◌⊎◌, inl, inr}
use mathlib.Core.List.{List, [], ◌∷◌}
use lib.ListN.{length, replicate}
use Rattle.std.proofs.lemmas.Bool.{cases_lt}
use Rattle.std.proofs.lemmas.List.{length-replicate}
use Rattle.format.specs.Entry.{Text}
use Rattle.format.specs.Ast.{Condition, MacroDef}
use Rattle.format.specs.Tape.{Reading, registry_root, read}
use Rattle.definition.specs.Answers.{Buffers, expand_answer}
use Rattle.definition.specs.Calls.{calls_condition}
use Rattle.definition.specs.Counts.{fresh_counts, ceiling, calls_of, add_calls, counts_after, when_read, when_taken, expand_counts, Expansion}
use Rattle.definition.specs.Returned.{At, here, behind}
use Rattle.definition.specs.CountsUsed.{calls_entered, Builds, HandsBack, Succeeds, CountsUsed, Run, ended, then, Substituted, no_more, of_refused, of_successful, CountsAddUp}
use Rattle.definition.proofs.Counts.{few_definitions, refusal_keeps_counts}
use Rattle.definition.proofs.CallsSpelled.{calls_as_entered}
use Rattle.definition.proofs.OwnResult.{expanded}

-- ------------------------------------------------------------------ cells by their index

module _ {A : Type 0} where
  at_first : {a b : A} {list : List A} → At (a ∷ list) zero b → b ≡ a
  at_first here = refl

  at_later : {a b : A} {list : List A} {i : ℕ} → At (a ∷ list) (suc i) b → At list i b
  at_later (behind h) = h

  -- an index stands in a list, or behind it
  at_or_behind : (list : List A) (i : ℕ) → ((a : A) × At list i a) ⊎ (length list ≤ i)
  at_or_behind [] i = inr (omega arith)
  at_or_behind (a ∷ list) zero = inl (a, here)
  at_or_behind (a ∷ list) (suc i) = go (at_or_behind list i)
    where
      go : ((b : A) × At list i b) ⊎ (length list ≤ i) → ((b : A) × At (a ∷ list) (suc i) b) ⊎ (suc (length list) ≤ suc i)
      go (inl h) = inl (h.0, behind h.1)
      go (inr h) = inr (omega (arith, h))

  -- two lists that have the same at each index of a third, and no more
  same_list : {B : Type 0} (given : List B) (list other : List A) → length list ≡ length given → length other ≡ length given
      → ((i : ℕ) (b : B) → At given i b → (a : A) × At list i a × At other i a) → list ≡ other
  same_list [] [] [] p q f = refl
  same_list [] (a ∷ list) other p q f = absurd (omega (arith, p))
  same_list [] [] (a ∷ other) p q f = absurd (omega (arith, q))
  same_list (b ∷ given) [] other p q f = absurd (omega (arith, p))
  same_list (b ∷ given) (a ∷ list) [] p q f = absurd (omega (arith, q))
  same_list {B} (b ∷ given) (a ∷ list) (a' ∷ other) p q f =
      let h = f 0 b here in
      ap₂ ◌∷◌ (sym (at_first h.1) ∙ at_first h.2)
      (same_list given list other (omega (arith, p)) (omega (arith, q)) λ i c k. go i c (f (suc i) c (behind k)))
    where
      go : (i : ℕ) (c : B) → (v : A) × At (a ∷ list) (suc i) v × At (a' ∷ other) (suc i) v → (v : A) × At list i v × At other i v
      go i c h = (h.0, at_later h.1, at_later h.2)

zeros_alone : (n i k : ℕ) → At (replicate {A = ℕ} n 0) i k → k ≡ 0
zeros_alone zero i k h = elim h [ ]
zeros_alone (suc n) zero k h = at_first h
zeros_alone (suc n) (suc i) k h = zeros_alone n i k (at_later h)

all_zeros : (list : List ℕ) → ((i k : ℕ) → At list i k → k ≡ 0) → list ≡ replicate (length list) 0
all_zeros [] f = refl
all_zeros (k ∷ list) f = ap₂ ◌∷◌ (f 0 k here) (all_zeros list λ i l h. f (suc i) l (behind h))

-- ------------------------------------------------------------------ the state

module _ (calls : List Text) where
  raised_cell : {defs : List MacroDef} {state : List ℕ} {i k : ℕ} {d : MacroDef} → At defs i d → At state i k
      → At (add_calls defs calls state) i (min ceiling (k + calls_of d.name calls))
  unfolding add_calls
  raised_cell here here = here
  raised_cell (behind h) (behind k) = behind (raised_cell h k)

  cell_behind : (defs : List MacroDef) {state : List ℕ} {i k : ℕ} → length defs ≤ i → At state i k → At (add_calls defs calls state) i k
  unfolding add_calls
  cell_behind [] h s = s
  cell_behind (d ∷ defs) h here = absurd (omega (arith, h))
  cell_behind (d ∷ defs) h (behind s) = behind (cell_behind defs (omega (arith, h)) s)

  same_length : (defs : List MacroDef) (state : List ℕ) → length (add_calls defs calls state) ≡ length state
  unfolding add_calls
  same_length [] state = refl
  same_length (d ∷ defs) [] = refl
  same_length (d ∷ defs) (k ∷ state) = ap suc (same_length defs state)

-- ------------------------------------------------------------------ ours

one_reading : {A : Type 0} {o : Reading A} {a b : A} → o ≡ Reading.accepted a → o ≡ Reading.accepted b → a ≡ b
one_reading p q = cc

handed_back : (b : Buffers) (limit file : ℕ) (x y state : List ℕ) (defs : List MacroDef) (c : Condition) → Succeeds b limit file x y defs c
    → expand_counts b limit file x y state ≡ add_calls defs (calls_condition c) state
unfolding expand_counts counts_after when_taken when_read
handed_back b limit file x y state defs c s =
    let e = expanded b limit file x y s.is_0 in
    let same_defs = one_reading s.its_defs e.its_registry in
    let same_condition = one_reading s.its_condition e.its_condition in
    rw (same_defs, same_condition, e.long_enough, e.its_registry, e.its_condition, e.succeeds, expand_counts, when_taken) refl

-- a definition's count behind an expansion that succeeds
cell_raised : (b : Buffers) (limit file : ℕ) (x y state : List ℕ) (defs : List MacroDef) (c : Condition) → Succeeds b limit file x y defs c
    → (i k : ℕ) (d : MacroDef) → At defs i d → At state i k
    → At (expand_counts b limit file x y state) i (min ceiling (k + calls_entered d.name c))
cell_raised b limit file x y state defs c s i k d h j =
    rw (handed_back b limit file x y state defs c s, calls_as_entered d.name c) (raised_cell (calls_condition c) h j)

pub counts_used : CountsUsed (λ m x. fresh_counts) expand_counts
unfolding fresh_counts ceiling
counts_used =
    record {
      start_at_0 = λ m x. zeros_alone 255;
      cells_built = λ m x. length-replicate {A = ℕ} 255 0;
      refused = refusal_keeps_counts;
      raised = λ b limit file x y state defs c s i k d h j few.
          subst (λ (n : ℕ). At (expand_counts b limit file x y state) i n) (omega (arith, few))
          (cell_raised b limit file x y state defs c s i k d h j);
      at_the_ceiling = λ b limit file x y state defs c s i k d h j many.
          subst (λ (n : ℕ). At (expand_counts b limit file x y state) i n) (omega (arith, many))
          (cell_raised b limit file x y state defs c s i k d h j);
      behind_the_last = λ b limit file x y state defs c s i k far j.
          rw (handed_back b limit file x y state defs c s) (cell_behind (calls_condition c) defs far j);
      as_many_cells = λ b limit file x y state defs c s.
          rw (handed_back b limit file x y state defs c s) (same_length (calls_condition c) defs state);
    }

-- ------------------------------------------------------------------ whatever meets the promises

module _ {built built' : Builds} {g g' : HandsBack} (p : CountsUsed built g) (q : CountsUsed built' g') where
  one_start : (m : ℕ) (x : List ℕ) → built m x ≡ built' m x
  one_start m x =
      all_zeros (built m x) (p.start_at_0 m x)
      ∙ (ap (λ (n : ℕ). replicate {A = ℕ} n 0) (p.cells_built m x ∙ sym (q.cells_built m x))
      ∙ sym (all_zeros (built' m x) (q.start_at_0 m x)))

  module _ (b : Buffers) (limit file : ℕ) (x y state : List ℕ) where
    -- what stands at an index of both
    Both : ℕ → Type 0
    Both i = (v : ℕ) × At (g b limit file x y state) i v × At (g' b limit file x y state) i v

    module _ (defs : List MacroDef) (c : Condition) (s : Succeeds b limit file x y defs c) where
      counted : (i k : ℕ) (d : MacroDef) → At defs i d → At state i k → Both i
      unfolding Both
      counted i k d h j = go (cases_lt 4294967295 (k + calls_entered d.name c))
        where
          go : (4294967295 < k + calls_entered d.name c) ⊎ (k + calls_entered d.name c ≤ 4294967295) → Both i
          go (inl many) = (
            4294967295,
            p.at_the_ceiling b limit file x y state defs c s i k d h j many,
            q.at_the_ceiling b limit file x y state defs c s i k d h j many,
          )
          go (inr few) = (
            k + calls_entered d.name c,
            p.raised b limit file x y state defs c s i k d h j few,
            q.raised b limit file x y state defs c s i k d h j few,
          )

      one_cell : (i k : ℕ) → At state i k → Both i
      unfolding Both
      one_cell i k j = go (at_or_behind defs i)
        where
          go : ((d : MacroDef) × At defs i d) ⊎ (length defs ≤ i) → Both i
          go (inl h) = counted i k h.0 h.1 j
          go (inr far) = (
            k,
            p.behind_the_last b limit file x y state defs c s i k far j,
            q.behind_the_last b limit file x y state defs c s i k far j,
          )

      same_state : g b limit file x y state ≡ g' b limit file x y state
      unfolding Both
      same_state =
          same_list state _ _ (p.as_many_cells b limit file x y state defs c s) (q.as_many_cells b limit file x y state defs c s) one_cell

    one_state : g b limit file x y state ≡ g' b limit file x y state
    one_state = go (expand_answer b limit file x y).number refl
      where
        go : (n : ℕ) → (expand_answer b limit file x y).number ≡ n → g b limit file x y state ≡ g' b limit file x y state
        go zero e =
            let h = expanded b limit file x y e in
            same_state h.defs h.condition (record { its_defs = h.its_registry; its_condition = h.its_condition; is_0 = e })
        go (suc n) e =
            let r : (expand_answer b limit file x y).number ≢ 0 = λ z. absurd (omega (arith, e, z)) in
            p.refused b limit file x y state r ∙ sym (q.refused b limit file x y state r)

pub determined : (built : Builds) (g : HandsBack) → CountsUsed built g
    → ((m : ℕ) (x : List ℕ) → built m x ≡ fresh_counts)
    × ((b : Buffers) (limit file : ℕ) (x y state : List ℕ) → g b limit file x y state ≡ expand_counts b limit file x y state)
determined built g p = (one_start p counts_used, one_state p counts_used)

-- ------------------------------------------------------------------ runs

module _ {built : Builds} {g : HandsBack}
    (p : CountsUsed built g) (x : List ℕ) (defs : List MacroDef) (its_defs : read registry_root x ≡ Reading.accepted defs) where
  -- a count behind an expansion that is not refused
  cell_after : (e : Expansion) (state : List ℕ) (ds : List MacroDef) (c : Condition) → Succeeds e.buffers e.limit e.file x e.input ds c
      → (i k : ℕ) (d : MacroDef) → At defs i d → At state i k → k ≤ 4294967295
      → At (g e.buffers e.limit e.file x e.input state) i (min 4294967295 (k + calls_entered d.name c))
  cell_after e state ds c z i k d h j low = go (cases_lt 4294967295 (k + calls_entered d.name c))
    where
      at : At ds i d
      at = subst (λ (l : List MacroDef). At l i d) (one_reading its_defs z.its_defs) h

      Cell : ℕ → Type 0
      Cell v = At (g e.buffers e.limit e.file x e.input state) i v

      go : (4294967295 < k + calls_entered d.name c) ⊎ (k + calls_entered d.name c ≤ 4294967295)
          → Cell (min 4294967295 (k + calls_entered d.name c))
      go (inl many) = subst Cell (omega (arith, many)) (p.at_the_ceiling e.buffers e.limit e.file x e.input state ds c z i k d at j many)
      go (inr few) = subst Cell (omega (arith, few)) (p.raised e.buffers e.limit e.file x e.input state ds c z i k d at j few)

  -- a count that is not above the ceiling, raised by the calls of a run
  adds_up : {d : MacroDef} {es : List Expansion} {state back : List ℕ} {i k n : ℕ} → Run g x es state back → At defs i d → At state i k
      → k ≤ 4294967295
      → Substituted x d.name es n
      → At back i (min 4294967295 (k + n))
  adds_up {i = i} (ended {state = state}) h j low no_more = subst (λ (v : ℕ). At state i v) (omega (arith, low)) j
  adds_up (then {e = e} {state = state} r) h j low (of_refused z s) =
      adds_up r h (rw (p.refused e.buffers e.limit e.file x e.input state z) j) low s
  adds_up {d} {i = i} {k = k} (then {e = e} {state = state} {back = back} r) h j low (of_successful {n = n} {defs = ds} {c = c} z s) =
      subst (λ (v : ℕ). At back i v) (omega (arith, low))
      (adds_up r h (cell_after e state ds c z i k d h j low) (omega arith) s)

-- where an index of one list is one of another
inside : {A B : Type 0} {list : List A} {a : A} {i : ℕ} → At list i a → (other : List B) → length list ≤ length other
    → (b : B) × At other i b
inside here [] h = absurd (omega (arith, h))
inside here (b ∷ other) h = (b, here)
inside (behind j) [] h = absurd (omega (arith, h))
inside (behind j) (b ∷ other) h = let k = inside j other (omega (arith, h)) in (k.0, behind k.1)

pub counts_add_up : CountsAddUp
counts_add_up built g p m x defs q its_defs es back r i n d h s =
    let few = few_definitions x defs q its_defs in
    let j = inside h (built m x) (omega (arith, few, p.cells_built m x)) in
    let zero_at = subst (λ (v : ℕ). At (built m x) i v) (p.start_at_0 m x i j.0 j.1) j.1 in
    subst (λ (v : ℕ). At back i v) (omega arith) (adds_up p x defs its_defs r h zero_at (omega arith) s)
