-- A small tree is not too deep: whatever stands on a path is weighed.
-- Assumes nothing.
use Rattle.std.proofs.Common.{None}
use Prim.Native.Nat.{ℕ, zero, suc, ◌+◌, ◌-◌, ◌*◌, ◌≤◌, ◌%◌}
use mathlib.Core.Path.{◌≡◌, refl, ap, ◌∙◌}
use mathlib.Core.Bool.{Bool, true, false, ◌&&◌, ◌||◌}
use mathlib.Core.List.{List, [], ◌∷◌, ◌++◌}
use native.Mathlib.Nat.{add-zero}
use native.Mathlib.Omega.{arith}
use borrow.Author.Tests.{le-ltb}
use lib.Dec.{T, leb, eqb, leb→le}
use lib.ListN.{length, drop, get_or, length-take}
use Rattle.format.specs.Entry.{Entry}
use Rattle.format.specs.Limits.{is_call, weigh}
use Rattle.format.specs.Stands.{part}
use Rattle.format.proofs.All.{All, all_nil, all_cons, all_append, all_map}
use Rattle.format.proofs.Stands.{part_cons}
use Rattle.format.proofs.Tests.{and_left, and_right, from_true, is_true}
use Rattle.grammar.specs.Grammar.{sorts_of}
use Rattle.grammar.specs.Words.{Rules, temporal_grammar, sort_at, row_at, in_sort, nesting_of, calls_of, follows_of}
use Rattle.grammar.specs.Waits.{Wait, wait, waits, head_of, accepts, deeper, enclosed, exceeds, below}
use Rattle.grammar.specs.declared.entry.Head.{Head}
use Rattle.grammar.proofs.Depths.{room_of, is_enough, bounded}
use Rattle.grammar.proofs.Marks.{call_marks}
use Rattle.grammar.proofs.Table.{at as at-number}
use Rattle.tape.specs.Flat.{sum_of, sum_in, weight_of, is_branch, branch_weight, is_small, is_flat}
use Rattle.tape.specs.Layouts.{Held, width_by, entries_at, holds}
use Rattle.tape.specs.Pick.{pick}
use Rattle.tape.specs.Scan.{scan_of, scan_from, starts, text_passes, over_of, too_deep}
use Rattle.tape.specs.declared.layout.Layout.{Layout}
use Rattle.tape.proofs.Holding.{held}

-- ------------------------------------------------------------------ sums over codes

sum_same : {f g : ℕ → ℕ} → ((c : ℕ) → f c ≡ g c) → (cs : List ℕ) → sum_of f cs ≡ sum_of g cs
sum_same h [] = refl
sum_same h (c ∷ cs) = omega (arith, h c, sum_same h cs)

sum_plus : (f g : ℕ → ℕ) (cs : List ℕ) → sum_of (λ (c : ℕ). f c + 2 * g c) cs ≡ sum_of f cs + 2 * sum_of g cs
sum_plus f g [] = refl
sum_plus f g (c ∷ cs) = omega (arith, sum_plus f g cs)

sum_ones : (cs : List ℕ) → sum_of (λ (c : ℕ). 1) cs ≡ length cs
sum_ones [] = refl
sum_ones (c ∷ cs) = omega (arith, sum_ones cs)

weigh_most : (b : Bool) → weigh b ≤ 1
unfolding weigh
weigh_most true = omega arith
weigh_most false = omega arith

pub sum_most : (p : ℕ → Bool) (cs : List ℕ) → sum_of (λ (c : ℕ). weigh (p c)) cs ≤ length cs
sum_most p [] = omega arith
sum_most p (c ∷ cs) = omega (arith, weigh_most (p c), sum_most p cs)

few_such : (p : ℕ → Bool) (s : List ℕ) (k n : ℕ) → n ≤ 1024 → sum_of (λ (c : ℕ). weigh (p c)) (part s k n) ≤ 1024
few_such p s k n h = omega (arith, sum_most p (part s k n), length-take n (drop k s))

pub few_codes : (code : ℕ) (s : List ℕ) (k n : ℕ) → n ≤ 1024 → sum_of (weight_of code) (part s k n) ≤ 1024
few_codes code s k n h = few_such (λ (c : ℕ). eqb c code) s k n h

pub few_branches : (s : List ℕ) (k n : ℕ) → n ≤ 1024 → sum_of branch_weight (part s k n) ≤ 1024
few_branches s k n h = few_such is_branch s k n h

abbrev calls_in : ℕ → ℕ
calls_in c = calls_of (row_at temporal_grammar c)

calls_marks : (c : ℕ) → calls_in c ≡ weight_of 54 c
unfolding is_call
calls_marks c = call_marks c

abbrev codes_of : List Entry → List ℕ
codes_of [] = []
codes_of (e ∷ es) = e.code ∷ codes_of es

codes_are : (g : Rules) (s : List ℕ) (l : Layout) (n at txt : ℕ) → l.codes + at + n ≤ length s
    → codes_of (entries_at g s l at txt n) ≡ part s (l.codes + at) n
codes_are g s l zero at txt h = refl
codes_are g s l (suc n) at txt h =
    let e : l.codes + at + 1 ≡ l.codes + (at + 1) = omega arith in
    rw (part_cons s (l.codes + at) n (omega arith), e, codes_are g s l n (at + 1) (txt + width_by g s l at) (omega arith))

-- ------------------------------------------------------------------ a scan that passes no figure

abbrev calls_among : List Entry → ℕ
calls_among es = sum_of calls_in (codes_of es)

-- of weights and rooms that are enough
module _ (weight : ℕ → ℕ) (rooms : List ℕ) (all : T (is_enough weight rooms)) where
  -- a place below so few nodes and calls that what is left cannot pass a figure
  record Low (nodes calls : ℕ) (w : Wait) : Type 0 where
    calls_low : w.calls + calls ≤ 4
    nesting_low : w.nesting + (room_of rooms w.sort + nodes) ≤ 64

  low_less : {nodes calls : ℕ} (i k : ℕ) (w : Wait) → Low (i + nodes) (k + calls) w → Low nodes calls w
  low_less i k w p = record { calls_low = omega (arith, p.calls_low); nesting_low = omega (arith, p.nesting_low) }

  all_low : (m n x most k nodes calls : ℕ) → k + calls ≤ 4 → m ≤ x + n → x + (most + nodes) ≤ 64 → (ss : List ℕ)
      → All (λ (s : ℕ). n + room_of rooms s ≤ most) ss → All (Low nodes calls) (waits m k ss)
  all_low m n x most k nodes calls h₁ h₂ h₃ [] all_nil = all_nil
  all_low m n x most k nodes calls h₁ h₂ h₃ (s ∷ ss) (all_cons p ps) =
      all_cons {a = wait s m k} (record { calls_low = h₁; nesting_low = omega arith }) (all_low m n x most k nodes calls h₁ h₂ h₃ ss ps)

  module _ (w : Wait) (code value : ℕ) where
    abbrev head : Head
    head = head_of temporal_grammar w.sort code value

    -- what an entry at such a place does
    record Stays (nodes calls : ℕ) : Type 0 where
      passes : exceeds 0 w head ≡ false
      lower : All (Low nodes calls) (below 0 w head)

    stays : (nodes calls : ℕ) → in_sort head.sort code ≡ true → Low (weight code + nodes) (calls_of head.row + calls) w → Stays nodes calls
    stays nodes calls i p =
        let b = bounded weight rooms all w.sort code i in
        record {
          passes = rw (le-ltb 64 (w.nesting + nesting_of false head.row) (omega (arith, b.itself, p.nesting_low)), le-ltb 4 (w.calls + calls_of head.row) (omega (arith, p.calls_low)));
          lower = all_low (deeper 0 w.nesting head) (nesting_of false head.row) w.nesting (room_of rooms w.sort + weight code)
              (enclosed w.calls head) nodes calls (omega (arith, p.calls_low)) (omega arith) (omega (arith, p.nesting_low))
              (sorts_of (follows_of head.follows) value) (b.others value);
        }

  abbrev nodes_in : List Entry → ℕ
  nodes_in es = sum_of weight (codes_of es)

  flat_scan : (size : ℕ) (es : List Entry) (st : List Wait) (at text : ℕ) → All (Low (nodes_in es) (calls_among es)) st
      → over_of (scan_of temporal_grammar 0 size es st at text false) ≡ false
  flat_scan size [] [] at text h = refl
  flat_scan size [] (w ∷ st) at text h = refl
  flat_scan size (e ∷ es) [] at text h = refl
  flat_scan size (e ∷ es) (w ∷ st) at text (all_cons p h) =
      go lets_in refl
      (λ lower. flat_scan size es (below 0 w first ++ st) (at + 1) (text + first.text) (all_append lower (all_map (low_less _ _) h)))
    where
      first : Head
      first = head w e.code e.value

      lets_in : Bool
      lets_in = accepts (length es) (size - text) first && text_passes 0 e.text

      go : (b : Bool) → lets_in ≡ b
          → (All (Low (nodes_in es) (calls_among es)) (below 0 w first)
          → over_of (scan_of temporal_grammar 0 size es (below 0 w first ++ st) (at + 1) (text + first.text) false) ≡ false)
          → over_of (pick b (scan_of temporal_grammar 0 size es (below 0 w first ++ st) (at + 1) (text + first.text) (exceeds 0 w first)) None)
          ≡ false
      go false a next = refl
      go true a next =
          let u = and_left (accepts (length es) (size - text) first) _ (from_true a) in
          let i = is_true (and_left (in_sort (sort_at temporal_grammar w.sort) e.code) _ u) in
          let k = stays w e.code e.value (nodes_in es) (calls_among es) i p in
          rw k.passes (next k.lower)

-- ------------------------------------------------------------------ the weights and rooms there are

-- every entry weighs one, and there are no more nodes on a path
each_one : T (is_enough (λ (c : ℕ). 1) [])
unfolding temporal_grammar follows_of
each_one = tt

abbrev branches_weigh : ℕ → ℕ
branches_weigh c = branch_weight c + 2 * weight_of 30 c

-- a condition has room for a predicate and a term, a term for itself, and an aggregate for itself and a condition
abbrev branch_rooms : List ℕ
branch_rooms =
    0 ∷ 2 ∷ 1 ∷ 3  -- condition, term, aggregate
    ∷ 0 ∷ 0 ∷ 0 ∷ 0 ∷ 0 ∷ 0 ∷ 0
    ∷ 2 ∷ 2 ∷ 0 ∷ 2 ∷ 2  -- call, argument; definition, body
    ∷ 1 ∷ 0 ∷ 0 ∷ 0 ∷ 1 ∷ 0  -- field; fields
    ∷ 2 ∷ 0 ∷ 2 ∷ []  -- arguments; definitions

branches : T (is_enough branches_weigh branch_rooms)
unfolding temporal_grammar follows_of weigh
branches = tt

rooms_most : (s : ℕ) → room_of branch_rooms s ≤ 3
rooms_most s = leb→le _ 3 (at-number (λ (n : ℕ). leb (get_or branch_rooms n 0) 3) 0 32 tt (s % 32) (omega arith) (omega arith))

-- ------------------------------------------------------------------ the tree at the start of a layout

pub flat_shallow : (s : List ℕ) (l : Layout) (sort : ℕ) → is_flat s l ≡ true → too_deep s l sort ≡ false
flat_shallow s l sort flat = go (starts s l (record { at = 0; text = 0 }) sort)
  where
    h : Held s l
    h = held s l (and_left (holds s l) _ (from_true flat))

    es : List Entry
    es = entries_at temporal_grammar s l 0 0 (l.entries - 0)

    codes_there : codes_of es ≡ part s l.codes l.entries
    codes_there =
        let n : l.entries - 0 ≡ l.entries = omega arith in
        codes_are temporal_grammar s l (l.entries - 0) 0 0 (omega (arith, h.codes_held)) ∙ rw (n, add-zero l.codes) refl

    small : T (is_small s l)
    small = and_right (holds s l) _ (from_true flat)

    few_calls : calls_among es ≤ 4
    few_calls =
        let a = leb (sum_in (weight_of 54) s l) 4 in
        let k = leb→le (sum_in (weight_of 54) s l) 4 (and_left a _ small) in
        let calls : calls_among es ≡ sum_in (weight_of 54) s l = sum_same calls_marks (codes_of es) ∙ ap (sum_of (weight_of 54)) codes_there in
        omega arith

    scanned : over_of (scan_of temporal_grammar 0 l.size es (wait sort 0 0 ∷ []) 0 0 false) ≡ false
    scanned = by (leb l.entries 64) (leb→le l.entries 64) (and_right (leb (sum_in (weight_of 54) s l) 4) _ small)
      where
        by : (b : Bool) → (T b → l.entries ≤ 64) → T (b || leb (sum_in branch_weight s l + 2 * sum_in (weight_of 30) s l) 61)
            → over_of (scan_of temporal_grammar 0 l.size es (wait sort 0 0 ∷ []) 0 0 false) ≡ false
        by true f t =
            let n : sum_of (λ (c : ℕ). 1) (codes_of es) ≡ length (part s l.codes l.entries) = sum_ones (codes_of es) ∙ ap length codes_there in
            let m = length-take l.entries (drop l.codes s) in
            let k = f tt in
            flat_scan (λ (c : ℕ). 1) [] each_one l.size es (wait sort 0 0 ∷ []) 0 0
            (all_cons {a = wait sort 0 0} (record { calls_low = omega (arith, few_calls); nesting_low = omega arith }) all_nil)
        by false f t =
            let n : sum_of branches_weigh (codes_of es) ≡ sum_in branch_weight s l + 2 * sum_in (weight_of 30) s l =
            ap (sum_of branches_weigh) codes_there ∙ sum_plus branch_weight (weight_of 30) (part s l.codes l.entries) in
            let k = leb→le (sum_in branch_weight s l + 2 * sum_in (weight_of 30) s l) 61 t in
            flat_scan branches_weigh branch_rooms branches l.size es (wait sort 0 0 ∷ []) 0 0
            (all_cons {a = wait sort 0 0} (record { calls_low = omega (arith, few_calls); nesting_low = omega (arith, rooms_most sort, n, k) }) all_nil)

    go : (b : Bool) → over_of (pick b (scan_from temporal_grammar s l (record { at = 0; text = 0 }) sort 0) None) ≡ false
    go false = refl
    go true = scanned
