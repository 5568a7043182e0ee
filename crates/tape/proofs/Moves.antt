-- The automaton that decides a text, a byte at a time.
-- Assumes nothing.
use Prim.Native.Nat.{ℕ, ◌+◌, ◌≤◌, ◌<◌}
use mathlib.Core.Path.{◌≡◌, refl, sym, ap, ◌∙◌}
use mathlib.Core.Bool.{Bool, true, false}
use mathlib.Core.List.{List, []}
use native.Mathlib.Numerals.{add-one}
use native.Mathlib.Omega.{arith}
use borrow.Author.Tests.{le-leb, lt-ltb, le-ltb}
use lib.Dec.{T, leb, ltb, eqb, leb→le, eqb→eq}
use lib.ListN.{length, drop, get_or, drop_of_length-le, get_or-eq_default}
use lib.Seq.{drop-cons}
use Rattle.format.specs.Entry.{Text}
use Rattle.format.specs.Utf8.{◌to◌, within, Move, moves, moved, next, run}
use Rattle.grammar.proofs.Table.{every, at}
use Rattle.tape.specs.Pick.{pick}

-- ------------------------------------------------------------------ one byte

-- what a first byte leads to, from the lowest byte up
abbrev first_state : ℕ → ℕ
first_state b =
    pick (ltb b 0x20) 8 (pick (ltb b 0x7F) 0 (pick (ltb b 0xC2) 8 (pick (ltb b 0xE0) 1 (pick (ltb b 0xE1) 4 (pick (ltb b 0xED) 2
    (pick (ltb b 0xEE) 5 (pick (ltb b 0xF0) 2 (pick (ltb b 0xF1) 6 (pick (ltb b 0xF4) 3 (pick (ltb b 0xF5) 7 8))))))))))

first_all : T (every (λ (b : ℕ). eqb (next 0 b) (first_state b)) 0 256)
unfolding next moves moved within
first_all = tt

pub first_is : (b : ℕ) → b < 256 → next 0 b ≡ first_state b
first_is b h = eqb→eq (next 0 b) (first_state b) (at (λ (k : ℕ). eqb (next 0 k) (first_state k)) 0 256 first_all b (omega arith) (omega arith))

pub ruleset first_bytes = (first_is, lt-ltb, le-ltb)

next_printing : (b : ℕ) → within (0x20 to 0x7E) b ≡ true → next 0 b ≡ 0
unfolding next moves moved
next_printing b h = rw (h, moved)

-- a state is a row, and no move leads out of one without
pub next_is : (s b : ℕ) → next s b ≡ pick (leb 8 s) 8 (moved (get_or moves s []) b)
unfolding next moves moved
next_is s b = go (leb 8 s) (leb→le 8 s)
  where
    go : (c : Bool) → (T c → 8 ≤ s) → next s b ≡ pick c 8 (moved (get_or moves s []) b)
    go false h = refl
    go true h = ap (λ (ms : List Move). moved ms b) (get_or-eq_default moves [] {n = s} (h tt))

pub ruleset rows = (next_is, le-leb)

-- ------------------------------------------------------------------ the bytes from a place on

module _ (t : Text) (i : ℕ) where
  pub run_step : (s : ℕ) → i < length t → run s (drop i t) ≡ run (next s (get_or t i 0)) (drop (i + 1) t)
  unfolding run
  run_step s h = rw (drop-cons t i 0 h, add-one) refl

  pub run_end : (s : ℕ) → length t ≤ i → run s (drop i t) ≡ s
  unfolding run
  run_end s h = rw (drop_of_length-le t {i = i} h) refl

  -- printing bytes lead nowhere
  pub run_printing : i < length t → within (0x20 to 0x7E) (get_or t i 0) ≡ true → run 0 (drop (i + 1) t) ≡ run 0 (drop i t)
  run_printing h p = sym (run_step 0 h ∙ ap (λ (s : ℕ). run s (drop (i + 1) t)) (next_printing (get_or t i 0) p))
