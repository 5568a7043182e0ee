-- The table of provider tapes is well made.
-- Assumes nothing.
use Prim.Native.Nat.{ℕ, ◌≤◌, ◌<◌}
use mathlib.Core.Path.{◌≡◌, sym}
use mathlib.Core.Bool.{Bool, true, false, ◌&&◌}
use mathlib.Core.List.{[], ◌∷◌}
use native.Mathlib.Omega.{arith}
use lib.Dec.{leb}
use lib.ListN.{get_or-eq_default}
use Rattle.format.specs.Limits.{weigh}
use Rattle.format.specs.Macro.{is_code}
use Rattle.format.specs.Tape.{is_text, longest_text}
use Rattle.grammar.specs.Words.{provider_grammar, leaf, row_at, text_mark, nesting_of, calls_of, longest_of}
use Rattle.grammar.proofs.Marks.{Table, no_code, everywhere, same_below, equal_below}

past_row : (c : ℕ) → 77 ≤ c → row_at provider_grammar c ≡ leaf
unfolding provider_grammar
past_row c h = get_or-eq_default provider_grammar.codes leaf {n = c} (omega arith)

pub text_marks : (c : ℕ) → text_mark (row_at provider_grammar c) ≡ is_text c
unfolding provider_grammar is_text is_code
text_marks =
    everywhere (same_below (λ (k : ℕ). text_mark (row_at provider_grammar k)) (λ (k : ℕ). is_text k) tt)
    (λ c h. rw (past_row c h) (sym (no_code (22 ∷ 23 ∷ 27 ∷ 32 ∷ 33 ∷ 40 ∷ 43 ∷ 44 ∷ 45 ∷ 52 ∷ 58 ∷ 59 ∷ 72 ∷ 74 ∷ []) c tt h)))

-- "nesting counted over 71 to 76"
unfoldable pub is_argument : ℕ → Bool
is_argument c = leb 71 c && leb c 76

abbrev pub argument_weight : ℕ → ℕ
argument_weight c = weigh (is_argument c)

pub node_marks : (limited : Bool) (c : ℕ) → nesting_of limited (row_at provider_grammar c) ≡ argument_weight c
unfolding provider_grammar is_argument weigh
node_marks limited =
    everywhere (inside limited) (past limited)
  where
    inside : (limited : Bool) (c : ℕ) → c < 77 → nesting_of limited (row_at provider_grammar c) ≡ argument_weight c
    inside true = equal_below (λ (k : ℕ). nesting_of true (row_at provider_grammar k)) argument_weight tt
    inside false = equal_below (λ (k : ℕ). nesting_of false (row_at provider_grammar k)) argument_weight tt

    past : (limited : Bool) (c : ℕ) → 77 ≤ c → nesting_of limited (row_at provider_grammar c) ≡ argument_weight c
    past true c h = grind (arith, past_row c h)
    past false c h = grind (arith, past_row c h)

-- no code is a call of document 01's
pub call_marks : (c : ℕ) → calls_of (row_at provider_grammar c) ≡ 0
unfolding provider_grammar
call_marks =
    everywhere (equal_below (λ (k : ℕ). calls_of (row_at provider_grammar k)) (λ (k : ℕ). 0) tt)
    (λ c h. rw (past_row c h))

-- the longest texts are format's
pub longest_marks : (c : ℕ) → longest_of 64 (row_at provider_grammar c) ≡ longest_text c
unfolding provider_grammar is_code longest_text
longest_marks =
    everywhere
    (equal_below (λ (k : ℕ). longest_of 64 (row_at provider_grammar k)) (λ (k : ℕ). longest_text k) tt)
    (λ c h. rw (past_row c h, longest_text, no_code (22 ∷ 23 ∷ 72 ∷ 74 ∷ []) c tt h))

abbrev pub provider : Table
provider =
    record {
      grammar = provider_grammar;
      nodes = λ limited. argument_weight;
      calls = λ c. 0;
      texts_are = text_marks;
      nodes_are = node_marks;
      calls_are = call_marks;
    }
