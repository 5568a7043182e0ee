-- Tables that are well made: the marks of their codes are the tests of format. The table of document 01 is one.
-- Assumes nothing.
use Prim.Native.Nat.{ℕ, ◌≤◌, ◌<◌}
use mathlib.Core.Path.{◌≡◌, refl, sym}
use mathlib.Core.Bool.{Bool, true, false, ◌&&◌}
use mathlib.Core.List.{List, [], ◌∷◌}
use native.Mathlib.Decide.{dec_lt}
use native.Mathlib.Omega.{arith}
use borrow.Author.Tests.{ne_eqb}
use lib.Dec.{T, leb, ltb, eqb, eqb→eq}
use lib.ListN.{get_or, get_or-eq_default}
use Rattle.format.specs.DeMorgan.{or_weight}
use Rattle.format.specs.Limits.{is_node, is_call, weigh, node_weight, call_weight}
use Rattle.format.specs.Macro.{is_code}
use Rattle.format.specs.Names.{is_name}
use Rattle.format.specs.Tape.{is_text, longest_text, longest_named}
use Rattle.format.proofs.Tests.{and_right}
use Rattle.format.proofs.Weights.{de_morgan_outweighs}
use Rattle.grammar.specs.Pick.{pick}
use Rattle.grammar.specs.declared.rules.SortRule.{SortRule}
use Rattle.grammar.specs.declared.rules.NodeRule.{NodeRule}
use Rattle.grammar.specs.declared.rules.NodeRule.TheVariants.{NoNode, One, Rewritten, TwoInInput}
use Rattle.grammar.specs.Words.{Rules, temporal_grammar, no_codes, leaf, row_at, in_sort, text_mark, long_mark, name_mark, nodes_of, nesting_of, calls_of, longest_of}
use Rattle.grammar.proofs.Table.{every, at, same, same_eq}

-- A table whose marks say which values are the lengths of texts, as format does for every tape; and how much its codes count in nesting,
-- in an input or elsewhere, and as calls.
pub record Table : Type 0 where
  pub grammar : Rules
  pub nodes : Bool → ℕ → ℕ
  pub calls : ℕ → ℕ
  pub texts_are : (c : ℕ) → text_mark (row_at grammar c) ≡ is_text c
  pub nodes_are : (limited : Bool) (c : ℕ) → nesting_of limited (row_at grammar c) ≡ nodes limited c
  pub calls_are : (c : ℕ) → calls_of (row_at grammar c) ≡ calls c

-- a code counts no more elsewhere than in an input
rule_fewer : (r : NodeRule) → nodes_of false r ≤ nodes_of true r
rule_fewer NoNode = omega arith
rule_fewer One = omega arith
rule_fewer Rewritten = omega arith
rule_fewer TwoInInput = omega arith

pub fewer : (t : Table) (c : ℕ) → t.nodes false c ≤ t.nodes true c
fewer t c = omega (arith, t.nodes_are false c, t.nodes_are true c, rule_fewer (row_at t.grammar c).nodes)

-- ------------------------------------------------------------------ past the last code

pub past_row : (c : ℕ) → 77 ≤ c → row_at temporal_grammar c ≡ leaf
unfolding temporal_grammar
past_row c h = get_or-eq_default temporal_grammar.codes leaf {n = c} (omega arith)

-- what the table says of a sort with a number below 32
abbrev pub sort_of : ℕ → SortRule
sort_of n = get_or temporal_grammar.sorts n no_codes

-- no sort has a code past the table
abbrev ends : ℕ → Bool
ends n = leb (sort_of n).end 77 && leb (sort_of n).end_too 77

all_end : T (every ends 0 32)
unfolding temporal_grammar
all_end = tt

pub past_sort : (n c : ℕ) → n < 32 → 77 ≤ c → T (in_sort (sort_of n) c) → ⊥
past_sort n c h g i = let t = at ends 0 32 all_end n (omega arith) h in grind arith

-- codes of which the highest is below n
abbrev below : ℕ → List ℕ → Bool
below n [] = true
below n (k ∷ ks) = ltb k n && below n ks

pub no_code : (ks : List ℕ) (c : ℕ) → T (below 77 ks) → 77 ≤ c → is_code ks c ≡ false
unfolding is_code
no_code [] c t h = refl
no_code (k ∷ ks) c t h = grind (arith, no_code ks c (and_right (ltb k 77) _ t) h)

no_node : (c : ℕ) → 77 ≤ c → is_node c ≡ false
unfolding is_node
no_node c h = grind arith

-- a law of the codes that there are, which is computed, and of those past them
pub everywhere : {P : ℕ → Type 0} → ((c : ℕ) → c < 77 → P c) → ((c : ℕ) → 77 ≤ c → P c) → (c : ℕ) → P c
everywhere {P} inside past c = go (dec_lt c 77)
  where
    go : Dec (c < 77) → P c
    go (yes g) = inside c g
    go (no g) = past c (omega arith)

-- two tests, or two numbers, that are computed to be the same at each of those
pub same_below : (f g : ℕ → Bool) → T (every (λ (k : ℕ). same (f k) (g k)) 0 77) → (c : ℕ) → c < 77 → f c ≡ g c
same_below f g t c h = same_eq (f c) (g c) (at (λ (k : ℕ). same (f k) (g k)) 0 77 t c (omega arith) h)

pub equal_below : (f g : ℕ → ℕ) → T (every (λ (k : ℕ). eqb (f k) (g k)) 0 77) → (c : ℕ) → c < 77 → f c ≡ g c
equal_below f g t c h = eqb→eq (f c) (g c) (at (λ (k : ℕ). eqb (f k) (g k)) 0 77 t c (omega arith) h)

-- ------------------------------------------------------------------ the marks of document 01's table

pub text_marks : (c : ℕ) → text_mark (row_at temporal_grammar c) ≡ is_text c
unfolding temporal_grammar is_text is_code
text_marks =
    everywhere (same_below (λ (k : ℕ). text_mark (row_at temporal_grammar k)) (λ (k : ℕ). is_text k) tt)
    (λ c h. rw (past_row c h) (sym (no_code (22 ∷ 23 ∷ 27 ∷ 32 ∷ 33 ∷ 40 ∷ 43 ∷ 44 ∷ 45 ∷ 52 ∷ 58 ∷ 59 ∷ 72 ∷ 74 ∷ []) c tt h)))

pub long_marks : (c : ℕ) → long_mark (row_at temporal_grammar c) ≡ is_code (22 ∷ 23 ∷ 72 ∷ 74 ∷ []) c
unfolding temporal_grammar is_code
long_marks =
    everywhere
    (same_below (λ (k : ℕ). long_mark (row_at temporal_grammar k)) (λ (k : ℕ). is_code (22 ∷ 23 ∷ 72 ∷ 74 ∷ []) k) tt)
    (λ c h. rw (past_row c h) (sym (no_code (22 ∷ 23 ∷ 72 ∷ 74 ∷ []) c tt h)))

pub name_marks : (c : ℕ) → name_mark (row_at temporal_grammar c) ≡ is_code (27 ∷ 43 ∷ []) c
unfolding temporal_grammar is_code
name_marks =
    everywhere
    (same_below (λ (k : ℕ). name_mark (row_at temporal_grammar k)) (λ (k : ℕ). is_code (27 ∷ 43 ∷ []) k) tt)
    (λ c h. rw (past_row c h) (sym (no_code (27 ∷ 43 ∷ []) c tt h)))

-- In an input an Or counts for the three nodes that it is rewritten to; every other code counts what it counts elsewhere.
abbrev pub nodes_in : Bool → ℕ → ℕ
nodes_in true = or_weight node_weight
nodes_in false = node_weight

pub node_marks : (limited : Bool) (c : ℕ) → nesting_of limited (row_at temporal_grammar c) ≡ nodes_in limited c
unfolding temporal_grammar is_node weigh or_weight
node_marks true =
    everywhere
    (equal_below (λ (k : ℕ). nesting_of true (row_at temporal_grammar k)) (λ (k : ℕ). or_weight node_weight k) tt)
    (λ c h. rw (past_row c h, ← ((de_morgan_outweighs node_weight).other c (ne_eqb c 2 (λ (e : c ≡ 2). omega arith))), no_node c h))
node_marks false =
    everywhere
    (equal_below (λ (k : ℕ). nesting_of false (row_at temporal_grammar k)) (λ (k : ℕ). node_weight k) tt)
    (λ c h. rw (past_row c h, no_node c h))

pub call_marks : (c : ℕ) → calls_of (row_at temporal_grammar c) ≡ call_weight c
unfolding temporal_grammar is_call weigh
call_marks =
    everywhere
    (equal_below (λ (k : ℕ). calls_of (row_at temporal_grammar k)) (λ (k : ℕ). call_weight k) tt)
    (λ c h. rw (past_row c h, ne_eqb c 54 (λ (e : c ≡ 54). omega arith)))

-- with a figure for names the longest texts are format's
pub longest_marks : (most c : ℕ) → longest_of most (row_at temporal_grammar c) ≡ longest_named most c
unfolding is_name longest_named longest_text
longest_marks most c = rw (name_marks c, long_marks c) (go (is_code (27 ∷ 43 ∷ []) c) (is_code (22 ∷ 23 ∷ 72 ∷ 74 ∷ []) c))
  where
    go : (name long : Bool)
        → pick name most (pick long 255 64)
        ≡ elim name [ true ↦ most | false ↦ elim long [ true ↦ 255 | false ↦ 64 ] ]
    go true long = refl
    go false true = refl
    go false false = refl

-- and with 64 they are those of the other inputs
pub longest_64 : (c : ℕ) → longest_named 64 c ≡ longest_text c
unfolding is_name longest_named longest_text is_code
longest_64 =
    everywhere (equal_below (λ (k : ℕ). longest_named 64 k) (λ (k : ℕ). longest_text k) tt)
    (λ c h. rw (longest_named, no_code (27 ∷ 43 ∷ []) c tt h))

abbrev pub temporal : Table
temporal =
    record {
      grammar = temporal_grammar;
      nodes = nodes_in;
      calls = call_weight;
      texts_are = text_marks;
      nodes_are = node_marks;
      calls_are = call_marks;
    }
