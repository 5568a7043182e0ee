-- Trees so small that they cannot be too deep: at most four calls, and either 64 entries or few nodes that may have others in them.
-- Assumes nothing.
use Rattle.std.specs.Prelude.{◌≡◌, ℕ, ◌+◌, ◌*◌, List, [], ◌∷◌, Bool, ◌&&◌, ◌||◌, leb, eqb}
use Rattle.format.specs.Limits.{weigh}
use Rattle.format.specs.Stands.{part}
use Rattle.tape.specs.Layouts.{holds}
use Rattle.tape.specs.declared.layout.Layout.{Layout}

-- the sum of a figure of codes
abbrev pub sum_of : (ℕ → ℕ) → List ℕ → ℕ
sum_of f [] = 0
sum_of f (c ∷ cs) = f c + sum_of f cs

-- How many codes pass a test: what the sum is of whichever test all its answers agree with.
unfoldable pub Passing : List ℕ → (ℕ → Bool → Type 0) → ℕ → Type 0
Passing cs P n = (f : ℕ → Bool) → ((c : ℕ) (b : Bool) → P c b → b ≡ f c) → n ≡ sum_of (λ (c : ℕ). weigh (f c)) cs

-- of those of a layout
abbrev pub sum_in : (ℕ → ℕ) → List ℕ → Layout → ℕ
sum_in f s l = sum_of f (part s l.codes l.entries)

-- how often a code stands there
abbrev pub weight_of : ℕ → ℕ → ℕ
weight_of code c = weigh (eqb c code)

-- a condition that may have another in it, an array, an aggregate as a term, or arithmetic; a predicate and a comparison have nothing but
-- terms in them
abbrev pub is_branch : ℕ → Bool
is_branch c = (leb 1 c && leb c 6 || leb 9 c && leb c 13) || leb 29 c && leb c 31

abbrev pub branch_weight : ℕ → ℕ
branch_weight c = weigh (is_branch c)

-- A path has such nodes on it, and behind them a predicate and a term. An aggregate, a 30, makes it two nodes longer: by the 34 to 36
-- behind it, and by the predicate or comparison that it stands in.
abbrev pub is_small : List ℕ → Layout → Bool
is_small s l =
    leb (sum_in (weight_of 54) s l) 4
    && (leb l.entries 64 || leb (sum_in branch_weight s l + 2 * sum_in (weight_of 30) s l) 61)

abbrev pub is_flat : List ℕ → Layout → Bool
is_flat s l = holds s l && is_small s l
