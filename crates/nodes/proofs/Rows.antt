-- A code that none of a table's rows has.
-- Assumes nothing.
use Prim.Native.Nat.{ℕ}
use mathlib.Core.Path.{◌≡◌, refl}
use mathlib.Core.List.{List, [], ◌∷◌}
use borrow.Author.Tests.{ne_eqb}
use Rattle.nodes.specs.Node.{by_code}

-- P, and that the code is in no row: as a match on the rows' codes has it where none was met
abbrev pub Absent : {A : Type 0} → Type 0 → List (ℕ × A) → ℕ → Type 0
Absent P [] code = P
Absent P (r ∷ rows) code = Absent (P × (code ≡ r.0 → ⊥)) rows code

known : {A : Type 0} (P : Type 0) (rows : List (ℕ × A)) (code : ℕ) → Absent P rows code → P
known P [] code h = h
known P (r ∷ rows) code h = (known (P × (code ≡ r.0 → ⊥)) rows code h).0

pub no_row : {A : Type 0} (P : Type 0) (rows : List (ℕ × A)) (other : A) (code : ℕ) → Absent P rows code → by_code rows other code ≡ other
no_row P [] other code h = refl
no_row P (r ∷ rows) other code h =
    rw (ne_eqb code r.0 (known (P × (code ≡ r.0 → ⊥)) rows code h).1) (no_row (P × (code ≡ r.0 → ⊥)) rows other code h)
