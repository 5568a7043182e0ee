-- Counts to which calls are added: none, one list and then another, two lists the other way round.
-- Assumes nothing.
use Prim.Native.Nat.{ℕ, suc, ◌+◌, ◌≤◌, ◌<◌, min}
use native.Mathlib.Omega.{arith}
use mathlib.Core.Path.{◌≡◌, refl, ap, ap₂, ◌∙◌}
use mathlib.Core.List.{List, [], ◌∷◌, ◌++◌}
use mathlib.Core.Bool.{Bool, true, false}
use lib.ListN.{get_or}
use Rattle.format.specs.Entry.{Text}
use Rattle.format.specs.Ast.{MacroDef}
use Rattle.format.proofs.All.{All, all_nil, all_cons}
use Rattle.definition.specs.Text.{eq_text}
use Rattle.definition.specs.Counts.{ceiling, calls_of, add_calls}

-- no count is past the ceiling
abbrev pub Bounded : List ℕ → Type 0
Bounded ks = All (λ (k : ℕ). k ≤ ceiling) ks

-- a slice's elements are: `all_bounded ks (λ i. c .. .slice-known .given i .fits)`
pub all_bounded : (ks : List ℕ) → ((i : ℕ) → get_or ks i 0 < 4294967296) → Bounded ks
unfolding ceiling
all_bounded [] h = all_nil
all_bounded (k ∷ ks) h = let most : k ≤ 4294967295 = omega (arith, h 0) in all_cons most (all_bounded ks (λ i. h (suc i)))

calls_append : (name : Text) (xs ys : List Text) → calls_of name (xs ++ ys) ≡ calls_of name xs + calls_of name ys
unfolding calls_of
calls_append name [] ys = omega arith
calls_append name (x ∷ xs) ys = go (eq_text name x) (calls_append name xs ys)
  where
    go : (b : Bool) → calls_of name (xs ++ ys) ≡ calls_of name xs + calls_of name ys
        → ◌≡◌ {A = ℕ} (elim b [ true ↦ suc (calls_of name (xs ++ ys)) | false ↦ calls_of name (xs ++ ys) ])
        ((elim b [ true ↦ suc (calls_of name xs) | false ↦ calls_of name xs ]) + calls_of name ys)
    go true e = omega arith
    go false e = e

pub add_bounded : (ds : List MacroDef) (calls : List Text) {ks : List ℕ} → Bounded ks → Bounded (add_calls ds calls ks)
unfolding add_calls
add_bounded [] calls h = h
add_bounded (d ∷ ds) calls all_nil = all_nil
add_bounded (d ∷ ds) calls (all_cons {a = k} h hs) =
    let most : min ceiling (k + calls_of d.name calls) ≤ ceiling = omega arith in all_cons most (add_bounded ds calls hs)

pub add_none : (ds : List MacroDef) {ks : List ℕ} → Bounded ks → add_calls ds [] ks ≡ ks
unfolding add_calls calls_of
add_none [] h = refl
add_none (d ∷ ds) all_nil = refl
add_none (d ∷ ds) (all_cons {a = k} h hs) = let e : min ceiling (k + 0) ≡ k = omega arith in ap₂ ◌∷◌ e (add_none ds hs)

-- calls of which each name has as many
same_calls : (xs ys : List Text) → ((name : Text) → calls_of name xs ≡ calls_of name ys) → (ds : List MacroDef) (ks : List ℕ)
    → add_calls ds xs ks ≡ add_calls ds ys ks
unfolding add_calls
same_calls xs ys h [] ks = refl
same_calls xs ys h (d ∷ ds) [] = refl
same_calls xs ys h (d ∷ ds) (k ∷ ks) = ap₂ ◌∷◌ (ap (λ (n : ℕ). min ceiling (k + n)) (h d.name)) (same_calls xs ys h ds ks)

pub add_swap : (xs ys : List Text) (ds : List MacroDef) (ks : List ℕ) → add_calls ds (xs ++ ys) ks ≡ add_calls ds (ys ++ xs) ks
add_swap xs ys ds ks = same_calls (xs ++ ys) (ys ++ xs) (λ name. omega (arith, calls_append name xs ys, calls_append name ys xs)) ds ks

-- a sum that stays at the ceiling
capped : (k m n : ℕ) → min ceiling (min ceiling (k + m) + n) ≡ min ceiling (k + (m + n))
unfolding ceiling
capped k m n = omega arith

pub add_append : (xs ys : List Text) (ds : List MacroDef) (ks : List ℕ) → add_calls ds ys (add_calls ds xs ks) ≡ add_calls ds (xs ++ ys) ks
unfolding add_calls
add_append xs ys [] ks = refl
add_append xs ys (d ∷ ds) [] = refl
add_append xs ys (d ∷ ds) (k ∷ ks) =
    ap₂ ◌∷◌
    (capped k (calls_of d.name xs) (calls_of d.name ys) ∙ ap (λ (n : ℕ). min ceiling (k + n)) (sym_calls d.name))
    (add_append xs ys ds ks)
  where
    sym_calls : (name : Text) → calls_of name xs + calls_of name ys ≡ calls_of name (xs ++ ys)
    sym_calls name = omega (arith, calls_append name xs ys)
