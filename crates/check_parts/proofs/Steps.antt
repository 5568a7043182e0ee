-- The declared names one by one: k of n are behind p, and the name that is looked for is among all of them where it is among those left.
-- Assumes nothing.
use Rattle.std.proofs.Common.{Option, Some, None, ◌||◌}
use Prim.Native.Nat.{ℕ, suc, ◌+◌, ◌-◌, ◌≤◌, ◌<◌}
use native.Mathlib.Omega.{arith}
use mathlib.Core.Path.{◌≡◌, refl, ap, sym, ◌∙◌}
use mathlib.Core.List.{List, [], ◌∷◌}
use mathlib.Core.Bool.{Bool, true, false}
use Rattle.format.specs.Entry.{Text}
use Rattle.definition.specs.Text.{eq_text}
use Rattle.definition.specs.Check.{contains}
use Rattle.nodes.specs.Node.{param_at, name_at}
use Rattle.tape.specs.declared.layout.Layout.{Layout}
use Rattle.tape.specs.declared.layout.Place.{Place}
use Rattle.nodes.specs.declared.Name.{Name}
use Rattle.message_parts.specs.Names.{names_at}

module _ (s : List ℕ) (l : Layout) (p : Place) {x : Option (Name × Place)} (e : x ≡ param_at s l p) where
  pub one_name : (n : ℕ) {name : Name} {next : Place} → x ≡ Some (name, next) → names_at s l p (suc n) ≡ name_at s l name ∷ names_at s l next n
  unfolding names_at
  one_name n r = rw (sym e ∙ r, names_at)

  no_name : (n : ℕ) → x ≡ None → names_at s l p (suc n) ≡ []
  unfolding names_at
  no_name n r = rw (sym e ∙ r, names_at)

module _ (s : List ℕ) (l : Layout) (t : Text) (n k : ℕ) (p : Place) (all : List Text) (i : contains (names_at s l p (n - k)) t ≡ contains all t) where
  pub none_declared : n ≤ k → false ≡ contains all t
  unfolding contains names_at
  none_declared h = let m : n - k ≡ 0 = omega (arith, h) in rw m at i

  module _ (h : k < n) where
    one_more : contains (names_at s l p (suc (n - (k + 1)))) t ≡ contains all t
    one_more = let m : n - k ≡ suc (n - (k + 1)) = omega (arith, h) in sym (ap (λ (j : ℕ). contains (names_at s l p j) t) m) ∙ i

    pub no_param : None ≡ param_at s l p → false ≡ contains all t
    unfolding contains
    no_param e = ap (λ (ts : List Text). contains ts t) (sym (no_name s l p e (n - (k + 1)) refl)) ∙ one_more

    module _ {name : Name} {next : Place} (e : Some (name, next) ≡ param_at s l p) where
      one_or_more : eq_text (name_at s l name) t || contains (names_at s l next (n - (k + 1))) t ≡ contains all t
      unfolding contains
      one_or_more = ap (λ (ts : List Text). contains ts t) (sym (one_name s l p e (n - (k + 1)) refl)) ∙ one_more

      pub is_declared : true ≡ eq_text (name_at s l name) t → true ≡ contains all t
      is_declared z = ap (λ (b : Bool). b || contains (names_at s l next (n - (k + 1))) t) z ∙ one_or_more

      pub other_declared : false ≡ eq_text (name_at s l name) t → contains (names_at s l next (n - (k + 1))) t ≡ contains all t
      other_declared z = ap (λ (b : Bool). b || contains (names_at s l next (n - (k + 1))) t) z ∙ one_or_more
