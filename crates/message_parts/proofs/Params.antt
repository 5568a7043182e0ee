-- Parameters that are read one after the other, and the least of their names.
-- Assumes nothing.
use Rattle.std.proofs.Common.{Some, None}
use Prim.Native.Nat.{ℕ, zero, suc, ◌+◌}
use native.Mathlib.Numerals.{add-one}
use mathlib.Core.Path.{◌≡◌, refl}
use mathlib.Core.List.{List}
use mathlib.Core.Option.{Option as Maybe}
use Rattle.format.specs.Entry.{Text}
use Rattle.nodes.specs.Node.{name_at, param_at}
use Rattle.tape.specs.declared.layout.Layout.{Layout}
use Rattle.tape.specs.declared.layout.Place.{Place}
use Rattle.nodes.specs.declared.Name.{Name as NameIn}
use Rattle.message_parts.specs.Names.{names_at, lower, least_in}

module _ (s : List ℕ) (l : Layout) (f b : Maybe Text) (p : Place) where
  -- one name more is looked at
  pub least_next : (m n : ℕ) {name : NameIn} {next : Place} {b' : Maybe Text} → m + 1 ≡ n → param_at s l p ≡ Some (name, next)
      → b' ≡ lower f b (name_at s l name) → least_in f b' (names_at s l next m) ≡ least_in f b (names_at s l p n)
  unfolding least_in names_at
  least_next m n h e q = rw (← h, add-one, e, q, names_at, least_in)

  pub least_end : (n : ℕ) → param_at s l p ≡ None → b ≡ least_in f b (names_at s l p n)
  unfolding least_in names_at
  least_end zero e = refl
  least_end (suc n) e = rw (e, names_at, least_in)

  pub least_done : (n : ℕ) → n ≡ 0 → b ≡ least_in f b (names_at s l p n)
  unfolding least_in names_at
  least_done n h = rw h
