-- One call more for each definition of a name: by the rows of a registry that stands what the definition adds.
-- Assumes nothing.
use Prim.Native.Nat.{ℕ, ◌+◌, min}
use native.Mathlib.Omega.{arith}
use mathlib.Core.Path.{◌≡◌, refl, ap₂}
use mathlib.Core.List.{List, [], ◌∷◌}
use mathlib.Core.Bool.{Bool, true, false}
use lib.Dec.{eqb}
use Rattle.format.specs.Entry.{Text, Entry, entry, text_entry}
use Rattle.format.specs.Ast.{MacroDef}
use Rattle.format.specs.Flat.{flat_def}
use Rattle.format.proofs.All.{all_nil, all_cons}
use Rattle.definition.specs.Text.{eq_text}
use Rattle.tape.specs.Pick.{pick}
use Rattle.tape.specs.declared.layout.Layout.{Layout}
use Rattle.tape.specs.declared.layout.Place.{Place}
use Rattle.tape.proofs.Located.{past, Inside, inside_next}
use Rattle.nodes.proofs.Entries.{is_expected, is_spelled}
use Rattle.registry.specs.Places.{key_of}
use Rattle.registry.specs.declared.rows.Row.{Row}
use Rattle.registry.proofs.Standing.{Indexed, indexed_nil, indexed_cons, other_key}
use Rattle.definition.specs.Counts.{ceiling, calls_of, add_calls}
use Rattle.expand_counts.specs.Counting.{name_behind_at, is_named, raised, raised_at}
use Rattle.expand_counts.proofs.Adding.{Bounded}

-- the name that stands behind an entry without text
pub name_behind : {s : List ℕ} {l : Layout} {p : Place} (code value : ℕ) (name : Text) (es : List Entry)
    → Inside s l p (entry code value ∷ text_entry 40 name ∷ es) → name_behind_at s l p ≡ name
unfolding name_behind_at past
name_behind code value name es i =
    let h = inside_next (entry code value) (text_entry 40 name ∷ es) i in
    rw (is_expected h) (is_spelled h)

module _ {reg : List ℕ} {d : Layout} where
  named_is : (r : Row) (x : MacroDef) (name : Text) → Inside reg d r.place (flat_def x) → r.key ≡ key_of x.name
      → is_named reg d r name ≡ eq_text x.name name
  unfolding is_named flat_def
  named_is r x name i k = rw (name_behind 60 x.span x.name _ i) (go (eqb r.key (key_of name)) refl)
    where
      go : (b : Bool) → eqb r.key (key_of name) ≡ b → pick b (eq_text x.name name) false ≡ eq_text x.name name
      go true e = refl
      go false e = rw (other_key r x.name name k e)

  pub raised_is : {rows : List Row} {defs : List MacroDef} → Indexed reg d rows defs → (name : Text) {ks : List ℕ} → Bounded ks
      → raised_at reg d rows name ks ≡ add_calls defs (name ∷ []) ks
  unfolding raised_at add_calls calls_of
  raised_is indexed_nil name h = refl
  raised_is (indexed_cons i k rest) name all_nil = refl
  raised_is (indexed_cons {r = r} {d = x} i k rest) name (all_cons {a = n} h hs) =
      ap₂ ◌∷◌ (rw (named_is r x name i k) (go (eq_text x.name name))) (raised_is rest name hs)
    where
      go : (b : Bool) → pick b (raised n) n ≡ min ceiling (n + (elim b [ true ↦ 1 | false ↦ 0 ]))
      go true = refl
      go false = omega arith
