-- What the tests of an entry say, and what is read where it has a code.
-- Assumes nothing.
use Rattle.std.proofs.Common.{Option, Some, None}
use Prim.Native.Nat.{ℕ, ◌+◌, ◌*◌, ◌≤◌, ◌<◌}
use mathlib.Core.Path.{◌≡◌, refl, sym, ◌∙◌}
use mathlib.Core.Bool.{Bool, true, false, not}
use mathlib.Core.List.{List}
use borrow.Author.Tests.{eq-eqb, ne_eqb, not-false}
use lib.Dec.{ltb, eqb, ltb→lt, leb→le}
use lib.ListN.{length}
use Rattle.format.specs.Tape.{is_text, text_width}
use Rattle.format.proofs.Tests.{and_left, and_right, from_true}
use Rattle.tape.specs.Layouts.{code_at, value_at, width_at, onward}
use Rattle.tape.specs.Pick.{pick}
use Rattle.tape.specs.declared.layout.Layout.{Layout}
use Rattle.tape.specs.declared.layout.Place.{Place}
use Rattle.nodes.specs.Node.{has_entry, has_text, on_entry, entry_at, expect_at}

-- what the two tests say
pub entry_held : {r : Bool} (len : ℕ) (l : Layout) (at : ℕ) → r ≡ has_entry len l at → not r ≡ false
    → (l.codes + at < len) × (l.values + 8 * at + 8 ≤ len)
unfolding has_entry
entry_held {r} len l at e h =
    let t = from_true (sym e ∙ not-false r h) in
    (ltb→lt (l.codes + at) len (and_left (ltb (l.codes + at) len) _ t), leb→le (l.values + 8 * at + 8) len (and_right (ltb (l.codes + at) len) _ t))

pub text_held : {r : Bool} (len : ℕ) (l : Layout) (p : Place) (size : ℕ) → r ≡ has_text len l p size → not r ≡ false
    → l.text + p.text + size ≤ len
unfolding has_text
text_held {r} len l p size e h = leb→le (l.text + p.text + size) len (from_true (sym e ∙ not-false r h))

-- ------------------------------------------------------------------ the entry at a place, if it has a code

module _ (s : List ℕ) (l : Layout) (p : Place) (code : ℕ) where
  pub expect_none : has_entry (length s) l p.at ≡ false → None ≡ expect_at s l p code
  unfolding expect_at entry_at
  expect_none h = rw h

  module _ (h : has_entry (length s) l p.at ≡ true) where
    pub expect_other : {c : ℕ} → c ≡ code_at s l p.at → (c ≡ code → ⊥) → None ≡ expect_at s l p code
    unfolding expect_at entry_at
    expect_other {c} q n =
        let v = value_at s l p.at in
        let size = text_width (is_text c) v in
        rw (h, ← q) (go (has_text (length s) l p size) c v (onward p size) n)
      where
        go : (b : Bool) (c v : ℕ) (next : Place) → (c ≡ code → ⊥)
            → ◌≡◌ {A = Option (ℕ × Place)} None (on_entry None (λ found value next. pick (eqb found code) (Some (value, next)) None) (pick b (Some (c, v, next)) None))
        go true c v next n = rw (ne_eqb c code n)
        go false c v next n = refl

    module _ {v size : ℕ} (k : code_at s l p.at ≡ code) (y : v ≡ value_at s l p.at) (z : size ≡ text_width (is_text code) v) where
      width : width_at s l p.at ≡ size
      width = rw (k, ← y) (sym z)

      pub expect_past : has_text (length s) l p size ≡ false → None ≡ expect_at s l p code
      unfolding expect_at entry_at
      expect_past t = rw (h, width, t)

      pub expect_value : has_text (length s) l p size ≡ true → Some (v, onward p size) ≡ expect_at s l p code
      unfolding expect_at entry_at
      expect_value t = rw (h, width, t, k, eq-eqb code code refl, ← y)
