-- The profile of what stands at a layout is that of the tree whose entries stand there.
-- Assumes nothing.
use Prim.Native.Nat.{ℕ, ◌+◌}
use mathlib.Core.Path.{◌≡◌, refl, ap, ◌∙◌}
use mathlib.Core.List.{List, [], ◌∷◌}
use native.Mathlib.Omega.{arith}
use borrow.Author.Tests.{lt-ltb, le-ltb}
use lib.ListN.{length}
use Rattle.format.specs.Entry.{Entry}
use Rattle.format.specs.Ast.{Condition}
use Rattle.format.specs.Flat.{flat_condition}
use Rattle.format.specs.Stands.{Stands}
use Rattle.format.proofs.Accepted.{Values64}
use Rattle.format.proofs.All.{all_nil, all_cons}
use Rattle.format.proofs.Stands.{stands_code, stands_value, stands_next}
use Rattle.format.proofs.Tests.{is_true}
use Rattle.definition.specs.Profile.{profile}
use Rattle.tape.specs.Layouts.{code_at, value_at, holds}
use Rattle.tape.specs.declared.layout.Layout.{Layout}
use Rattle.tape.proofs.Holding.{holding}
use Rattle.tape.proofs.Located.{Inside}
use Rattle.tape.proofs.Runs.{place}
use Rattle.profile.specs.Entries.{args_at, heads_at, profile_in}
use Rattle.profile.proofs.Trees.{args_in, heads_of, profile_of}

module _ (s : List ℕ) (l : Layout) where
  -- the value of the third entry behind, if there is one
  args_stand : (at txt : ℕ) (es : List Entry) → at + 1 + length es ≡ l.entries → Values64 es
      → Stands s l.codes l.values l.text (at + 1) txt es → args_at s l at ≡ args_in es
  unfolding args_at args_in
  args_stand at txt [] n v h = rw (le-ltb (at + 3) l.entries (omega arith)) refl
  args_stand at txt (a ∷ []) n v h = rw (le-ltb (at + 3) l.entries (omega arith)) refl
  args_stand at txt (a ∷ b ∷ []) n v h = rw (le-ltb (at + 3) l.entries (omega arith)) refl
  args_stand at txt (a ∷ b ∷ c ∷ es) n (all_cons p (all_cons q (all_cons r v))) h =
      let third : at + 1 + 1 + 1 ≡ at + 3 = omega arith in
      rw (lt-ltb (at + 3) l.entries (omega arith)) (rw third at ((stands_value (stands_next (stands_next h))).1 r))

  heads_stand : (at txt : ℕ) {es : List Entry} → at + length es ≡ l.entries → Values64 es
      → Stands s l.codes l.values l.text at txt es → heads_at s l at (length es) ≡ heads_of es
  unfolding heads_at heads_of
  heads_stand at txt n all_nil h = refl
  heads_stand at txt n (all_cons {a = e} {l = es} v vs) h =
      let c : code_at s l at ≡ e.code = (stands_code h).1 in
      let x : value_at s l at ≡ e.value = (stands_value h).1 v in
      let next = stands_next h in
      rw (c, x, args_stand at (txt + length e.text) es (omega arith) vs next, heads_stand (at + 1) (txt + length e.text) (omega arith) vs next) refl

pub profile_stands : {s : List ℕ} {l : Layout} (c : Condition) → Inside s l (place 0 0) (flat_condition c) → l.entries ≡ length (flat_condition c)
    → profile_in s l ≡ profile c
unfolding profile_in
profile_stands {s} {l} c i n =
    let heads : heads_at s l 0 l.entries ≡ heads_of (flat_condition c) =
    ap (heads_at s l 0) n ∙ heads_stand s l 0 0 (omega (arith, n)) i.run.small_values i.run.stands in
    rw (is_true {b = holds s l} (holding s l i.run.held), heads) (profile_of c)
