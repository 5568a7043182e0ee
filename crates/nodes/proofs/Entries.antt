-- The entry at a place of a tape or of a work area: what is read there, and the name that it spells.
-- Assumes nothing.
use Rattle.std.proofs.Common.{Some}
use Prim.Native.Nat.{ℕ, ◌+◌, ◌*◌}
use mathlib.Core.Path.{◌≡◌, refl, sym}
use mathlib.Core.List.{List, [], ◌∷◌}
use lib.ListN.{length}
use borrow.Author.Tests.{lt-ltb, le-leb, eq-eqb}
use Rattle.format.specs.Entry.{Text, Entry}
use Rattle.format.specs.Tape.{is_text, text_width}
use Rattle.format.proofs.All.{all_head}
use Rattle.format.proofs.Encodes.{WellTexted}
use Rattle.format.proofs.Stands.{stands_code, stands_value, stands_text}
use Rattle.tape.specs.declared.layout.Layout.{Layout}
use Rattle.tape.specs.declared.layout.Place.{Place}
use Rattle.tape.proofs.Located.{past, Inside}
use Rattle.tape.proofs.Runs.{run_code, run_value}
use Rattle.nodes.specs.Node.{has_entry, has_text, named, entry_at, expect_at, name_at}
use Rattle.nodes.specs.declared.Name.{Name}

texted_first : {e : Entry} {es : List Entry} → WellTexted (e ∷ es) → text_width (is_text e.code) e.value ≡ length e.text
texted_first h = sym (all_head h)

module _ {s : List ℕ} {l : Layout} {p : Place} where
  pub is_entry : {e : Entry} {es : List Entry} → Inside s l p (e ∷ es) → entry_at s l p ≡ Some (e.code, e.value, past (e ∷ []) p)
  unfolding entry_at has_entry has_text past
  is_entry {e} {es} i =
      let stands = i.run.stands in
      rw (run_code i.run, run_value i.run, texted_first i.texted)
      (rw (
        lt-ltb (l.codes + p.at) (length s) (stands_code stands).0,
        le-leb (l.values + 8 * p.at + 8) (length s) (stands_value stands).0,
        le-leb (l.text + p.text + length e.text) (length s) (stands_text stands).inside,
      ))

  pub is_expected : {e : Entry} {es : List Entry} → Inside s l p (e ∷ es) → expect_at s l p e.code ≡ Some (e.value, past (e ∷ []) p)
  unfolding expect_at
  is_expected {e} i = rw (is_entry i, eq-eqb e.code e.code refl)

  -- the name of the first entry
  pub is_spelled : {e : Entry} {es : List Entry} → Inside s l p (e ∷ es) → name_at s l (named p (length e.text)) ≡ e.text
  unfolding name_at
  is_spelled {e} i =
      let t = stands_text i.run.stands in
      rw (le-leb (l.text + p.text + length e.text) (length s) t.inside) t.spelled

-- A name that is read, and the text that spells it.
pub record Named (s : List ℕ) (l : Layout) (Reads : Name → Type 0) (text : Text) : Type 0 where
  pub name : Name
  pub read : Reads name
  pub spelled : name_at s l name ≡ text
