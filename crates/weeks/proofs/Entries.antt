-- The older tape at a layout is that of the entries that stand there.
-- Assumes nothing.
use Rattle.std.proofs.Common.{◌≡◌, ℕ, ◌+◌, ◌≤◌, Bool, true, false, ◌&&◌, eqb, List, [], ◌∷◌, length, refl, ap, ◌∙◌, append_assoc}
use Rattle.format.specs.Entry.{Entry, entry, codes_of, values_of, text_of, encode}
use Rattle.format.specs.Older.{as_days, older_entry, older_entries, fits_older}
use Rattle.format.specs.Stands.{Stands}
use Rattle.format.proofs.Accepted.{Values64}
use Rattle.format.proofs.All.{all_nil, all_cons}
use Rattle.format.proofs.Older.{older_length, older_text}
use Rattle.format.proofs.Stands.{stands_code, stands_value, stands_next, first_stands}
use Rattle.format.proofs.Tests.{is_true}
use Rattle.buffer.proofs.Zeros.{zeroed_behind}
use Rattle.definition.specs.Answers.{padded}
use Rattle.tape.specs.Layouts.{code_at, value_at, holds}
use Rattle.tape.specs.declared.layout.Layout.{Layout}
use Rattle.tape.proofs.Holding.{holding}
use Rattle.tape.proofs.Located.{Inside}
use Rattle.tape.proofs.Runs.{place}
use Rattle.de_morgan.proofs.Becoming.{bare}
use Rattle.weeks.specs.Heads.{heads_at, heads_in, fits_in, older_heads, older_tape_in, filled}

-- ------------------------------------------------------------------ entries without their texts

heads_stand : (s : List ℕ) (l : Layout) (at txt : ℕ) {es : List Entry} → Values64 es → Stands s l.codes l.values l.text at txt es
    → heads_at s l at (length es) ≡ bare es
unfolding heads_at bare
heads_stand s l at txt all_nil h = refl
heads_stand s l at txt (all_cons {a = e} v vs) h =
    let c : code_at s l at ≡ e.code = (stands_code h).1 in
    let x : value_at s l at ≡ e.value = (stands_value h).1 v in
    rw (c, x, heads_stand s l (at + 1) (txt + length e.text) vs (stands_next h)) refl

bare_code : (e : Entry) → (older_entry (entry e.code e.value)).code ≡ (older_entry e).code
unfolding older_entry as_days
bare_code e = go (eqb e.code 64)
  where
    go : (b : Bool) → (as_days b (entry e.code e.value)).code ≡ (as_days b e).code
    go true = refl
    go false = refl

bare_value : (e : Entry) → (older_entry (entry e.code e.value)).value ≡ (older_entry e).value
unfolding older_entry as_days
bare_value e = go (eqb e.code 64)
  where
    go : (b : Bool) → (as_days b (entry e.code e.value)).value ≡ (as_days b e).value
    go true = refl
    go false = refl

codes_bare : (es : List Entry) → codes_of (older_entries (bare es)) ≡ codes_of (older_entries es)
unfolding bare codes_of older_entries
codes_bare [] = refl
codes_bare (e ∷ es) = rw (bare_code e, codes_bare es) refl

values_bare : (es : List Entry) → values_of (older_entries (bare es)) ≡ values_of (older_entries es)
unfolding bare values_of older_entries
values_bare [] = refl
values_bare (e ∷ es) = rw (bare_value e, values_bare es) refl

fits_bare : (es : List Entry) → fits_older (bare es) ≡ fits_older es
unfolding bare fits_older
fits_bare [] = refl
fits_bare (e ∷ es) = rw (fits_bare es) refl

-- ------------------------------------------------------------------ entries that stand at the start of a layout

-- a buffer that is long enough
pub fill : (m tape : List ℕ) → length tape ≤ length m → filled m tape ≡ padded (length m) tape
unfolding filled
fill m tape h = zeroed_behind m tape (length tape) refl h

module _ {s : List ℕ} {l : Layout} {es : List Entry} (i : Inside s l (place 0 0) es) (n : l.entries ≡ length es)
    (t : l.size ≡ length (text_of es)) where
  heads_are : heads_in s l ≡ bare es
  heads_are = ap (heads_at s l 0) n ∙ heads_stand s l 0 0 i.run.small_values i.run.stands

  pub fits_are : fits_in s l ≡ fits_older es
  fits_are =
      ap (λ (b : Bool). b && fits_older (heads_in s l)) (is_true {b = holds s l} (holding s l i.run.held))
      ∙ ap fits_older heads_are ∙ fits_bare es

  pub tape_is : older_tape_in s l ≡ encode (older_entries es)
  unfolding older_tape_in older_heads encode
  tape_is =
      rw (
        heads_are,
        codes_bare es,
        values_bare es,
        n,
        t,
        (first_stands i.run.stands).2.spelled,
        older_length es,
        older_text es,
      )
      (simp append_assoc)
