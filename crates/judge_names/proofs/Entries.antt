-- The entries that are read at a layout are those of the tree that stands there, and so the comparison of four tapes is that of the
-- trees on them.
-- Assumes nothing.
use Prim.Native.Nat.{ℕ, ◌+◌, ◌-◌, ◌≤◌}
use native.Mathlib.Omega.{arith}
use native.Mathlib.Numerals.{add-one}
use mathlib.Core.Path.{◌≡◌, refl, sym, ap, ap₂, ◌∙◌}
use mathlib.Core.List.{List, [], ◌∷◌, ◌++◌}
use mathlib.Core.Bool.{true}
use lib.ListN.{length, length-append}
use borrow.Author.Tests.{le-leb}
use Rattle.format.specs.Entry.{Entry, text_of}
use Rattle.format.proofs.All.{all_head}
use Rattle.format.proofs.Tests.{is_true}
use Rattle.tape.specs.Layouts.{holds, width_at}
use Rattle.tape.specs.declared.layout.Layout.{Layout}
use Rattle.tape.proofs.Holding.{holding}
use Rattle.tape.proofs.Located.{past, Inside, inside_next}
use Rattle.tape.proofs.Runs.{place, run_code, run_value}
use Rattle.nodes.proofs.Entries.{is_spelled}
use Rattle.format.specs.Names.{names_in}
use Rattle.definition.specs.Agree.{same_but_names}
use Rattle.judge_names.specs.Entries.{text_at, spelled_at, entry_at, entries_from, entries_in, same_in}

module _ {s : List ℕ} {l : Layout} where
  width_is : {i text : ℕ} {e : Entry} {es : List Entry} → Inside s l (place i text) (e ∷ es) → width_at s l i ≡ length e.text
  width_is h = rw (run_code h.run, run_value h.run) (sym (all_head h.texted))

  entry_is : (i text : ℕ) {e : Entry} {es : List Entry} → Inside s l (place i text) (e ∷ es) → text_at s l i ≡ text → entry_at s l i ≡ e
  unfolding entry_at
  entry_is i text {e} h t =
      let its : spelled_at s l i (text_at s l i) ≡ e.text = rw (width_is h, t) (is_spelled h) in
      λ j. record { code = run_code h.run j; value = run_value h.run j; text = its j }

  text_goes_on : (i text : ℕ) {e : Entry} {es : List Entry} → Inside s l (place i text) (e ∷ es) → text_at s l i ≡ text
      → text_at s l (i + 1) ≡ text + length e.text
  unfolding text_at text_of
  text_goes_on i text {e} {es} h t =
      let room : length e.text ≤ l.size - text = omega (arith, h.run.text_left, length-append e.text (text_of es)) in
      rw (add-one i, t, width_is h, le-leb (length e.text) (l.size - text) room) refl

  entries_stand : (i text : ℕ) (es : List Entry) → Inside s l (place i text) es → text_at s l i ≡ text → entries_from s l i (length es) ≡ es
  unfolding entries_from past
  entries_stand i text [] h t = refl
  entries_stand i text (e ∷ es) h t =
      ap₂ ◌∷◌ (entry_is i text h t) (entries_stand (i + 1) (text + length e.text) es (inside_next e es h) (text_goes_on i text h t))

  pub entries_are : {es : List Entry} → Inside s l (place 0 0) es → l.entries ≡ length es → entries_in s l ≡ es
  unfolding text_at
  entries_are {es} h n = ap (entries_from s l 0) n ∙ entries_stand 0 0 es h refl

-- a tape whose entries are known
pub record Whole (s : List ℕ) (l : Layout) (es : List Entry) : Type 0 where
  pub inside : Inside s l (place 0 0) es
  pub entries_are : l.entries ≡ length es

held_whole : {s : List ℕ} {l : Layout} {es : List Entry} → Whole s l es → holds s l ≡ true
held_whole {s} {l} w = is_true {b = holds s l} (holding s l w.inside.run.held)

pub same_are : {s t reg cond : List ℕ} {l m d c : Layout} {es fs rs cs : List Entry} → Whole s l es → Whole t m fs → Whole reg d rs → Whole cond c cs
    → same_in s l t m reg d cond c ≡ same_but_names (names_in cs ++ names_in rs) [] es fs
unfolding same_in
same_are {s} {t} {reg} {cond} {l} {m} {d} {c} ours theirs defs rule =
    rw (
      held_whole defs,
      held_whole rule,
      held_whole ours,
      held_whole theirs,
      entries_are ours.inside ours.entries_are,
      entries_are theirs.inside theirs.entries_are,
      entries_are defs.inside defs.entries_are,
      entries_are rule.inside rule.entries_are,
    )
    refl
