-- Runs of entries that stand at a place of a layout: what is read there, where they end, their names, their size, and whether they
-- pass a largest figure.
-- Assumes nothing.
use Rattle.std.proofs.Common.{Option, Some, None}
use Prim.Native.Nat.{ℕ, ◌+◌, ◌-◌, ◌≤◌, ◌<◌}
use mathlib.Core.Path.{◌≡◌, refl, ap, subst, ◌∙◌}
use mathlib.Core.Bool.{Bool, true, false, not, ◌&&◌}
use mathlib.Core.List.{List, [], ◌∷◌, ◌++◌, map}
use native.Mathlib.Omega.{arith}
use borrow.Author.Tests.{le-leb}
use lib.Dec.{leb, leb→le, le→leb}
use lib.ListN.{length, length-append}
use Rattle.definition.specs.Size.{size}
use Rattle.format.specs.Entry.{Entry, entry, codes_of, text_of}
use Rattle.format.specs.Limits.{fits_depths}
use Rattle.format.specs.Stands.{Stands}
use Rattle.format.proofs.Accepted.{length_codes, Values64}
use Rattle.format.proofs.All.{all_left, all_right, all_head}
use Rattle.format.proofs.Stands.{text_append, stands_front, stands_back, stands_code, stands_value}
use Rattle.tape.specs.Layouts.{layout, area_layout, Held, holds, code_at, value_at, entries_at, size_between}
use Rattle.grammar.specs.Counts.{due_of, has_pairs, count_words}
use Rattle.grammar.specs.Waits.{wait}
use Rattle.grammar.specs.Words.{temporal_grammar}
use Rattle.grammar.proofs.Counted.{start_counts}
use Rattle.grammar.proofs.Marks.{Table, temporal}
use Rattle.tape.specs.Pick.{pick}
use Rattle.tape.specs.Scan.{scan_of, scan_from, starts, scan_at, skip_at, over_of, too_deep_in}
use Rattle.tape.specs.Skip.{count_from}
use Rattle.tape.specs.declared.layout.Layout.{Layout}
use Rattle.tape.specs.declared.layout.Place.{Place}
use Rattle.tape.proofs.Holding.{holding, starting}
use Rattle.tape.proofs.Passing.{PassesBy, any_pass, reported}
use Rattle.tape.proofs.Places.{entries_stand}
use Rattle.tape.proofs.Skipping.{EndsAt, counted_ends}
use Rattle.format.proofs.Tests.{and_left, and_right, and_both, is_true}

-- the place n entries and t text bytes further on
abbrev pub place : ℕ → ℕ → Place
place at text = record { at = at; text = text }

-- The entries stand at the place, in a slice that holds the layout.
pub record Run (s : List ℕ) (l : Layout) (p : Place) (es : List Entry) : Type 0 where
  pub held : Held s l
  pub stands : Stands s l.codes l.values l.text p.at p.text es
  pub entries_left : p.at + length es ≤ l.entries
  pub text_left : p.text + length (text_of es) ≤ l.size
  pub small_values : Values64 es

-- the layout of a work area that a buffer can hold
pub area_is : (base n t : ℕ) → base ≤ 65536 → area_layout base n t ≡ layout base (base + 1024) (base + 9216) n t
area_is base n t h = rw (le-leb base 65536 h)

module _ {s : List ℕ} {l : Layout} {p : Place} where
  -- two runs: the first at the place, the second behind it
  pub run_front : (es fs : List Entry) → Run s l p (es ++ fs) → Run s l p es
  run_front es fs r =
      let n = length-append es fs in
      let t = ap length (text_append es fs) ∙ length-append (text_of es) (text_of fs) in
      record {
        held = r.held;
        stands = stands_front es fs r.stands;
        entries_left = omega (arith, r.entries_left);
        text_left = omega (arith, r.text_left);
        small_values = all_left es fs r.small_values;
      }

  pub run_back : (es fs : List Entry) → Run s l p (es ++ fs) → Run s l (place (p.at + length es) (p.text + length (text_of es))) fs
  run_back es fs r =
      let n = length-append es fs in
      let t = ap length (text_append es fs) ∙ length-append (text_of es) (text_of fs) in
      record {
        held = r.held;
        stands = stands_back es fs r.stands;
        entries_left = omega (arith, r.entries_left);
        text_left = omega (arith, r.text_left);
        small_values = all_right es r.small_values;
      }

  -- the first entry, as it is read
  module _ {e : Entry} {es : List Entry} (r : Run s l p (e ∷ es)) where
    pub run_code : code_at s l p.at ≡ e.code
    run_code = (stands_code r.stands).1

    pub run_value : value_at s l p.at ≡ e.value
    run_value = (stands_value r.stands).1 (all_head r.small_values)

-- ------------------------------------------------------------------ the scan of a run

abbrev kind : Option (Place × Bool) → ℕ
kind None = 0
kind (Some (p, over)) = 1

module _ {t : Table} {s : List ℕ} {l : Layout} {p : Place} {es : List Entry} {sort : ℕ} {d : (ℕ → ℕ) → ℕ} {x : Bool} where
  scan_run : (b : PassesBy t (sort ∷ []) es d x) → sort < 32 → Run s l p es
      → scan_at t.grammar s l p sort 0 ≡ Some (place (p.at + length es) (p.text + length (text_of es)), b.over 0 0 0)
  scan_run b h r =
      let starts_there : starts s l p sort ≡ true =
      is_true (starting s l p sort (record {
        held = r.held;
        at_most = omega (arith, r.entries_left);
        text_most = omega (arith, r.text_left);
        is_sort = h;
      })) in
      let k = l.entries - p.at - length es in
      let n : l.entries - p.at ≡ length es + k = omega (arith, r.entries_left) in
      let rest = entries_at t.grammar s l (p.at + length es) (p.text + length (text_of es)) k in
      rw (starts_there, n, entries_stand t s l p.at p.text b.texted r.small_values r.stands k)
      (b.run 0 l.size 0 0 [] rest p.at p.text false (omega arith) (omega arith) r.text_left (any_pass es) ∙ stops rest)
    where
      stops : (rest : List Entry) {at text : ℕ} {o : Bool} → scan_of t.grammar 0 l.size rest [] at text o ≡ Some (place at text, o)
      stops [] = refl
      stops (e ∷ more) = refl

-- the same by counting, for a tree of document 01
pub count_run : {s : List ℕ} {l : Layout} {p : Place} {es : List Entry} {sort : ℕ} {d : (ℕ → ℕ) → ℕ} {x : Bool}
    → PassesBy temporal (sort ∷ []) es d x → sort < 32 → Run s l p es
    → skip_at s l p sort ≡ Some (place (p.at + length es) (p.text + length (text_of es)))
count_run {s} {l} {p} {es} {sort} b h r =
    let n = l.entries - p.at in
    let ends = counted_ends s l n (wait sort 0 0 ∷ []) p.at p.text false (start_counts sort h) in
    go (starts s l p sort) (scan_run b h r) ends
  where
    end : Place
    end = place (p.at + length es) (p.text + length (text_of es))

    go : (y : Bool) {o : Bool} → pick y (scan_from temporal_grammar s l p sort 0) None ≡ Some (end, o)
        → EndsAt (scan_from temporal_grammar s l p sort 0) (count_from count_words s l (l.entries - p.at) (due_of sort) (has_pairs sort) p.at p.text)
        → pick y (count_from count_words s l (l.entries - p.at) (due_of sort) (has_pairs sort) p.at p.text) None ≡ Some end
    go true e c = subst (λ (z : Option (Place × Bool)). EndsAt z (count_from count_words s l (l.entries - p.at) (due_of sort) (has_pairs sort) p.at p.text)) e c
    go false e c = absurd (ended e)
      where
        ended : {o : Bool} → ◌≡◌ {A = Option (Place × Bool)} None (Some (end, o)) → ⊥
        ended e = let z : ◌≡◌ {A = ℕ} 0 1 = ap kind e in omega arith

-- a tree at the start of a layout is too deep if it passes the limits on depths
pub deep_run : {t : Table} {s : List ℕ} {l : Layout} {es : List Entry} {sort : ℕ} {d : (ℕ → ℕ) → ℕ} → PassesBy t (sort ∷ []) es d true
    → sort < 32 → Run s l (place 0 0) es → too_deep_in t.grammar s l sort ≡ not (fits_depths (d (t.nodes false)) (d t.calls))
unfolding fits_depths
deep_run {t} {d = d} b h r =
    let nodes = d (t.nodes false) in
    let calls = d t.calls in
    ap over_of (scan_run b h r)
    ∙ reported (leb nodes 64 && leb calls 4) (b.says 0 0 0 (omega arith) (omega arith))
    (λ u. record {
      nodes_keep = omega (arith, leb→le nodes 64 (and_left (leb nodes 64) _ u));
      calls_keep = omega (arith, leb→le calls 4 (and_right (leb nodes 64) _ u));
      listed_keep = tt;
      texts_keep = tt;
    })
    (λ k. and_both (leb nodes 64) _ (le→leb nodes 64 (omega (arith, k.nodes_keep))) (le→leb calls 4 (omega (arith, k.calls_keep))))

-- ------------------------------------------------------------------ the size of a run

coded_size : (es : List Entry) → size (map (λ (c : ℕ). entry c 0) (codes_of es)) ≡ size es
unfolding size codes_of
coded_size [] = refl
coded_size (e ∷ es) = omega (arith, coded_size es)

pub size_run : {s : List ℕ} {l : Layout} {p : Place} {es : List Entry} → Run s l p es → size_between s l p.at (p.at + length es) ≡ size es
size_run {s} {l} {p} {es} r =
    let to = p.at + length es in
    let n : to - p.at ≡ length (codes_of es) = omega (arith, length_codes es) in
    let b : (holds s l && (leb p.at to && leb to l.entries)) ≡ true =
    is_true (and_both (holds s l) _ (holding s l r.held) (and_both (leb p.at to) _ (le→leb p.at to (omega arith)) (le→leb to l.entries r.entries_left))) in
    rw (b, n, r.stands.its_codes.spelled) (coded_size es)
