-- Entries at a place of a tape or of a work area, and where the entries behind them stand.
-- Assumes nothing.
use Rattle.std.proofs.Common.{Some}
use Prim.Native.Nat.{ℕ, ◌+◌, ◌*◌, ◌<◌}
use native.Mathlib.Omega.{arith}
use mathlib.Core.Path.{◌≡◌, refl, sym, ap, ◌∙◌}
use mathlib.Core.List.{List, [], ◌∷◌, ◌++◌}
use mathlib.Core.Bool.{Bool}
use lib.Dec.{T}
use lib.ListN.{length, take, drop, length-append}
use lib.Seq.{slice, drop_at, take-add, length-take-le}
use Rattle.definition.specs.Size.{size}
use Rattle.format.specs.Entry.{Entry, codes_of, values_of, text_of}
use Rattle.format.specs.Stands.{part, Spells}
use Rattle.format.specs.Limits.{node_weight, call_weight, fits_depths}
use Rattle.format.specs.Rewritten.{weighted}
use Rattle.format.specs.Tape.{Root}
use Rattle.format.proofs.Accepted.{length_codes}
use Rattle.format.proofs.All.{all_left, all_right}
use Rattle.format.proofs.Encodes.{WellTexted, length_values}
use Rattle.format.proofs.Rewritten.{Rewrites, lighter}
use Rattle.tape.specs.Layouts.{onward, size_between}
use Rattle.tape.specs.Scan.{skip_at}
use Rattle.tape.specs.declared.layout.Layout.{Layout}
use Rattle.tape.specs.declared.layout.Place.{Place}
use Rattle.tape.proofs.Acceptance.{RootNamed}
use Rattle.tape.proofs.Passing.{Passes}
use Rattle.tape.proofs.Roots.{Accepted}
use Rattle.tape.proofs.Runs.{place, Run, run_front, run_back, count_run, size_run}

-- ------------------------------------------------------------------ the place behind entries

unfoldable pub past : List Entry → Place → Place
past [] p = p
past (e ∷ es) p = past es (onward p (length e.text))

pub past_append : (es fs : List Entry) (p : Place) → past (es ++ fs) p ≡ past fs (past es p)
unfolding past
past_append [] fs p = refl
past_append (e ∷ es) fs p = past_append es fs (onward p (length e.text))

pub past_at : (es : List Entry) (p : Place) → (past es p).at ≡ p.at + length es
unfolding past
past_at [] p = omega arith
past_at (e ∷ es) p = omega (arith, past_at es (onward p (length e.text)))

pub past_text : (es : List Entry) (p : Place) → (past es p).text ≡ p.text + length (text_of es)
unfolding past text_of
past_text [] p = omega arith
past_text (e ∷ es) p = omega (arith, past_text es (onward p (length e.text)), length-append e.text (text_of es))

-- the same place, as far on as there are entries and text
pub past_place : (es : List Entry) (p : Place) → past es p ≡ place (p.at + length es) (p.text + length (text_of es))
past_place es p = ap (λ (n : ℕ). place n (past es p).text) (past_at es p) ∙ ap (place (p.at + length es)) (past_text es p)

-- ------------------------------------------------------------------ entries inside a layout

-- A run whose texts are as long as their codes and values say: what every tree is spelled by.
pub record Inside (s : List ℕ) (l : Layout) (p : Place) (es : List Entry) : Type 0 where
  pub run : Run s l p es
  pub texted : WellTexted es

-- the tree of an accepted slice, at its start
pub accepted_inside : {A : Type 0} {root : Root A} {longest sort : ℕ} {s : List ℕ} {l : Layout} {a : A} → RootNamed longest root sort → Accepted root s l a
    → Inside s l (place 0 0) (root.flat a)
unfolding weighted
accepted_inside {a = a} r h = record { run = h.run; texted = (r.passes a).texted }

-- A tree alone in a layout, within the largest figures: that of an accepted tape, as it was given or rewritten.
pub record Alone {A : Type 0} (root : Root A) (s : List ℕ) (l : Layout) (a : A) : Type 0 where
  pub inside : Inside s l (place 0 0) (root.flat a)
  pub entries_are : l.entries ≡ length (root.flat a)
  pub depths : T (fits_depths (root.deep node_weight a) (root.deep call_weight a))
  pub few : T (root.few a)

pub accepted_alone : {A : Type 0} {root : Root A} {longest sort : ℕ} {s : List ℕ} {l : Layout} {a : A} → RootNamed longest root sort → Rewrites root
    → Accepted root s l a → Alone root s l a
accepted_alone {root = root} {a = a} r w h =
    record {
      inside = accepted_inside r h;
      entries_are = ap (λ (m : Layout). m.entries) h.layout_is;
      depths = lighter root w a h.depths;
      few = h.few;
    }

module _ {s : List ℕ} {l : Layout} {p : Place} where
  -- two runs: the first at the place, the second behind it
  pub inside_front : (es fs : List Entry) → Inside s l p (es ++ fs) → Inside s l p es
  inside_front es fs i = record { run = run_front es fs i.run; texted = all_left es fs i.texted }

  pub inside_back : (es fs : List Entry) → Inside s l p (es ++ fs) → Inside s l (past es p) fs
  inside_back es fs i = record { run = rw past_place (run_back es fs i.run); texted = all_right es i.texted }

  -- the first entry, and where the others stand
  pub inside_next : (e : Entry) (es : List Entry) → Inside s l p (e ∷ es) → Inside s l (past (e ∷ []) p) es
  inside_next e es i = inside_back (e ∷ []) es i

-- ------------------------------------------------------------------ runs

-- the bytes from i on, cut at the end of what stands there
slice_spelled : {s xs : List ℕ} {i : ℕ} (j : ℕ) → Spells s i xs → j ≡ i + length xs → slice i j s ≡ xs
slice_spelled {s} {xs} {i} j h e =
    ap (λ (k : ℕ). slice i k s) e
    ∙ ap (drop i) (take-add i (length xs) s)
    ∙ drop_at (take i s) (part s i (length xs)) i (length-take-le i s (omega (arith, h.inside)))
    ∙ h.spelled

-- the three parts of the slice from a place to the place behind the entries that stand there
pub record Sections (s : List ℕ) (l : Layout) (p q : Place) (es : List Entry) : Type 0 where
  pub codes : slice (l.codes + p.at) (l.codes + q.at) s ≡ codes_of es
  pub values : slice (l.values + 8 * p.at) (l.values + 8 * q.at) s ≡ values_of es
  pub text : slice (l.text + p.text) (l.text + q.text) s ≡ text_of es

module _ {s : List ℕ} {l : Layout} {p : Place} {es : List Entry} (i : Inside s l p es) where
  pub inside_sections : Sections s l p (past es p) es
  inside_sections =
      let stands = i.run.stands in
      record {
        codes = slice_spelled (l.codes + (past es p).at) stands.its_codes (omega (arith, past_at es p, length_codes es));
        values = slice_spelled (l.values + 8 * (past es p).at) stands.its_values (omega (arith, past_at es p, length_values es));
        text = slice_spelled (l.text + (past es p).text) stands.its_text (omega (arith, past_text es p));
      }

  -- to skip a tree is to come to the place behind it
  pub inside_skip : {sort : ℕ} {d : (ℕ → ℕ) → ℕ} {x : Bool} → Passes (sort ∷ []) es d x → sort < 32 → skip_at s l p sort ≡ Some (past es p)
  inside_skip b h = count_run b h i.run ∙ ap Some (sym (past_place es p))

  pub inside_size : size_between s l p.at (past es p).at ≡ size es
  inside_size = ap (size_between s l p.at) (past_at es p) ∙ size_run i.run

-- runs one behind the other, and where the last ends
pub record OneRun (s : List ℕ) (l : Layout) (p : Place) (es : List Entry) (end : Place) : Type 0 where
  pub first : Inside s l p es
  pub ends : end ≡ past es p

pub record TwoRuns (s : List ℕ) (l : Layout) (p : Place) (es fs : List Entry) (end : Place) : Type 0 where
  pub first : Inside s l p es
  pub second : Inside s l (past es p) fs
  pub ends : end ≡ past fs (past es p)

pub record ThreeRuns (s : List ℕ) (l : Layout) (p : Place) (es fs gs : List Entry) (end : Place) : Type 0 where
  pub first : Inside s l p es
  pub second : Inside s l (past es p) fs
  pub third : Inside s l (past fs (past es p)) gs
  pub ends : end ≡ past gs (past fs (past es p))

abbrev pub joined : List Entry → List (List Entry) → List Entry
joined es [] = es
joined es (fs ∷ rest) = es ++ joined fs rest

-- the runs of a list; no node has more than three
abbrev pub RunsFrom : List ℕ → Layout → Place → List (List Entry) → Place → Type 0
RunsFrom s l p [] end = end ≡ p
RunsFrom s l p (es ∷ []) end = OneRun s l p es end
RunsFrom s l p (es ∷ fs ∷ []) end = TwoRuns s l p es fs end
RunsFrom s l p (es ∷ fs ∷ gs ∷ rest) end = ThreeRuns s l p es fs (joined gs rest) end

pub runs_from : {s : List ℕ} {l : Layout} {p : Place} (es : List Entry) (rest : List (List Entry)) → Inside s l p (joined es rest)
    → RunsFrom s l p (es ∷ rest) (past (joined es rest) p)
runs_from es [] i = record { first = i; ends = refl }
runs_from es (fs ∷ []) i = record { first = inside_front es fs i; second = inside_back es fs i; ends = past_append es fs _ }
runs_from {p = p} es (fs ∷ gs ∷ rest) i =
    let hs = joined gs rest in
    let behind = inside_back es (fs ++ hs) i in
    record {
      first = inside_front es (fs ++ hs) i;
      second = inside_front fs hs behind;
      third = inside_back fs hs behind;
      ends = past_append es (fs ++ hs) p ∙ past_append fs hs (past es p);
    }

-- A node: what its own entries are read as, with the place behind them, and the runs that follow there.
pub record Parts (s : List ℕ) (l : Layout) (p : Place) (own : List Entry) (Reads : Place → Type 0) (ess : List (List Entry)) (end : Place) : Type 0 where
  pub head : Inside s l p own
  pub read : Reads (past own p)
  pub runs : RunsFrom s l (past own p) ess end

pub parts_of_lem : {s : List ℕ} {l : Layout} {p : Place} {Reads : Place → Type 0} (own es : List Entry) (rest : List (List Entry))
    → Inside s l p (own ++ joined es rest) → Reads (past own p) → Parts s l p own Reads (es ∷ rest) (past (own ++ joined es rest) p)
parts_of_lem own es rest i r =
    record {
      head = inside_front own (joined es rest) i;
      read = r;
      runs = rw past_append (runs_from es rest (inside_back own (joined es rest) i));
    }
