-- The first code of a tape, the root that it tells, and what acceptance answers where it tells none.
-- Assumes nothing.
use Rattle.tape.specs.declared.header.Fault.{Fault}
use Rattle.tape.specs.declared.header.Fault.TheVariants.{Malformed, TooLarge}
use Rattle.std.proofs.Common.{None, Result, Ok, Err}
use Prim.Native.Nat.{ℕ, zero, suc, ◌+◌, ◌-◌, ◌*◌}
use native.Mathlib.Omega.{arith}
use mathlib.Core.Path.{◌≡◌, refl}
use mathlib.Core.List.{List, [], ◌∷◌}
use mathlib.Core.Bool.{Bool, true, false}
use mathlib.Core.Option.{Option as Maybe, none, some}
use borrow.Author.Tests.{le-leb, le-ltb}
use lib.Dec.{leb, eqb}
use lib.ListN.{length, get_or, take, drop}
use Rattle.format.specs.Entry.{Entry}
use Rattle.format.specs.Limits.{fits_sizes}
use Rattle.format.specs.Utf8.{well_texts}
use Rattle.format.specs.Older.{Kind, root_of, head_or0, first_code}
use Rattle.format.specs.Tape.{Reading, split, read_texts, read_sections, read_sizes, read_tape}
use Rattle.definition.specs.Answers.{number_alone, reading}
use Rattle.definition.specs.Outcome.{Outcome}
use Rattle.grammar.specs.Waits.{wait}
use Rattle.grammar.specs.Words.{temporal_grammar, no_codes, in_sort}
use Rattle.tape.specs.Accept.{judged, accept_in, after_open, accept_of}
use Rattle.tape.specs.Header.{entries_of, size_of, fault_number}
use Rattle.tape.specs.Layouts.{tape_layout, entries_at}
use Rattle.tape.specs.Pick.{pick}
use Rattle.tape.specs.Scan.{scan_of, starts}
use Rattle.tape.specs.declared.layout.Layout.{Layout}
use Rattle.tape.proofs.Acceptance.{RootOf}
use Rattle.tape.proofs.Roots.{condition_root_lem, term_root_lem, call_root_lem, definition_root_lem, registry_root_lem}
use Rattle.older.specs.Roots.{sort_of}

pub root_of_lem : (k : Kind) → RootOf (root_of k) (sort_of (some k))
unfolding root_of
root_of_lem Kind.condition = condition_root_lem
root_of_lem Kind.term = term_root_lem
root_of_lem Kind.definition = definition_root_lem
root_of_lem Kind.call = call_root_lem
root_of_lem Kind.registry = registry_root_lem

-- ------------------------------------------------------------------ no root

-- no code is of the sort 0
no_code : (c : ℕ) → in_sort no_codes c ≡ false
no_code c = rw (le-ltb c 0 (omega arith), le-leb 0 c (omega arith)) refl

none_scanned : (size : ℕ) (es : List Entry) → scan_of temporal_grammar 64 size es (wait 0 0 0 ∷ []) 0 0 false ≡ None
unfolding temporal_grammar
none_scanned size [] = refl
none_scanned size (e ∷ es) = rw (no_code e.code) refl

none_judged : (s : List ℕ) (l : Layout) → accept_in temporal_grammar 64 s 0 l ≡ Err Malformed
none_judged s l = go (starts s l (record { at = 0; text = 0 }) 0)
  where
    es : List Entry
    es = entries_at temporal_grammar s l 0 0 (l.entries - 0)

    go : (b : Bool) → judged s l (pick b (scan_of temporal_grammar 64 l.size es (wait 0 0 0 ∷ []) 0 0 false) None) ≡ Err Malformed
    go true = rw (none_scanned l.size es) refl
    go false = refl

-- whatever the sections hold, they are none
sections_none : (n t : ℕ) (rest : List ℕ) → reading {A = List Entry} {B = List Entry} (read_sections n t rest) (λ es. number_alone 2) ≡ number_alone 2
unfolding read_sections read_texts reading
sections_none n t rest = go (eqb (length rest) (9 * n + t))
  where
    whole : (es : List Entry) (b : Bool)
        → reading {A = List Entry} {B = List Entry} (elim b [ true ↦ Reading.accepted es | false ↦ Reading.malformed ]) (λ es. number_alone 2) ≡ number_alone 2
    whole es true = refl
    whole es false = refl

    texts : (o : Maybe (List Entry)) → reading {A = List Entry} {B = List Entry} (read_texts o) (λ es. number_alone 2) ≡ number_alone 2
    texts none = refl
    texts (some es) = whole es (well_texts es)

    go : (b : Bool)
        → reading {A = List Entry} {B = List Entry} (elim b [
          | true ↦ read_texts (split (take n rest) (take (8 * n) (drop n rest)) (drop (9 * n) rest))
          | false ↦ Reading.malformed
        ]) (λ es. number_alone 2)
        ≡ number_alone 2
    go true = texts (split (take n rest) (take (8 * n) (drop n rest)) (drop (9 * n) rest))
    go false = refl

-- 2, or 3 where a size is over
pub data NoRoot : Result Layout Fault → Outcome (List Entry) → Type 0 where
  no_root : (f : Fault) → NoRoot (Err f) (number_alone (fault_number f))

pub none_answers : (s : List ℕ) → NoRoot (accept_of s 0) (reading (read_tape s) (λ es. number_alone 2))
unfolding read_tape read_sizes reading
none_answers s = long (leb 8 (length s))
  where
    n : ℕ
    n = entries_of s

    m : ℕ
    m = size_of s

    sized : (b : Bool) → after_open temporal_grammar 64 s 0 (pick b (Ok (tape_layout n m)) (Err Malformed)) ≡ Err Malformed
    sized true = none_judged s (tape_layout n m)
    sized false = refl

    fits : (b : Bool)
        → NoRoot (after_open temporal_grammar 64 s 0 (pick b (pick (eqb (length s) (8 + 9 * n + m)) (Ok (tape_layout n m)) (Err Malformed)) (Err TooLarge)))
        (reading {A = List Entry} (elim b [ true ↦ read_sections n m (drop 8 s) | false ↦ Reading.too_large ]) (λ es. number_alone 2))
    fits true = rw (sized (eqb (length s) (8 + 9 * n + m)), sections_none n m (drop 8 s)) (no_root Malformed)
    fits false = no_root TooLarge

    long : (b : Bool)
        → NoRoot
        (after_open temporal_grammar 64 s 0 (pick b (pick (fits_sizes n m) (pick (eqb (length s) (8 + 9 * n + m)) (Ok (tape_layout n m)) (Err Malformed)) (Err TooLarge)) (Err Malformed)))
        (reading {A = List Entry} (elim b [ true ↦ read_sizes n m (drop 8 s) | false ↦ Reading.malformed ]) (λ es. number_alone 2))
    long true = fits (fits_sizes n m)
    long false = no_root Malformed

-- ------------------------------------------------------------------ the first code

head_there : (s : List ℕ) (i : ℕ) → get_or s i 0 ≡ head_or0 (drop i s)
unfolding head_or0
head_there [] zero = refl
head_there [] (suc i) = refl
head_there (b ∷ s) zero = refl
head_there (b ∷ s) (suc i) = head_there s i

pub first_there : (s : List ℕ) → get_or s 8 0 ≡ first_code s
unfolding first_code
first_there s = head_there s 8
