-- The older tape as an operation: specs/Older.antt.
-- Assumes nothing.
use Prim.Native.Nat.{ℕ, suc, ◌≤◌}
use native.Mathlib.Omega.{arith}
use mathlib.Core.Path.{◌≡◌, refl, ap}
use mathlib.Core.Logic.{◌≢◌}
use mathlib.Core.List.{List}
use mathlib.Core.Bool.{Bool, true, false, not, ◌&&◌}
use mathlib.Core.Option.{Option, none, some}
use borrow.Author.Tests.{le-leb}
use lib.Dec.{T, leb, leb→le}
use lib.ListN.{length}
use Rattle.format.specs.Entry.{Text, Entry, encode, text_of}
use Rattle.format.specs.Macro.{holds}
use Rattle.format.specs.Tape.{Reading, read_tape, read_tree, read, Bytes}
use Rattle.format.specs.Older.{older, fits_older, Kind, TreeOf, root_of, kind_of, first_code, takes_texts, old_head, accept_old, printable}
use Rattle.format.proofs.Accepted.{OnTape, accepted_on_tape}
use Rattle.format.proofs.Encodes.{fitting, length_encode}
use Rattle.format.proofs.Rewritten.{no_holds, read_no_or, read_as, read_on_tape}
use Rattle.format.proofs.Older.{older_taken, older_no_week, older_no_or, without_weeks, without_weeks_fits}
use Rattle.format.proofs.LastYear.{lawful_of, rewrites_of, ages_of, printable_texts, older_on_tape, old_head_lem, starts}
use Rattle.definition.specs.Outcome.{Outcome}
use Rattle.definition.specs.Answers.{padded, answer, number_alone, reading}
use Rattle.definition.specs.Kept.{Bounded}
use Rattle.definition.specs.Older.{unless_out, older_of, older_tape, result_alone, older_answer, OlderResult, OlderAccepted, OlderCopies, LastYearRefuses, OlderBounded}
use Rattle.definition.proofs.Kept.{bounded_done, bounded_number_alone}

-- ------------------------------------------------------------------ what comes out

-- what a tape of a kind becomes, and why
data OutcomeMatches (bytes : List ℕ) : Outcome (List Entry) → Type 0 where
  refused : (number : ℕ) → number ≢ 0 → OutcomeMatches bytes (number_alone number)
  written : (k : Kind) (a : TreeOf k) → read (root_of k) bytes ≡ Reading.accepted a → T (fits_older ((root_of k).flat a))
      → OutcomeMatches bytes (Outcome.done ((root_of k).flat ((root_of k).replace older a)) 0)

not_0 : (n : ℕ) → suc n ≢ 0
not_0 n e = omega arith

comes : (bytes : List ℕ) → OutcomeMatches bytes (older_tape bytes)
unfolding older_tape older_of unless_out reading
comes bytes = go (kind_of (first_code bytes))
  where
    fitted : (k : Kind) (a : TreeOf k) → read (root_of k) bytes ≡ Reading.accepted a → (b : Bool) → (T b → T (fits_older ((root_of k).flat a)))
        → OutcomeMatches bytes (unless_out b ((root_of k).flat ((root_of k).replace older a)))
    fitted k a e true f = written k a e (f tt)
    fitted k a e false f = refused 52 (not_0 51)

    chosen : (k : Kind) (o : Reading (TreeOf k)) → read (root_of k) bytes ≡ o
        → OutcomeMatches bytes (reading o λ a. unless_out (fits_older ((root_of k).flat a)) ((root_of k).flat ((root_of k).replace older a)))
    chosen k Reading.malformed e = refused 2 (not_0 1)
    chosen k Reading.too_large e = refused 3 (not_0 2)
    chosen k (Reading.accepted a) e = fitted k a e (fits_older ((root_of k).flat a)) (λ t. t)

    other : (o : Reading (List Entry)) → OutcomeMatches bytes (reading o λ es. number_alone 2)
    other Reading.malformed = refused 2 (not_0 1)
    other Reading.too_large = refused 3 (not_0 2)
    other (Reading.accepted es) = refused 2 (not_0 1)

    go : (o : Option Kind) → OutcomeMatches bytes (elim o [ some k ↦ older_of (root_of k) bytes | none ↦ reading (read_tape bytes) λ es. number_alone 2 ])
    go none = other (read_tape bytes)
    go (some k) = chosen k (read (root_of k) bytes) refl

module _ (bytes : List ℕ) (q : Bytes bytes) (k : Kind) (a : TreeOf k) (e : read (root_of k) bytes ≡ Reading.accepted a) (f : T (fits_older ((root_of k).flat a))) where
  new_tape : OnTape (root_of k) (encode ((root_of k).flat ((root_of k).replace older a))) ((root_of k).replace older a)
  new_tape =
      older_on_tape (root_of k) (lawful_of k) (rewrites_of k) (ages_of k) a
      (read_on_tape (root_of k) (rewrites_of k) (lawful_of k) bytes q a e) f

  no_weeks_left : holds 64 ((root_of k).flat ((root_of k).replace older a)) ≡ false
  no_weeks_left = rw ((ages_of k).aged a) (older_no_week ((root_of k).flat a))

  no_or_left : holds 2 ((root_of k).flat ((root_of k).replace older a)) ≡ false
  no_or_left = rw ((ages_of k).aged a) (no_holds (older_no_or (read_no_or (root_of k) (rewrites_of k) bytes a e)))

  short_tape : length (encode ((root_of k).flat ((root_of k).replace older a))) ≤ 12296
  short_tape =
      let es = (root_of k).flat ((root_of k).replace older a) in
      let s = fitting (length es) (length (text_of es)) new_tape.range.sizes in
      omega (arith, length_encode es, s.0, s.1)

  old_reads : (takes : Text → Bool) → T (takes_texts takes ((root_of k).flat a))
      → accept_old takes (root_of k) (encode ((root_of k).flat ((root_of k).replace older a))) ≡ Reading.accepted ((root_of k).replace older a)
  old_reads takes p =
      old_head_lem (root_of k) (lawful_of k) (rewrites_of k) (ages_of k) takes ((root_of k).replace older a) new_tape no_weeks_left
      (rw ((ages_of k).aged a, older_taken takes ((root_of k).flat a)) p)

-- ------------------------------------------------------------------ the theorems

pub older_accepted : OlderAccepted
unfolding older_answer answer number_alone
older_accepted n bytes q h = go (leb 12296 n) h
  where
    made : {o : Outcome (List Entry)} → OutcomeMatches bytes o → (answer encode (result_alone n) o).number ≡ 0
        → OlderResult n bytes (answer encode (result_alone n) o)
    made (refused number ne) e = absurd (ne e)
    made (written k a r f) e =
        record {
          kind = k;
          tree = a;
          was_read = r;
          in_range = f;
          result = refl;
          entry_by_entry = (ages_of k).aged a;
          no_weeks = no_weeks_left bytes q k a r f;
          no_or = no_or_left bytes q k a r f;
          accepted_by_old = old_reads bytes q k a r f;
          accepted_last_year = λ p. old_reads bytes q k a r f printable (printable_texts ((root_of k).flat a) p);
        }

    go : (b : Bool) → (answer encode (result_alone n) (elim b [ true ↦ older_tape bytes | false ↦ number_alone 1 ])).number ≡ 0
        → OlderResult n bytes (answer encode (result_alone n) (elim b [ true ↦ older_tape bytes | false ↦ number_alone 1 ]))
    go true e = made (comes bytes) e
    go false e = made (refused 1 (not_0 0)) e

pub older_bounded : OlderBounded
unfolding older_answer
older_bounded n bytes q = go (leb 12296 n) (leb→le 12296 n)
  where
    made : 12296 ≤ n → {o : Outcome (List Entry)} → OutcomeMatches bytes o → Bounded (result_alone n) 0 (answer encode (result_alone n) o)
    made long (refused number ne) = bounded_number_alone encode (result_alone n) 0 number
    made long (written k a r f) =
        bounded_done encode (result_alone n) 0 _ 0 (omega arith) (omega (arith, short_tape bytes q k a r f))

    go : (b : Bool) → (T b → 12296 ≤ n)
        → Bounded (result_alone n) 0 (answer encode (result_alone n) (elim b [ true ↦ older_tape bytes | false ↦ number_alone 1 ]))
    go true long = made (long tt) (comes bytes)
    go false long = bounded_number_alone encode (result_alone n) 0 1

-- a tape of a kind, read as it is, is written
writes : (n : ℕ) (bytes : List ℕ) (k : Kind) (a : TreeOf k) → 12296 ≤ n → kind_of (first_code bytes) ≡ some k
    → read (root_of k) bytes ≡ Reading.accepted a → fits_older ((root_of k).flat a) ≡ true
    → older_answer n bytes ≡ answer encode (result_alone n) (Outcome.done ((root_of k).flat ((root_of k).replace older a)) 0)
unfolding older_answer older_tape older_of reading unless_out
writes n bytes k a long first r f =
    rw (le-leb 12296 n long) (ap (answer encode (result_alone n)) (rw (first, older_tape) (rw (r, f) refl)))

pub older_copies : OlderCopies
unfolding answer
older_copies n bytes k a long q e w o =
    let root = root_of k in
    let t : OnTape root bytes a = accepted_on_tape root (lawful_of k).spells bytes q a e in
    let r : read root bytes ≡ Reading.accepted a = (read_as root (rewrites_of k) (lawful_of k) bytes q).as_accepted a o e in
    let first : kind_of (first_code bytes) ≡ some k = rw t.encoded at (starts k a) in
    let same : encode (root.flat (root.replace older a)) ≡ bytes =
    rw ((ages_of k).aged a, without_weeks (root.flat a) w) t.encoded in
    rw (writes n bytes k a long first r (without_weeks_fits (root.flat a) w))
    (record { succeeds = refl; unchanged = ap (padded n) same })

pub last_year_refuses : LastYearRefuses
unfolding accept_old old_head read_tree
last_year_refuses takes k bytes es e h = rw e (go (holds 64 es) (takes_texts takes es) h)
  where
    go : (weeks taken : Bool) → weeks ≡ true
        → read_tree (root_of k) (elim (not weeks && taken) [ true ↦ Reading.accepted es | false ↦ Reading.malformed ]) ≡ Reading.malformed
    go weeks taken h = rw h refl
