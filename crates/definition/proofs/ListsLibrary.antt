-- The library check meets its promises (specs/ListsLibrary.antt), and whatever meets them answers as it does. That two functions which
-- meet them answer alike says nothing of the definition: it is not unfolded there.
-- Assumes nothing.
use Prim.Native.Nat.{ℕ, zero, suc, ◌≤◌}
use native.Mathlib.Omega.{arith}
use mathlib.Core.Path.{◌≡◌, refl, sym, ◌∙◌, ap, subst}
use mathlib.Core.Logic.{◌⊎◌, inl, inr}
use mathlib.Core.List.{List, [], ◌∷◌, ◌++◌}
use mathlib.Core.Bool.{Bool, true, false, ◌&&◌}
use mathlib.Core.Option.{none, some}
use borrow.Author.Tests.{le-leb, lt-leb, leb-true, leb-false}
use lib.Dec.{leb}
use lib.ListN.{length}
use Rattle.format.specs.Ast.{MacroDef}
use Rattle.format.specs.Tape.{Reading, registry_root, read}
use Rattle.definition.specs.Outcome.{Refusal, Outcome, span_start, span_end}
use Rattle.definition.specs.Check.{Verdict, check_def}
use Rattle.definition.specs.Registry.{build}
use Rattle.definition.specs.Expand.{unless}
use Rattle.definition.specs.Answers.{Answer, answer, number_alone, reading, verdict, message_alone, message_answer, without_work, result_answer}
use Rattle.definition.specs.Library.{Refused, in_front, refused_from, refused_of, refused_bytes, list_bytes, library_tapes, library_answer, definition_at, check_found, check_at_answer}
use Rattle.definition.specs.Returned.{Gives, Refuses, RefusesAlone, Unread, ShortResult, ShortMessage, At}
use Rattle.definition.specs.ListsLibrary.{row, Lists, ListsLibrary, ChecksAt}
use Rattle.definition.proofs.Returned.{gives_one, refuses_one, gives, refuses, refuses_alone}

-- ------------------------------------------------------------------ a tape that is not read

unread_number : {A B : Type 0} {x : Reading A} {why : ℕ} (k : A → Outcome B) → Unread x why → reading x k ≡ number_alone why
unfolding reading
unread_number k Unread.malformed = refl
unread_number k Unread.too_large = refl

-- ------------------------------------------------------------------ the list

-- every registry has a list
record Listing (i : ℕ) (ds : List MacroDef) : Type 0 where
  bytes : List ℕ
  lists : Lists i ds bytes

listing : (i : ℕ) (ds : List MacroDef) → Listing i ds
listing i [] = record { bytes = []; lists = Lists.at_the_end }
listing i (d ∷ ds) = go (check_def d) refl (listing (suc i) ds)
  where
    go : (v : Verdict) → check_def d ≡ v → Listing (suc i) ds → Listing i (d ∷ ds)
    go none e rest = record { bytes = rest.bytes; lists = Lists.passes e rest.lists }
    go (some why) e rest = record { bytes = row i why ++ rest.bytes; lists = Lists.refused e rest.lists }

-- and it is the definition's
its_row : (i : ℕ) (why : Refusal) → row i why ≡ refused_bytes (record { index = i; why = why })
unfolding refused_bytes span_start span_end
its_row i why = refl

its_list : {i : ℕ} {ds : List MacroDef} {bytes : List ℕ} → Lists i ds bytes → bytes ≡ list_bytes (refused_from i ds)
unfolding refused_from in_front list_bytes
its_list Lists.at_the_end = refl
its_list (Lists.passes e rest) = rw e (its_list rest)
its_list {i} (Lists.refused {why = why} e rest) = rw (e, its_list rest, its_row i why) refl

-- ------------------------------------------------------------------ the library check meets them

module _ (r m : ℕ) (x : List ℕ) where
  abbrev out : Outcome (List Refused) → Answer
  out o = answer list_bytes (without_work r m) o

  short_answer : ShortResult (without_work r m) ⊎ ShortMessage (without_work r m) → library_answer r m x ≡ out (number_alone 1)
  unfolding library_answer result_answer
  short_answer (inl h) = rw (lt-leb 12296 r h) refl
  short_answer (inr h) = rw (lt-leb 2048 m h) (go (leb 12296 r))
    where
      go : (t : Bool) → out (elim (t && false) [ true ↦ library_tapes x | false ↦ number_alone 1 ]) ≡ out (number_alone 1)
      go true = refl
      go false = refl

  module _ (large : 12296 ≤ r) (long : 2048 ≤ m) where
    long_answer : library_answer r m x ≡ out (library_tapes x)
    unfolding library_answer result_answer
    long_answer = rw (le-leb 12296 r large, le-leb 2048 m long) refl

    unread_answer : (why : ℕ) → Unread (read registry_root x) why → library_answer r m x ≡ out (number_alone why)
    unfolding library_tapes
    unread_answer why u = long_answer ∙ ap out (unread_number _ u)

    module _ (ds : List MacroDef) (e : read registry_root x ≡ Reading.accepted ds) where
      refused_answer : (why : Refusal) → build ds ≡ some why → library_answer r m x ≡ out (Outcome.refused why 0)
      unfolding library_tapes reading unless
      refused_answer why k = long_answer ∙ rw (e, k) refl

      listed_answer : build ds ≡ none → library_answer r m x ≡ out (Outcome.done (refused_of ds) 0)
      unfolding library_tapes reading unless
      listed_answer k = long_answer ∙ rw (e, k) refl

pub lists_library : ListsLibrary library_answer
unfolding refused_of
lists_library =
    record {
      short = λ r m x h.
          subst (RefusesAlone (without_work r m) 1) (sym (short_answer r m x h)) (refuses_alone list_bytes (without_work r m) 1);
      unread = λ r m x why p q u.
          subst (RefusesAlone (without_work r m) why) (sym (unread_answer r m x p q why u))
          (refuses_alone list_bytes (without_work r m) why);
      not_built = λ r m x ds why p q e k.
          subst (Refuses (without_work r m) why.number why.span why.message 0) (sym (refused_answer r m x p q ds e why k))
          (refuses list_bytes (without_work r m) why 0);
      listed = λ r m x ds bytes p q e k l.
          subst (λ (l : List ℕ). Gives (without_work r m) l 0 (library_answer r m x)) (sym (its_list l))
          (subst (Gives (without_work r m) (list_bytes (refused_of ds)) 0) (sym (listed_answer r m x p q ds e k))
          (gives list_bytes (without_work r m) (refused_of ds) 0));
    }

-- ------------------------------------------------------------------ and whatever meets them is it

module _ (g h : (result_length message_length : ℕ) → (registry : List ℕ) → Answer) (p : ListsLibrary g) (q : ListsLibrary h)
    (r m : ℕ) (x : List ℕ) where
  same_short : ShortResult (without_work r m) ⊎ ShortMessage (without_work r m) → g r m x ≡ h r m x
  same_short s = refuses_one (p.short r m x s) (q.short r m x s)

  module _ (large : 12296 ≤ r) (long : 2048 ≤ m) where
    same_unread : (why : ℕ) → Unread (read registry_root x) why → g r m x ≡ h r m x
    same_unread why u = refuses_one (p.unread r m x why large long u) (q.unread r m x why large long u)

    same_built : (ds : List MacroDef) → read registry_root x ≡ Reading.accepted ds → (v : Verdict) → build ds ≡ v → g r m x ≡ h r m x
    same_built ds e (some why) k = refuses_one (p.not_built r m x ds why large long e k) (q.not_built r m x ds why large long e k)
    same_built ds e none k =
        let l = listing 0 ds in
        gives_one (p.listed r m x ds l.bytes large long e k l.lists) (q.listed r m x ds l.bytes large long e k l.lists)

    same_read : (t : Reading (List MacroDef)) → read registry_root x ≡ t → g r m x ≡ h r m x
    same_read Reading.malformed e = same_unread 2 (subst (λ (t : Reading (List MacroDef)). Unread t 2) (sym e) Unread.malformed)
    same_read Reading.too_large e = same_unread 3 (subst (λ (t : Reading (List MacroDef)). Unread t 3) (sym e) Unread.too_large)
    same_read (Reading.accepted ds) e = same_built ds e (build ds) refl

  same_long : (s t : Bool) → leb 12296 r ≡ s → leb 2048 m ≡ t → g r m x ≡ h r m x
  same_long false t d e = same_short (inl (leb-false 12296 r d))
  same_long true false d e = same_short (inr (leb-false 2048 m e))
  same_long true true d e = same_read (leb-true 12296 r d) (leb-true 2048 m e) (read registry_root x) refl

pub determined : (g : (result_length message_length : ℕ) → (registry : List ℕ) → Answer) → ListsLibrary g
    → (r m : ℕ) (registry : List ℕ) → g r m registry ≡ library_answer r m registry
determined g p r m x = same_long g library_answer p lists_library r m x (leb 12296 r) (leb 2048 m) refl refl

-- ------------------------------------------------------------------ one index

found : {ds : List MacroDef} {i : ℕ} {d : MacroDef} → At ds i d → definition_at ds i ≡ some d
unfolding definition_at
found At.here = refl
found (At.behind a) = found a

nothing_there : (ds : List MacroDef) (i : ℕ) → length ds ≤ i → definition_at ds i ≡ none
unfolding definition_at
nothing_there [] i h = refl
nothing_there (d ∷ ds) zero h = absurd (omega arith)
nothing_there (d ∷ ds) (suc i) h = nothing_there ds i (omega arith)

-- an index has a definition, or is past the end
record There (ds : List MacroDef) (i : ℕ) : Type 0 where
  definition : MacroDef
  stands : At ds i definition

there_or_not : (ds : List MacroDef) (i : ℕ) → There ds i ⊎ (length ds ≤ i)
there_or_not [] i = inr (omega arith)
there_or_not (d ∷ ds) zero = inl (record { definition = d; stands = At.here })
there_or_not (d ∷ ds) (suc i) = go (there_or_not ds i)
  where
    go : There ds i ⊎ (length ds ≤ i) → There (d ∷ ds) (suc i) ⊎ (length (d ∷ ds) ≤ suc i)
    go (inl t) = inl (record { definition = t.definition; stands = At.behind t.stands })
    go (inr h) = inr (omega arith)

-- ------------------------------------------------------------------ the check of one index meets them

module _ (m : ℕ) (x : List ℕ) (i : ℕ) where
  abbrev told : Outcome (Unit {0}) → Answer
  told o = answer (λ (u : Unit {0}). []) (message_alone m) o

  short_check : ShortMessage (message_alone m) → check_at_answer m x i ≡ told (number_alone 1)
  unfolding check_at_answer message_answer
  short_check h = rw (lt-leb 2048 m h) refl

  module _ (long : 2048 ≤ m) where
    unread_check : (why : ℕ) → Unread (read registry_root x) why → check_at_answer m x i ≡ told (number_alone why)
    unfolding check_at_answer message_answer
    unread_check why u = rw (le-leb 2048 m long) (ap told (unread_number _ u))

    module _ (ds : List MacroDef) (e : read registry_root x ≡ Reading.accepted ds) where
      not_built_check : (why : Refusal) → build ds ≡ some why → check_at_answer m x i ≡ told (Outcome.refused why 0)
      unfolding check_at_answer message_answer reading unless
      not_built_check why k = rw (le-leb 2048 m long, e, k) refl

      built_check : build ds ≡ none → check_at_answer m x i ≡ told (verdict (check_found (definition_at ds i)))
      unfolding check_at_answer message_answer reading unless
      built_check k = rw (le-leb 2048 m long, e, k) refl

      passing_check : build ds ≡ none → check_found (definition_at ds i) ≡ none → Gives (message_alone m) [] 0 (check_at_answer m x i)
      unfolding verdict
      passing_check k c =
          subst (Gives (message_alone m) [] 0) (sym (built_check k ∙ ap (λ (v : Verdict). told (verdict v)) c))
          (gives (λ (u : Unit {0}). []) (message_alone m) tt 0)

      refusing_check : (why : Refusal) → build ds ≡ none → check_found (definition_at ds i) ≡ some why
          → Refuses (message_alone m) why.number why.span why.message 0 (check_at_answer m x i)
      unfolding verdict
      refusing_check why k c =
          subst (Refuses (message_alone m) why.number why.span why.message 0)
          (sym (built_check k ∙ ap (λ (v : Verdict). told (verdict v)) c))
          (refuses (λ (u : Unit {0}). []) (message_alone m) why 0)

pub checks_at : ChecksAt check_at_answer
unfolding check_found
checks_at =
    record {
      short = λ m x i h.
          subst (RefusesAlone (message_alone m) 1) (sym (short_check m x i h)) (refuses_alone (λ (u : Unit {0}). []) (message_alone m) 1);
      unread = λ m x i why p u.
          subst (RefusesAlone (message_alone m) why) (sym (unread_check m x i p why u))
          (refuses_alone (λ (u : Unit {0}). []) (message_alone m) why);
      not_built = λ m x i ds why p e k.
          subst (Refuses (message_alone m) why.number why.span why.message 0) (sym (not_built_check m x i p ds e why k))
          (refuses (λ (u : Unit {0}). []) (message_alone m) why 0);
      passes = λ m x i ds d p e k a c. passing_check m x i p ds e k (ap check_found (found a) ∙ c);
      refused = λ m x i ds d why p e k a c. refusing_check m x i p ds e why k (ap check_found (found a) ∙ c);
      past_the_end = λ m x i ds p e k n. passing_check m x i p ds e k (ap check_found (nothing_there ds i n));
    }

-- ------------------------------------------------------------------ and whatever meets them is it

module _ (g h : (message_length : ℕ) → (registry : List ℕ) → (index : ℕ) → Answer) (p : ChecksAt g) (q : ChecksAt h)
    (m : ℕ) (x : List ℕ) (i : ℕ) where
  module _ (long : 2048 ≤ m) where
    alike_unread : (why : ℕ) → Unread (read registry_root x) why → g m x i ≡ h m x i
    alike_unread why u = refuses_one (p.unread m x i why long u) (q.unread m x i why long u)

    module _ (ds : List MacroDef) (e : read registry_root x ≡ Reading.accepted ds) where
      alike_there : build ds ≡ none → (d : MacroDef) → At ds i d → (v : Verdict) → check_def d ≡ v → g m x i ≡ h m x i
      alike_there k d a none c = gives_one (p.passes m x i ds d long e k a c) (q.passes m x i ds d long e k a c)
      alike_there k d a (some why) c = refuses_one (p.refused m x i ds d why long e k a c) (q.refused m x i ds d why long e k a c)

      alike_place : build ds ≡ none → There ds i ⊎ (length ds ≤ i) → g m x i ≡ h m x i
      alike_place k (inl t) = alike_there k t.definition t.stands (check_def t.definition) refl
      alike_place k (inr n) = gives_one (p.past_the_end m x i ds long e k n) (q.past_the_end m x i ds long e k n)

      alike_built : (v : Verdict) → build ds ≡ v → g m x i ≡ h m x i
      alike_built (some why) k = refuses_one (p.not_built m x i ds why long e k) (q.not_built m x i ds why long e k)
      alike_built none k = alike_place k (there_or_not ds i)

    alike_read : (t : Reading (List MacroDef)) → read registry_root x ≡ t → g m x i ≡ h m x i
    alike_read Reading.malformed e = alike_unread 2 (subst (λ (t : Reading (List MacroDef)). Unread t 2) (sym e) Unread.malformed)
    alike_read Reading.too_large e = alike_unread 3 (subst (λ (t : Reading (List MacroDef)). Unread t 3) (sym e) Unread.too_large)
    alike_read (Reading.accepted ds) e = alike_built ds e (build ds) refl

  alike_long : (t : Bool) → leb 2048 m ≡ t → g m x i ≡ h m x i
  alike_long false e = refuses_one (p.short m x i (leb-false 2048 m e)) (q.short m x i (leb-false 2048 m e))
  alike_long true e = alike_read (leb-true 2048 m e) (read registry_root x) refl

pub determined_at : (g : (message_length : ℕ) → (registry : List ℕ) → (index : ℕ) → Answer) → ChecksAt g
    → (m : ℕ) (registry : List ℕ) (i : ℕ) → g m registry i ≡ check_at_answer m registry i
determined_at g p m x i = alike_long g check_at_answer p checks_at m x i (leb 2048 m) refl
