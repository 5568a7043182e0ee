-- Ours is a merge as document 02's point 7 has it, and there is no other (specs/Merges.antt). ButSpans has the agreement of two
-- definitions.
-- Assumes nothing.
use Prim.Native.Nat.{ℕ, ◌<◌, ◌≤◌}
use mathlib.Core.Path.{◌≡◌, refl, sym, ◌∙◌, ap, subst}
use mathlib.Core.Logic.{◌⊎◌, inl, inr}
use mathlib.Core.List.Memᴰ
use mathlib.Core.List.{List, [], ◌∷◌, ◌++◌}
use mathlib.Core.Bool.{Bool, true, false, ◌&&◌, and-false}
use mathlib.Core.Option.{Option, none, some, none-ne-some, some-injective}
use borrow.Author.Tests.{leb-true, leb-false, lt-leb, le-leb}
use lib.Dec.{T, leb}
use lib.ListN.{length}
use Rattle.format.specs.Entry.{Text, text_of, encode}
use Rattle.format.specs.Ast.{MacroDef}
use Rattle.format.specs.Flat.{flat_registry}
use Rattle.format.specs.Limits.{fits_sizes}
use Rattle.format.specs.Names.{◌∈◌}
use Rattle.format.specs.Tape.{Reading, registry_root, read}
use Rattle.format.proofs.Tests.{is_true, is_false}
use Rattle.definition.specs.Text.{eq_text}
use Rattle.definition.specs.Outcome.{Refusal, refusal, Outcome, proceed, ◌>>=◌, ◌>>◌}
use Rattle.definition.specs.Check.{Verdict, ◌and_then◌}
use Rattle.definition.specs.Registry.{get, check_reserved, check_duplicate, build_from, build}
use Rattle.definition.specs.Substitute.{check_limits}
use Rattle.definition.specs.Expand.{unless}
use Rattle.definition.specs.Answers.{Answer, Buffers, answer, number_alone, reading, without_work, result_answer}
use Rattle.definition.specs.Returned.{Gives, Refuses, RefusesAlone, Unread, ShortResult, ShortMessage}
use Rattle.definition.specs.Merge.{agrees, new_ones, joined, first_differing, refuse_differing, too_large_registry, merge, merge_tapes, registry_tape, merge_answer}
use Rattle.definition.specs.Merges.{ButSpans, Lacks, Has, Accords, FirstDiffers, NoneDiffers, Added, Joined, TooLarge, Fits, BothRead, BothPass, Merges}
use Rattle.definition.proofs.Returned.{gives_one, refuses_one, gives, refuses, refuses_alone}
use Rattle.definition.proofs.Verdicts.{first, second}
use Rattle.definition.proofs.Texts.{text_equal, equal_text}
use Rattle.definition.proofs.Lookup.{named}
use Rattle.definition.proofs.ButSpans.{but_spans}

-- ------------------------------------------------------------------ the paper's relations leave no choice

-- the first name that differs is one
never : {one two : List MacroDef} {d : MacroDef} → NoneDiffers one two → FirstDiffers one two d → ⊥
never n (FirstDiffers.here h) = h.disagree (n _ (Memᴰ.head refl) h.other h.of_first h.same_name)
never n (FirstDiffers.later a k) = never (λ x m. n x (Memᴰ.tail m)) k

same_first : {one two : List MacroDef} {d e : MacroDef} → FirstDiffers one two d → FirstDiffers one two e → d ≡ e
same_first (FirstDiffers.here h) (FirstDiffers.here k) = refl
same_first (FirstDiffers.here h) (FirstDiffers.later a k) = absurd (h.disagree (a h.other h.of_first h.same_name))
same_first (FirstDiffers.later a h) (FirstDiffers.here k) = absurd (k.disagree (a k.other k.of_first k.same_name))
same_first (FirstDiffers.later a h) (FirstDiffers.later b k) = same_first h k

-- what is found where the second's names are looked for
data Sought (one two : List MacroDef) : Option MacroDef → Type 0 where
  none_differs : NoneDiffers one two → Sought one two none
  one_differs : {d : MacroDef} → FirstDiffers one two d → Sought one two (some d)

sought_one : {one two : List MacroDef} {o p : Option MacroDef} → Sought one two o → Sought one two p → o ≡ p
sought_one (none_differs n) (none_differs k) = refl
sought_one (none_differs n) (one_differs k) = absurd (never n k)
sought_one (one_differs h) (none_differs k) = absurd (never k h)
sought_one (one_differs h) (one_differs k) = ap some (same_first h k)

-- the definitions that are added are these
not_both : {one : List MacroDef} {name : Text} → Lacks one name → Has one name → ⊥
not_both l h = l h.0 h.1 h.2

added_one : {one two some_added other : List MacroDef} → Added one two some_added → Added one two other → some_added ≡ other
added_one Added.no_more Added.no_more = refl
added_one (Added.adds {d = d} l h) (Added.adds k i) = ap (◌∷◌ d) (added_one h i)
added_one (Added.adds l h) (Added.leaves k i) = absurd (not_both l k)
added_one (Added.leaves l h) (Added.adds k i) = absurd (not_both k l)
added_one (Added.leaves l h) (Added.leaves k i) = added_one h i

-- ------------------------------------------------------------------ a name in a registry, as it is looked for

found_there : (ds : List MacroDef) (name : Text) (e : MacroDef) → get ds name ≡ some e → e ∈ ds
unfolding get
found_there [] name e h = absurd (none-ne-some e h)
found_there (x ∷ xs) name e h = go (eq_text x.name name) h (found_there xs name e)
  where
    go : (b : Bool) → ◌≡◌ {A = Option MacroDef} (elim b [ true ↦ some x | false ↦ get xs name ]) (some e) → (get xs name ≡ some e → e ∈ xs)
        → e ∈ (x ∷ xs)
    go true k rest = Memᴰ.head (sym (some-injective x e k))
    go false k rest = Memᴰ.tail (rest k)

missed : (x : MacroDef) (xs : List MacroDef) (name : Text) → get (x ∷ xs) name ≡ none → (x.name ≡ name → ⊥) × (get xs name ≡ none)
unfolding get
missed x xs name h = go (eq_text x.name name) (equal_text x.name name) h
  where
    go : (b : Bool) → (x.name ≡ name → T b) → ◌≡◌ {A = Option MacroDef} (elim b [ true ↦ some x | false ↦ get xs name ]) none
        → (x.name ≡ name → ⊥) × (get xs name ≡ none)
    go true f k = absurd (none-ne-some x (sym k))
    go false f k = (f, k)

lacked : (e : MacroDef) {ds : List MacroDef} → e ∈ ds → (name : Text) → get ds name ≡ none → e.name ≡ name → ⊥
lacked e (Memᴰ.head {x = x} {xs = xs} p) name h q = (missed x xs name h).0 (ap (λ (y : MacroDef). y.name) (sym p) ∙ q)
lacked e (Memᴰ.tail {x = x} {xs = xs} m) name h q = lacked e m name (missed x xs name h).1 q

lacks : (ds : List MacroDef) (name : Text) → get ds name ≡ none → Lacks ds name
lacks ds name h e m q = lacked e m name h q

has : (ds : List MacroDef) (name : Text) (e : MacroDef) → get ds name ≡ some e → Has ds name
has ds name e h = (e, found_there ds name e h, named ds name e h)

-- In a registry that passes 10 and 11 no name stands twice.
not_seen : (o : Option MacroDef) (d : MacroDef) → check_duplicate o d ≡ none → o ≡ none
unfolding check_duplicate
not_seen none d h = refl
not_seen (some e) d h = absurd (none-ne-some _ (sym h))

its_duplicate : (seen : List MacroDef) (x : MacroDef) (xs : List MacroDef) → build_from seen (x ∷ xs) ≡ none
    → (check_duplicate (get seen x.name) x and_then build_from (x ∷ seen) xs) ≡ none
unfolding build_from
its_duplicate seen x xs h = second (check_reserved x) _ h

is_new : (seen : List MacroDef) (x : MacroDef) (xs : List MacroDef) → build_from seen (x ∷ xs) ≡ none → get seen x.name ≡ none
is_new seen x xs h = not_seen (get seen x.name) x (first (check_duplicate (get seen x.name) x) _ (its_duplicate seen x xs h))

rest_passes : (seen : List MacroDef) (x : MacroDef) (xs : List MacroDef) → build_from seen (x ∷ xs) ≡ none → build_from (x ∷ seen) xs ≡ none
rest_passes seen x xs h = second (check_duplicate (get seen x.name) x) _ (its_duplicate seen x xs h)

later_new : (e : MacroDef) {ds : List MacroDef} → e ∈ ds → (seen : List MacroDef) → build_from seen ds ≡ none → get seen e.name ≡ none
later_new e (Memᴰ.head {x = x} {xs = xs} p) seen h =
    subst (λ (y : MacroDef). get seen y.name ≡ none) (sym p) (is_new seen x xs h)
later_new e (Memᴰ.tail {x = x} {xs = xs} m) seen h =
    (missed x seen e.name (later_new e m (x ∷ seen) (rest_passes seen x xs h))).1

in_front : (x : MacroDef) (xs : List MacroDef) (name : Text) → x.name ≡ name → get (x ∷ xs) name ≡ some x
unfolding get
in_front x xs name p = rw (is_true (equal_text x.name name p), get) refl

behind : (x : MacroDef) (xs : List MacroDef) (name : Text) → (x.name ≡ name → ⊥) → get (x ∷ xs) name ≡ get xs name
unfolding get
behind x xs name f = rw (is_false {b = eq_text x.name name} (λ t. f (text_equal x.name name t)), get) refl

found_itself : (e : MacroDef) {ds : List MacroDef} → e ∈ ds → (seen : List MacroDef) → build_from seen ds ≡ none → get ds e.name ≡ some e
found_itself e (Memᴰ.head {x = x} {xs = xs} p) seen h =
    in_front x xs e.name (ap (λ (y : MacroDef). y.name) (sym p)) ∙ ap some (sym p)
found_itself e (Memᴰ.tail {x = x} {xs = xs} m) seen h =
    let k : build_from (x ∷ seen) xs ≡ none = rest_passes seen x xs h in
    behind x xs e.name (missed x seen e.name (later_new e m (x ∷ seen) k)).0 ∙ found_itself e m (x ∷ seen) k

-- so that what is found is the definition with that name
the_one : (ds : List MacroDef) → build ds ≡ none → (e d : MacroDef) → get ds d.name ≡ some e → (x : MacroDef) → x ∈ ds → x.name ≡ d.name
    → e ≡ x
unfolding build
the_one ds h e d k x m p = some-injective e x (sym k ∙ (ap (get ds) (sym p) ∙ found_itself x m [] h))

-- ------------------------------------------------------------------ the definition's first name that differs is the paper's

module _ (one : List MacroDef) (d : MacroDef) (ds : List MacroDef) where
  past_new : get one d.name ≡ none → first_differing one (d ∷ ds) ≡ first_differing one ds
  unfolding first_differing
  past_new h = rw (h, first_differing) refl

  past_equal : (e : MacroDef) → get one d.name ≡ some e → ButSpans e d → first_differing one (d ∷ ds) ≡ first_differing one ds
  unfolding first_differing
  past_equal e h k = simp (h, is_true ((but_spans e d).1 k), first_differing) refl

  at_differing : (e : MacroDef) → get one d.name ≡ some e → (ButSpans e d → ⊥) → first_differing one (d ∷ ds) ≡ some d
  unfolding first_differing
  at_differing e h k = simp (h, is_false {b = agrees e d} (λ t. k ((but_spans e d).0 t)), first_differing) refl

  accords : build one ≡ none → (e : MacroDef) → get one d.name ≡ some e → ButSpans e d → Accords one d
  accords b e h k x m p = subst (λ (y : MacroDef). ButSpans y d) (the_one one b e d h x m p) k

  past : {o : Option MacroDef} → Accords one d → Sought one ds o → Sought one (d ∷ ds) o
  past a (none_differs n) = none_differs all
    where
      all : NoneDiffers one (d ∷ ds)
      all x (Memᴰ.head p) = subst (Accords one) (sym p) a
      all x (Memᴰ.tail m) = n x m
  past a (one_differs k) = one_differs (FirstDiffers.later a k)

  sought_here : build one ≡ none → Sought one ds (first_differing one ds) → Sought one (d ∷ ds) (first_differing one (d ∷ ds))
  sought_here b rest = go (get one d.name) refl
    where
      tested : (e : MacroDef) → get one d.name ≡ some e → ButSpans e d ⊎ (ButSpans e d → ⊥)
          → Sought one (d ∷ ds) (first_differing one (d ∷ ds))
      tested e h (inl k) = subst (Sought one (d ∷ ds)) (sym (past_equal e h k)) (past (accords b e h k) rest)
      tested e h (inr k) =
          subst (Sought one (d ∷ ds)) (sym (at_differing e h k))
          (one_differs (FirstDiffers.here (record {
            other = e;
            of_first = found_there one d.name e h;
            same_name = named one d.name e h;
            disagree = k;
          })))

      agree_or_not : (e : MacroDef) → ButSpans e d ⊎ (ButSpans e d → ⊥)
      agree_or_not e = choose (agrees e d) (but_spans e d).0 (but_spans e d).1
        where
          choose : (x : Bool) → (T x → ButSpans e d) → (ButSpans e d → T x) → ButSpans e d ⊎ (ButSpans e d → ⊥)
          choose true f g = inl (f tt)
          choose false f g = inr g

      go : (o : Option MacroDef) → get one d.name ≡ o → Sought one (d ∷ ds) (first_differing one (d ∷ ds))
      go none h = subst (Sought one (d ∷ ds)) (sym (past_new h)) (past (λ x m p. absurd (lacks one d.name h x m p)) rest)
      go (some e) h = tested e h (agree_or_not e)

sought : (one two : List MacroDef) → build one ≡ none → Sought one two (first_differing one two)
unfolding first_differing
sought one [] b = none_differs λ x m. absurd (Memᴰ.not-nil m)
sought one (d ∷ ds) b = sought_here one d ds b (sought one ds b)

finds : (one two : List MacroDef) (d : MacroDef) → build one ≡ none → FirstDiffers one two d → first_differing one two ≡ some d
finds one two d b h = sought_one (sought one two b) (one_differs h)

finds_none : (one two : List MacroDef) → build one ≡ none → NoneDiffers one two → first_differing one two ≡ none
finds_none one two b h = sought_one (sought one two b) (none_differs h)

-- ------------------------------------------------------------------ the definition's merged registry is the paper's

takes_new : (one : List MacroDef) (d : MacroDef) (ds : List MacroDef) → get one d.name ≡ none → new_ones one (d ∷ ds) ≡ d ∷ new_ones one ds
unfolding new_ones
takes_new one d ds h = rw (h, new_ones) refl

leaves_known : (one : List MacroDef) (d e : MacroDef) (ds : List MacroDef) → get one d.name ≡ some e
    → new_ones one (d ∷ ds) ≡ new_ones one ds
unfolding new_ones
leaves_known one d e ds h = rw (h, new_ones) refl

adds_new : (one two : List MacroDef) → Added one two (new_ones one two)
unfolding new_ones
adds_new one [] = Added.no_more
adds_new one (d ∷ ds) = go (get one d.name) refl (adds_new one ds)
  where
    go : (o : Option MacroDef) → get one d.name ≡ o → Added one ds (new_ones one ds) → Added one (d ∷ ds) (new_ones one (d ∷ ds))
    go none h k = subst (Added one (d ∷ ds)) (sym (takes_new one d ds h)) (Added.adds (lacks one d.name h) k)
    go (some e) h k = subst (Added one (d ∷ ds)) (sym (leaves_known one d e ds h)) (Added.leaves (has one d.name e h) k)

joins : (one two : List MacroDef) → Joined one two (joined one two)
unfolding joined
joins one two = record { added = new_ones one two; of_second = adds_new one two; first_then_added = refl }

joined_one : (one two all : List MacroDef) → Joined one two all → all ≡ joined one two
unfolding joined
joined_one one two all j = j.first_then_added ∙ ap (◌++◌ one) (added_one j.of_second (adds_new one two))

too_large : (all : List MacroDef) → TooLarge all → too_large_registry all ≡ true
unfolding too_large_registry fits_sizes
too_large all (inl h) = simp (lt-leb (length (flat_registry all)) 1024 h) refl
too_large all (inr h) = simp (lt-leb (length (text_of (flat_registry all))) 3072 h, and-false) refl

fits : (all : List MacroDef) → Fits all → too_large_registry all ≡ false
unfolding too_large_registry fits_sizes
fits all h = simp (le-leb (length (flat_registry all)) 1024 h.0, le-leb (length (text_of (flat_registry all))) 3072 h.1) refl

measured : (n t : ℕ) → (1024 < n ⊎ 3072 < t) ⊎ ((n ≤ 1024) × (t ≤ 3072))
measured n t = go (leb n 1024) refl (leb t 3072) refl
  where
    go : (x : Bool) → leb n 1024 ≡ x → (y : Bool) → leb t 3072 ≡ y → (1024 < n ⊎ 3072 < t) ⊎ ((n ≤ 1024) × (t ≤ 3072))
    go false h y k = inl (inl (leb-false n 1024 h))
    go true h false k = inl (inr (leb-false t 3072 k))
    go true h true k = inr (leb-true n 1024 h, leb-true t 3072 k)

either : (all : List MacroDef) → TooLarge all ⊎ Fits all
either all = measured (length (flat_registry all)) (length (text_of (flat_registry all)))

-- ------------------------------------------------------------------ what the definition answers, case by case

which : {A : Type 0} {f : Reading A} {why : ℕ} → Unread f why
    → ((f ≡ Reading.malformed) × (why ≡ 2)) ⊎ ((f ≡ Reading.too_large) × (why ≡ 3))
which Unread.malformed = inl (refl, refl)
which Unread.too_large = inr (refl, refl)

module _ (r m : ℕ) (x y : List ℕ) where
  abbrev b : Buffers
  b = without_work r m

  abbrev out : Outcome (List MacroDef) → Answer
  out o = answer registry_tape b o

  answers_short : ShortResult b ⊎ ShortMessage b → merge_answer r m x y ≡ out (number_alone 1)
  unfolding merge_answer result_answer
  answers_short (inl h) = rw (lt-leb 12296 r h) refl
  answers_short (inr h) = go (leb 12296 r)
    where
      go : (long : Bool) → out (elim (long && leb 2048 m) [ true ↦ merge_tapes x y | false ↦ number_alone 1 ]) ≡ out (number_alone 1)
      go true = rw (lt-leb 2048 m h) refl
      go false = refl

  answers_long : 12296 ≤ r → 2048 ≤ m → merge_answer r m x y ≡ out (merge_tapes x y)
  unfolding merge_answer result_answer
  answers_long h k = rw (le-leb 12296 r h, le-leb 2048 m k) refl

  unread_first : (why : ℕ) → Unread (read registry_root x) why → merge_tapes x y ≡ number_alone why
  unfolding merge_tapes reading
  unread_first why u = go (which u)
    where
      go : ((read registry_root x ≡ Reading.malformed) × (why ≡ 2)) ⊎ ((read registry_root x ≡ Reading.too_large) × (why ≡ 3))
          → merge_tapes x y ≡ number_alone why
      go (inl h) = rw (h.0, h.1) refl
      go (inr h) = rw (h.0, h.1) refl

  unread_second : (one : List MacroDef) (why : ℕ) → read registry_root x ≡ Reading.accepted one → Unread (read registry_root y) why
      → merge_tapes x y ≡ number_alone why
  unfolding merge_tapes reading
  unread_second one why k u = go (which u)
    where
      go : ((read registry_root y ≡ Reading.malformed) × (why ≡ 2)) ⊎ ((read registry_root y ≡ Reading.too_large) × (why ≡ 3))
          → merge_tapes x y ≡ number_alone why
      go (inl h) = rw (k, h.0, h.1) refl
      go (inr h) = rw (k, h.0, h.1) refl

  module _ (one two : List MacroDef) (k : BothRead r m x y one two) where
    answers_read : {o : Outcome (List MacroDef)} → merge_tapes x y ≡ o → merge_answer r m x y ≡ out o
    answers_read e = answers_long k.long_result k.long_message ∙ ap out e

    refused_first : (v : Refusal) → build one ≡ some v → merge_tapes x y ≡ Outcome.refused v 0
    unfolding merge_tapes reading unless
    refused_first v h = simp (k.first_read, k.second_read, h) refl

    refused_second : (v : Refusal) → build one ≡ none → build two ≡ some v → merge_tapes x y ≡ Outcome.refused v 0
    unfolding merge_tapes reading unless
    refused_second v h i = simp (k.first_read, k.second_read, h, i) refl

    both_pass : build one ≡ none → build two ≡ none → merge_tapes x y ≡ merge one two 0
    unfolding merge_tapes reading unless
    both_pass h i = simp (k.first_read, k.second_read, h, i) refl

  module _ (one two : List MacroDef) (k : BothPass r m x y one two) where
    answers_merge : {o : Outcome (List MacroDef)} → merge one two 0 ≡ o → merge_answer r m x y ≡ out o
    answers_merge e = answers_read one two k.both_read (both_pass one two k.both_read k.first_passes k.second_passes ∙ e)

    merge_51 : (d : MacroDef) → FirstDiffers one two d → merge one two 0 ≡ Outcome.refused (refusal 51 d.span []) 0
    unfolding merge refuse_differing proceed ◌>>=◌ ◌>>◌
    merge_51 d h = simp (finds one two d k.first_passes h) refl

    merge_3 : (all : List MacroDef) → NoneDiffers one two → Joined one two all → TooLarge all
        → merge one two 0 ≡ Outcome.refused (refusal 3 0 []) 0
    unfolding merge refuse_differing check_limits proceed ◌>>=◌ ◌>>◌
    merge_3 all n j large = simp (finds_none one two k.first_passes n, sym (joined_one one two all j), too_large all large) refl

    merge_0 : (all : List MacroDef) → NoneDiffers one two → Joined one two all → Fits all → merge one two 0 ≡ Outcome.done all 0
    unfolding merge refuse_differing check_limits proceed ◌>>=◌ ◌>>◌
    merge_0 all n j small = simp (finds_none one two k.first_passes n, sym (joined_one one two all j), fits all small) refl

-- ------------------------------------------------------------------ ours is a merge

pub merges : Merges merge_answer
unfolding registry_tape
merges =
    record {
      short = λ r m x y h. alone r m x y 1 (answers_short r m x y h);
      first_unread = λ r m x y why h k u. alone r m x y why (answers_long r m x y h k ∙ ap (out r m x y) (unread_first r m x y why u));
      second_unread = λ r m x y one why h k p u.
          alone r m x y why (answers_long r m x y h k ∙ ap (out r m x y) (unread_second r m x y one why p u));
      first_refused = λ r m x y one two v k h.
          refused r m x y v (answers_read r m x y one two k (refused_first r m x y one two k v h));
      second_refused = λ r m x y one two v k h i.
          refused r m x y v (answers_read r m x y one two k (refused_second r m x y one two k v h i));
      differs = λ r m x y one two d k h.
          refused r m x y (refusal 51 d.span []) (answers_merge r m x y one two k (merge_51 r m x y one two k d h));
      too_large = λ r m x y one two all k n j h.
          refused r m x y (refusal 3 0 []) (answers_merge r m x y one two k (merge_3 r m x y one two k all n j h));
      merged = λ r m x y one two all k n j h.
          subst (Gives (without_work r m) (encode (flat_registry all)) 0)
          (sym (answers_merge r m x y one two k (merge_0 r m x y one two k all n j h)))
          (gives registry_tape (without_work r m) all 0);
    }
  where
    refused : (r m : ℕ) (x y : List ℕ) (v : Refusal) → merge_answer r m x y ≡ answer registry_tape (without_work r m) (Outcome.refused v 0)
        → Refuses (without_work r m) v.number v.span v.message 0 (merge_answer r m x y)
    refused r m x y v h =
        subst (Refuses (without_work r m) v.number v.span v.message 0) (sym h) (refuses registry_tape (without_work r m) v 0)

    alone : (r m : ℕ) (x y : List ℕ) (why : ℕ) → merge_answer r m x y ≡ answer registry_tape (without_work r m) (number_alone why)
        → RefusesAlone (without_work r m) why (merge_answer r m x y)
    alone r m x y why h = subst (RefusesAlone (without_work r m) why) (sym h) (refuses_alone registry_tape (without_work r m) why)

-- ------------------------------------------------------------------ and there is no other

-- what each merge says of these inputs, and that no two answers are said to be so
record Settled (r m : ℕ) (x y : List ℕ) : Type 1 where
  Said : Answer → Type 0
  said : (g : (r m : ℕ) → (x y : List ℕ) → Answer) → Merges g → Said (g r m x y)
  one_answer : (a a' : Answer) → Said a → Said a' → a ≡ a'

module _ (r m : ℕ) (x y : List ℕ) where
  abbrev Op : Type 0
  Op = (r m : ℕ) → (x y : List ℕ) → Answer

  settled_refusal : (number span : ℕ) (message : Text)
      → ((g : Op) → Merges g → Refuses (without_work r m) number span message 0 (g r m x y)) → Settled r m x y
  settled_refusal number span message f =
      record { Said = Refuses (without_work r m) number span message 0; said = f; one_answer = λ a a' p q. refuses_one p q }

  settled_joined : (one two : List MacroDef) → BothPass r m x y one two → NoneDiffers one two → Settled r m x y
  settled_joined one two k n = go (either all)
    where
      all : List MacroDef
      all = joined one two

      go : TooLarge (joined one two) ⊎ Fits (joined one two) → Settled r m x y
      go (inl h) = settled_refusal 3 0 [] λ g p. p.too_large r m x y one two (joined one two) k n (joins one two) h
      go (inr h) =
          record {
            Said = Gives (without_work r m) (encode (flat_registry (joined one two))) 0;
            said = λ g p. p.merged r m x y one two (joined one two) k n (joins one two) h;
            one_answer = λ a a' p q. gives_one p q;
          }

  settled_pass : (one two : List MacroDef) → BothPass r m x y one two → Settled r m x y
  settled_pass one two k = go (sought one two k.first_passes)
    where
      go : {o : Option MacroDef} → Sought one two o → Settled r m x y
      go (none_differs n) = settled_joined one two k n
      go (one_differs {d = d} h) = settled_refusal 51 d.span [] λ g p. p.differs r m x y one two d k h

  settled_read : (one two : List MacroDef) → BothRead r m x y one two → Settled r m x y
  settled_read one two k = go (build one) refl (build two) refl
    where
      go : (v : Verdict) → build one ≡ v → (w : Verdict) → build two ≡ w → Settled r m x y
      go (some v) h w i = settled_refusal v.number v.span v.message λ g p. p.first_refused r m x y one two v k h
      go none h (some w) i = settled_refusal w.number w.span w.message λ g p. p.second_refused r m x y one two w k h i
      go none h none i = settled_pass one two (record { both_read = k; first_passes = h; second_passes = i })

  unread : {why : ℕ} (f : Reading (List MacroDef)) → read registry_root y ≡ f → Unread f why → Unread (read registry_root y) why
  unread {why} f h u = subst (λ (z : Reading (List MacroDef)). Unread z why) (sym h) u

  settled_long : 12296 ≤ r → 2048 ≤ m → Settled r m x y
  settled_long h k = go (read registry_root x) refl (read registry_root y) refl
    where
      refused : (why : ℕ) → Unread (read registry_root x) why → Settled r m x y
      refused why u = settled_refusal why 0 [] λ g p. p.first_unread r m x y why h k u

      then_refused : (one : List MacroDef) → read registry_root x ≡ Reading.accepted one → (why : ℕ) → Unread (read registry_root y) why
          → Settled r m x y
      then_refused one e why u = settled_refusal why 0 [] λ g p. p.second_unread r m x y one why h k e u

      go : (f : Reading (List MacroDef)) → read registry_root x ≡ f → (s : Reading (List MacroDef)) → read registry_root y ≡ s
          → Settled r m x y
      go Reading.malformed e s i = refused 2 (subst (λ (z : Reading (List MacroDef)). Unread z 2) (sym e) Unread.malformed)
      go Reading.too_large e s i = refused 3 (subst (λ (z : Reading (List MacroDef)). Unread z 3) (sym e) Unread.too_large)
      go (Reading.accepted one) e Reading.malformed i =
          then_refused one e 2 (subst (λ (z : Reading (List MacroDef)). Unread z 2) (sym i) Unread.malformed)
      go (Reading.accepted one) e Reading.too_large i =
          then_refused one e 3 (subst (λ (z : Reading (List MacroDef)). Unread z 3) (sym i) Unread.too_large)
      go (Reading.accepted one) e (Reading.accepted two) i =
          settled_read one two (record { long_result = h; long_message = k; first_read = e; second_read = i })

  settled : Settled r m x y
  settled = go (leb 12296 r) refl (leb 2048 m) refl
    where
      go : (a : Bool) → leb 12296 r ≡ a → (c : Bool) → leb 2048 m ≡ c → Settled r m x y
      go false h c k = settled_refusal 1 0 [] λ g p. p.short r m x y (inl (leb-false 12296 r h))
      go true h false k = settled_refusal 1 0 [] λ g p. p.short r m x y (inr (leb-false 2048 m k))
      go true h true k = settled_long (leb-true 12296 r h) (leb-true 2048 m k)

pub determined : (g : (r m : ℕ) → (x y : List ℕ) → Answer) → Merges g → (r m : ℕ) (x y : List ℕ) → g r m x y ≡ merge_answer r m x y
determined g p r m x y =
    let s = settled r m x y in
    s.one_answer (g r m x y) (merge_answer r m x y) (s.said g p) (s.said merge_answer merges)
