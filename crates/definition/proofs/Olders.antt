-- The promises of the older tape: ours meets them, and whatever meets them is ours: specs/Olders.antt.
-- Assumes nothing.
use Prim.Native.Nat.{ℕ, zero, suc, ◌+◌, ◌-◌, ◌*◌, ◌^◌, ◌≤◌, ◌<◌}
use native.Mathlib.Omega.{arith}
use mathlib.Core.Path.{◌≡◌, refl, sym, ◌∙◌, ap, subst}
use mathlib.Core.List.{List, [], ◌∷◌, Memᴰ, cons-ne-nil}
use mathlib.Core.Bool.{Bool, true, false, not, ◌||◌, false≢true}
use mathlib.Core.Option.{Option, none, some, none-ne-some}
use mathlib.Core.Logic.{◌⊎◌, inl, inr, ◌≢◌}
use borrow.Author.Tests.{le-leb}
use lib.Dec.{T, leb, ltb, eqb, eqb→eq, leb→le, nleb→lt, ltb→lt, lt→ltb, nltb→le}
use lib.IntN.{ℤ, pos, negsuc, ◌*ℤ◌}
use lib.Signed.{lt_z_yes, le_z_yes}
use lib.ListN.{length, take, drop}
use Rattle.format.specs.Entry.{Text, Entry, le, codes_of, values_of, text_of, encode}
use Rattle.format.specs.Signed.{signed, is_signed64, bits64}
use Rattle.format.specs.Limits.{fits_sizes}
use Rattle.format.specs.Utf8.{well_texts}
use Rattle.format.specs.Build.{Stack, build}
use Rattle.format.specs.Tape.{Reading, from_le, is_text, text_width, cons, take_entry, split, read_texts, read_sections, read_sizes, read_tape, Root, small, condition_root, term_root, definition_root, call_root, registry_root, read_limits, read_root, read_stack, read_tree, accept, fits, rewrite, rewritten, read, Bytes}
use Rattle.format.specs.Older.{sevenfold, as_days, older_entry, older_entries, fits_older, Kind, TreeOf, root_of, kind_of, head_or0, first_code}
use Rattle.format.proofs.All.{All, all_nil, all_cons, of_all}
use Rattle.format.proofs.Tests.{is_true, is_false, and_left, and_right, and_both}
use Rattle.format.proofs.Signed.{signed_bits}
use Rattle.format.proofs.Accepted.{Values64, Accepts, was_malformed, was_too_large, was_accepted}
use Rattle.format.proofs.Spells.{flat_stack, s_at_root, build_spells}
use Rattle.format.proofs.Rewritten.{read_on_tape}
use Rattle.format.proofs.LastYear.{lawful_of, rewrites_of, ages_of, starts}
use Rattle.definition.specs.Outcome.{Outcome}
use Rattle.definition.specs.Answers.{Answer, answer, number_alone, reading}
use Rattle.definition.specs.Older.{unless_out, older_of, older_tape, result_alone, older_answer}
use Rattle.definition.specs.Returned.{Gives, RefusesAlone}
use Rattle.definition.specs.Olders.{Amount, not_negative, negative, Outside, InDays, turned, kept, EachInDays, no_more, one_more, Leaves, OfRoot, NoRoot, Olders}
use Rattle.definition.proofs.Lookup.{Found, not_found, found}
use Rattle.definition.proofs.Returned.{gives_one, refuses_one, gives, refuses_alone}

-- ------------------------------------------------------------------ amounts

-- an amount is in the range, and these are its bits
amount_bits : {v : ℕ} {n : ℤ} → Amount v n → T (is_signed64 n) × (bits64 n ≡ v)
unfolding is_signed64 bits64
amount_bits (not_negative {n = n} h) = (lt→ltb n (2 ^ 63) h, refl)
amount_bits (negative {n = zero} h k) = absurd (omega arith)
amount_bits (negative {n = suc n} h k) = (lt→ltb n (2 ^ 63) (omega arith), refl)

signed_amount : {v : ℕ} {n : ℤ} → Amount v n → signed v ≡ n
signed_amount {v} {n} a = let b = amount_bits a in subst (λ (w : ℕ). signed w ≡ n) b.1 (signed_bits n b.0)

-- a number in the range is one
amount_of : (n : ℤ) → T (is_signed64 n) → Amount (bits64 n) n
unfolding is_signed64 bits64
amount_of (pos n) h = not_negative (ltb→lt n (2 ^ 63) h)
amount_of (negsuc n) h =
    let k : n < 2 ^ 63 = ltb→lt n (2 ^ 63) h in
    negative {n = suc n} (omega arith) (omega arith)

-- and so are any 64 bits
amount_in : (v : ℕ) → v < 2 ^ 64 → Amount v (signed v)
unfolding signed
amount_in v h = go (ltb v (2 ^ 63)) (ltb→lt v (2 ^ 63)) (λ t. nltb→le v (2 ^ 63) t)
  where
    go : (b : Bool) → (T b → v < 2 ^ 63) → (T (not b) → 2 ^ 63 ≤ v)
        → Amount v (elim b as (λ c. ℤ) [ true ↦ pos v | false ↦ negsuc (2 ^ 64 - suc v) ])
    go true p q = not_negative (p tt)
    go false p q =
        let m : ℕ = 2 ^ 64 - suc v in
        let l : 2 ^ 63 ≤ v = q tt in
        let e : 2 ^ 64 - suc m ≡ v = omega arith in
        subst (λ (w : ℕ). Amount w (negsuc m)) e (negative {n = suc m} (omega arith) (omega arith))

outside_range : (n : ℤ) → Outside n → T (is_signed64 n) → ⊥
unfolding is_signed64
outside_range (pos n) (inl h) t = h.lt
outside_range (pos n) (inr h) t = omega (arith, leb→le (2 ^ 63) n h.le, ltb→lt n (2 ^ 63) t)
outside_range (negsuc n) (inl h) t = omega (arith, ltb→lt (2 ^ 63 - 1) n h.lt, ltb→lt n (2 ^ 63) t)
outside_range (negsuc n) (inr h) t = h.le

is_outside : (n : ℤ) → (T (is_signed64 n) → ⊥) → Outside n
unfolding is_signed64
is_outside (pos n) h = go (leb (2 ^ 63) n) (nleb→lt (2 ^ 63) n) (λ t. inr (le_z_yes t))
  where
    go : (b : Bool) → (T (not b) → n < 2 ^ 63) → (T b → Outside (pos n)) → Outside (pos n)
    go true p q = q tt
    go false p q = absurd (h (lt→ltb n (2 ^ 63) (p tt)))
is_outside (negsuc n) h = go (ltb (2 ^ 63 - 1) n) (λ t. nltb→le (2 ^ 63 - 1) n t) (λ t. inl (lt_z_yes t))
  where
    go : (b : Bool) → (T (not b) → n ≤ 2 ^ 63 - 1) → (T b → Outside (negsuc n)) → Outside (negsuc n)
    go true p q = q tt
    go false p q = absurd (h (lt→ltb n (2 ^ 63) (omega (arith, p tt))))

-- ------------------------------------------------------------------ entries

-- one entry: a week's amount stays in the range
fits_one : Entry → Bool
fits_one e = not (eqb e.code 64) || is_signed64 (sevenfold e.value)

not_week : (c : ℕ) → c ≢ 64 → eqb c 64 ≡ false
not_week c h = is_false (λ t. h (eqb→eq c 64 t))

in_days : {e f : Entry} → InDays e f → T (fits_one e) × (older_entry e ≡ f)
unfolding fits_one sevenfold older_entry as_days
in_days (turned {t = t} p q) =
    let b = amount_bits q in
    rw (signed_amount p) (b.0, rw b.1 refl)
in_days (kept {e = e} h) = rw (not_week e.code h) (tt, refl)

-- all of them
each_in_days : {es fs : List Entry} → EachInDays es fs → T (fits_older es) × (older_entries es ≡ fs)
unfolding fits_older older_entries fits_one
each_in_days no_more = (tt, refl)
each_in_days (one_more {e = e} {es = es} h k) =
    let p = in_days h in
    let q = each_in_days k in
    (and_both (fits_one e) (fits_older es) p.0 q.0, rw (p.1, q.1) refl)

each_fits : (es : List Entry) → T (fits_older es) → All (λ (e : Entry). T (fits_one e)) es
unfolding fits_older fits_one
each_fits [] t = all_nil
each_fits (e ∷ es) t = all_cons (and_left (fits_one e) (fits_older es) t) (each_fits es (and_right (fits_one e) (fits_older es) t))

leaves_range : {es : List Entry} → Leaves es → fits_older es ≡ false
unfolding fits_one sevenfold
leaves_range {es} h = is_false λ t. at_week (of_all (each_fits es t) h.week h.stands)
  where
    at_week : T (fits_one h.week) → ⊥
    at_week t = outside_range (pos 7 *ℤ h.amount) h.sevenfold (rw (h.in_weeks, signed_amount h.its_amount) at t)

-- an entry of 64 bits is one or the other
in_days_or : (c v : ℕ) (t : Text) → v < 2 ^ 64 → c ≡ 64
    → InDays (record { code = c; value = v; text = t }) (older_entry (record { code = c; value = v; text = t }))
    ⊎ Outside (pos 7 *ℤ signed v)
unfolding older_entry as_days sevenfold
in_days_or c v t h e = rw e (go (is_signed64 (pos 7 *ℤ signed v)) refl)
  where
    go : (b : Bool) → is_signed64 (pos 7 *ℤ signed v) ≡ b
        → InDays (record { code = 64; value = v; text = t }) (record { code = 51; value = bits64 (pos 7 *ℤ signed v); text = t })
        ⊎ Outside (pos 7 *ℤ signed v)
    go true k = inl (turned (amount_in v h) (amount_of (pos 7 *ℤ signed v) (rw k tt)))
    go false k = inr (is_outside (pos 7 *ℤ signed v) (λ t. rw k at t))

leaves_later : {e : Entry} {es : List Entry} → Leaves es → Leaves (e ∷ es)
leaves_later h =
    record {
      week = h.week;
      stands = Memᴰ.tail h.stands;
      in_weeks = h.in_weeks;
      amount = h.amount;
      its_amount = h.its_amount;
      sevenfold = h.sevenfold;
    }

each_or_leaves : (es : List Entry) → Values64 es → EachInDays es (older_entries es) ⊎ Leaves es
unfolding older_entries older_entry as_days
each_or_leaves [] all_nil = inl no_more
each_or_leaves (e ∷ es) (all_cons v vs) = both (first (eqb e.code 64) refl) (each_or_leaves es vs)
  where
    first : (b : Bool) → eqb e.code 64 ≡ b → InDays e (older_entry e) ⊎ Leaves (e ∷ es)
    first true k = found_week (eqb→eq e.code 64 (rw k tt)) (in_days_or e.code e.value e.text v (eqb→eq e.code 64 (rw k tt)))
      where
        found_week : e.code ≡ 64 → InDays e (older_entry e) ⊎ Outside (pos 7 *ℤ signed e.value)
            → InDays e (older_entry e) ⊎ Leaves (e ∷ es)
        found_week c (inl h) = inl h
        found_week c (inr h) =
            inr (record {
              week = e;
              stands = Memᴰ.head refl;
              in_weeks = c;
              amount = signed e.value;
              its_amount = amount_in e.value v;
              sevenfold = h;
            })
    first false k = inl (rw k (kept {e = e} (λ c. false≢true (sym k ∙ rw c refl))))

    both : InDays e (older_entry e) ⊎ Leaves (e ∷ es) → EachInDays es (older_entries es) ⊎ Leaves es
        → EachInDays (e ∷ es) (older_entry e ∷ older_entries es) ⊎ Leaves (e ∷ es)
    both (inl h) (inl k) = inl (one_more h k)
    both (inr h) k = inr h
    both (inl h) (inr k) = inr (leaves_later k)

-- ------------------------------------------------------------------ the root that a tape has

-- the codes of what is read stand behind the sizes
split_codes : (cs vs : List ℕ) (t : Text) → Found (λ (es : List Entry). codes_of es ≡ cs) (split cs vs t)
unfolding split take_entry cons codes_of
split_codes [] vs [] = found refl
split_codes [] vs (b ∷ t) = not_found
split_codes (c ∷ cs) vs t =
    let v : ℕ = from_le (take 8 vs) in
    let w : ℕ = text_width (is_text c) v in
    go v w (leb w (length t)) (split cs (drop 8 vs) (drop w t)) (split_codes cs (drop 8 vs) (drop w t))
  where
    go : (v w : ℕ) (b : Bool) (o : Option (List Entry)) → Found (λ (es : List Entry). codes_of es ≡ cs) o
        → Found (λ (es : List Entry). codes_of es ≡ c ∷ cs)
        (elim b [ true ↦ cons (record { code = c; value = v; text = take w t }) o | false ↦ none ])
    go v w false o h = not_found
    go v w true none not_found = not_found
    go v w true (some es) (found h) = found (ap (λ (l : List ℕ). c ∷ l) h)

-- as many as the first size says
CodesOf : (x : List ℕ) → List Entry → Type 0
CodesOf x es = (n : ℕ) × (codes_of es ≡ take n (drop 8 x))

codes_read : (x : List ℕ) → Accepts (CodesOf x) (read_tape x)
unfolding CodesOf read_tape read_sizes read_sections read_texts
codes_read x = long (leb 8 (length x))
  where
    n : ℕ
    n = from_le (take 4 x)

    t : ℕ
    t = from_le (take 4 (drop 4 x))

    rest : List ℕ
    rest = drop 8 x

    whole : (es : List Entry) → codes_of es ≡ take n rest → (b : Bool)
        → Accepts (CodesOf x) (elim b [ true ↦ Reading.accepted es | false ↦ Reading.malformed ])
    whole es h true = was_accepted (n, h)
    whole es h false = was_malformed

    texts : (o : Option (List Entry)) → Found (λ (es : List Entry). codes_of es ≡ take n rest) o → Accepts (CodesOf x) (read_texts o)
    texts none not_found = was_malformed
    texts (some es) (found h) = whole es h (well_texts es)

    exact : (b : Bool) → Accepts (CodesOf x)
        (elim b [ true ↦ read_texts (split (take n rest) (take (8 * n) (drop n rest)) (drop (9 * n) rest)) | false ↦ Reading.malformed ])
    exact true = texts _ (split_codes (take n rest) (take (8 * n) (drop n rest)) (drop (9 * n) rest))
    exact false = was_malformed

    sized : (b : Bool) → Accepts (CodesOf x) (elim b [ true ↦ read_sections n t rest | false ↦ Reading.too_large ])
    sized true = exact (eqb (length rest) (9 * n + t))
    sized false = was_too_large

    long : (b : Bool) → Accepts (CodesOf x) (elim b [ true ↦ read_sizes n t rest | false ↦ Reading.malformed ])
    long true = sized (fits_sizes n t)
    long false = was_malformed

-- the first code is that of the first entry
first_behind : (k : Kind) (es : List Entry) (n : ℕ) (rest : List ℕ) → codes_of es ≡ take n rest → kind_of (first_code (encode es)) ≡ some k
    → kind_of (head_or0 rest) ≡ some k
unfolding encode le codes_of values_of text_of first_code head_or0 kind_of
first_behind k [] n rest h e = absurd (none-ne-some k e)
first_behind k (f ∷ es) zero rest h e = absurd (cons-ne-nil _ _ h)
first_behind k (f ∷ es) (suc n) [] h e = absurd (cons-ne-nil _ _ h)
first_behind k (f ∷ es) (suc n) (b ∷ rest) h e = let same : f.code ≡ b = cc in rw same at e

-- what is read of a root's tape, and that its first code tells the root
data Told (k : Kind) (x : List ℕ) {A : Type 0} : Reading A → Type 0 where
  of_none : Told k x Reading.malformed
  over_sizes : read_tape x ≡ Reading.too_large → Told k x Reading.too_large
  over : kind_of (first_code x) ≡ some k → Told k x Reading.too_large
  told : {a : A} → kind_of (first_code x) ≡ some k → Told k x (Reading.accepted a)

module _ (k : Kind) (x : List ℕ) where
  abbrev root : Root (TreeOf k)
  root = root_of k

  tells : (es : List Entry) → read_tape x ≡ Reading.accepted es → (a : TreeOf k) → root.flat a ≡ es → kind_of (first_code x) ≡ some k
  unfolding CodesOf first_code
  tells es e a s = go (subst (Accepts (CodesOf x)) e (codes_read x))
    where
      go : Accepts (CodesOf x) (Reading.accepted es) → kind_of (head_or0 (drop 8 x)) ≡ some k
      go (was_accepted p) = first_behind k es p.0 (drop 8 x) p.1 (rw s at (starts k a))

  told_root : (es : List Entry) → read_tape x ≡ Reading.accepted es → (st : Stack) → flat_stack st ≡ es
      → (o : Option (TreeOf k × Stack)) → root.reader st ≡ o → Told k x (read_root root es o)
  unfolding read_root read_limits
  told_root es e st h none q = of_none
  told_root es e st h (some r) q = go r.1 q
    where
      go : (rest : Stack) → root.reader st ≡ some (r.0, rest)
          → Told k x (elim rest [ [] ↦ read_limits (small root es r.0) r.0 | ◌∷◌ i more ↦ Reading.malformed ])
      go (i ∷ more) q = of_none
      go [] q = limited (small root es r.0)
        where
          limited : (b : Bool) → Told k x (read_limits b r.0)
          limited true = told (tells es e r.0 (s_at_root (lawful_of k).spells st r.0 q ∙ h))
          limited false = over (tells es e r.0 (s_at_root (lawful_of k).spells st r.0 q ∙ h))

  told_stack : (es : List Entry) → read_tape x ≡ Reading.accepted es → (o : Option Stack) → build es ≡ o → Told k x (read_stack root es o)
  unfolding read_stack
  told_stack es e none h = of_none
  told_stack es e (some st) h = told_root es e st (build_spells es st h) (root.reader st) refl

  told_tree : (o : Reading (List Entry)) → read_tape x ≡ o → Told k x (read_tree root o)
  unfolding read_tree
  told_tree Reading.malformed e = of_none
  told_tree Reading.too_large e = over_sizes e
  told_tree (Reading.accepted es) e = told_stack es e (build es) refl

  told_rewritten : (o : Reading (TreeOf k)) → Told k x o → Told k x (rewrite root o)
  unfolding rewrite read_limits
  told_rewritten Reading.malformed of_none = of_none
  told_rewritten Reading.too_large (over_sizes h) = over_sizes h
  told_rewritten Reading.too_large (over h) = over h
  told_rewritten (Reading.accepted a) (told h) = limited (fits root (rewritten root a))
    where
      limited : (b : Bool) → Told k x (read_limits b (rewritten root a))
      limited true = told h
      limited false = over h

  told_read : Told k x (read root x)
  unfolding read accept
  told_read = told_rewritten (read_tree root (read_tape x)) (told_tree (read_tape x) refl)

  accepted_kind : (a : TreeOf k) → read root x ≡ Reading.accepted a → kind_of (first_code x) ≡ some k
  accepted_kind a e = go (subst (Told k x) e told_read)
    where
      go : Told k x (Reading.accepted a) → kind_of (first_code x) ≡ some k
      go (told h) = h

  -- N or T over is 3 of every root
  all_over : read_tape x ≡ Reading.too_large → read root x ≡ Reading.too_large
  unfolding read accept rewrite read_tree
  all_over e = rw e refl

-- so no tape has two of these roots
pub one_root : (x : List ℕ) (j k : Kind) (a : TreeOf j) (b : TreeOf k) → read (root_of j) x ≡ Reading.accepted a
    → read (root_of k) x ≡ Reading.accepted b → j ≡ k
one_root x j k a b p q = let both : some j ≡ some k = sym (accepted_kind j x a p) ∙ accepted_kind k x b q in cc

-- ------------------------------------------------------------------ ours meets the promises

module _ (r : ℕ) (x : List ℕ) where
  abbrev written_as : Outcome (List Entry) → Answer
  written_as o = answer encode (result_alone r) o

  brief : r < 12296 → RefusesAlone (result_alone r) 1 (older_answer r x)
  unfolding older_answer
  brief s = go (leb 12296 r) (leb→le 12296 r)
    where
      go : (b : Bool) → (T b → 12296 ≤ r)
          → RefusesAlone (result_alone r) 1
          (written_as (elim b as (λ c. Outcome (List Entry)) [ true ↦ older_tape x | false ↦ number_alone 1 ]))
      go true h = absurd (omega (arith, h tt, s))
      go false h = refuses_alone encode (result_alone r) 1

  -- with a buffer that is long enough, what its tape comes to
  long_enough : 12296 ≤ r → older_answer r x ≡ written_as (older_tape x)
  unfolding older_answer
  long_enough l = rw (le-leb 12296 r l) refl

  -- of the root that its first code tells
  of_kind : (k : Kind) → kind_of (first_code x) ≡ some k → older_tape x ≡ older_of (root_of k) x
  unfolding older_tape
  of_kind k e = rw (e, older_tape) refl

  of_no_kind : (o : Reading (List Entry)) → read_tape x ≡ o → kind_of (first_code x) ≡ none
      → older_tape x ≡ reading o (λ es. number_alone 2)
  unfolding older_tape
  of_no_kind o h e = rw (e, older_tape, h) refl

  is_malformed : 12296 ≤ r → ((k : Kind) → read (root_of k) x ≡ Reading.malformed) → RefusesAlone (result_alone r) 2 (older_answer r x)
  unfolding older_of reading
  is_malformed l each = rw (long_enough l) (go (kind_of (first_code x)) refl)
    where
      no_root : (o : Reading (List Entry)) → read_tape x ≡ o → kind_of (first_code x) ≡ none
          → RefusesAlone (result_alone r) 2 (written_as (older_tape x))
      no_root Reading.malformed h e = rw (of_no_kind Reading.malformed h e) (refuses_alone encode (result_alone r) 2)
      no_root Reading.too_large h e =
          let z : ◌≡◌ {A = Reading (TreeOf Kind.condition)} Reading.malformed Reading.too_large =
          sym (each Kind.condition) ∙ all_over Kind.condition x h in
          let y : ◌≡◌ {A = ℕ} 0 1 = cc in
          absurd (omega arith)
      no_root (Reading.accepted es) h e = rw (of_no_kind (Reading.accepted es) h e) (refuses_alone encode (result_alone r) 2)

      go : (o : Option Kind) → kind_of (first_code x) ≡ o → RefusesAlone (result_alone r) 2 (written_as (older_tape x))
      go none e = no_root (read_tape x) refl e
      go (some k) e = rw (of_kind k e, each k) (refuses_alone encode (result_alone r) 2)

  is_too_large : 12296 ≤ r → (k : Kind) → read (root_of k) x ≡ Reading.too_large → RefusesAlone (result_alone r) 3 (older_answer r x)
  unfolding older_of reading
  is_too_large l k q = rw (long_enough l) (which (subst (Told k x) q (told_read k x)))
    where
      sizes : read_tape x ≡ Reading.too_large → (o : Option Kind) → kind_of (first_code x) ≡ o
          → RefusesAlone (result_alone r) 3 (written_as (older_tape x))
      sizes h none e = rw (of_no_kind Reading.too_large h e) (refuses_alone encode (result_alone r) 3)
      sizes h (some j) e = rw (of_kind j e, all_over j x h) (refuses_alone encode (result_alone r) 3)

      which : Told k x {A = TreeOf k} Reading.too_large → RefusesAlone (result_alone r) 3 (written_as (older_tape x))
      which (over_sizes h) = sizes h (kind_of (first_code x)) refl
      which (over e) = rw (of_kind k e, q) (refuses_alone encode (result_alone r) 3)

  module _ (l : 12296 ≤ r) (k : Kind) (a : TreeOf k) (q : read (root_of k) x ≡ Reading.accepted a) where
    has_left : Leaves ((root_of k).flat a) → RefusesAlone (result_alone r) 52 (older_answer r x)
    unfolding older_of reading unless_out
    has_left h =
        rw (long_enough l, of_kind k (accepted_kind k x a q), q, leaves_range h) (refuses_alone encode (result_alone r) 52)

    is_written : (es : List Entry) → EachInDays ((root_of k).flat a) es → Gives (result_alone r) (encode es) 0 (older_answer r x)
    unfolding older_of reading unless_out
    is_written es h =
        let d = each_in_days h in
        rw (long_enough l, of_kind k (accepted_kind k x a q), q, is_true d.0, (ages_of k).aged a, d.1)
        (gives encode (result_alone r) es 0)

of_root : (k : Kind) → OfRoot (root_of k) older_answer
of_root k =
    record {
      too_large = λ r x l q. is_too_large r x l k q;
      leaves = λ r x a l q h. has_left r x l k a q h;
      written = λ r x a es l q h. is_written r x l k a q es h;
    }

of_no_root : (x : List ℕ) → NoRoot x → (k : Kind) → read (root_of k) x ≡ Reading.malformed
unfolding root_of TreeOf
of_no_root x h Kind.condition = h.no_condition
of_no_root x h Kind.term = h.no_term
of_no_root x h Kind.definition = h.no_definition
of_no_root x h Kind.call = h.no_call
of_no_root x h Kind.registry = h.no_registry

pub olders : Olders older_answer
unfolding root_of TreeOf
olders =
    record {
      short = brief;
      malformed = λ r x l h. is_malformed r x l (of_no_root x h);
      condition = of_root Kind.condition;
      term = of_root Kind.term;
      definition = of_root Kind.definition;
      call = of_root Kind.call;
      registry = of_root Kind.registry;
    }

-- ------------------------------------------------------------------ and whatever meets them is ours

-- what is promised with the root of a kind
promised : {g : (result_length : ℕ) → List ℕ → Answer} → Olders g → (k : Kind) → OfRoot (root_of k) g
unfolding root_of TreeOf
promised h Kind.condition = h.condition
promised h Kind.term = h.term
promised h Kind.definition = h.definition
promised h Kind.call = h.call
promised h Kind.registry = h.registry

-- no root, unless one of them has settled it
each_kind : {X : Type 0} → (x : List ℕ) → ((k : Kind) → (read (root_of k) x ≡ Reading.malformed) ⊎ X) → NoRoot x ⊎ X
unfolding root_of TreeOf
each_kind {X} x f = go (f Kind.condition) (f Kind.term) (f Kind.definition) (f Kind.call) (f Kind.registry)
  where
    go : (read condition_root x ≡ Reading.malformed) ⊎ X → (read term_root x ≡ Reading.malformed) ⊎ X
        → (read definition_root x ≡ Reading.malformed) ⊎ X → (read call_root x ≡ Reading.malformed) ⊎ X
        → (read registry_root x ≡ Reading.malformed) ⊎ X → NoRoot x ⊎ X
    go (inr s) t d m g = inr s
    go (inl c) (inr s) d m g = inr s
    go (inl c) (inl t) (inr s) m g = inr s
    go (inl c) (inl t) (inl d) (inr s) g = inr s
    go (inl c) (inl t) (inl d) (inl m) (inr s) = inr s
    go (inl c) (inl t) (inl d) (inl m) (inl g) =
        inl (record { no_condition = c; no_term = t; no_definition = d; no_call = m; no_registry = g })

pub determined : (g : (result_length : ℕ) → List ℕ → Answer) → Olders g → (r : ℕ) (x : List ℕ) → Bytes x → g r x ≡ older_answer r x
determined g h r x bytes = buffer (leb 12296 r) refl
  where
    tree : (k : Kind) (a : TreeOf k) → 12296 ≤ r → read (root_of k) x ≡ Reading.accepted a
        → EachInDays ((root_of k).flat a) (older_entries ((root_of k).flat a)) ⊎ Leaves ((root_of k).flat a) → g r x ≡ older_answer r x
    tree k a l e (inl d) = gives_one ((promised h k).written r x a _ l e d) ((of_root k).written r x a _ l e d)
    tree k a l e (inr w) = refuses_one ((promised h k).leaves r x a l e w) ((of_root k).leaves r x a l e w)

    settled : 12296 ≤ r → (k : Kind) → (read (root_of k) x ≡ Reading.malformed) ⊎ (g r x ≡ older_answer r x)
    settled l k = go (read (root_of k) x) refl
      where
        go : (o : Reading (TreeOf k)) → read (root_of k) x ≡ o → (read (root_of k) x ≡ Reading.malformed) ⊎ (g r x ≡ older_answer r x)
        go Reading.malformed e = inl e
        go Reading.too_large e = inr (refuses_one ((promised h k).too_large r x l e) ((of_root k).too_large r x l e))
        go (Reading.accepted a) e =
            let t = read_on_tape (root_of k) (rewrites_of k) (lawful_of k) x bytes a e in
            inr (tree k a l e (each_or_leaves ((root_of k).flat a) t.range.values))

    roots : 12296 ≤ r → NoRoot x ⊎ (g r x ≡ older_answer r x) → g r x ≡ older_answer r x
    roots l (inl each) = refuses_one (h.malformed r x l each) (olders.malformed r x l each)
    roots l (inr same) = same

    buffer : (b : Bool) → leb 12296 r ≡ b → g r x ≡ older_answer r x
    buffer true e =
        let l : 12296 ≤ r = leb→le 12296 r (rw e tt) in
        roots l (each_kind {X = g r x ≡ older_answer r x} x (settled l))
    buffer false e =
        let s : r < 12296 = nleb→lt 12296 r (rw e tt) in
        refuses_one (h.short r x s) (olders.short r x s)
