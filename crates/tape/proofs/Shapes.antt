-- Trees of the sorts of a table, from entries back: an entry that a sort lets in, with trees for what follows it, spells a tree of the
-- sort. A table has a type of trees for each sort, and a case for each of a sort's codes.
-- Assumes nothing.
use Prim.Native.Nat.{ℕ, zero, suc, ◌+◌, ◌-◌, ◌%◌, ◌≤◌, ◌<◌}
use mathlib.Core.Path.{◌≡◌, refl, ap, sym, subst, ◌∙◌}
use mathlib.Core.Bool.{Bool, true, false, ◌&&◌, ◌||◌}
use mathlib.Core.List.{List, [], ◌∷◌, ◌++◌, append-nil}
use native.Mathlib.Omega.{arith}
use native.Mathlib.Decide.{ℕ_discrete}
use borrow.Author.Tests.{ltb-true}
use lib.Dec.{T, leb, ltb, leb→le, ltb→lt}
use lib.ListN.{length, get_or, replicate}
use Rattle.format.specs.Entry.{Text, Entry, entry, text_entry}
use Rattle.format.specs.Flat.{flat_bool}
use Rattle.format.specs.Tape.{is_text, text_width}
use Rattle.format.proofs.Tests.{and_left, and_right, and_both, from_true, is_true}
use Rattle.grammar.specs.Grammar.{sorts_of}
use Rattle.grammar.specs.Words.{Rules, no_codes, sort_at, row_at, in_sort, follows_in, follows_of}
use Rattle.grammar.specs.Waits.{valued}
use Rattle.grammar.specs.declared.rules.SortRule.{SortRule}
use Rattle.tape.proofs.Found.{TreesOf, spell_all}
use Rattle.tape.proofs.Passing.{allowed, sorts_below}

-- ------------------------------------------------------------------ a type of trees for each sort

pub record Shape : Type 1 where
  pub Tree : Type 0
  pub spell : Tree → List Entry

abbrev pub shape : (A : Type 0) → (A → List Entry) → Shape
shape A f = record { Tree = A; spell = f }

abbrev pub no_shape : Shape
no_shape = shape (Unit {0}) (λ x. [])

-- ------------------------------------------------------------------ an entry in front of trees

abbrev pub coded : ℕ → ℕ → Text → Entry
coded k v t = record { code = k; value = v; text = t }

wordless : (t : Text) → length t ≡ 0 → [] ≡ t
wordless [] h = refl
wordless (b ∷ t) h = absurd (omega arith)

-- an entry without text, its value written otherwise; and one with text
pub valued_as : (k v w : ℕ) (t : Text) {es fs : List Entry} → w ≡ v → length t ≡ 0 → es ≡ fs → entry k w ∷ es ≡ coded k v t ∷ fs
valued_as k v w t e h p = rw (e, wordless t h, p)

-- the number of a truth value
pub bool : (v : ℕ) → ltb v 2 ≡ true → (b : Bool) × (flat_bool b ≡ v)
unfolding flat_bool
bool zero h = (false, refl)
bool (suc zero) h = (true, refl)
bool (suc (suc v)) h = absurd (omega (arith, ltb-true (suc (suc v)) 2 h))

-- a case for each of the n numbers from `low` on
infixr 10 ◌by◌&◌
pub data Each (P : ℕ → Type 0) : ℕ → ℕ → Type 0 where
  end : {low : ℕ} → Each P low zero
  ◌by◌&◌ : (low : ℕ) {n : ℕ} → P low → Each P (suc low) n → Each P low (suc n)

pub each : {P : ℕ → Type 0} {low n : ℕ} → Each P low n → (k : ℕ) → low ≤ k → k < low + n → P k
each end k h₁ h₂ = absurd (omega arith)
each {P} (◌by◌&◌ low {n = n} p ps) k h₁ h₂ = go (ℕ_discrete low k) (each ps k)
  where
    go : Dec (low ≡ k) → (suc low ≤ k → k < suc low + n → P k) → P k
    go (yes e) next = subst P e p
    go (no ne) next = next (omega arith) (omega arith)

in_range : {P : ℕ → Type 0} (low high : ℕ) → Each P low (high - low) → (k : ℕ) → T (leb low k && ltb k high) → P k
in_range low high cases k t =
    let h₁ = leb→le low k (and_left (leb low k) _ t) in
    let h₂ = ltb→lt k high (and_right (leb low k) _ t) in
    each cases k h₁ (omega arith)

-- ------------------------------------------------------------------ the trees of a table

module _ (shapes : List Shape) where
  -- of the sort with this number, which is below 32
  abbrev pub shape_at : ℕ → Shape
  shape_at n = get_or shapes n no_shape

  abbrev pub Typed : ℕ → Type 0
  Typed s = (shape_at (s % 32)).Tree

  abbrev pub flat_at : (s : ℕ) → Typed s → List Entry
  flat_at s = (shape_at (s % 32)).spell

  -- a tree for each sort
  abbrev pub All : List ℕ → Type 0
  All ss = TreesOf Typed ss

  abbrev pub flat_all : (ss : List ℕ) → All ss → List Entry
  flat_all ss xs = spell_all flat_at ss xs

  -- the same with nothing behind the last
  abbrev pub joined : (ss : List ℕ) → All ss → List Entry
  joined [] xs = []
  joined (s ∷ []) xs = flat_at s xs.0
  joined (s ∷ t ∷ ss) xs = flat_at s xs.0 ++ joined (t ∷ ss) xs.1

  pub joined_all : (ss : List ℕ) (xs : All ss) → joined ss xs ≡ flat_all ss xs
  joined_all [] xs = refl
  joined_all (s ∷ []) xs = sym (append-nil (flat_at s xs.0))
  joined_all (s ∷ t ∷ ss) xs = ap (λ (es : List Entry). flat_at s xs.0 ++ es) (joined_all (t ∷ ss) xs.1)

  pub spanned : (k v : ℕ) (t : Text) → length t ≡ 0 → (ss : List ℕ) (xs : All ss) → entry k v ∷ joined ss xs ≡ coded k v t
      ∷ flat_all ss xs
  spanned k v t h ss xs = valued_as k v v t refl h (joined_all ss xs)

  pub zeroed : (k v : ℕ) (t : Text) → ltb v 1 ≡ true → length t ≡ 0 → (ss : List ℕ) (xs : All ss) → entry k 0 ∷ joined ss xs
      ≡ coded k v t ∷ flat_all ss xs
  zeroed k v t ok h ss xs = valued_as k v 0 t (omega (arith, ltb-true v 1 ok)) h (joined_all ss xs)

  pub spelt : (k v : ℕ) (t : Text) → length t ≡ v → (ss : List ℕ) (xs : All ss) → text_entry k t ∷ joined ss xs ≡ coded k v t
      ∷ flat_all ss xs
  spelt k v t h ss xs = rw (h, joined_all ss xs)

  -- ---------------------------------------------------------------- as many trees as a count says

  pub record Listed (L : Type 0) (size : L → ℕ) (spell : L → List Entry) (s n : ℕ) (xs : All (replicate n s)) : Type 0 where
    pub list : L
    pub sized : size list ≡ n
    pub same : spell list ≡ flat_all (replicate n s) xs

  -- a list is nothing, or one tree and a list
  pub listed : {L : Type 0} (size : L → ℕ) (spell : L → List Entry) (s : ℕ) (nil : L) (cons : Typed s → L → L) → size nil ≡ 0
      → spell nil ≡ []
      → ((x : Typed s) (l : L) → size (cons x l) ≡ suc (size l))
      → ((x : Typed s) (l : L) → spell (cons x l) ≡ flat_at s x ++ spell l)
      → (n : ℕ) (xs : All (replicate n s)) → Listed L size spell s n xs
  listed size spell s nil cons z p zs ps zero xs = record { list = nil; sized = z; same = p }
  listed size spell s nil cons z p zs ps (suc n) xs =
      let r = listed size spell s nil cons z p zs ps n xs.1 in
      record {
        list = cons xs.0 r.list;
        sized = zs xs.0 r.list ∙ ap suc r.sized;
        same = ps xs.0 r.list ∙ ap (λ (es : List Entry). flat_at s xs.0 ++ es) r.same;
      }

  -- the entry with the count, and the list
  pub counting : {L : Type 0} {size : L → ℕ} {spell : L → List Entry} {s : ℕ} (k v : ℕ) (t : Text) {xs : All (replicate v s)}
      → (l : Listed L size spell s v xs) → length t ≡ 0 → entry k (size l.list) ∷ spell l.list ≡ coded k v t
      ∷ flat_all (replicate v s) xs
  counting k v t l h = valued_as k v _ t l.sized h l.same

  -- ---------------------------------------------------------------- a case for each sort and code

  module _ (grammar : Rules) where
    -- what the table says of the sort with the number n
    abbrev pub rule_at : ℕ → SortRule
    rule_at n = get_or grammar.sorts n no_codes

    -- the sorts of what follows a code k at a place of that sort
    abbrev pub sorts_at : ℕ → ℕ → ℕ → List ℕ
    sorts_at n k v = sorts_of (follows_of (follows_in (rule_at n) (row_at grammar k))) v

    -- a tree of that sort that starts with the code k
    abbrev pub Built : ℕ → ℕ → Type 0
    Built n k =
        (v : ℕ) (t : Text) → valued (row_at grammar k).values v ≡ true → length t ≡ text_width (is_text k) v → (xs : All (sorts_at n k v))
        → (x : (shape_at n).Tree) × ((shape_at n).spell x ≡ coded k v t ∷ flat_all (sorts_at n k v) xs)

    -- a case for each code of the two ranges of the sort with the number n
    abbrev pub Ranged : (sort : SortRule) → ℕ → Type 0
    Ranged sort n =
        Each (Built n) sort.low (sort.end - sort.low)
        × Each (Built n) sort.low_too (sort.end_too - sort.low_too)

    in_ranges : (sort : SortRule) (n k : ℕ) → Ranged sort n → T (in_sort sort k) → Built n k
    in_ranges sort n k cases t =
        let low = leb sort.low k in
        go (ltb k sort.end) (λ u. in_range sort.low sort.end cases.0 k (and_both low _ (and_left low _ t) u))
        (and_right low _ t)
      where
        go : (b : Bool) → (T b → Built n k) → T (b || leb sort.low_too k && ltb k sort.end_too) → Built n k
        go true first t = first tt
        go false first t = in_range sort.low_too sort.end_too cases.1 k t

    abbrev pub Cases : Type 0
    Cases = Each (λ n. Ranged (rule_at n) n) 0 32

    -- an entry that a sort lets in, in front of trees for what follows it
    pub built : Cases → (s : ℕ) (e : Entry) → allowed grammar s e ≡ true → length e.text ≡ text_width (is_text e.code) e.value
        → (xs : All (sorts_below grammar s e)) → (x : Typed s) × (flat_at s x ≡ e ∷ flat_all (sorts_below grammar s e) xs)
    built all_cases s e ok h xs =
        let t = from_true ok in
        let a = in_sort (sort_at grammar s) e.code in
        let n = s % 32 in
        in_ranges (rule_at n) n e.code (each all_cases n (omega arith) (omega arith)) (and_left a _ t) e.value e.text
        (is_true (and_right a _ t)) h xs
