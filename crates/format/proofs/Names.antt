-- The names of entries, and entries with other names, are what document 02's sentence says (specs/Names.antt).
-- Assumes nothing.
use Prim.Native.Nat.{ℕ}
use mathlib.Core.Path.{◌≡◌, refl, sym, ap, subst}
use mathlib.Core.Logic.{◌⊎◌, inl, inr}
use mathlib.Core.List.Memᴰ
use mathlib.Core.List.{List, [], ◌∷◌}
use mathlib.Core.Bool.{Bool, true, false, ◌||◌}
use lib.Dec.{T, eqb, eqb→eq}
use Rattle.format.specs.Entry.{Text, Entry, text_entry}
use Rattle.format.specs.Macro.{is_code}
use Rattle.format.specs.Names.{◌∈◌, is_name, names_in, rename_entry, rename, IsName, NameAmong, Renames, NamesMeant}
use Rattle.format.proofs.Tests.{is_true, is_false, from_true, or_cases}

-- ------------------------------------------------------------------ the test of a name's code

tells : (e : Entry) → T (is_name e.code) → IsName e
unfolding is_name is_code
tells e t = go (or_cases (eqb e.code 27) _ t)
  where
    go : T (eqb e.code 27) ⊎ T (eqb e.code 43 || false) → IsName e
    go (inl h) = inl (eqb→eq e.code 27 h)
    go (inr h) = last (or_cases (eqb e.code 43) false h)
      where
        last : T (eqb e.code 43) ⊎ T false → IsName e
        last (inl k) = inr (eqb→eq e.code 43 k)
        last (inr k) = absurd k

told : (e : Entry) → IsName e → T (is_name e.code)
unfolding is_name is_code
told e (inl h) = subst (λ (c : ℕ). T (is_name c)) (sym h) tt
told e (inr h) = subst (λ (c : ℕ). T (is_name c)) (sym h) tt

-- an entry is a name or none, and so it is taken by what is asked of it
data Told (e : Entry) : Type 0 where
  name : IsName e → is_name e.code ≡ true → Told e
  none : (IsName e → ⊥) → is_name e.code ≡ false → Told e

tell : (e : Entry) → Told e
tell e = go (is_name e.code) refl
  where
    go : (b : Bool) → is_name e.code ≡ b → Told e
    go true h = name (tells e (from_true h)) h
    go false h = none (λ n. subst T h (told e n)) h

-- ------------------------------------------------------------------ names

at_name : (e : Entry) (es : List Entry) → is_name e.code ≡ true → names_in (e ∷ es) ≡ e.text ∷ names_in es
unfolding names_in
at_name e es h = rw (h, names_in) refl

at_none : (e : Entry) (es : List Entry) → is_name e.code ≡ false → names_in (e ∷ es) ≡ names_in es
unfolding names_in
at_none e es h = rw (h, names_in) refl

later : {e : Entry} {es : List Entry} {a : Text} → NameAmong es a → NameAmong (e ∷ es) a
later r = record { where_it_stands = r.where_it_stands; stands = Memᴰ.tail r.stands; of_name = r.of_name; spells = r.spells }

among : (es : List Entry) (a : Text) → a ∈ names_in es → NameAmong es a
unfolding names_in
among [] a m = absurd (Memᴰ.not-nil m)
among (e ∷ es) a m = go (tell e) (among es a)
  where
    here : IsName e → a ∈ (e.text ∷ names_in es) → (a ∈ names_in es → NameAmong es a) → NameAmong (e ∷ es) a
    here n (Memᴰ.head q) f = record { where_it_stands = e; stands = Memᴰ.head refl; of_name = n; spells = sym q }
    here n (Memᴰ.tail l) f = later (f l)

    go : Told e → (a ∈ names_in es → NameAmong es a) → NameAmong (e ∷ es) a
    go (name n h) f = here n (subst (λ (l : List Text). a ∈ l) (at_name e es h) m) f
    go (none n h) f = later (f (subst (λ (l : List Text). a ∈ l) (at_none e es h) m))

-- an entry's text, where the entry is a name
text_in : (f : Entry) (es : List Entry) → f ∈ es → IsName f → f.text ∈ names_in es
text_in f [] m n = absurd (Memᴰ.not-nil m)
text_in f (e ∷ es) m n = go m (text_in f es)
  where
    behind : Told e → f.text ∈ names_in es → f.text ∈ names_in (e ∷ es)
    behind (name k h) l = subst (λ (l : List Text). f.text ∈ l) (sym (at_name e es h)) (Memᴰ.tail l)
    behind (none k h) l = subst (λ (l : List Text). f.text ∈ l) (sym (at_none e es h)) l

    first : f ≡ e → Told e → f.text ∈ names_in (e ∷ es)
    first q (name k h) =
        subst (λ (l : List Text). f.text ∈ l) (sym (at_name e es h)) (Memᴰ.head (ap (λ (x : Entry). x.text) q))
    first q (none k h) = absurd (k (subst IsName q n))

    go : f ∈ (e ∷ es) → (f ∈ es → IsName f → f.text ∈ names_in es) → f.text ∈ names_in (e ∷ es)
    go (Memᴰ.head q) r = first q (tell e)
    go (Memᴰ.tail l) r = behind (tell e) (r l n)

-- ------------------------------------------------------------------ other names

module _ (f : Text → Text) where
  of_name : (e : Entry) → is_name e.code ≡ true → rename_entry f e ≡ text_entry e.code (f e.text)
  unfolding rename_entry
  of_name e h = rw (h, rename_entry) refl

  of_none : (e : Entry) → is_name e.code ≡ false → rename_entry f e ≡ e
  unfolding rename_entry
  of_none e h = rw (h, rename_entry) refl

  renames : (es : List Entry) → Renames f es (rename f es)
  unfolding rename
  renames [] = Renames.no_more
  renames (e ∷ es) = go (tell e) (renames es)
    where
      go : Told e → Renames f es (rename f es) → Renames f (e ∷ es) (rename_entry f e ∷ rename f es)
      go (name n h) r = rw (of_name e h) (Renames.renamed n r)
      go (none n h) r = rw (of_none e h) (Renames.equal n r)

  one_renaming : {es fs : List Entry} → Renames f es fs → rename f es ≡ fs
  unfolding rename
  one_renaming Renames.no_more = refl
  one_renaming (Renames.renamed {e = e} n r) = rw (of_name e (is_true (told e n)), one_renaming r) refl
  one_renaming (Renames.equal {e = e} n r) = rw (of_none e (is_false (λ t. n (tells e t))), one_renaming r) refl

pub names_meant : NamesMeant
names_meant =
    record {
      names = λ es a. (among es a, λ r. subst (λ (t : Text). t ∈ names_in es) r.spells (text_in r.where_it_stands es r.stands r.of_name));
      renaming = λ f es fs. (λ e. subst (Renames f es) e (renames f es), λ r. one_renaming f r);
    }
