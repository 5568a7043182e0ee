-- The declared names of message 20 come in byte order, each once, and in no other way (specs/Declared.antt).
-- Assumes nothing.
use mathlib.Core.Path.{◌≡◌, refl, sym, ◌∙◌, ap, ap₂, subst}
use mathlib.Core.Logic.{◌⊎◌, inl, inr}
use mathlib.Core.List.Memᴰ
use mathlib.Core.List.{List, [], ◌∷◌, ◌++◌}
use mathlib.Core.Bool.{true, false≢true}
use Rattle.format.specs.Entry.{Text}
use Rattle.format.specs.Names.{◌∈◌}
use Rattle.definition.specs.Text.{utf8, lt_text}
use Rattle.definition.specs.Messages.{insert_text, sort_texts, list_params, fmt_params}
use Rattle.definition.specs.Declared.{Before, Ascends, InByteOrder, Shown, DeclaredNames}
use Rattle.definition.proofs.Order.{Ordered, before, same, after, order, lt_trans, lt_irrefl, lt_asym, eq_refl, eq_after, lt_before, before_lt}

-- ------------------------------------------------------------------ a name's place in a list

pub insert_before : (t u : Text) (us : List Text) → lt_text t u ≡ true → insert_text t (u ∷ us) ≡ t ∷ u ∷ us
unfolding insert_text
insert_before t u us h = rw (h, insert_text)

pub insert_same : (t : Text) (us : List Text) → insert_text t (t ∷ us) ≡ t ∷ us
unfolding insert_text
insert_same t us = rw (lt_irrefl t, eq_refl t, insert_text)

pub insert_after : (t u : Text) (us : List Text) → lt_text u t ≡ true → insert_text t (u ∷ us) ≡ u ∷ insert_text t us
unfolding insert_text
insert_after t u us h = rw (lt_asym u t h, eq_after t u h, insert_text)

-- ------------------------------------------------------------------ the names that stand in it

abbrev Either : Text → List Text → Text → Type 0
Either t us x = (x ≡ t) ⊎ (x ∈ us)

one_of : {x t : Text} {us : List Text} → x ∈ (t ∷ us) → Either t us x
one_of (Memᴰ.head q) = inl q
one_of (Memᴰ.tail m) = inr m

of_one : {x t : Text} {us : List Text} → Either t us x → x ∈ (t ∷ us)
of_one (inl q) = Memᴰ.head q
of_one (inr m) = Memᴰ.tail m

inserted : (t : Text) (us : List Text) (x : Text) → x ∈ insert_text t us → Either t us x
unfolding insert_text
inserted t [] x m = one_of m
inserted t (u ∷ us) x m = go (order t u) (inserted t us x)
  where
    go : Ordered t u → (x ∈ insert_text t us → Either t us x) → Either t (u ∷ us) x
    go (before o) ih = one_of (subst (λ (l : List Text). x ∈ l) (insert_before t u us o) m)
    go (same e) ih =
        inr (subst (λ (l : List Text). x ∈ l) (ap (λ (v : Text). insert_text v (u ∷ us)) e ∙ insert_same u us) m)
    go (after o) ih = onward (one_of (subst (λ (l : List Text). x ∈ l) (insert_after t u us o) m))
      where
        onward : Either u (insert_text t us) x → Either t (u ∷ us) x
        onward (inl q) = inr (Memᴰ.head q)
        onward (inr k) = last (ih k)
          where
            last : Either t us x → Either t (u ∷ us) x
            last (inl q) = inl q
            last (inr l) = inr (Memᴰ.tail l)

is_inserted : (t : Text) (us : List Text) (x : Text) → Either t us x → x ∈ insert_text t us
unfolding insert_text
is_inserted t [] x m = of_one m
is_inserted t (u ∷ us) x m = go (order t u) (is_inserted t us x)
  where
    go : Ordered t u → (Either t us x → x ∈ insert_text t us) → x ∈ insert_text t (u ∷ us)
    go (before o) ih = subst (λ (l : List Text). x ∈ l) (sym (insert_before t u us o)) (of_one m)
    go (same e) ih =
        subst (λ (l : List Text). x ∈ l) (sym (ap (λ (v : Text). insert_text v (u ∷ us)) e ∙ insert_same u us)) (there m)
      where
        there : Either t (u ∷ us) x → x ∈ (u ∷ us)
        there (inl q) = Memᴰ.head (q ∙ e)
        there (inr k) = k
    go (after o) ih = subst (λ (l : List Text). x ∈ l) (sym (insert_after t u us o)) (there m)
      where
        later : Either u us x → x ∈ (u ∷ insert_text t us)
        later (inl q) = Memᴰ.head q
        later (inr k) = Memᴰ.tail (ih (inr k))

        there : Either t (u ∷ us) x → x ∈ (u ∷ insert_text t us)
        there (inl q) = Memᴰ.tail (ih (inl q))
        there (inr k) = later (one_of k)

sorted_in : (ts : List Text) (x : Text) → x ∈ sort_texts ts → x ∈ ts
unfolding sort_texts
sorted_in [] x m = m
sorted_in (t ∷ ts) x m = go (inserted t (sort_texts ts) x m) (sorted_in ts x)
  where
    go : Either t (sort_texts ts) x → (x ∈ sort_texts ts → x ∈ ts) → x ∈ (t ∷ ts)
    go (inl q) ih = Memᴰ.head q
    go (inr k) ih = Memᴰ.tail (ih k)

in_sorted : (ts : List Text) (x : Text) → x ∈ ts → x ∈ sort_texts ts
unfolding sort_texts
in_sorted [] x m = m
in_sorted (t ∷ ts) x m = is_inserted t (sort_texts ts) x (go (one_of m) (in_sorted ts x))
  where
    go : Either t ts x → (x ∈ ts → x ∈ sort_texts ts) → Either t (sort_texts ts) x
    go (inl q) ih = inl q
    go (inr k) ih = inr (ih k)

-- ------------------------------------------------------------------ in byte order, each once

trans : {s t u : Text} → Before s t → Before t u → Before s u
trans {s} {t} {u} h k = lt_before s u (lt_trans s t u (before_lt h) (before_lt k))

insert_ascends : (t : Text) {us : List Text} → Ascends us → Ascends (insert_text t us)
unfolding insert_text
insert_ascends t Ascends.empty = Ascends.starts (λ u m. absurd (Memᴰ.not-nil m)) Ascends.empty
insert_ascends t (Ascends.starts {t = u} {ts = us} a s) = go (order t u) (insert_ascends t s)
  where
    go : Ordered t u → Ascends (insert_text t us) → Ascends (insert_text t (u ∷ us))
    go (before o) ih = rw (insert_before t u us o) (Ascends.starts (λ x m. first x (one_of m)) (Ascends.starts a s))
      where
        first : (x : Text) → Either u us x → Before t x
        first x (inl q) = subst (Before t) (sym q) (lt_before t u o)
        first x (inr m) = trans (lt_before t u o) (a x m)
    go (same e) ih = rw (e, insert_same u us) (Ascends.starts a s)
    go (after o) ih = rw (insert_after t u us o) (Ascends.starts (λ x m. first x (inserted t us x m)) ih)
      where
        first : (x : Text) → Either t us x → Before u x
        first x (inl q) = subst (Before u) (sym q) (lt_before u t o)
        first x (inr m) = a x m

pub sort_ascends : (ts : List Text) → Ascends (sort_texts ts)
unfolding sort_texts
sort_ascends [] = Ascends.empty
sort_ascends (t ∷ ts) = insert_ascends t (sort_ascends ts)

never : {s t : Text} → Before s t → Before t s → ⊥
never {s} {t} h k = false≢true (sym (lt_asym s t (before_lt h)) ∙ before_lt k)

not_itself : {t : Text} → Before t t → ⊥
not_itself h = never h h

-- two ascending lists of the same names are one
one_order : {ts us : List Text} → Ascends ts → Ascends us → ((x : Text) → x ∈ ts → x ∈ us) → ((x : Text) → x ∈ us → x ∈ ts) → ts ≡ us
one_order Ascends.empty Ascends.empty f g = refl
one_order Ascends.empty (Ascends.starts {t = u} b s) f g = absurd (Memᴰ.not-nil (g u (Memᴰ.head refl)))
one_order (Ascends.starts {t = t} a r) Ascends.empty f g = absurd (Memᴰ.not-nil (f t (Memᴰ.head refl)))
one_order (Ascends.starts {t = t} {ts = ts} a r) (Ascends.starts {t = u} {ts = us} b s) f g =
    ap₂ ◌∷◌ first (one_order r s (λ x m. there x m (one_of (f x (Memᴰ.tail m)))) (λ x m. back x m (one_of (g x (Memᴰ.tail m)))))
  where
    same_first : Either u us t → Either t ts u → t ≡ u
    same_first (inl q) o = q
    same_first (inr m) (inl q) = sym q
    same_first (inr m) (inr k) = absurd (never (b t m) (a u k))

    first : t ≡ u
    first = same_first (one_of (f t (Memᴰ.head refl))) (one_of (g u (Memᴰ.head refl)))

    there : (x : Text) → x ∈ ts → Either u us x → x ∈ us
    there x m (inl q) = absurd (not_itself (subst (Before t) (q ∙ sym first) (a x m)))
    there x m (inr k) = k

    back : (x : Text) → x ∈ us → Either t ts x → x ∈ ts
    back x m (inl q) = absurd (not_itself (subst (Before u) (q ∙ first) (b x m)))
    back x m (inr k) = k

in_order : (declared : List Text) → InByteOrder declared (sort_texts declared)
in_order declared = record { ascends = sort_ascends declared; each = in_sorted declared; no_other = sorted_in declared }

-- ------------------------------------------------------------------ as `?a, ?b`

shown : (ts : List Text) → Shown ts (list_params ts)
unfolding list_params
shown [] = Shown.none
shown (t ∷ []) = Shown.last
shown (t ∷ u ∷ us) = Shown.more (shown (u ∷ us))

one_text : {ts : List Text} {text : Text} → Shown ts text → text ≡ list_params ts
unfolding list_params
one_text Shown.none = refl
one_text Shown.last = refl
one_text (Shown.more {t = t} h) = ap (λ (x : Text). utf8 "?" ++ (t ++ (utf8 ", " ++ x))) (one_text h)

pub declared_names : DeclaredNames
unfolding fmt_params
declared_names declared text = (
  λ e.
      record {
        listed = sort_texts declared;
        in_order = in_order declared;
        shown = subst (Shown (sort_texts declared)) (sym e) (shown (sort_texts declared));
      },
  λ l.
      one_text l.shown
      ∙ ap list_params (one_order l.in_order.ascends (sort_ascends declared)
      (λ x m. in_sorted declared x (l.in_order.no_other x m))
      (λ x m. l.in_order.each x (sorted_in declared x m))),
)
