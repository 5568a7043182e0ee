-- The declared names in byte order, each once (definition's specs/Declared.antt): the least name above the last one is the next.
-- Assumes nothing.
use mathlib.Core.Path.{◌≡◌, refl, sym, ap, subst, ◌∙◌}
use mathlib.Core.List.Memᴰ
use mathlib.Core.List.{List, [], ◌∷◌, nil≢cons}
use mathlib.Core.Bool.{true, false}
use mathlib.Core.Option.{Option, none, some, none-ne-some, some-ne-none, some-injective}
use Rattle.format.specs.Entry.{Text}
use Rattle.format.specs.Names.{◌∈◌}
use Rattle.definition.specs.Text.{lt_text}
use Rattle.definition.specs.Messages.{insert_text, sort_texts}
use Rattle.definition.specs.Declared.{Before, Ascends}
use Rattle.definition.proofs.Order.{Ordered, before, same, after, order, lt_trans, lt_irrefl, lt_asym, before_lt}
use Rattle.definition.proofs.Declared.{insert_before, insert_same, insert_after, sort_ascends}
use Rattle.buffer.proofs.Decides.{both, cases}
use Rattle.message_parts.specs.Names.{above, below, lower, least_in, all_above, rest}

-- ------------------------------------------------------------------ those above a floor

above_trans : (f : Option Text) (t u : Text) → above f t ≡ true → lt_text t u ≡ true → above f u ≡ true
above_trans none t u h k = refl
above_trans (some x) t u h k = lt_trans x t u h k

module _ (f : Option Text) where
  above_keep : (t : Text) (ts : List Text) → above f t ≡ true → all_above f (t ∷ ts) ≡ t ∷ all_above f ts
  unfolding all_above
  above_keep t ts h = rw (h, all_above)

  above_skip : (t : Text) (ts : List Text) → above f t ≡ false → all_above f (t ∷ ts) ≡ all_above f ts
  unfolding all_above
  above_skip t ts h = rw (h, all_above)

  -- to insert a name and then take those above the floor is to insert it among them, if it is above
  insert_above : (t : Text) (us : List Text) → above f t ≡ true → all_above f (insert_text t us) ≡ insert_text t (all_above f us)
  unfolding insert_text all_above
  insert_above t [] h = above_keep t [] h
  insert_above t (u ∷ us) h = go (order t u) (insert_above t us h)
    where
      go : Ordered t u → all_above f (insert_text t us) ≡ insert_text t (all_above f us)
          → all_above f (insert_text t (u ∷ us)) ≡ insert_text t (all_above f (u ∷ us))
      go (before k) ih =
          let a = above_keep u us (above_trans f t u h k) in
          ap (all_above f) (insert_before t u us k) ∙ above_keep t (u ∷ us) h ∙ ap (◌∷◌ t) a ∙ sym (insert_before t u (all_above f us) k)
          ∙ ap (insert_text t) (sym a)
      go (same e) ih =
          rw (← e) (ap (all_above f) (insert_same t us) ∙ above_keep t us h ∙ sym (insert_same t (all_above f us))
          ∙ ap (insert_text t) (sym (above_keep t us h)))
      go (after k) ih =
          ap (all_above f) (insert_after t u us k)
          ∙ cases (above f u)
          (λ a. above_keep u (insert_text t us) a ∙ ap (◌∷◌ u) ih ∙ sym (insert_after t u (all_above f us) k)
          ∙ ap (insert_text t) (sym (above_keep u us a)))
          (λ a. above_skip u (insert_text t us) a ∙ ih ∙ ap (insert_text t) (sym (above_skip u us a)))

  insert_below : (t : Text) (us : List Text) → above f t ≡ false → all_above f (insert_text t us) ≡ all_above f us
  unfolding insert_text all_above
  insert_below t [] h = above_skip t [] h
  insert_below t (u ∷ us) h = go (order t u) (insert_below t us h)
    where
      go : Ordered t u → all_above f (insert_text t us) ≡ all_above f us → all_above f (insert_text t (u ∷ us)) ≡ all_above f (u ∷ us)
      go (before k) ih = ap (all_above f) (insert_before t u us k) ∙ above_skip t (u ∷ us) h
      go (same e) ih = rw (← e) (ap (all_above f) (insert_same t us))
      go (after k) ih =
          ap (all_above f) (insert_after t u us k)
          ∙ cases (above f u)
          (λ a. above_keep u (insert_text t us) a ∙ ap (◌∷◌ u) ih ∙ sym (above_keep u us a))
          (λ a. above_skip u (insert_text t us) a ∙ ih ∙ sym (above_skip u us a))

  -- those above the floor, in order
  pub sort_above : (ts : List Text) → all_above f (sort_texts ts) ≡ sort_texts (all_above f ts)
  unfolding sort_texts all_above
  sort_above [] = refl
  sort_above (t ∷ ts) =
      cases (above f t)
      (λ h. insert_above t (sort_texts ts) h ∙ ap (insert_text t) (sort_above ts) ∙ ap sort_texts (sym (above_keep t ts h)))
      (λ h. insert_below t (sort_texts ts) h ∙ sort_above ts ∙ ap sort_texts (sym (above_skip t ts h)))

  -- a higher floor takes from those above a lower one what it takes from all
  above_above : (t : Text) → above f t ≡ true → (us : List Text) → all_above (some t) (all_above f us) ≡ all_above (some t) us
  unfolding all_above
  above_above t h [] = refl
  above_above t h (u ∷ us) =
      cases (above f u)
      (λ a. ap (all_above (some t)) (above_keep u us a) ∙ go (above_above t h us))
      (λ a.
      ap (all_above (some t)) (above_skip u us a) ∙ above_above t h us
      ∙ sym (skipped (cases (lt_text t u) (λ k. absurd (both (above_trans f t u h k) a)) (λ k. k))))
    where
      skipped : lt_text t u ≡ false → all_above (some t) (u ∷ us) ≡ all_above (some t) us
      skipped k = rw (k, all_above)

      go : all_above (some t) (all_above f us) ≡ all_above (some t) us → all_above (some t) (u ∷ all_above f us) ≡ all_above (some t) (u ∷ us)
      go ih =
          ap (λ (us : List Text). elim (lt_text t u) as (λ b. List Text) [ true ↦ u ∷ us | false ↦ us ]) ih

  -- what is above a floor is
  first_above : (us : List Text) {t : Text} {ts : List Text} → all_above f us ≡ t ∷ ts → above f t ≡ true
  unfolding all_above
  first_above [] e = absurd (nil≢cons e)
  first_above (u ∷ us) {t} e =
      cases (above f u) (λ a. let q : u ≡ t = cc (above_keep u us a) in rw (← q) a) (λ a. first_above us (sym (above_skip u us a) ∙ e))

-- ------------------------------------------------------------------ ascending lists

above_all : (t : Text) (us : List Text) → ((u : Text) → u ∈ us → Before t u) → all_above (some t) us ≡ us
unfolding all_above
above_all t [] h = refl
above_all t (u ∷ us) h =
    above_keep (some t) u us (before_lt (h u (Memᴰ.head refl))) ∙ ap (◌∷◌ u) (above_all t us (λ x m. h x (Memᴰ.tail m)))

-- those above the first are the others
above_first : {t : Text} {ts : List Text} → Ascends (t ∷ ts) → all_above (some t) (t ∷ ts) ≡ ts
above_first (Ascends.starts {t = t} {ts = ts} a s) = above_skip (some t) t ts (lt_irrefl t) ∙ above_all t ts a

-- ------------------------------------------------------------------ the least name

lower_to : (f b : Option Text) (t : Text) → above f t ≡ true → below b t ≡ true → lower f b t ≡ some t
unfolding lower
lower_to f b t h k = rw (h, k, lower)

lower_not : (f b : Option Text) (t : Text) → above f t ≡ true → below b t ≡ false → lower f b t ≡ b
unfolding lower
lower_not f b t h k = rw (h, k, lower)

-- what is not above the floor is not looked at
least_above : (f b : Option Text) (ts : List Text) → least_in f b ts ≡ least_in none b (all_above f ts)
unfolding lower least_in all_above
least_above f b [] = refl
least_above f b (t ∷ ts) = least_above f (lower f b t) ts ∙ cases (above f t)
    (λ h. rw (h, lower, above_keep f t ts h, lower) refl) (λ h. rw (h, lower, above_skip f t ts h) refl)

first_of : List Text → Option Text
first_of [] = none
first_of (t ∷ ts) = some t

-- the lesser of two, if there are two
lesser : Option Text → Option Text → Option Text
lesser b none = b
lesser b (some t) = lower none b t

-- u is not before a where it is not before t, and t is not before a
not_before : (u : Text) {a t : Text} → lt_text t a ≡ false → lt_text u t ≡ false → Ordered a t → lt_text u a ≡ false
not_before u {a} {t} k j (before o) = cases (lt_text u a) (λ h. absurd (both (lt_trans u a t h o) j)) (λ h. h)
not_before u k j (same e) = rw e j
not_before u k j (after o) = absurd (both o k)

lesser_assoc : (b : Option Text) (t : Text) (o : Option Text) → lesser (lower none b t) o ≡ lesser b (lesser (some t) o)
unfolding lesser lower
lesser_assoc b t none = refl
lesser_assoc none t (some u) =
    cases (lt_text u t)
    (λ j. let e = lower_to none (some t) u refl j in e ∙ sym (ap (lesser none) e))
    (λ j. let e = lower_not none (some t) u refl j in e ∙ sym (ap (lesser none) e))
lesser_assoc (some a) t (some u) =
    cases (lt_text t a)
    (λ k.
    ap (λ (o : Option Text). lesser o (some u)) (lower_to none (some a) t refl k)
    ∙ cases (lt_text u t)
    (λ j.
    let e = lower_to none (some t) u refl j in
    e ∙ sym (ap (lesser (some a)) e ∙ lower_to none (some a) u refl (lt_trans u t a j k)))
    (λ j. let e = lower_not none (some t) u refl j in e ∙ sym (ap (lesser (some a)) e ∙ lower_to none (some a) t refl k)))
    (λ k.
    ap (λ (o : Option Text). lesser o (some u)) (lower_not none (some a) t refl k)
    ∙ cases (lt_text u t)
    (λ j. sym (ap (lesser (some a)) (lower_to none (some t) u refl j)))
    (λ j.
    lower_not none (some a) u refl (not_before u k j (order a t))
    ∙ sym (ap (lesser (some a)) (lower_not none (some t) u refl j) ∙ lower_not none (some a) t refl k)))

insert_first : (t : Text) (us : List Text) → first_of (insert_text t us) ≡ lesser (some t) (first_of us)
unfolding insert_text first_of lesser
insert_first t [] = refl
insert_first t (u ∷ us) = go (order t u)
  where
    go : Ordered t u → first_of (insert_text t (u ∷ us)) ≡ lower none (some t) u
    go (before o) = ap first_of (insert_before t u us o) ∙ sym (lower_not none (some t) u refl (lt_asym t u o))
    go (same e) = rw (← e) (ap first_of (insert_same t us) ∙ sym (lower_not none (some t) t refl (lt_irrefl t)))
    go (after o) = ap first_of (insert_after t u us o) ∙ sym (lower_to none (some t) u refl o)

least_first : (b : Option Text) (ts : List Text) → least_in none b ts ≡ lesser b (first_of (sort_texts ts))
unfolding least_in sort_texts first_of lesser
least_first b [] = refl
least_first b (t ∷ ts) =
    least_first (lower none b t) ts ∙ lesser_assoc b t (first_of (sort_texts ts))
    ∙ ap (lesser b) (sym (insert_first t (sort_texts ts)))

lesser_none : (o : Option Text) → lesser none o ≡ o
unfolding lesser lower
lesser_none none = refl
lesser_none (some t) = refl

least_rest : (f : Option Text) (ts : List Text) → least_in f none ts ≡ first_of (rest f ts)
unfolding rest
least_rest f ts =
    least_above f none ts ∙ least_first none (all_above f ts) ∙ lesser_none (first_of (sort_texts (all_above f ts)))
    ∙ ap first_of (sym (sort_above f ts))

-- ------------------------------------------------------------------ the next name

-- what is left above a floor, by the least name there
pub no_rest : (f : Option Text) (ts : List Text) → least_in f none ts ≡ none → rest f ts ≡ []
unfolding first_of
no_rest f ts h = go (rest f ts) (sym (least_rest f ts) ∙ h)
  where
    go : (us : List Text) → first_of us ≡ none → us ≡ []
    go [] e = refl
    go (u ∷ us) e = absurd (some-ne-none u e)

pub next_rest : (f : Option Text) (ts : List Text) {t : Text} → least_in f none ts ≡ some t → rest f ts ≡ t ∷ rest (some t) ts
unfolding first_of rest
next_rest f ts {t} h = go (rest f ts) refl (sym (least_rest f ts) ∙ h)
  where
    go : (us : List Text) → rest f ts ≡ us → first_of us ≡ some t → us ≡ t ∷ rest (some t) ts
    go [] e q = absurd (none-ne-some t q)
    go (u ∷ us) e q =
        let p : u ≡ t = some-injective u t q in
        let a : Ascends (u ∷ us) = subst Ascends (sym (sort_above f ts) ∙ e) (sort_ascends (all_above f ts)) in
        let r : rest (some u) ts ≡ us =
        sym (above_above f u (first_above f (sort_texts ts) e) (sort_texts ts)) ∙ ap (all_above (some u)) e ∙ above_first a in
        rw (← p) (ap (◌∷◌ u) (sym r))

-- without a floor all of them are left
pub rest_all : (ts : List Text) → rest none ts ≡ sort_texts ts
unfolding rest all_above
rest_all ts = go (sort_texts ts)
  where
    go : (us : List Text) → all_above none us ≡ us
    go [] = refl
    go (u ∷ us) = ap (◌∷◌ u) (go us)
