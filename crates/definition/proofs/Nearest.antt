-- The span that the definition of the profile gives an entry is that of the nearest condition around it (specs/Profiles.antt). A run
-- that spells a condition is found again by building it, so that it is no other than the tree's.
-- Assumes nothing.
use Prim.Native.Nat.{ℕ, suc, ◌+◌, ◌<◌, ◌≤◌}
use native.Mathlib.Nat.{add-zero, add-suc, suc-add}
use native.Mathlib.Omega.{arith}
use mathlib.Core.Path.{◌≡◌, refl, sym, ◌∙◌, ap, ap₂, subst}
use mathlib.Core.List.{List, [], ◌∷◌, ◌++◌, append_assoc, append-nil}
use mathlib.Core.Logic.{◌⊎◌, inl, inr}
use mathlib.Core.Bool.{Bool, true, false, not}
use mathlib.Core.Option.{Option, none, some, none-ne-some, some-injective}
use lib.Dec.{T, leb, leb→le, nleb→lt, le→leb}
use lib.ListN.{length, length-append}
use Rattle.format.specs.Entry.{Text, Entry, entry, text_entry}
use Rattle.format.specs.Ast.{Interval, WithinSpec, Condition, Term, AggExpr, Call, CallArg, CallArgs, NamedArgs, Terms}
use Rattle.format.specs.Flat.{flat_texts, flat_interval, flat_within, flat_slot, flat_binder, flat_binders, flat_sigil, flat_condition, flat_term, flat_agg, flat_call, flat_arg, flat_args, flat_fields, flat_terms}
use Rattle.format.specs.Build.{Item, Stack, as_condition, push_on, build_on, build}
use Rattle.format.proofs.All.{All, all_nil, all_cons, all_map}
use Rattle.format.proofs.Builds.{build_append, builds_condition}
use Rattle.format.proofs.Parts.{Later, Part, part_texts, later_interval, later_within, part_slot, part_binder, part_binders, part_sigil, later}
use Rattle.definition.specs.Profile.{Placed, under, place_condition, place_term, place_agg, place_call, place_arg, place_args, place_fields, place_terms}
use Rattle.definition.specs.Profiles.{Around, Nearest}

-- ------------------------------------------------------------------ lists

first : {A : Type 0} → A → List A → A
first d [] = d
first d (a ∷ l) = a

others : {A : Type 0} → List A → List A
others [] = []
others (a ∷ l) = l

pub low_or_high : (a b : ℕ) → (a < b) ⊎ (b ≤ a)
low_or_high a b = go (leb b a) (λ t. leb→le b a t) (λ t. nleb→lt b a t)
  where
    go : (x : Bool) → (T x → b ≤ a) → (T (not x) → a < b) → (a < b) ⊎ (b ≤ a)
    go true f g = inr (f tt)
    go false f g = inl (g tt)

module _ {A : Type 0} where
  pub same_first : {a b : A} {l m : List A} → a ∷ l ≡ b ∷ m → a ≡ b
  unfolding first
  same_first {a} e = ap (first a) e

  pub same_others : {a b : A} {l m : List A} → a ∷ l ≡ b ∷ m → l ≡ m
  unfolding others
  same_others e = ap others e

  -- two ways to cut a list
  pub cut : (l m front back : List A) → l ++ m ≡ front ++ back → length l ≤ length front
      → (mid : List A) × (front ≡ l ++ mid) × (m ≡ mid ++ back)
  cut [] m front back e h = (front, refl, e)
  cut (a ∷ l) m [] back e h = absurd (omega (arith, h))
  cut (a ∷ l) m (b ∷ front) back e h =
      let r = cut l m front back (same_others e) (omega (arith, h)) in
      (r.0, ap₂ ◌∷◌ (sym (same_first e)) r.1, r.2)

-- ------------------------------------------------------------------ a run is one condition's

abbrev Built : List Entry → Type 0
Built es = (st : Stack) × (build es ≡ some st)

taken : (e : Entry) (o : Option Stack) (st : Stack) → push_on e o ≡ some st → (st' : Stack) × (o ≡ some st')
unfolding push_on
taken e none st h = absurd (none-ne-some st h)
taken e (some s) st h = (s, refl)

built_rest : (es fs : List Entry) → Built (es ++ fs) → Built fs
unfolding build build_on
built_rest [] fs h = h
built_rest (e ∷ es) fs h = built_rest es fs (taken e (build (es ++ fs)) h.0 h.1)

on_top : Option Stack → Option Condition
on_top none = none
on_top (some []) = none
on_top (some (i ∷ st)) = as_condition i

on_top_is : (c : Condition) (es : List Entry) → Built es → on_top (build (flat_condition c ++ es)) ≡ some c
unfolding build on_top as_condition
on_top_is c es b = rw (build_append (some []) (flat_condition c) es, b.1, builds_condition c b.0) refl

one_run : (c d : Condition) (es fs : List Entry) → Built (flat_condition c ++ es) → flat_condition c ++ es ≡ flat_condition d ++ fs → c ≡ d
one_run c d es fs h e =
    some-injective c d
    (sym (on_top_is c es (built_rest (flat_condition c) es h))
    ∙ (ap (λ (x : List Entry). on_top (build x)) e
    ∙ on_top_is d fs (built_rest (flat_condition d) fs (subst Built e h))))

-- ------------------------------------------------------------------ what begins no condition

abbrev NoCondition : Entry → Type 0
NoCondition e = T (leb 14 e.code)

record Head (c : Condition) : Type 0 where
  code : ℕ
  span : ℕ
  parts : List Entry
  spelled : flat_condition c ≡ entry code span ∷ parts
  low : code ≤ 13

head : (c : Condition) → Head c
unfolding flat_condition
head (Condition.And s l r) = record { code = 1; span = s; parts = _; spelled = refl; low = omega arith }
head (Condition.Or s l r) = record { code = 2; span = s; parts = _; spelled = refl; low = omega arith }
head (Condition.Not s c) = record { code = 3; span = s; parts = _; spelled = refl; low = omega arith }
head (Condition.Formerly s w c) = record { code = 4; span = s; parts = _; spelled = refl; low = omega arith }
head (Condition.Previous s w c) = record { code = 5; span = s; parts = _; spelled = refl; low = omega arith }
head (Condition.Since s l w r) = record { code = 6; span = s; parts = _; spelled = refl; low = omega arith }
head (Condition.Predicate s o ns a k fs) = record { code = 7; span = s; parts = _; spelled = refl; low = omega arith }
head (Condition.Comparison s op l r) = record { code = 8; span = s; parts = _; spelled = refl; low = omega arith }
head (Condition.Exists s b c) = record { code = 9; span = s; parts = _; spelled = refl; low = omega arith }
head (Condition.Tp s v) = record { code = 10; span = s; parts = _; spelled = refl; low = omega arith }
head (Condition.ConditionCall s c) = record { code = 11; span = s; parts = _; spelled = refl; low = omega arith }
head (Condition.SigilRef s g n) = record { code = 12; span = s; parts = _; spelled = refl; low = omega arith }
head (Condition.Refine s o c fs) = record { code = 13; span = s; parts = _; spelled = refl; low = omega arith }

begins_none : (e : Entry) (es : List Entry) (c : Condition) (rest : List Entry) → NoCondition e → e ∷ es ≡ flat_condition c ++ rest → ⊥
begins_none e es c rest h p =
    let c' = head c in
    let q : e ∷ es ≡ entry c'.code c'.span ∷ (c'.parts ++ rest) = p ∙ ap (λ (x : List Entry). x ++ rest) c'.spelled in
    let k : e.code ≡ c'.code = ap (λ (x : Entry). x.code) (same_first q) in
    omega (arith, k, c'.low, leb→le 14 e.code h)

-- ------------------------------------------------------------------ entries with spans

-- a run that begins among these entries ends there
abbrev Closed : List Entry → Type 0
Closed es =
    (t : List Entry) → Built (es ++ t) → (front : List Entry) (c : Condition) (rest : List Entry)
    → es ++ t ≡ front ++ (flat_condition c ++ rest) → length front < length es → length front + length (flat_condition c) ≤ length es

-- The nearest condition around a place among these entries: it is one of theirs, or else none of theirs is around it and the span is
-- that of the condition that they stand in.
data Near (s : ℕ) (es : List Entry) (n q : ℕ) : Type 0 where
  outside : q ≡ s
      → ((t : List Entry) → Built (es ++ t) → (front : List Entry) (c : Condition) (rest : List Entry)
      → Around (es ++ t) n front c rest → ⊥)
      → Near s es n q
  inside : (front : List Entry) (c : Condition) (rest : List Entry) → Around es n front c rest
      → (code : ℕ) (parts : List Entry) → flat_condition c ≡ entry code q ∷ parts
      → ((t : List Entry) → Built (es ++ t) → (front' : List Entry) (d : Condition) (rest' : List Entry) → Around (es ++ t) n front' d rest'
      → length front' ≤ length front)
      → Near s es n q

data Nears (s : ℕ) (es : List Entry) : ℕ → List Placed → Type 0 where
  no_more : {n : ℕ} → Nears s es n []
  next : {n : ℕ} {p : Placed} {ps : List Placed} → Near s es n p.1 → Nears s es (suc n) ps → Nears s es n (p ∷ ps)

record Nested (s : ℕ) (es : List Entry) (ps : List Placed) : Type 0 where
  long : length es ≡ length ps
  closed : Closed es
  near : Nears s es 0 ps

nothing : (s : ℕ) → Nested s [] []
nothing s = record { long = refl; closed = λ t b front c rest e h. absurd (omega (arith, h)); near = no_more }

-- ------------------------------------------------------------------ one behind the other

module _ (es fs : List Entry) where
  closed_both : Closed es → Closed fs → Closed (es ++ fs)
  closed_both k l t b front c rest e h = go (low_or_high (length front) (length es))
    where
      b' : Built (es ++ (fs ++ t))
      b' = rw (append_assoc es fs t) at b

      e' : es ++ (fs ++ t) ≡ front ++ (flat_condition c ++ rest)
      e' = rw (append_assoc es fs t) at e

      go : (length front < length es) ⊎ (length es ≤ length front) → length front + length (flat_condition c) ≤ length (es ++ fs)
      go (inl p) = omega (arith, k (fs ++ t) b' front c rest e' p, length-append es fs)
      go (inr p) =
          let r = cut es (fs ++ t) front (flat_condition c ++ rest) e' (omega (arith, p)) in
          let m : length front ≡ length es + length r.0 = ap length r.1 ∙ length-append es r.0 in
          let f : length r.0 < length fs = omega (arith, h, m, length-append es fs) in
          omega (arith, l t (built_rest es (fs ++ t) b') r.0 c rest r.2 f, m, length-append es fs)

  near_left : (s n q : ℕ) → Near s es n q → Near s (es ++ fs) n q
  near_left s n q (outside h k) =
      outside h λ t b front c rest a. k (fs ++ t) (rw (append_assoc es fs t) at b) front c rest (rw (append_assoc es fs t) at a)
  near_left s n q (inside front c rest a code parts h k) =
      inside front c (rest ++ fs)
      (record {
        run =
            ap (λ (x : List Entry). x ++ fs) a.run
            ∙ (append_assoc front (flat_condition c ++ rest) fs
            ∙ ap (λ (x : List Entry). front ++ x) (append_assoc (flat_condition c) rest fs));
        begins = a.begins;
        ends = a.ends;
      })
      code parts h
      λ t b front' d rest' a'. k (fs ++ t) (rw (append_assoc es fs t) at b) front' d rest' (rw (append_assoc es fs t) at a')

  -- what is around a place of the second entries begins among them
  begins_right : Closed es → (n : ℕ) (t : List Entry) → Built ((es ++ fs) ++ t) → (front : List Entry) (c : Condition) (rest : List Entry)
      → Around ((es ++ fs) ++ t) (length es + n) front c rest
      → (front' : List Entry) × (front ≡ es ++ front') × Around (fs ++ t) n front' c rest
  begins_right k n t b front c rest a = go (low_or_high (length front) (length es))
    where
      b' : Built (es ++ (fs ++ t))
      b' = rw (append_assoc es fs t) at b

      e' : es ++ (fs ++ t) ≡ front ++ (flat_condition c ++ rest)
      e' = rw (append_assoc es fs t) at a.run

      go : (length front < length es) ⊎ (length es ≤ length front)
          → (front' : List Entry) × (front ≡ es ++ front') × Around (fs ++ t) n front' c rest
      go (inl p) = absurd (omega (arith, k (fs ++ t) b' front c rest e' p, a.ends))
      go (inr p) =
          let r = cut es (fs ++ t) front (flat_condition c ++ rest) e' p in
          let m : length front ≡ length es + length r.0 = ap length r.1 ∙ length-append es r.0 in
          (r.0, r.1, record { run = r.2; begins = omega (arith, m, a.begins); ends = omega (arith, m, a.ends) })

  near_right : Closed es → (s n q : ℕ) → Near s fs n q → Near s (es ++ fs) (length es + n) q
  near_right k s n q (outside h f) =
      outside h λ t b front c rest a.
      let r = begins_right k n t b front c rest a in
      f t (built_rest es (fs ++ t) (rw (append_assoc es fs t) at b)) r.0 c rest r.2
  near_right k s n q (inside front c rest a code parts h f) =
      inside (es ++ front) c rest
      (record {
        run = ap (λ (x : List Entry). es ++ x) a.run ∙ sym (append_assoc es front (flat_condition c ++ rest));
        begins = omega (arith, length-append es front, a.begins);
        ends = omega (arith, length-append es front, a.ends);
      })
      code parts h
      λ t b front' d rest' a'.
      let r = begins_right k n t b front' d rest' a' in
      let m : length front' ≡ length es + length r.0 = ap length r.1 ∙ length-append es r.0 in
      omega (arith, f t (built_rest es (fs ++ t) (rw (append_assoc es fs t) at b)) r.0 d rest' r.2, m, length-append es front)

  nears_left : (s n : ℕ) (ps : List Placed) → Nears s es n ps → Nears s (es ++ fs) n ps
  nears_left s n [] no_more = no_more
  nears_left s n (p ∷ ps) (next h k) = next (near_left s n p.1 h) (nears_left s (suc n) ps k)

  nears_right : Closed es → (s n : ℕ) (ps : List Placed) → Nears s fs n ps → Nears s (es ++ fs) (length es + n) ps
  nears_right c s n [] no_more = no_more
  nears_right c s n (p ∷ ps) (next h k) = next (near_right c s n p.1 h) (rw add-suc at (nears_right c s (suc n) ps k))

nears_both : (s : ℕ) (es : List Entry) (n : ℕ) (ps qs : List Placed) → Nears s es n ps → Nears s es (n + length ps) qs
    → Nears s es n (ps ++ qs)
nears_both s es n [] qs no_more k = rw add-zero at k
nears_both s es n (p ∷ ps) qs (next h h') k =
    next h (nears_both s es (suc n) ps qs h' (rw (add-suc n (length ps), ← suc-add n (length ps)) at k))

both : {s : ℕ} {es fs : List Entry} {ps qs : List Placed} → Nested s es ps → Nested s fs qs → Nested s (es ++ fs) (ps ++ qs)
both {s} {es} {fs} {ps} {qs} h k =
    record {
      long = length-append es fs ∙ (ap₂ ◌+◌ h.long k.long ∙ sym (length-append ps qs));
      closed = closed_both es fs h.closed k.closed;
      near = nears_both s (es ++ fs) 0 ps qs (nears_left es fs s 0 ps h.near) at_qs;
    }
  where
    at_qs : Nears s (es ++ fs) (0 + length ps) qs
    at_qs = subst (λ (m : ℕ). Nears s (es ++ fs) m qs) (omega (arith, h.long)) (nears_right es fs h.closed s 0 qs k.near)

-- ------------------------------------------------------------------ an entry in front

-- of a condition's part, or of a term, an aggregate, a call or an argument
module _ (s : ℕ) (e : Entry) (es : List Entry) (none_here : NoCondition e) where
  -- what is around a place behind it begins behind it
  begins_behind : (n : ℕ) (t front : List Entry) (c : Condition) (rest : List Entry) → Around ((e ∷ es) ++ t) (suc n) front c rest
      → (front' : List Entry) × (front ≡ e ∷ front') × Around (es ++ t) n front' c rest
  begins_behind n t [] c rest a = absurd (begins_none e (es ++ t) c rest none_here a.run)
  begins_behind n t (x ∷ front) c rest a = (
    front,
    ap₂ ◌∷◌ (sym (same_first a.run)) refl,
    record { run = same_others a.run; begins = omega (arith, a.begins); ends = omega (arith, a.ends) },
  )

  near_behind : (n q : ℕ) → Near s es n q → Near s (e ∷ es) (suc n) q
  near_behind n q (outside h k) =
      outside h λ t b front c rest a.
      let r = begins_behind n t front c rest a in
      k t (built_rest (e ∷ []) (es ++ t) b) r.0 c rest r.2
  near_behind n q (inside front c rest a code parts h k) =
      inside (e ∷ front) c rest
      (record { run = ap (λ (x : List Entry). e ∷ x) a.run; begins = omega (arith, a.begins); ends = omega (arith, a.ends) })
      code parts h
      λ t b front' d rest' a'.
      let r = begins_behind n t front' d rest' a' in
      let m : length front' ≡ suc (length r.0) = ap length r.1 in
      omega (arith, k t (built_rest (e ∷ []) (es ++ t) b) r.0 d rest' r.2, m)

  nears_behind : (n : ℕ) (ps : List Placed) → Nears s es n ps → Nears s (e ∷ es) (suc n) ps
  nears_behind n [] no_more = no_more
  nears_behind n (p ∷ ps) (next h k) = next (near_behind n p.1 h) (nears_behind (suc n) ps k)

  closed_behind : Closed es → Closed (e ∷ es)
  closed_behind k t b [] c rest p h = absurd (begins_none e (es ++ t) c rest none_here p)
  closed_behind k t b (x ∷ front) c rest p h =
      omega (arith, k t (built_rest (e ∷ []) (es ++ t) b) front c rest (same_others p) (omega (arith, h)))

  at_it : Near s (e ∷ es) 0 s
  at_it = outside refl go
    where
      go : (t : List Entry) → Built ((e ∷ es) ++ t) → (front : List Entry) (c : Condition) (rest : List Entry)
          → Around ((e ∷ es) ++ t) 0 front c rest → ⊥
      go t b [] c rest a = begins_none e (es ++ t) c rest none_here a.run
      go t b (x ∷ front) c rest a = omega (arith, a.begins)

behind : {s : ℕ} {e : Entry} {es : List Entry} {ps : List Placed} → NoCondition e → Nested s es ps → Nested s (e ∷ es) ((e, s) ∷ ps)
behind {s} {e} {es} {ps} h k =
    record {
      long = ap suc k.long;
      closed = closed_behind s e es h k.closed;
      near = next (at_it s e es h) (nears_behind s e es h 0 ps k.near);
    }

all_behind : {s : ℕ} (fs : List Entry) {es : List Entry} {ps : List Placed} → All NoCondition fs → Nested s es ps
    → Nested s (fs ++ es) (under s fs ++ ps)
unfolding under
all_behind [] all_nil k = k
all_behind (f ∷ fs) (all_cons h hs) k = behind h (all_behind fs hs k)

-- ------------------------------------------------------------------ a condition

module _ (s : ℕ) (c : Condition) (code span : ℕ) (es : List Entry) (spelled : flat_condition c ≡ entry code span ∷ es) where
  abbrev own : List Entry
  own = entry code span ∷ es

  around_own : (n : ℕ) → n < length own → Around own n [] c []
  around_own n h =
      record {
        run = sym spelled ∙ sym (append-nil (flat_condition c));
        begins = omega arith;
        ends = let m : length (flat_condition c) ≡ length own = ap length spelled in omega (arith, h, m);
      }

  first_around : (n : ℕ) (t front : List Entry) (d : Condition) (rest : List Entry) → Around (own ++ t) (suc n) front d rest
      → (front ≡ []) ⊎ ((front' : List Entry) × (front ≡ entry code span ∷ front') × Around (es ++ t) n front' d rest)
  first_around n t [] d rest a = inl refl
  first_around n t (x ∷ front) d rest a =
      let r : Around (es ++ t) n front d rest =
      record { run = same_others a.run; begins = omega (arith, a.begins); ends = omega (arith, a.ends) } in
      inr (front, ap₂ ◌∷◌ (sym (same_first a.run)) refl, r)

  near_in : (n q : ℕ) → suc n < length own → Near span es n q → Near s own (suc n) q
  near_in n q long (outside h k) =
      inside [] c [] (around_own (suc n) long) code es (rw h spelled)
      λ t b front d rest a.
      let go : (front ≡ []) ⊎ ((front' : List Entry) × (front ≡ entry code span ∷ front') × Around (es ++ t) n front' d rest)
      → length front ≤ 0 =
      λ r. elim r [
        | inl e ↦ let m : length front ≡ 0 = ap length e in omega (arith, m)
        | inr r ↦ absurd (k t (built_rest (entry code span ∷ []) (es ++ t) b) r.0 d rest r.2)
      ] in
      go (first_around n t front d rest a)
  near_in n q long (inside front d rest a code' parts h k) =
      inside (entry code span ∷ front) d rest
      (record { run = ap (λ (x : List Entry). entry code span ∷ x) a.run; begins = omega (arith, a.begins); ends = omega (arith, a.ends) })
      code' parts h
      λ t b front' d' rest' a'.
      let go : (front' ≡ []) ⊎ ((front'' : List Entry) × (front' ≡ entry code span ∷ front'') × Around (es ++ t) n front'' d' rest')
      → length front' ≤ suc (length front) =
      λ r. elim r [
        | inl e ↦ let m : length front' ≡ 0 = ap length e in omega (arith, m)
        | inr r ↦
            let m : length front' ≡ suc (length r.0) = ap length r.1 in
            omega (arith, k t (built_rest (entry code span ∷ []) (es ++ t) b) r.0 d' rest' r.2, m)
      ] in
      go (first_around n t front' d' rest' a')

  nears_in : (n : ℕ) (ps : List Placed) → n + length ps ≡ length es → Nears span es n ps → Nears s own (suc n) ps
  nears_in n [] e no_more = no_more
  nears_in n (p ∷ ps) e (next h k) = next (near_in n p.1 (omega (arith, e)) h) (nears_in (suc n) ps (omega (arith, e)) k)

  closed_in : Closed es → Closed own
  closed_in k t b [] d rest p h =
      let q : flat_condition c ++ t ≡ flat_condition d ++ rest = ap (λ (x : List Entry). x ++ t) spelled ∙ p in
      let same : c ≡ d = one_run c d t rest (rw spelled b) q in
      let m : length (flat_condition d) ≡ length own = ap (λ (x : Condition). length (flat_condition x)) (sym same) ∙ ap length spelled in
      omega (arith, m)
  closed_in k t b (x ∷ front) d rest p h =
      omega (arith, k t (built_rest (entry code span ∷ []) (es ++ t) b) front d rest (same_others p) (omega (arith, h)))

  at_own : Near s own 0 span
  at_own =
      inside [] c [] (around_own 0 (omega arith)) code es spelled λ t b front d rest a. a.begins

  whole : {ps : List Placed} → Nested span es ps → Nested s own ((entry code span, span) ∷ ps)
  whole {ps} k =
      record {
        long = ap suc k.long;
        closed = closed_in k.closed;
        near = next at_own (nears_in 0 ps (omega (arith, k.long)) k.near);
      }

-- ------------------------------------------------------------------ the tree

none_part : (e : Entry) → Part e → NoCondition e
none_part e h = none_later e (later e h)
  where
    none_later : (e : Entry) → Later e → NoCondition e
    none_later e h = le→leb 14 e.code (omega (arith, leb→le 40 e.code h))

none_parts : {es : List Entry} → All Part es → All NoCondition es
none_parts h = all_map none_part h

none_interval : (i : Interval) → NoCondition (flat_interval i)
none_interval i = le→leb 14 (flat_interval i).code (omega (arith, leb→le 40 (flat_interval i).code (later_interval i)))

none_within : (w : WithinSpec) → NoCondition (flat_within w)
none_within w = le→leb 14 (flat_within w).code (omega (arith, leb→le 40 (flat_within w).code (later_within w)))

-- these entries alone
alone : {s : ℕ} (es : List Entry) → All NoCondition es → Nested s es (under s es)
unfolding under
alone {s} [] all_nil = nothing s
alone (e ∷ es) (all_cons h hs) = behind h (alone es hs)

texts : (ts : List Text) → All NoCondition (flat_texts ts)
texts ts = none_parts (part_texts ts)

mutual
  unfolding under place_condition flat_condition flat_binder

  in_condition : (s : ℕ) (c : Condition) → Nested s (flat_condition c) (place_condition c)
  in_condition s (Condition.And q l r) = whole s (Condition.And q l r) 1 q _ refl (both (in_condition q l) (in_condition q r))
  in_condition s (Condition.Or q l r) = whole s (Condition.Or q l r) 2 q _ refl (both (in_condition q l) (in_condition q r))
  in_condition s (Condition.Not q c) = whole s (Condition.Not q c) 3 q _ refl (in_condition q c)
  in_condition s (Condition.Formerly q w c) = whole s (Condition.Formerly q w c) 4 q _ refl (behind (none_within w) (in_condition q c))
  in_condition s (Condition.Previous q w c) = whole s (Condition.Previous q w c) 5 q _ refl (behind (none_within w) (in_condition q c))
  in_condition s (Condition.Since q l w r) =
      whole s (Condition.Since q l w r) 6 q _ refl (both (in_condition q l) (behind (none_within w) (in_condition q r)))
  in_condition s (Condition.Predicate q o ns a k fs) =
      whole s (Condition.Predicate q o ns a k fs) 7 q _ refl
      (behind tt (behind tt (both (alone (flat_texts ns) (texts ns)) (behind tt (behind tt (behind tt (in_fields q fs)))))))
  in_condition s (Condition.Comparison q op l r) =
      whole s (Condition.Comparison q op l r) 8 q _ refl (behind tt (both (in_term q l) (in_term q r)))
  in_condition s (Condition.Exists q b c) =
      whole s (Condition.Exists q b c) 9 q _ refl (all_behind (flat_binder b) (none_parts (part_binder b)) (in_condition q c))
  in_condition s (Condition.Tp q v) =
      whole s (Condition.Tp q v) 10 q _ refl (alone (flat_slot v ∷ []) (all_cons (none_part (flat_slot v) (part_slot v)) all_nil))
  in_condition s (Condition.ConditionCall q c) = whole s (Condition.ConditionCall q c) 11 q _ refl (in_call q c)
  in_condition s (Condition.SigilRef q g n) =
      whole s (Condition.SigilRef q g n) 12 q _ refl
      (alone (text_entry (flat_sigil g) n ∷ []) (all_cons (none_part (text_entry (flat_sigil g) n) (part_sigil g n)) all_nil))
  in_condition s (Condition.Refine q o c fs) =
      whole s (Condition.Refine q o c fs) 13 q _ refl (behind tt (both (in_condition q c) (behind tt (in_fields q fs))))

  in_term : (s : ℕ) (t : Term) → Nested s (flat_term t) (place_term s t)
  in_term s (Term.Array ts) = behind tt (in_terms s ts)
  in_term s (Term.Agg a) = behind tt (in_agg s a)
  in_term s (Term.Arith op l r) = behind tt (both (in_term s l) (in_term s r))
  in_term s (Term.Entity ty id) = behind tt (behind tt (behind tt (nothing s)))
  in_term s (Term.Integer n) = behind tt (nothing s)
  in_term s (Term.Decimal t) = behind tt (nothing s)
  in_term s (Term.String t) = behind tt (nothing s)
  in_term s (Term.Bool b) = behind tt (nothing s)
  in_term s (Term.ContextField path) = behind tt (alone (flat_texts path) (texts path))
  in_term s (Term.ScopeField path) = behind tt (alone (flat_texts path) (texts path))
  in_term s (Term.Var n) = behind tt (nothing s)
  in_term s Term.Wildcard = behind tt (nothing s)
  in_term s (Term.ParamRef n) = behind tt (nothing s)
  in_term s (Term.BinderRef n) = behind tt (nothing s)

  in_agg : (s : ℕ) (a : AggExpr) → Nested s (flat_agg a) (place_agg s a)
  in_agg s (AggExpr.Sum q v bs c) =
      behind tt
      (behind (none_part (flat_slot v) (part_slot v))
      (behind tt (all_behind (flat_binders bs) (none_parts (part_binders bs)) (in_condition s c))))
  in_agg s (AggExpr.Count q bs c) = behind tt (behind tt (all_behind (flat_binders bs) (none_parts (part_binders bs)) (in_condition s c)))
  in_agg s (AggExpr.AggCall q c) = behind tt (in_call s c)

  in_call : (s : ℕ) (c : Call) → Nested s (flat_call c) (place_call s c)
  in_call s (Call.MacroCall q n args) = behind tt (behind tt (behind tt (in_args s args)))

  in_arg : (s : ℕ) (a : CallArg) → Nested s (flat_arg a) (place_arg s a)
  in_arg s (CallArg.ConditionArg c) = behind tt (in_condition s c)
  in_arg s (CallArg.TermArg t) = behind tt (in_term s t)
  in_arg s (CallArg.WithinArg i) = behind tt (behind (none_interval i) (nothing s))

  in_args : (s : ℕ) (args : CallArgs) → Nested s (flat_args args) (place_args s args)
  in_args s CallArgs.no_args = nothing s
  in_args s (CallArgs.cons_arg a rest) = both (in_arg s a) (in_args s rest)

  in_fields : (s : ℕ) (fs : NamedArgs) → Nested s (flat_fields fs) (place_fields s fs)
  in_fields s NamedArgs.no_fields = nothing s
  in_fields s (NamedArgs.cons_field n t fs) = behind tt (both (in_term s t) (in_fields s fs))

  in_terms : (s : ℕ) (ts : Terms) → Nested s (flat_terms ts) (place_terms s ts)
  in_terms s Terms.no_terms = nothing s
  in_terms s (Terms.cons_term t ts) = both (in_term s t) (in_terms s ts)

-- ------------------------------------------------------------------ the nearest condition around each entry

pub data AllNearest (es : List Entry) : ℕ → List Placed → Type 0 where
  all_met : {n : ℕ} → AllNearest es n []
  then : {n : ℕ} {p : Placed} {ps : List Placed} → Nearest es n p.1 → AllNearest es (suc n) ps → AllNearest es n (p ∷ ps)

module _ (c : Condition) where
  abbrev es : List Entry
  es = flat_condition c

  built : Built (es ++ [])
  unfolding build
  built = (Item.condition c ∷ [], rw append-nil (builds_condition c []))

  -- the tree's own run is around each of its entries
  around_all : (n : ℕ) → n < length es → Around (es ++ []) n [] c []
  around_all n h = record { run = refl; begins = omega arith; ends = omega (arith, h) }

  nearest : (n q : ℕ) → n < length es → Near 0 es n q → Nearest es n q
  nearest n q long (outside h k) = absurd (k [] built [] c [] (around_all n long))
  nearest n q long (inside front d rest a code parts h k) =
      record {
        front = front;
        condition = d;
        rest = rest;
        around = a;
        nearest = λ front' d' rest' a'. k [] built front' d' rest' (rw (append-nil (flat_condition c)) a');
        code = code;
        parts = parts;
        spanned = h;
      }

  nearest_from : (n : ℕ) (ps : List Placed) → n + length ps ≡ length es → Nears 0 es n ps → AllNearest es n ps
  nearest_from n [] e no_more = all_met
  nearest_from n (p ∷ ps) e (next h k) = then (nearest n p.1 (omega (arith, e)) h) (nearest_from (suc n) ps (omega (arith, e)) k)

  pub all_nearest : AllNearest es 0 (place_condition c)
  all_nearest = let k = in_condition 0 c in nearest_from 0 (place_condition c) (omega (arith, k.long)) k.near

-- there is one span alone
pub one_span : {es : List Entry} {n s q : ℕ} → Nearest es n s → Nearest es n q → s ≡ q
one_span {es} {n} {s} {q} h k =
    let there : length h.front ≤ length k.front = k.nearest h.front h.condition h.rest h.around in
    let back : length k.front ≤ length h.front = h.nearest k.front k.condition k.rest k.around in
    let r =
    cut h.front (flat_condition h.condition ++ h.rest) k.front (flat_condition k.condition ++ k.rest) (sym h.around.run ∙ k.around.run)
    there in
    let m : length k.front ≡ length h.front + length r.0 = ap length r.1 ∙ length-append h.front r.0 in
    same r.0 (omega (arith, m, back)) r.2
  where
    same : (mid : List Entry) → length mid ≡ 0
        → flat_condition h.condition ++ h.rest ≡ mid ++ (flat_condition k.condition ++ k.rest) → s ≡ q
    same [] e p =
        let p' : entry h.code s ∷ (h.parts ++ h.rest) ≡ entry k.code q ∷ (k.parts ++ k.rest) = rw (h.spanned, k.spanned) at p in
        ap (λ (x : Entry). x.value) (same_first p')
    same (x ∷ mid) e p = absurd (omega (arith, e))
