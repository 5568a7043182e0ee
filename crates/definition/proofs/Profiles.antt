-- The profile check keeps the promises of specs/Profiles.antt, and whatever function keeps them answers as it does.
-- Assumes nothing.
use Prim.Native.Nat.{ℕ, suc, ◌+◌, ◌<◌, ◌≤◌}
use native.Mathlib.Nat.{zero-add}
use native.Mathlib.Numerals.{one-add}
use native.Mathlib.Omega.{arith}
use mathlib.Core.Path.{◌≡◌, refl, sym, ◌∙◌, ap, ap₂, subst}
use mathlib.Core.Logic.{◌≢◌, ◌↔◌, ◌⊎◌, inl, inr}
use mathlib.Core.List.{List, [], ◌∷◌, ◌++◌, append_assoc, append-nil}
use mathlib.Core.Bool.{Bool, true, false, not, ◌&&◌, false≢true}
use mathlib.Core.Option.{none, some}
use borrow.Author.Tests.{eq-eqb, ne_eqb}
use lib.Dec.{T, leb, eqb, leb→le, le→leb, nleb→lt, eqb→eq}
use lib.IntN.{ℤ, pos, negsuc, ◌*ℤ◌}
use lib.ListN.{length, length-append}
use Rattle.format.specs.Entry.{Entry, entry}
use Rattle.format.specs.Ast.{TimeUnit, Condition}
use Rattle.format.specs.Flat.{flat_unit, flat_interval, flat_condition}
use Rattle.format.specs.Limits.{is_node, weigh}
use Rattle.format.specs.Older.{unit_seconds, seconds}
use Rattle.format.specs.Signed.{signed}
use Rattle.format.specs.Tape.{Reading, named_root, read}
use Rattle.format.proofs.All.{All, all_nil, all_cons}
use Rattle.format.proofs.Tests.{and_left, and_right, and_both, or_left, or_right, or_cases, is_true, is_false, from_true}
use Rattle.definition.specs.Outcome.{refusal}
use Rattle.definition.specs.Size.{size}
use Rattle.definition.specs.Check.{Verdict, ◌and_then◌}
use Rattle.definition.specs.Answers.{Answer, answer, reading, verdict}
use Rattle.definition.specs.Returned.{Gives, Refuses, RefusesAlone, Unread, malformed, too_large}
use Rattle.definition.specs.Profile.{Placed, place_condition, entries_of, is_aggregate, not_past, within_day, rule, profile_from, profile, profile_answer}
use Rattle.definition.specs.Profiles.{Nearest, IsNode, Nodes, SecondsEach, second, minute, hour, day, week, Outside, below_zero, above_a_day, Breaks, aggregate, seventeenth, interval, Unbroken, FirstBroken, no_buffer, Profiles}
use Rattle.definition.proofs.Size.{size_append}
use Rattle.definition.proofs.Returned.{gives, refuses, refuses_alone, gives_one, refuses_one}
use Rattle.definition.proofs.Profile.{placed_is_flat, from_zero_to_one_day}
use Rattle.definition.proofs.Nearest.{same_first, same_others, cut, AllNearest, all_met, then, low_or_high, all_nearest, one_span}

-- ------------------------------------------------------------------ nodes

is_a_node : (e : Entry) → T (is_node e.code) → IsNode e
unfolding is_node
is_a_node e h = go (or_cases (leb 1 e.code && leb e.code 13) (leb 20 e.code && leb e.code 36) h)
  where
    go : T (leb 1 e.code && leb e.code 13) ⊎ T (leb 20 e.code && leb e.code 36) → IsNode e
    go (inl t) = inl (leb→le 1 e.code (and_left (leb 1 e.code) _ t), leb→le e.code 13 (and_right (leb 1 e.code) _ t))
    go (inr t) = inr (leb→le 20 e.code (and_left (leb 20 e.code) _ t), leb→le e.code 36 (and_right (leb 20 e.code) _ t))

node_is : (e : Entry) → IsNode e → T (is_node e.code)
unfolding is_node
node_is e (inl h) = or_left (leb 1 e.code && leb e.code 13) _ (and_both (leb 1 e.code) _ (le→leb 1 e.code h.0) (le→leb e.code 13 h.1))
node_is e (inr h) =
    or_right (leb 1 e.code && leb e.code 13) _ (and_both (leb 20 e.code) _ (le→leb 20 e.code h.0) (le→leb e.code 36 h.1))

none_weighs : (b : Bool) → (T b → ⊥) → weigh b ≡ 0
unfolding weigh
none_weighs true h = absurd (h tt)
none_weighs false h = refl

one_weighs : (b : Bool) → T b → weigh b ≡ 1
unfolding weigh
one_weighs true h = refl
one_weighs false h = absurd h

nodes_size : {es : List Entry} {n : ℕ} → Nodes es n → n ≡ size es
unfolding size
nodes_size Nodes.none = refl
nodes_size (Nodes.node {e = e} h k) = omega (arith, one_weighs (is_node e.code) (node_is e h), nodes_size k)
nodes_size (Nodes.other {e = e} h k) = omega (arith, none_weighs (is_node e.code) (λ t. h (is_a_node e t)), nodes_size k)

size_nodes : (es : List Entry) → Nodes es (size es)
unfolding size weigh
size_nodes [] = Nodes.none
size_nodes (e ∷ es) = go (is_node e.code) (λ t. is_a_node e t) (λ h. node_is e h) (size_nodes es)
  where
    go : (b : Bool) → (T b → IsNode e) → (IsNode e → T b) → Nodes es (size es) → Nodes (e ∷ es) (weigh b + size es)
    go true f g k = rw (one-add (size es)) (Nodes.node (f tt) k)
    go false f g k = rw (zero-add (size es)) (Nodes.other g k)

-- ------------------------------------------------------------------ intervals

is_pos : ℤ → Bool
is_pos (pos n) = true
is_pos (negsuc n) = false

magnitude : ℤ → ℕ
magnitude (pos n) = n
magnitude (negsuc n) = n

abbrev InADay : ℤ → Type 0
InADay z = (k : ℕ) × (z ≡ pos k) × (k ≤ 86400)

not_both : {z : ℤ} → Outside z → InADay z → ⊥
unfolding is_pos magnitude
not_both below_zero d = false≢true (ap is_pos d.1)
not_both (above_a_day h) d = omega (arith, h, ap magnitude d.1, d.2)

in_or_out : (z : ℤ) → InADay z ⊎ Outside z
in_or_out (negsuc n) = inr below_zero
in_or_out (pos n) = go (leb n 86400) (λ t. leb→le n 86400 t) (λ t. nleb→lt n 86400 t)
  where
    go : (b : Bool) → (T b → n ≤ 86400) → (T (not b) → 86400 < n) → InADay (pos n) ⊎ Outside (pos n)
    go true f g = inl (n, refl, f tt)
    go false f g = inr (above_a_day (g tt))

unit_of : {code each : ℕ} → SecondsEach code each → (u : TimeUnit) × (flat_unit u ≡ code) × (unit_seconds u ≡ each)
unfolding flat_unit unit_seconds
unit_of second = (TimeUnit.Seconds, refl, refl)
unit_of minute = (TimeUnit.Minutes, refl, refl)
unit_of hour = (TimeUnit.Hours, refl, refl)
unit_of day = (TimeUnit.Days, refl, refl)
unit_of week = (TimeUnit.Weeks, refl, refl)

abbrev HasUnit : ℕ × ℕ → Type 0
HasUnit r = (each : ℕ) × SecondsEach r.0 each

module _ (e : Entry) where
  -- the test of an entry goes by its code and its value
  by_code : (code : ℕ) → e.code ≡ code → within_day e ≡ within_day (entry code e.value)
  unfolding within_day not_past
  by_code code h = rw h refl

  tested : {each : ℕ} → SecondsEach e.code each → T (within_day e) ↔ InADay (pos each *ℤ signed e.value)
  unfolding seconds flat_interval
  tested {each} s = let u = unit_of s in go u.0 each (sym u.1) u.2
    where
      go : (u : TimeUnit) (each : ℕ) → e.code ≡ flat_unit u → unit_seconds u ≡ each → T (within_day e) ↔ InADay (pos each *ℤ signed e.value)
      go u each p q = rw (by_code (flat_unit u) p, ← q) (from_zero_to_one_day (record { amount = e.value; unit = u }))

  -- what the test refuses has the code of a unit
  refused : (rs : List (ℕ × ℕ)) → not_past rs e ≡ false → All HasUnit rs → (each : ℕ) × SecondsEach e.code each
  unfolding not_past
  refused [] h all_nil = absurd (false≢true (sym h))
  refused (r ∷ rs) h (all_cons u us) = go (eqb e.code r.0) (eqb→eq e.code r.0) (λ k. refused rs k us) h
    where
      go : (b : Bool) → (T b → e.code ≡ r.0) → (not_past rs e ≡ false → (each : ℕ) × SecondsEach e.code each)
          → elim b [ true ↦ leb e.value r.1 | false ↦ not_past rs e ] ≡ false → (each : ℕ) × SecondsEach e.code each
      go true f k h = (u.0, rw (f tt) u.1)
      go false f k h = k h

  refused_code : within_day e ≡ false → (each : ℕ) × SecondsEach e.code each
  unfolding within_day
  refused_code h =
      refused _ h
      (all_cons (1, second) (all_cons (60, minute) (all_cons (3600, hour) (all_cons (86400, day) (all_cons (604800, week) all_nil)))))

  -- the third rule
  out_of_day : (before : List Entry) → within_day e ≡ false → Breaks before e 55
  out_of_day before h =
      let c = refused_code h in
      go c.0 c.1 (in_or_out (pos c.0 *ℤ signed e.value))
    where
      go : (each : ℕ) → SecondsEach e.code each → InADay (pos each *ℤ signed e.value) ⊎ Outside (pos each *ℤ signed e.value)
          → Breaks before e 55
      go each s (inl d) = absurd (false≢true (sym h ∙ is_true ((tested s).1 d)))
      go each s (inr o) = interval s o

-- ------------------------------------------------------------------ the rules of one entry

abbrev IsSeventeenth : List Entry → Entry → Type 0
IsSeventeenth before e = IsNode e × Nodes before 16

at_least_53 : {before : List Entry} {e : Entry} {number : ℕ} → Breaks before e number → 53 ≤ number
at_least_53 (aggregate h) = omega arith
at_least_53 (seventeenth h k) = omega arith
at_least_53 (interval s o) = omega arith

at_least_54 : {before : List Entry} {e : Entry} {number : ℕ} → e.code ≢ 30 → Breaks before e number → 54 ≤ number
at_least_54 not30 (aggregate h) = absurd (not30 h)
at_least_54 not30 (seventeenth h k) = omega arith
at_least_54 not30 (interval s o) = omega arith

at_least_55 : {before : List Entry} {e : Entry} {number : ℕ} → e.code ≢ 30 → (IsSeventeenth before e → ⊥) → Breaks before e number
    → 55 ≤ number
at_least_55 not30 not17 (aggregate h) = absurd (not30 h)
at_least_55 not30 not17 (seventeenth h k) = absurd (not17 (h, k))
at_least_55 not30 not17 (interval s o) = omega arith

breaks_none : {before : List Entry} {e : Entry} {number : ℕ} → e.code ≢ 30 → (IsSeventeenth before e → ⊥) → T (within_day e)
    → Breaks before e number → ⊥
breaks_none not30 not17 w (aggregate h) = not30 h
breaks_none not30 not17 w (seventeenth h k) = not17 (h, k)
breaks_none {e = e} not30 not17 w (interval s o) = not_both o ((tested e s).0 w)

-- what an entry is: the first rule that it breaks, or none
data Kind (before : List Entry) (e : Entry) : Type 0 where
  an_aggregate : e.code ≡ 30 → Kind before e
  a_seventeenth : e.code ≢ 30 → IsSeventeenth before e → Kind before e
  too_long : e.code ≢ 30 → (IsSeventeenth before e → ⊥) → within_day e ≡ false → Kind before e
  sound : e.code ≢ 30 → (IsSeventeenth before e → ⊥) → T (within_day e) → Kind before e

differs : {a b : ℕ} → eqb a b ≡ false → a ≢ b
differs {a} {b} p h = false≢true (sym p ∙ eq-eqb a b h)

module _ (before : List Entry) (e : Entry) (few : size before ≤ 16) where
  sixteen : 16 ≤ size before → Nodes before 16
  sixteen h = subst (Nodes before) (omega (arith, h, few)) (size_nodes before)

  fewer : (IsSeventeenth before e → ⊥) → T (is_node e.code) → size before < 16
  fewer not17 t = go (low_or_high (size before) 16)
    where
      go : (size before < 16) ⊎ (16 ≤ size before) → size before < 16
      go (inl h) = h
      go (inr h) = absurd (not17 (is_a_node e t, sixteen h))

  few_with : (IsSeventeenth before e → ⊥) → size before + weigh (is_node e.code) ≤ 16
  unfolding weigh
  few_with not17 = go (is_node e.code) (fewer not17)
    where
      go : (b : Bool) → (T b → size before < 16) → size before + weigh b ≤ 16
      go true f = omega (arith, f tt)
      go false f = omega (arith, few)

  kind : Kind before e
  kind = go (eqb e.code 30) (is_node e.code) (low_or_high (size before) 16) (within_day e) refl refl refl
    where
      last_two : e.code ≢ 30 → (IsSeventeenth before e → ⊥) → (w : Bool) → within_day e ≡ w → Kind before e
      last_two not30 not17 true r = sound not30 not17 (from_true r)
      last_two not30 not17 false r = too_long not30 not17 r

      go : (a b : Bool) → (size before < 16) ⊎ (16 ≤ size before) → (w : Bool) → eqb e.code 30 ≡ a → is_node e.code ≡ b → within_day e ≡ w
          → Kind before e
      go true b m w p q r = an_aggregate (eqb→eq e.code 30 (from_true p))
      go false true (inr m) w p q r = a_seventeenth (differs p) (is_a_node e (from_true q), sixteen m)
      go false true (inl m) w p q r = last_two (differs p) (λ h. omega (arith, m, nodes_size h.1)) w r
      go false false m w p q r = last_two (differs p) (λ h. false≢true (sym q ∙ is_true (node_is e h.0))) w r

-- ------------------------------------------------------------------ what is unbroken, entry by entry

module _ {A : Type 0} where
  none_stands : (front : List A) (a : A) (back : List A) → [] ≡ front ++ a ∷ back → ⊥
  none_stands [] a back e = let m : 0 ≡ suc (length back) = ap length e in omega (arith, m)
  none_stands (y ∷ front) a back e = let m : 0 ≡ suc (length (front ++ a ∷ back)) = ap length e in omega (arith, m)

  -- a list with one behind it is cut in its front, or at the last
  cut_last : (l : List A) (b : A) (front : List A) (a : A) (back : List A) → l ++ b ∷ [] ≡ front ++ a ∷ back
      → ((front ≡ l) × (a ≡ b)) ⊎ ((mid : List A) × (l ≡ front ++ a ∷ mid))
  cut_last [] b [] a back e = inl (refl, sym (same_first e))
  cut_last [] b (x ∷ front) a back e = absurd (none_stands front a back (same_others e))
  cut_last (x ∷ l) b [] a back e = inr (l, ap (λ (y : A). y ∷ l) (same_first e))
  cut_last (x ∷ l) b (y ∷ front) a back e = go (cut_last l b front a back (same_others e))
    where
      go : ((front ≡ l) × (a ≡ b)) ⊎ ((mid : List A) × (l ≡ front ++ a ∷ mid))
          → ((y ∷ front ≡ x ∷ l) × (a ≡ b)) ⊎ ((mid : List A) × (x ∷ l ≡ (y ∷ front) ++ a ∷ mid))
      go (inl h) = inl (ap₂ ◌∷◌ (sym (same_first e)) h.0, h.1)
      go (inr h) = inr (h.0, ap₂ ◌∷◌ (same_first e) h.1)

unbroken_on : (before : List Entry) (e : Entry) → Unbroken before → ((number : ℕ) → Breaks before e number → ⊥)
    → Unbroken (before ++ e ∷ [])
unbroken_on before e u k front x back number p b = go (cut_last before e front x back p)
  where
    go : ((front ≡ before) × (x ≡ e)) ⊎ ((mid : List Entry) × (before ≡ front ++ x ∷ mid)) → ⊥
    go (inl h) = k number (subst (λ (l : List Entry). Breaks l e number) h.0 (subst (λ (y : Entry). Breaks front y number) h.1 b))
    go (inr h) = u front x h.0 number h.1 b

-- ------------------------------------------------------------------ what the definition finds

data Found (es : List Entry) : Verdict → Type 0 where
  found_none : Unbroken es → Found es none
  found_aggregate : (before : List Entry) → FirstBroken es before 53 → Found es (some (refusal 53 0 []))
  found_seventeenth : (before : List Entry) → FirstBroken es before 54 → Found es (some (refusal 54 0 []))
  found_interval : (before : List Entry) (span : ℕ) → FirstBroken es before 55 → Nearest es (length before) span
      → Found es (some (refusal 55 span []))

-- what it says at an entry, so many nodes having been met
at_30 : (e : Entry) → e.code ≡ 30 → is_aggregate e ≡ true
unfolding is_aggregate
at_30 e h = rw h refl

not_at_30 : (e : Entry) → e.code ≢ 30 → is_aggregate e ≡ false
unfolding is_aggregate
not_at_30 e h = ne_eqb e.code 30 h

module _ (nodes : ℕ) (p : Placed) (ps : List Placed) where
  says_53 : p.0.code ≡ 30 → profile_from nodes (p ∷ ps) ≡ some (refusal 53 0 [])
  unfolding profile_from rule ◌and_then◌
  says_53 h = rw (at_30 p.0 h) refl

  says_54 : p.0.code ≢ 30 → T (is_node p.0.code) → nodes ≡ 16 → profile_from nodes (p ∷ ps) ≡ some (refusal 54 0 [])
  unfolding profile_from rule ◌and_then◌
  says_54 not30 h k = rw (not_at_30 p.0 not30, is_true {b = is_node p.0.code} h, k) refl

  no_seventeenth : (T (is_node p.0.code) → nodes < 16) → (is_node p.0.code && leb 16 nodes) ≡ false
  no_seventeenth f =
      is_false λ t.
      let k : 16 ≤ nodes = leb→le 16 nodes (and_right (is_node p.0.code) _ t) in
      omega (arith, k, f (and_left (is_node p.0.code) _ t))

  says_55 : p.0.code ≢ 30 → (T (is_node p.0.code) → nodes < 16) → within_day p.0 ≡ false
      → profile_from nodes (p ∷ ps) ≡ some (refusal 55 p.1 [])
  unfolding profile_from rule ◌and_then◌
  says_55 not30 few w = rw (not_at_30 p.0 not30, no_seventeenth few, w) refl

  says_on : p.0.code ≢ 30 → (T (is_node p.0.code) → nodes < 16) → T (within_day p.0)
      → profile_from nodes (p ∷ ps) ≡ profile_from (nodes + weigh (is_node p.0.code)) ps
  unfolding profile_from rule ◌and_then◌
  says_on not30 few w = rw (not_at_30 p.0 not30, no_seventeenth few, is_true {b = within_day p.0} w) refl

says_none : (nodes : ℕ) → profile_from nodes [] ≡ none
unfolding profile_from
says_none nodes = refl

module _ (es before : List Entry) (p : Placed) (ps : List Placed) (here : es ≡ before ++ p.0 ∷ entries_of ps) (u : Unbroken before)
    (few : size before ≤ 16) where
  broken_here : (number : ℕ) → Breaks before p.0 number → ((other : ℕ) → Breaks before p.0 other → number ≤ other)
      → FirstBroken es before number
  broken_here number b l = record { e = p.0; after = entries_of ps; entries = here; unbroken = u; broken = b; lowest = l }

  at_entry : Nearest es (length before) p.1 → Kind before p.0
      → (((number : ℕ) → Breaks before p.0 number → ⊥) → (IsSeventeenth before p.0 → ⊥)
      → Found es (profile_from (size before + weigh (is_node p.0.code)) ps))
      → Found es (profile_from (size before) (p ∷ ps))
  at_entry near (an_aggregate h) k =
      rw (says_53 (size before) p ps h)
      (found_aggregate before (broken_here 53 (aggregate h) (λ n b. at_least_53 b)))
  at_entry near (a_seventeenth not30 h) k =
      rw (says_54 (size before) p ps not30 (node_is p.0 h.0) (sym (nodes_size h.1)))
      (found_seventeenth before (broken_here 54 (seventeenth h.0 h.1) (λ n b. at_least_54 not30 b)))
  at_entry near (too_long not30 not17 w) k =
      rw (says_55 (size before) p ps not30 (fewer before p.0 few not17) w)
      (found_interval before p.1 (broken_here 55 (out_of_day p.0 before w) (λ n b. at_least_55 not30 not17 b)) near)
  at_entry near (sound not30 not17 w) k =
      rw (says_on (size before) p ps not30 (fewer before p.0 few not17) w)
      (k (λ n b. breaks_none not30 not17 w b) not17)

found_from : (es before : List Entry) (ps : List Placed) → es ≡ before ++ entries_of ps → Unbroken before → size before ≤ 16
    → AllNearest es (length before) ps → Found es (profile_from (size before) ps)
unfolding entries_of size
found_from es before [] e u few all_met = rw (says_none (size before)) (found_none (rw (e, append-nil before) u))
found_from es before (p ∷ ps) e u few (then near rest) =
    at_entry es before p ps e u few near (kind before p.0 few)
    λ k not17.
    subst (λ (n : ℕ). Found es (profile_from n ps)) size_with
    (found_from es (before ++ p.0 ∷ []) ps (e ∙ sym (append_assoc before (p.0 ∷ []) (entries_of ps))) (unbroken_on before p.0 u k)
    (omega (arith, size_with, few_with before p.0 few not17)) (rw length_with rest))
  where
    size_with : size (before ++ p.0 ∷ []) ≡ size before + weigh (is_node p.0.code)
    size_with = omega (arith, size_append before (p.0 ∷ []))

    length_with : length (before ++ p.0 ∷ []) ≡ suc (length before)
    length_with = omega (arith, length-append before (p.0 ∷ []))

found : (c : Condition) → Found (flat_condition c) (profile c)
unfolding profile size
found c =
    found_from (flat_condition c) [] (place_condition c) (sym (placed_is_flat c))
    (λ before e after number h b. none_stands before e after h) (omega arith) (all_nearest c)

-- ------------------------------------------------------------------ one rule is broken first

module _ {es before before' : List Entry} {number number' : ℕ} (f : FirstBroken es before number) (g : FirstBroken es before' number') where
  not_earlier : length before < length before' → ⊥
  not_earlier h = go r.0 r.1 r.2
    where
      r : (mid : List Entry) × (before' ≡ before ++ mid) × (f.e ∷ f.after ≡ mid ++ g.e ∷ g.after)
      r = cut before (f.e ∷ f.after) before' (g.e ∷ g.after) (sym f.entries ∙ g.entries) (omega (arith, h))

      go : (mid : List Entry) → before' ≡ before ++ mid → f.e ∷ f.after ≡ mid ++ g.e ∷ g.after → ⊥
      go [] p q = let m : length before' ≡ length before = ap length (p ∙ append-nil before) in omega (arith, m, h)
      go (y ∷ mid) p q = g.unbroken before y mid number p (subst (λ (x : Entry). Breaks before x number) (same_first q) f.broken)

module _ {es before before' : List Entry} {number number' : ℕ} (f : FirstBroken es before number) (g : FirstBroken es before' number') where
  same_broken : (before ≡ before') × (number ≡ number')
  same_broken = go (low_or_high (length before) (length before')) (low_or_high (length before') (length before))
    where
      at_one : (mid : List Entry) → before' ≡ before ++ mid → f.e ∷ f.after ≡ mid ++ g.e ∷ g.after → length before' ≤ length before
          → (before ≡ before') × (number ≡ number')
      at_one [] p q h =
          let here : before' ≡ before = p ∙ append-nil before in
          let there : Breaks before' f.e number = subst (λ (b : List Entry). Breaks b f.e number) (sym here) f.broken in
          let back : Breaks before g.e number' = subst (λ (b : List Entry). Breaks b g.e number') here g.broken in
          let low : number ≤ number' = f.lowest number' (subst (λ (x : Entry). Breaks before x number') (sym (same_first q)) back) in
          let high : number' ≤ number = g.lowest number (subst (λ (x : Entry). Breaks before' x number) (same_first q) there) in
          (sym here, omega (arith, low, high))
      at_one (y ∷ mid) p q h =
          let m : length before' ≡ length before + suc (length mid) = ap length p ∙ length-append before (y ∷ mid) in
          absurd (omega (arith, m, h))

      go : (length before < length before') ⊎ (length before' ≤ length before)
          → (length before' < length before) ⊎ (length before ≤ length before')
          → (before ≡ before') × (number ≡ number')
      go (inl h) k = absurd (not_earlier f g h)
      go (inr h) (inl k) = absurd (not_earlier g f k)
      go (inr h) (inr k) =
          let r = cut before (f.e ∷ f.after) before' (g.e ∷ g.after) (sym f.entries ∙ g.entries) k in
          at_one r.0 r.1 r.2 h

differ : {number number' : ℕ} → number < number' → number ≡ number' → ⊥
differ h e = omega (arith, h, e)

found_53 : {es before : List Entry} {v : Verdict} → Found es v → FirstBroken es before 53 → v ≡ some (refusal 53 0 [])
found_53 {before = before} (found_none u) f = absurd (u before f.e f.after 53 f.entries f.broken)
found_53 (found_aggregate b g) f = refl
found_53 (found_seventeenth b g) f = absurd (differ (omega arith) (same_broken f g).1)
found_53 (found_interval b s g n) f = absurd (differ (omega arith) (same_broken f g).1)

found_54 : {es before : List Entry} {v : Verdict} → Found es v → FirstBroken es before 54 → v ≡ some (refusal 54 0 [])
found_54 {before = before} (found_none u) f = absurd (u before f.e f.after 54 f.entries f.broken)
found_54 (found_aggregate b g) f = absurd (differ (omega arith) (same_broken g f).1)
found_54 (found_seventeenth b g) f = refl
found_54 (found_interval b s g n) f = absurd (differ (omega arith) (same_broken f g).1)

found_55 : {es before : List Entry} {v : Verdict} {span : ℕ} → Found es v → FirstBroken es before 55 → Nearest es (length before) span
    → v ≡ some (refusal 55 span [])
found_55 {before = before} (found_none u) f near = absurd (u before f.e f.after 55 f.entries f.broken)
found_55 (found_aggregate b g) f near = absurd (differ (omega arith) (same_broken g f).1)
found_55 (found_seventeenth b g) f near = absurd (differ (omega arith) (same_broken g f).1)
found_55 {es} {span = span} (found_interval b s g n) f near =
    let same : s ≡ span = one_span (rw (ap length (same_broken g f).0) at n) near in
    ap (λ (x : ℕ). some (refusal 55 x [])) same

found_0 : {es : List Entry} {v : Verdict} → Found es v → Unbroken es → v ≡ none
found_0 (found_none u) h = refl
found_0 (found_aggregate b g) h = absurd (h b g.e g.after 53 g.entries g.broken)
found_0 (found_seventeenth b g) h = absurd (h b g.e g.after 54 g.entries g.broken)
found_0 (found_interval b s g n) h = absurd (h b g.e g.after 55 g.entries g.broken)

-- ------------------------------------------------------------------ the definition keeps the promises

nothing_written : Unit {0} → List ℕ
nothing_written u = []

read_answer : Reading Condition → Answer
read_answer r = answer nothing_written no_buffer (reading r λ c. verdict (profile c))

is_read_answer : (tape : List ℕ) → profile_answer tape ≡ read_answer (read (named_root 81) tape)
unfolding profile_answer read_answer nothing_written
is_read_answer tape = refl

unread_answer : {r : Reading Condition} {why : ℕ} → Unread r why → RefusesAlone no_buffer why (read_answer r)
unfolding read_answer reading
unread_answer malformed = refuses_alone nothing_written no_buffer 2
unread_answer too_large = refuses_alone nothing_written no_buffer 3

refused_answer : (c : Condition) (number span : ℕ) → profile c ≡ some (refusal number span [])
    → Refuses no_buffer number span [] 0 (read_answer (Reading.accepted c))
unfolding read_answer reading verdict
refused_answer c number span h = rw h (refuses nothing_written no_buffer (refusal number span []) 0)

passed_answer : (c : Condition) → profile c ≡ none → Gives no_buffer [] 0 (read_answer (Reading.accepted c))
unfolding read_answer reading verdict nothing_written
passed_answer c h = rw h (gives nothing_written no_buffer tt 0)

pub profiles : Profiles profile_answer
profiles =
    record {
      unread = λ tape why u. rw (is_read_answer tape) (unread_answer u);
      aggregate = λ tape c before e f. rw (is_read_answer tape, e) (refused_answer c 53 0 (found_53 (found c) f));
      seventeenth = λ tape c before e f. rw (is_read_answer tape, e) (refused_answer c 54 0 (found_54 (found c) f));
      interval = λ tape c before span e f near. rw (is_read_answer tape, e) (refused_answer c 55 span (found_55 (found c) f near));
      passes = λ tape c e u. rw (is_read_answer tape, e) (passed_answer c (found_0 (found c) u));
    }

-- ------------------------------------------------------------------ and nothing else does

pub determined : (g : List ℕ → Answer) → Profiles g → (tape : List ℕ) → g tape ≡ profile_answer tape
determined g p tape = by_reading (read (named_root 81) tape) refl
  where
    unread : (why : ℕ) → Unread (read (named_root 81) tape) why → g tape ≡ profile_answer tape
    unread why u = refuses_one (p.unread tape why u) (profiles.unread tape why u)

    by_found : (c : Condition) {v : Verdict} → read (named_root 81) tape ≡ Reading.accepted c → Found (flat_condition c) v
        → g tape ≡ profile_answer tape
    by_found c e (found_none u) = gives_one (p.passes tape c e u) (profiles.passes tape c e u)
    by_found c e (found_aggregate b f) = refuses_one (p.aggregate tape c b e f) (profiles.aggregate tape c b e f)
    by_found c e (found_seventeenth b f) = refuses_one (p.seventeenth tape c b e f) (profiles.seventeenth tape c b e f)
    by_found c e (found_interval b s f n) = refuses_one (p.interval tape c b s e f n) (profiles.interval tape c b s e f n)

    by_reading : (r : Reading Condition) → read (named_root 81) tape ≡ r → g tape ≡ profile_answer tape
    by_reading Reading.malformed e = unread 2 (rw e malformed)
    by_reading Reading.too_large e = unread 3 (rw e too_large)
    by_reading (Reading.accepted c) e = by_found c e (found c)
