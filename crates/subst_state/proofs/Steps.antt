-- What the small functions answer, from what they learnt on the way.
-- Assumes nothing.
use Rattle.std.proofs.Common.{Option, Some, None}
use Prim.Native.Nat.{ℕ, zero, suc, ◌+◌, ◌*◌, ◌-◌, ◌≤◌, ◌<◌, min}
use native.Mathlib.Nat.{min-eq_left, min-eq_right}
use native.Mathlib.Omega.{arith}
use mathlib.Core.Path.{◌≡◌, refl, sym, ap, ◌∙◌}
use mathlib.Core.Bool.{Bool, true, false}
use mathlib.Core.List.{List, [], ◌∷◌}
use lib.Dec.{leb}
use lib.ListN.{length, take, drop, get_or, length-drop}
use Rattle.std.specs.Option.{option_copied}
use Rattle.std.specs.Slice.{IsItemAt}
use denote.Bor.{Bor}
use Rattle.std.specs.Prelude.{slice_set}
use lib.Seq.{slice, take_all, take-nil}
use borrow.Author.Tests.{leb-true, leb-false, lt-leb, le-leb}
use Rattle.std.proofs.lemmas.List.{drop_all}
use Rattle.format.specs.Stands.{part}
use Rattle.definition.specs.Text.{eq_text}
use Rattle.tape.specs.Pick.{pick}
use Rattle.nodes.specs.Node.{name_at}
use Rattle.tape.specs.declared.layout.Layout.{Layout}
use Rattle.tape.specs.declared.layout.Place.{Place}
use Rattle.nodes.specs.declared.Name.{Name}
use Rattle.nodes.specs.Node.{param_at}
use Rattle.subst_state.specs.Arguments.{measure_at, table_from, argument_in, search_from}
use Rattle.subst_state.specs.Output.{charge_of}
use Rattle.subst_state.specs.declared.maps.Argument.{Argument}

-- ------------------------------------------------------------------ charges

module _ (limit charged n : ℕ) where
  pub exceeded : limit < charged + n → None ≡ charge_of limit charged n
  unfolding charge_of
  exceeded h = rw (lt-leb (charged + n) limit h)

  pub paid : charged + n ≤ limit → Some (charged + n) ≡ charge_of limit charged n
  unfolding charge_of
  paid h = rw (le-leb (charged + n) limit h)

-- ------------------------------------------------------------------ parts of a slice

-- an index past the end of every slice is as good as the last of them
module _ (most : ℕ) (s : List ℕ) (h : length s ≤ most) where
  take_within : (n : ℕ) → take (min n most) s ≡ take n s
  take_within n = go (leb n most) refl
    where
      go : (t : Bool) → leb n most ≡ t → take (min n most) s ≡ take n s
      go true e = ap (λ (k : ℕ). take k s) (min-eq_left (leb-true n most e))
      go false e =
          take_all (min n most) s (omega (arith, min-eq_right (leb-false n most e)))
          ∙ sym (take_all n s (omega (arith, leb-false n most e)))

  drop_within : (n : ℕ) → drop (min n most) s ≡ drop n s
  drop_within n = go (leb n most) refl
    where
      go : (t : Bool) → leb n most ≡ t → drop (min n most) s ≡ drop n s
      go true e = ap (λ (k : ℕ). drop k s) (min-eq_left (leb-true n most e))
      go false e =
          drop_all (min n most) s (omega (arith, min-eq_right (leb-false n most e)))
          ∙ sym (drop_all n s (omega (arith, leb-false n most e)))

part_slice : (s : List ℕ) (a b : ℕ) → part s a (b - a) ≡ slice a b s
part_slice s zero b = let e : b - 0 ≡ b = omega arith in rw e
part_slice [] (suc a) b = take-nil (b - suc a) ∙ sym (ap (drop (suc a)) (take-nil b))
part_slice (c ∷ s) (suc a) zero = let e : 0 - suc a ≡ 0 = omega arith in rw e
part_slice (c ∷ s) (suc a) (suc b) = let e : suc b - suc a ≡ b - a = omega arith in rw e (part_slice s a b)

-- a part of a slice, its start and its length cut to the largest number
uncut : (u : List ℕ) (a n : ℕ) → length u ≤ 18446744073709551615
    → part u (min a 18446744073709551615) (min n 18446744073709551615) ≡ part u a n
uncut u a n i =
    ap (take (min n 18446744073709551615)) (drop_within 18446744073709551615 u i a)
    ∙ take_within 18446744073709551615 (drop a u) (omega (arith, length-drop a u)) n

-- a part of one of two slices, from one place to another behind its base
module _ (which : Bool) (s t : List ℕ) (base from to : ℕ) (h : length s ≤ 18446744073709551615) (k : length t ≤ 18446744073709551615) where
  fits : (v : Bool) → length (pick v s t) ≤ 18446744073709551615
  fits true = h
  fits false = k

  pub bytes_between : to ≤ 18446744073709551615
      → part (pick which s t) (min (base + from) 18446744073709551615) (to - from) ≡ slice (base + from) (base + to) (pick which s t)
  bytes_between m =
      let e : to - from ≡ min (base + to - (base + from)) 18446744073709551615 = omega arith in
      rw e (uncut (pick which s t) (base + from) (base + to - (base + from)) (fits which) ∙ part_slice (pick which s t) (base + from) (base + to))

  pub eights_between : part (pick which s t) (min (base + 8 * from) 18446744073709551615) (min (0 + 8 * (to - from)) 18446744073709551615)
      ≡ slice (base + 8 * from) (base + 8 * to) (pick which s t)
  eights_between =
      let e : 0 + 8 * (to - from) ≡ base + 8 * to - (base + 8 * from) = omega arith in
      rw e
      (uncut (pick which s t) (base + 8 * from) (base + 8 * to - (base + 8 * from)) (fits which)
      ∙ part_slice (pick which s t) (base + 8 * from) (base + 8 * to))

-- ------------------------------------------------------------------ the table of arguments

-- the loop that writes the table, with j of n arguments written
module _ (s : List ℕ) (l : Layout) (n j : ℕ) (p : Place) (k : ℕ) (t : List Argument) where
  pub table_done : n ≤ j → table_from s l (n - j) p k t ≡ t
  unfolding table_from
  table_done h = let e : n - j ≡ 0 = omega (arith, h) in ap (λ (m : ℕ). table_from s l m p k t) e

  module _ (some : j < n) where
    opened : table_from s l (n - j) p k t ≡ table_from s l (suc (n - (j + 1))) p k t
    opened = let e : n - j ≡ suc (n - (j + 1)) = omega (arith, some) in ap (λ (m : ℕ). table_from s l m p k t) e

    pub table_full : length t ≤ k → table_from s l (n - j) p k t ≡ t
    unfolding table_from
    table_full h = rw (opened, lt-leb (k + 1) (length t) (omega (arith, h)))

    module _ (room : k < length t) where
      pub table_none : None ≡ measure_at s l p → table_from s l (n - j) p k t ≡ t
      unfolding table_from
      table_none e = rw (opened, le-leb (k + 1) (length t) (omega (arith, room)), ← e)

      pub table_more : {a : Argument} → Some a ≡ measure_at s l p
          → table_from s l (n - j) p k t ≡ table_from s l (n - (j + 1)) a.to (k + 1) (slice_set t k a)
      unfolding table_from
      table_more e = rw (opened, le-leb (k + 1) (length t) (omega (arith, room)), ← e)

-- the argument at an index, where the table has it and where it has not
argument_there : (t : List Argument) (i : ℕ) (other : Argument) → i < length t → Some (get_or t i other) ≡ argument_in t i
unfolding argument_in
argument_there [] i other h = absurd (omega (arith, h))
argument_there (a ∷ t) zero other h = refl
argument_there (a ∷ t) (suc i) other h = argument_there t i other (omega (arith, h))

argument_past : (t : List Argument) (i : ℕ) → length t ≤ i → None ≡ argument_in t i
unfolding argument_in
argument_past [] i h = refl
argument_past (a ∷ t) zero h = absurd (omega (arith, h))
argument_past (a ∷ t) (suc i) h = argument_past t i (omega (arith, h))

pub argument_got : (t : List Argument) (i : ℕ) (r : Option (Bor Argument)) → IsItemAt t i r → option_copied r ≡ argument_in t i
argument_got t i None h = argument_past t i h.3
argument_got t i (Some x) h = ap Some h.1 ∙ argument_there t i x.now h.3.0

-- ------------------------------------------------------------------ a search

-- the loop that searches, with j of n parameters looked at
module _ (s : List ℕ) (l : Layout) (table : List Argument) (name : Name) (n j : ℕ) (p : Place) (other : Option Argument) where
  pub search_done : n ≤ j → search_from s l table name (n - j) p j other ≡ other
  unfolding search_from
  search_done h = let e : n - j ≡ 0 = omega (arith, h) in ap (λ (m : ℕ). search_from s l table name m p j other) e

  module _ (some : j < n) where
    going_on : search_from s l table name (n - j) p j other ≡ search_from s l table name (suc (n - (j + 1))) p j other
    going_on = let e : n - j ≡ suc (n - (j + 1)) = omega (arith, some) in ap (λ (m : ℕ). search_from s l table name m p j other) e

    pub search_end : None ≡ param_at s l p → search_from s l table name (n - j) p j other ≡ other
    unfolding search_from
    search_end e = rw (going_on, ← e)

    module _ {param : Name} {next : Place} (e : Some (param, next) ≡ param_at s l p) where
      behind : Bool → Option Argument
      behind b = search_from s l table name (n - (j + 1)) next (j + 1) (pick b (argument_in table j) other)

      one_looked_at : search_from s l table name (n - j) p j other ≡ behind (eq_text (name_at s l param) (name_at s l name))
      unfolding search_from behind
      one_looked_at = rw (going_on, ← e)

      pub search_hit : eq_text (name_at s l param) (name_at s l name) ≡ true
          → search_from s l table name (n - j) p j other ≡ search_from s l table name (n - (j + 1)) next (j + 1) (argument_in table j)
      unfolding behind
      search_hit t = one_looked_at ∙ ap behind t

      pub search_miss : eq_text (name_at s l param) (name_at s l name) ≡ false
          → search_from s l table name (n - j) p j other ≡ search_from s l table name (n - (j + 1)) next (j + 1) other
      unfolding behind
      search_miss t = one_looked_at ∙ ap behind t
