-- One law for each way a function of the crate returns, from what the code learnt to the definition that the contract cites.
-- Assumes nothing.
use Rattle.std.proofs.Common.{Some, None}
use Prim.Native.Nat.{ℕ, zero, suc, ◌+◌, ◌-◌, ◌≤◌, ◌<◌, min}
use native.Mathlib.Omega.{arith}
use native.Mathlib.Nat.{sub-zero, add-zero}
use native.Mathlib.Numerals.{add-one}
use mathlib.Core.Path.{◌≡◌, refl, sym, ap, ◌∙◌}
use mathlib.Core.List.{List, [], ◌∷◌, ◌++◌}
use mathlib.Core.Bool.{Bool, true, false}
use lib.Dec.{leb, ltb, eqb}
use lib.ListN.{length, take, drop, get_or, set, take-append-drop, drop_of_length-le}
use lib.Seq.{take-nil, drop-cons, append_snoc, drop-set-lt, set-get_or}
use Rattle.std.proofs.lemmas.List.{take_more_set}
use borrow.Author.Tests.{lt-leb, le-leb, le-ltb, eq-eqb, ne_eqb}
use Rattle.format.specs.Entry.{Text}
use Rattle.format.specs.Limits.{weigh}
use Rattle.format.specs.Stands.{part}
use Rattle.format.proofs.Stands.{part_cons}
use Rattle.format.specs.Tape.{is_text, text_width}
use Rattle.tape.specs.Pick.{pick}
use Rattle.tape.specs.Flat.{sum_of, weight_of}
use Rattle.tape.specs.Layouts.{holds, code_at, value_at, width_at, onward}
use Rattle.tape.specs.declared.layout.Layout.{Layout}
use Rattle.tape.specs.declared.layout.Place.{Place}
use Rattle.tape.proofs.Runs.{place}
use Rattle.nodes.specs.Node.{has_entry, entry_at, expect_at, name_at}
use Rattle.registry.specs.Places.{origin, key_of}
use Rattle.registry.specs.declared.rows.Row.{Row}
use Rattle.registry.proofs.Steps.{empty_row}
use Rattle.expand_counts.specs.Counting.{name_behind_at, is_named, raised, raised_at, passing, few, passed_at, counted_at, count_from, counted_in}
use Rattle.expand_counts.specs.declared.Passing.{Passing}
use Rattle.nodes.proofs.Texts.{equal_texts}
use lib.Pointwise.{pointwise}
use Rattle.std.proofs.Common.{nat_eq}

-- ------------------------------------------------------------------ a name that is called

module _ (s : List ℕ) (l : Layout) (p : Place) where
  behind : expect_at s l (onward p 0) 40 ≡ expect_at s l (place (p.at + 1) p.text) 40
  behind = ap (λ (t : ℕ). expect_at s l (place (p.at + 1) t) 40) (add-zero p.text)

  pub name_missing : expect_at s l (place (p.at + 1) p.text) 40 ≡ None → name_behind_at s l p ≡ []
  unfolding name_behind_at
  name_missing q = rw (behind, q)

  -- no entry stands so far on
  pub name_outside : length s ≤ p.at → name_behind_at s l p ≡ []
  unfolding name_behind_at expect_at entry_at has_entry
  name_outside h = let far : ltb (l.codes + (p.at + 1)) (length s) ≡ false = le-ltb (l.codes + (p.at + 1)) (length s) (omega arith) in rw far

  pub name_read : {size : ℕ} {next : Place} → expect_at s l (place (p.at + 1) p.text) 40 ≡ Some (size, next)
      → name_behind_at s l p ≡ name_at s l (record { text = p.text; size = size })
  unfolding name_behind_at
  name_read {size} q = rw (behind, q) (ap (λ (t : ℕ). name_at s l (record { text = t; size = size })) (add-zero p.text))

-- the row of a definition, of which the name's key is known
module _ (reg : List ℕ) (d : Layout) (r : Row) (name : Text) {key : ℕ} (k : key ≡ key_of name) where
  pub named_otherwise : (r.key ≡ key → ⊥) → is_named reg d r name ≡ false
  unfolding is_named
  named_otherwise h = rw (← k, ne_eqb r.key key h)

  pub named_by : r.key ≡ key → is_named reg d r name ≡ pointwise nat_eq (name_behind_at reg d r.place) name
  unfolding is_named
  named_by h = rw (← k, eq-eqb r.key key h) (sym (equal_texts (name_behind_at reg d r.place) name))

-- ------------------------------------------------------------------ counts

module _ (reg : List ℕ) (d : Layout) (name : Text) where
  -- rows without counts
  none_counted : (rs : List Row) → raised_at reg d rs name [] ≡ []
  unfolding raised_at
  none_counted [] = refl
  none_counted (r ∷ rs) = refl

  -- as many rows as there are counts
  pub rows_cut : (rs : List Row) (ks : List ℕ) (n : ℕ) → min (length rs) (length ks) ≤ n → raised_at reg d (take n rs) name ks ≡ raised_at reg d rs name ks
  unfolding raised_at
  rows_cut [] ks n h = rw (take-nil n)
  rows_cut (r ∷ rs) [] n h = none_counted (take n (r ∷ rs))
  rows_cut (r ∷ rs) (k ∷ ks) zero h = absurd (omega arith)
  rows_cut (r ∷ rs) (k ∷ ks) (suc n) h = ap (λ (js : List ℕ). pick (is_named reg d r name) (raised k) k ∷ js) (rows_cut rs ks n (omega arith))

  -- the counts before i are done, and the rows that are left are those of the others
  module _ (rows : List Row) (ks : List ℕ) (i : ℕ) where
    pub count_done : length rows ≤ i → take i ks ++ raised_at reg d (drop i rows) name (drop i ks) ≡ ks
    unfolding raised_at
    count_done h = rw (drop_of_length-le rows {i = i} h) (take-append-drop i ks)

    module _ (h : i < length rows) (room : i < length ks) where
      this : take i ks ++ raised_at reg d (drop i rows) name (drop i ks)
          ≡ take i ks ++ pick (is_named reg d (get_or rows i empty_row) name) (raised (get_or ks i 0)) (get_or ks i 0) ∷ raised_at reg d (drop (i + 1) rows) name (drop (i + 1) ks)
      unfolding raised_at
      this = rw (add-one i, drop-cons rows i empty_row h, drop-cons ks i 0 room)

      stored : (v : ℕ) → take (i + 1) (set ks i v) ++ raised_at reg d (drop (i + 1) rows) name (drop (i + 1) (set ks i v))
          ≡ take i ks ++ v ∷ raised_at reg d (drop (i + 1) rows) name (drop (i + 1) ks)
      stored v =
          rw (take_more_set ks i v room, drop-set-lt (i + 1) ks i v (omega arith), append_snoc (take i ks) v (raised_at reg d (drop (i + 1) rows) name (drop (i + 1) ks)))

      pub count_turn : {v : ℕ} → true ≡ is_named reg d (get_or rows i empty_row) name → v ≡ raised (get_or ks i 0)
          → take i ks ++ raised_at reg d (drop i rows) name (drop i ks)
          ≡ take (i + 1) (set ks i v) ++ raised_at reg d (drop (i + 1) rows) name (drop (i + 1) (set ks i v))
      count_turn {v} t e = this ∙ rw (← t, ← e) (sym (stored v))

      pub count_passed : false ≡ is_named reg d (get_or rows i empty_row) name
          → take i ks ++ raised_at reg d (drop i rows) name (drop i ks) ≡ take (i + 1) ks ++ raised_at reg d (drop (i + 1) rows) name (drop (i + 1) ks)
      count_passed f = this ∙ rw (← f) (sym (stored (get_or ks i 0)) ∙ rw (set-get_or ks i 0))

-- ------------------------------------------------------------------ one entry

pub few_large : (v : ℕ) → 1024 < v → 0 ≡ few v
few_large v h = rw (lt-leb v 1024 h)

pub few_small : (v : ℕ) → v ≤ 1024 → v ≡ few v
few_small v h = rw (le-leb v 1024 h)

-- ------------------------------------------------------------------ entry by entry

module _ (reg : List ℕ) (d : Layout) (rows : List Row) (s : List ℕ) (l : Layout) where
  module _ (at text : ℕ) (w : Passing) (ks : List ℕ) where
    pub entries_done : l.entries ≤ at → count_from reg d rows s l (l.entries - at) (place at text) w ks ≡ ks
    unfolding count_from
    entries_done h = let e : l.entries - at ≡ 0 = omega arith in rw e

    module _ {code value width : ℕ} (h : at < l.entries) (c : code ≡ code_at s l at) (v : value ≡ value_at s l at)
        (t : width ≡ text_width (is_text code) value) (k : text ≤ l.size) where
      turned : count_from reg d rows s l (l.entries - at) (place at text) w ks
          ≡ pick (leb (text + width) l.size)
          (count_from reg d rows s l (l.entries - (at + 1)) (place (at + 1) (text + width)) (passed_at s l (place at text) w code value)
          (counted_at reg d rows s l (place at text) w code ks))
          ks
      unfolding count_from
      turned = let n : l.entries - at ≡ suc (l.entries - (at + 1)) = omega arith in rw (n, ← c, ← v, ← t)

      pub entry_long : l.size - text < width → count_from reg d rows s l (l.entries - at) (place at text) w ks ≡ ks
      entry_long g = turned ∙ rw (lt-leb (text + width) l.size (omega arith))

      pub entry_taken : {w' : Passing} {ks' : List ℕ} → width ≤ l.size - text → w' ≡ passed_at s l (place at text) w code value
          → ks' ≡ counted_at reg d rows s l (place at text) w code ks
          → count_from reg d rows s l (l.entries - at) (place at text) w ks
          ≡ count_from reg d rows s l (l.entries - (at + 1)) (place (at + 1) (text + width)) w' ks'
      entry_taken g e q = turned ∙ rw (e, q, le-leb (text + width) l.size (omega arith))

  pub entries_start : (ks : List ℕ)
      → count_from reg d rows s l (l.entries - 0) origin (passing 0 0) ks ≡ count_from reg d rows s l l.entries origin (passing 0 0) ks
  entries_start ks = ap (λ (n : ℕ). count_from reg d rows s l n origin (passing 0 0) ks) (sub-zero l.entries)

  pub counted_held : {b : Bool} {ks' : List ℕ} (ks : List ℕ) → b ≡ holds s l → b ≡ true → ks' ≡ count_from reg d rows s l l.entries origin (passing 0 0) ks
      → ks' ≡ counted_in reg d rows s l ks
  unfolding counted_in
  counted_held ks e t q = rw (← e, t) q

  pub counted_not_held : {b : Bool} (ks : List ℕ) → b ≡ holds s l → b ≡ false → ks ≡ counted_in reg d rows s l ks
  unfolding counted_in
  counted_not_held ks e f = rw (← e, f)

-- ------------------------------------------------------------------ a condition without a call

weigh_none : (b : Bool) → weigh b ≡ 0 → b ≡ false
unfolding weigh
weigh_none true e = absurd (omega arith)
weigh_none false e = refl

module _ (reg : List ℕ) (d : Layout) (rows : List Row) (s : List ℕ) (l : Layout) where
  stays : (p : Place) (w : Passing) (code : ℕ) (ks : List ℕ) → eqb code 54 ≡ false → counted_at reg d rows s l p w code ks ≡ ks
  unfolding counted_at
  stays p w code ks e = rw e (go (eqb w.over 0))
    where
      go : (b : Bool) → pick b ks ks ≡ ks
      go true = refl
      go false = refl

  none_from : (n : ℕ) (p : Place) (w : Passing) (ks : List ℕ) → l.codes + p.at + n ≤ length s
      → sum_of (weight_of 54) (part s (l.codes + p.at) n) ≡ 0 → count_from reg d rows s l n p w ks ≡ ks
  unfolding count_from
  none_from zero p w ks h e = refl
  none_from (suc n) p w ks h e =
      rw (stays p w (code_at s l p.at) ks (weigh_none _ (omega (arith, sum))))
      (go (leb (p.text + width_at s l p.at) l.size)
      (none_from n next (passed_at s l p w (code_at s l p.at) (value_at s l p.at)) ks (omega arith) rest))
    where
      sum : weight_of 54 (code_at s l p.at) + sum_of (weight_of 54) (part s (l.codes + p.at + 1) n) ≡ 0
      sum = sym (ap (sum_of (weight_of 54)) (part_cons s (l.codes + p.at) n (omega arith))) ∙ e

      next : Place
      next = onward p (width_at s l p.at)

      rest : sum_of (weight_of 54) (part s (l.codes + next.at) n) ≡ 0
      rest =
          let q : l.codes + (p.at + 1) ≡ l.codes + p.at + 1 = omega arith in
          rw q (omega (arith, sum))

      go : (b : Bool) {ks' : List ℕ} → ks' ≡ ks → pick b ks' ks ≡ ks
      go true q = q
      go false q = refl

  pub counted_none : {b : Bool} (ks : List ℕ) → b ≡ holds s l → b ≡ true → l.codes + l.entries ≤ length s
      → sum_of (weight_of 54) (part s l.codes l.entries) ≡ 0 → ks ≡ counted_in reg d rows s l ks
  counted_none ks e t h z =
      counted_held reg d rows s l ks e t
      (sym (none_from l.entries origin (passing 0 0) ks (omega arith) (rw (add-zero l.codes) z)))
