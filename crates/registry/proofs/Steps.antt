-- One law for each way a function of the crate returns, from what the code learnt to the definition that the contract cites.
-- Assumes nothing.
use Rattle.std.proofs.Common.{Option, Some, None, Result, Ok, Err, nat_eq}
use Rattle.std.specs.Result.{result_ok}
use lib.Pointwise.{pointwise}
use Rattle.nodes.proofs.Texts.{equal_texts}
use Prim.Native.Nat.{ℕ, suc, ◌+◌, ◌*◌, ◌-◌, ◌%◌, ◌≤◌, ◌<◌}
use native.Mathlib.Omega.{arith}
use native.Mathlib.Nat.{sub-zero}
use native.Mathlib.Numerals.{add-one}
use mathlib.Core.Path.{◌≡◌, refl, sym, ap, ◌∙◌}
use Rattle.definition.proofs.Texts.{contains_append}
use mathlib.Core.List.{List, [], ◌∷◌, ◌++◌, append-nil}
use mathlib.Core.Bool.{◌||◌, Bool, true, false}
use lib.Dec.{leb, eqb}
use lib.ListN.{length, take, drop, get_or, set, drop_of_length-le}
use lib.Seq.{take-nil, take-suc, drop-cons, append_snoc}
use Rattle.std.proofs.lemmas.List.{take_more_set, take_rest}
use borrow.Author.Tests.{lt-leb, le-leb, eq-eqb, ne_eqb}
use Rattle.format.specs.Entry.{Text}
use Rattle.format.specs.Tape.{is_text, text_width}
use Rattle.definition.specs.Text.{eq_text}
use Rattle.definition.specs.Check.{contains}
use Rattle.tape.specs.Pick.{pick}
use Rattle.tape.specs.Layouts.{code_at, value_at}
use Rattle.nodes.specs.Node.{on_heading, heading_at, name_at, on_value, no_heading, malformed, refusal_of, expect_at}
use Rattle.tape.specs.declared.layout.Layout.{Layout}
use Rattle.tape.specs.declared.layout.Place.{Place}
use Rattle.tape.proofs.Runs.{place}
use Rattle.nodes.specs.declared.Refusal.{Refusal}
use Rattle.nodes.specs.declared.Heading.{Heading}
use Rattle.messages.specs.Reason.{without_message}
use Rattle.messages.specs.declared.Refused.{Refused}
use Rattle.registry.specs.Places.{origin, key_from, key_of, from_key, end_of, cons_if, key_at, rows_from, get_at, and_then_in, check_at, build_from_at, build_at}
use Rattle.nodes.specs.declared.Definition.{Definition}
use Rattle.registry.specs.declared.rows.Row.{Row}

-- what stands behind the end of a table
abbrev pub empty_row : Row
empty_row = record { place = place 0 0; key = 0 }

-- the row at i, and those behind it
pub behind : (rows : List Row) (i : ℕ) → i < length rows → drop i rows ≡ get_or rows i empty_row ∷ drop (i + 1) rows
behind rows i h = rw (add-one i) (drop-cons rows i empty_row h)

-- ------------------------------------------------------------------ keys

-- the code reduces the product and then the sum
wrapped : (x b : ℕ) → (x % 4294967296 + b) % 4294967296 ≡ (x + b) % 4294967296
wrapped x b = omega arith

-- the byte at i, and the rest
module _ (name : Text) (h i : ℕ) {key : ℕ} (inv : key_from h (drop i name) ≡ key) where
  pub key_turn : i < length name → key_from (((h * 16777619) % 4294967296 + get_or name i 0) % 4294967296) (drop (i + 1) name) ≡ key
  unfolding key_from
  key_turn k = rw (wrapped (h * 16777619) (get_or name i 0)) (sym (rw (drop-cons name i 0 k, add-one)) ∙ inv)

  pub key_end : length name ≤ i → h ≡ key
  unfolding key_from
  key_end k = rw (drop_of_length-le name {i = i} k) at inv

-- ------------------------------------------------------------------ the index

module _ (s : List ℕ) (l : Layout) where
  -- one entry of those that are left
  module _ (at text : ℕ) {code value width : ℕ} (h : at < l.entries) (c : code ≡ code_at s l at) (v : value ≡ value_at s l at)
      (w : width ≡ text_width (is_text code) value) where
    here : Row
    here = record { place = place at text; key = key_at s l (place at text) }

    entry_left : rows_from s l (l.entries - at) (place at text)
        ≡ pick (leb (text + width) l.size) (cons_if (eqb code 60) here (rows_from s l (l.entries - (at + 1)) (place (at + 1) (text + width)))) []
    unfolding rows_from here
    entry_left =
        let n : l.entries - at ≡ suc (l.entries - (at + 1)) = omega arith in
        rw (n, ← c, ← v, ← w)

    pub entry_long : l.size - text < width → text ≤ l.size → rows_from s l (l.entries - at) (place at text) ≡ []
    entry_long g k = entry_left ∙ rw (lt-leb (text + width) l.size (omega arith))

    entry_fits : width ≤ l.size - text → text ≤ l.size
        → rows_from s l (l.entries - at) (place at text) ≡ cons_if (eqb code 60) here (rows_from s l (l.entries - (at + 1)) (place (at + 1) (text + width)))
    entry_fits g k = entry_left ∙ rw (le-leb (text + width) l.size (omega arith))

    -- the rows that are written, and what is left of the index
    module _ (rows : List Row) (n room : ℕ) {whole : List Row}
        (inv : take n rows ++ take (room - n) (rows_from s l (l.entries - at) (place at text)) ≡ whole) where
      pub index_long : l.size - text < width → text ≤ l.size → take n rows ≡ whole
      index_long g k =
          sym (append-nil (take n rows)) ∙ ap (λ (rs : List Row). take n rows ++ rs) (sym (ap (take (room - n)) (entry_long g k) ∙ take-nil (room - n))) ∙ inv

      module _ (g : width ≤ l.size - text) (k : text ≤ l.size) where
        -- what is left behind the entry
        rest : List Row
        rest = rows_from s l (l.entries - (at + 1)) (place (at + 1) (text + width))

        goes_on : take n rows ++ take (room - n) (cons_if (eqb code 60) here rest) ≡ whole
        unfolding rest
        goes_on = ap (λ (rs : List Row). take n rows ++ take (room - n) rs) (sym (entry_fits g k)) ∙ inv

        pub index_other : (code ≡ 60 → ⊥)
            → take n rows ++ take (room - n) (rows_from s l (l.entries - (at + 1)) (place (at + 1) (text + width))) ≡ whole
        unfolding rest
        index_other o = rw (ne_eqb code 60 o) at goes_on

        pub index_full : code ≡ 60 → room ≤ n
            → take n rows ++ take (room - n) (rows_from s l (l.entries - (at + 1)) (place (at + 1) (text + width))) ≡ whole
        unfolding rest
        index_full o f =
            let e : room - n ≡ 0 = omega arith in
            ap (λ (m : ℕ). take n rows ++ take m rest) e ∙ sym (ap (λ (m : ℕ). take n rows ++ take m (cons_if (eqb code 60) here rest)) e) ∙ goes_on

        pub index_noted : {key : ℕ} → code ≡ 60 → n < room → n < length rows → key ≡ key_at s l (place at text)
            → take (n + 1) (set rows n (record { place = place at text; key = key }))
            ++ take (room - (n + 1)) (rows_from s l (l.entries - (at + 1)) (place (at + 1) (text + width))) ≡ whole
        unfolding rest here
        index_noted o f fits y =
            let m : room - n ≡ suc (room - (n + 1)) = omega arith in
            let written : take (n + 1) (set rows n here) ≡ take n rows ++ here ∷ [] = take_more_set rows n here fits in
            rw (y, written)
            (append_snoc (take n rows) here (take (room - (n + 1)) rest)
            ∙ (rw (eq-eqb code 60 o, m) at goes_on))

  pub index_done : (p : Place) (rows : List Row) (n room at : ℕ) {whole : List Row} → l.entries ≤ at
      → take n rows ++ take (room - n) (rows_from s l (l.entries - at) p) ≡ whole → take n rows ≡ whole
  unfolding rows_from
  index_done p rows n room at h inv =
      let e : l.entries - at ≡ 0 = omega arith in
      sym (append-nil (take n rows))
      ∙ ap (λ (rs : List Row). take n rows ++ rs) (sym (ap (λ (m : ℕ). take (room - n) (rows_from s l m p)) e ∙ take-nil (room - n)))
      ∙ inv

  pub index_start : (rows : List Row) (room : ℕ)
      → take 0 rows ++ take (room - 0) (rows_from s l (l.entries - 0) origin) ≡ take room (rows_from s l l.entries origin)
  index_start rows room = rw (sub-zero room, sub-zero l.entries)

-- ------------------------------------------------------------------ the definition of a name

-- what `.ok()` leaves of a heading
abbrev heading_or : Heading × Place → Option (Heading × Place) → Heading × Place
heading_or other None = other
heading_or other (Some read) = read

read_ok : {x : Result (Heading × Place) Refusal} {read : Heading × Place} → result_ok x ≡ Some read → x ≡ Ok read
read_ok {x = Ok r} {read} e = ap (λ o. Ok (heading_or read o)) e
read_ok {x = Err f} e = absurd cc

module _ (s : List ℕ) (l : Layout) (name : Text) where
  -- rows with other keys have other names
  from_key_lem : (rs : List Row) → get_at s l (from_key (key_of name) rs) name ≡ get_at s l rs name
  unfolding get_at from_key
  from_key_lem [] = refl
  from_key_lem (r ∷ rs) = go (eqb r.key (key_of name)) refl (from_key_lem rs)
    where
      go : (b : Bool) → eqb r.key (key_of name) ≡ b → get_at s l (from_key (key_of name) rs) name ≡ get_at s l rs name
          → get_at s l (pick b (r ∷ rs) (from_key (key_of name) rs)) name ≡ get_at s l (r ∷ rs) name
      go true t e = refl
      go false t e = let other : get_at s l (r ∷ rs) name ≡ get_at s l rs name = rw t in e ∙ sym other

module _ (s : List ℕ) (l : Layout) (name : Text) (rows : List Row) where
  module _ (i : ℕ) {g : Option Definition} (inv : get_at s l (drop i rows) name ≡ g) where
    pub get_done : length rows ≤ i → None ≡ g
    unfolding get_at
    get_done h = rw (drop_of_length-le rows {i = i} h) at inv

    module _ {key : ℕ} (h : i < length rows) (y : key ≡ key_of name) where
      -- the row at i, and those behind it
      row : Row
      row = get_or rows i empty_row

      by_row : get_at s l (row ∷ drop (i + 1) rows) name ≡ g
      unfolding row
      by_row = rw (behind rows i h) at inv

      pub get_other : ((get_or rows i empty_row).key ≡ key → ⊥) → get_at s l (drop (i + 1) rows) name ≡ g
      unfolding get_at row
      get_other o = rw (← y, ne_eqb (get_or rows i empty_row).key key o) at by_row

      -- a row with the name's key
      module _ {x : Result (Heading × Place) Refusal} (j : (get_or rows i empty_row).key ≡ key) (e : x ≡ heading_at s l (get_or rows i empty_row).place 60) where
        -- by its heading, and then by the rest
        by_heading : Result (Heading × Place) Refusal → Option Definition
        by_heading z =
            on_heading None
            (λ head params. pick (eq_text (name_at s l head.name) name) (Some (record { heading = head; params = params; end = end_of l (drop (i + 1) rows) })) (get_at s l (drop (i + 1) rows) name))
            z

        same_key : by_heading x ≡ g
        unfolding get_at row by_heading
        same_key = rw (← y, eq-eqb (get_or rows i empty_row).key key j, ← e) at by_row

        pub get_unread : {r : Refusal} → x ≡ Err r → None ≡ g
        unfolding by_heading
        get_unread r = rw r at same_key

        module _ {head : Heading} {params : Place} {o : Option (Heading × Place)} (r : o ≡ result_ok x) (found : o ≡ Some (head, params))
            {u : Text} (v : u ≡ name_at s l head.name) where
          by_heading_ok : by_heading (Ok (head, params)) ≡ g
          by_heading_ok = rw (← (read_ok (sym r ∙ found))) same_key

          pub get_found : {last : ℕ} → true ≡ pointwise nat_eq u name → last ≡ end_of l (take (length rows - (i + 1)) (drop (i + 1) rows))
              → Some (record { heading = head; params = params; end = last }) ≡ g
          unfolding by_heading
          get_found t z =
              ap (λ (n : ℕ). Some (record { heading = head; params = params; end = n })) (z ∙ ap (end_of l) (take_rest rows (i + 1)))
              ∙ (rw (← v, ← (equal_texts u name), ← t) at by_heading_ok)

          pub get_next : false ≡ pointwise nat_eq u name → get_at s l (drop (i + 1) rows) name ≡ g
          unfolding by_heading
          get_next t = rw (← v, ← (equal_texts u name), ← t) at by_heading_ok

-- ------------------------------------------------------------------ reserved names and duplicates

or_three : (v w x y : Bool) → (v || (w || (x || y))) ≡ (((v || w) || x) || y)
or_three true w x y = refl
or_three false true x y = refl
or_three false false true y = refl
or_three false false false y = refl

-- whether a name is in one of four lists
pub in_four_lists : (p q r s : List Text) (name : Text)
    → (((contains p name || contains q name) || contains r name) || contains s name) ≡ contains (p ++ (q ++ (r ++ s))) name
in_four_lists p q r s name =
    sym
    (contains_append p (q ++ (r ++ s)) name
    ∙ ap (λ (b : Bool). contains p name || b)
    (contains_append q (r ++ s) name ∙ ap (λ (b : Bool). contains q name || b) (contains_append r s name))
    ∙ or_three (contains p name) (contains q name) (contains r name) (contains s name))

-- a heading that does not stand there is the refusal 2
abbrev fault_of : Result (Heading × Place) Refusal → Refusal
fault_of (Ok r) = malformed
fault_of (Err f) = f

on_value_fault : (o : Option (ℕ × Place)) (k : ℕ → Place → Result (Heading × Place) Refusal) → ((v : ℕ) (q : Place) → fault_of (k v q) ≡ malformed)
    → fault_of (on_value no_heading k o) ≡ malformed
on_value_fault None k h = refl
on_value_fault (Some (v, q)) k h = h v q

heading_fault : (s : List ℕ) (l : Layout) (p : Place) (code : ℕ) → fault_of (heading_at s l p code) ≡ malformed
unfolding heading_at
heading_fault s l p code =
    on_value_fault (expect_at s l p code) _ (λ span name.
    on_value_fault (expect_at s l name 40) _ (λ size list.
    on_value_fault (expect_at s l list 41) _ (λ count next. refl)))

pub heading_refusal : (s : List ℕ) (l : Layout) (p : Place) (code : ℕ) {f : Refusal} → heading_at s l p code ≡ Err f → f ≡ malformed
heading_refusal s l p code e = ap fault_of (sym e) ∙ heading_fault s l p code

pub name_unread : (s : List ℕ) (l : Layout) (seen : List Row) (p : Place) {x : Result (Heading × Place) Refusal} {f : Refusal} → x ≡ heading_at s l p 60
    → x ≡ Err f → Err (without_message f) ≡ check_at s l seen p
unfolding check_at refusal_of
name_unread s l seen p e q = rw (heading_refusal s l p 60 (sym e ∙ q), ← e, q)

-- ------------------------------------------------------------------ the definitions one by one

module _ (s : List ℕ) (l : Layout) (rows : List Row) where
  pub build_start : build_from_at s l (take 0 rows) (drop 0 rows) ≡ build_at s l rows
  unfolding build_at
  build_start = refl

  module _ (i : ℕ) {v : Result Unit Refused} (inv : build_from_at s l (take i rows) (drop i rows) ≡ v) where
    pub build_done : length rows ≤ i → (Ok tt) ≡ v
    unfolding build_from_at
    build_done h = rw (drop_of_length-le rows {i = i} h) at inv

    module _ (h : i < length rows) where
      onward : and_then_in (check_at s l (take i rows) (get_or rows i empty_row).place)
          (build_from_at s l (take (i + 1) rows) (drop (i + 1) rows)) ≡ v
      unfolding build_from_at
      onward =
          let one : take (i + 1) rows ≡ take i rows ++ get_or rows i empty_row ∷ [] = ap (λ (n : ℕ). take n rows) (add-one i) ∙ take-suc rows i empty_row h in
          rw one (rw (behind rows i h) at inv)

      pub build_refused : {r : Refused} → Err r ≡ check_at s l (take i rows) (get_or rows i empty_row).place → Err r ≡ v
      build_refused e = rw (← e) at onward

      pub build_more : Ok tt ≡ check_at s l (take i rows) (get_or rows i empty_row).place
          → build_from_at s l (take (i + 1) rows) (drop (i + 1) rows) ≡ v
      build_more e = rw (← e) at onward
