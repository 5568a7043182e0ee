-- The calls of a condition, counted into a registry's counts entry by entry. Where expansion does not look, in fields and in the arrays
-- of operands, no call is counted: such entries are passed over.
-- Assumes nothing.
use Rattle.std.specs.Prelude.{ℕ, zero, suc, ◌+◌, ◌-◌, ◌*◌, min, List, [], ◌∷◌, Bool, false, leb, eqb}
use Rattle.format.specs.Entry.{Text}
use Rattle.definition.specs.Text.{eq_text}
use Rattle.grammar.specs.Grammar as grammar
use Rattle.tape.specs.Pick.{pick}
use Rattle.tape.specs.Layouts.{holds, code_at, value_at, width_at, onward}
use Rattle.tape.specs.Scan.{skip_at}
use Rattle.tape.specs.declared.layout.Layout.{Layout}
use Rattle.tape.specs.declared.layout.Place.{Place}
use Rattle.nodes.specs.Node.{by_code, on_value, on_place, expect_at, named, name_at}
use Rattle.registry.specs.Places.{origin, key_of}
use Rattle.registry.specs.declared.rows.Row.{Row}
use Rattle.definition.specs.Counts.{ceiling}
use Rattle.expand_counts.specs.declared.Passing.{Passing}

-- ------------------------------------------------------------------ a name that is called

-- the name in the entry behind the one at a place, which has no text: a call's, or a definition's
unfoldable pub name_behind_at : List ℕ → Layout → Place → Text
name_behind_at s l p =
    let q : Place = onward p 0 in
    on_value [] (λ size next. name_at s l (named q size)) (expect_at s l q 40)

-- whether a row's definition has the name; where the key is another one, so is the name
unfoldable pub is_named : List ℕ → Layout → Row → Text → Bool
is_named reg d r name = pick (eqb r.key (key_of name)) (eq_text (name_behind_at reg d r.place) name) false

-- a count that has one call more
abbrev pub raised : ℕ → ℕ
raised k = min ceiling (k + 1)

-- one call more for each definition of the name
unfoldable pub raised_at : List ℕ → Layout → List Row → Text → List ℕ → List ℕ
raised_at reg d [] name ks = ks
raised_at reg d (r ∷ rs) name [] = []
raised_at reg d (r ∷ rs) name (k ∷ ks) = pick (is_named reg d r name) (raised k) k ∷ raised_at reg d rs name ks

-- ------------------------------------------------------------------ what is passed over

abbrev pub passing : ℕ → ℕ → Passing
passing over items = record { over = over; items = items }

-- a list's count; an accepted tape has 1,024 entries at the most, and so no list of more items
abbrev pub few : ℕ → ℕ
few value = pick (leb value 1024) value 0

module _ (s : List ℕ) (l : Layout) where
  -- the entries of a term behind its first
  unfoldable pub rest_of_term : Place → ℕ
  rest_of_term p = on_place 0 (λ q. q.at - p.at - 1) (skip_at s l p grammar.term)

  -- how many entries behind this one say nothing: texts, what stands between a node and its first part, the condition of an aggregate
  -- in an item; `items` is 0 for an entry that stands open
  abbrev pub over_rows : Place → (items value : ℕ) → List (ℕ × ℕ)
  over_rows p items value =
      (7, 1)
      ∷ (20, 2)
      ∷ (25, few value)
      ∷ (26, few value)
      ∷ (30, pick (eqb items 0) 0 (rest_of_term p))
      ∷ (34, 2)
      ∷ (35, 1)
      ∷ (41, pick (eqb items 0) 0 (few value))
      ∷ (54, 2)
      ∷ []

  unfoldable pub over_at : Place → (items code value : ℕ) → ℕ
  over_at p items code value = by_code (over_rows p items value) 0 code

-- How many items an entry brings, of which none is looked into: an array's terms, and of a list of fields a name and a term for each. In
-- an item an arithmetic term brings its two. A predicate's are its namespace, its action and its kind.
abbrev pub item_rows : (items value : ℕ) → List (ℕ × ℕ)
item_rows items value =
    (7, 3) ∷ (29, few value) ∷ (31, pick (eqb items 0) 0 2) ∷ (41, pick (eqb items 0) (2 * few value) 0) ∷ []

unfoldable pub brought_by : (items code value : ℕ) → ℕ
brought_by items code value = by_code (item_rows items value) 0 code

-- ------------------------------------------------------------------ entry by entry

module _ (s : List ℕ) (l : Layout) where
  -- what is passed over behind an entry
  unfoldable pub passed_at : Place → Passing → (code value : ℕ) → Passing
  passed_at p w code value =
      pick (eqb w.over 0)
      (passing (over_at s l p w.items code value) (w.items - 1 + brought_by w.items code value))
      (passing (w.over - 1) w.items)

module _ (reg : List ℕ) (d : Layout) (rows : List Row) (s : List ℕ) (l : Layout) where
  -- the counts behind an entry: a 54 that is not passed over is a call
  unfoldable pub counted_at : Place → Passing → (code : ℕ) → List ℕ → List ℕ
  counted_at p w code ks =
      pick (eqb w.over 0) (pick (eqb code 54) (raised_at reg d rows (name_behind_at s l p) ks) ks) ks

  -- n entries from a place on, up to a text that runs past the end
  unfoldable pub count_from : ℕ → Place → Passing → List ℕ → List ℕ
  count_from zero p w ks = ks
  count_from (suc n) p w ks =
      let code = code_at s l p.at in
      pick (leb (p.text + width_at s l p.at) l.size)
      (count_from n (onward p (width_at s l p.at)) (passed_at s l p w code (value_at s l p.at)) (counted_at p w code ks))
      ks

  unfoldable pub counted_in : List ℕ → List ℕ
  counted_in ks = pick (holds s l) (count_from l.entries origin (passing 0 0) ks) ks
