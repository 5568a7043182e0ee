-- Where a subtree ends: the place behind as many subtrees as are still to come, by a table of what each entry adds to their count.
-- Assumes nothing.
use Rattle.tape.specs.declared.layout.Place.{Place}
use Rattle.std.specs.Prelude.{ℕ, zero, suc, ◌+◌, ◌-◌, List, Bool, eqb, Option, Some, None}
use Rattle.grammar.specs.Counts.{step_in}
use Rattle.tape.specs.Layouts.{code_at, value_at}
use Rattle.tape.specs.Pick.{pick}
use Rattle.tape.specs.declared.layout.Layout.{Layout}

abbrev pub on_counted : Option (ℕ × ℕ × Bool) → (ℕ → ℕ → Bool → Option Place) → Option Place
on_counted None next = None
on_counted (Some (more, width, pairs)) next = next more width pairs

-- with `left` entries from `at` on, and whether the items of the next list are two subtrees each
abbrev pub count_from : List ℕ → List ℕ → Layout → (left due : ℕ) → Bool → (at text : ℕ) → Option Place
count_from g s l zero due pairs at text = pick (eqb due 0) (Some (record { at = at; text = text })) None
count_from g s l (suc left) due pairs at text =
    pick (eqb due 0) (Some (record { at = at; text = text }))
    (on_counted (step_in g left (l.size - text) pairs (code_at s l at) (value_at s l at))
    (λ more width next. count_from g s l left (due - 1 + more) next (at + 1) (text + width)))
