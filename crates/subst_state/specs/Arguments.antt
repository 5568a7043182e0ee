-- The arguments of a call: what the table of them holds, and which one a parameter's name finds.
-- Assumes nothing.
use Rattle.nodes.specs.declared.Refusal.{Refusal}
use Rattle.std.specs.Prelude.{ℕ, zero, suc, ◌+◌, List, [], ◌∷◌, leb, length, slice_set, Option, Some, None, Result, Ok, Err}
use Rattle.grammar.specs.Grammar as grammar
use Rattle.definition.specs.Text.{eq_text}
use Rattle.tape.specs.Pick.{pick}
use Rattle.tape.specs.Layouts.{size_between}
use Rattle.tape.specs.Scan.{skip_at}
use Rattle.nodes.specs.Node.{on_entry, on_place, entry_at, argument_at, name_at}
use Rattle.tape.specs.declared.layout.Layout.{Layout}
use Rattle.tape.specs.declared.layout.Place.{Place}
use Rattle.nodes.specs.declared.Name.{Name}
use Rattle.nodes.specs.declared.ArgNode.{ArgNode}
use Rattle.nodes.specs.declared.ArgNode.TheVariants as kind
use Rattle.nodes.specs.Node.{param_at}
use Rattle.subst_state.specs.declared.maps.Argument.{Argument}
use Rattle.subst_state.specs.Maps.{SubstMaps}

-- ------------------------------------------------------------------ cases

-- what was found, or else `none`
abbrev pub on_found : {A : Type 0} → A → (Argument → A) → Option Argument → A
on_found none f None = none
on_found none f (Some a) = f a

abbrev pub on_argument : {A : Type 0} → A → (ArgNode → Place → A) → Result (ArgNode × Place) Refusal → A
on_argument none f (Ok (k, next)) = f k next
on_argument none f (Err r) = none

abbrev pub on_param : {A : Type 0} → A → (Name → Place → A) → Option (Name × Place) → A
on_param none f None = none
on_param none f (Some (name, next)) = f name next

-- ------------------------------------------------------------------ the table

-- the sort of what an argument's first entry announces
abbrev pub sort_of : ArgNode → ℕ
sort_of kind.Condition = grammar.condition
sort_of kind.Term = grammar.term
sort_of kind.Within = grammar.interval

-- the argument whose first entry stands at a place: where it starts and ends, the code of its root, its size
unfoldable pub measure_at : List ℕ → Layout → Place → Option Argument
measure_at s l p =
    on_argument None
    (λ k from.
    on_entry None
    (λ root value next.
    on_place None
    (λ to. Some (record { from = from; to = to; root = root; size = size_between s l from.at to.at }))
    (skip_at s l from (sort_of k)))
    (entry_at s l from))
    (argument_at s l p)

-- the n arguments from a place on, written from index k on, as far as the table reaches
unfoldable pub table_from : List ℕ → Layout → ℕ → Place → ℕ → List Argument → List Argument
table_from s l zero p k table = table
table_from s l (suc n) p k table =
    pick (leb (k + 1) (length table))
    (on_found table (λ a. table_from s l n a.to (k + 1) (slice_set table k a)) (measure_at s l p))
    table

-- ------------------------------------------------------------------ a search

-- the argument at index i
unfoldable pub argument_in : List Argument → ℕ → Option Argument
argument_in [] i = None
argument_in (a ∷ table) zero = Some a
argument_in (a ∷ table) (suc i) = argument_in table i

-- the argument of the last of n parameters, from a place and from row i on, that has the name; `other` where there is none
unfoldable pub search_from : List ℕ → Layout → List Argument → Name → ℕ → Place → ℕ → Option Argument → Option Argument
search_from s l table name zero p i other = other
search_from s l table name (suc n) p i other =
    on_param other
    (λ param next.
    search_from s l table name n next (i + 1)
    (pick (eq_text (name_at s l param) (name_at s l name)) (argument_in table i) other))
    (param_at s l p)

-- the definition's tape, the table, and the name of a `?`
unfoldable pub arg_for : List ℕ → List Argument → SubstMaps → Name → Option Argument
arg_for def table m name = search_from def m.definition table name m.count m.params 0 None
