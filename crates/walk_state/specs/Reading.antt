-- The answer so far of a walk that only reads: how it goes on, and what stops it.
-- Assumes nothing.
use Rattle.messages.specs.declared.Refused.{Refused}
use Rattle.std.specs.Prelude.{◌≡◌, ℕ, zero, suc, List, Option, Result, Ok, Err}
use Rattle.grammar.specs.Grammar as grammar
use Rattle.nodes.specs.Node.{on_value, on_place, expect_at, past_type_at}
use Rattle.tape.specs.Scan.{skip_at}
use Rattle.tape.specs.declared.layout.Layout.{Layout}
use Rattle.tape.specs.declared.layout.Place.{Place}
use Rattle.nodes.specs.declared.Refusal.{Refusal}
use Rattle.messages.specs.Reason.{refused_at, without_message}
use Rattle.messages.specs.declared.Reason.{Reason}
use Rattle.messages.specs.declared.Reason.TheVariants.{WithoutMessage}

-- goes on at the place, unless there is a refusal
abbrev pub after : (Place → Result Place Refused) → Result Place Refused → Result Place Refused
after f (Ok p) = f p
after f (Err r) = Err r

abbrev pub and_then_in : Result Place Refused → Result Place Refused → Result Place Refused
and_then_in (Ok p) w = w
and_then_in (Err r) w = Err r

-- f along the items of a list
unfoldable pub items_in : ((Result Place Refused) → Result Place Refused) → ℕ → Result Place Refused → Result Place Refused
items_in f zero w = w
items_in f (suc n) w = after (λ p. items_in f n (f (Ok p))) w

-- ------------------------------------------------------------------ refusals

unfoldable pub refused_in : ℕ → Reason → Result Place Refused
refused_in span reason = Err (refused_at span reason)

-- what no accepted tape shows
unfoldable pub without_message_of : Refusal → Result Place Refused
without_message_of f = Err (without_message f)

abbrev pub malformed_in : Result Place Refused
malformed_in = refused_in 0 (WithoutMessage 2)

-- no nesting is left
abbrev pub too_deep_in : Result Place Refused
too_deep_in = refused_in 0 (WithoutMessage 3)

-- ------------------------------------------------------------------ ways past what is not looked at

-- the place behind what was skipped
unfoldable pub passed_in : Option Place → Result Place Refused
passed_in = on_place malformed_in Ok

-- where the left side of a Since ends: where its walk came, or, if that was refused, where a skip comes
unfoldable pub behind_in : List ℕ → Layout → Place → Result Place Refused → Result Place Refused
behind_in s l left (Ok p) = Ok p
behind_in s l left (Err r) = passed_in (skip_at s l left grammar.condition)

-- past the type behind a slot
abbrev pub past_type_in : List ℕ → Layout → Result Place Refused → Result Place Refused
past_type_in s l = after λ p. passed_in (past_type_at s l p)

-- past a field's name
unfoldable pub past_name_in : List ℕ → Layout → Result Place Refused → Result Place Refused
past_name_in s l = after λ p. on_value malformed_in (λ size next. Ok next) (expect_at s l p 40)

-- ------------------------------------------------------------------ lists

-- what calls find along the list at a place: for each f that they agree with, what f finds along it
unfoldable pub Along : List ℕ → Layout → (Place → Result Place Refused → Type 0) → Place → Result Place Refused → Type 0
Along s l P p r =
    (f : Result Place Refused → Result Place Refused) → ((q : Place) (x : Result Place Refused) → P q x → x ≡ f (Ok q))
    → r ≡ on_value malformed_in (λ count first. items_in f count (Ok first)) (expect_at s l p 41)

-- ------------------------------------------------------------------ binders

-- the way past the type behind a slot, where a call has found x
abbrev pub Binds : List ℕ → Layout → (Place → Result Place Refused → Type 0) → Place → Result Place Refused → Type 0
Binds s l P p r = (x : Result Place Refused) × (P p x) × (r ≡ past_type_in s l x)
