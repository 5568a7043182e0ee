-- The check of the definition that stands at a place of a tape.
-- Assumes nothing.
use Rattle.nodes.specs.declared.Refusal.{Refusal}
use Rattle.messages.specs.declared.Refused.{Refused}
use Rattle.std.specs.Prelude.{ℕ, List, Result, Ok, Err}
use Rattle.nodes.specs.Node.{on_place, on_heading, heading_at, past_params_at, body_at}
use Rattle.tape.specs.declared.layout.Layout.{Layout}
use Rattle.tape.specs.declared.layout.Place.{Place}
use Rattle.nodes.specs.declared.BodyNode.{BodyNode}
use Rattle.nodes.specs.declared.BodyNode.TheVariants as body
use Rattle.check_parts.specs.Names.{Declaration}
use Rattle.walk_state.specs.Reading.{without_message_of, malformed_in}
use Rattle.check_walk.specs.Walk.{walkers}

abbrev pub declaring : Layout → Place → ℕ → Declaration
declaring l params count = record { layout = l; params = record { place = params; count = count } }

module _ (s : List ℕ) where
  -- a Cedar body passes unread; a value body's terms have the span 0..0
  unfoldable pub body_in : Declaration → BodyNode → Place → Result Place Refused
  body_in d body.Cedar next = Ok next
  body_in d body.Condition next = (walkers s d 64).condition (Ok next)
  body_in d body.Value next = (walkers s d 64).term 0 (Ok next)

  abbrev pub on_body : Declaration → Result (BodyNode × Place) Refusal → Result Place Refused
  on_body d (Ok (node, next)) = body_in d node next
  on_body d (Err f) = without_message_of f

  unfoldable pub def_in : Layout → Place → Result Place Refused
  def_in l p =
      on_heading malformed_in
      (λ heading params.
      on_place malformed_in (λ next. on_body (declaring l params heading.count) (body_at s l next))
      (past_params_at s l params heading.count))
      (heading_at s l p 60)

abbrev pub verdict_of : Result Place Refused → Result Unit Refused
verdict_of (Ok p) = (Ok tt)
verdict_of (Err r) = Err r
