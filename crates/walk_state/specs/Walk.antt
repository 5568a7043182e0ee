-- The state of a walk that writes, and what such a walk came to.
-- Assumes nothing.
use Rattle.std.specs.Prelude.{ℕ}
use Rattle.tape.specs.declared.layout.Place.{Place}
use Rattle.area.specs.declared.Writer.{Writer}
use Rattle.messages.specs.declared.Refused.{Refused as Refusal}

-- the next place of the body or the condition that is walked, the output, and what was charged
pub record State : Type 0 where
  pub place : Place
  pub out : Writer
  pub charged : ℕ

-- the state of a walk; or the first refusal, and what was charged until then
pub data Walk : Type 0 where
  Going : State → Walk
  Refused : Refusal → ℕ → Walk
