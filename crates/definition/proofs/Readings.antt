-- What holds of an outcome that begins with the reading of a tape: of 2 and of 3, and of what is made of the tree that was read.
-- Assumes nothing.
use mathlib.Core.Path.{◌≡◌, refl}
use Rattle.format.specs.Tape.{Reading}
use Rattle.definition.specs.Outcome.{Outcome}
use Rattle.definition.specs.Answers.{number_alone, reading}

pub of_reading : {A B : Type 0} (P : Outcome B → Type 0) (o : Reading A) (k : A → Outcome B) → P (number_alone 2) → P (number_alone 3)
    → ((a : A) → o ≡ Reading.accepted a → P (k a)) → P (reading o k)
unfolding reading
of_reading P Reading.malformed k p q f = p
of_reading P Reading.too_large k p q f = q
of_reading P (Reading.accepted a) k p q f = f a refl
