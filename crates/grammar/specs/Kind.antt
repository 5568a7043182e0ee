-- What the value of an entry is, by its code.
-- Assumes nothing.
use Rattle.std.specs.Prelude.{ℕ, [], ◌∷◌, Bool, ◌&&◌, ◌||◌, leb}
use Rattle.format.specs.Macro.{is_code}
use Rattle.format.specs.Tape.{is_text}
use Rattle.grammar.specs.Pick.{pick}
use Rattle.grammar.specs.declared.kind.ValueKind.{ValueKind}
use Rattle.grammar.specs.declared.kind.ValueKind.TheVariants.{Text, Span, Count, Plain}

-- "S": conditions, aggregates, 42, calls, definitions and provider calls
unfoldable pub is_span : ℕ → Bool
unfolding is_code
is_span c = leb 1 c && leb c 13 || leb 34 c && leb c 36 || is_code (42 ∷ 54 ∷ 60 ∷ 70 ∷ []) c

-- how many come behind it
unfoldable pub is_count : ℕ → Bool
unfolding is_code
is_count c = is_code (25 ∷ 26 ∷ 29 ∷ 41 ∷ 47 ∷ 71 ∷ 76 ∷ []) c

unfoldable pub kind_of : ℕ → ValueKind
kind_of c = pick (is_text c) Text (pick (is_span c) Span (pick (is_count c) Count Plain))
