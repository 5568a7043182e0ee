-- The first broken rule among the entries of a layout: the definition's `profile_from` (definition/specs/Profile.antt), with the spans that
-- it has from the tree taken from the list of what is still to come.
-- Assumes nothing.
use Rattle.std.specs.Prelude.{ℕ, zero, suc, ◌+◌, List, [], ◌∷◌, not, ◌&&◌, leb, ltb, eqb, Option, Some, None}
use Rattle.std.proofs.Math.Option.{none, some}
use Rattle.format.specs.Entry.{entry}
use Rattle.format.specs.Limits.{is_node, weigh}
use Rattle.definition.specs.Outcome.{refusal}
use Rattle.definition.specs.Check.{Verdict}
use Rattle.definition.specs.Answers.{Answer, verdict}
use Rattle.definition.specs.Profile.{within_day, no_buffers}
use Rattle.tape.specs.Layouts.{code_at, value_at, holds}
use Rattle.tape.specs.Pick.{pick}
use Rattle.tape.specs.declared.layout.Layout.{Layout}
use Rattle.answer.specs.Matches.{ended}
use Rattle.profile.specs.Spans.{nearest, spans_after}
use Rattle.profile.specs.declared.around.Head.{Head}
use Rattle.profile.specs.declared.rules.Rule.{Rule}
use Rattle.profile.specs.declared.rules.Rule.TheVariants.{NoAggregate, SixteenNodes, WithinDay}

-- how many arguments a call has whose 11 is entry `at`: the value of its 41, the third entry behind
unfoldable pub args_at : List ℕ → Layout → ℕ → ℕ
args_at s l at = pick (ltb (at + 3) l.entries) (value_at s l (at + 3)) 0

abbrev pub head_at : List ℕ → Layout → ℕ → Head
head_at s l at = record { code = code_at s l at; value = value_at s l at; args = args_at s l at }

-- n entries from entry i on
unfoldable pub heads_at : List ℕ → Layout → ℕ → ℕ → List Head
heads_at s l i zero = []
heads_at s l i (suc n) = head_at s l i ∷ heads_at s l (i + 1) n

-- the rule that an entry breaks, the first of them; `nodes` were met before
unfoldable pub broken_by : (nodes : ℕ) → Head → Option Rule
broken_by nodes e =
    pick (eqb e.code 30) (Some NoAggregate)
    (pick (is_node e.code && leb 16 nodes) (Some SixteenNodes) (pick (not (within_day (entry e.code e.value))) (Some WithinDay) None))

-- the refusal of a broken rule, of which an interval's has a span
unfoldable pub broken_rule : Rule → (spans : List ℕ) → Verdict
broken_rule NoAggregate spans = some (refusal 53 0 [])
broken_rule SixteenNodes spans = some (refusal 54 0 [])
broken_rule WithinDay spans = some (refusal 55 (nearest spans) [])

-- the refusal of the rule, if one is broken, or else what follows
abbrev pub unless_broken : Option Rule → (spans : List ℕ) → Verdict → Verdict
unless_broken None spans v = v
unless_broken (Some rule) spans v = broken_rule rule spans

unfoldable pub profile_heads : (nodes : ℕ) → (spans : List ℕ) → List Head → Verdict
profile_heads nodes spans [] = none
profile_heads nodes spans (e ∷ es) =
    unless_broken (broken_by nodes e) spans (profile_heads (nodes + weigh (is_node e.code)) (spans_after e spans) es)

-- the entries of a layout; one item is to come, the whole, and no condition is around it
abbrev pub profile_all : List ℕ → Layout → Verdict
profile_all s l = profile_heads 0 (0 ∷ []) (heads_at s l 0 l.entries)

-- nothing where the slice does not hold the layout
unfoldable pub profile_in : List ℕ → Layout → Verdict
profile_in s l = pick (holds s l) (profile_all s l) none

-- the answer of a verdict, where there are no buffers
abbrev pub profiled : Verdict → Answer
profiled v = ended no_buffers (verdict v)
