-- Two definitions by the places where they stand on two tapes: whether their entries agree in everything but spans.
-- Assumes nothing.
use Rattle.std.specs.Prelude.{ℕ, zero, suc, ◌-◌, List, Bool, true, false, ◌&&◌, eqb, Option, Some, None}
use Rattle.grammar.specs.Grammar as grammar
use Rattle.format.specs.Entry.{Text}
use Rattle.format.specs.Tape.{is_text, text_width}
use Rattle.definition.specs.Text.{eq_text}
use Rattle.definition.specs.Merge.{is_spanned, unless_span}
use Rattle.tape.specs.Pick.{pick}
use Rattle.tape.specs.Scan.{skip_at}
use Rattle.nodes.specs.Node.{on_entry, on_place, on_heading, entry_at, heading_at, named, name_at}
use Rattle.registry.specs.Places.{get_at}
use Rattle.nodes.specs.declared.Definition.{Definition}
use Rattle.registry.specs.declared.rows.Row.{Row}
use Rattle.tape.specs.declared.layout.Layout.{Layout}
use Rattle.tape.specs.declared.layout.Place.{Place}
use Rattle.nodes.specs.declared.Heading.{Heading}
use Rattle.merge.specs.declared.agree.Compared.{Compared}
use Rattle.merge.specs.declared.agree.Compared.TheVariants.{New, Known, Differs}

-- ------------------------------------------------------------------ one entry

-- one code and, with 0 for a span, one value
unfoldable pub same_head : (code value other count : ℕ) → Bool
same_head code value other count = eqb code other && eqb (unless_span (is_spanned code) value) (unless_span (is_spanned other) count)

-- the text of an entry at a place
unfoldable pub text_at : List ℕ → Layout → Place → (code value : ℕ) → Text
text_at s l p code value = name_at s l (named p (text_width (is_text code) value))

-- two entries, with the places behind them
unfoldable pub alike_at : List ℕ → Layout → Place → List ℕ → Layout → Place → Option (Place × Place)
alike_at s d p t e q =
    on_entry None
    (λ code value next.
    on_entry None
    (λ other count behind.
    pick (same_head code value other count) (pick (eq_text (text_at s d p code value) (text_at t e q other count)) (Some (next, behind)) None) None)
    (entry_at t e q))
    (entry_at s d p)

-- ------------------------------------------------------------------ a run of entries, and a definition

abbrev pub on_alike : {A : Type 0} → A → (Place → Place → A) → Option (Place × Place) → A
on_alike none f (Some (next, behind)) = f next behind
on_alike none f None = none

unfoldable pub same_from : List ℕ → Layout → List ℕ → Layout → ℕ → Place → Place → Bool
same_from s d t e zero p q = true
same_from s d t e (suc n) p q = on_alike false (same_from s d t e n) (alike_at s d p t e q)

-- what stands behind two heads of one name, up to where the definitions end
unfoldable pub agree_at : List ℕ → Layout → Definition → List ℕ → Layout → Definition → Bool
agree_at s d f t e g =
    pick (eqb f.heading.count g.heading.count)
    (pick (eqb (f.end - f.params.at) (g.end - g.params.at)) (same_from s d t e (f.end - f.params.at) f.params g.params) false) false

-- what was found on the first tape, against the definition of the second whose head is h, and which ends at `next`
abbrev pub against_found : List ℕ → Layout → List ℕ → Layout → Heading → Place → Place → Option Definition → Compared
against_found s d t e h params next None = New next
against_found s d t e h params next (Some found) =
    pick (agree_at s d found t e (record { heading = h; params = params; end = next.at })) (Known next) (Differs h.span)

unfoldable pub compare_at : List ℕ → Layout → List Row → List ℕ → Layout → Place → Compared
compare_at s d rows t e p =
    on_heading (Differs 0)
    (λ h params.
    on_place (Differs 0) (λ next. against_found s d t e h params next (get_at s d rows (name_at t e h.name))) (skip_at t e p grammar.definition))
    (heading_at t e p 60)
