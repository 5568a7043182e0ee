-- What a registry holds that was built of a tape, and what a name finds in it.
-- Assumes nothing.
use Rattle.tape.specs.declared.header.Fault.{Fault}
use Rattle.std.proofs.Common.{Option, None, Result, Ok}
use Prim.Native.Nat.{ℕ}
use native.Mathlib.Omega.{arith}
use mathlib.Core.Path.{◌≡◌, refl, sym, subst, ap, ◌∙◌}
use mathlib.Core.List.{List, [], ◌∷◌}
use mathlib.Core.Bool.{Bool, true, false}
use mathlib.Core.Option.{some}
use lib.Dec.{leb}
use borrow.Author.Tests.{eq-eqb, ne_eqb}
use Rattle.format.specs.Entry.{Text}
use Rattle.format.specs.Ast.{MacroDef}
use Rattle.format.specs.Flat.{flat_params}
use Rattle.format.specs.Replace.{replace_def, replace_defs}
use Rattle.format.specs.DeMorgan.{de_morgan}
use Rattle.format.specs.Rewritten.{weighted, map_reading}
use Rattle.format.specs.Tape.{Reading, registry_root, accept, read, rewritten, Bytes}
use Rattle.format.proofs.Exact.{lawful_registry}
use Rattle.format.proofs.Rewritten.{rewrites_registry, read_as}
use Rattle.definition.specs.Text.{eq_text}
use Rattle.definition.specs.Outcome.{open_outcome}
use Rattle.definition.specs.Registry.{get, build}
use Rattle.definition.specs.Answers.{Answer, answer, message_alone, number_alone, reading, verdict, registry_answer, open_answers}
use Rattle.grammar.specs.Grammar as grammar
use Rattle.tape.specs.Accept.{accept_of}
use Rattle.tape.specs.declared.layout.Layout.{Layout}
use Rattle.tape.specs.declared.layout.Place.{Place}
use Rattle.tape.proofs.Acceptance.{Answers, answers_2, answers_3, answers_tape, answers}
use Rattle.tape.proofs.Located.{past_place, accepted_alone}
use Rattle.tape.proofs.Roots.{registry_root_lem, accepted_root}
use Rattle.answer.specs.Matches.{answer_with}
use Rattle.registry.specs.Places.{index_at, get_at}
use Rattle.nodes.specs.declared.Definition.{Definition}
use Rattle.nodes.specs.declared.Heading.{Heading}
use Rattle.registry.proofs.Standing.{Defined, Finds, finds_nothing, finds, get_finds, indexed_registry}
use Rattle.registry_held.specs.Held.{layout_of, Holds, of_tape, of_nothing, Builds, Describes, FoundMatches, found_in, GetMatches}
use Rattle.registry_held.specs.declared.Built.{Built}

-- ------------------------------------------------------------------ building

-- a registry of number 0 was read
pub was_read : (m : ℕ) (s : List ℕ) → (registry_answer m s).number ≡ 0 → (defs : List MacroDef) × (read registry_root s ≡ Reading.accepted defs)
unfolding registry_answer open_answers open_outcome
was_read m s e = go (leb 2048 m) (read registry_root s) refl e
  where
    tape : Unit {0} → List ℕ
    tape u = []

    go : (b : Bool) (r : Reading (List MacroDef)) → read registry_root s ≡ r
        → (answer tape (message_alone m) (elim b [ true ↦ reading r (λ defs. verdict (build defs)) | false ↦ number_alone 1 ])).number ≡ 0
        → (defs : List MacroDef) × (read registry_root s ≡ Reading.accepted defs)
    go false r q e = absurd (omega arith)
    go true Reading.malformed q e = absurd (omega arith)
    go true Reading.too_large q e = absurd (omega arith)
    go true (Reading.accepted defs) q e = (defs, q)

-- what is read is the rewriting of what is accepted
as_accepted : (s : List ℕ) → Bytes s → read registry_root s ≡ map_reading (rewritten registry_root) (accept (weighted registry_root) s)
as_accepted s bytes = (read_as registry_root rewrites_registry lawful_registry s bytes).one_scan

-- where a tape was read, its acceptance has its layout
opened_read : (s : List ℕ) → Bytes s → {defs : List MacroDef} → read registry_root s ≡ Reading.accepted defs
    → accept_of s grammar.definitions ≡ Ok (layout_of (accept_of s grammar.definitions))
unfolding map_reading
opened_read s bytes {defs} e = go (answers registry_root_lem s) (sym (as_accepted s bytes) ∙ e)
  where
    go : {x : Result Layout Fault} {y : Reading (List MacroDef)} → Answers (weighted registry_root) s x y → map_reading (rewritten registry_root) y ≡ Reading.accepted defs
        → x ≡ Ok (layout_of x)
    go answers_2 e = absurd (let z : ◌≡◌ {A = ℕ} 0 1 = cc in omega arith)
    go answers_3 e = absurd (let z : ◌≡◌ {A = ℕ} 0 1 = cc in omega arith)
    go (answers_tape h p) e = refl

pub builds : (s : List ℕ) (m : ℕ) (message : List ℕ) (b : Built) → Bytes s → answer_with b.answer [] [] message ≡ registry_answer m s
    → b.layout ≡ layout_of (accept_of s grammar.definitions) → Builds s m message b
builds s m message b bytes e q =
    record {
      answers = e;
      its_layout = q;
      holds = λ z.
          let x = was_read m s (sym (ap (λ (a : Answer). a.number) e) ∙ z) in
          (x.0, x.1, of_tape z x.1 (opened_read s bytes x.1 ∙ ap Ok (sym q)));
    }

-- ------------------------------------------------------------------ a name

module _ {s : List ℕ} {l : Layout} where
  described : {h : Heading} {params : Place} (d : MacroDef) → Defined s l h params d → Describes s l h params (replace_def de_morgan d)
  unfolding replace_def
  described {params = params} d h =
      record {
        its_span = h.its_span;
        its_name = h.spelled;
        its_count = h.its_count;
        its_params = h.params_stand.run.stands;
        given = d.body;
        is_rewritten = refl;
        its_body = rw (past_place (flat_params d.params) params) at h.body_stands.run.stands;
      }

  -- a name finds the rewriting of the definition that it finds on the tape
  found_matches : (ds : List MacroDef) (name : Text) {f : Option Definition} → Finds s l f (get ds name) → FoundMatches s l f (get (replace_defs de_morgan ds) name)
  unfolding FoundMatches get replace_defs replace_def
  found_matches [] name finds_nothing = tt
  found_matches (d ∷ ds) name h = go (eq_text d.name name) (λ k. found_matches ds name k) h
    where
      go : {f : Option Definition} (b : Bool) → (Finds s l f (get ds name) → FoundMatches s l f (get (replace_defs de_morgan ds) name))
          → Finds s l f (elim b [ true ↦ some d | false ↦ get ds name ])
          → FoundMatches s l f (elim b [ true ↦ some (replace_def de_morgan d) | false ↦ get (replace_defs de_morgan ds) name ])
      go true k (finds h) = described d h
      go false k h = k h

-- a registry that did not pass holds nothing
pub nothing_found : (s name : List ℕ) (b : Built) → (b.answer.number ≡ 0 → ⊥) → GetMatches s b name None
unfolding found_in FoundMatches get
nothing_found s name b n = record { by_index = rw (ne_eqb b.answer.number 0 n, found_in) refl; as_defined = go }
  where
    go : (defs : List MacroDef) → Holds s b defs → FoundMatches s b.layout None (get defs name)
    go defs (of_tape z e a) = absurd (n z)
    go defs (of_nothing h) = tt

pub name_found : (s name : List ℕ) (b : Built) {f : Option Definition} → Bytes s → b.answer.number ≡ 0
    → f ≡ get_at s b.layout (index_at s b.layout 255) name
    → GetMatches s b name f
unfolding found_in registry_root map_reading
name_found s name b {f} bytes z q = record { by_index = rw (eq-eqb b.answer.number 0 z, found_in) q; as_defined = go }
  where
    go : (defs : List MacroDef) → Holds s b defs → FoundMatches s b.layout f (get defs name)
    go defs (of_nothing h) = absurd (h z)
    go defs (of_tape n e a) =
        let x = accepted_root registry_root_lem s bytes b.layout a in
        let stands = accepted_alone registry_root_lem rewrites_registry x.1 in
        let read_once : Reading.accepted (replace_defs de_morgan x.0) ≡ Reading.accepted defs =
        sym (as_accepted s bytes ∙ ap (map_reading (rewritten registry_root)) x.1.reading) ∙ e in
        let same : replace_defs de_morgan x.0 ≡ defs = cc in
        rw q (subst (λ (ds : List MacroDef). FoundMatches s b.layout (get_at s b.layout (index_at s b.layout 255) name) (get ds name)) same
        (found_matches x.0 name (get_finds (indexed_registry x.0 stands) name)))
