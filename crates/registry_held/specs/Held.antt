-- What a registry holds, what building it answers, and the definition that a name finds in it.
-- Assumes nothing.
use Rattle.tape.specs.declared.header.Fault.{Fault}
use Rattle.std.specs.Prelude.{ℕ, ◌+◌, ◌≡◌, List, [], true, false, eqb, length, Some, None, Result, Ok, Err, Option}
use Rattle.std.proofs.Math.Option.{Option as Maybe, none, some}
use Rattle.format.specs.Entry.{Text, text_of}
use Rattle.format.specs.Ast.{MacroBody, MacroDef}
use Rattle.format.specs.Flat.{flat_params, flat_body}
use Rattle.format.specs.Replace.{replace_body}
use Rattle.format.specs.DeMorgan.{de_morgan}
use Rattle.format.specs.Tape.{Reading, registry_root, read}
use Rattle.format.specs.Stands.{Stands}
use Rattle.definition.specs.Registry.{get}
use Rattle.definition.specs.Answers.{registry_answer}
use Rattle.grammar.specs.Grammar as grammar
use Rattle.tape.specs.Accept.{accept_of}
use Rattle.tape.specs.Layouts.{area_layout}
use Rattle.tape.specs.declared.layout.Layout.{Layout}
use Rattle.tape.specs.declared.layout.Place.{Place}
use Rattle.nodes.specs.Node.{name_at}
use Rattle.nodes.specs.declared.Heading.{Heading}
use Rattle.answer.specs.Matches.{answer_with}
use Rattle.registry.specs.Places.{index_at, get_at}
use Rattle.nodes.specs.declared.Definition.{Definition}
use Rattle.registry_held.specs.declared.Built.{Built}

-- ------------------------------------------------------------------ what it holds

-- the layout of an accepted tape
abbrev pub layout_of : Result Layout Fault → Layout
layout_of (Ok l) = l
layout_of (Err n) = area_layout 0 0 0

-- a registry that passed holds the definitions of its tape, and another none
pub data Holds (s : List ℕ) (b : Built) : List MacroDef → Type 0 where
  of_tape : {defs : List MacroDef} → b.answer.number ≡ 0 → read registry_root s ≡ Reading.accepted defs
      → accept_of s grammar.definitions ≡ Ok b.layout → Holds s b defs
  of_nothing : (b.answer.number ≡ 0 → ⊥) → Holds s b []

-- The answer is that of the operation, and the layout that of the tape. If the number is 0, the registry holds the definitions of its
-- tape.
pub record Builds (s : List ℕ) (m : ℕ) (message : List ℕ) (b : Built) : Type 0 where
  pub answers : answer_with b.answer [] [] message ≡ registry_answer m s
  pub its_layout : b.layout ≡ layout_of (accept_of s grammar.definitions)
  pub holds : b.answer.number ≡ 0 → (defs : List MacroDef) × (read registry_root s ≡ Reading.accepted defs) × Holds s b defs

-- ------------------------------------------------------------------ the definition of a name

-- A head that was found is the definition's: its span, its name, how many parameters it has. They stand behind it, and then the body as it
-- is on the tape, which the definition has rewritten (document 02, point 12).
pub record Describes (s : List ℕ) (l : Layout) (h : Heading) (params : Place) (d : MacroDef) : Type 0 where
  pub its_span : h.span ≡ d.span
  pub its_name : name_at s l h.name ≡ d.name
  pub its_count : h.count ≡ length d.params
  pub its_params : Stands s l.codes l.values l.text params.at params.text (flat_params d.params)
  pub given : MacroBody
  pub is_rewritten : replace_body de_morgan given ≡ d.body
  pub its_body :
      Stands s l.codes l.values l.text (params.at + length (flat_params d.params))
      (params.text + length (text_of (flat_params d.params))) (flat_body given)

unfoldable pub FoundMatches : List ℕ → Layout → Option Definition → Maybe MacroDef → Type 0
FoundMatches s l None none = Unit {0}
FoundMatches s l None (some d) = ⊥
FoundMatches s l (Some found) none = ⊥
FoundMatches s l (Some found) (some d) = Describes s l found.heading found.params d

-- what a name finds by the index of the tape, in a registry that passed; in another it finds nothing
unfoldable pub found_in : List ℕ → Built → Text → Option Definition
found_in s b name = elim (eqb b.answer.number 0) [ true ↦ get_at s b.layout (index_at s b.layout 255) name | false ↦ None ]

-- f is found so, and it is what the definition finds of the name, whatever definitions the registry holds
pub record GetMatches (s : List ℕ) (b : Built) (name : Text) (f : Option Definition) : Type 0 where
  pub by_index : f ≡ found_in s b name
  pub as_defined : (defs : List MacroDef) → Holds s b defs → FoundMatches s b.layout f (get defs name)
