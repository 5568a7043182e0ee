-- Provider tapes (document 02, point 11): their acceptance, and lone arguments turned into terms and back. What is promised of them
-- stands in ProviderPromises.
-- Assumes nothing.
use Rattle.std.specs.Prelude.{ℕ, List, [], true, false, leb}
use Rattle.std.proofs.Math.Option.{Option, none, some}
use Rattle.format.specs.Entry.{Entry, encode}
use Rattle.format.specs.Ast.{Term, Terms}
use Rattle.format.specs.Flat.{flat_term}
use Rattle.format.specs.Provider.{Arg, Args, flat_argument}
use Rattle.format.specs.Tape.{Reading, provider_root, argument_root, term_root, accept, read}
use Rattle.definition.specs.Outcome.{Outcome}
use Rattle.definition.specs.Answers.{Answer, answer, number_alone, reading}
use Rattle.definition.specs.Older.{result_alone}

-- ------------------------------------------------------------------ on trees

unfoldable pub turn : {A B : Type 0} → (A → B) → Option A → Option B
turn f none = none
turn f (some a) = some (f a)

unfoldable pub turn_both : {A B C : Type 0} → (A → B → C) → Option A → Option B → Option C
turn_both f none o = none
turn_both f (some a) o = turn (f a) o

-- "A lone argument with no field anywhere in it can be turned into a term, a set becoming an array"
unfoldable mutual
  pub argument_to_term : Arg → Option Term
  argument_to_term (Arg.Field path) = none
  argument_to_term (Arg.String t) = some (Term.String t)
  argument_to_term (Arg.Integer n) = some (Term.Integer n)
  argument_to_term (Arg.Decimal t) = some (Term.Decimal t)
  argument_to_term (Arg.Bool b) = some (Term.Bool b)
  argument_to_term (Arg.Set items) = turn Term.Array (arguments_to_terms items)

  pub arguments_to_terms : Args → Option Terms
  arguments_to_terms Args.no_args = some Terms.no_terms
  arguments_to_terms (Args.cons_arg a rest) = turn_both Terms.cons_term (argument_to_term a) (arguments_to_terms rest)

-- "and such a term turned back"
unfoldable mutual
  pub term_to_argument : Term → Option Arg
  term_to_argument (Term.Integer n) = some (Arg.Integer n)
  term_to_argument (Term.Decimal t) = some (Arg.Decimal t)
  term_to_argument (Term.String t) = some (Arg.String t)
  term_to_argument (Term.Bool b) = some (Arg.Bool b)
  term_to_argument (Term.Array ts) = turn Arg.Set (terms_to_arguments ts)
  term_to_argument (Term.Entity ty id) = none
  term_to_argument (Term.ContextField path) = none
  term_to_argument (Term.ScopeField path) = none
  term_to_argument (Term.Var n) = none
  term_to_argument Term.Wildcard = none
  term_to_argument (Term.Agg a) = none
  term_to_argument (Term.Arith op l r) = none
  term_to_argument (Term.ParamRef n) = none
  term_to_argument (Term.BinderRef n) = none

  pub terms_to_arguments : Terms → Option Args
  terms_to_arguments Terms.no_terms = some Args.no_args
  terms_to_arguments (Terms.cons_term t ts) = turn_both Args.cons_arg (term_to_argument t) (terms_to_arguments ts)

-- ------------------------------------------------------------------ the answers

-- "Acceptance of such a tape, an operation without buffers, gives 0, 2 or 3."
unfoldable pub provider_answer : List ℕ → Answer
provider_answer tape =
    answer (λ (u : Unit {0}). []) (result_alone 0) (reading (accept provider_root tape) λ p. Outcome.done tt 0)

-- what was turned, or the number, "with 0..0 after 3"
unfoldable pub turned : {A : Type 0} → ℕ → Option A → Outcome A
turned number none = number_alone number
turned number (some a) = Outcome.done a 0

-- What is read from a tape, turned into something that is spelled so. A result below 12,296 bytes is 1.
unfoldable pub turning_answer : {A B : Type 0} → (List ℕ → Reading A) → (A → Option B) → (B → List Entry) → ℕ → ℕ → List ℕ → Answer
turning_answer taken f flat number r tape =
    answer (λ b. encode (flat b)) (result_alone r)
    (elim (leb 12296 r) [ true ↦ reading (taken tape) (λ a. turned number (f a)) | false ↦ number_alone 1 ])

-- "56 for a field anywhere in an argument that is to become a term"
unfoldable pub argument_to_term_answer : (result_length : ℕ) → List ℕ → Answer
argument_to_term_answer = turning_answer (accept argument_root) argument_to_term flat_term 56

-- The term is one of 01's tapes, and so rewritten (point 12). "58 for a term to be turned back that no argument becomes"
unfoldable pub term_to_argument_answer : (result_length : ℕ) → List ℕ → Answer
term_to_argument_answer = turning_answer (read term_root) term_to_argument flat_argument 58

-- Whoever unfolds this unfolds every definition of this file.
unfoldable pub open_provider : Unit {0}
unfolding
    turn turn_both argument_to_term term_to_argument provider_answer turned turning_answer argument_to_term_answer
    term_to_argument_answer
open_provider = tt
