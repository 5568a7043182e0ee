-- Each function of C ends in a result or in a refusal of its own table (specs/Ends.antt).
-- Assumes nothing.
use Prim.Native.Nat.{ℕ}
use mathlib.Core.Path.{◌≡◌, sym, subst}
use mathlib.Core.List.{List}
use Rattle.definition.specs.Answers.{Answer, Buffers}
use Rattle.definition.specs.Preview.{Preview, without_result}
use Rattle.definition.specs.Ends.{Nothing, Ends, expansion_numbers}
use Rattle.definition.proofs.Ends.{check_ends, registry_ends, substitute_ends, expand_ends, library_ends, check_at_ends, preview_ends, merge_ends, judge_ends, profile_ends, older_ends, provider_ends, argument_ends, term_ends}
use Rattle.sheet.proofs.Ends.{sheet_open_ends, sheet_next_ends}
use Rattle.neukolja.specs.Ends.{EachEnds, EachCallEnds}

-- what is equal to an answer that ends, ends so too
as_answered : (numbers : List ℕ) (Result : List ℕ → Type 0) (b : Buffers) (a c : Answer) → c ≡ a → Ends numbers Result b a → Ends numbers Result b c
as_answered numbers Result b a c e h = subst (Ends numbers Result b) (sym e) h

as_previewed : (w m : ℕ) (p q : Preview) → q ≡ p → Ends expansion_numbers Nothing (without_result w m) p.answered
    → Ends expansion_numbers Nothing (without_result w m) q.answered
as_previewed w m p q e h = subst (λ (x : Preview). Ends expansion_numbers Nothing (without_result w m) x.answered) (sym e) h

pub each_ends : EachCallEnds
each_ends words result work message =
    record {
      check = λ m definition e. as_answered _ _ _ _ _ e (check_ends m definition);
      registry = λ m tape e. as_answered _ _ _ _ _ e (registry_ends m tape);
      check_library = λ r m tape e. as_answered _ _ _ _ _ e (library_ends r m tape);
      check_at = λ m tape i e. as_answered _ _ _ _ _ e (check_at_ends m tape i);
      merge = λ r m first second e. as_answered _ _ _ _ _ e (merge_ends r m first second);
      substitute = λ b limit file definition call e. as_answered _ _ _ _ _ e (substitute_ends b limit file definition call);
      expand = λ b limit file tape input e. as_answered _ _ _ _ _ e (expand_ends b limit file tape input);
      preview = λ w m limit file tape input e. as_previewed w m _ _ e (preview_ends w m limit file tape input);
      judge = λ b limit file tape input supplied e. as_answered _ _ _ _ _ e (judge_ends b limit file tape input supplied);
      older = λ r tape e. as_answered _ _ _ _ _ e (older_ends r tape);
      profile = λ condition e. as_answered _ _ _ _ _ e (profile_ends condition);
      provider = λ tape e. as_answered _ _ _ _ _ e (provider_ends tape);
      argument_to_term = λ r tape e. as_answered _ _ _ _ _ e (argument_ends r tape);
      term_to_argument = λ r tape e. as_answered _ _ _ _ _ e (term_ends r tape);
      sheet_open = λ m tape sheet e. as_answered _ _ _ _ _ e (sheet_open_ends m tape sheet);
      sheet_next = λ b tape sheet p e. as_answered _ _ _ _ _ e (sheet_next_ends b tape sheet p);
    }
