-- Substitution and expansion bring nothing new: what holds of every code and text of the definitions and of the input holds of the
-- result, if it is closed. The walks of SaidSubstitute and SaidExpand, with no rule but that.
-- Assumes nothing.
use Prim.Native.Nat.{ℕ}
use mathlib.Core.Path.{◌≡◌}
use mathlib.Core.List.{List, [], ◌∷◌}
use mathlib.Core.Bool.{false}
use Rattle.format.specs.Entry.{Entry}
use Rattle.format.specs.Ast.{Condition, Call, Tree, MacroDef}
use Rattle.format.specs.Flat.{flat_condition, flat_call, flat_tree, flat_def}
use Rattle.format.specs.Limits.{too_large_tree}
use Rattle.format.proofs.All.{All, all_nil, all_cons, all_map}
use Rattle.definition.specs.Outcome.{Outcome}
use Rattle.definition.specs.Substitute.{substitute}
use Rattle.definition.specs.Expand.{expand}
use Rattle.definition.proofs.Good.{Good, good_done, good_refused}
use Rattle.definition.proofs.Verdicts.{Any, all_any}
use Rattle.definition.specs.Ends.{substitution_numbers, expansion_numbers}
use Rattle.definition.proofs.Rules.{Closed, closed_texts, in_01, includes, Includes, Rules, Any-number, Unasked, AnswersRefusal, Known, Fits, Bears, rules_of, known_each, bears, refuses_build}
use Rattle.definition.proofs.SaidSubstitute.{said_substitute}
use Rattle.definition.proofs.SaidExpand.{said_expand}

module _ {B I M : Entry → Type 0} (limit file : ℕ) (closed : Closed Any B I M file) where
  pub substitute_bears : (def : MacroDef) (call : Call) → All M (flat_def def) → All B (flat_def def) → All M (flat_call call) → All I (flat_call call)
      → Bears M flat_tree (substitute limit file def call)
  substitute_bears def call d b c i = bears M (said_substitute (rules_of (includes in_01 substitution_numbers tt) limit closed) def (known_each M B d b) call (known_each M I c i))

  pub expand_bears : (defs : List MacroDef) → All (λ (d : MacroDef). All M (flat_def d) × All B (flat_def d)) defs
      → (c : Condition) → All M (flat_condition c) → All I (flat_condition c) → Bears M flat_tree (expand limit file defs c)
  expand_bears defs d c k i =
      bears M
      (said_expand defs limit file (rules_of (includes in_01 substitution_numbers tt) limit closed) (includes in_01 expansion_numbers tt) (all_map (λ x h. known_each M B h.0 h.1) d) (refuses_build (includes in_01 (10 ∷ 11 ∷ []) tt) defs) c (known_each M I k i))

pub all_unasked : (es : List Entry) → All Unasked es
all_unasked [] = all_nil
all_unasked (e ∷ es) = all_cons tt (all_unasked es)

-- ------------------------------------------------------------------ a result is never too large

-- no rule at all
pub unasked : {numbers : List ℕ} → Includes numbers substitution_numbers → (limit file : ℕ)
    → Rules numbers Any Unasked Unasked Unasked Any Any-number Any-number limit file
unasked within limit file = rules_of within limit (closed_texts Any (λ t k start. tt))

pub anything : (es : List Entry) → All (Known Any Unasked Any-number Unasked) es
anything es = known_each Unasked Unasked (all_unasked es) (all_unasked es)

abbrev pub Small : Outcome Tree → Type 0
Small o = Good (AnswersRefusal in_01) (λ t n. too_large_tree t ≡ false) o

small : {o : Outcome Tree} → Fits in_01 Any Unasked Any-number (λ t. t) o → Small o
small (good_done h) = good_done h.2
small (good_refused h) = good_refused h.0.1

pub expand_small : (limit file : ℕ) (defs : List MacroDef) (c : Condition) → Small (expand limit file defs c)
expand_small limit file defs c =
    small (said_expand defs limit file (unasked (includes in_01 substitution_numbers tt) limit file) (includes in_01 expansion_numbers tt) (all_map (λ d h. anything (flat_def d)) (all_any defs)) (refuses_build (includes in_01 (10 ∷ 11 ∷ []) tt) defs) c (anything _))
