-- Document 02's point 8, of the operations: specs/Weeks.antt. Borne has what is kept, SameVerdicts the check and the registry,
-- ExchangedSubstitute and ExchangedExpand the two walks.
-- Assumes nothing.
use Prim.Native.Nat.{ℕ}
use mathlib.Core.Path.{◌≡◌, refl, ap, subst}
use mathlib.Core.List.Memᴰ
use mathlib.Core.List.{List, ◌++◌}
use lib.Dec.{T}
use Rattle.format.specs.Entry.{Text, Entry}
use Rattle.format.specs.Ast.{WithinSpec, Call, Tree, args_of}
use Rattle.format.specs.Flat.{flat_condition, flat_call, flat_args, flat_tree, flat_def, flat_registry}
use Rattle.format.specs.Names.{◌∈◌}
use Rattle.format.proofs.All.{All, all_cons, all_tail, all_map, of_all}
use Rattle.definition.specs.Outcome.{Outcome}
use Rattle.definition.specs.Check.{check_temporal_condition_body, check_within_in_body}
use Rattle.definition.specs.Weeks.{is_interval, KeepsIntervals, SubstituteKeepsIntervals, ExpandKeepsIntervals, exchanged_within, exchanged, CheckExchanged, BuildExchanged, map_outcome, SubstituteExchanged, ExpandExchanged}
use Rattle.definition.proofs.Good.{of_done}
use Rattle.definition.proofs.Lookup.{each_def}
use Rattle.definition.proofs.Verdicts.{Any}
use Rattle.definition.proofs.Rules.{Closed, Unasked, Bears}
use Rattle.definition.proofs.Borne.{substitute_bears, expand_bears, all_unasked}
use Rattle.definition.proofs.Generated.{all_in}
use Rattle.definition.proofs.SameVerdicts.{Unseen, check_unseen, build_unseen}
use Rattle.definition.proofs.ExchangedSubstitute.{Mapped, mapped, mapped_refused, both_substitute}
use Rattle.definition.proofs.ExchangedExpand.{both_expand}

-- ------------------------------------------------------------------ "code and amount kept"

-- an interval's entry is one of those given
abbrev Kept : List Entry → Entry → Type 0
Kept given e = T (is_interval e.code) → e ∈ given

-- no entry that is made is an interval's
closed : (given : List Entry) (file : ℕ) → Closed Any Unasked Unasked (Kept given) file
unfolding is_interval
closed given file =
    record {
      made_term = λ t k m b span i n. absurd n;
      made_slot = λ t k m b span i n. absurd n;
      named_slot = λ t m n. absurd n;
      call_term = λ m n. absurd n;
      listed = λ k l m n. absurd n;
      arrayed = λ k l m n. absurd n;
    }

keeps : (given : List Entry) {o : Outcome Tree} → Bears (Kept given) flat_tree o → KeepsIntervals given o
keeps given h t charged q = of_all (of_done (subst (λ (o : Outcome Tree). Bears (Kept given) flat_tree o) q h))

-- what is given first, and what is given after it
kept_first : (es fs : List Entry) → All (Kept (es ++ fs)) es
kept_first es fs = all_map (λ e m i. Memᴰ.append_left fs m) (all_in es)

kept_second : (es fs : List Entry) → All (Kept (es ++ fs)) fs
kept_second es fs = all_map (λ e m i. Memᴰ.append_right es m) (all_in fs)

-- a call's own three entries are no intervals
kept_call : (es : List Entry) (call : Call) → All (Kept (es ++ flat_args (args_of call))) (flat_call call)
unfolding flat_call args_of is_interval
kept_call es (Call.MacroCall s n args) =
    all_cons (λ i. absurd i) (all_cons (λ i. absurd i) (all_cons (λ i. absurd i) (kept_second es (flat_args args))))

pub substitute_keeps_intervals : SubstituteKeepsIntervals
substitute_keeps_intervals limit file def call =
    let given : List Entry = flat_def def ++ flat_args (args_of call) in
    keeps given
    (substitute_bears limit file (closed given file) def call
    (kept_first (flat_def def) _) (all_unasked _) (kept_call (flat_def def) call) (all_unasked _))

pub expand_keeps_intervals : ExpandKeepsIntervals
unfolding flat_registry
expand_keeps_intervals limit file defs c =
    let given : List Entry = flat_registry defs ++ flat_condition c in
    let each = each_def defs (all_tail (kept_first (flat_registry defs) (flat_condition c))) in
    keeps given
    (expand_bears limit file (closed given file) defs
    (all_map (λ d h. (h, all_unasked (flat_def d))) each) c (kept_second (flat_registry defs) (flat_condition c)) (all_unasked _))

-- ------------------------------------------------------------------ the body check and the registry

unseen : Unseen exchanged
unfolding check_temporal_condition_body check_within_in_body exchanged exchanged_within
unseen = record { either_same = λ d s l r. refl; within_same = λ d w s. within d s w }
  where
    within : (d : List Text) (s : ℕ) (w : WithinSpec) → check_within_in_body d (exchanged_within w) s ≡ check_within_in_body d w s
    within d s (WithinSpec.Concrete i) = refl
    within d s (WithinSpec.ParamRef n) = refl

pub check_exchanged : CheckExchanged
check_exchanged def = check_unseen exchanged unseen def

pub build_exchanged : BuildExchanged
build_exchanged defs = build_unseen exchanged defs

-- ------------------------------------------------------------------ substitution and expansion

of_mapped : {A B : Type 0} {f : A → B} {o : Outcome A} {o' : Outcome B} → Mapped f o o' → o' ≡ map_outcome f o
unfolding map_outcome
of_mapped (mapped {n = n} e) = ap (λ b. Outcome.done b n) e
of_mapped mapped_refused = refl

pub substitute_exchanged : SubstituteExchanged
substitute_exchanged limit file def call = of_mapped (both_substitute limit file def call)

pub expand_exchanged : ExpandExchanged
expand_exchanged limit file defs c = of_mapped (both_expand limit file defs c)
