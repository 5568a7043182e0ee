-- The expansion's answer and its counts: what the walk came to, over two accepted tapes or their rewritings, is what the definition says.
-- Assumes nothing.
use Rattle.std.proofs.Common.{Ok, Err}
use Prim.Native.Nat.{ℕ, ◌≤◌, ◌<◌, ◌^◌}
use native.Mathlib.Omega.{arith}
use mathlib.Core.Path.{◌≡◌, sym, ap, subst, ◌∙◌}
use mathlib.Core.List.{List}
use mathlib.Core.Bool.{true, false, ◌&&◌}
use lib.Dec.{eqb, eqb→eq}
use lib.ListN.{length, replicate, length-replicate}
use Rattle.format.specs.Ast.{Condition, MacroDef, Tree}
use Rattle.format.specs.Rewritten.{weighted}
use Rattle.format.specs.Tape.{registry_root, condition_root, accept, rewritten, Bytes}
use Rattle.format.proofs.Exact.{lawful_registry, lawful_condition}
use Rattle.format.proofs.Rewritten.{rewrites_registry, rewrites_condition}
use Rattle.format.proofs.Tests.{and_left, and_right, from_true}
use Rattle.definition.specs.Answers.{Answer, Buffers, long_buffers, reading, number_alone, tree_answer, expand_tapes, expand_answer}
use Rattle.definition.specs.Outcome.{Outcome}
use Rattle.definition.specs.Expand.{expand}
use Rattle.definition.proofs.Kept.{expand_bounded}
use Rattle.grammar.specs.Grammar as grammar
use Rattle.tape.specs.Header.{fault_number}
use Rattle.tape.specs.declared.header.Fault.{Fault}
use Rattle.tape.specs.Ors.{ors_in}
use Rattle.tape.specs.declared.layout.Layout.{Layout}
use Rattle.tape.proofs.Located.{Alone}
use Rattle.tape.proofs.Roots.{Accepted, registry_root_lem, condition_root_lem, accepted_root}
use Rattle.de_morgan.specs.Rewritten.{rewritten_in, rewritten_layout}
use Rattle.de_morgan.proofs.Rewritten.{rewritten_alone, given_alone}
use Rattle.answer.specs.Matches.{buffers, ended}
use Rattle.answer.specs.Tapes.{accept_two}
use Rattle.answer.proofs.Operations.{accepted_read, first_accepted, second_accepted, long_enough, read_two, tree_short, tree_refused, tree_walked}
use Rattle.registry.specs.Places.{index_at}
use Rattle.registry.proofs.Standing.{indexed_registry}
use Rattle.definition.specs.Calls.{calls_condition}
use Rattle.definition.specs.Counts.{add_calls, counts_after, expand_counts}
use Rattle.expand_counts.specs.Counting.{counted_in}
use Rattle.expand_counts.proofs.Adding.{Bounded}
use Rattle.expand_counts.proofs.Counted.{counted_is}
use Rattle.expansion.specs.Expansion.{EndsExpansion, named_in}
use Rattle.expansion.proofs.Counts.{outcome_counts, refused_unread_two, short_untaken, refused_untaken, taken}
use Rattle.expansion.proofs.TreesWhole.{expansion_matches}

-- what is found of the trees as they were given
abbrev find : (limit file : ℕ) → List MacroDef → Condition → Outcome Tree
find limit file x y = expand limit file (rewritten registry_root x) (rewritten condition_root y)

module _ (r l m limit file : ℕ) (registry input : List ℕ) (p : Bytes registry) (q : Bytes input) (given : List ℕ) where
  abbrev b : Buffers
  b = buffers r l m

  -- the answer, and the counts
  abbrev Expands : Answer → List ℕ → Type 0
  Expands a counts = (a ≡ expand_answer b limit file registry input) × (counts ≡ expand_counts b limit file registry input given)

  as_accepted : expand_answer b limit file registry input
      ≡ tree_answer b (reading (accept (weighted registry_root) registry) λ x. reading (accept (weighted condition_root) input) λ y. find limit file x y)
  unfolding expand_answer expand_tapes
  as_accepted =
      ap (tree_answer b) (read_two rewrites_registry rewrites_condition lawful_registry lawful_condition registry input p q (expand limit file))

  -- the counts of a registry and a condition that are taken
  abbrev counts_of : List MacroDef → Condition → List ℕ
  counts_of defs c = counts_after (expand limit file defs c) (add_calls defs (calls_condition c) given) given

  -- a buffer is too short
  pub short : {a : Answer} → long_buffers b ≡ false → a ≡ ended b (number_alone 1) → Expands a given
  unfolding expand_answer expand_counts
  short h k = (tree_short b (expand_tapes limit file registry input) h k, sym (short_untaken given b registry input counts_of h))

  -- a tape is refused
  pub refused : {f : Fault} {a : Answer} → long_buffers b ≡ true → accept_two registry grammar.definitions input grammar.condition ≡ Err f
      → a ≡ ended b (number_alone (fault_number f)) → Expands a given
  unfolding expand_counts
  refused long e k = (
    tree_refused registry_root condition_root registry_root_lem condition_root_lem (find limit file) b registry input long e k ∙ sym as_accepted,
    sym (refused_untaken given b registry input counts_of long
        (refused_unread_two rewrites_registry rewrites_condition lawful_registry lawful_condition registry_root_lem condition_root_lem registry input p q e given counts_of)),
  )

  module _ (small : limit < 2 ^ 32) (bounded : Bounded given) (long : long_buffers b ≡ true) {d c : Layout}
      (e : accept_two registry grammar.definitions input grammar.condition ≡ Ok (d, c)) (work result : List ℕ) (room : l ≡ length work)
      (space : r ≡ length result) where
    first : (x : List MacroDef) × Accepted registry_root registry d x
    first = accepted_root registry_root_lem registry p d (first_accepted registry input grammar.definitions grammar.condition e)

    second : (y : Condition) × Accepted condition_root input c y
    second = accepted_root condition_root_lem input q c (second_accepted registry input grammar.definitions grammar.condition e)

    abbrev defs : List MacroDef
    defs = rewritten registry_root first.0

    abbrev rule : Condition
    rule = rewritten condition_root second.0

    as_counted : expand_counts b limit file registry input given ≡ counts_of defs rule
    unfolding expand_counts
    as_counted =
        taken given b registry input counts_of long (accepted_read rewrites_registry lawful_registry registry p first.1.reading)
        (accepted_read rewrites_condition lawful_condition input q second.1.reading)

    walked : {s t : List ℕ} {d' c' : Layout} {a : Answer} {counts : List ℕ} → Alone registry_root s d' defs → Alone condition_root t c' rule
        → EndsExpansion s d' t c' limit file work result b given a counts → Expands a counts
    walked {s} {t} {d'} {c'} h g k =
        let X = named_in s d' 255 t c' limit file work result in
        let matches = expansion_matches limit file defs rule h g work result (omega (arith, room, (long_enough b long).work)) (omega (arith, space, (long_enough b long).result)) in
        let calls = counted_is rule (indexed_registry defs h) g bounded in (
          tree_walked registry_root condition_root registry_root_lem condition_root_lem (find limit file) b registry input s t d' c' X.walk X.work long first.1.reading second.1.reading
              (subst (λ (z : Answer). z.message_length ≤ 2048) as_accepted (expand_bounded b limit file small registry input p q).short_message) matches k.answers
              ∙ sym as_accepted,
          k.counted
              ∙ outcome_counts s d' t c' X.walk X.work (expand limit file defs rule) (counted_in s d' (index_at s d' 255) t c' given) given matches
              ∙ ap (λ (ks : List ℕ). counts_after (expand limit file defs rule) ks given) calls
              ∙ sym as_counted,
        )

    -- no tape has an Or
    pub expanded : {a : Answer} {counts : List ℕ} → (eqb (ors_in registry d) 0 && eqb (ors_in input c) 0) ≡ true
        → EndsExpansion registry d input c limit file work result b given a counts → Expands a counts
    expanded none k =
        let t = from_true none in
        let one = eqb (ors_in registry d) 0 in
        walked
        (given_alone registry_root_lem rewrites_registry first.1 (eqb→eq (ors_in registry d) 0 (and_left one _ t)))
        (given_alone condition_root_lem rewrites_condition second.1 (eqb→eq (ors_in input c) 0 (and_right one _ t))) k

    pub expanded_rewritten : {a : Answer} {counts : List ℕ} →
        EndsExpansion (rewritten_in registry d (replicate 12296 0)) (rewritten_layout registry d) (rewritten_in input c (replicate 12296 0))
        (rewritten_layout input c) limit file work result b given a counts
        → Expands a counts
    expanded_rewritten k =
        walked
        (rewritten_alone registry_root_lem rewrites_registry first.1 (replicate 12296 0) (omega (arith, length-replicate {A = ℕ} 12296 0)))
        (rewritten_alone condition_root_lem rewrites_condition second.1 (replicate 12296 0) (omega (arith, length-replicate {A = ℕ} 12296 0))) k
