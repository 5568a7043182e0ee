-- The roots of provider tapes (document 02, point 11), a call or a lone argument: acceptance by their table is format's.
-- Assumes nothing.
use Prim.Native.Nat.{ℕ, ◌+◌, ◌*◌, ◌≤◌}
use mathlib.Core.Path.{◌≡◌, refl}
use mathlib.Core.Bool.{true, ◌&&◌, and-true}
use mathlib.Core.List.{List, [], ◌∷◌}
use native.Mathlib.Omega.{arith}
use borrow.Author.Tests.{le-leb}
use lib.Dec.{leb}
use lib.ListN.{length}
use Rattle.format.specs.Entry.{Text, Entry}
use Rattle.format.specs.Flat.{flat_texts}
use Rattle.format.specs.Limits.{is_node, is_call, weigh, node_weight, call_weight, fits_depths}
use Rattle.format.specs.Macro.{tally}
use Rattle.format.specs.Provider.{Arg, Args, Provider, flat_argument, flat_arguments, flat_method_call, flat_provider, deep_argument, deep_arguments, deep_provider}
use Rattle.format.specs.Tape.{texts_within, short_texts, provider_root, argument_root}
use Rattle.format.proofs.Becomes.{tally_append}
use Rattle.format.proofs.Exact.{lawful_argument, lawful_provider}
use Rattle.grammar.specs.Provider as sort
use Rattle.grammar.specs.Words.{provider_grammar}
use Rattle.grammar.proofs.ProviderMarks.{is_argument, argument_weight, longest_marks}
use Rattle.tape.proofs.Acceptance.{RootBy}
use Rattle.tape.proofs.Passing.{short_in}
use Rattle.tape.proofs.ProviderTrees.{weighed, passes_argument, passes_provider, provider_trees}
use Rattle.tape.proofs.Roots.{depth_limits}

-- ------------------------------------------------------------------ texts and entries

short_texts_lem : (es : List Entry) → short_in provider_grammar 64 es ≡ short_texts es
unfolding texts_within
short_texts_lem [] = refl
short_texts_lem (e ∷ es) = rw (longest_marks e.code, short_texts_lem es)

-- they hold no Or
no_or_texts : (ts : List Text) → tally 2 (flat_texts ts) ≡ 0
unfolding flat_texts tally weigh
no_or_texts [] = refl
no_or_texts (t ∷ ts) = omega (arith, no_or_texts ts)

mutual
  unfolding flat_argument tally weigh

  no_or_argument : (a : Arg) → tally 2 (flat_argument a) ≡ 0
  no_or_argument (Arg.Field path) = omega (arith, no_or_texts path)
  no_or_argument (Arg.String t) = refl
  no_or_argument (Arg.Integer n) = refl
  no_or_argument (Arg.Decimal t) = refl
  no_or_argument (Arg.Bool b) = refl
  no_or_argument (Arg.Set items) = omega (arith, no_or_arguments items)

  no_or_arguments : (items : Args) → tally 2 (flat_arguments items) ≡ 0
  no_or_arguments Args.no_args = refl
  no_or_arguments (Args.cons_arg a rest) =
      omega (arith, tally_append 2 (flat_argument a) (flat_arguments rest), no_or_argument a, no_or_arguments rest)

no_or_provider : (p : Provider) → tally 2 (flat_provider p) ≡ 0
unfolding flat_provider flat_method_call tally weigh
no_or_provider (Provider.call c) = omega (arith, no_or_arguments c.args)
no_or_provider (Provider.argument a) = no_or_argument a

short_entries : (es : List Entry) → tally 2 es ≡ 0 → length es ≤ 1024
    → (short_in provider_grammar 64 es && leb (length es + 3 * tally 2 es) 1024) ≡ short_texts es
short_entries es none h =
    rw (short_texts_lem es, le-leb (length es + 3 * tally 2 es) 1024 (omega (arith, none))) (and-true (short_texts es))

-- ------------------------------------------------------------------ depths

-- weights that are the same at the six kinds of terms
module _ (v w : ℕ → ℕ) (e₁ : v 21 ≡ w 21) (e₂ : v 22 ≡ w 22) (e₃ : v 23 ≡ w 23) (e₄ : v 24 ≡ w 24) (e₅ : v 25 ≡ w 25) (e₆ : v 29 ≡ w 29) where
  mutual
    unfolding deep_argument

    same_deep : (a : Arg) → deep_argument v a ≡ deep_argument w a
    same_deep (Arg.Field path) = e₅
    same_deep (Arg.String t) = e₃
    same_deep (Arg.Integer n) = e₁
    same_deep (Arg.Decimal t) = e₂
    same_deep (Arg.Bool b) = e₄
    same_deep (Arg.Set items) = rw (e₆, same_deeps items)

    same_deeps : (items : Args) → deep_arguments v items ≡ deep_arguments w items
    same_deeps Args.no_args = refl
    same_deeps (Args.cons_arg a rest) = rw (same_deep a, same_deeps rest)

  same_provider : (p : Provider) → deep_provider v p ≡ deep_provider w p
  unfolding deep_provider
  same_provider (Provider.call c) = same_deeps c.args
  same_provider (Provider.argument a) = same_deep a

module _ (p : Provider) where
  nodes_provider : deep_provider (weighed argument_weight) p ≡ deep_provider node_weight p
  unfolding is_argument is_node weigh
  nodes_provider = same_provider (weighed argument_weight) node_weight refl refl refl refl refl refl p

  calls_provider : deep_provider (weighed (λ c. 0)) p ≡ deep_provider call_weight p
  unfolding is_call weigh
  calls_provider = same_provider (weighed (λ c. 0)) call_weight refl refl refl refl refl refl p

  limits : (leb (deep_provider (weighed argument_weight) p) 64 && (leb (deep_provider (weighed (λ c. 0)) p) 4 && true))
      ≡ (fits_depths (deep_provider node_weight p) (deep_provider call_weight p) && true)
  limits = rw nodes_provider (depth_limits (deep_provider node_weight p) true calls_provider)

-- ------------------------------------------------------------------ the roots

pub provider_root_lem : RootBy provider_trees 64 provider_root sort.root
unfolding provider_root
provider_root_lem =
    record {
      is_sort = omega arith;
      is_limited_lem = refl;
      tree = λ x. x;
      spelled = λ x. refl;
      sound = lawful_provider.spells;
      rooted = lawful_provider.rooted;
      deep = λ p w. deep_provider (weighed w) p;
      listed = λ p. true;
      passes = passes_provider;
      short = λ p h. short_entries (flat_provider p) (no_or_provider p) h;
      limits = limits;
    }

pub argument_root_lem : RootBy provider_trees 64 argument_root sort.argument
unfolding argument_root deep_provider
argument_root_lem =
    record {
      is_sort = omega arith;
      is_limited_lem = refl;
      tree = λ x. x;
      spelled = λ x. refl;
      sound = lawful_argument.spells;
      rooted = lawful_argument.rooted;
      deep = λ a w. deep_argument (weighed w) a;
      listed = λ a. true;
      passes = passes_argument;
      short = λ a h. short_entries (flat_argument a) (no_or_argument a) h;
      limits = λ a. limits (Provider.argument a);
    }
