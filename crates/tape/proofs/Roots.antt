-- The four roots of document 01 and a lone term, and what an accepted slice holds.
-- Assumes nothing.
use Rattle.tape.specs.declared.header.Fault.{Fault}
use Rattle.std.proofs.Common.{Result, Ok}
use Prim.Native.Nat.{ℕ, ◌+◌, ◌*◌, ◌≤◌}
use mathlib.Core.Path.{◌≡◌, refl, ap, sym, ◌∙◌, subst}
use mathlib.Core.Bool.{Bool, true, ◌&&◌, and_assoc}
use mathlib.Core.List.{List, [], ◌∷◌}
use native.Mathlib.Omega.{arith}
use lib.Dec.{T, leb, leb→le}
use lib.ListN.{length}
use Rattle.format.specs.Entry.{Entry, encode, text_of}
use Rattle.format.specs.Ast.{MacroDef}
use Rattle.format.specs.DeMorgan.{or_weight}
use Rattle.format.specs.Limits.{node_weight, call_weight, deep_condition, deep_term, deep_call, deep_body, deep_bodies, fits_sizes, fits_depths}
use Rattle.format.specs.Macro.{tally}
use Rattle.format.specs.Rewritten.{weighted}
use Rattle.format.specs.Stands.{Stands}
use Rattle.format.specs.Tape.{Reading, Root, condition_root, term_root, call_root, definition_root, registry_root, named_root, longest_named, texts_within, short_texts, few_params, few_params_each, small, accept, Bytes}
use Rattle.format.proofs.Accepted.{Values64, InRange, accepted_on_tape}
use Rattle.format.proofs.Builds.{Rooted, rooted_condition, rooted_call, rooted_definition, rooted_registry}
use Rattle.format.proofs.Exact.{lawful_named, lawful_term}
use Rattle.format.proofs.Rewritten.{Rewrites}
use Rattle.format.proofs.Spells.{s_condition_root, s_call, s_definition, s_registry_root}
use Rattle.format.proofs.Stands.{stands_encoded}
use Rattle.grammar.specs.Grammar as sort
use Rattle.grammar.specs.Words.{temporal_grammar}
use Rattle.grammar.specs.Waits.{is_limited}
use Rattle.grammar.proofs.Marks.{longest_marks, longest_64}
use Rattle.tape.specs.Accept.{accept_named}
use Rattle.tape.specs.Layouts.{tape_layout}
use Rattle.tape.specs.declared.layout.Layout.{Layout}
use Rattle.tape.proofs.Acceptance.{RootOf, RootNamed, Holds, Answers, answers_2, answers_3, answers_tape, answers}
use Rattle.tape.proofs.Passing.{short_in}
use Rattle.tape.proofs.Runs.{place, Run}
use Rattle.format.proofs.Tests.{and_left, and_right}
use Rattle.format.proofs.Weights.{or_calls, or_nodes}
use Rattle.tape.proofs.Trees.{passes_condition, passes_term, passes_call, passes_definition, passes_registry}

-- the texts that are short by the table's marks are those that are short
named_texts : (most : ℕ) (es : List Entry) → short_in temporal_grammar most es ≡ texts_within (longest_named most) es
unfolding texts_within
named_texts most [] = refl
named_texts most (e ∷ es) = rw (longest_marks most e.code, named_texts most es)

short_texts_lem : (es : List Entry) → texts_within (longest_named 64) es ≡ short_texts es
unfolding texts_within
short_texts_lem [] = refl
short_texts_lem (e ∷ es) = rw (longest_64 e.code, short_texts_lem es)

-- ------------------------------------------------------------------ the roots

-- with the figures of the rewritten tape a root is built and taken as it was
rooted_weighted : {A : Type 0} {root : Root A} {a : A} → Rooted root a → Rooted (weighted root) a
unfolding weighted
rooted_weighted h = record { stack = h.stack; built = h.built; taken = h.taken }

short_entries : (es : List Entry) → (short_in temporal_grammar 64 es && leb (length es + 3 * tally 2 es) 1024)
    ≡ (short_texts es && leb (length es + 3 * tally 2 es) 1024)
short_entries es = ap (λ (b : Bool). b && leb (length es + 3 * tally 2 es) 1024) (named_texts 64 es ∙ short_texts_lem es)

pub depth_limits : (nodes : ℕ) (few : Bool) {calls calls' : ℕ} → calls ≡ calls'
    → (leb nodes 64 && (leb calls 4 && few)) ≡ (fits_depths nodes calls' && few)
unfolding fits_depths
depth_limits nodes few {calls} {calls'} e =
    ap (λ (k : ℕ). leb nodes 64 && (leb k 4 && few)) e ∙ sym (and_assoc (leb nodes 64) (leb calls' 4) few)

pub condition_root_lem : RootOf condition_root sort.condition
unfolding weighted condition_root
condition_root_lem =
    record {
      is_sort = omega arith;
      is_limited_lem = refl;
      tree = λ x. x;
      spelled = λ x. refl;
      sound = s_condition_root;
      rooted = λ c. rooted_weighted (rooted_condition c);
      deep = λ c w. deep_condition w c;
      listed = λ c. true;
      passes = passes_condition;
      short = λ c h. short_entries (condition_root.flat c);
      limits = λ c. depth_limits (deep_condition (or_weight node_weight) c) true (ap (λ (w : ℕ → ℕ). deep_condition w c) (sym or_calls));
    }

-- a condition whose names may have more bytes
pub named_root_lem : (most : ℕ) → is_limited most ≡ true → RootNamed most (named_root most) sort.condition
unfolding weighted named_root
named_root_lem most limited =
    record {
      is_sort = omega arith;
      is_limited_lem = limited;
      tree = λ x. x;
      spelled = λ x. refl;
      sound = s_condition_root;
      rooted = λ c. rooted_weighted ((lawful_named most).rooted c);
      deep = λ c w. deep_condition w c;
      listed = λ c. true;
      passes = passes_condition;
      short = λ c h. ap (λ (b : Bool). b && leb (length ((named_root most).flat c) + 3 * tally 2 ((named_root most).flat c)) 1024)
          (named_texts most ((named_root most).flat c));
      limits = λ c. rw limited
          (depth_limits (deep_condition (or_weight node_weight) c) true (ap (λ (w : ℕ → ℕ). deep_condition w c) (sym or_calls)));
    }

pub term_root_lem : RootOf term_root sort.term
unfolding weighted term_root
term_root_lem =
    record {
      is_sort = omega arith;
      is_limited_lem = refl;
      tree = λ x. x;
      spelled = λ x. refl;
      sound = lawful_term.spells;
      rooted = λ t. rooted_weighted (lawful_term.rooted t);
      deep = λ t w. deep_term w t;
      listed = λ t. true;
      passes = passes_term;
      short = λ t h. short_entries (term_root.flat t);
      limits = λ t. depth_limits (deep_term (or_weight node_weight) t) true (ap (λ (w : ℕ → ℕ). deep_term w t) (sym or_calls));
    }

pub call_root_lem : RootOf call_root sort.call
unfolding weighted call_root
call_root_lem =
    record {
      is_sort = omega arith;
      is_limited_lem = refl;
      tree = λ x. x;
      spelled = λ x. refl;
      sound = s_call;
      rooted = λ c. rooted_weighted (rooted_call c);
      deep = λ c w. deep_call w c;
      listed = λ c. true;
      passes = passes_call;
      short = λ c h. short_entries (call_root.flat c);
      limits = λ c. depth_limits (deep_call (or_weight node_weight) c) true (ap (λ (w : ℕ → ℕ). deep_call w c) (sym or_calls));
    }

pub definition_root_lem : RootOf definition_root sort.definition
unfolding weighted definition_root few_params
definition_root_lem =
    record {
      is_sort = omega arith;
      is_limited_lem = refl;
      tree = λ x. x;
      spelled = λ x. refl;
      sound = s_definition;
      rooted = λ d. rooted_weighted (rooted_definition d);
      deep = λ d w. deep_body w d.body;
      listed = few_params;
      passes = passes_definition;
      short = λ d h. short_entries (definition_root.flat d);
      limits = λ d. depth_limits (deep_body (or_weight node_weight) d.body) (few_params d) (ap (λ (w : ℕ → ℕ). deep_body w d.body) (sym or_calls));
    }

pub registry_root_lem : RootOf registry_root sort.definitions
unfolding weighted registry_root
registry_root_lem =
    record {
      is_sort = omega arith;
      is_limited_lem = refl;
      tree = λ x. x;
      spelled = λ x. refl;
      sound = s_registry_root;
      rooted = λ ds. rooted_weighted (rooted_registry ds);
      deep = λ ds w. deep_bodies w ds;
      listed = few_params_each;
      passes = passes_registry;
      short = λ ds h. short_entries (registry_root.flat ds);
      limits = λ ds. depth_limits (deep_bodies (or_weight node_weight) ds) (few_params_each ds) (ap (λ (w : ℕ → ℕ). deep_bodies w ds) (sym or_calls));
    }

-- ------------------------------------------------------------------ what an accepted slice holds

-- A slice that was accepted, its layout and its tree as it was given: the figures are those of the rewritten tape.
pub record Accepted {A : Type 0} (root : Root A) (s : List ℕ) (l : Layout) (a : A) : Type 0 where
  pub reading : accept (weighted root) s ≡ Reading.accepted a
  pub encoded : encode (root.flat a) ≡ s
  pub layout_is : l ≡ tape_layout (length (root.flat a)) (length (text_of (root.flat a)))
  pub run : Run s l (place 0 0) (root.flat a)
  pub in_range : InRange (root.flat a)
  pub short : T (root.texts (root.flat a))
  pub entries_fit : length (root.flat a) + 3 * tally 2 (root.flat a) ≤ 1024
  pub depths : T (fits_depths (root.deep (or_weight node_weight) a) (root.deep call_weight a))
  pub few : T (root.few a)

module _ {A : Type 0} {root : Root A} {longest sort : ℕ} (r : RootNamed longest root sort) (s : List ℕ) (bytes : Bytes s) where
  held_tape : (a : A) → accept (weighted root) s ≡ Reading.accepted a → Holds (weighted root) s a
      → Accepted root s (tape_layout (length (root.flat a)) (length (text_of (root.flat a)))) a
  unfolding weighted small fits_sizes
  held_tape a e h =
      let es = root.flat a in
      let whole : encode es ≡ s = (accepted_on_tape (weighted root) r.sound s bytes a e).encoded in
      let n = h.entries_count in
      let t = h.text_count_lem in
      let l = tape_layout (length es) (length (text_of es)) in
      let values : Values64 es = h.values_are bytes in
      let stands : Stands s 8 (8 + length es) (8 + 9 * length es) 0 0 es = rw whole at (stands_encoded es) in
      let fit : T (fits_sizes (length es) (length (text_of es))) = rw (n, t) h.fitting in
      let most = leb→le (length es) 1024 (and_left (leb (length es) 1024) _ fit) in
      let texts = and_left ((weighted root).texts es) _ h.keeping in
      let rest = and_right ((weighted root).texts es) _ h.keeping in
      let entries = leb (length es + 3 * tally 2 es) 1024 in
      let depths = fits_depths (root.deep (or_weight node_weight) a) (root.deep (or_weight call_weight) a) in
      record {
        reading = e;
        encoded = whole;
        layout_is = refl;
        run = record {
          held = record {
            entries_most = most;
            codes_held = omega (arith, h.sized);
            values_held = omega (arith, h.sized);
          };
          stands = stands;
          entries_left = omega arith;
          text_left = omega arith;
          small_values = values;
        };
        in_range = record { values = values; sizes = fit; texts = h.well };
        short = and_left (root.texts es) entries texts;
        entries_fit = leb→le (length es + 3 * tally 2 es) 1024 (and_right (root.texts es) entries texts);
        depths = subst (λ (w : ℕ → ℕ). T (fits_depths (root.deep (or_weight node_weight) a) (root.deep w a))) or_calls (and_left depths _ rest);
        few = and_right depths _ rest;
      }

  pub accepted_root : (l : Layout) → accept_named longest s sort ≡ Ok l → (a : A) × Accepted root s l a
  unfolding weighted
  accepted_root l e = go (answers r s) e refl
    where
      go : {x : Result Layout Fault} {y : Reading A} → Answers (weighted root) s x y → x ≡ Ok l → accept (weighted root) s ≡ y → (a : A) × Accepted root s l a
      go answers_2 e q = let z : ◌≡◌ {A = ℕ} 0 1 = cc in absurd (omega arith)
      go answers_3 e q = let z : ◌≡◌ {A = ℕ} 0 1 = cc in absurd (omega arith)
      go (answers_tape {a = a} {l = k} h p) e q =
          let same : tape_layout (length (root.flat a)) (length (text_of (root.flat a))) ≡ l = sym p ∙ tape_eq e in
          (a, subst (λ (m : Layout). Accepted root s m a) same (held_tape a q h))
        where
          tape_eq : {k l : Layout} → ◌≡◌ {A = Result Layout Fault} (Ok k) (Ok l) → k ≡ l
          tape_eq h = (cc)

-- ------------------------------------------------------------------ for those who build on it

-- what keeps to the limits is at most 64 nodes deep
pub nesting_64 : (nodes calls : ℕ) → T (fits_depths nodes calls) → nodes ≤ 64
unfolding fits_depths
nesting_64 nodes calls t = leb→le nodes 64 (and_left (leb nodes 64) _ t)

-- so is an accepted tree as it was given, in which an Or is one node and not three
pub given_64 : {A : Type 0} {root : Root A} {s : List ℕ} {l : Layout} {a : A} → Rewrites root → Accepted root s l a → root.deep node_weight a ≤ 64
given_64 {root = root} {a = a} r h =
    omega (arith, nesting_64 (root.deep (or_weight node_weight) a) (root.deep call_weight a) h.depths, r.heavier node_weight (or_weight node_weight) or_nodes a)

-- the parameters that a definition's limits leave
pub few_params_lem : (def : MacroDef) → T (few_params def) → length def.params ≤ 16
unfolding few_params
few_params_lem def t = leb→le (length def.params) 16 t
