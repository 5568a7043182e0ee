-- Document 02's point 12, of the operations: specs/Withdrawn.antt. SameVerdicts has the check and the registry, Borne the
-- results.
-- Assumes nothing.
use Prim.Native.Nat.{ℕ, ◌+◌, ◌*◌}
use native.Mathlib.Omega.{arith}
use mathlib.Core.Path.{◌≡◌, refl, ap, subst}
use mathlib.Core.List.{List, [], ◌∷◌}
use mathlib.Core.Bool.{Bool, true, false}
use lib.Dec.{eqb}
use Rattle.format.specs.Entry.{Entry, entry, encode}
use Rattle.format.specs.Ast.{Tree, MacroDef}
use Rattle.format.specs.Flat.{flat_condition, flat_tree, flat_def, flat_registry}
use Rattle.format.specs.Limits.{is_node, weigh}
use Rattle.format.specs.Macro.{holds, tally}
use Rattle.format.specs.Replace.{replace_def, replace_defs}
use Rattle.format.specs.DeMorgan.{de_morgan}
use Rattle.format.specs.Tape.{Reading, Root, condition_root, call_root, definition_root, registry_root, accept, read}
use Rattle.format.specs.Rewritten.{weighted, map_reading}
use Rattle.format.proofs.All.{All, all_nil, all_cons, all_tail, all_map}
use Rattle.format.proofs.Becomes.{NoOr as NoOrEntry, Becomes, nothing, kept, joined, parted, tally_append, becomes_condition, becomes_call, becomes_definition, become_no_or}
use Rattle.format.proofs.Exact.{lawful_definition, lawful_registry}
use Rattle.format.proofs.Rewritten.{no_holds, read_no_or, Rewrites, rewrites_condition, rewrites_call, rewrites_definition, rewrites_registry, read_as}
use Rattle.definition.specs.Outcome.{Outcome}
use Rattle.definition.specs.Check.{Verdict}
use Rattle.definition.specs.Size.{size}
use Rattle.definition.specs.Answers.{Buffers, answer, number_alone, reading, long_buffers, tree_answer, expand_tapes, expand_answer, substitute_tapes, substitute_answer, verdict, message_answer, check_answer, registry_answer}
use Rattle.definition.specs.Withdrawn.{SizeOfRewritten, CheckAsGiven, RegistryAsGiven, NoOr, SubstituteNoOr, ExpandNoOr, NoOrResult, SubstituteResultNoOr, ExpandResultNoOr}
use Rattle.definition.proofs.Size.{size_append}
use Rattle.definition.proofs.Lookup.{each_def}
use Rattle.definition.proofs.Readings.{of_reading}
use Rattle.definition.proofs.Good.{good_done, good_refused}
use Rattle.definition.proofs.SameVerdicts.{same_check, same_build}
use Rattle.definition.proofs.Verdicts.{Any}
use Rattle.definition.proofs.Rules.{Closed, Unasked, tabled, table_bounds, Bears}
use Rattle.definition.proofs.Borne.{substitute_bears, expand_bears, all_unasked}

-- ------------------------------------------------------------------ check and registry, from the tape as it is given

-- a verdict that does not see the rewriting is reached on the tree that was accepted
as_given : {A : Type 0} (f : A → A) (judge : A → Verdict) → ((a : A) → judge (f a) ≡ judge a) → (o : Reading A)
    → reading (map_reading f o) (λ a. verdict (judge a)) ≡ reading o (λ a. verdict (judge a))
unfolding reading map_reading
as_given f judge h Reading.malformed = refl
as_given f judge h Reading.too_large = refl
as_given f judge h (Reading.accepted a) = ap verdict (h a)

pub check_as_given : CheckAsGiven
unfolding check_answer definition_root
check_as_given m definition q =
    rw (read_as definition_root rewrites_definition lawful_definition definition q).one_scan
    (ap (message_answer m) (as_given (replace_def de_morgan) _ same_check (accept (weighted definition_root) definition)))

pub registry_as_given : RegistryAsGiven
unfolding registry_answer registry_root
registry_as_given m registry q =
    rw (read_as registry_root rewrites_registry lawful_registry registry q).one_scan
    (ap (message_answer m) (as_given (replace_defs de_morgan) _ same_build (accept (weighted registry_root) registry)))

-- ------------------------------------------------------------------ size

size_becomes : {es fs : List Entry} → Becomes es fs → size fs ≡ size es + 3 * tally 2 es
unfolding size tally weigh is_node
size_becomes nothing = refl
size_becomes (kept {e = e} h b) = omega (arith, no_weight (eqb e.code 2) h, size_becomes b)
  where
    no_weight : (b : Bool) → b ≡ false → weigh b ≡ 0
    no_weight b h = rw h refl
size_becomes (joined {es} {fs} {es'} {fs'} b b') =
    omega (arith, size_append es es', size_append fs fs', tally_append 2 es es', size_becomes b, size_becomes b')
size_becomes (parted {s = s} l r {l' = l'} {r' = r'} b b') =
    omega (arith, size_append (flat_condition l) (flat_condition r), size_append l' (entry 3 s ∷ r'), tally_append 2 (flat_condition l) (flat_condition r), size_becomes b, size_becomes b')

pub size_of_rewritten : SizeOfRewritten
size_of_rewritten c = size_becomes (becomes_condition c)

-- ------------------------------------------------------------------ results

closed : (file : ℕ) → Closed Any Unasked Unasked NoOrEntry file
closed file =
    record {
      made_term = λ t k m b span i. refl;
      made_slot = λ t k m b span i. refl;
      named_slot = λ t m. refl;
      call_term = λ m. refl;
      listed = λ k l m. refl;
      arrayed = λ k l m. refl;
    }

abbrev NoOrTree : Outcome Tree → Type 0
NoOrTree o = Bears NoOrEntry flat_tree o

no_or : {o : Outcome Tree} → NoOrTree o → NoOr o
no_or (good_done {a = a} h) t charged e =
    let same : a ≡ t = cc in subst (λ (x : Tree). holds 2 (flat_tree x) ≡ false) same (no_holds h)
no_or (good_refused r) t charged e = let z : ◌≡◌ {A = ℕ} 0 1 = cc in absurd (omega arith)

pub substitute_no_or : SubstituteNoOr
substitute_no_or limit file def call =
    no_or (substitute_bears limit file (closed file) _ _ (become_no_or (becomes_definition def)) (all_unasked _) (become_no_or (becomes_call call)) (all_unasked _))

abbrev NoOrDef : MacroDef → Type 0
NoOrDef d = All NoOrEntry (flat_def d) × All Unasked (flat_def d)

no_or_defs : (defs : List MacroDef) → All NoOrDef (replace_defs de_morgan defs)
unfolding replace_defs de_morgan
no_or_defs [] = all_nil
no_or_defs (d ∷ ds) = all_cons (become_no_or (becomes_definition d), all_unasked _) (no_or_defs ds)

pub expand_no_or : ExpandNoOr
expand_no_or limit file defs c =
    no_or (expand_bears limit file (closed file) _ (no_or_defs defs) _ (become_no_or (becomes_condition c)) (all_unasked _))

-- ------------------------------------------------------------------ on tapes

tree_no_or : (b : Buffers) {o : Outcome Tree} → NoOrTree o → NoOrResult b (tree_answer b o)
unfolding tree_answer answer number_alone
tree_no_or b {o} g = go (long_buffers b)
  where
    tape : Tree → List ℕ
    tape t = encode (flat_tree t)

    made : {p : Outcome Tree} → NoOrTree p → NoOrResult b (answer tape b p)
    made (good_done {a = t} h) e = (t, refl, no_holds h)
    made (good_refused {r = r} t) e = absurd (omega (arith, e, table_bounds t))

    go : (long : Bool) → NoOrResult b (answer tape b (elim long [ true ↦ o | false ↦ number_alone 1 ]))
    go true = made g
    go false = made {p = number_alone 1} (good_refused (tabled tt))

-- a tape that is read: 2, 3, or a tree without Or
read_carries : {A : Type 0} (root : Root A) → Rewrites root → (bytes : List ℕ) (k : A → Outcome Tree)
    → ((a : A) → All NoOrEntry (root.flat a) → NoOrTree (k a)) → NoOrTree (reading (read root bytes) k)
unfolding number_alone
read_carries root r bytes k f =
    of_reading (λ (o : Outcome Tree). NoOrTree o) (read root bytes) k (good_refused (tabled tt)) (good_refused (tabled tt)) λ a e. f a (read_no_or root r bytes a e)

pub substitute_result_no_or : SubstituteResultNoOr
unfolding substitute_answer substitute_tapes definition_root call_root
substitute_result_no_or b limit file definition input =
    tree_no_or b
    (read_carries definition_root rewrites_definition definition _ λ def d.
    read_carries call_root rewrites_call input _ λ call c.
    substitute_bears limit file (closed file) def call d (all_unasked _) c (all_unasked _))

pub expand_result_no_or : ExpandResultNoOr
unfolding expand_answer expand_tapes registry_root condition_root flat_registry
expand_result_no_or b limit file registry input =
    tree_no_or b
    (read_carries registry_root rewrites_registry registry _ λ defs d.
    read_carries condition_root rewrites_condition input _ λ condition c.
    expand_bears limit file (closed file) defs (all_map (λ x h. (h, all_unasked (flat_def x))) (each_def defs (all_tail d))) condition c (all_unasked _))
