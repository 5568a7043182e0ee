-- "No paste cuts a character": specs/Whole.antt, by the rules of the walks with "well-formed" for every text and every message.
-- Assumes nothing.
use native.Mathlib.Omega.{arith}
use Prim.Native.Nat.{ℕ, ◌-◌}
use mathlib.Core.Path.{◌≡◌, refl}
use mathlib.Core.List.{List, [], ◌∷◌}
use mathlib.Core.Bool.{Bool, true, false}
use lib.Dec.{T, leb}
use lib.ListN.{length, replicate}
use lib.Seq.{take_at}
use Rattle.format.specs.Entry.{Entry, encode}
use Rattle.format.specs.Ast.{Tree, MacroParam, MacroDef}
use Rattle.format.specs.Flat.{flat_condition, flat_call, flat_tree, flat_params, flat_def, flat_registry}
use Rattle.format.specs.Utf8.{well_texts, open_utf8}
use Rattle.format.specs.Tape.{Reading, Root, condition_root, definition_root, call_root, registry_root, read, Bytes}
use Rattle.format.proofs.All.{All, all_nil, all_cons, all_head, all_tail, all_left, all_map}
use Rattle.format.proofs.Exact.{Lawful, lawful_condition, lawful_definition, lawful_call, lawful_registry}
use Rattle.format.proofs.Rewritten.{Rewrites, rewrites_condition, rewrites_definition, rewrites_call, rewrites_registry, read_on_tape}
use Rattle.format.proofs.Utf8.{all_whole, whole_all}
use Rattle.definition.specs.Outcome.{Refusal, refusal, Outcome}
use Rattle.definition.specs.Check.{Verdict, names_of, check_def}
use Rattle.definition.specs.Registry.{build}
use Rattle.definition.specs.Answers.{Buffers, padded, answer, number_alone, long_buffers, tree_answer, expand_tapes, expand_answer, substitute_tapes, substitute_answer, message_alone, verdict, message_answer, check_answer, registry_answer}
use Rattle.definition.specs.Whole.{WholeOutcome, whole_tree, whole_message, WholeVerdict, whole_pass, whole_refusal, CheckDefWhole, BuildWhole, SubstituteWhole, ExpandWhole, WholeAnswer, WholeMessage, CheckWhole, RegistryWhole, SubstituteTapesWhole, ExpandTapesWhole}
use Rattle.definition.proofs.Good.{good_done, good_refused}
use Rattle.definition.proofs.Lookup.{each_def}
use Rattle.definition.proofs.Readings.{of_reading}
use Rattle.definition.proofs.Verdicts.{Given, passes, refuses, given_body, given_build}
use Rattle.definition.specs.Ends.{substitution_numbers, expansion_numbers}
use Rattle.definition.proofs.Rules.{closed_texts, in_01, includes, Rules, Any-number, Unasked, Tabled, tabled, table_bounds, Known, RefusalMatches, Fits}
use Rattle.definition.proofs.SaidSubstitute.{def_name, def_body, said_substitute}
use Rattle.definition.proofs.SaidExpand.{said_expand}
use Rattle.definition.proofs.WholeMessages.{Well, well_generated, well_reserved, well_duplicate, well_undeclared, well_plain, well_unknown, well_cedar_in_condition, well_cedar_in_value, well_value_as_condition, well_condition_as_value, well_count, well_stray_condition, well_stray_within, well_stray_slot, well_stray_field, well_stray_operand, well_binder_as_condition, well_unbound, well_not_a_condition, well_not_an_interval, well_not_a_term, well_not_an_identifier, well_macro_in_macro, well_budget, well_not_a_predicate}

-- ------------------------------------------------------------------ the rules

abbrev pub WellText : Entry → Type 0
WellText e = Well e.text

pub silent : Well []
unfolding open_utf8
silent = tt

pub whole_rules : (limit file : ℕ) → Rules in_01 Well Unasked Unasked WellText Well Any-number Any-number limit file
whole_rules limit file =
    record {
      within = includes in_01 substitution_numbers tt;
      closed = closed_texts Well (λ t k start. well_generated t k start file);
      charged = λ n h. tt;
      says_nothing = silent;
      says_30 = well_unknown;
      says_31 = well_cedar_in_condition;
      says_31_value = well_cedar_in_value;
      says_32 = well_value_as_condition;
      says_33 = well_condition_as_value;
      says_34 = λ name n expected got h k. well_count name n expected got;
      says_35 = well_budget limit;
      says_36 = well_stray_condition;
      says_37 = well_stray_within;
      says_38 = well_stray_slot;
      says_39 = well_stray_field;
      says_40 = well_stray_operand;
      says_41 = well_unbound;
      says_42 = well_not_a_condition;
      says_43 = well_binder_as_condition;
      says_44 = well_not_an_interval;
      says_45 = well_not_a_term;
      says_46 = well_not_an_identifier;
      says_47 = well_not_a_predicate;
    }

abbrev pub WholeEntry : Entry → Type 0
WholeEntry e = Known Well WellText Any-number Unasked e

pub known : (es : List Entry) → T (well_texts es) → All WholeEntry es
known es h = all_map (λ e k. (k, tt, k, tt)) (all_whole es h)

abbrev pub WholeDef : MacroDef → Type 0
WholeDef d = All WholeEntry (flat_def d)

pub known_registry : (ds : List MacroDef) → T (well_texts (flat_registry ds)) → All WholeDef ds
unfolding flat_registry
known_registry ds h = each_def ds (all_tail (known (flat_registry ds) h))

-- ------------------------------------------------------------------ on trees

abbrev pub WholeRefusal : Refusal → Type 0
WholeRefusal r = RefusalMatches in_01 Well r

whole_params : (ps : List MacroParam) → All WholeEntry (flat_params ps) → All Well (names_of ps)
unfolding flat_params names_of
whole_params [] h = all_nil
whole_params (p ∷ ps) h = all_cons (all_head (all_tail h)).0 (whole_params ps (all_tail (all_tail h)))

pub whole_check : (def : MacroDef) → WholeDef def → Given WholeRefusal (check_def def)
unfolding check_def flat_def
whole_check def h =
    let names = whole_params def.params (all_left (flat_params def.params) _ (all_tail (all_tail (all_tail h)))) in
    given_body Well (names_of def.params)
    (record {
      undeclared = λ n k s. (well_undeclared n k (names_of def.params) names, tabled tt);
      plain = λ n k s. (well_plain n k, tabled tt);
      called = λ s. (well_macro_in_macro, tabled tt);
    })
    def.body (all_map (λ e k. k.0) (def_body {P = WholeEntry} def h))

pub whole_build : (ds : List MacroDef) → All WholeDef ds → Given WholeRefusal (build ds)
whole_build ds h =
    given_build Well (record { reserved = λ n k s. (well_reserved n k, tabled tt); duplicate = λ n k s p. (well_duplicate n k _, tabled tt) }) ds
    (all_map (λ d k. (def_name {P = WholeEntry} d k).0) h)

whole_outcome : {o : Outcome Tree} → Fits in_01 Well WellText Any-number (λ t. t) o → WholeOutcome o
whole_outcome (good_done k) = whole_tree (whole_all k.1)
whole_outcome (good_refused k) = whole_message k.0.0

whole_verdict : {v : Verdict} → Given WholeRefusal v → WholeVerdict v
whole_verdict passes = whole_pass
whole_verdict (refuses k) = whole_refusal k.0

pub check_def_whole : CheckDefWhole
check_def_whole def h = whole_verdict (whole_check def (known (flat_def def) h))

pub build_whole : BuildWhole
build_whole defs h = whole_verdict (whole_build defs (known_registry defs h))

pub substitute_whole : SubstituteWhole
substitute_whole limit file def call d c =
    whole_outcome (said_substitute (whole_rules limit file) def (known (flat_def def) d) call (known (flat_call call) c))

pub expand_whole_lem : ExpandWhole
expand_whole_lem limit file defs c d k =
    let ds = known_registry defs d in
    whole_outcome (said_expand defs limit file (whole_rules limit file) (includes in_01 expansion_numbers tt) ds (whole_build defs ds) c (known (flat_condition c) k))

-- ------------------------------------------------------------------ on tapes

-- the texts of an accepted tape
pub accepted_texts : {A : Type 0} (root : Root A) → Rewrites root → Lawful root → (bytes : List ℕ) → Bytes bytes → (a : A)
    → read root bytes ≡ Reading.accepted a → T (well_texts (root.flat a))
accepted_texts root rewrites law bytes q a h = (read_on_tape root rewrites law bytes q a h).range.texts

abbrev pub SaysWhole : {A : Type 0} → (A → List ℕ) → Buffers → Outcome A → Type 0
SaysWhole tape b o = WholeMessage (answer tape b o)

-- no message, or one that stands whole at the start of its buffer
pub says_done : {A : Type 0} (tape : A → List ℕ) (b : Buffers) (a : A) (n : ℕ) → SaysWhole tape b (Outcome.done a n)
unfolding answer open_utf8
says_done tape b a n = tt

pub says_refused : {A : Type 0} (tape : A → List ℕ) (b : Buffers) (r : Refusal) (n : ℕ) → Well r.message → SaysWhole tape b (Outcome.refused r n)
unfolding answer padded
says_refused tape b r n h =
    rw (take_at r.message (replicate (b.message_length - length r.message) 0) (length r.message) refl) h

pub says_bare : {A : Type 0} (tape : A → List ℕ) (b : Buffers) (number : ℕ) → SaysWhole tape b (number_alone number)
unfolding number_alone
says_bare tape b number = says_refused tape b _ 0 silent

abbrev pub nothing : Unit {0} → List ℕ
nothing u = []

pub says_verdict : (m : ℕ) {v : Verdict} → Given WholeRefusal v → SaysWhole nothing (message_alone m) (verdict v)
unfolding verdict
says_verdict m passes = says_done nothing (message_alone m) tt 0
says_verdict m (refuses {r = r} h) = says_refused nothing (message_alone m) r 0 h.0

pub says_message : (m : ℕ) (o : Outcome (Unit {0})) → SaysWhole nothing (message_alone m) o → WholeMessage (message_answer m o)
unfolding message_answer
says_message m o h = go (leb 2048 m)
  where
    go : (x : Bool) → SaysWhole nothing (message_alone m) (elim x [ true ↦ o | false ↦ number_alone 1 ])
    go true = h
    go false = says_bare nothing (message_alone m) 1

pub check_whole : CheckWhole
unfolding check_answer definition_root
check_whole m definition q =
    says_message m _
    (of_reading (SaysWhole nothing (message_alone m)) (read definition_root definition) _ (says_bare nothing (message_alone m) 2)
    (says_bare nothing (message_alone m) 3) λ def h.
    says_verdict m (whole_check def (known (flat_def def) (accepted_texts definition_root rewrites_definition lawful_definition definition q def h))))

pub registry_whole : RegistryWhole
unfolding registry_answer registry_root
registry_whole m registry q =
    says_message m _
    (of_reading (SaysWhole nothing (message_alone m)) (read registry_root registry) _ (says_bare nothing (message_alone m) 2)
    (says_bare nothing (message_alone m) 3) λ defs h.
    says_verdict m (whole_build defs (known_registry defs (accepted_texts registry_root rewrites_registry lawful_registry registry q defs h))))

-- ------------------------------------------------------------------ substitution and expansion

abbrev pub tree_tape : Tree → List ℕ
tree_tape t = encode (flat_tree t)

abbrev pub Answered : Buffers → Outcome Tree → Type 0
Answered b o = WholeAnswer b (answer tree_tape b o)

abbrev pub WholeFits : Outcome Tree → Type 0
WholeFits o = Fits in_01 Well WellText Any-number (λ t. t) o

-- the answer of an outcome, once the buffers are long enough
pub answer_whole : (b : Buffers) {o : Outcome Tree} → WholeFits o → WholeAnswer b (answer tree_tape b o)
unfolding answer
answer_whole b (good_done {a = t} {n = n} k) =
    record { whole_message = says_done tree_tape b t n; whole_result = λ e. (t, refl, whole_all k.1) }
answer_whole b (good_refused {r = r} {n = n} k) =
    record {
      whole_message = says_refused tree_tape b r n k.0.0;
      whole_result = λ e. absurd (omega (arith, e, table_bounds k.0.1));
    }

pub bare_whole : (b : Buffers) (number : ℕ) → Tabled in_01 (refusal number 0 []) → WholeAnswer b (answer tree_tape b (number_alone number))
unfolding number_alone
bare_whole b number h = answer_whole b (good_refused ((silent, h), tt))

pub tree_whole : (b : Buffers) (o : Outcome Tree) → WholeAnswer b (answer tree_tape b o) → WholeAnswer b (tree_answer b o)
unfolding tree_answer
tree_whole b o h = go (long_buffers b)
  where
    go : (x : Bool) → WholeAnswer b (answer tree_tape b (elim x [ true ↦ o | false ↦ number_alone 1 ]))
    go true = h
    go false = bare_whole b 1 (tabled tt)

pub substitute_tapes_whole : SubstituteTapesWhole
unfolding substitute_answer substitute_tapes definition_root call_root
substitute_tapes_whole b limit file definition input p q =
    tree_whole b _
    (of_reading (Answered b) (read definition_root definition) _ (bare_whole b 2 (tabled tt)) (bare_whole b 3 (tabled tt)) λ def h.
    of_reading (Answered b) (read call_root input) _ (bare_whole b 2 (tabled tt)) (bare_whole b 3 (tabled tt)) λ call k.
    let d = known (flat_def def) (accepted_texts definition_root rewrites_definition lawful_definition definition p def h) in
    let c = known (flat_call call) (accepted_texts call_root rewrites_call lawful_call input q call k) in
    answer_whole b (said_substitute (whole_rules limit file) def d call c))

pub expand_tapes_whole : ExpandTapesWhole
unfolding expand_answer expand_tapes registry_root condition_root
expand_tapes_whole b limit file registry input p q =
    tree_whole b _
    (of_reading (Answered b) (read registry_root registry) _ (bare_whole b 2 (tabled tt)) (bare_whole b 3 (tabled tt)) λ defs h.
    of_reading (Answered b) (read condition_root input) _ (bare_whole b 2 (tabled tt)) (bare_whole b 3 (tabled tt)) λ condition k.
    let ds = known_registry defs (accepted_texts registry_root rewrites_registry lawful_registry registry p defs h) in
    let c = known (flat_condition condition) (accepted_texts condition_root rewrites_condition lawful_condition input q condition k) in
    answer_whole b (said_expand defs limit file (whole_rules limit file) (includes in_01 expansion_numbers tt) ds (whole_build defs ds) condition c))
