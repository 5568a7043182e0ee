-- Every answer keeps its bounds: specs/Kept.antt, of each operation. What an accepted tape keeps to goes into the walks of
-- SaidSubstitute, SaidExpand and Verdicts.
-- Assumes nothing.
use Prim.Native.Nat.{ℕ, ◌-◌, ◌^◌, ◌≤◌, ◌<◌}
use native.Mathlib.Omega.{arith}
use mathlib.Core.Path.{◌≡◌, refl}
use mathlib.Core.List.{List, [], ◌∷◌}
use mathlib.Core.Bool.{Bool, true, false, ◌&&◌}
use lib.Dec.{T, leb, leb→le, lit≤}
use lib.ListN.{length, replicate, length-append, length-replicate}
use Rattle.format.specs.Entry.{Entry, encode, text_of}
use Rattle.format.specs.Ast.{Condition, Call, Tree, MacroParam, MacroDef}
use Rattle.format.specs.Flat.{flat_condition, flat_call, flat_tree, flat_params, flat_def, flat_registry}
use Rattle.format.specs.Limits.{node_weight, call_weight, deep_tree, deep_body, fits_sizes, fits_depths, fits_all, too_large_tree}
use Rattle.format.specs.Macro.{is_code}
use Rattle.format.specs.Tape.{Reading, longest_text, texts_within, short_texts, few_params, small, condition_root, definition_root, call_root, registry_root, read, Bytes}
use Rattle.format.proofs.All.{All, all_nil, all_cons, all_head, all_tail, all_left, all_both, all_map}
use Rattle.format.proofs.Accepted.{Values64, OnTape}
use Rattle.format.proofs.Tests.{and_left, and_right, not_refused}
use Rattle.format.proofs.Encodes.{fitting, length_encode}
use Rattle.format.proofs.Rewritten.{rewrites_condition, rewrites_definition, rewrites_call, rewrites_registry, read_on_tape}
use Rattle.format.proofs.Exact.{lawful_condition, lawful_definition, lawful_call, lawful_registry}
use Rattle.definition.specs.Outcome.{Refusal, Outcome}
use Rattle.definition.specs.Check.{Verdict, names_of, check_def}
use Rattle.definition.specs.Registry.{build}
use Rattle.definition.specs.Expand.{expand}
use Rattle.definition.specs.Answers.{Buffers, padded, answer, number_alone, reading, long_buffers, tree_answer, expand_tapes, expand_answer, substitute_tapes, substitute_answer, message_alone, verdict, message_answer, check_answer, registry_answer}
use Rattle.definition.specs.Kept.{Bounded, CheckBounded, RegistryBounded, SubstituteBounded, ExpandBounded}
use Rattle.definition.proofs.Good.{good_done, good_refused}
use Rattle.definition.proofs.Lengths.{Short, Name, Declared, Number, short_reserved, short_duplicate, short_undeclared, short_plain, short_macro_in_macro, short_unknown, short_cedar_in_condition, short_cedar_in_value, short_value_as_condition, short_condition_as_value, short_count, short_budget, short_stray_condition, short_stray_within, short_stray_slot, short_stray_field, short_stray_operand, short_unbound, short_not_a_condition, short_binder_as_condition, short_not_an_interval, short_not_a_term, short_not_an_identifier, short_not_a_predicate}
use Rattle.definition.proofs.Lookup.{each_def}
use Rattle.definition.proofs.Readings.{of_reading}
use Rattle.definition.proofs.Verdicts.{Given, passes, refuses, Any, given_body, given_build}
use Rattle.definition.specs.Ends.{substitution_numbers, expansion_numbers}
use Rattle.definition.proofs.Rules.{closed_texts, in_01, tabled, includes, Rules, Unasked, Known, RefusalMatches, Fits}
use Rattle.definition.proofs.SaidSubstitute.{def_name, def_body, said_substitute}
use Rattle.definition.proofs.SaidExpand.{said_expand}

-- ------------------------------------------------------------------ the rules: names of at most 255 bytes, values below 2^64

abbrev pub Sized : Entry → Type 0
Sized e = Known Name Unasked Number Unasked e

abbrev pub SizedDef : MacroDef → Type 0
SizedDef d = All Sized (flat_def d)

-- no message
pub no_message : Short []
no_message = lit≤ tt

short_rules : (limit file : ℕ) → limit < 2 ^ 32 → Rules in_01 Name Unasked Unasked Unasked Short Number (λ n. n ≤ limit) limit file
short_rules limit file small =
    record {
      within = includes in_01 substitution_numbers tt;
      closed = closed_texts Any (λ t k start. tt);
      charged = λ n h. h;
      says_nothing = no_message;
      says_30 = short_unknown;
      says_31 = short_cedar_in_condition;
      says_31_value = short_cedar_in_value;
      says_32 = short_value_as_condition;
      says_33 = short_condition_as_value;
      says_34 = short_count;
      says_35 = short_budget limit small;
      says_36 = short_stray_condition;
      says_37 = short_stray_within;
      says_38 = short_stray_slot;
      says_39 = short_stray_field;
      says_40 = short_stray_operand;
      says_41 = short_unbound;
      says_42 = short_not_a_condition;
      says_43 = short_binder_as_condition;
      says_44 = short_not_an_interval;
      says_45 = short_not_a_term;
      says_46 = short_not_an_identifier;
      says_47 = short_not_a_predicate;
    }

-- ------------------------------------------------------------------ what an input's tape keeps to

abbrev ShortText : Entry → Type 0
ShortText e = length e.text ≤ longest_text e.code

short_texts_lem : (es : List Entry) → T (short_texts es) → All ShortText es
unfolding texts_within
short_texts_lem [] h = all_nil
short_texts_lem (e ∷ es) h =
    let long : ℕ = longest_text e.code in
    let fits : Bool = leb (length e.text) long in
    all_cons (leb→le (length e.text) long (and_left fits _ h)) (short_texts_lem es (and_right fits _ h))

longest : (c : ℕ) → longest_text c ≤ 255
unfolding longest_text
longest c = go (is_code (22 ∷ 23 ∷ 72 ∷ 74 ∷ []) c)
  where
    go : (b : Bool) → elim b [ true ↦ 255 | false ↦ 64 ] ≤ 255
    go true = omega arith
    go false = omega arith

sized : {es : List Entry} → All ShortText es → Values64 es → All Sized es
sized h v = all_map (λ e s. (omega (arith, s.0, longest e.code), s.1, tt, tt)) (all_both h v)

sized_condition : (bytes : List ℕ) (c : Condition) → OnTape condition_root bytes c → All Sized (flat_condition c)
unfolding condition_root small
sized_condition bytes c t = sized (short_texts_lem (flat_condition c) (and_left (short_texts (flat_condition c)) _ t.small)) t.range.values

sized_call : (bytes : List ℕ) (c : Call) → OnTape call_root bytes c → All Sized (flat_call c)
unfolding call_root small
sized_call bytes c t = sized (short_texts_lem (flat_call c) (and_left (short_texts (flat_call c)) _ t.small)) t.range.values

sized_definition : (bytes : List ℕ) (d : MacroDef) → OnTape definition_root bytes d → SizedDef d
unfolding definition_root small
sized_definition bytes d t = sized (short_texts_lem (flat_def d) (and_left (short_texts (flat_def d)) _ t.small)) t.range.values

-- ------------------------------------------------------------------ the verdicts

abbrev pub ShortRefusal : Refusal → Type 0
ShortRefusal r = RefusalMatches in_01 Short r

declared_params : (ps : List MacroParam) → All ShortText (flat_params ps) → All Declared (names_of ps)
unfolding flat_params names_of longest_text is_code
declared_params [] h = all_nil
declared_params (p ∷ ps) h = all_cons (all_head (all_tail h)) (declared_params ps (all_tail (all_tail h)))

length_names : (ps : List MacroParam) → length (names_of ps) ≡ length ps
unfolding names_of
length_names [] = refl
length_names (p ∷ ps) = omega (arith, length_names ps)

pub short_check : (bytes : List ℕ) (def : MacroDef) → OnTape definition_root bytes def → Given ShortRefusal (check_def def)
unfolding definition_root small check_def few_params flat_def
short_check bytes def t =
    let texts : All ShortText (flat_def def) = short_texts_lem (flat_def def) (and_left (short_texts (flat_def def)) _ t.small) in
    let depths : Bool = fits_depths (deep_body node_weight def.body) (deep_body call_weight def.body) in
    let few = leb→le (length def.params) 16 (and_right depths _ (and_right (short_texts (flat_def def)) _ t.small)) in
    let names = declared_params def.params (all_left (flat_params def.params) _ (all_tail (all_tail (all_tail texts)))) in
    given_body Name (names_of def.params)
    (record {
      undeclared = λ n k s. (short_undeclared n k (names_of def.params) names (omega (arith, few, length_names def.params)), tabled tt);
      plain = λ n k s. (short_plain n k, tabled tt);
      called = λ s. (short_macro_in_macro, tabled tt);
    })
    def.body (all_map (λ e k. k.0) (def_body def (sized_definition bytes def t)))

pub sized_registry : (bytes : List ℕ) (ds : List MacroDef) → OnTape registry_root bytes ds → All SizedDef ds
unfolding registry_root small flat_registry
sized_registry bytes ds t =
    each_def ds (all_tail (sized (short_texts_lem _ (and_left (short_texts (flat_registry ds)) _ t.small)) t.range.values))

pub short_build : (ds : List MacroDef) → All SizedDef ds → Given ShortRefusal (build ds)
short_build ds h =
    given_build Name (record { reserved = λ n k s. (short_reserved n k, tabled tt); duplicate = λ n k s p. (short_duplicate n k p, tabled tt) }) ds
    (all_map (λ d s. (def_name {P = Sized} d s).0) h)

-- ------------------------------------------------------------------ the answers

pub padded_length : (n : ℕ) (bytes : List ℕ) → length bytes ≤ n → length (padded n bytes) ≡ n
unfolding padded
padded_length n bytes h =
    omega (arith, length-append bytes (replicate (n - length bytes) 0), length-replicate {A = ℕ} (n - length bytes) 0)

-- a tree that is not too large has a tape of at most 12,296 bytes
tape_length : (t : Tree) → too_large_tree t ≡ false → length (encode (flat_tree t)) ≤ 12296
unfolding too_large_tree fits_all
tape_length t h =
    let es : List Entry = flat_tree t in
    let fits : Bool = fits_sizes (length es) (length (text_of es)) in
    let k = and_left fits _ (not_refused (fits && fits_depths (deep_tree node_weight t) (deep_tree call_weight t)) h) in
    let q = fitting (length es) (length (text_of es)) k in
    omega (arith, length_encode es)

pub bounded_done : {A : Type 0} (tape : A → List ℕ) (b : Buffers) (limit : ℕ) (a : A) (n : ℕ) → n ≤ limit → length (tape a) ≤ b.result_length
    → Bounded b limit (answer tape b (Outcome.done a n))
unfolding answer
bounded_done tape b limit a n h k =
    record {
      short_message = omega arith;
      within_limit = h;
      whole_result = padded_length b.result_length (tape a) k;
      whole_work = padded_length b.work_length [] (omega arith);
      whole_message = padded_length b.message_length [] (omega arith);
    }

pub bounded_refused : {A : Type 0} (tape : A → List ℕ) (b : Buffers) (limit : ℕ) (r : Refusal) (n : ℕ) → n ≤ limit → Short r.message
    → length r.message ≤ b.message_length → Bounded b limit (answer tape b (Outcome.refused r n))
unfolding answer
bounded_refused tape b limit r n h s k =
    record {
      short_message = s;
      within_limit = h;
      whole_result = padded_length b.result_length [] (omega arith);
      whole_work = padded_length b.work_length [] (omega arith);
      whole_message = padded_length b.message_length r.message k;
    }

-- a refusal without message
pub bounded_number_alone : {A : Type 0} (tape : A → List ℕ) (b : Buffers) (limit number : ℕ) → Bounded b limit (answer tape b (number_alone number))
unfolding number_alone
bounded_number_alone tape b limit number = bounded_refused tape b limit _ 0 (omega arith) no_message (omega arith)

-- a tape that is read: 2, 3, or what is accepted
pub bounded_reading : {A B : Type 0} (tape : B → List ℕ) (b : Buffers) (limit : ℕ) (o : Reading A) (k : A → Outcome B)
    → ((a : A) → o ≡ Reading.accepted a → Bounded b limit (answer tape b (k a))) → Bounded b limit (answer tape b (reading o k))
bounded_reading tape b limit o k f =
    of_reading (λ x. Bounded b limit (answer tape b x)) o k (bounded_number_alone tape b limit 2) (bounded_number_alone tape b limit 3) f

-- ------------------------------------------------------------------ check and registry

abbrev pub nothing : Unit {0} → List ℕ
nothing u = []

pub bounded_message : (m : ℕ) (o : Outcome (Unit {0})) → (2048 ≤ m → Bounded (message_alone m) 0 (answer nothing (message_alone m) o))
    → Bounded (message_alone m) 0 (message_answer m o)
unfolding message_answer
bounded_message m o f = go (leb 2048 m) (leb→le 2048 m)
  where
    go : (x : Bool) → (T x → 2048 ≤ m)
        → Bounded (message_alone m) 0 (answer nothing (message_alone m) (elim x [ true ↦ o | false ↦ number_alone 1 ]))
    go true q = f (q tt)
    go false q = bounded_number_alone nothing (message_alone m) 0 1

pub bounded_verdict : (m : ℕ) {v : Verdict} → 2048 ≤ m → Given ShortRefusal v → Bounded (message_alone m) 0 (answer nothing (message_alone m) (verdict v))
unfolding verdict
bounded_verdict m long passes = bounded_done nothing (message_alone m) 0 tt 0 (omega arith) (omega arith)
bounded_verdict m long (refuses {r = r} s) = bounded_refused nothing (message_alone m) 0 r 0 (omega arith) s.0 (omega (arith, s.0))

pub check_bounded : CheckBounded
unfolding check_answer
check_bounded m definition q =
    bounded_message m _ λ long.
    bounded_reading nothing (message_alone m) 0 (read definition_root definition) _ λ def h.
    bounded_verdict m long (short_check _ def (read_on_tape definition_root rewrites_definition lawful_definition definition q def h))

pub registry_bounded : RegistryBounded
unfolding registry_answer
registry_bounded m registry q =
    bounded_message m _ λ long.
    bounded_reading nothing (message_alone m) 0 (read registry_root registry) _ λ defs h.
    bounded_verdict m long
    (short_build defs (sized_registry _ defs (read_on_tape registry_root rewrites_registry lawful_registry registry q defs h)))

-- ------------------------------------------------------------------ substitution and expansion

abbrev pub tree_tape : Tree → List ℕ
tree_tape t = encode (flat_tree t)

pub bounded_tree : (b : Buffers) (limit : ℕ) (o : Outcome Tree)
    → (12296 ≤ b.result_length → 2048 ≤ b.message_length → Bounded b limit (answer tree_tape b o)) → Bounded b limit (tree_answer b o)
unfolding tree_answer long_buffers
bounded_tree b limit o f = go (long_buffers b) (λ h. h)
  where
    go : (x : Bool) → (T x → T (long_buffers b)) → Bounded b limit (answer tree_tape b (elim x [ true ↦ o | false ↦ number_alone 1 ]))
    go true h =
        let wide : Bool = leb 12296 b.result_length in
        f (leb→le 12296 b.result_length (and_left wide _ (h tt)))
        (leb→le 2048 b.message_length (and_right (leb 65536 b.work_length) _ (and_right wide _ (h tt))))
    go false h = bounded_number_alone tree_tape b limit 1

pub bounded_kept : (b : Buffers) (limit : ℕ) {o : Outcome Tree} → 12296 ≤ b.result_length → 2048 ≤ b.message_length
    → Fits in_01 Short Unasked (λ n. n ≤ limit) (λ t. t) o → Bounded b limit (answer tree_tape b o)
bounded_kept b limit large long (good_done {a = t} {n = n} k) =
    bounded_done tree_tape b limit t n k.0 (omega (arith, tape_length t k.2))
bounded_kept b limit large long (good_refused {r = r} {n = n} k) =
    bounded_refused tree_tape b limit r n k.1 k.0.0 (omega (arith, k.0.0))

pub substitute_bounded : SubstituteBounded
unfolding substitute_answer substitute_tapes
substitute_bounded b limit file small definition input p q =
    bounded_tree b limit _ λ large long.
    bounded_reading tree_tape b limit (read definition_root definition) _ λ def h.
    bounded_reading tree_tape b limit (read call_root input) _ λ call k.
    let d = read_on_tape definition_root rewrites_definition lawful_definition definition p def h in
    let c = read_on_tape call_root rewrites_call lawful_call input q call k in
    bounded_kept b limit large long
    (said_substitute (short_rules limit file small) def (sized_definition _ def d) call (sized_call _ call c))

-- what expansion answers to tapes that are read
pub kept_expanded : (limit file : ℕ) → limit < 2 ^ 32 → (registry input : List ℕ) → Bytes registry → Bytes input
    → (defs : List MacroDef) → read registry_root registry ≡ Reading.accepted defs → (c : Condition) → read condition_root input ≡ Reading.accepted c
    → Fits in_01 Short Unasked (λ n. n ≤ limit) (λ t. t) (expand limit file defs c)
kept_expanded limit file small registry input p q defs h condition k =
    let ds = sized_registry _ defs (read_on_tape registry_root rewrites_registry lawful_registry registry p defs h) in
    let c = read_on_tape condition_root rewrites_condition lawful_condition input q condition k in
    said_expand defs limit file (short_rules limit file small) (includes in_01 expansion_numbers tt) ds (short_build defs ds) condition (sized_condition _ condition c)

pub expand_bounded : ExpandBounded
unfolding expand_answer expand_tapes
expand_bounded b limit file small registry input p q =
    bounded_tree b limit _ λ large long.
    bounded_reading tree_tape b limit (read registry_root registry) _ λ defs h.
    bounded_reading tree_tape b limit (read condition_root input) _ λ condition k.
    bounded_kept b limit large long (kept_expanded limit file small registry input p q defs h condition k)
