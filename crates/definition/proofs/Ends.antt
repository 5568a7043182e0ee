-- Each operation ends in a result or in a refusal of its own table (specs/Ends.antt).
-- Assumes nothing.
use Prim.Native.Nat.{ℕ, ◌+◌, ◌≤◌}
use native.Mathlib.Omega.{arith}
use mathlib.Core.Path.{◌≡◌, refl, sym}
use mathlib.Core.Logic.{◌⊎◌, inl, inr}
use mathlib.Core.List.{List, [], ◌∷◌}
use mathlib.Core.Bool.{Bool, true, false, ◌||◌}
use mathlib.Core.Option.{Option, none, some}
use lib.Dec.{T, eqb}
use lib.ListN.{length, length-append}
use Rattle.format.specs.Entry.{Text, Entry, le, encode}
use Rattle.format.specs.Ast.{Condition, Tree, MacroDef}
use Rattle.format.specs.Flat.{flat_def, flat_tree}
use Rattle.format.specs.Macro.{is_code}
use Rattle.format.specs.Older.{Kind, root_of, kind_of, first_code}
use Rattle.format.specs.Tape.{Reading, read_tape}
use Rattle.format.proofs.Tests.{and_left, and_right, or_left, or_right}
use Rattle.format.proofs.All.{all_map}
use Rattle.definition.specs.Outcome.{Refusal, refusal, Outcome, Walk, proceed, ◌>>=◌, ◌>>◌}
use Rattle.definition.specs.Answers.{message_alone, long_buffers, Answer, Buffers, answer, number_alone, reading, verdict, check_answer, registry_answer, message_answer, substitute_answer, substitute_tapes, expand_answer, expand_tapes, tree_answer, result_answer}
use Rattle.definition.specs.Check.{Verdict, check_def}
use Rattle.definition.specs.Registry.{build}
use Rattle.definition.specs.Substitute.{check_limits}
use Rattle.definition.specs.Expand.{unless, expand}
use Rattle.definition.specs.Library.{Refused, refused_bytes, list_bytes, library_tapes, library_answer, definition_at, check_found, check_at_answer}
use Rattle.definition.specs.Merge.{first_differing, refuse_differing, too_large_registry, joined, merge, merge_tapes, registry_tape, merge_answer}
use Rattle.definition.specs.Preview.{preview, preview_answer}
use Rattle.definition.specs.Judge.{require_equal, judge, judge_tapes, judge_answer}
use Rattle.definition.specs.Profile.{Placed, rule, profile_from, profile, profile_answer}
use Rattle.definition.specs.Older.{unless_out, older_of, older_tape, older_answer}
use Rattle.definition.specs.Provider.{turned, provider_answer, turning_answer, argument_to_term_answer, term_to_argument_answer}
use Rattle.definition.specs.Ends.{Nothing, Rows, Ends, CheckEnds, RegistryEnds, substitution_numbers, SubstituteEnds, expansion_numbers, ExpandEnds, LibraryEnds, CheckAtEnds, PreviewEnds, MergeEnds, JudgeEnds, ProfileEnds, OlderEnds, ProviderEnds, ArgumentEnds, TermEnds}
use Rattle.definition.proofs.Good.{Good, good_done, good_refused, step}
use Rattle.definition.proofs.Readings.{of_reading}
use Rattle.definition.proofs.Verdicts.{Any, Given, passes, refuses as refused, both, given_body, all_any}
use Rattle.definition.proofs.Borne.{unasked, anything}
use Rattle.definition.proofs.SaidSubstitute.{said_substitute}
use Rattle.definition.proofs.SaidExpand.{said_expand}
use Rattle.definition.specs.Returned.{Gives}
use Rattle.definition.proofs.Returned.{gives, refuses, refuses_alone, zero_gives}
use Rattle.definition.proofs.Rules.{Any-number, Unasked, RefusalMatches, Fits, Includes, includes, refuses_build, either_test, listed, spoken, is_silent, Tabled, tabled, in_table, all_between, between, all_listed, listed_too}

-- ------------------------------------------------------------------ one answer

abbrev pub Listed : {A : Type 0} → List ℕ → Outcome A → Type 0
Listed numbers o = Good (λ r n. Tabled numbers r) (λ a n. Unit {0}) o

-- the table, as the statement has it
listed_code : (ks : List ℕ) (c : ℕ) → T (listed ks c) → T (is_code ks c)
unfolding is_code
listed_code [] c t = t
listed_code (k ∷ ks) c t = either_test (eqb c k) (listed ks c) t (or_left (eqb c k) (is_code ks c)) (λ l. or_right (eqb c k) (is_code ks c) (listed_code ks c l))

code_listed : (ks : List ℕ) (c : ℕ) → T (is_code ks c) → T (listed ks c)
unfolding is_code
code_listed [] c t = t
code_listed (k ∷ ks) c t = either_test (eqb c k) (is_code ks c) t (or_left (eqb c k) (listed ks c)) (λ l. or_right (eqb c k) (listed ks c) (code_listed ks c l))

no_text : (m : Text) → T (is_silent m) → length m ≡ 0
no_text [] t = refl
no_text (c ∷ m) t = absurd t

unspoken : (k : ℕ) (m : Text) → T (listed spoken k || is_silent m) → (k ≤ 3) ⊎ (48 ≤ k) → length m ≡ 0
unspoken k m t (inl h) = either_test (listed spoken k) (is_silent m) t (λ l. absurd (omega (arith, h, between 10 47 spoken tt k l))) (no_text m)
unspoken k m t (inr h) = either_test (listed spoken k) (is_silent m) t (λ l. absurd (omega (arith, h, between 10 47 spoken tt k l))) (no_text m)

module _ {A : Type 0} (tape : A → List ℕ) (b : Buffers) (numbers : List ℕ) {Result : List ℕ → Type 0} where
  ends_done : ((a : A) → Result (tape a)) → (a : A) (n : ℕ) → Ends numbers Result b (answer tape b (Outcome.done a n))
  unfolding answer is_code
  ends_done made a n =
      record {
        its_number = tt;
        succeeds = λ e. (tape a, made a, gives tape b a n);
        refuses = λ e. absurd (e refl);
        silent = λ e. refl;
      }

  ends_refused : T (all_between 1 99 numbers) → (r : Refusal) (n : ℕ) → Tabled numbers r → Ends numbers Result b (answer tape b (Outcome.refused r n))
  unfolding answer is_code
  ends_refused p r n t =
      let row = and_left (listed numbers r.number) (listed spoken r.number || is_silent r.message) t.its_row in
      record {
        its_number = or_right (eqb r.number 0) (is_code numbers r.number) (listed_code numbers r.number row);
        succeeds = λ e. absurd (omega (arith, e, between 1 99 numbers p r.number row));
        refuses = λ e. (r.span, r.message, refuses tape b r n);
        silent = unspoken r.number r.message (and_right (listed numbers r.number) (listed spoken r.number || is_silent r.message) t.its_row);
      }

  pub ends : T (all_between 1 99 numbers) → ((a : A) → Result (tape a)) → {o : Outcome A} → Listed numbers o
      → Ends numbers Result b (answer tape b o)
  ends p made (good_done {a = a} {n = n} h) = ends_done made a n
  ends p made (good_refused {r = r} {n = n} t) = ends_refused p r n t

-- ------------------------------------------------------------------ an answer of which it is known what it gives

pub given_ends : {numbers : List ℕ} {Result : List ℕ → Type 0} {b : Buffers} {bytes : List ℕ} {cost : ℕ} {a : Answer} → Result bytes → Gives b bytes cost a
    → Ends numbers Result b a
unfolding is_code
given_ends {numbers} {bytes = bytes} h g =
    record {
      its_number = rw g.number tt;
      succeeds = λ e. (bytes, h, rw (sym g.charged) at g);
      refuses = λ e. absurd (e g.number);
      silent = λ e. g.message_length;
    }

-- more numbers may come
pub more_ends : {few many : List ℕ} {Result : List ℕ → Type 0} {b : Buffers} {a : Answer} → T (all_listed many few) → Ends few Result b a
    → Ends many Result b a
unfolding is_code
more_ends {few} {many} {a = a} h e =
    record {
      its_number = either_test (eqb a.number 0) (is_code few a.number) e.its_number (or_left (eqb a.number 0) (is_code many a.number))
          (λ t. or_right (eqb a.number 0) (is_code many a.number) (listed_code many a.number (listed_too many few h a.number (code_listed few a.number t))));
      succeeds = e.succeeds;
      refuses = e.refuses;
      silent = e.silent;
    }

-- and so may other results
pub other_results : {numbers : List ℕ} {Few Many : List ℕ → Type 0} {b : Buffers} {a : Answer} → ((bytes : List ℕ) → Few bytes → Many bytes)
    → Ends numbers Few b a → Ends numbers Many b a
other_results {Many = Many} {b = b} {a = a} h e =
    record {
      its_number = e.its_number;
      succeeds = λ z. let s = e.succeeds z in (s.0, h s.0 s.1, s.2);
      refuses = e.refuses;
      silent = e.silent;
    }

-- ------------------------------------------------------------------ what operations have in common

module _ {numbers : List ℕ} where
  listed_reading : {A B : Type 0} (o : Reading A) (k : A → Outcome B) → Tabled numbers (refusal 2 0 []) → Tabled numbers (refusal 3 0 [])
      → ((a : A) → Listed numbers (k a)) → Listed numbers (reading o k)
  unfolding number_alone
  listed_reading o k p q f = of_reading (λ x. Listed numbers x) o k (good_refused p) (good_refused q) λ a e. f a

  -- 1 where a buffer is short
  listed_long : {A : Type 0} (long : Bool) (o : Outcome A) → Tabled numbers (refusal 1 0 []) → Listed numbers o
      → Listed numbers (elim long as (λ x. Outcome A) [ true ↦ o | false ↦ number_alone 1 ])
  unfolding number_alone
  listed_long true o t h = h
  listed_long false o t h = good_refused t

  listed_verdict : {v : Verdict} → Given (λ r. Tabled numbers r) v → Listed numbers (verdict v)
  unfolding verdict
  listed_verdict passes = good_done tt
  listed_verdict (refused t) = good_refused t

  listed_unless : {A : Type 0} {v : Verdict} (w : Walk A) (n : ℕ) → Given (λ r. Tabled numbers r) v → Listed numbers (w n) → Listed numbers (unless v w n)
  unfolding unless
  listed_unless w n passes h = h
  listed_unless w n (refused t) h = good_refused t

  -- the number of a verdict
  its_row : {v : Verdict} → Given (RefusalMatches numbers Any) v → Given (λ r. Tabled numbers r) v
  its_row passes = passes
  its_row (refused t) = refused t.1

  listed_build : Includes numbers (10 ∷ 11 ∷ []) → (ds : List MacroDef) → Given (λ r. Tabled numbers r) (build ds)
  listed_build within ds = its_row (refuses_build within ds)

  listed_check : Includes numbers (20 ∷ 21 ∷ 22 ∷ []) → (d : MacroDef) → Given (λ r. Tabled numbers r) (check_def d)
  unfolding check_def
  listed_check within d =
      given_body Any _
      (record {
        undeclared = λ n k s. within _ (tabled tt);
        plain = λ n k s. within _ (tabled tt);
        called = λ s. within _ (tabled tt);
      })
      d.body (all_any _)

  listed_fits : {o : Outcome Tree} → Fits numbers Any Unasked Any-number (λ t. t) o → Listed numbers o
  listed_fits (good_done h) = good_done tt
  listed_fits (good_refused h) = good_refused h.0.1

  listed_expand : Includes numbers expansion_numbers → (limit file : ℕ) (defs : List MacroDef) (c : Condition) → Listed numbers (expand limit file defs c)
  listed_expand wide limit file defs c =
      listed_fits
      (said_expand defs limit file (unasked (λ r t. wide r (includes expansion_numbers substitution_numbers tt r t)) limit file) wide
      (all_map (λ d h. anything (flat_def d)) (all_any defs)) (refuses_build (λ r t. wide r (includes expansion_numbers (10 ∷ 11 ∷ []) tt r t)) defs) c (anything _))

-- ------------------------------------------------------------------ what the house sheet answers by itself

pub message_ends : {numbers : List ℕ} → T (all_between 1 99 numbers) → T (in_table numbers (refusal 1 0 [])) → (number : ℕ)
    → T (in_table numbers (refusal number 0 [])) → (m : ℕ) → Ends numbers Nothing (message_alone m) (message_answer m (number_alone number))
unfolding message_answer number_alone
message_ends p one number t m = ends _ _ _ p (λ u. refl) (listed_long _ _ (tabled one) (good_refused (tabled t)))

-- 0 without anything, where nothing is left to expand
pub nothing_ends : {Result : List ℕ → Type 0} → Result [] → (b : Buffers) → Ends expansion_numbers Result b (tree_answer b (number_alone 0))
unfolding tree_answer number_alone
nothing_ends {Result} empty b = go (long_buffers b)
  where
    go : (long : Bool) → Ends expansion_numbers Result b (answer (λ (t : Tree). encode (flat_tree t)) b (elim long [ true ↦ number_alone 0 | false ↦ number_alone 1 ]))
    go true = given_ends empty (zero_gives (refuses_alone (λ (t : Tree). encode (flat_tree t)) b 0))
    go false = ends_refused _ b expansion_numbers tt (refusal 1 0 []) 0 (tabled tt)

-- ------------------------------------------------------------------ the four operations of document 01

itself : {numbers : List ℕ} → Includes numbers numbers
itself r t = t

pub check_ends : CheckEnds
unfolding check_answer message_answer
check_ends m definition =
    ends _ _ _ tt (λ u. refl)
    (listed_long _ _ (tabled tt)
    (listed_reading _ _ (tabled tt) (tabled tt) λ def. listed_verdict (listed_check (includes (1 ∷ 2 ∷ 3 ∷ 20 ∷ 21 ∷ 22 ∷ []) (20 ∷ 21 ∷ 22 ∷ []) tt) def)))

pub registry_ends : RegistryEnds
unfolding registry_answer message_answer
registry_ends m registry =
    ends _ _ _ tt (λ u. refl)
    (listed_long _ _ (tabled tt)
    (listed_reading _ _ (tabled tt) (tabled tt) λ defs. listed_verdict (listed_build (includes (1 ∷ 2 ∷ 3 ∷ 10 ∷ 11 ∷ []) (10 ∷ 11 ∷ []) tt) defs)))

pub substitute_ends : SubstituteEnds
unfolding substitute_answer substitute_tapes tree_answer
substitute_ends b limit file definition input =
    ends _ _ _ tt (λ t. (t, refl))
    (listed_long _ _ (tabled tt)
    (listed_reading _ _ (tabled tt) (tabled tt) λ def.
    listed_reading _ _ (tabled tt) (tabled tt) λ call.
    listed_fits (said_substitute (unasked itself limit file) def (anything _) call (anything _))))

listed_expansion : {numbers : List ℕ} → Includes numbers expansion_numbers → (limit file : ℕ) (registry input : List ℕ)
    → Listed numbers (expand_tapes limit file registry input)
unfolding expand_tapes
listed_expansion wide limit file registry input =
    listed_reading _ _ (wide _ (tabled tt)) (wide _ (tabled tt)) λ defs.
    listed_reading _ _ (wide _ (tabled tt)) (wide _ (tabled tt)) λ c.
    listed_expand wide limit file defs c

pub expand_ends : ExpandEnds
unfolding expand_answer tree_answer
expand_ends b limit file registry input = ends _ _ _ tt (λ t. (t, refl)) (listed_long _ _ (tabled tt) (listed_expansion itself limit file registry input))

-- ------------------------------------------------------------------ the operations of document 02

pub preview_ends : PreviewEnds
unfolding preview_answer preview
preview_ends w m limit file registry input =
    ends (λ (t : Tree). []) _ _ tt (λ t. refl) (listed_long _ _ (tabled tt) (listed_expansion itself limit file registry input))

rows : (l : List Refused) → Rows (list_bytes l)
unfolding list_bytes refused_bytes le
rows [] = (0, refl)
rows (r ∷ rs) =
    let rest = rows rs in
    (rest.0 + 1, omega (arith, rest.1, length-append (refused_bytes r) (list_bytes rs)))

pub library_ends : LibraryEnds
unfolding library_answer library_tapes result_answer
library_ends r m registry =
    ends _ _ _ tt rows
    (listed_long _ _ (tabled tt)
    (listed_reading _ _ (tabled tt) (tabled tt) λ defs.
    listed_unless _ _ (listed_build (includes (1 ∷ 2 ∷ 3 ∷ 10 ∷ 11 ∷ []) (10 ∷ 11 ∷ []) tt) defs) (good_done tt)))

pub check_at_ends : CheckAtEnds
unfolding check_at_answer message_answer check_found
check_at_ends m registry i =
    ends _ _ _ tt (λ u. refl)
    (listed_long _ _ (tabled tt)
    (listed_reading _ _ (tabled tt) (tabled tt) λ defs.
    listed_unless _ _ (listed_build (includes _ (10 ∷ 11 ∷ []) tt) defs) (listed_verdict (of_found (definition_at defs i)))))
  where
    of_found : (o : Option MacroDef) → Given (λ r. Tabled (1 ∷ 2 ∷ 3 ∷ 10 ∷ 11 ∷ 20 ∷ 21 ∷ 22 ∷ []) r) (check_found o)
    of_found none = passes
    of_found (some d) = listed_check (includes _ (20 ∷ 21 ∷ 22 ∷ []) tt) d

module _ where
  abbrev merging : List ℕ
  merging = 1 ∷ 2 ∷ 3 ∷ 10 ∷ 11 ∷ 51 ∷ []

  listed_limits : {A : Type 0} (large : Bool) (span n : ℕ) (a : A) → Listed merging (proceed (check_limits large span n) (λ u k. Outcome.done a k))
  unfolding check_limits proceed
  listed_limits true span n a = good_refused (tabled tt)
  listed_limits false span n a = good_done tt

  listed_merge : (first second : List MacroDef) (n : ℕ) → Listed merging (merge first second n)
  unfolding merge ◌>>=◌ ◌>>◌ refuse_differing proceed
  listed_merge first second n = go (first_differing first second)
    where
      go : (o : Option MacroDef)
          → Listed merging (proceed (refuse_differing o n) (λ u. ◌>>=◌ (check_limits (too_large_registry (joined first second)) 0) (λ v. λ k. Outcome.done (joined first second) k)))
      go (some d) = good_refused (tabled tt)
      go none = listed_limits (too_large_registry (joined first second)) 0 n (joined first second)

  pub merge_ends : MergeEnds
  unfolding merge_answer merge_tapes result_answer registry_tape
  merge_ends r m first second =
      ends _ _ _ tt (λ defs. (defs, refl))
      (listed_long _ _ (tabled tt)
      (listed_reading _ _ (tabled tt) (tabled tt) λ ds.
      listed_reading _ _ (tabled tt) (tabled tt) λ es.
      listed_unless _ _ (listed_build (includes _ (10 ∷ 11 ∷ []) tt) ds)
      (listed_unless _ _ (listed_build (includes _ (10 ∷ 11 ∷ []) tt) es) (listed_merge ds es 0))))

pub judge_ends : JudgeEnds
unfolding judge_answer judge_tapes tree_answer judge require_equal
judge_ends b limit file registry input supplied =
    ends _ _ _ tt (λ t. (t, refl))
    (listed_long _ _ (tabled tt)
    (listed_reading _ _ (tabled tt) (tabled tt) λ defs.
    listed_reading _ _ (tabled tt) (tabled tt) λ c.
    listed_reading _ _ (tabled tt) (tabled tt) λ theirs.
    step (listed_expand (includes _ expansion_numbers tt) limit file defs c) λ ours n t. equal _ ours n))
  where
    equal : (same : Bool) (ours : Tree) (n : ℕ) → Listed (50 ∷ expansion_numbers) (require_equal same ours n)
    equal true ours n = good_done tt
    equal false ours n = good_refused (tabled tt)

abbrev ruled : Verdict → Type 0
ruled v = Given (λ r. Tabled (2 ∷ 3 ∷ 53 ∷ 54 ∷ 55 ∷ []) r) v

pub profile_ends : ProfileEnds
unfolding profile_answer profile rule profile_from
profile_ends input = ends _ _ _ tt (λ u. refl) (listed_reading _ _ (tabled tt) (tabled tt) λ c. listed_verdict (from _ 0))
  where
    by_rule : (number : ℕ) → ((span : ℕ) → Tabled (2 ∷ 3 ∷ 53 ∷ 54 ∷ 55 ∷ []) (refusal number span [])) → (broken : Bool) (span : ℕ) → ruled (rule broken number span)
    by_rule number t true span = refused (t span)
    by_rule number t false span = passes

    from : (ps : List Placed) (nodes : ℕ) → ruled (profile_from nodes ps)
    from [] nodes = passes
    from (p ∷ ps) nodes =
        both (by_rule 53 (λ s. tabled tt) _ 0) (both (by_rule 54 (λ s. tabled tt) _ 0) (both (by_rule 55 (λ s. tabled tt) _ p.1) (from ps _)))

pub older_ends : OlderEnds
unfolding older_answer older_tape older_of unless_out number_alone
older_ends n bytes = ends _ _ _ tt (λ es. (es, refl)) (listed_long _ _ (tabled tt) (of_kind (kind_of (first_code bytes))))
  where
    fits : {A : Type 0} (b : Bool) (a : A) → Listed (1 ∷ 2 ∷ 3 ∷ 52 ∷ []) (unless_out b a)
    fits true a = good_done tt
    fits false a = good_refused (tabled tt)

    of_kind : (o : Option Kind)
        → Listed (1 ∷ 2 ∷ 3 ∷ 52 ∷ []) (elim o as (λ x. Outcome (List Entry)) [ some k ↦ older_of (root_of k) bytes | none ↦ reading (read_tape bytes) λ es. number_alone 2 ])
    of_kind none = listed_reading _ _ (tabled tt) (tabled tt) λ es. good_refused (tabled tt)
    of_kind (some k) = listed_reading _ _ (tabled tt) (tabled tt) λ a. fits _ _

-- ------------------------------------------------------------------ provider tapes

pub provider_ends : ProviderEnds
unfolding provider_answer
provider_ends tape = ends _ _ _ tt (λ u. refl) (listed_reading _ _ (tabled tt) (tabled tt) λ p. good_done tt)

listed_turned : {A : Type 0} {numbers : List ℕ} (number : ℕ) (o : Option A) → Tabled numbers (refusal number 0 []) → Listed numbers (turned number o)
unfolding turned number_alone
listed_turned number none t = good_refused t
listed_turned number (some a) t = good_done tt

pub argument_ends : ArgumentEnds
unfolding argument_to_term_answer turning_answer
argument_ends r tape =
    ends _ _ _ tt (λ t. (t, refl)) (listed_long _ _ (tabled tt) (listed_reading _ _ (tabled tt) (tabled tt) λ a. listed_turned 56 _ (tabled tt)))

pub term_ends : TermEnds
unfolding term_to_argument_answer turning_answer
term_ends r tape =
    ends _ _ _ tt (λ a. (a, refl)) (listed_long _ _ (tabled tt) (listed_reading _ _ (tabled tt) (tabled tt) λ a. listed_turned 58 _ (tabled tt)))
