-- The merge's answer: what it came to, over two accepted tapes or their rewritings, is what the definition says.
-- Assumes nothing.
use Rattle.messages.specs.declared.Refused.{Refused}
use Rattle.std.proofs.Common.{Result, Ok, Err}
use Prim.Native.Nat.{ℕ, ◌≤◌}
use native.Mathlib.Omega.{arith}
use mathlib.Core.Path.{◌≡◌, refl, sym, ap, ◌∙◌}
use mathlib.Core.List.{List, []}
use mathlib.Core.Bool.{Bool, true, false, not, ◌&&◌}
use mathlib.Core.Option.{Option as Maybe, none, some}
use lib.Dec.{leb, leb→le, eqb, eqb→eq}
use lib.ListN.{length, replicate, length-replicate}
use Rattle.grammar.specs.Grammar as grammar
use Rattle.format.specs.Ast.{MacroDef}
use Rattle.format.specs.Flat.{flat_registry}
use Rattle.format.specs.Tape.{Reading, registry_root, read, rewritten, Bytes}
use Rattle.format.proofs.Exact.{lawful_registry}
use Rattle.format.proofs.Rewritten.{rewrites_registry}
use Rattle.format.proofs.Tests.{and_left, and_right, from_true}
use Rattle.definition.specs.Outcome.{Outcome, Walk, pure, ◌>>◌, open_outcome}
use Rattle.definition.specs.Check as definition
use Rattle.definition.specs.Registry.{build}
use Rattle.definition.specs.Substitute.{check_limits}
use Rattle.definition.specs.Expand.{unless}
use Rattle.definition.specs.Answers.{Answer, answer, message_alone, without_work, number_alone, reading, verdict, registry_answer, message_answer, result_answer}
use Rattle.definition.specs.Merge.{first_differing, joined, refuse_differing, too_large_registry, merge, merge_tapes, registry_tape, merge_answer}
use Rattle.definition.proofs.Kept.{registry_bounded}
use Rattle.tape.specs.Pick.{pick}
use Rattle.tape.specs.Header.{fault_number}
use Rattle.tape.specs.Ors.{ors_in}
use Rattle.tape.specs.declared.header.Fault.{Fault}
use Rattle.tape.specs.declared.layout.Layout.{Layout}
use Rattle.tape.proofs.Located.{Alone}
use Rattle.tape.proofs.Roots.{Accepted, registry_root_lem, accepted_root}
use Rattle.de_morgan.specs.Rewritten.{rewritten_in, rewritten_layout}
use Rattle.de_morgan.proofs.Rewritten.{rewritten_alone, given_alone}
use Rattle.area.specs.Area.{fits_area}
use Rattle.messages.specs.Reason.{refused_at, message_of}
use Rattle.messages.specs.declared.Reason.TheVariants.{WithoutMessage}
use Rattle.walk_state.specs.Writing.{Progress}
use Rattle.answer.specs.Matches.{ended, message_in, VerdictMatches}
use Rattle.answer.specs.Tapes.{accept_two}
use Rattle.answer.proofs.Operations.{refused_tapes, accepted_read, first_accepted, second_accepted, read_two, ends_short, ends_refused}
use Rattle.registry.specs.Places.{index_at, build_at}
use Rattle.registry.proofs.Standing.{indexed_registry, ended_registry}
use Rattle.registry.proofs.Verdicts.{build_matches}
use Rattle.merge.specs.Join.{MergingIn, after_names, merged_of, merged_in, joined_in, merge_in}
use Rattle.merge.specs.Ends.{MergingMatches, AnswersMerging, EndsMerge}
use Rattle.merge.specs.declared.join.Refusing.TheVariants.{First}
use Rattle.merge.proofs.Joining.{JoinsTo, joins, differs, joined_is}

-- ------------------------------------------------------------------ the definition's outcome

-- 10 and 11 of the one, then of the other, and then what is joined
abbrev find : List MacroDef → List MacroDef → Outcome (List MacroDef)
find ds es = unless (build ds) (unless (build es) (merge ds es)) 0

-- what is joined, from the definition that differs and whether it is too large
abbrev walked : Maybe MacroDef → Bool → List MacroDef → Walk (List MacroDef)
walked o b defs = do
  refuse_differing o
  check_limits b 0
  pure defs

module _ (s : List ℕ) (d : Layout) (t : List ℕ) (e : Layout) where
  joined_matches : {X : Progress} {o : Maybe MacroDef} {defs : List MacroDef} → JoinsTo X o defs
      → MergingMatches s d t e (merged_of X.walk) X.bytes (walked o (too_large_registry defs) defs 0)
  unfolding MergingMatches merged_of refuse_differing check_limits too_large_registry open_outcome message_of
  joined_matches (differs w) = rw w (refl, record { its_number = refl; its_span = refl; its_message = refl })
  joined_matches {X} {defs = defs} (joins {st = st} w h) =
      rw w (by_size st.out.overflowed (fits_area (flat_registry defs)) h.overflows refl)
    where
      by_size : (over b : Bool) → over ≡ not b → fits_area (flat_registry defs) ≡ b
          → MergingMatches s d t e (pick over (Err (First (refused_at 0 (WithoutMessage 3)))) (Ok st.out)) X.bytes (walked none (not b) defs 0)
      by_size over true q f = rw q (refl, h, f)
      by_size over false q f = rw q (refl, record { its_number = refl; its_span = refl; its_message = refl })

  names_match : (v w : Result Unit Refused) (a b : definition.Verdict) (bytes : List ℕ) (X : MergingIn) (m : Walk (List MacroDef)) → VerdictMatches s d v a → VerdictMatches t e w b
      → MergingMatches s d t e X.outcome X.bytes (m 0)
      → MergingMatches s d t e (after_names v w bytes X).outcome (after_names v w bytes X).bytes (unless a (unless b m) 0)
  unfolding MergingMatches VerdictMatches unless
  names_match (Ok i) (Ok j) none none bytes X m p q h = h
  names_match (Ok i) (Ok j) none (some r) bytes X m p q h = absurd q
  names_match (Ok i) (Err f) none none bytes X m p q h = absurd q
  names_match (Ok i) (Err f) none (some r) bytes X m p q h = (refl, q)
  names_match (Ok i) w (some r) b bytes X m p q h = absurd p
  names_match (Err f) w none b bytes X m p q h = absurd p
  names_match (Err f) w (some r) b bytes X m p q h = (refl, p)

  merge_matches : {ds es : List MacroDef} (bytes : List ℕ) → Alone registry_root s d ds → Alone registry_root t e es → 12288 ≤ length bytes
      → MergingMatches s d t e (merge_in s d t e 255 bytes).outcome (merge_in s d t e 255 bytes).bytes (find ds es)
  unfolding merge_in merge registry_root
  merge_matches {ds} {es} bytes h g k =
      names_match (build_at s d (index_at s d 255)) (build_at t e (index_at t e 255)) (build ds) (build es) bytes (merged_in (joined_in s d (index_at s d 255) t e bytes)) (merge ds es)
      (build_matches (indexed_registry ds h)) (build_matches (indexed_registry es g))
      (joined_matches (joined_is (indexed_registry ds h) (ended_registry ds h) es bytes h.inside g.inside k))

-- ------------------------------------------------------------------ messages fit

merge_silent : (ds es : List MacroDef) → length (message_in (merge ds es 0)) ≡ 0
unfolding merge refuse_differing check_limits open_outcome
merge_silent ds es = go (first_differing ds es) (too_large_registry (joined ds es))
  where
    go : (o : Maybe MacroDef) (b : Bool) → length (message_in (walked o b (joined ds es) 0)) ≡ 0
    go none true = refl
    go none false = refl
    go (some x) b = refl

-- the registry's own messages
names_short : (s : List ℕ) {ds : List MacroDef} → Bytes s → read registry_root s ≡ Reading.accepted ds → length (message_in (verdict (build ds))) ≤ 2048
unfolding registry_answer message_answer reading answer verdict
names_short s {ds} bytes r =
    let own : registry_answer 2048 s ≡ answer (λ (u : Unit {0}). []) (message_alone 2048) (verdict (build ds)) = rw r in
    omega (arith, (registry_bounded 2048 s bytes).short_message, ap (λ (a : Answer). a.message_length) own, its_length (build ds))
  where
    its_length : (v : definition.Verdict) → (answer (λ (u : Unit {0}). []) (message_alone 2048) (verdict v)).message_length ≡ length (message_in (verdict v))
    its_length none = refl
    its_length (some x) = refl

find_short : (ds es : List MacroDef) → length (message_in (verdict (build ds))) ≤ 2048 → length (message_in (verdict (build es))) ≤ 2048
    → length (message_in (find ds es)) ≤ 2048
unfolding verdict unless
find_short ds es = go (build ds) (build es)
  where
    go : (a b : definition.Verdict) → length (message_in (verdict a)) ≤ 2048 → length (message_in (verdict b)) ≤ 2048
        → length (message_in (unless a (unless b (merge ds es)) 0)) ≤ 2048
    go none none p q = omega (arith, merge_silent ds es)
    go none (some r) p q = q
    go (some r) b p q = p

-- ------------------------------------------------------------------ the operation

module _ (r m : ℕ) (first second : List ℕ) where
  abbrev long : Bool
  long = leb 12296 r && leb 2048 m

  pub short : {a : Answer} → long ≡ false → a ≡ ended (without_work r m) (number_alone 1) → a ≡ merge_answer r m first second
  unfolding merge_answer result_answer
  short h k = ends_short registry_tape (without_work r m) (merge_tapes first second) h k

  module _ (p : Bytes first) (q : Bytes second) (enough : long ≡ true) where
    pub refused : {f : Fault} {a : Answer} → accept_two first grammar.definitions second grammar.definitions ≡ Err f
        → a ≡ ended (without_work r m) (number_alone (fault_number f)) → a ≡ merge_answer r m first second
    unfolding merge_answer result_answer merge_tapes
    refused {f} h k =
        ends_refused registry_tape (without_work r m) (merge_tapes first second) (fault_number f) enough
        (read_two rewrites_registry rewrites_registry lawful_registry lawful_registry first second p q find
        ∙ refused_tapes registry_root registry_root registry_root_lem registry_root_lem first second (λ x y. find (rewritten registry_root x) (rewritten registry_root y)) h)
        k

    module _ {d e : Layout} (h : accept_two first grammar.definitions second grammar.definitions ≡ Ok (d, e)) where
      one : (x : List MacroDef) × Accepted registry_root first d x
      one = accepted_root registry_root_lem first p d (first_accepted first second grammar.definitions grammar.definitions h)

      two : (y : List MacroDef) × Accepted registry_root second e y
      two = accepted_root registry_root_lem second q e (second_accepted first second grammar.definitions grammar.definitions h)

      abbrev ds : List MacroDef
      ds = rewritten registry_root one.0

      abbrev es : List MacroDef
      es = rewritten registry_root two.0

      first_read : read registry_root first ≡ Reading.accepted ds
      first_read = accepted_read rewrites_registry lawful_registry first p one.1.reading

      second_read : read registry_root second ≡ Reading.accepted es
      second_read = accepted_read rewrites_registry lawful_registry second q two.1.reading

      both_read : merge_tapes first second ≡ find ds es
      unfolding merge_tapes reading
      both_read =
          ap (λ (x : Reading (List MacroDef)). reading x λ xs. reading (read registry_root second) (find xs)) first_read
          ∙ ap (λ (y : Reading (List MacroDef)). reading y (find ds)) second_read

      found : {s t : List ℕ} {d' e' : Layout} {a : Answer} → Alone registry_root s d' ds → Alone registry_root t e' es → EndsMerge s d' t e' r m a
          → a ≡ merge_answer r m first second
      unfolding EndsMerge AnswersMerging merge_answer result_answer
      found i j k =
          let z = from_true enough in
          let result : 12296 ≤ r = leb→le 12296 r (and_left (leb 12296 r) _ z) in
          let message : 2048 ≤ m = leb→le 2048 m (and_right (leb 12296 r) _ z) in
          k (find ds es) (merge_matches _ _ _ _ (replicate 12288 0) i j (omega (arith, length-replicate {A = ℕ} 12288 0))) result
          (omega (arith, message, find_short ds es (names_short first p first_read) (names_short second q second_read)))
          ∙ ap (answer registry_tape (without_work r m)) (sym both_read)
          ∙ ap (λ (b : Bool). answer registry_tape (without_work r m) (elim b [ true ↦ merge_tapes first second | false ↦ number_alone 1 ])) (sym enough)

      -- no tape has an Or
      pub given : {a : Answer} → (eqb (ors_in first d) 0 && eqb (ors_in second e) 0) ≡ true → EndsMerge first d second e r m a
          → a ≡ merge_answer r m first second
      given no_or k =
          let t = from_true no_or in
          found
          (given_alone registry_root_lem rewrites_registry one.1 (eqb→eq (ors_in first d) 0 (and_left (eqb (ors_in first d) 0) _ t)))
          (given_alone registry_root_lem rewrites_registry two.1 (eqb→eq (ors_in second e) 0 (and_right (eqb (ors_in first d) 0) _ t))) k

      pub given_or : {a : Answer}
          → EndsMerge (rewritten_in first d (replicate 12296 0)) (rewritten_layout first d) (rewritten_in second e (replicate 12296 0)) (rewritten_layout second e) r m a
          → a ≡ merge_answer r m first second
      given_or k =
          found
          (rewritten_alone registry_root_lem rewrites_registry one.1 (replicate 12296 0) (omega (arith, length-replicate {A = ℕ} 12296 0)))
          (rewritten_alone registry_root_lem rewrites_registry two.1 (replicate 12296 0) (omega (arith, length-replicate {A = ℕ} 12296 0))) k
