-- The answers of the three operations are what the definition says.
-- Assumes nothing.
use Rattle.tape.specs.declared.header.Fault.{Fault}
use Rattle.std.proofs.Common.{Result, Ok, Err}
use Prim.Native.Nat.{ℕ, ◌+◌, ◌*◌, ◌≤◌}
use native.Mathlib.Omega.{arith}
use mathlib.Core.Path.{◌≡◌, refl, sym, ap, ◌∙◌, subst}
use mathlib.Core.List.{List, [], map}
use mathlib.Core.Bool.{Bool, true, false}
use mathlib.Core.Option.{Option as Maybe, none, some}
use lib.Dec.{leb, leb→le}
use lib.ListN.{length, drop, length-map, length-take}
use lib.Seq.{sets}
use Rattle.format.specs.Ast.{Term}
use Rattle.format.specs.DeMorgan.{de_morgan}
use Rattle.format.specs.Entry.{Entry, encode, text_of}
use Rattle.format.specs.Flat.{flat_term}
use Rattle.format.specs.Provider.{Arg, Provider, flat_argument}
use Rattle.format.specs.Tape.{Reading, Root, provider_root, argument_root, term_root, accept, read, Bytes}
use Rattle.format.proofs.Accepted.{InRange, accepted_on_tape}
use Rattle.format.proofs.Encodes.{fitting, length_encode}
use Rattle.format.proofs.Exact.{Lawful, lawful_term, lawful_argument, lawful_provider}
use Rattle.format.proofs.LastYear.{rewrites_term}
use Rattle.format.proofs.Tests.{from_true}
use Rattle.definition.specs.Answers.{Answer, padded, answer, number_alone, reading, open_answers}
use Rattle.definition.specs.Older.{result_alone}
use Rattle.definition.specs.Outcome.{Outcome, open_outcome}
use Rattle.definition.specs.Provider.{turn, turned, turning_answer, argument_to_term, term_to_argument, provider_answer, argument_to_term_answer, term_to_argument_answer}
use Rattle.definition.proofs.ProviderTapes.{argument_of}
use Rattle.grammar.specs.Grammar.{term}
use Rattle.grammar.specs.Provider as sort
use Rattle.grammar.specs.Words.{provider_grammar}
use Rattle.tape.specs.Accept.{accept_by, accept_of}
use Rattle.tape.specs.Header.{fault_number}
use Rattle.tape.specs.Layouts.{tape_layout}
use Rattle.tape.specs.declared.layout.Layout.{Layout}
use Rattle.tape.proofs.Acceptance.{Answers, answers_2, answers_3, answers_tape, answers}
use Rattle.tape.proofs.ProviderRoots.{provider_root_lem, argument_root_lem}
use Rattle.tape.proofs.Roots.{term_root_lem, accepted_root}
use Rattle.answer.specs.Matches.{answer_with, ended}
use Rattle.answer.specs.declared.Answer as code
use Rattle.answer.proofs.Ends.{result_written}
use Rattle.answer.proofs.Operations.{refused_tape, read_rewritten, ends_short, ends_refused}
use Rattle.provider.specs.declared.Way.{Way}
use Rattle.provider.specs.declared.Way.TheVariants.{ToTerm, ToArgument}
use Rattle.provider.specs.Turned.{turned_or_0, any_lost, lost_number, turned_on, codes_in, turned_in, AnswersTurned}
use Rattle.provider.proofs.Codes.{turned_padded}
use Rattle.provider.proofs.Turned.{argument_turned, term_turned}

-- ------------------------------------------------------------------ what was written, or not

module _ (way : Way) (s : List ℕ) (l : Layout) (before : List ℕ) {codes : List ℕ} {lost : Bool} (c : codes ≡ codes_in s l)
    (w : lost ≡ any_lost way codes) where
  pub in_lost : {a : Answer} → lost ≡ true → a ≡ ended (result_alone (length before)) (number_alone (lost_number way))
      → AnswersTurned way s l (length before) a
  unfolding AnswersTurned ended answer turned number_alone
  in_lost t e inside room =
      let f : any_lost way (codes_in s l) ≡ true = sym (w ∙ ap (any_lost way) c) ∙ t in
      rw f e

  pub in_turned : {r : code.Answer} {after : List ℕ} → lost ≡ false → after ≡ turned_on before s (map (turned_or_0 way) codes)
      → answer_with r [] [] [] ≡ ended (result_alone 0) (number_alone 0) → AnswersTurned way s l (length before) (answer_with r after [] [])
  unfolding AnswersTurned turned number_alone
  in_turned {after = after} t e z inside room =
      let f : any_lost way (codes_in s l) ≡ false = sym (w ∙ ap (any_lost way) c) ∙ t in
      let cs = map (turned_or_0 way) (codes_in s l) in
      let k : length cs ≤ l.entries = omega (arith, length-map (codes_in s l) (turned_or_0 way), length-take l.entries (drop l.codes s)) in
      let p : after ≡ padded (length before) (sets s 8 cs) =
      e ∙ ap (λ (x : List ℕ). turned_on before s (map (turned_or_0 way) x)) c ∙ turned_padded before s cs room (omega arith) in
      rw f (result_written (λ (t : List ℕ). t) (length before) 0 0 (sets s 8 cs) 0 p z)

-- ------------------------------------------------------------------ a tape turned, as the definition has it

module _ {A B : Type 0} (taken : List ℕ → Reading A) (f : A → Maybe B) (flat : B → List Entry) (number n : ℕ) (s : List ℕ) {a : Answer} where
  turning_short : leb 12296 n ≡ false → a ≡ ended (result_alone n) (number_alone 1) → a ≡ turning_answer taken f flat number n s
  unfolding turning_answer
  turning_short h e =
      ends_short (λ (b : B). encode (flat b)) (result_alone n) (reading (taken s) (λ a. turned number (f a))) h e

  turning_refused : (m : ℕ) → leb 12296 n ≡ true → reading (taken s) (λ a. turned number (f a)) ≡ number_alone m → a ≡ ended (result_alone n) (number_alone m)
      → a ≡ turning_answer taken f flat number n s
  unfolding turning_answer
  turning_refused m h q e =
      ends_refused (λ (b : B). encode (flat b)) (result_alone n) (reading (taken s) (λ a. turned number (f a))) m h q e

  turning_done : leb 12296 n ≡ true → (x : A) → reading (taken s) (λ a. turned number (f a)) ≡ turned number (f x) → {t : Maybe (List ℕ)}
      → t ≡ turn (λ (b : B). encode (flat b)) (f x) → a ≡ answer (λ (t : List ℕ). t) (result_alone n) (turned number t)
      → a ≡ turning_answer taken f flat number n s
  unfolding turning_answer turn turned answer number_alone
  turning_done h x q p e = e ∙ rw (h, q, p) (go (f x))
    where
      go : (o : Maybe B) → answer (λ (t : List ℕ). t) (result_alone n) (turned number (turn (λ (b : B). encode (flat b)) o))
          ≡ answer (λ (b : B). encode (flat b)) (result_alone n) (turned number o)
      go none = refl
      go (some b) = refl

-- ------------------------------------------------------------------ what an accepted tape is

pub record Given (es : List Entry) (s : List ℕ) (l : Layout) : Type 0 where
  pub encoded : encode es ≡ s
  pub codes_at : l.codes ≡ 8
  pub counted : l.entries ≡ length es
  pub inside : 8 + l.entries ≤ length s
  pub short : length s ≤ 12296

given : {es : List Entry} {s : List ℕ} {l : Layout} → encode es ≡ s → InRange es → l ≡ tape_layout (length es) (length (text_of es)) → Given es s l
given {es} {s} {l} e r p =
    let most = fitting (length es) (length (text_of es)) r.sizes in
    let n : length s ≡ 8 + 9 * length es + length (text_of es) = sym (ap length e) ∙ length_encode es in
    let k : l.entries ≡ length es = ap (λ (m : Layout). m.entries) p in
    record {
      encoded = e;
      codes_at = ap (λ (m : Layout). m.codes) p;
      counted = k;
      inside = omega (arith, n, k);
      short = omega (arith, n, most.0, most.1);
    }

-- what was accepted, and what was not, by any table
module _ {A : Type 0} (root : Root A) (law : Lawful root) (s : List ℕ) (bytes : Bytes s) {o : Result Layout Fault} (h : Answers root s o (accept root s)) where
  accepted_by : {l : Layout} → o ≡ Ok l → (x : A) × (accept root s ≡ Reading.accepted x) × Given (root.flat x) s l
  accepted_by {l} e = go h e refl
    where
      go : {o : Result Layout Fault} {y : Reading A} → Answers root s o y → o ≡ Ok l → accept root s ≡ y
          → (x : A) × (accept root s ≡ Reading.accepted x) × Given (root.flat x) s l
      go answers_2 e q = absurd cc
      go answers_3 e q = absurd cc
      go (answers_tape {a = x} {l = k} h p) e q =
          let tape = accepted_on_tape root law.spells s bytes x q in
          (x, q, given tape.encoded tape.range (cc))

  refused_by : {B : Type 0} {f : Fault} (k : A → Outcome B) → o ≡ Err f → reading (accept root s) k ≡ number_alone (fault_number f)
  unfolding reading
  refused_by {f = f} k e = go h e
    where
      go : {o : Result Layout Fault} {y : Reading A} → Answers root s o y → o ≡ Err f → reading y k ≡ number_alone (fault_number f)
      go answers_2 e = ap number_alone cc
      go answers_3 e = ap number_alone cc
      go (answers_tape h p) e = absurd cc

-- ------------------------------------------------------------------ provider

abbrev passed : Outcome (Unit {0})
passed = Outcome.done tt 0

module _ (s : List ℕ) (bytes : Bytes s) {a : Answer} where
  pub provider_accepted : {l : Layout} → accept_by provider_grammar 64 s sort.root ≡ Ok l → a ≡ ended (result_alone 0) (number_alone 0) → a ≡ provider_answer s
  unfolding provider_answer reading ended open_answers open_outcome
  provider_accepted e k = let x = accepted_by provider_root lawful_provider s bytes (answers provider_root_lem s) e in rw x.1 k

  pub provider_refused : {f : Fault} → accept_by provider_grammar 64 s sort.root ≡ Err f → a ≡ ended (result_alone 0) (number_alone (fault_number f)) → a ≡ provider_answer s
  unfolding provider_answer ended
  provider_refused e k = rw (refused_by provider_root lawful_provider s bytes (answers provider_root_lem s) (λ (p : Provider). passed) e) k

-- ------------------------------------------------------------------ argument to term

module _ (n : ℕ) (s : List ℕ) {a : Answer} where
  pub argument_short : leb 12296 n ≡ false → a ≡ ended (result_alone n) (number_alone 1) → a ≡ argument_to_term_answer n s
  unfolding argument_to_term_answer
  argument_short = turning_short (accept argument_root) argument_to_term flat_term 56 n s

  module _ (bytes : Bytes s) (long : leb 12296 n ≡ true) where
    pub argument_refused : {f : Fault} → accept_by provider_grammar 64 s sort.argument ≡ Err f → a ≡ ended (result_alone n) (number_alone (fault_number f))
        → a ≡ argument_to_term_answer n s
    unfolding argument_to_term_answer
    argument_refused {f} e =
        turning_refused (accept argument_root) argument_to_term flat_term 56 n s (fault_number f) long (refused_by argument_root lawful_argument s bytes (answers argument_root_lem s) (λ x. turned 56 (argument_to_term x)) e)

    pub argument_given : {l : Layout} → accept_by provider_grammar 64 s sort.argument ≡ Ok l → AnswersTurned ToTerm s l n a
        → a ≡ argument_to_term_answer n s
    unfolding AnswersTurned argument_to_term_answer argument_root reading
    argument_given {l} e h =
        let x = accepted_by argument_root lawful_argument s bytes (answers argument_root_lem s) e in
        let g = x.2 in
        turning_done (accept argument_root) argument_to_term flat_term 56 n s long x.0 (rw x.1 refl)
        (subst (λ (t : List ℕ). turned_in ToTerm t l ≡ turn (λ (t : Term). encode (flat_term t)) (argument_to_term x.0)) g.encoded
        (argument_turned x.0 l g.codes_at g.counted))
        (h g.inside (omega (arith, leb→le 12296 n (from_true long), g.short)))

  -- ------------------------------------------------------------------ term to argument

  pub term_short : leb 12296 n ≡ false → a ≡ ended (result_alone n) (number_alone 1) → a ≡ term_to_argument_answer n s
  unfolding term_to_argument_answer
  term_short = turning_short (read term_root) term_to_argument flat_argument 58 n s

  module _ (bytes : Bytes s) (long : leb 12296 n ≡ true) where
    pub term_refused : {f : Fault} → accept_of s term ≡ Err f → a ≡ ended (result_alone n) (number_alone (fault_number f)) → a ≡ term_to_argument_answer n s
    unfolding term_to_argument_answer
    term_refused {f} e =
        turning_refused (read term_root) term_to_argument flat_argument 58 n s (fault_number f) long
        (read_rewritten rewrites_term lawful_term s bytes (λ x. turned 58 (term_to_argument x)) ∙ refused_tape term_root term_root_lem s _ e)

    -- what becomes an argument is its own rewriting, and what becomes none has a rewriting that becomes none
    pub term_given : {l : Layout} → accept_of s term ≡ Ok l → AnswersTurned ToArgument s l n a → a ≡ term_to_argument_answer n s
    unfolding AnswersTurned term_to_argument_answer term_root reading
    term_given {l} e h =
        let x = accepted_root term_root_lem s bytes l e in
        let g = given x.1.encoded x.1.in_range x.1.layout_is in
        turning_done (read term_root) term_to_argument flat_argument 58 n s long x.0
        (read_rewritten rewrites_term lawful_term s bytes (λ x. turned 58 (term_to_argument x))
        ∙ rw x.1.reading (ap (turned 58) (argument_of de_morgan x.0)))
        (subst (λ (t : List ℕ). turned_in ToArgument t l ≡ turn (λ (a : Arg). encode (flat_argument a)) (term_to_argument x.0)) g.encoded
        (term_turned x.0 l g.codes_at g.counted))
        (h g.inside (omega (arith, leb→le 12296 n (from_true long), g.short)))
