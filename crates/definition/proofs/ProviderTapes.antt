-- Arguments and terms turned into one another on tapes: specs/ProviderPromises.antt.
-- Assumes nothing.
use Prim.Native.Nat.{ℕ, suc, ◌+◌, ◌*◌, ◌-◌, ◌^◌, ◌≤◌, ◌<◌}
use native.Mathlib.Omega.{arith}
use mathlib.Core.Path.{◌≡◌, refl, sym, ◌∙◌, ap}
use mathlib.Core.Logic.{◌≢◌}
use mathlib.Core.List.{List, [], ◌∷◌, ◌++◌}
use mathlib.Core.Bool.{Bool, true, false, ◌&&◌}
use mathlib.Core.Option.{Option, none, some}
use borrow.Author.Tests.{le-leb}
use lib.Dec.{T, leb, lit≤}
use lib.ListN.{length, replicate}
use lib.Seq.{take_at}
use Rattle.format.specs.Entry.{Text, Entry, le, codes_of, text_of, encode}
use Rattle.format.specs.Ast.{Term, Terms}
use Rattle.format.specs.Flat.{flat_term, flat_terms, length_terms}
use Rattle.format.specs.Limits.{node_weight, call_weight, deep_term, deep_terms}
use Rattle.format.specs.Replace.{Replacement, replace_term, replace_terms}
use Rattle.format.specs.DeMorgan.{de_morgan}
use Rattle.format.specs.Macro.{is_code}
use Rattle.format.specs.Provider.{Arg, Args, Provider, flat_argument, flat_arguments, length_arguments, deep_argument, deep_arguments}
use Rattle.format.specs.Utf8.{well_formed, well_texts}
use Rattle.format.specs.Tape.{Reading, Root, longest_text, texts_within, short_texts, small, provider_root, argument_root, term_root, accept, read, Bytes}
use Rattle.format.proofs.All.{All, all_nil, all_cons, all_append}
use Rattle.format.proofs.Bytes.{bytes_encode, bytes_text}
use Rattle.format.proofs.Becomes.{NoOr}
use Rattle.format.proofs.Accepted.{Values64, InRange, OnTape, accepted_on_tape}
use Rattle.format.proofs.Encodes.{from_le_le, length_encode, fitting}
use Rattle.format.proofs.Exact.{lawful_argument, lawful_term, on_tape_accepted}
use Rattle.format.proofs.Rewritten.{read_from, on_tape_read}
use Rattle.format.proofs.LastYear.{rewrites_term}
use Rattle.definition.specs.Outcome.{Outcome}
use Rattle.definition.specs.Answers.{Answer, padded, answer, number_alone, reading}
use Rattle.definition.specs.Older.{result_alone}
use Rattle.definition.specs.Provider.{turn, turn_both, argument_to_term, term_to_argument, terms_to_arguments, turned, turning_answer, argument_to_term_answer, term_to_argument_answer, provider_answer}
use Rattle.definition.specs.ProviderPromises.{is_none, gives, tape_in, Returns, ArgumentReturns, TermReturns, GivenBy, ArgumentGiven, TermGiven, RefusedBy, Refuses56, Refuses58, ProviderNumbers, ProviderAccepts}
use Rattle.definition.proofs.Provider.{Becomes, string, integer, decimal, bool, set, BecomeAll, no_more, one_more, becomes, became, there_and_back, fields_only, foreign_only}

-- ------------------------------------------------------------------ entries that differ in nothing but their codes

-- and whose texts may be equally long
data Alike : List Entry → List Entry → Type 0 where
  alike_nil : Alike [] []
  alike : {c d v : ℕ} {t : Text} {es fs : List Entry} → longest_text c ≡ longest_text d → (c < 256) × (d < 256) → Alike es fs
      → Alike (record { code = c; value = v; text = t } ∷ es) (record { code = d; value = v; text = t } ∷ fs)

alike_append : {es fs gs hs : List Entry} → Alike es fs → Alike gs hs → Alike (es ++ gs) (fs ++ hs)
alike_append alike_nil k = k
alike_append (alike e b h) k = alike e b (alike_append h k)

alike_sym : {es fs : List Entry} → Alike es fs → Alike fs es
alike_sym alike_nil = alike_nil
alike_sym (alike e b h) = alike (sym e) (b.1, b.0) (alike_sym h)

alike_length : {es fs : List Entry} → Alike es fs → length es ≡ length fs
alike_length alike_nil = refl
alike_length (alike e b h) = ap suc (alike_length h)

alike_text : {es fs : List Entry} → Alike es fs → text_of es ≡ text_of fs
unfolding text_of
alike_text alike_nil = refl
alike_text (alike {t = t} e b h) = ap (λ (u : Text). t ++ u) (alike_text h)

alike_values : {es fs : List Entry} → Alike es fs → Values64 es → Values64 fs
alike_values alike_nil h = all_nil
alike_values (alike e b k) (all_cons q h) = all_cons q (alike_values k h)

alike_whole : {es fs : List Entry} → Alike es fs → well_texts es ≡ well_texts fs
unfolding well_texts
alike_whole alike_nil = refl
alike_whole (alike {t = t} e x h) = ap (λ (b : Bool). well_formed t && b) (alike_whole h)

alike_short : {es fs : List Entry} → Alike es fs → short_texts es ≡ short_texts fs
unfolding texts_within
alike_short alike_nil = refl
alike_short (alike {t = t} e b h) = rw (e, alike_short h) refl

alike_range : {es fs : List Entry} → Alike es fs → InRange es → InRange fs
alike_range h r =
    record {
      values = alike_values h r.values;
      sizes = rw (alike_length h, alike_text h) at r.sizes;
      texts = rw (alike_whole h) at r.texts;
    }

-- the second is bytes on a tape, if the first is
alike_codes : {es fs : List Entry} → Alike es fs → Bytes (codes_of fs)
unfolding codes_of
alike_codes alike_nil = tt
alike_codes (alike e b h) = (b.1, alike_codes h)

alike_bytes : {es fs : List Entry} → Alike es fs → Bytes (encode es) → Bytes (encode fs)
alike_bytes {es} {fs} h q = bytes_encode fs (alike_codes h) (rw (alike_text h) at (bytes_text es q))

-- ------------------------------------------------------------------ an argument and its term

pub become_length : {items : Args} {ts : Terms} → BecomeAll items ts → length_arguments items ≡ length_terms ts
unfolding length_arguments length_terms
become_length no_more = refl
become_length (one_more h k) = ap suc (become_length k)

mutual
  unfolding flat_argument flat_term longest_text is_code

  alike_becomes : {a : Arg} {t : Term} → Becomes a t → Alike (flat_argument a) (flat_term t)
  alike_becomes string = alike refl (lit≤ tt, lit≤ tt) alike_nil
  alike_becomes integer = alike refl (lit≤ tt, lit≤ tt) alike_nil
  alike_becomes decimal = alike refl (lit≤ tt, lit≤ tt) alike_nil
  alike_becomes bool = alike refl (lit≤ tt, lit≤ tt) alike_nil
  alike_becomes (set {ts = ts} h) = rw (become_length h) (alike refl (lit≤ tt, lit≤ tt) (alike_all h))

  alike_all : {items : Args} {ts : Terms} → BecomeAll items ts → Alike (flat_arguments items) (flat_terms ts)
  alike_all no_more = alike_nil
  alike_all (one_more h k) = alike_append (alike_becomes h) (alike_all k)

module _ (w : ℕ → ℕ) where
  mutual
    unfolding deep_argument deep_term

    deep_becomes : {a : Arg} {t : Term} → Becomes a t → deep_term w t ≡ deep_argument w a
    deep_becomes string = refl
    deep_becomes integer = refl
    deep_becomes decimal = refl
    deep_becomes bool = refl
    deep_becomes (set h) = ap (λ (n : ℕ). w 29 + n) (deep_all h)

    deep_all : {items : Args} {ts : Terms} → BecomeAll items ts → deep_terms w ts ≡ deep_arguments w items
    deep_all no_more = refl
    deep_all (one_more h k) = rw (deep_becomes h, deep_all k) refl

-- a term that an argument becomes holds no Or, and was the same before the rewriting
mutual
  unfolding flat_term

  no_or_term : {a : Arg} {t : Term} → Becomes a t → All NoOr (flat_term t)
  no_or_term string = all_cons refl all_nil
  no_or_term integer = all_cons refl all_nil
  no_or_term decimal = all_cons refl all_nil
  no_or_term bool = all_cons refl all_nil
  no_or_term (set h) = all_cons refl (no_or_terms h)

  no_or_terms : {items : Args} {ts : Terms} → BecomeAll items ts → All NoOr (flat_terms ts)
  no_or_terms no_more = all_nil
  no_or_terms (one_more h k) = all_append (no_or_term h) (no_or_terms k)

mutual
  unfolding term_to_argument turn turn_both replace_term

  pub argument_of : (x : Replacement) (t : Term) → term_to_argument (replace_term x t) ≡ term_to_argument t
  argument_of x (Term.Integer n) = refl
  argument_of x (Term.Decimal t) = refl
  argument_of x (Term.String t) = refl
  argument_of x (Term.Bool b) = refl
  argument_of x (Term.Array ts) = ap (turn Arg.Set) (arguments_of_lem x ts)
  argument_of x (Term.Entity ty id) = refl
  argument_of x (Term.ContextField path) = refl
  argument_of x (Term.ScopeField path) = refl
  argument_of x (Term.Var n) = refl
  argument_of x Term.Wildcard = refl
  argument_of x (Term.Agg a) = refl
  argument_of x (Term.Arith op l r) = refl
  argument_of x (Term.ParamRef n) = refl
  argument_of x (Term.BinderRef n) = refl

  arguments_of_lem : (x : Replacement) (ts : Terms) → terms_to_arguments (replace_terms x ts) ≡ terms_to_arguments ts
  arguments_of_lem x Terms.no_terms = refl
  arguments_of_lem x (Terms.cons_term t ts) = rw (argument_of x t, arguments_of_lem x ts) refl

-- so it is on the tape that it was read from
term_was_read : (tape : List ℕ) → Bytes tape → (t : Term) (a : Arg) → term_to_argument t ≡ some a → read term_root tape ≡ Reading.accepted t → OnTape term_root tape t
unfolding term_root
term_was_read tape q t a e h =
    let f = read_from term_root rewrites_term tape t h in
    let same : term_to_argument f.given ≡ some a = sym (argument_of de_morgan f.given) ∙ (ap term_to_argument f.is_rewritten ∙ e) in
    let was : some f.given ≡ some t = sym ((there_and_back a f.given).1 same) ∙ (there_and_back a t).1 e in
    let is : f.given ≡ t = cc in
    accepted_on_tape term_root lawful_term.spells tape q t (f.was_given ∙ ap Reading.accepted is)

-- the tape of an argument without a field is, with other codes, that of its term
term_on_tape : (bytes : List ℕ) {a : Arg} {t : Term} → Becomes a t → OnTape argument_root bytes a → OnTape term_root (encode (flat_term t)) t
unfolding argument_root term_root small
term_on_tape bytes {a} {t} h o =
    record {
      encoded = refl;
      range = alike_range (alike_becomes h) o.range;
      small = rw (sym (alike_short (alike_becomes h)), deep_becomes node_weight h, deep_becomes call_weight h) o.small;
    }

argument_on_tape : (bytes : List ℕ) {a : Arg} {t : Term} → Becomes a t → OnTape term_root bytes t → OnTape argument_root (encode (flat_argument a)) a
unfolding argument_root term_root small
argument_on_tape bytes {a} {t} h o =
    record {
      encoded = refl;
      range = alike_range (alike_sym (alike_becomes h)) o.range;
      small = rw (alike_short (alike_becomes h), sym (deep_becomes node_weight h), sym (deep_becomes call_weight h)) o.small;
    }

-- ------------------------------------------------------------------ the answers

module _ {A B : Type 0} (taken : List ℕ → Reading A) (f : A → Option B) (flat : B → List Entry) (number : ℕ) where
  abbrev op : ℕ → List ℕ → Answer
  op = turning_answer taken f flat number

  -- what is turned is answered
  turns : (r : ℕ) (tape : List ℕ) (a : A) (b : B) → leb 12296 r ≡ true → taken tape ≡ Reading.accepted a → f a ≡ some b
      → op r tape ≡ gives r (encode (flat b))
  unfolding turning_answer reading turned answer
  turns r tape a b long h e = rw (long, h, e) refl

  -- and nothing else is 0
  record Turns (r : ℕ) (tape : List ℕ) : Type 0 where
    long : leb 12296 r ≡ true
    from : A
    accepted : taken tape ≡ Reading.accepted from
    into : B
    turns_into : f from ≡ some into

  only_turned : (r : ℕ) (tape : List ℕ) → number ≢ 0 → (op r tape).number ≡ 0 → Turns r tape
  unfolding turning_answer reading turned answer number_alone
  only_turned r tape nonzero h = buffer (leb 12296 r) refl h
    where
      tree : leb 12296 r ≡ true → (a : A) → taken tape ≡ Reading.accepted a → (o : Option B) → f a ≡ o
          → (answer (λ b. encode (flat b)) (result_alone r) (turned number o)).number ≡ 0 → Turns r tape
      tree l a e none k z = absurd (nonzero z)
      tree l a e (some b) k z = record { long = l; from = a; accepted = e; into = b; turns_into = k }

      text : leb 12296 r ≡ true → (o : Reading A) → taken tape ≡ o
          → (answer (λ b. encode (flat b)) (result_alone r) (reading o (λ a. turned number (f a)))).number ≡ 0 → Turns r tape
      text l Reading.malformed e z = absurd (omega arith)
      text l Reading.too_large e z = absurd (omega arith)
      text l (Reading.accepted a) e z = tree l a e (f a) refl z

      buffer : (x : Bool) → leb 12296 r ≡ x
          → (answer (λ b. encode (flat b)) (result_alone r)
          (elim x as (λ y. Outcome B) [ true ↦ reading (taken tape) (λ a. turned number (f a)) | false ↦ number_alone 1 ])).number ≡ 0
          → Turns r tape
      buffer true l z = text l (taken tape) refl z
      buffer false l z = absurd (omega arith)

-- the tape in a buffer
tape_in_lem : (r : ℕ) (es : List Entry) → InRange es → tape_in (padded r (encode es)) ≡ encode es
unfolding tape_in padded encode le
tape_in_lem r es h =
    let f = fitting (length es) (length (text_of es)) h.sizes in
    let n : length es < 256 ^ 4 = omega (arith, f.0) in
    let t : length (text_of es) < 256 ^ 4 = omega (arith, f.1) in
    rw (from_le_le 4 (length es) n, from_le_le 4 (length (text_of es)) t)
    (take_at (encode es) (replicate (r - length (encode es)) 0) (8 + 9 * length es + length (text_of es)) (length_encode es))

-- a tape that was turned stands in a buffer as it was given
given_in : {A B : Type 0} (root : Root A) (taken : List ℕ → Reading A) (f : A → Option B) (flat : B → List Entry) (number : ℕ) → number ≢ 0
    → ((tape : List ℕ) → Bytes tape → (a : A) (b : B) → f a ≡ some b → taken tape ≡ Reading.accepted a → OnTape root tape a)
    → (r : ℕ) (tape : List ℕ) → Bytes tape → (turning_answer taken f flat number r tape).number ≡ 0 → tape_in (padded r tape) ≡ tape
given_in root taken f flat number nonzero on r tape q z =
    let s = only_turned taken f flat number r tape nonzero z in
    let o = on tape q s.from s.into s.turns_into s.accepted in
    rw o.encoded at (tape_in_lem r (root.flat s.from) o.range)

-- there by f, back by g
module _ {A B : Type 0} (source : Root A) (target : Root B) (from_source : List ℕ → Reading A) (from_target : List ℕ → Reading B)
    (f : A → Option B) (g : B → Option A) (n m : ℕ) (nonzero : n ≢ 0)
    (on : (tape : List ℕ) → Bytes tape → (a : A) (b : B) → f a ≡ some b → from_source tape ≡ Reading.accepted a → OnTape source tape a)
    (taken_again : (tape : List ℕ) (a : A) (b : B) → f a ≡ some b → OnTape target tape b → from_target tape ≡ Reading.accepted b)
    (again : (a : A) (b : B) → f a ≡ some b → g b ≡ some a)
    (over : (bytes : List ℕ) (a : A) (b : B) → f a ≡ some b → OnTape source bytes a → OnTape target (encode (target.flat b)) b)
    (same : (a : A) (b : B) → f a ≡ some b → Alike (source.flat a) (target.flat b)) where
  abbrev goes : ℕ → List ℕ → Answer
  goes = turning_answer from_source f target.flat n

  abbrev comes : ℕ → List ℕ → Answer
  comes = turning_answer from_target g source.flat m

  returns : Returns goes comes
  unfolding answer
  returns r tape q z =
      let s = only_turned from_source f target.flat n r tape nonzero z in
      let o = on tape q s.from s.into s.turns_into s.accepted in
      let over-there = over tape s.from s.into s.turns_into o in
      let there : goes r tape ≡ gives r (encode (target.flat s.into)) =
      turns from_source f target.flat n r tape s.from s.into s.long s.accepted s.turns_into in
      let found : tape_in (goes r tape).result ≡ encode (target.flat s.into) =
      ap (λ (a : Answer). tape_in a.result) there ∙ tape_in_lem r (target.flat s.into) over-there.range in
      record {
        its_bytes = rw found (alike_bytes (same s.from s.into s.turns_into) (rw (sym o.encoded) at q));
        its_result = rw found there;
        gives_back = λ k long.
            rw found
            (turns from_target g source.flat m k _ s.into s.from (le-leb 12296 k long)
            (taken_again _ s.from s.into s.turns_into over-there)
            (again s.from s.into s.turns_into)
            ∙ ap (gives k) o.encoded);
      }

pub argument_returns : ArgumentReturns
unfolding argument_to_term_answer term_to_argument_answer argument_root term_root
argument_returns =
    returns argument_root term_root (accept argument_root) (read term_root) argument_to_term term_to_argument 56 58 (λ e. omega arith)
    (λ tape q a t e h. accepted_on_tape argument_root lawful_argument.spells tape q a h)
    (λ tape a t e o. on_tape_read term_root rewrites_term lawful_term o (no_or_term (becomes a t e)))
    (λ a t e. (there_and_back a t).0 e)
    (λ bytes a t e o. term_on_tape bytes (becomes a t e) o)
    (λ a t e. alike_becomes (becomes a t e))

pub term_returns : TermReturns
unfolding argument_to_term_answer term_to_argument_answer argument_root term_root
term_returns =
    returns term_root argument_root (read term_root) (accept argument_root) term_to_argument argument_to_term 58 56 (λ e. omega arith)
    (λ tape q t a e h. term_was_read tape q t a e h)
    (λ tape t a e o. on_tape_accepted argument_root lawful_argument o)
    (λ t a e. (there_and_back a t).1 e)
    (λ bytes t a e o. argument_on_tape bytes (became a t e) o)
    (λ t a e. alike_sym (alike_becomes (became a t e)))

-- ------------------------------------------------------------------ what each can give

given_by : (there back : ℕ → List ℕ → Answer) → Returns there back → Returns back there
    → ((r : ℕ) (tape : List ℕ) → Bytes tape → (there r tape).number ≡ 0 → tape_in (padded r tape) ≡ tape) → GivenBy there back
unfolding answer
given_by there back out home kept r long tape q = (given, gives_it)
  where
    given : (there r tape).number ≡ 0
        → (other : List ℕ) × Bytes other × ((back r other).number ≡ 0) × (tape_in (back r other).result ≡ tape)
    given z =
        let d = out r tape q z in
        let e = d.gives_back r long in (
          tape_in (there r tape).result,
          d.its_bytes,
          ap (λ (a : Answer). a.number) e,
          ap (λ (a : Answer). tape_in a.result) e ∙ kept r tape q z,
        )

    gives_it : (other : List ℕ) × Bytes other × ((back r other).number ≡ 0) × (tape_in (back r other).result ≡ tape) → (there r tape).number ≡ 0
    gives_it p = ap (λ (a : Answer). a.number) (rw p.3 at ((home r p.0 p.1 p.2).gives_back r long))

pub argument_given : ArgumentGiven
unfolding argument_to_term_answer
argument_given =
    given_by argument_to_term_answer term_to_argument_answer argument_returns term_returns
    (given_in argument_root (accept argument_root) argument_to_term flat_term 56 (λ e. omega arith)
    (λ tape q a t e h. accepted_on_tape argument_root lawful_argument.spells tape q a h))

pub term_given : TermGiven
unfolding term_to_argument_answer
term_given =
    given_by term_to_argument_answer argument_to_term_answer term_returns argument_returns
    (given_in term_root (read term_root) term_to_argument flat_argument 58 (λ e. omega arith) (λ tape q t a e h. term_was_read tape q t a e h))

-- ------------------------------------------------------------------ 56 and 58

module _ {A B : Type 0} (taken : List ℕ → Reading A) (f : A → Option B) (flat : B → List Entry) (number : ℕ) where
  refused_by : (r : ℕ) (tape : List ℕ) (a : A) (found : Bool) → 12296 ≤ r → taken tape ≡ Reading.accepted a → is_none (f a) ≡ found
      → RefusedBy number found (turning_answer taken f flat number r tape)
  unfolding turning_answer reading turned answer number_alone is_none
  refused_by r tape a found long h e = rw (le-leb 12296 r long, h) (go (f a) e)
    where
      go : (o : Option B) → is_none o ≡ found → RefusedBy number found (answer (λ b. encode (flat b)) (result_alone r) (turned number o))
      go none k = rw (sym k) refl
      go (some b) k = rw (sym k) refl

pub refuses_56 : Refuses56
unfolding argument_to_term_answer
refuses_56 r tape a long h = refused_by (accept argument_root) argument_to_term flat_term 56 r tape a _ long h (fields_only a)

pub refuses_58 : Refuses58
unfolding term_to_argument_answer
refuses_58 r tape t long h = refused_by (read term_root) term_to_argument flat_argument 58 r tape t _ long h (foreign_only t)

-- ------------------------------------------------------------------ acceptance of a provider tape

pub provider_numbers_lem : ProviderNumbers
unfolding provider_answer reading answer number_alone is_code
provider_numbers_lem tape = go (accept provider_root tape)
  where
    go : (o : Reading Provider)
        → T (is_code (0 ∷ 2 ∷ 3 ∷ []) (answer (λ (u : Unit {0}). []) (result_alone 0) (reading o (λ p. Outcome.done tt 0))).number)
    go Reading.malformed = tt
    go Reading.too_large = tt
    go (Reading.accepted p) = tt

pub provider_accepts : ProviderAccepts
unfolding provider_answer reading answer number_alone
provider_accepts tape = (go (accept provider_root tape), λ p. rw p.1 refl)
  where
    go : (o : Reading Provider) → (answer (λ (u : Unit {0}). []) (result_alone 0) (reading o (λ p. Outcome.done tt 0))).number ≡ 0
        → (p : Provider) × (o ≡ Reading.accepted p)
    go Reading.malformed z = absurd (omega arith)
    go Reading.too_large z = absurd (omega arith)
    go (Reading.accepted p) z = (p, refl)
