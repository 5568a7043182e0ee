-- The promises of provider tapes: ours meet them, and whatever meets them is ours: specs/Turns.antt.
-- Assumes nothing.
use Prim.Native.Nat.{ℕ, ◌<◌, ◌≤◌}
use native.Mathlib.Omega.{arith}
use mathlib.Core.Path.{◌≡◌, refl, sym, ◌∙◌}
use mathlib.Core.List.{List, []}
use mathlib.Core.Bool.{Bool, true, false}
use mathlib.Core.Option.{Option, none, some, none-ne-some}
use mathlib.Core.Logic.{◌⊎◌, inl, inr}
use borrow.Author.Tests.{le-leb}
use lib.Dec.{leb, leb→le, nleb→lt}
use Rattle.format.specs.Entry.{Entry, encode}
use Rattle.format.specs.Ast.{Term, Terms}
use Rattle.format.specs.Flat.{flat_term}
use Rattle.format.specs.Provider.{Arg, Args, Provider, flat_argument}
use Rattle.format.specs.Tape.{Reading, provider_root, argument_root, term_root, accept, read}
use Rattle.definition.specs.Outcome.{Outcome}
use Rattle.definition.specs.Answers.{Answer, answer, number_alone, reading}
use Rattle.definition.specs.Older.{result_alone}
use Rattle.definition.specs.Provider.{turn, turn_both, argument_to_term, arguments_to_terms, term_to_argument, provider_answer, turned, turning_answer, argument_to_term_answer, term_to_argument_answer}
use Rattle.definition.specs.Returned.{Gives, RefusesAlone, Unread, malformed, too_large}
use Rattle.definition.specs.Turns.{Becomes, string, integer, decimal, bool, set, BecomeAll, no_more, one_more, HasField, field, in_set, AnyHasField, here, later, NoArgument, ComesFrom, AcceptsProvider, Turns, TurnsToTerm, TurnsToArgument}
use Rattle.definition.proofs.Returned.{gives_one, refuses_one, gives, refuses_alone}
use Rattle.definition.proofs.Provider.{is_there, is_back, became}

-- ------------------------------------------------------------------ acceptance

-- what acceptance writes: nothing
abbrev nothing : Unit {0} → List ℕ
nothing u = []

pub accepts_provider : AcceptsProvider provider_answer
unfolding provider_answer reading
accepts_provider = record { unread = λ x why. read_not (accept provider_root x); accepted = λ x p e. read_so (accept provider_root x) p e }
  where
    read_not : (o : Reading Provider) {why : ℕ} → Unread o why
        → RefusesAlone (result_alone 0) why (answer nothing (result_alone 0) (reading o λ p. Outcome.done tt 0))
    read_not o malformed = refuses_alone nothing (result_alone 0) 2
    read_not o too_large = refuses_alone nothing (result_alone 0) 3

    read_so : (o : Reading Provider) (p : Provider) → o ≡ Reading.accepted p
        → Gives (result_alone 0) [] 0 (answer nothing (result_alone 0) (reading o λ p. Outcome.done tt 0))
    read_so o p e = rw e (gives nothing (result_alone 0) tt 0)

pub determined_acceptance : (g : List ℕ → Answer) → AcceptsProvider g → (x : List ℕ) → g x ≡ provider_answer x
determined_acceptance g h x = go (accept provider_root x) refl
  where
    go : (o : Reading Provider) → accept provider_root x ≡ o → g x ≡ provider_answer x
    go Reading.malformed e = refuses_one (h.unread x 2 (rw e malformed)) (accepts_provider.unread x 2 (rw e malformed))
    go Reading.too_large e = refuses_one (h.unread x 3 (rw e too_large)) (accepts_provider.unread x 3 (rw e too_large))
    go (Reading.accepted p) e = gives_one (h.accepted x p e) (accepts_provider.accepted x p e)

-- ------------------------------------------------------------------ turning, in either direction

module _ {A B : Type 0} (taken : List ℕ → Reading A) (Stays : A → Type 0) (number : ℕ) (Into : A → B → Type 0)
    (flat : B → List Entry) where
  abbrev spell : B → List ℕ
  spell b = encode (flat b)

  -- a function of trees that does so, as an operation
  turns : (f : A → Option B) → ((a : A) → Stays a → f a ≡ none) → ((a : A) (b : B) → Into a b → f a ≡ some b)
      → Turns taken Stays number Into flat (turning_answer taken f flat number)
  unfolding turning_answer reading turned
  turns f stays into =
      record {
        short = λ r x s. brief r x (leb 12296 r) refl s;
        unread = λ r x why l u. rw (le-leb 12296 r l) (read_not r (taken x) u);
        refused = λ r x a l e s. rw (le-leb 12296 r l, e, stays a s) (refuses_alone spell (result_alone r) number);
        turned = λ r x a b l e i. rw (le-leb 12296 r l, e, into a b i) (gives spell (result_alone r) b 0);
      }
    where
      brief : (r : ℕ) (x : List ℕ) (b : Bool) → leb 12296 r ≡ b → r < 12296
          → RefusesAlone (result_alone r) 1
          (answer spell (result_alone r)
          (elim b as (λ y. Outcome B) [ true ↦ reading (taken x) (λ a. turned number (f a)) | false ↦ number_alone 1 ]))
      brief r x true e s = absurd (omega (arith, leb→le 12296 r (rw e tt), s))
      brief r x false e s = refuses_alone spell (result_alone r) 1

      read_not : (r : ℕ) (o : Reading A) {why : ℕ} → Unread o why
          → RefusesAlone (result_alone r) why (answer spell (result_alone r) (reading o (λ a. turned number (f a))))
      read_not r o malformed = refuses_alone spell (result_alone r) 2
      read_not r o too_large = refuses_alone spell (result_alone r) 3

  -- two functions that do so are one, where everything stays or turns into something
  same_answers : ((a : A) → Stays a ⊎ ((b : B) × Into a b)) → (g h : ℕ → List ℕ → Answer)
      → Turns taken Stays number Into flat g → Turns taken Stays number Into flat h → (r : ℕ) (x : List ℕ) → g r x ≡ h r x
  same_answers each g h p q r x = buffer (leb 12296 r) refl
    where
      tree : (a : A) → 12296 ≤ r → taken x ≡ Reading.accepted a → Stays a ⊎ ((b : B) × Into a b) → g r x ≡ h r x
      tree a l e (inl s) = refuses_one (p.refused r x a l e s) (q.refused r x a l e s)
      tree a l e (inr i) = gives_one (p.turned r x a i.0 l e i.1) (q.turned r x a i.0 l e i.1)

      text : (o : Reading A) → taken x ≡ o → 12296 ≤ r → g r x ≡ h r x
      text Reading.malformed e l = refuses_one (p.unread r x 2 l (rw e malformed)) (q.unread r x 2 l (rw e malformed))
      text Reading.too_large e l = refuses_one (p.unread r x 3 l (rw e too_large)) (q.unread r x 3 l (rw e too_large))
      text (Reading.accepted a) e l = tree a l e (each a)

      buffer : (b : Bool) → leb 12296 r ≡ b → g r x ≡ h r x
      buffer true e = text (taken x) refl (leb→le 12296 r (rw e tt))
      buffer false e =
          let s : r < 12296 = nleb→lt 12296 r (rw e tt) in
          refuses_one (p.short r x s) (q.short r x s)

-- ------------------------------------------------------------------ arguments

both_none : {A B D : Type 0} (f : A → B → D) (o : Option A) → turn_both f o none ≡ none
unfolding turn turn_both
both_none f none = refl
both_none f (some a) = refl

-- an argument with a field becomes no term
mutual
  unfolding argument_to_term turn turn_both

  field_stays : {a : Arg} → HasField a → argument_to_term a ≡ none
  field_stays field = refl
  field_stays (in_set h) = rw (fields_stay h) refl

  fields_stay : {items : Args} → AnyHasField items → arguments_to_terms items ≡ none
  fields_stay (here h) = rw (field_stays h) refl
  fields_stay (later {a = a} h) = rw (fields_stay h) (both_none Terms.cons_term (argument_to_term a))

-- and any other becomes one
in_a_set : (items : Args) → AnyHasField items ⊎ ((ts : Terms) × BecomeAll items ts)
    → HasField (Arg.Set items) ⊎ ((t : Term) × Becomes (Arg.Set items) t)
in_a_set items (inl h) = inl (in_set h)
in_a_set items (inr p) = inr (Term.Array p.0, set p.1)

in_items : (a : Arg) (rest : Args) → HasField a ⊎ ((t : Term) × Becomes a t) → AnyHasField rest ⊎ ((ts : Terms) × BecomeAll rest ts)
    → AnyHasField (Args.cons_arg a rest) ⊎ ((ts : Terms) × BecomeAll (Args.cons_arg a rest) ts)
in_items a rest (inl h) k = inl (here h)
in_items a rest (inr p) (inl k) = inl (later k)
in_items a rest (inr p) (inr q) = inr (Terms.cons_term p.0 q.0, one_more p.1 q.1)

mutual
  field_or_term : (a : Arg) → HasField a ⊎ ((t : Term) × Becomes a t)
  field_or_term (Arg.Field path) = inl field
  field_or_term (Arg.String t) = inr (Term.String t, string)
  field_or_term (Arg.Integer n) = inr (Term.Integer n, integer)
  field_or_term (Arg.Decimal t) = inr (Term.Decimal t, decimal)
  field_or_term (Arg.Bool b) = inr (Term.Bool b, bool)
  field_or_term (Arg.Set items) = in_a_set items (fields_or_terms items)

  fields_or_terms : (items : Args) → AnyHasField items ⊎ ((ts : Terms) × BecomeAll items ts)
  fields_or_terms Args.no_args = inr (Terms.no_terms, no_more)
  fields_or_terms (Args.cons_arg a rest) = in_items a rest (field_or_term a) (fields_or_terms rest)

pub turns_to_term : TurnsToTerm argument_to_term_answer
unfolding argument_to_term_answer
turns_to_term = turns (accept argument_root) HasField 56 Becomes flat_term argument_to_term (λ a h. field_stays h) (λ a t h. is_there h)

pub determined_term : (g : (result_length : ℕ) → List ℕ → Answer) → TurnsToTerm g
    → (r : ℕ) (x : List ℕ) → g r x ≡ argument_to_term_answer r x
determined_term g h =
    same_answers (accept argument_root) HasField 56 Becomes flat_term field_or_term g argument_to_term_answer h turns_to_term

-- ------------------------------------------------------------------ terms

no_argument_stays : (t : Term) → NoArgument t → term_to_argument t ≡ none
no_argument_stays t never = go (term_to_argument t) refl
  where
    go : (o : Option Arg) → term_to_argument t ≡ o → term_to_argument t ≡ none
    go none e = e
    go (some a) e = absurd (never a (became a t e))

argument_or_none : (t : Term) → NoArgument t ⊎ ((a : Arg) × ComesFrom t a)
argument_or_none t = go (term_to_argument t) refl
  where
    go : (o : Option Arg) → term_to_argument t ≡ o → NoArgument t ⊎ ((a : Arg) × ComesFrom t a)
    go none e = inl (λ a h. none-ne-some a (sym e ∙ is_back h))
    go (some a) e = inr (a, became a t e)

pub turns_to_argument : TurnsToArgument term_to_argument_answer
unfolding term_to_argument_answer
turns_to_argument =
    turns (read term_root) NoArgument 58 ComesFrom flat_argument term_to_argument no_argument_stays (λ t a h. is_back h)

pub determined_argument : (g : (result_length : ℕ) → List ℕ → Answer) → TurnsToArgument g
    → (r : ℕ) (x : List ℕ) → g r x ≡ term_to_argument_answer r x
determined_argument g h =
    same_answers (read term_root) NoArgument 58 ComesFrom flat_argument argument_or_none g term_to_argument_answer h turns_to_argument
