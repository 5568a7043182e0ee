-- Document 02, point 11, as what is promised of provider tapes: `AcceptsProvider g` of their acceptance, `TurnsToTerm g` and
-- `TurnsToArgument g` of the two turnings, each of any function g, case by case as the paper tells them. The theorems are in
-- proofs/Turns.antt: ours meet them, and `determined_acceptance`, `determined_term` and `determined_argument`, that whatever meets
-- them answers as ours do on every tape and with every buffer.
-- Assumes nothing.
use Rattle.std.specs.Prelude.{ℕ, ◌≤◌, ◌≡◌, List, [], Bool as Boolean}
use Rattle.format.specs.Entry.{Text, Entry, encode}
use Rattle.format.specs.Ast.{Term, Terms}
use Rattle.format.specs.Flat.{flat_term}
use Rattle.format.specs.Provider.{Arg, Args, Provider, flat_argument}
use Rattle.format.specs.Tape.{Reading, provider_root, argument_root, term_root, accept, read}
use Rattle.definition.specs.Answers.{Answer}
use Rattle.definition.specs.Older.{result_alone}
use Rattle.definition.specs.Returned.{Gives, RefusesAlone, Unread, ShortResult}

-- ------------------------------------------------------------------ arguments and terms

-- "72 string, 73 integer, 74 decimal, 75 bool (valued as 23, 21, 22, 24)" and "a set becoming an array": which term an argument becomes,
-- the same text, bits or value in it, and each item of a set the one of the array at its place. A field becomes none.
mutual
  pub data Becomes : Arg → Term → Type 0 where
    string : {t : Text} → Becomes (Arg.String t) (Term.String t)
    integer : {n : ℕ} → Becomes (Arg.Integer n) (Term.Integer n)
    decimal : {t : Text} → Becomes (Arg.Decimal t) (Term.Decimal t)
    bool : {b : Boolean} → Becomes (Arg.Bool b) (Term.Bool b)
    set : {items : Args} {ts : Terms} → BecomeAll items ts → Becomes (Arg.Set items) (Term.Array ts)

  pub data BecomeAll : Args → Terms → Type 0 where
    no_more : BecomeAll Args.no_args Terms.no_terms
    one_more : {a : Arg} {t : Term} {items : Args} {ts : Terms}
        → Becomes a t → BecomeAll items ts → BecomeAll (Args.cons_arg a items) (Terms.cons_term t ts)

-- "a field anywhere in an argument": it is one, or it is a set that has one in an item, at whatever place
mutual
  pub data HasField : Arg → Type 0 where
    field : {path : List Text} → HasField (Arg.Field path)
    in_set : {items : Args} → AnyHasField items → HasField (Arg.Set items)

  pub data AnyHasField : Args → Type 0 where
    here : {a : Arg} {rest : Args} → HasField a → AnyHasField (Args.cons_arg a rest)
    later : {a : Arg} {rest : Args} → AnyHasField rest → AnyHasField (Args.cons_arg a rest)

-- "a term to be turned back that no argument becomes"
abbrev pub NoArgument : Term → Type 0
NoArgument t = (a : Arg) → Becomes a t → ⊥

abbrev pub ComesFrom : Term → Arg → Type 0
ComesFrom t a = Becomes a t

-- ------------------------------------------------------------------ what is promised

-- "Acceptance of such a tape, an operation without buffers, gives 0, 2 or 3."
pub record AcceptsProvider (g : List ℕ → Answer) : Type 0 where
  pub unread : (x : List ℕ) (why : ℕ) → Unread (accept provider_root x) why → RefusesAlone (result_alone 0) why (g x)
  pub accepted : (x : List ℕ) (p : Provider) → accept provider_root x ≡ Reading.accepted p → Gives (result_alone 0) [] 0 (g x)

-- Of a function g from the length of the result buffer and the tape, for both directions: what is `taken` from the tape, which of it is
-- refused (`Stays`) and with which number, what else it `Turns` into, and how that is spelled on the tape that is written.
pub record Turns {A B : Type 0}
    (taken : List ℕ → Reading A) (Stays : A → Type 0) (number : ℕ) (Into : A → B → Type 0) (flat : B → List Entry)
    (g : (result_length : ℕ) → List ℕ → Answer) : Type 0 where
  -- "result below 12,296 bytes" is 1
  pub short : (r : ℕ) (x : List ℕ) → ShortResult (result_alone r) → RefusesAlone (result_alone r) 1 (g r x)
  -- 2 and 3 of the tape
  pub unread : (r : ℕ) (x : List ℕ) (why : ℕ) → 12296 ≤ r → Unread (taken x) why → RefusesAlone (result_alone r) why (g r x)
  -- "both with 0..0 after 3"
  pub refused : (r : ℕ) (x : List ℕ) (a : A) → 12296 ≤ r → taken x ≡ Reading.accepted a → Stays a
      → RefusesAlone (result_alone r) number (g r x)
  -- the tape of the other tree
  pub turned : (r : ℕ) (x : List ℕ) (a : A) (b : B) → 12296 ≤ r → taken x ≡ Reading.accepted a → Into a b
      → Gives (result_alone r) (encode (flat b)) 0 (g r x)

-- "A lone argument with no field anywhere in it can be turned into a term"; "56 for a field anywhere in an argument that is to become a
-- term"
abbrev pub TurnsToTerm : (g : (result_length : ℕ) → List ℕ → Answer) → Type 0
TurnsToTerm = Turns (accept argument_root) HasField 56 Becomes flat_term

-- "Turning back takes a tape whose root is a term"; "58 for a term to be turned back that no argument becomes"
abbrev pub TurnsToArgument : (g : (result_length : ℕ) → List ℕ → Answer) → Type 0
TurnsToArgument = Turns (read term_root) NoArgument 58 ComesFrom flat_argument
