-- What the walks of substitution and expansion rest on. Of every entry of the inputs N is known of the text, K of the value and M of
-- the entry; besides, B of a definition's entry and I of the condition's or the call's. C holds of what is charged, S of every message
-- and M of every entry that is answered: each from the others, once for each place where one comes from. SaidSubstitute and
-- SaidExpand are the walks.
-- Assumes nothing.
use Prim.Native.Nat.{ℕ, ◌≤◌}
use mathlib.Core.Path.{◌≡◌}
use mathlib.Core.List.{List, [], ◌∷◌, ◌++◌}
use mathlib.Core.Bool.{Bool, true, false, ◌&&◌, ◌||◌}
use lib.Dec.{T, eqb, leb, eqb→eq, leb→le}
use Rattle.format.specs.Entry.{Text, Entry, entry, text_entry}
use Rattle.format.specs.Ast.{Sigil, Condition, Tree, MacroDef}
use Rattle.format.specs.Flat.{flat_tree}
use Rattle.format.specs.Limits.{too_large_tree}
use Rattle.format.proofs.All.{All, all_map, all_both}
use Rattle.format.proofs.Tests.{and_left, and_right, and_both}
use Rattle.definition.specs.Outcome.{Refusal, Outcome, span_start}
use Rattle.definition.specs.Messages.{unknown_macro, cedar_in_condition, cedar_in_value, value_as_condition, condition_as_value, argument_count, budget_exceeded, stray_condition, stray_within, stray_slot, stray_field, stray_operand, unbound_parameter, not_a_condition, binder_as_condition, not_an_interval, not_a_term, not_an_identifier, not_a_predicate}
use Rattle.definition.specs.Substitute.{generated}
use Rattle.definition.specs.Registry.{build}
use Rattle.definition.specs.Ends.{substitution_numbers}
use Rattle.definition.proofs.Good.{Good, good_done, good_refused}
use Rattle.definition.proofs.Verdicts.{Any, Given, given_build, all_any}

-- The entries that are no input's own: a name made of a definition's binder and of a call, as a term and as a slot; an identifier that
-- is put into a slot; the 56 of a condition argument that becomes a term; and a count of other things.
pub record Closed (N : Text → Type 0) (B I M : Entry → Type 0) (file : ℕ) : Type 0 where
  pub made_term : (t : Text) → N t → M (text_entry 33 t) → B (text_entry 33 t) → (span : ℕ) → I (entry 54 span) → M (text_entry 27 (generated t (span_start span) file))
  pub made_slot : (t : Text) → N t → M (text_entry 45 t) → B (text_entry 45 t) → (span : ℕ) → I (entry 54 span) → M (text_entry 43 (generated t (span_start span) file))
  pub named_slot : (t : Text) → M (text_entry 27 t) → M (text_entry 43 t)
  pub call_term : M (entry 55 0) → M (entry 56 0)
  pub listed : (k l : ℕ) → M (entry 41 k) → M (entry 41 l)
  pub arrayed : (k l : ℕ) → M (entry 29 k) → M (entry 29 l)

-- of an entry nothing is asked
abbrev pub Unasked : Entry → Type 0
Unasked e = Unit {0}

-- where it is the text that matters
pub closed_texts : {N : Text → Type 0} (M : Text → Type 0) {file : ℕ} → ((t : Text) → N t → (start : ℕ) → M (generated t start file))
    → Closed N Unasked Unasked (λ (e : Entry). M e.text) file
closed_texts M new =
    record {
      made_term = λ t k m b span i. new t k (span_start span);
      made_slot = λ t k m b span i. new t k (span_start span);
      named_slot = λ t m. m;
      call_term = λ m. m;
      listed = λ k l m. m;
      arrayed = λ k l m. m;
    }

-- ------------------------------------------------------------------ the numbers

pub either_test : {A : Type 0} (a b : Bool) → T (a || b) → (T a → A) → (T b → A) → A
either_test true b t f g = f tt
either_test false b t f g = g t

-- "Messages are those of 000; 1, 2, 3 and all from 48 up have none."
abbrev pub spoken : List ℕ
spoken =
    10 ∷ 11 ∷ 20 ∷ 21 ∷ 22 ∷ 30 ∷ 31 ∷ 32 ∷ 33 ∷ 34 ∷ 35 ∷ 36 ∷ 37 ∷ 38 ∷ 39 ∷ 40 ∷ 41 ∷ 42 ∷ 43 ∷ 44 ∷ 45 ∷ 46 ∷ 47 ∷ []

abbrev pub is_silent : Text → Bool
is_silent [] = true
is_silent (b ∷ t) = false

abbrev pub listed : List ℕ → ℕ → Bool
listed [] c = false
listed (k ∷ ks) c = eqb c k || listed ks c

-- a refusal has one of the numbers, and a message only if that has one
abbrev pub in_table : List ℕ → Refusal → Bool
in_table numbers r = listed numbers r.number && (listed spoken r.number || is_silent r.message)

pub record Tabled (numbers : List ℕ) (r : Refusal) : Type 0 where
  pub its_row : T (in_table numbers r)

-- of a refusal whose number is written
pub tabled : {numbers : List ℕ} {r : Refusal} → T (in_table numbers r) → Tabled numbers r
tabled h = record { its_row = h }

-- every number of document 01's table
abbrev pub in_01 : List ℕ
in_01 = 1 ∷ 2 ∷ 3 ∷ (spoken ++ (48 ∷ []))

abbrev pub Includes : (many few : List ℕ) → Type 0
Includes many few = (r : Refusal) → Tabled few r → Tabled many r

abbrev pub all_listed : (many few : List ℕ) → Bool
all_listed many [] = true
all_listed many (k ∷ ks) = listed many k && all_listed many ks

first_listed : (many : List ℕ) (k c : ℕ) → T (listed many k) → T (eqb c k) → T (listed many c)
first_listed many k c h e = rw (eqb→eq c k e) h

pub listed_too : (many few : List ℕ) → T (all_listed many few) → (c : ℕ) → T (listed few c) → T (listed many c)
listed_too many [] h c t = absurd t
listed_too many (k ∷ ks) h c t =
    either_test (eqb c k) (listed ks c) t (first_listed many k c (and_left (listed many k) (all_listed many ks) h))
    (listed_too many ks (and_right (listed many k) (all_listed many ks) h) c)

pub includes : (many few : List ℕ) → T (all_listed many few) → Includes many few
includes many few h r t =
    let n : Bool = listed few r.number in
    let m : Bool = listed spoken r.number || is_silent r.message in
    tabled (and_both (listed many r.number) m (listed_too many few h r.number (and_left n m t.its_row)) (and_right n m t.its_row))

-- each of them lies between two numbers
abbrev pub all_between : (low high : ℕ) → List ℕ → Bool
all_between low high [] = true
all_between low high (k ∷ ks) = (leb low k && leb k high) && all_between low high ks

first_between : (low high k c : ℕ) → T (leb low k && leb k high) → T (eqb c k) → (low ≤ c) × (c ≤ high)
first_between low high k c h e =
    rw (eqb→eq c k e) (leb→le low k (and_left (leb low k) (leb k high) h), leb→le k high (and_right (leb low k) (leb k high) h))

pub between : (low high : ℕ) (ks : List ℕ) → T (all_between low high ks) → (c : ℕ) → T (listed ks c) → (low ≤ c) × (c ≤ high)
between low high [] h c t = absurd t
between low high (k ∷ ks) h c t =
    either_test (eqb c k) (listed ks c) t (first_between low high k c (and_left (leb low k && leb k high) (all_between low high ks) h))
    (between low high ks (and_right (leb low k && leb k high) (all_between low high ks) h) c)

pub table_bounds : {r : Refusal} → Tabled in_01 r → (1 ≤ r.number) × (r.number ≤ 48)
table_bounds {r} t = between 1 48 in_01 tt r.number (and_left (listed in_01 r.number) _ t.its_row)

pub record Rules (numbers : List ℕ) (N : Text → Type 0) (B I M : Entry → Type 0) (S : Text → Type 0) (K C : ℕ → Type 0) (limit file : ℕ) : Type 0 where
  pub within : Includes numbers substitution_numbers
  pub closed : Closed N B I M file
  pub charged : (n : ℕ) → n ≤ limit → C n
  -- the messages, by number; 3 and 48 have none
  pub says_nothing : S []
  pub says_30 : (name : Text) → N name → S (unknown_macro name)
  pub says_31 : (name : Text) → N name → S (cedar_in_condition name)
  pub says_31_value : (name : Text) → N name → S (cedar_in_value name)
  pub says_32 : (name : Text) → N name → S (value_as_condition name)
  pub says_33 : (name : Text) → N name → S (condition_as_value name)
  pub says_34 : (name : Text) → N name → (expected got : ℕ) → K expected → K got → S (argument_count name expected got)
  pub says_35 : S (budget_exceeded limit)
  pub says_36 : (name : Text) → N name → (g : Sigil) → S (stray_condition g name)
  pub says_37 : (name : Text) → N name → S (stray_within name)
  pub says_38 : (name : Text) → N name → (g : Sigil) → S (stray_slot g name)
  pub says_39 : (name : Text) → N name → (g : Sigil) → S (stray_field g name)
  pub says_40 : (name : Text) → N name → (g : Sigil) → S (stray_operand g name)
  pub says_41 : (macro name : Text) → N macro → N name → S (unbound_parameter macro name)
  pub says_42 : (macro name : Text) → N macro → N name → S (not_a_condition macro name)
  pub says_43 : (name : Text) → N name → S (binder_as_condition name)
  pub says_44 : (macro name : Text) → N macro → N name → S (not_an_interval macro name)
  pub says_45 : (macro name : Text) → N macro → N name → S (not_a_term macro name)
  pub says_46 : (macro name : Text) → N macro → N name → S (not_an_identifier macro name)
  pub says_47 : (c : Condition) → S (not_a_predicate c)

-- of a number nothing is asked
abbrev pub Any-number : ℕ → Type 0
Any-number n = Unit {0}

-- of a refusal that it is one of the numbers
abbrev pub AnswersRefusal : List ℕ → Refusal → ℕ → Type 0
AnswersRefusal numbers r n = Tabled numbers r

-- what is known of an entry, X being B or I
abbrev pub Known : (N : Text → Type 0) (M : Entry → Type 0) (K : ℕ → Type 0) (X : Entry → Type 0) → Entry → Type 0
Known N M K X e = N e.text × K e.value × M e × X e

-- a refusal's message, and its number
abbrev pub RefusalMatches : List ℕ → (Text → Type 0) → Refusal → Type 0
RefusalMatches numbers S r = S r.message × Tabled numbers r

-- what holds of a refusal, and of an outcome whose value is spelled by `flat`
abbrev pub Said : List ℕ → (Text → Type 0) → (ℕ → Type 0) → Refusal → ℕ → Type 0
Said numbers S C r n = RefusalMatches numbers S r × C n

abbrev pub Answers : {A : Type 0} → (numbers : List ℕ) (S : Text → Type 0) (M : Entry → Type 0) (C : ℕ → Type 0) (flat : A → List Entry) → Outcome A → Type 0
Answers numbers S M C flat o = Good (Said numbers S C) (λ a n. C n × All M (flat a)) o

-- a tree that is not too large besides
abbrev pub Fits : {A : Type 0} → (numbers : List ℕ) (S : Text → Type 0) (M : Entry → Type 0) (C : ℕ → Type 0) (f : A → Tree) → Outcome A → Type 0
Fits numbers S M C f o = Good (Said numbers S C) (λ a n. C n × All M (flat_tree (f a)) × (too_large_tree (f a) ≡ false)) o

-- ------------------------------------------------------------------ of a tree alone

-- no rule but that of the entries
pub rules_of : {numbers : List ℕ} {B I M : Entry → Type 0} → Includes numbers substitution_numbers → (limit : ℕ) {file : ℕ} → Closed Any B I M file
    → Rules numbers Any B I M Any Any-number Any-number limit file
rules_of within limit closed =
    record {
      within = within;
      closed = closed;
      charged = λ n h. tt;
      says_nothing = tt;
      says_30 = λ name k. tt;
      says_31 = λ name k. tt;
      says_31_value = λ name k. tt;
      says_32 = λ name k. tt;
      says_33 = λ name k. tt;
      says_34 = λ name k expected got e g. tt;
      says_35 = tt;
      says_36 = λ name k g. tt;
      says_37 = λ name k. tt;
      says_38 = λ name k g. tt;
      says_39 = λ name k g. tt;
      says_40 = λ name k g. tt;
      says_41 = λ macro name k m. tt;
      says_42 = λ macro name k m. tt;
      says_43 = λ name k. tt;
      says_44 = λ macro name k m. tt;
      says_45 = λ macro name k m. tt;
      says_46 = λ macro name k m. tt;
      says_47 = λ c. tt;
    }

abbrev pub Bears : {A : Type 0} → (M : Entry → Type 0) (flat : A → List Entry) → Outcome A → Type 0
Bears M flat o = Good (AnswersRefusal in_01) (λ a n. All M (flat a)) o

-- what is known of each entry, and what besides
pub known_each : (M X : Entry → Type 0) {es : List Entry} → All M es → All X es → All (Known Any M Any-number X) es
known_each M X h x = all_map (λ e m. (tt, tt, m.0, m.1)) (all_both h x)

pub bears : (M : Entry → Type 0) {o : Outcome Tree} → Fits in_01 Any M Any-number (λ t. t) o → Bears M flat_tree o
bears M (good_done h) = good_done h.1
bears M (good_refused h) = good_refused h.0.1

pub refuses_build : {numbers : List ℕ} → Includes numbers (10 ∷ 11 ∷ []) → (ds : List MacroDef) → Given (RefusalMatches numbers Any) (build ds)
refuses_build within ds =
    given_build Any (record { reserved = λ n k s. (tt, within _ (tabled tt)); duplicate = λ n k s p. (tt, within _ (tabled tt)) }) ds (all_any ds)
