-- The definition's answers are what specs/Returned.antt says, and two answers of which the same is said are equal.
-- Assumes nothing.
use Prim.Native.Nat.{ℕ, ◌-◌}
use native.Mathlib.Nat.{sub-zero}
use mathlib.Core.Path.{◌≡◌, refl, sym, ◌∙◌, ap}
use mathlib.Core.Logic.{◌⊎◌, inl, inr}
use mathlib.Core.List.{List, []}
use mathlib.Core.Bool.{Bool, true, false, ◌&&◌}
use borrow.Author.Tests.{le-leb, lt-leb, leb-true, leb-false}
use lib.Dec.{leb}
use Rattle.format.specs.Entry.{Text}
use Rattle.definition.specs.Outcome.{Refusal, Outcome, span_start, span_end}
use Rattle.definition.specs.Answers.{Answer, Buffers, padded, answer, number_alone, long_buffers}
use Rattle.definition.specs.Returned.{zeros, Gives, Refuses, RefusesAlone, ShortBuffers, LongBuffers}

-- ------------------------------------------------------------------ one answer

same_fields : (number number' start end start' end' length length' charged charged' : ℕ) (result result' work work' message message' : List ℕ)
    → number ≡ number' → start ≡ start' → end ≡ end' → length ≡ length' → charged ≡ charged' → result ≡ result' → work ≡ work' → message ≡ message'
    → ◌≡◌ {A = Answer} (record { number = number; start = start; end = end; message_length = length; charged = charged; result = result; work = work; message = message })
    (record { number = number'; start = start'; end = end'; message_length = length'; charged = charged'; result = result'; work = work'; message = message' })
same_fields number number' start end start' end' length length' charged charged' result result' work work' message message' p q r s t u v w =
    rw (p, q, r, s, t, u, v, w) refl

pub gives_one : {b : Buffers} {bytes : List ℕ} {charged : ℕ} {a a' : Answer} → Gives b bytes charged a → Gives b bytes charged a' → a ≡ a'
gives_one g h =
    same_fields _ _ _ _ _ _ _ _ _ _ _ _ _ _ _ _ (g.number ∙ sym h.number) (g.start ∙ sym h.start) (g.end ∙ sym h.end)
    (g.message_length ∙ sym h.message_length) (g.charged ∙ sym h.charged) (g.result ∙ sym h.result) (g.work ∙ sym h.work)
    (g.message ∙ sym h.message)

pub refuses_one : {b : Buffers} {number span : ℕ} {message : Text} {charged : ℕ} {a a' : Answer}
    → Refuses b number span message charged a → Refuses b number span message charged a' → a ≡ a'
refuses_one g h =
    same_fields _ _ _ _ _ _ _ _ _ _ _ _ _ _ _ _ (g.number ∙ sym h.number) (g.start ∙ sym h.start) (g.end ∙ sym h.end)
    (g.message_length ∙ sym h.message_length) (g.charged ∙ sym h.charged) (g.result ∙ sym h.result) (g.work ∙ sym h.work)
    (g.message ∙ sym h.message)

-- ------------------------------------------------------------------ the definition's

none_off : (n : ℕ) → zeros (n - 0) ≡ zeros n
none_off n = ap zeros (sub-zero n)

module _ {A : Type 0} (tape : A → List ℕ) (b : Buffers) where
  pub gives : (a : A) (charged : ℕ) → Gives b (tape a) charged (answer tape b (Outcome.done a charged))
  unfolding answer padded
  gives a charged =
      record {
        number = refl;
        start = refl;
        end = refl;
        message_length = refl;
        charged = refl;
        result = refl;
        work = none_off b.work_length;
        message = none_off b.message_length;
      }

  pub refuses : (r : Refusal) (charged : ℕ) → Refuses b r.number r.span r.message charged (answer tape b (Outcome.refused r charged))
  unfolding answer padded span_start span_end
  refuses r charged =
      record {
        number = refl;
        start = refl;
        end = refl;
        message_length = refl;
        charged = refl;
        result = none_off b.result_length;
        work = none_off b.work_length;
        message = refl;
      }

  pub refuses_alone : (number : ℕ) → RefusesAlone b number (answer tape b (number_alone number))
  unfolding number_alone
  refuses_alone number = refuses _ 0

-- a number 0 without anything is a success without a result
pub zero_gives : {b : Buffers} {a : Answer} → RefusesAlone b 0 a → Gives b [] 0 a
zero_gives {b} r =
    record {
      number = r.number;
      start = r.start;
      end = r.end;
      message_length = r.message_length;
      charged = r.charged;
      result = r.result ∙ sym (none_off b.result_length);
      work = r.work;
      message = r.message ∙ none_off b.message_length;
    }

-- ------------------------------------------------------------------ the three buffers

module _ (b : Buffers) where
  pub are_long : LongBuffers b → long_buffers b ≡ true
  unfolding long_buffers
  are_long h = rw (le-leb 12296 b.result_length h.0, le-leb 65536 b.work_length h.1.0, le-leb 2048 b.message_length h.1.1) refl

  pub are_short : ShortBuffers b → long_buffers b ≡ false
  unfolding long_buffers
  are_short (inl h) = rw (lt-leb 12296 b.result_length h) refl
  are_short (inr (inl h)) = go (leb 12296 b.result_length)
    where
      go : (x : Bool) → (x && (leb 65536 b.work_length && leb 2048 b.message_length)) ≡ false
      go true = rw (lt-leb 65536 b.work_length h) refl
      go false = refl
  are_short (inr (inr h)) = go (leb 12296 b.result_length) (leb 65536 b.work_length)
    where
      go : (x y : Bool) → (x && (y && leb 2048 b.message_length)) ≡ false
      go true true = lt-leb 2048 b.message_length h
      go true false = refl
      go false y = refl

  pub short_or_long : ShortBuffers b ⊎ LongBuffers b
  short_or_long = go (leb 12296 b.result_length) refl (leb 65536 b.work_length) refl (leb 2048 b.message_length) refl
    where
      go : (x : Bool) → leb 12296 b.result_length ≡ x → (y : Bool) → leb 65536 b.work_length ≡ y → (z : Bool) → leb 2048 b.message_length ≡ z
          → ShortBuffers b ⊎ LongBuffers b
      go false h y k z l = inl (inl (leb-false 12296 b.result_length h))
      go true h false k z l = inl (inr (inl (leb-false 65536 b.work_length k)))
      go true h true k false l = inl (inr (inr (leb-false 2048 b.message_length l)))
      go true h true k true l = inr (leb-true 12296 b.result_length h, (leb-true 65536 b.work_length k, leb-true 2048 b.message_length l))
