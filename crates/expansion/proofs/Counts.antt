-- The counts that an expansion hands back, on the way from what was read and walked to what the definition says.
-- Assumes nothing.
use Rattle.tape.specs.declared.header.Fault.{Fault}
use Rattle.std.proofs.Common.{Result, Ok, Err}
use Prim.Native.Nat.{ℕ}
use native.Mathlib.Omega.{arith}
use mathlib.Core.Path.{◌≡◌, refl, ap, ap₂, ◌∙◌}
use mathlib.Core.Bool.{Bool, true, false}
use mathlib.Core.List.{List}
use Rattle.format.specs.Ast.{Condition, MacroDef, Tree}
use Rattle.format.specs.Rewritten.{weighted, map_reading}
use Rattle.format.specs.Tape.{Reading, Root, condition_root, registry_root, read, rewritten, Bytes}
use Rattle.format.proofs.Exact.{Lawful}
use Rattle.format.proofs.Rewritten.{Rewrites, read_as}
use Rattle.definition.specs.Outcome.{Outcome}
use Rattle.definition.specs.Answers.{Buffers, long_buffers}
use Rattle.tape.specs.Accept.{accept_of}
use Rattle.tape.specs.declared.layout.Layout.{Layout}
use Rattle.tape.proofs.Acceptance.{RootOf, Answers, answers_2, answers_3, answers_tape, answers}
use Rattle.walk_state.specs.Walk.{Walk}
use Rattle.walk_state.specs.Walk as walk
use Rattle.answer.specs.Matches.{OutcomeMatches}
use Rattle.answer.specs.Tapes.{on_first, accept_two}
use Rattle.definition.specs.Counts.{counts_after, when_read, when_taken}
use Rattle.expansion.specs.Expansion.{after_walk}

-- a walk comes to its end where the outcome is a tree
pub outcome_counts : (s : List ℕ) (d : Layout) (t : List ℕ) (c : Layout) (w : Walk) (bytes : List ℕ) (o : Outcome Tree) (counted given : List ℕ)
    → OutcomeMatches s d t c w bytes o → after_walk w counted given ≡ counts_after o counted given
unfolding OutcomeMatches after_walk counts_after
outcome_counts s d t c (walk.Going st) bytes (Outcome.done tree n) counted given h = refl
outcome_counts s d t c (walk.Going st) bytes (Outcome.refused r n) counted given h = absurd h
outcome_counts s d t c (walk.Refused f k) bytes (Outcome.done tree n) counted given h = absurd h
outcome_counts s d t c (walk.Refused f k) bytes (Outcome.refused r n) counted given h = refl

-- ------------------------------------------------------------------ what is read

module _ {A : Type 0} {root : Root A} (w : Rewrites root) (law : Lawful root) (s : List ℕ) (bytes : Bytes s) where
  -- of a tape that is refused nothing is made
  refused_unread : {B : Type 0} {sort : ℕ} {n : Fault} → RootOf root sort → accept_of s sort ≡ Err n → (other : B) (k : A → B)
      → when_read other (read root s) k ≡ other
  unfolding map_reading when_read
  refused_unread {sort = sort} {n} r e other k = rw (read_as root w law s bytes).one_scan (go (answers r s) e)
    where
      go : {x : Result Layout Fault} {y : Reading A} → Answers (weighted root) s x y → x ≡ Err n
          → when_read other (map_reading (rewritten root) y) k ≡ other
      go answers_2 e = refl
      go answers_3 e = refl
      go (answers_tape h p) e = absurd (let z : ◌≡◌ {A = ℕ} 0 1 = cc in omega arith)

-- of two tapes
pub refused_unread_two : {A B C : Type 0} {first : Root A} {second : Root B} → Rewrites first → Rewrites second → Lawful first → Lawful second
    → {i j : ℕ} {n : Fault} → RootOf first i → RootOf second j → (s t : List ℕ) → Bytes s → Bytes t → accept_two s i t j ≡ Err n
    → (other : C) (k : A → B → C) → when_read other (read first s) (λ x. when_read other (read second t) (k x)) ≡ other
unfolding accept_two when_read
refused_unread_two {A} {B} {first = first} {second = second} v w law rule {i} {j} {n} r q s t p p' e other k = go (accept_of s i) refl e
  where
    later : (d : Layout) (y : Result Layout Fault) → accept_of t j ≡ y → on_first (Ok d) y ≡ Err n → (o : Reading A)
        → when_read other o (λ x. when_read other (read second t) (k x)) ≡ other
    later d (Ok c) z e o = absurd (let z : ◌≡◌ {A = ℕ} 0 1 = cc in omega arith)
    later d (Err m) z e Reading.malformed = refl
    later d (Err m) z e Reading.too_large = refl
    later d (Err m) z e (Reading.accepted x) = refused_unread w rule t p' q z other (k x)

    go : (x : Result Layout Fault) → accept_of s i ≡ x → on_first x (accept_of t j) ≡ Err n
        → when_read other (read first s) (λ x. when_read other (read second t) (k x)) ≡ other
    go (Ok d) z e = later d (accept_of t j) refl e (read first s)
    go (Err m) z e = refused_unread v law s p r z other (λ x. when_read other (read second t) (k x))

-- ------------------------------------------------------------------ what is taken

module _ {B : Type 0} (other : B) (b : Buffers) (registry input : List ℕ) (k : List MacroDef → Condition → B) where
  abbrev made : Reading (List MacroDef) → Reading Condition → B
  made x y = when_read other x λ defs. when_read other y λ c. k defs c

  abbrev chosen : Bool → B
  chosen long = elim long [ true ↦ made (read registry_root registry) (read condition_root input) | false ↦ other ]

  -- a buffer is too short
  pub short_untaken : long_buffers b ≡ false → when_taken other b registry input k ≡ other
  unfolding when_taken
  short_untaken h = ap chosen h

  -- a tape is refused
  pub refused_untaken : long_buffers b ≡ true → made (read registry_root registry) (read condition_root input) ≡ other → when_taken other b registry input k ≡ other
  unfolding when_taken
  refused_untaken h e = ap chosen h ∙ e

  pub taken : {defs : List MacroDef} {c : Condition} → long_buffers b ≡ true → read registry_root registry ≡ Reading.accepted defs
      → read condition_root input ≡ Reading.accepted c → when_taken other b registry input k ≡ k defs c
  unfolding when_taken when_read
  taken h e f = ap chosen h ∙ ap₂ made e f
