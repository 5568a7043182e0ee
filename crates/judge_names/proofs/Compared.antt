-- The comparison of the tapes that were accepted with the result of an expansion is the definition's, of the trees on them.
-- Assumes nothing.
use Prim.Native.Nat.{ℕ, ◌-◌, ◌≤◌, ◌<◌, ◌^◌}
use native.Mathlib.Omega.{arith}
use mathlib.Core.Path.{◌≡◌, refl}
use mathlib.Core.List.{List, []}
use mathlib.Core.Bool.{Bool, true, false, ◌&&◌}
use borrow.Author.Tests.{le-leb}
use lib.Dec.{T, eqb, eqb→eq}
use lib.ListN.{length, length-append, replicate, length-replicate}
use lib.Seq.{take-append_seam}
use Rattle.format.specs.Entry.{Entry, le, text_of, encode}
use Rattle.format.specs.Ast.{Condition, MacroDef}
use Rattle.format.specs.Flat.{flat_condition}
use Rattle.format.specs.Tape.{Root, condition_root, named_root, registry_root, rewritten}
use Rattle.format.proofs.Accepted.{Values64}
use Rattle.format.proofs.Encodes.{WellTexted, from_le_le}
use Rattle.format.proofs.Rewritten.{rewrites_registry, rewrites_condition, rewrites_named}
use Rattle.format.proofs.Tests.{and_left, and_right, from_true}
use Rattle.definition.specs.Agree.{protected_names, same_but_names}
use Rattle.definition.specs.Answers.{padded}
use Rattle.grammar.specs.Waits.{is_limited}
use Rattle.tape.specs.Layouts.{tape_layout}
use Rattle.tape.specs.Ors.{ors_in}
use Rattle.tape.specs.Pick.{pick}
use Rattle.tape.specs.declared.layout.Layout.{Layout}
use Rattle.tape.proofs.Located.{Alone}
use Rattle.tape.proofs.Roots.{Accepted, registry_root_lem, condition_root_lem, named_root_lem}
use Rattle.de_morgan.specs.Rewritten.{rewritten_in, rewritten_layout}
use Rattle.de_morgan.proofs.Rewritten.{tape_inside, rewritten_alone, given_alone}
use Rattle.judge_names.specs.Compared.{result_layout, equal_on, none_has_or, equal_in}
use Rattle.judge_names.proofs.Entries.{Whole, same_are}

-- ------------------------------------------------------------------ the result

-- entries that their tape holds unchanged: their values have 64 bits, and they are not too many
pub record Kept (es : List Entry) : Type 0 where
  pub values : Values64 es
  pub texted : WellTexted es
  pub few : length es ≤ 1024
  pub short : length (text_of es) ≤ 3072

module _ (n : ℕ) (long : 12296 ≤ n) (es : List Entry) (k : Kept es) where
  abbrev buffer : List ℕ
  buffer = padded n (encode es)

  layout_is : result_layout buffer ≡ tape_layout (length es) (length (text_of es))
  unfolding result_layout padded encode le
  layout_is =
      let few : length es < 256 ^ 4 = omega (arith, k.few) in
      let short : length (text_of es) < 256 ^ 4 = omega (arith, k.short) in
      rw (from_le_le 4 (length es) few, from_le_le 4 (length (text_of es)) short, le-leb (length es) 1024 k.few) refl

  result_whole : Whole buffer (result_layout buffer) es
  unfolding padded
  result_whole =
      let zeros : List ℕ = replicate (n - length (encode es)) 0 in
      rw layout_is
      (record {
        inside =
            tape_inside k.values k.texted (take-append_seam (encode es) zeros)
            (omega (arith, length-append (encode es) zeros)) k.few;
        entries_are = refl;
      })

-- ------------------------------------------------------------------ the tapes

whole_alone : {A : Type 0} {root : Root A} {s : List ℕ} {l : Layout} {a : A} → Alone root s l a → Whole s l (root.flat a)
whole_alone h = record { inside = h.inside; entries_are = h.entries_are }

zeros_long : 12296 ≤ length (replicate {A = ℕ} 12296 0)
zeros_long = omega (arith, length-replicate {A = ℕ} 12296 0)

module _ {reg cond sup : List ℕ} {d c m : Layout} (most : ℕ) (limited : is_limited most ≡ true) {x : List MacroDef} {y z : Condition}
    (first : Accepted registry_root reg d x) (second : Accepted condition_root cond c y) (third : Accepted (named_root most) sup m z)
    (n : ℕ) (long : 12296 ≤ n) (ours : List Entry) (k : Kept ours) where
  abbrev defs : List MacroDef
  defs = rewritten registry_root x

  abbrev rule : Condition
  rule = rewritten condition_root y

  abbrev theirs : Condition
  theirs = rewritten (named_root most) z

  abbrev Same : Bool → Type 0
  Same b = b ≡ same_but_names (protected_names defs rule) [] ours (flat_condition theirs)

  -- as they were given, or rewritten
  alone : {s t u : List ℕ} {i j l : Layout} → Alone registry_root s i defs → Alone condition_root t j rule → Alone (named_root most) u l theirs
      → Same (equal_on s i t j u l (padded n (encode ours)))
  unfolding equal_on protected_names registry_root condition_root named_root
  alone f g h = same_are (result_whole n long ours k) (whole_alone h) (whole_alone f) (whole_alone g)

  pub equal_is : Same (equal_in reg d cond c sup m (padded n (encode ours)))
  unfolding equal_in
  equal_is = go (none_has_or reg d cond c sup m) refl
    where
      given : T (none_has_or reg d cond c sup m) → Same (equal_on reg d cond c sup m (padded n (encode ours)))
      given t =
          let one = eqb (ors_in reg d) 0 in
          let two = eqb (ors_in cond c) 0 in
          let front = and_left (one && two) _ t in
          alone
          (given_alone registry_root_lem rewrites_registry first (eqb→eq (ors_in reg d) 0 (and_left one two front)))
          (given_alone condition_root_lem rewrites_condition second (eqb→eq (ors_in cond c) 0 (and_right one two front)))
          (given_alone (named_root_lem most limited) (rewrites_named most) third (eqb→eq (ors_in sup m) 0 (and_right (one && two) _ t)))

      go : (b : Bool) → none_has_or reg d cond c sup m ≡ b
          → Same (pick b (equal_on reg d cond c sup m (padded n (encode ours)))
          (equal_on (rewritten_in reg d (replicate 12296 0)) (rewritten_layout reg d) (rewritten_in cond c (replicate 12296 0)) (rewritten_layout cond c)
          (rewritten_in sup m (replicate 12296 0)) (rewritten_layout sup m) (padded n (encode ours))))
      go true e = given (from_true e)
      go false e =
          alone
          (rewritten_alone registry_root_lem rewrites_registry first (replicate 12296 0) zeros_long)
          (rewritten_alone condition_root_lem rewrites_condition second (replicate 12296 0) zeros_long)
          (rewritten_alone (named_root_lem most limited) (rewrites_named most) third (replicate 12296 0) zeros_long)
