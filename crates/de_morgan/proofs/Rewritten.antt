-- Where the slice holds a tree, the rewritten tape is the tape of the rewritten tree, and its entries stand at the start of the layout
-- that is answered. Said of the entries: `Becomes` takes those of a tree of any root to those of the rewritten one (format's
-- `becomes_condition`, `becomes_call`, `becomes_definition`, `becomes_registry`, `becomes_tree`).
-- Assumes nothing.
use Prim.Native.Nat.{ℕ, ◌+◌, ◌-◌, ◌*◌, ◌≤◌}
use mathlib.Core.Path.{◌≡◌, refl, sym, ap, ◌∙◌}
use mathlib.Core.Bool.{Bool, true, ◌&&◌}
use mathlib.Core.List.{List, [], ◌∷◌, ◌++◌, append-nil}
use native.Mathlib.Nat.{zero-add, add-zero}
use native.Mathlib.Omega.{arith}
use borrow.Author.Tests.{le-leb}
use lib.Dec.{leb, leb→le}
use lib.ListN.{length, take, length-take}
use lib.Seq.{sets, length-sets, take-length}
use Rattle.buffer.proofs.Kept.{spells_sets}
use Rattle.buffer.proofs.Sets.{sets_append}
use Rattle.format.specs.Entry.{Entry, le, codes_of, values_of, text_of, encode}
use Rattle.format.specs.Limits.{fits_sizes}
use Rattle.format.specs.Macro.{is_code, tally}
use Rattle.format.specs.Stands.{part, Spells, Stands}
use Rattle.format.specs.Tape.{is_text, text_width, Root, rewritten}
use Rattle.format.proofs.Accepted.{length_codes, Values64}
use Rattle.format.proofs.Becomes.{Becomes, all_become, more_entries, same_text, tally_none}
use Rattle.format.proofs.Encodes.{WellTexted, length_le, length_values, length_encode}
use Rattle.format.proofs.Rewritten.{Rewrites, rewriting}
use Rattle.format.proofs.Stands.{part_take, stands_encoded}
use Rattle.format.proofs.Tests.{and_right, is_true}
use Rattle.tape.specs.Layouts.{holds, tape_layout}
use Rattle.tape.specs.Pick.{pick}
use Rattle.tape.specs.declared.layout.Layout.{Layout}
use Rattle.tape.proofs.Acceptance.{RootNamed}
use Rattle.tape.proofs.Holding.{holding}
use Rattle.tape.proofs.Located.{Inside, Alone, accepted_inside, accepted_alone}
use Rattle.tape.proofs.Roots.{Accepted}
use Rattle.tape.proofs.Runs.{place}
use Rattle.tape.specs.Ors.{coded, ors_from, ors_in, rewritten_count}
use Rattle.de_morgan.specs.Rewritten.{can_rewrite, heads_from, tape_in, rewritten_in, rewritten_layout}
use Rattle.de_morgan.proofs.Becoming.{begins_at, bare, bare_length, bare_codes, bare_values, heads_become}
use Rattle.de_morgan.proofs.Heads.{heads_put}

-- ------------------------------------------------------------------ entries at the start of a slice

-- what stands in the front of a slice stands in the slice
spells_taken : (k : ℕ) (s : List ℕ) (i : ℕ) (xs : List ℕ) → Spells (take k s) i xs → Spells s i xs
spells_taken k s i xs h =
    let n = length-take k s in
    record {
      inside = omega (arith, h.inside);
      spelled = sym (part_take s i (length xs) k (omega (arith, h.inside))) ∙ h.spelled;
    }

-- the entries of a tape that stands at the front of a slice
module _ {s : List ℕ} {es : List Entry} (values : Values64 es) (texted : WellTexted es) where
  pub tape_inside : part s 0 (length (encode es)) ≡ encode es → length (encode es) ≤ length s → length es ≤ 1024
      → Inside s (tape_layout (length es) (length (text_of es))) (place 0 0) es
  tape_inside e h k =
      let n = length_encode es in
      let st : Stands (take (length (encode es)) s) 8 (8 + length es) (8 + 9 * length es) 0 0 es = rw e (stands_encoded es) in
      record {
        run = record {
          held = record { entries_most = k; codes_held = omega (arith, n); values_held = omega (arith, n) };
          stands = record {
            its_codes = spells_taken (length (encode es)) s (8 + 0) (codes_of es) st.its_codes;
            its_values = spells_taken (length (encode es)) s (8 + length es + 8 * 0) (values_of es) st.its_values;
            its_text = spells_taken (length (encode es)) s (8 + 9 * length es + 0) (text_of es) st.its_text;
          };
          entries_left = omega arith;
          text_left = omega arith;
          small_values = values;
        };
        texted = texted;
      }

-- ------------------------------------------------------------------ the rewritten tape

coded_tally : (es : List Entry) → tally 2 (coded (codes_of es)) ≡ tally 2 es
unfolding tally codes_of
coded_tally [] = refl
coded_tally (e ∷ es) = omega (arith, coded_tally es)

-- sizes, codes, values and text one behind the other are a tape
encoded : (es : List Entry) (out : List ℕ) → sets (sets (sets (sets (sets out 0 (le 4 (length es))) 4 (le 4 (length (text_of es)))) (8 + 0) (codes_of es))
    (8 + length es + 8 * 0) (values_of es)) (8 + 9 * length es) (text_of es) ≡ sets out 0 (encode es)
unfolding encode
encoded es out =
    let a = le 4 (length es) in
    let b = le 4 (length (text_of es)) in
    let cs = codes_of es in
    let vs = values_of es in
    let ts = text_of es in
    let i₁ : 0 + length a ≡ 4 = omega (arith, length_le 4 (length es)) in
    let i₂ : 4 + length b ≡ 8 + 0 = omega (arith, length_le 4 (length (text_of es))) in
    let i₃ : 8 + 0 + length cs ≡ 8 + length es + 8 * 0 = omega (arith, length_codes es) in
    let i₄ : 8 + length es + 8 * 0 + length vs ≡ 8 + 9 * length es = omega (arith, length_values es) in
    sym (sets_append out 0 a (b ++ (cs ++ (vs ++ ts))) ∙ rw i₁
    (sets_append (sets out 0 a) 4 b (cs ++ (vs ++ ts)) ∙ rw i₂
    (sets_append (sets (sets out 0 a) 4 b) (8 + 0) cs (vs ++ ts) ∙ rw i₃
    (sets_append (sets (sets (sets out 0 a) 4 b) (8 + 0) cs) (8 + length es + 8 * 0) vs ts ∙ rw i₄ refl))))

-- the tape of fs was written at the front of a slice, and its entries stand at the start of the layout that is answered
pub record RewrittenTape (s : List ℕ) (l : Layout) (fs : List Entry) (out : List ℕ) : Type 0 where
  pub layout_is : rewritten_layout s l ≡ tape_layout (length fs) (length (text_of fs))
  pub bytes_are : rewritten_in s l out ≡ sets out 0 (encode fs)
  pub tape_is : part (rewritten_in s l out) 0 (length (encode fs)) ≡ encode fs
  pub inside : Inside (rewritten_in s l out) (rewritten_layout s l) (place 0 0) fs
  -- the same where the slice is cut behind the tape
  pub inside_tape : Inside (encode fs) (rewritten_layout s l) (place 0 0) fs

module _ {s : List ℕ} {l : Layout} {es : List Entry} (i : Inside s l (place 0 0) es) (entries : l.entries ≡ length es) where
  ors_from_lem : ors_from s l 0 ≡ tally 2 es
  ors_from_lem =
      let n : l.entries - 0 ≡ length (codes_of es) = omega (arith, length_codes es) in
      rw (n, i.run.stands.its_codes.spelled) (coded_tally es)

  held_there : holds s l ≡ true
  held_there = is_true (holding s l i.run.held)

  -- the Ors that are counted are those of the entries
  pub ors_in_lem : ors_in s l ≡ tally 2 es
  ors_in_lem = rw held_there ors_from_lem

  module _ {fs : List Entry} (b : Becomes es fs) (size : l.size ≡ length (text_of es)) (fit : length es + 3 * tally 2 es ≤ 1024) where
    count_is : rewritten_count s l ≡ length fs
    count_is = omega (arith, ors_in_lem, more_entries b)

    fits : length fs ≤ 1024
    fits = omega (arith, more_entries b)

    can : can_rewrite s l ≡ true
    can =
        ap (λ (t : Bool). t && leb (rewritten_count s l) 1024) held_there
        ∙ ap (λ (n : ℕ). leb n 1024) count_is
        ∙ le-leb (length fs) 1024 fits

    same_size : l.size ≡ length (text_of fs)
    same_size = size ∙ ap length (sym (same_text b))

    layout_is : rewritten_layout s l ≡ tape_layout (length fs) (length (text_of fs))
    layout_is =
        ap (λ (t : Bool). pick t (tape_layout (rewritten_count s l) l.size) (tape_layout 0 0)) can
        ∙ ap (λ (n : ℕ). tape_layout n l.size) count_is
        ∙ ap (tape_layout (length fs)) same_size

    heads_are : heads_from s l l.entries 0 0 [] ≡ bare fs
    unfolding heads_from begins_at
    heads_are =
        ap (λ (n : ℕ). heads_from s l n 0 0 []) (entries ∙ sym (add-zero (length es)))
        ∙ heads_become s l b i 0 [] (λ at h. refl)
        ∙ append-nil (bare fs)

    text_is : part s l.text l.size ≡ text_of fs
    text_is = rw (size, same_text b) (rw add-zero at i.run.stands.its_text.spelled)

    bytes_are : (out : List ℕ) → rewritten_in s l out ≡ sets out 0 (encode fs)
    bytes_are out =
        let sized = sets (sets out 0 (le 4 (length fs))) 4 (le 4 (length (text_of fs))) in
        ap (λ (t : Bool). pick t (tape_in s l (rewritten_count s l) out) out) can
        ∙ ap (λ (n : ℕ). tape_in s l n out) count_is
        ∙ rw (heads_are, text_is, same_size, heads_put (length fs) 0 (bare fs) sized (omega (arith, bare_length fs, zero-add (length fs))), bare_codes fs, bare_values fs)
        (encoded fs out)

    pub rewritten_tape : (out : List ℕ) → length (encode fs) ≤ length out → RewrittenTape s l fs out
    unfolding is_text text_width is_code
    rewritten_tape out h =
        let values : Values64 fs = all_become (λ s v. (v, v)) b i.run.small_values in
        let texted : WellTexted fs = all_become (λ s w. (refl, refl)) b i.texted in
        let bytes = bytes_are out in
        let taken : part (rewritten_in s l out) 0 (length (encode fs)) ≡ encode fs = rw bytes (spells_sets out 0 (encode fs) (omega (arith, h))).spelled in
        let long : length (rewritten_in s l out) ≡ length out = ap length bytes ∙ length-sets out 0 (encode fs) in
        record {
          layout_is = layout_is;
          bytes_are = bytes;
          tape_is = taken;
          inside = rw layout_is (tape_inside values texted taken (omega (arith, long)) fits);
          inside_tape = rw layout_is (tape_inside values texted (take-length (encode fs)) (omega arith) fits);
        }

-- ------------------------------------------------------------------ an accepted tape

-- The tape of the rewritten tree, in a buffer as long as the longest tape: for `b` see the head of this file. Acceptance has decided that
-- it has no more than 1,024 entries.
pub accepted_rewritten : {A : Type 0} {root : Root A} {longest sort : ℕ} {s : List ℕ} {l : Layout} {a : A} {fs : List Entry} → RootNamed longest root sort
    → Accepted root s l a → Becomes (root.flat a) fs → (out : List ℕ) → 12296 ≤ length out → RewrittenTape s l fs out
unfolding fits_sizes
accepted_rewritten {root = root} {a = a} {fs = fs} r h b out long =
    let es = root.flat a in
    let text : length (text_of es) ≤ 3072 = leb→le (length (text_of es)) 3072 (and_right (leb (length es) 1024) _ h.in_range.sizes) in
    let same = ap length (same_text b) in
    rewritten_tape (accepted_inside r h) (ap (λ (k : Layout). k.entries) h.layout_is) b (ap (λ (k : Layout). k.size) h.layout_is) h.entries_fit out
    (omega (arith, length_encode fs, more_entries b, same, h.entries_fit))

-- The rewritten tree, alone in the layout that is answered.
pub rewritten_alone : {A : Type 0} {root : Root A} {longest sort : ℕ} {s : List ℕ} {l : Layout} {a : A} → RootNamed longest root sort → Rewrites root
    → Accepted root s l a → (out : List ℕ) → 12296 ≤ length out → Alone root (rewritten_in s l out) (rewritten_layout s l) (rewritten root a)
rewritten_alone {root = root} {a = a} r w h out long =
    let tape = accepted_rewritten r h (w.becomes a) out long in
    let law = rewriting root w in
    record {
      inside = tape.inside;
      entries_are = ap (λ (m : Layout). m.entries) tape.layout_is;
      depths = rw (law.nesting a, law.calls a) h.depths;
      few = rw (law.params a) h.few;
    }

-- the Ors that are counted on it
pub accepted_ors : {A : Type 0} {root : Root A} {longest sort : ℕ} {s : List ℕ} {l : Layout} {a : A} → RootNamed longest root sort → Accepted root s l a
    → ors_in s l ≡ tally 2 (root.flat a)
accepted_ors r h = ors_in_lem (accepted_inside r h) (ap (λ (k : Layout). k.entries) h.layout_is)

-- without one, the tape as it was given is that of the rewritten tree
pub given_alone : {A : Type 0} {root : Root A} {longest sort : ℕ} {s : List ℕ} {l : Layout} {a : A} → RootNamed longest root sort → Rewrites root
    → Accepted root s l a → ors_in s l ≡ 0 → Alone root s l (rewritten root a)
given_alone {root = root} {s = s} {l = l} {a = a} r w h none =
    let same = (rewriting root w).unchanged a (tally_none 2 (root.flat a) (sym (accepted_ors r h) ∙ none)) in
    rw same (accepted_alone r w h)
