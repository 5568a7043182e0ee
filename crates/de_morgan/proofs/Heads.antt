-- Codes and values put one after the other, and a turn of the loop that puts them.
-- Assumes nothing.
use Prim.Native.Nat.{ℕ, suc, ◌+◌, ◌*◌, ◌≤◌}
use mathlib.Core.Path.{◌≡◌, refl, sym, ap, ◌∙◌}
use mathlib.Core.Bool.{Bool, true, false}
use mathlib.Core.List.{List, [], ◌∷◌, ◌++◌, reverse}
use native.Mathlib.Nat.{add-zero}
use native.Mathlib.Omega.{arith}
use lib.Dec.{eqb}
use lib.ListN.{length, length-append, set}
use lib.Seq.{sets, set_comm}
use Rattle.buffer.proofs.Sets.{sets_append}
use Rattle.format.proofs.Accepted.{length_codes}
use Rattle.format.proofs.Encodes.{length_le}
use Rattle.format.specs.Entry.{Entry, entry, le, codes_of, values_of}
use Rattle.tape.specs.Layouts.{code_at, value_at, width_at, text_behind}
use Rattle.tape.specs.Pick.{pick}
use Rattle.tape.specs.declared.layout.Layout.{Layout}
use Rattle.de_morgan.specs.Rewritten.{negation, heads_of, heads_from, put_head, put_heads, EntriesPut, SideBegun, SideAdded}
use Rattle.de_morgan.specs.declared.rewriting.Side.{Side}
use Rattle.de_morgan.specs.declared.rewriting.Rewriting.{Rewriting}

pub put_append : (n at : ℕ) (es fs : List Entry) (out : List ℕ)
    → put_heads n at (es ++ fs) out ≡ put_heads n (at + length es) fs (put_heads n at es out)
unfolding put_heads
put_append n at [] fs out = rw add-zero refl
put_append n at (e ∷ es) fs out =
    let k : at + 1 + length es ≡ at + suc (length es) = omega arith in
    put_append n (at + 1) es fs (put_head n at e.code e.value out) ∙ rw k refl

-- ------------------------------------------------------------------ the sections that they fill

sets_set : (l : List ℕ) (i : ℕ) (vs : List ℕ) (k a : ℕ) → i + length vs ≤ k → sets (set l k a) i vs ≡ set (sets l i vs) k a
sets_set l i [] k a h = refl
sets_set l i (v ∷ vs) k a h =
    rw (set_comm l k i a v (λ z. omega arith)) (sets_set (set l i v) (suc i) vs k a (omega arith))

-- stores in front of others may come behind them
sets_comm : (l : List ℕ) (i : ℕ) (vs : List ℕ) (j : ℕ) (ws : List ℕ) → i + length vs ≤ j → sets (sets l j ws) i vs ≡ sets (sets l i vs) j ws
sets_comm l i vs j [] h = refl
sets_comm l i vs j (w ∷ ws) h =
    sets_comm (set l j w) i vs (suc j) ws (omega arith) ∙ ap (λ (x : List ℕ). sets x (suc j) ws) (sets_set l i vs j w h)

pub heads_put : (n at : ℕ) (es : List Entry) (out : List ℕ) → at + length es ≤ n
    → put_heads n at es out ≡ sets (sets out (8 + at) (codes_of es)) (8 + n + 8 * at) (values_of es)
unfolding put_heads codes_of values_of
heads_put n at [] out h = refl
heads_put n at (e ∷ es) out h =
    let cs = codes_of es in
    let vs = values_of es in
    let v = le 8 e.value in
    let first = sets out (8 + at) (e.code ∷ []) in
    let x = 8 + n + 8 * at in
    let c : 8 + (at + 1) ≡ suc (8 + at) = omega arith in
    let y : 8 + n + 8 * (at + 1) ≡ x + length v = omega (arith, length_le 8 e.value) in
    heads_put n (at + 1) es (put_head n at e.code e.value out) (omega arith)
    ∙ rw (c, y, sets_comm first (suc (8 + at)) cs x v (omega (arith, length_codes es))) (sym (sets_append (sets out (8 + at) (e.code ∷ cs)) x v vs))

-- ------------------------------------------------------------------ runs of entries that are put

pub nothing_put : {h : Rewriting} → EntriesPut [] h h
unfolding put_heads
nothing_put = record { same_slice = refl; same_n = refl; next_is = omega arith; written = refl }

-- what is put behind entries that were put
puts_rest : (es fs : List Entry) {h h' : Rewriting} → EntriesPut es h h'
    → put_heads h'.n h'.next fs h'.out.now ≡ put_heads h.n h.next (es ++ fs) h.out.now
puts_rest es fs {h} p = rw (p.same_n, p.next_is, p.written) (sym (put_append h.n h.next es fs h.out.now))

puts_append : (es fs : List Entry) {h h₁ h₂ : Rewriting} → EntriesPut es h h₁ → EntriesPut fs h₁ h₂ → EntriesPut (es ++ fs) h h₂
puts_append es fs p q =
    record {
      same_slice = q.same_slice ∙ p.same_slice;
      same_n = q.same_n ∙ p.same_n;
      next_is = omega (arith, p.next_is, q.next_is, length-append es fs);
      written = q.written ∙ puts_rest es fs p;
    }

pub three_put : {e f g : Entry} {h h₁ h₂ h₃ : Rewriting} → EntriesPut (e ∷ []) h h₁ → EntriesPut (f ∷ []) h₁ h₂ → EntriesPut (g ∷ []) h₂ h₃
    → EntriesPut (e ∷ f ∷ g ∷ []) h h₃
three_put {e} {f} {g} p q r = puts_append (e ∷ f ∷ []) (g ∷ []) (puts_append (e ∷ []) (f ∷ []) p q) r

-- ------------------------------------------------------------------ the loop

pub one_negation : (at : ℕ) (sides : List Side) → length (negation at sides) ≤ 1
unfolding negation
one_negation at [] = omega arith
one_negation at (side ∷ sides) = go (eqb side.at at)
  where
    go : (b : Bool) → length (pick b (entry 3 side.span ∷ []) []) ≤ 1
    go true = omega arith
    go false = omega arith

pub three_heads : (code value : ℕ) → length (heads_of code value) ≤ 3
unfolding heads_of
three_heads code value = go (eqb code 2)
  where
    go : (b : Bool) → length (pick b (entry 3 value ∷ entry 1 value ∷ entry 3 value ∷ []) (entry code value ∷ [])) ≤ 3
    go true = omega arith
    go false = omega arith

-- what is left to put, from a place on; the nearest side is the last
abbrev pub left_to_put : List ℕ → Layout → ℕ → ℕ → ℕ → List Side → Rewriting → List ℕ
left_to_put s l left at text sides h = put_heads h.n h.next (heads_from s l left at text (reverse sides)) h.out.now

-- an entry's turn: the negation in front of it, what it becomes, and the right side that it brings
module _ (s : List ℕ) (l : Layout) (left at text : ℕ) (sides : List Side) (h : Rewriting) where
  pub put_turn : {code value text' : ℕ} {sides₁ sides₂ : List Side} {h₁ h₂ : Rewriting}
      → SideBegun at sides sides₁ h h₁
      → code ≡ code_at s l at → value ≡ value_at s l at → text' ≡ text_behind l.size text (width_at s l at)
      → EntriesPut (heads_of code value) h₁ h₂
      → SideAdded s l code value (record { at = at + 1; text = text' }) sides₁ sides₂
      → left_to_put s l left (at + 1) text' sides₂ h₂ ≡ left_to_put s l (suc left) at text sides h
  unfolding heads_from
  put_turn {code} {value} {text'} {sides₁} {sides₂} p c v t e a =
      let rest = heads_from s l left (at + 1) text' (reverse sides₂) in
      let heads = heads_of code value in
      let first = negation at (reverse sides) in
      let same : heads_from s l (suc left) at text (reverse sides) ≡ first ++ (heads ++ rest) =
      rw (← t, ← c, ← v, ← p.sides_are, ← a.sides_are) refl in
      rw same (puts_rest heads rest e ∙ puts_rest first (heads ++ rest) p.put)
