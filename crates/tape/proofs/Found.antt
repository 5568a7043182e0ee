-- Where a scan ends, trees stand: from entries back to trees, by any table that is well made and the trees of its sorts.
-- Assumes nothing.
use Rattle.std.proofs.Common.{Option, Some, None}
use Prim.Native.Nat.{ℕ, ◌+◌, ◌-◌}
use mathlib.Core.Path.{◌≡◌, refl, ap, sym, subst, ◌∙◌}
use mathlib.Core.Bool.{Bool, true, false, ◌&&◌, ◌||◌}
use mathlib.Core.List.{List, [], ◌∷◌, ◌++◌, append_assoc}
use native.Mathlib.Nat.{add-zero}
use native.Mathlib.Omega.{arith}
use lib.ListN.{length}
use Rattle.format.specs.Entry.{Entry}
use Rattle.format.specs.Tape.{is_text, text_width}
use Rattle.format.proofs.All.{all_nil, all_cons}
use Rattle.format.proofs.Encodes.{WellTexted}
use Rattle.format.proofs.Tests.{and_left, and_right, and_both, from_true, is_true}
use Rattle.grammar.specs.Words.{in_sort, sort_at, row_at}
use Rattle.grammar.specs.Waits.{Wait, waits, head_of, valued, accepts, deeper, enclosed, exceeds, below}
use Rattle.grammar.specs.declared.entry.Head.{Head}
use Rattle.grammar.proofs.Marks.{Table}
use Rattle.tape.specs.Pick.{pick}
use Rattle.tape.specs.Scan.{scan_of, text_passes}
use Rattle.tape.specs.declared.layout.Place.{Place}
use Rattle.tape.proofs.Passing.{TextsPass, allowed, sorts_below}
use Rattle.tape.proofs.Places.{widths_of}

-- a tree for each sort
abbrev pub TreesOf : (ℕ → Type 0) → List ℕ → Type 0
TreesOf Tree [] = Unit {0}
TreesOf Tree (s ∷ ss) = Tree s × TreesOf Tree ss

abbrev pub spell_all : {Tree : ℕ → Type 0} → ((s : ℕ) → Tree s → List Entry) → (ss : List ℕ) → TreesOf Tree ss → List Entry
spell_all spell [] xs = []
spell_all spell (s ∷ ss) xs = spell s xs.0 ++ spell_all spell ss xs.1

-- The trees of a table's sorts: an entry that a sort lets in, with trees for what follows it, spells a tree of the sort.
pub record Language (t : Table) : Type 1 where
  pub Tree : ℕ → Type 0
  pub spell : (s : ℕ) → Tree s → List Entry
  pub built : (s : ℕ) (e : Entry) → allowed t.grammar s e ≡ true → length e.text ≡ text_width (is_text e.code) e.value
      → (xs : TreesOf Tree (sorts_below t.grammar s e)) → (x : Tree s) × (spell s x ≡ e ∷ spell_all spell (sorts_below t.grammar s e) xs)

abbrev sorts_waited : List Wait → List ℕ
sorts_waited [] = []
sorts_waited (w ∷ st) = w.sort ∷ sorts_waited st

sorts_append : (n k : ℕ) (ss : List ℕ) (st : List Wait) → sorts_waited (waits n k ss ++ st) ≡ ss ++ sorts_waited st
sorts_append n k [] st = refl
sorts_append n k (s ∷ ss) st = ap (λ (l : List ℕ). s ∷ l) (sorts_append n k ss st)

never : {A : Type 0} {p : Place} {o : Bool} → ◌≡◌ {A = Option (Place × Bool)} None (Some (p, o)) → A
never h = let z : ◌≡◌ {A = ℕ} 0 1 = cc in absurd (omega arith)

abbrev place_in : Place → Option (Place × Bool) → Place
place_in other None = other
place_in other (Some (p, o)) = p

same_place : {p q : Place} {a b : Bool} → ◌≡◌ {A = Option (Place × Bool)} (Some (p, a)) (Some (q, b)) → q ≡ p
same_place {p} h = sym (ap (place_in p) h)

module _ {t : Table} (trees : Language t) where
  abbrev All : List ℕ → Type 0
  All ss = TreesOf trees.Tree ss

  abbrev flat_all : (ss : List ℕ) → All ss → List Entry
  flat_all ss xs = spell_all trees.spell ss xs

  -- trees of some sorts and of others
  record Parted (ss ts : List ℕ) (xs : All (ss ++ ts)) : Type 0 where
    front : All ss
    back : All ts
    both : flat_all (ss ++ ts) xs ≡ flat_all ss front ++ flat_all ts back

  parted : (ss ts : List ℕ) (xs : All (ss ++ ts)) → Parted ss ts xs
  parted [] ts xs = record { front = tt; back = xs; both = refl }
  parted (s ∷ ss) ts xs =
      let r = parted ss ts xs.1 in
      let first = trees.spell s xs.0 in
      record {
        front = (xs.0, r.front);
        back = r.back;
        both =
            ap (λ (es : List Entry). first ++ es) r.both
            ∙ sym (append_assoc first (flat_all ss r.front) (flat_all ts r.back));
      }

  -- trees in front of the entries, and the scan's place behind them
  pub record Found (es : List Entry) (ss : List ℕ) (at : ℕ) (p : Place) : Type 0 where
    pub trees_are : All ss
    pub rest : List Entry
    pub split : es ≡ flat_all ss trees_are ++ rest
    pub ends : p.at ≡ at + length (flat_all ss trees_are)

  module _ (longest size : ℕ) where
    pub found : (es : List Entry) (st : List Wait) (at text : ℕ) (over : Bool) (p : Place) (o : Bool) → WellTexted es
        → scan_of t.grammar longest size es st at text over ≡ Some (p, o) → Found es (sorts_waited st) at p
    found [] [] at text over p o w h =
        record { trees_are = tt; rest = []; split = refl; ends = ap (λ (q : Place). q.at) (same_place h) ∙ sym (add-zero at) }
    found [] (c ∷ st) at text over p o w h = never h
    found (e ∷ es) [] at text over p o w h =
        record { trees_are = tt; rest = e ∷ es; split = refl; ends = ap (λ (q : Place). q.at) (same_place h) ∙ sym (add-zero at) }
    found (e ∷ es) (c ∷ st) at text over p o (all_cons wide w) h =
        go lets_in refl h
        (found es (below longest c head ++ st) (at + 1) (text + head.text) (over || exceeds longest c head) p o w)
      where
        head : Head
        head = head_of t.grammar c.sort e.code e.value

        lets_in : Bool
        lets_in = accepts (length es) (size - text) head && text_passes longest e.text

        ss : List ℕ
        ss = sorts_below t.grammar c.sort e

        grown : allowed t.grammar c.sort e ≡ true → Found es (ss ++ sorts_waited st) (at + 1) p
            → Found (e ∷ es) (c.sort ∷ sorts_waited st) at p
        grown ok f =
            let r = parted ss (sorts_waited st) f.trees_are in
            let x = trees.built c.sort e ok wide r.front in
            let same : e ∷ flat_all (ss ++ sorts_waited st) f.trees_are
            ≡ trees.spell c.sort x.0 ++ flat_all (sorts_waited st) r.back =
            ap (λ (l : List Entry). e ∷ l) r.both
            ∙ ap (λ (l : List Entry). l ++ flat_all (sorts_waited st) r.back) (sym x.1) in
            record {
              trees_are = (x.0, r.back);
              rest = f.rest;
              split = ap (λ (l : List Entry). e ∷ l) f.split ∙ ap (λ (l : List Entry). l ++ f.rest) same;
              ends = omega (arith, f.ends, ap length same);
            }

        go : (b : Bool) → lets_in ≡ b → {s : Option (Place × Bool)} → pick b s None ≡ Some (p, o)
            → (s ≡ Some (p, o) → Found es (sorts_waited (below longest c head ++ st)) (at + 1) p)
            → Found (e ∷ es) (c.sort ∷ sorts_waited st) at p
        go false a h next = never h
        go true a h next =
            let i = in_sort (sort_at t.grammar c.sort) e.code in
            let u = and_left (accepts (length es) (size - text) head) _ (from_true a) in
            let n = deeper longest c.nesting head in
            let k = enclosed c.calls head in
            grown (is_true (and_both i _ (and_left i _ u)
            (and_left (valued (row_at t.grammar e.code).values e.value) _ (and_right i _ u))))
            (subst (λ (l : List ℕ). Found es l (at + 1) p) (sorts_append n k ss st) (next h))

-- a scan that used up all entries took their text, and each text is one that it takes
pub record TookAll (longest : ℕ) (es : List Entry) (text : ℕ) (p : Place) : Type 0 where
  pub text_ends : p.text ≡ text + widths_of es
  pub texts_pass : TextsPass longest es

module _ (t : Table) (longest size : ℕ) where
  pub took_all : (es : List Entry) (st : List Wait) (at text : ℕ) (over : Bool) (p : Place) (o : Bool)
      → scan_of t.grammar longest size es st at text over ≡ Some (p, o) → p.at ≡ at + length es → TookAll longest es text p
  took_all [] [] at text over p o h e =
      record { text_ends = ap (λ (q : Place). q.text) (same_place h) ∙ sym (add-zero text); texts_pass = all_nil }
  took_all [] (c ∷ st) at text over p o h e = never h
  took_all (x ∷ es) [] at text over p o h e = let z = ap (λ (q : Place). q.at) (same_place h) in absurd (omega arith)
  took_all (x ∷ es) (c ∷ st) at text over p o h e =
      go lets_in refl h
      (λ g. took_all es (below longest c head ++ st) (at + 1) (text + head.text) (over || exceeds longest c head) p o g (omega arith))
    where
      head : Head
      head = head_of t.grammar c.sort x.code x.value

      lets_in : Bool
      lets_in = accepts (length es) (size - text) head && text_passes longest x.text

      width : head.text ≡ text_width (is_text x.code) x.value
      width = ap (λ (b : Bool). text_width b x.value) (t.texts_are x.code)

      go : (b : Bool) → lets_in ≡ b → {s : Option (Place × Bool)} → pick b s None ≡ Some (p, o)
          → (s ≡ Some (p, o) → TookAll longest es (text + head.text) p) → TookAll longest (x ∷ es) text p
      go false a h next = never h
      go true a h next =
          let rest = next h in
          record {
            text_ends = omega (arith, rest.text_ends, width);
            texts_pass = all_cons (and_right (accepts (length es) (size - text) head) _ (from_true a)) rest.texts_pass;
          }
