-- A count of the subtrees that are still to come keeps step with a scan's stack: as many as the waiting sorts say. Lists whose items are
-- one subtree each wait only on top of it, or behind one entry: that of texts behind a span, that of arguments behind a text.
-- Assumes nothing.
use Prim.Native.Nat.{ℕ, zero, suc, ◌+◌, ◌-◌, ◌*◌, ◌%◌, ◌≤◌, ◌<◌}
use mathlib.Core.Path.{◌≡◌, refl, ap, subst}
use mathlib.Core.Bool.{Bool, true, false, not, ◌&&◌, ◌||◌}
use mathlib.Core.List.{List, [], ◌∷◌, ◌++◌}
use native.Mathlib.Decide.{dec_lt}
use native.Mathlib.Omega.{arith}
use borrow.Author.Tests.{lt-ltb}
use lib.Dec.{T, leb, ltb, eqb, leb→le, ltb→lt, nltb→le, eqb→eq}
use lib.ListN.{get_or, replicate, get_or-eq_default}
use Rattle.format.specs.Tape.{text_width}
use Rattle.format.proofs.Tests.{and_left, and_right, and_both, from_true, is_true}
use Rattle.grammar.specs.Counts.{due_of, has_pairs, count_words, step_with}
use Rattle.grammar.specs.Grammar.{Follows, once, each, sorts_of, span, text, texts, arguments}
use Rattle.grammar.specs.Pick.{pick}
use Rattle.grammar.specs.Waits.{counted}
use Rattle.grammar.specs.Words.{temporal_grammar, sort_at, row_at, in_sort, text_mark, width_of, follows_in, follows_of}
use Rattle.std.specs.Prelude.{Some}
use Rattle.grammar.proofs.Marks.{sort_of, everywhere, past_row, past_sort, same_below}
use Rattle.grammar.proofs.Table.{every, at_both}

-- ------------------------------------------------------------------ sorts that wait

-- a sort that is no list of single items
abbrev clear : ℕ → Bool
clear s = ltb s 32 && has_pairs s

abbrev pub all_clear : List ℕ → Bool
all_clear [] = true
all_clear (s ∷ ss) = clear s && all_clear ss

-- how many subtrees they are
abbrev pub dues : List ℕ → ℕ
dues [] = 0
dues (s ∷ ss) = due_of s + dues ss

-- one entry, and such a list behind it
abbrev is_opening : ℕ → ℕ → Bool
is_opening s t = eqb s span && eqb t texts || eqb s text && eqb t arguments

-- so many subtrees for the waiting sorts, where the items of the next list are two subtrees each or not
pub data Counts : Bool → ℕ → List ℕ → Type 0 where
  plain : {due : ℕ} {ss : List ℕ} → T (all_clear ss) → due ≡ dues ss → Counts true due ss
  listed : {due s : ℕ} {ss : List ℕ} → s < 32 → has_pairs s ≡ false → T (all_clear ss) → due ≡ 1 + dues ss → Counts false due (s ∷ ss)
  opened : {due s t : ℕ} {ss : List ℕ} → T (is_opening s t) → T (all_clear ss) → due ≡ 2 + dues ss → Counts false due (s ∷ t ∷ ss)

due_some : (s : ℕ) → 1 ≤ due_of s
due_some s = grind arith

dues_append : (ss ts : List ℕ) → dues (ss ++ ts) ≡ dues ss + dues ts
dues_append [] ts = omega arith
dues_append (s ∷ ss) ts = omega (arith, dues_append ss ts)

clear_append : (ss ts : List ℕ) → T (all_clear ss) → T (all_clear ts) → T (all_clear (ss ++ ts))
clear_append [] ts a b = b
clear_append (s ∷ ss) ts a b = and_both (clear s) _ (and_left (clear s) _ a) (clear_append ss ts (and_right (clear s) _ a) b)

clear_replicate : (v s : ℕ) → T (clear s) → T (all_clear (replicate v s))
clear_replicate zero s c = tt
clear_replicate (suc v) s c = and_both (clear s) _ c (clear_replicate v s c)

one_each : (v s : ℕ) → due_of s ≡ 1 → dues (replicate v s) ≡ v
one_each zero s e = refl
one_each (suc v) s e = omega (arith, e, one_each v s e)

two_each : (v s : ℕ) → due_of s ≡ 2 → dues (replicate v s) ≡ 2 * v
two_each zero s e = refl
two_each (suc v) s e = omega (arith, e, two_each v s e)

opening_dues : (s t : ℕ) → T (is_opening s t) → (due_of s ≡ 1) × (due_of t ≡ 1) × (t < 32) × (has_pairs t ≡ false)
opening_dues s t o = (grind arith, grind arith, grind arith, grind arith)

opening_first : (s t : ℕ) → T (is_opening s t) → (s < 32) × ((eqb s span || eqb s text) ≡ true)
opening_first s t o = (grind arith, grind arith)

-- ------------------------------------------------------------------ the two tables

abbrev opening : List ℕ → Bool
opening [] = false
opening (s ∷ []) = false
opening (s ∷ t ∷ ss) = is_opening s t && all_clear ss

-- subtrees that a count says by itself
abbrev parts_of : ℕ → ℕ
parts_of x = pick (ltb x 8) x 0

-- what follows a code at a place of the sort n is as many subtrees as the code's number x says
abbrev shaped : ℕ → ℕ → Follows → Bool
shaped n x (once ss) =
    has_pairs n
    && pick (ltb x 16) (all_clear ss && eqb (dues ss + 1) (due_of n + parts_of x))
    (leb 32 x && (eqb (due_of n) 1 && (opening ss && eqb (dues ss) (x % 8))))
shaped n x (each s) =
    leb 16 x && (ltb x 32 && (eqb (due_of n) 1 && (clear s
    && pick (ltb x 24) (has_pairs n && eqb (due_of s) 1) (eqb (due_of s) (pick (has_pairs n) 2 1)))))

-- nothing follows
abbrev single : ℕ → Follows → Bool
single x (once []) = ltb x 16 && eqb (parts_of x) 0
single x (once (s ∷ ss)) = false
single x (each s) = false

abbrev following : ℕ → ℕ → Follows
following n c = follows_of (follows_in (sort_of n) (row_at temporal_grammar c))

abbrev agree : ℕ → ℕ → Bool
agree n c =
    not (in_sort (sort_of n) c)
    || shaped n (get_or count_words c 0) (following n c)
    && pick (eqb n span || eqb n text) (single (get_or count_words c 0) (following n c)) true

all_agree : T (every (λ (n : ℕ). every (agree n) 0 77) 0 32)
unfolding temporal_grammar count_words follows_of
all_agree = tt

tables_agree : (n c : ℕ) → n < 32 → in_sort (sort_of n) c ≡ true → T (shaped n (get_or count_words c 0) (following n c)
    && pick (eqb n span || eqb n text) (single (get_or count_words c 0) (following n c)) true)
tables_agree n c h i = go (dec_lt c 77)
  where
    rest : Bool
    rest = shaped n (get_or count_words c 0) (following n c) && pick (eqb n span || eqb n text) (single (get_or count_words c 0) (following n c)) true

    let_in : (b : Bool) → b ≡ true → T (not b || rest) → T rest
    let_in true e t = t
    let_in false e t = absurd (cc)

    go : Dec (c < 77) → T rest
    go (yes g) = let_in (in_sort (sort_of n) c) i
        (at_both agree 32 77 all_agree n c h g)
    go (no g) = absurd (past_sort n c h (omega arith) (from_true i))

-- a text's number says that it is one
abbrev text_count : ℕ → Bool
text_count x = leb 8 x && ltb x 16

text_counts : (c : ℕ) → text_mark (row_at temporal_grammar c) ≡ text_count (get_or count_words c 0)
unfolding temporal_grammar count_words
text_counts =
    everywhere
    (same_below (λ (k : ℕ). text_mark (row_at temporal_grammar k)) (λ (k : ℕ). text_count (get_or count_words k 0)) tt)
    (λ c h. rw (past_row c h, past_count c h))
  where
    past_count : (c : ℕ) → 77 ≤ c → get_or count_words c 0 ≡ 0
    past_count c h = get_or-eq_default count_words 0 {n = c} (omega arith)

-- ------------------------------------------------------------------ a step

module _ (left room v x : ℕ) where
  -- what an entry with the number x does to a count
  pub record Steps (pairs : Bool) (due : ℕ) (ss : List ℕ) : Type 0 where
    pub more : ℕ
    pub next : Bool
    pub steps : step_with x left room pairs v ≡ Some (more, text_width (text_count x) v, next)
    pub counts : Counts next (due - 1 + more) ss

  -- one of a sort that is no list of single items
  once_steps : (n : ℕ) (ts : List ℕ) {due : ℕ} (ss : List ℕ) → T (shaped n x (once ts)) → text_width (text_count x) v ≤ room
      → T (all_clear ss) → due ≡ due_of n + dues ss → Steps true due (ts ++ ss)
  unfolding text_width
  once_steps n ts {due} ss t fits c d = go (ltb x 16) (ltb→lt x 16) (nltb→le x 16) (and_right (has_pairs n) _ t)
    where
      some : 1 ≤ due_of n
      some = due_some n

      all : dues (ts ++ ss) ≡ dues ts + dues ss
      all = dues_append ts ss

      alone : (b : Bool) → (T b → x < 8) → (T (not b) → 8 ≤ x) → x < 16 → T (all_clear ts)
          → dues ts + 1 ≡ due_of n + pick b x 0 → Steps true due (ts ++ ss)
      alone true f g h a e =
          let p = f tt in
          record {
            more = x;
            next = true;
            steps = grind arith;
            counts = plain {due = due - 1 + x} {ss = ts ++ ss} (clear_append ts ss a c) (omega (arith, all, some));
          }
      alone false f g h a e =
          let p = g tt in
          let is_text_lem : text_count x ≡ true = grind arith in
          let q : v ≤ room = subst (λ (b : Bool). text_width b v ≤ room) is_text_lem fits in
          record {
            more = 0;
            next = true;
            steps = grind arith;
            counts = plain {due = due - 1 + 0} {ss = ts ++ ss} (clear_append ts ss a c) (omega (arith, all, some));
          }

      opens : (ts : List ℕ) → 32 ≤ x → due_of n ≡ 1 → T (opening ts) → dues ts ≡ x % 8 → Steps true due (ts ++ ss)
      opens [] h e o q = absurd o
      opens (s ∷ []) h e o q = absurd o
      opens (s ∷ u ∷ us) h e o q =
          let pair = opening_dues s u (and_left (is_opening s u) _ o) in
          let most = dues_append us ss in
          record {
            more = x % 8;
            next = false;
            steps = grind arith;
            counts = opened {due = due - 1 + x % 8} {ss = us ++ ss} (and_left (is_opening s u) _ o) (clear_append us ss (and_right (is_opening s u) _ o) c) (omega (arith, pair.0, pair.1));
          }

      go : (b : Bool) → (T b → x < 16) → (T (not b) → 16 ≤ x)
          → T (pick b (all_clear ts && eqb (dues ts + 1) (due_of n + parts_of x)) (leb 32 x && (eqb (due_of n) 1 && (opening ts && eqb (dues ts) (x % 8)))))
          → Steps true due (ts ++ ss)
      go true f g t =
          alone (ltb x 8) (ltb→lt x 8) (nltb→le x 8) (f tt) (and_left (all_clear ts) _ t)
          (eqb→eq (dues ts + 1) (due_of n + parts_of x) (and_right (all_clear ts) _ t))
      go false f g t =
          let u = and_right (leb 32 x) _ t in
          let w = and_right (eqb (due_of n) 1) _ u in
          opens ts (leb→le 32 x (and_left (leb 32 x) _ t)) (eqb→eq (due_of n) 1 (and_left (eqb (due_of n) 1) _ u))
          (and_left (opening ts) _ w) (eqb→eq (dues ts) (x % 8) (and_right (opening ts) _ w))

  each_steps : (n u : ℕ) {due : ℕ} (ss : List ℕ) → T (shaped n x (each u)) → has_pairs n ≡ true → v ≤ left → T (all_clear ss)
      → due ≡ due_of n + dues ss → Steps true due (replicate v u ++ ss)
  unfolding text_width
  each_steps n u {due} ss t h fits c d =
      let i = and_right (leb 16 x) _ t in
      let j = and_right (ltb x 32) _ i in
      let k = and_right (eqb (due_of n) 1) _ j in
      go (ltb x 24) (ltb→lt x 24) (nltb→le x 24) (leb→le 16 x (and_left (leb 16 x) _ t)) (ltb→lt x 32 (and_left (ltb x 32) _ i))
      (eqb→eq (due_of n) 1 (and_left (eqb (due_of n) 1) _ j)) (and_left (clear u) _ k) (and_right (clear u) _ k)
    where
      all : dues (replicate v u ++ ss) ≡ dues (replicate v u) + dues ss
      all = dues_append (replicate v u) ss

      go : (b : Bool) → (T b → x < 24) → (T (not b) → 24 ≤ x) → 16 ≤ x → x < 32 → due_of n ≡ 1 → T (clear u)
          → T (pick b (has_pairs n && eqb (due_of u) 1) (eqb (due_of u) (pick (has_pairs n) 2 1))) → Steps true due (replicate v u ++ ss)
      go true f g low high e a t =
          let one = one_each v u (eqb→eq (due_of u) 1 (and_right (has_pairs n) _ t)) in
          record {
            more = v;
            next = true;
            steps = grind arith;
            counts = plain {due = due - 1 + v} {ss = replicate v u ++ ss} (clear_append (replicate v u) ss (clear_replicate v u a) c) (omega (arith, all));
          }
      go false f g low high e a t =
          let two = two_each v u (eqb→eq (due_of u) 2 (subst (λ (b : Bool). T (eqb (due_of u) (pick b 2 1))) h t)) in
          record {
            more = 2 * v;
            next = true;
            steps = grind arith;
            counts = plain {due = due - 1 + 2 * v} {ss = replicate v u ++ ss} (clear_append (replicate v u) ss (clear_replicate v u a) c) (omega (arith, all));
          }

  plain_steps : (n : ℕ) (f : Follows) {due : ℕ} (ss : List ℕ) → T (shaped n x f) → has_pairs n ≡ true → counted f v ≤ left
      → text_width (text_count x) v ≤ room → T (all_clear ss) → due ≡ due_of n + dues ss → Steps true due (sorts_of f v ++ ss)
  plain_steps n (once ts) ss t h fits wide c d = once_steps n ts ss t wide c d
  plain_steps n (each u) ss t h fits wide c d = each_steps n u ss t h fits c d

  -- a list of single items
  listed_steps : (n : ℕ) (f : Follows) {due : ℕ} (ss : List ℕ) → T (shaped n x f) → has_pairs n ≡ false → counted f v ≤ left
      → T (all_clear ss) → due ≡ 1 + dues ss → Steps false due (sorts_of f v ++ ss)
  unfolding text_width
  listed_steps n (once ts) ss t h fits c d =
      absurd (subst T h (and_left (has_pairs n) _ t))
  listed_steps n (each u) {due} ss t h fits c d =
      let i = and_right (leb 16 x) _ t in
      let j = and_right (ltb x 32) _ i in
      let k = and_right (eqb (due_of n) 1) _ j in
      go (ltb x 24) (nltb→le x 24) (leb→le 16 x (and_left (leb 16 x) _ t)) (ltb→lt x 32 (and_left (ltb x 32) _ i))
      (and_left (clear u) _ k) (and_right (clear u) _ k)
    where
      all : dues (replicate v u ++ ss) ≡ dues (replicate v u) + dues ss
      all = dues_append (replicate v u) ss

      go : (b : Bool) → (T (not b) → 24 ≤ x) → 16 ≤ x → x < 32 → T (clear u)
          → T (pick b (has_pairs n && eqb (due_of u) 1) (eqb (due_of u) (pick (has_pairs n) 2 1))) → Steps false due (replicate v u ++ ss)
      go true g low high a t = absurd (subst T h (and_left (has_pairs n) _ t))
      go false g low high a t =
          let one = one_each v u (eqb→eq (due_of u) 1 (subst (λ (b : Bool). T (eqb (due_of u) (pick b 2 1))) h t)) in
          record {
            more = v;
            next = true;
            steps = grind arith;
            counts = plain {due = due - 1 + v} {ss = replicate v u ++ ss} (clear_append (replicate v u) ss (clear_replicate v u a) c) (omega (arith, all));
          }

  -- the entry in front of such a list
  opened_steps : (f : Follows) {due : ℕ} (t : ℕ) (ss : List ℕ) → T (single x f) → text_width (text_count x) v ≤ room → t < 32 → has_pairs t ≡ false
      → T (all_clear ss) → due ≡ 2 + dues ss → Steps false due (sorts_of f v ++ (t ∷ ss))
  unfolding text_width
  opened_steps (once (u ∷ us)) t ss o wide h p c d = absurd o
  opened_steps (each u) t ss o wide h p c d = absurd o
  opened_steps (once []) {due} t ss o wide h p c d =
      go (ltb x 8) (ltb→lt x 8) (nltb→le x 8) (ltb→lt x 16 (and_left (ltb x 16) _ o)) (eqb→eq (parts_of x) 0 (and_right (ltb x 16) _ o))
    where
      go : (b : Bool) → (T b → x < 8) → (T (not b) → 8 ≤ x) → x < 16 → pick b x 0 ≡ 0 → Steps false due (t ∷ ss)
      go true f g h₁ e =
          let q = f tt in
          record {
            more = x;
            next = false;
            steps = grind arith;
            counts = listed {due = due - 1 + x} {ss = ss} h p c (omega arith);
          }
      go false f g h₁ e =
          let q = g tt in
          let is_text_lem : text_count x ≡ true = grind arith in
          let k : v ≤ room = subst (λ (b : Bool). text_width b v ≤ room) is_text_lem wide in
          record {
            more = 0;
            next = false;
            steps = grind arith;
            counts = listed {due = due - 1 + 0} {ss = ss} h p c (omega arith);
          }

-- ------------------------------------------------------------------ a step of document 01

-- the number of a code, and the sort's own
module _ (left room c v : ℕ) where
  abbrev number : ℕ
  number = get_or count_words c 0

  -- an entry that a scan lets in at the first waiting sort
  pub step_counts : {pairs : Bool} {due s : ℕ} {ss : List ℕ} → Counts pairs due (s ∷ ss) → in_sort (sort_at temporal_grammar s) c ≡ true
      → counted (follows_of (follows_in (sort_at temporal_grammar s) (row_at temporal_grammar c))) v ≤ left
      → text_width (text_count number) v ≤ room
      → Steps left room v number pairs due (sorts_of (follows_of (follows_in (sort_at temporal_grammar s) (row_at temporal_grammar c))) v ++ ss)
  step_counts {s = s} {ss} (plain a d) i fits wide =
      let k = and_left (clear s) _ a in
      let h = ltb→lt s 32 (and_left (ltb s 32) _ k) in
      let n : s % 32 ≡ s = omega arith in
      rw n (plain_steps left room v number s (following s c) ss (and_left (shaped s number (following s c)) _ (tables_agree s c h (rw (← n) i)))
      (is_true (and_right (ltb s 32) _ k)) (rw (← n) fits) wide (and_right (clear s) _ a) d)
  step_counts {s = s} {ss} (listed h p a d) i fits wide =
      let n : s % 32 ≡ s = omega arith in
      rw n (listed_steps left room v number s (following s c) ss (and_left (shaped s number (following s c)) _ (tables_agree s c h (rw (← n) i)))
      p (rw (← n) fits) a d)
  step_counts {s = s} (opened {t = t} {ss = ss} o a d) i fits wide =
      let pair = opening_dues s t o in
      let first = opening_first s t o in
      let n : s % 32 ≡ s = omega (arith, first.0) in
      rw n (opened_steps left room v number (following s c) t ss
      (subst (λ (b : Bool). T (pick b (single number (following s c)) true)) first.1
      (and_right (shaped s number (following s c)) _ (tables_agree s c first.0 (rw (← n) i))))
      wide pair.2 pair.3 a d)

-- ------------------------------------------------------------------ the start

single_due : (s : ℕ) → s < 32 → has_pairs s ≡ false → due_of s ≡ 1
single_due s h e = grind arith

pub start_counts : (s : ℕ) → s < 32 → Counts (has_pairs s) (due_of s) (s ∷ [])
start_counts s h = go (has_pairs s) refl
  where
    go : (b : Bool) → has_pairs s ≡ b → Counts b (due_of s) (s ∷ [])
    go true e = plain {due = due_of s} {ss = s ∷ []} (and_both (clear s) _ (and_both (ltb s 32) _ (from_true (lt-ltb s 32 h)) (from_true e)) tt) (omega arith)
    go false e = listed {due = due_of s} {ss = []} h e tt (omega (arith, single_due s h e))

-- where subtrees are still to come there are sorts that wait, and the other way round
pub none_waits : {pairs : Bool} {due : ℕ} → Counts pairs due [] → due ≡ 0
none_waits (plain a d) = d

pub some_waits : {pairs : Bool} {due s : ℕ} {ss : List ℕ} → Counts pairs due (s ∷ ss) → due ≡ 0 → ⊥
some_waits {s = s} (plain a d) e = let q = due_some s in omega arith
some_waits (listed h p a d) e = omega arith
some_waits (opened o a d) e = omega arith

-- a text is as long as the scan's table says
pub width_counts : (c v : ℕ) → width_of (row_at temporal_grammar c) v ≡ text_width (text_count (get_or count_words c 0)) v
width_counts c v = ap (λ (b : Bool). text_width b v) (text_counts c)
