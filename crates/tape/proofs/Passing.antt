-- Runs of entries that a scan passes over, by any table that is well made: an entry with what follows it, and one run behind another. What
-- a scan says of the largest figures is what the depths and the texts of the run say.
-- Assumes nothing.
use Prim.Native.Nat.{ℕ, ◌+◌, ◌-◌, ◌≤◌, ◌<◌, max}
use mathlib.Core.Path.{◌≡◌, refl, ap, sym, ◌∙◌}
use mathlib.Core.Bool.{Bool, true, false, not, ◌&&◌, ◌||◌, and_assoc, or_assoc, or-false}
use mathlib.Core.List.{List, [], ◌∷◌, ◌++◌, append_assoc}
use native.Mathlib.Nat.{add-zero}
use native.Mathlib.Omega.{arith}
use lib.Dec.{T, leb, ltb, leb→le, le→leb, ltb→lt, nltb→le, not_T, T_not}
use lib.ListN.{length, length-append, length-replicate}
use Rattle.format.specs.Entry.{Entry, text_of}
use Rattle.format.specs.Tape.{is_text, text_width}
use Rattle.format.proofs.All.{All, all_nil, all_cons, all_head, all_tail, all_append, all_left, all_right}
use Rattle.format.proofs.Encodes.{WellTexted}
use Rattle.format.proofs.Stands.{text_append}
use Rattle.grammar.specs.Grammar.{Follows, once, each, sorts_of}
use Rattle.grammar.specs.Words.{Rules, sort_at, row_at, in_sort, calls_of, follows_in, follows_of, longest_of}
use Rattle.grammar.specs.Waits.{Wait, wait, waits, head_of, valued, counted, accepts, is_limited, nests_by, deeper, enclosed, passes, exceeds}
use Rattle.grammar.specs.declared.entry.Head.{Head}
use Rattle.grammar.proofs.Marks.{Table, temporal, fewer}
use Rattle.tape.specs.Scan.{scan_of, text_passes}
use Rattle.format.proofs.Tests.{and_left, and_right, and_both, is_true, from_true, same_test}

-- ------------------------------------------------------------------ what a test reports

-- the test fails exactly where P holds
pub record Reports (b : Bool) (P : Type 0) : Type 0 where
  pub passed : T b → P → ⊥
  pub kept : T (not b) → P

-- a test that says when P holds is the other one negated
pub reported : {o : Bool} {P : Type 0} (b : Bool) → Reports o P → (T b → P) → (P → T b) → o ≡ not b
reported {o} b r f g = same_test (λ t. not_T b (λ u. r.passed t (f u))) (λ t. absurd_or o (λ n. T_not b t (g (r.kept n))))
  where
    absurd_or : (o : Bool) → (T (not o) → ⊥) → T o
    absurd_or true n = tt
    absurd_or false n = n tt

reports_or : {a b : Bool} {P Q R : Type 0} → Reports a P → Reports b Q → (P → Q → R) → (R → P) → (R → Q) → Reports (a || b) R
reports_or {a} {b} {P} {Q} {R} p q join left right = go a p
  where
    go : (a : Bool) → Reports a P → Reports (a || b) R
    go true p = record { passed = λ t r. p.passed tt (left r); kept = λ t. absurd t }
    go false p = record { passed = λ t r. q.passed t (right r); kept = λ t. join (p.kept tt) (q.kept t) }

paired : {a b : Bool} {P Q : Type 0} → Reports a P → Reports b Q → Reports (a || b) (P × Q)
paired p q = reports_or p q (λ x y. (x, y)) (λ r. r.0) (λ r. r.1)

reports_not : (b : Bool) → Reports b (T (not b))
reports_not true = record { passed = λ t n. n; kept = λ t. t }
reports_not false = record { passed = λ t n. t; kept = λ t. t }

-- what adds nothing passes nothing
reports_figure : (most n more : ℕ) → n ≤ most → Reports (passes most n more) (n + more ≤ most)
reports_figure most n more h =
    go (ltb most (n + more)) (ltb 0 more) (ltb→lt most (n + more)) (nltb→le most (n + more)) (nltb→le 0 more)
  where
    go : (a b : Bool) → (T a → most < n + more) → (T (not a) → n + more ≤ most) → (T (not b) → more ≤ 0) → Reports (a && b) (n + more ≤ most)
    go false b f g k = record { passed = λ t q. t; kept = λ t. g tt }
    go true false f g k = record { passed = λ t q. t; kept = λ t. let z = k tt in omega arith }
    go true true f g k = record { passed = λ t q. let z = f tt in omega arith; kept = λ t. absurd t }

-- ------------------------------------------------------------------ the largest figures

-- no text is longer than it may be
abbrev pub short_in : Rules → ℕ → List Entry → Bool
short_in g longest [] = true
short_in g longest (e ∷ es) = leb (length e.text) (longest_of longest (row_at g e.code)) && short_in g longest es

-- where that is asked
abbrev asked : Bool → Bool → Bool
asked true b = b
asked false b = true

asked_and : (limited a b : Bool) → asked limited (a && b) ≡ (asked limited a && asked limited b)
asked_and true a b = refl
asked_and false a b = refl

asked_not : (limited b : Bool) → asked limited (not b) ≡ not (limited && b)
asked_not true b = refl
asked_not false b = refl

-- entries with so many nodes and calls on a path, below n nodes and k calls, pass no largest figure
pub record Keeps (g : Rules) (longest n k nodes calls : ℕ) (listed : Bool) (es : List Entry) : Type 0 where
  pub nodes_keep : n + nodes ≤ 64
  pub calls_keep : k + calls ≤ 4
  pub listed_keep : T (asked (is_limited longest) listed)
  pub texts_keep : T (asked (is_limited longest) (short_in g longest es))

-- no short list of more than 16
abbrev pub listed_at : Rules → ℕ → ℕ → Bool
listed_at g s v = not ((sort_at g s).few && ltb 16 v)

asked_true : (limited : Bool) → T (asked limited true)
asked_true true = tt
asked_true false = tt

short_append : (g : Rules) (longest : ℕ) (es fs : List Entry) → short_in g longest (es ++ fs) ≡ (short_in g longest es && short_in g longest fs)
short_append g longest [] fs = refl
short_append g longest (e ∷ es) fs =
    let own = leb (length e.text) (longest_of longest (row_at g e.code)) in
    ap (λ (b : Bool). own && b) (short_append g longest es fs) ∙ sym (and_assoc own (short_in g longest es) (short_in g longest fs))

-- ------------------------------------------------------------------ runs that a scan passes over

-- each text is one that a scan takes
abbrev pub TextsPass : ℕ → List Entry → Type 0
TextsPass longest es = All (λ (e : Entry). T (text_passes longest e.text)) es

-- where no figures are asked for, any texts are
pub any_pass : (es : List Entry) → TextsPass 0 es
any_pass [] = all_nil
any_pass (e ∷ es) = all_cons tt (any_pass es)

-- A run of entries of the sorts ss, the heaviest path through which weighs d w, each entry on it weighed by w.
pub record PassesBy (t : Table) (ss : List ℕ) (es : List Entry) (d : (ℕ → ℕ) → ℕ) (listed : Bool) : Type 0 where
  pub texted : WellTexted es
  pub long : length ss ≤ length es
  pub over : ℕ → ℕ → ℕ → Bool
  pub run : (longest size n k : ℕ) (st : List Wait) (rest : List Entry) (at text : ℕ) (o : Bool)
      → n ≤ 64 → k ≤ 4 → text + length (text_of es) ≤ size → TextsPass longest es
      → scan_of t.grammar longest size (es ++ rest) (waits n k ss ++ st) at text o
      ≡ scan_of t.grammar longest size rest st (at + length es) (text + length (text_of es)) (o || over longest n k)
  pub says : (longest n k : ℕ) → n ≤ 64 → k ≤ 4
      → Reports (over longest n k) (Keeps t.grammar longest n k (d (t.nodes (is_limited longest))) (d t.calls) listed es)

-- by the table of document 01
abbrev pub Passes : List ℕ → List Entry → ((ℕ → ℕ) → ℕ) → Bool → Type 0
Passes ss es d listed = PassesBy temporal ss es d listed

moved : (g : Rules) (longest size : ℕ) (rest : List Entry) (st : List Wait) {at at' text text' : ℕ} {o o' : Bool}
    → at ≡ at' → text ≡ text' → o ≡ o' → scan_of g longest size rest st at text o ≡ scan_of g longest size rest st at' text' o'
moved g longest size rest st p q r = rw (p, q, r)

-- nothing
pub none : {t : Table} → PassesBy t [] [] (λ w. 0) true
unfolding text_of
none {t} =
    record {
      texted = all_nil;
      long = omega arith;
      over = λ longest n k. false;
      run = λ longest size n k st rest at text o h₁ h₂ h w. moved t.grammar longest size rest st (sym (add-zero at))
          (sym (add-zero text)) (sym (or-false o));
      says = λ longest n k h₁ h₂. record {
        passed = λ t q. t;
        kept = λ u. record {
          nodes_keep = omega arith;
          calls_keep = omega arith;
          listed_keep = asked_true (is_limited longest);
          texts_keep = asked_true (is_limited longest);
        };
      };
    }

waits_append : (n k : ℕ) (ss ts : List ℕ) (st : List Wait) → waits n k (ss ++ ts) ++ st ≡ waits n k ss ++ (waits n k ts ++ st)
waits_append n k [] ts st = refl
waits_append n k (s ∷ ss) ts st = ap (λ (l : List Wait). wait s n k ∷ l) (waits_append n k ss ts st)

-- one run behind another
module _ {t : Table} {ss ts : List ℕ} {es fs : List Entry} {d g : (ℕ → ℕ) → ℕ} {x y : Bool} where
  infixr 20 ◌then◌
  pub ◌then◌ : PassesBy t ss es d x → PassesBy t ts fs g y → PassesBy t (ss ++ ts) (es ++ fs) (λ w. max (d w) (g w)) (x && y)
  ◌then◌ a b =
      record {
        texted = all_append a.texted b.texted;
        long = omega (arith, a.long, b.long, length-append ss ts, length-append es fs);
        over = λ longest n k. a.over longest n k || b.over longest n k;
        run = λ longest size n k st rest at text o h₁ h₂ h w.
            let l = length-append es fs in
            let u = ap length (text_append es fs) ∙ length-append (text_of es) (text_of fs) in
            rw (append_assoc es fs rest, waits_append n k ss ts st)
            (a.run longest size n k (waits n k ts ++ st) (fs ++ rest) at text o h₁ h₂ (omega arith) (all_left es fs w)
            ∙ b.run longest size n k st rest (at + length es) (text + length (text_of es)) (o || a.over longest n k) h₁ h₂
            (omega arith) (all_right es w)
            ∙ moved t.grammar longest size rest st (omega arith) (omega arith) (or_assoc o (a.over longest n k) (b.over longest n k)));
        says = λ longest n k h₁ h₂.
            let z = is_limited longest in
            let first = short_in t.grammar longest es in
            let short = ap (asked z) (short_append t.grammar longest es fs) ∙ asked_and z first (short_in t.grammar longest fs) in
            let listed = asked_and z x y in
            reports_or (a.says longest n k h₁ h₂) (b.says longest n k h₁ h₂)
            (λ p q. record {
              nodes_keep = omega (arith, p.nodes_keep, q.nodes_keep);
              calls_keep = omega (arith, p.calls_keep, q.calls_keep);
              listed_keep = rw listed (and_both (asked z x) _ p.listed_keep q.listed_keep);
              texts_keep = rw short (and_both (asked z first) _ p.texts_keep q.texts_keep);
            })
            (λ r. record {
              nodes_keep = omega (arith, r.nodes_keep);
              calls_keep = omega (arith, r.calls_keep);
              listed_keep = and_left (asked z x) _ (rw listed at r.listed_keep);
              texts_keep = and_left (asked z first) _ (rw short at r.texts_keep);
            })
            (λ r. record {
              nodes_keep = omega (arith, r.nodes_keep);
              calls_keep = omega (arith, r.calls_keep);
              listed_keep = and_right (asked z x) _ (rw listed at r.listed_keep);
              texts_keep = and_right (asked z first) _ (rw short at r.texts_keep);
            });
      }

-- ------------------------------------------------------------------ an entry with what follows it

pub not_ltb : (a b : ℕ) → not (ltb a b) ≡ leb b a
not_ltb a b = same_test (λ t. le→leb b a (nltb→le a b t))
    (λ t. not_T (ltb a b) (λ u. let g = ltb→lt a b u in let h = leb→le b a t in omega arith))

-- a code and a value that may stand at a place of a sort
abbrev pub allowed : Rules → ℕ → Entry → Bool
allowed g s e = in_sort (sort_at g s) e.code && valued (row_at g e.code).values e.value

-- the sorts of what follows
abbrev pub sorts_below : Rules → ℕ → Entry → List ℕ
sorts_below g s e = sorts_of (follows_of (follows_in (sort_at g s) (row_at g e.code))) e.value

-- a count says no more entries than there are sorts
counted_long : (f : Follows) (v : ℕ) → counted f v ≤ length (sorts_of f v)
counted_long (once ss) v = omega arith
counted_long (each s) v = omega (arith, length-replicate v s)

module _ (t : Table) (s : ℕ) (e : Entry) (ok : allowed t.grammar s e ≡ true)
    (wide : length e.text ≡ text_width (is_text e.code) e.value) where
  abbrev head : Head
  head = head_of t.grammar s e.code e.value

  -- the table's mark says the same
  width : length e.text ≡ head.text
  width = wide ∙ ap (λ (b : Bool). text_width b e.value) (sym (t.texts_are e.code))

  lets_in : (left room : ℕ) → counted (follows_of head.follows) e.value ≤ left → length e.text ≤ room
      → accepts left room head ≡ true
  lets_in left room h₁ h₂ =
      let u = from_true ok in
      let a = in_sort head.sort e.code in
      is_true (and_both a _ (and_left a _ u)
      (and_both (valued head.row.values e.value) _ (and_right a _ u)
      (and_both (leb (counted (follows_of head.follows) e.value) left) _ (le→leb _ _ h₁) (le→leb _ _ (rw width at h₂)))))

  -- the entry's own figures
  short_entry : (limited : Bool) (longest : ℕ) (es : List Entry)
      → asked limited (short_in t.grammar longest (e ∷ es))
      ≡ (not (limited && ltb (longest_of longest head.row) head.text) && asked limited (short_in t.grammar longest es))
  short_entry true longest es =
      rw width (ap (λ (b : Bool). b && short_in t.grammar longest es) (sym (not_ltb (longest_of longest head.row) head.text)))
  short_entry false longest es = refl

  module _ {es : List Entry} {d : (ℕ → ℕ) → ℕ} {x : Bool} (b : PassesBy t (sorts_below t.grammar s e) es d x) where
    entry_says : (longest n k : ℕ) → n ≤ 64 → k ≤ 4
        → Reports (exceeds longest (wait s n k) head || b.over longest (deeper longest n head) (enclosed k head))
        (Keeps t.grammar longest n k (t.nodes (is_limited longest) e.code + d (t.nodes (is_limited longest))) (t.calls e.code + d t.calls)
        (listed_at t.grammar s e.value && x) (e ∷ es))
    entry_says longest n k h₁ h₂ =
        let z = is_limited longest in
        let long = z && ltb (longest_of longest head.row) head.text in
        let short = short_entry z longest es in
        let many = head.sort.few && ltb 16 e.value in
        let listed = asked_and z (not many) x ∙ ap (λ (b : Bool). b && asked z x) (asked_not z many) in
        let node = t.nodes_are z e.code in
        let call = t.calls_are e.code in
        reports_or
        (paired (reports_figure 64 n (nests_by longest head) h₁)
        (paired (reports_figure 4 k (calls_of head.row) h₂)
        (paired (reports_not (z && many)) (reports_not long))))
        (b.says longest (deeper longest n head) (enclosed k head) (omega arith) (omega arith))
        (λ p q. record {
          nodes_keep = omega (arith, p.0, q.nodes_keep, node);
          calls_keep = omega (arith, p.1.0, q.calls_keep, call);
          listed_keep = rw listed (and_both (not (z && many)) _ p.1.1.0 q.listed_keep);
          texts_keep = rw short (and_both (not long) _ p.1.1.1 q.texts_keep);
        })
        (λ r. (
          omega (arith, r.nodes_keep, node),
          (
            omega (arith, r.calls_keep, call),
            (and_left (not (z && many)) _ (rw listed at r.listed_keep), and_left (not long) _ (rw short at r.texts_keep)),
          ),
        ))
        (λ r. record {
          nodes_keep = omega (arith, r.nodes_keep, node);
          calls_keep = omega (arith, r.calls_keep, call);
          listed_keep = and_right (not (z && many)) _ (rw listed at r.listed_keep);
          texts_keep = and_right (not long) _ (rw short at r.texts_keep);
        })

    entry_passes : PassesBy t (s ∷ []) (e ∷ es) (λ w. w e.code + d w) (listed_at t.grammar s e.value && x)
    unfolding text_of
    entry_passes =
        record {
          texted = all_cons wide b.texted;
          long = omega arith;
          over = λ longest n k. exceeds longest (wait s n k) head || b.over longest (deeper longest n head) (enclosed k head);
          run = λ longest size n k st rest at text o h₁ h₂ h w.
              let c = counted_long (follows_of head.follows) e.value in
              let l = length-append es rest in
              let u = length-append e.text (text_of es) in
              let more = exceeds longest (wait s n k) head in
              let fits = lets_in (length (es ++ rest)) (size - text) (omega (arith, b.long)) (omega arith) in
              let ok' : (accepts (length (es ++ rest)) (size - text) head && text_passes longest e.text) ≡ true =
              is_true (and_both (accepts (length (es ++ rest)) (size - text) head) _ (from_true fits) (all_head w)) in
              rw ok'
              (b.run longest size (deeper longest n head) (enclosed k head) st rest (at + 1) (text + head.text) (o || more) (omega arith)
              (omega arith) (omega (arith, width)) (all_tail w)
              ∙ moved t.grammar longest size rest st (omega arith) (omega (arith, width))
              (or_assoc o more (b.over longest (deeper longest n head) (enclosed k head))));
          says = entry_says;
        }

module _ {t : Table} where
  -- the same with its depths said otherwise
  deep_as : {ss : List ℕ} {es : List Entry} {d : (ℕ → ℕ) → ℕ} {x : Bool} (g : (ℕ → ℕ) → ℕ)
      → ((limited : Bool) → d (t.nodes limited) ≡ g (t.nodes limited))
      → d t.calls ≡ g t.calls → PassesBy t ss es d x → PassesBy t ss es g x
  deep_as g p q b =
      record {
        texted = b.texted;
        long = b.long;
        over = b.over;
        run = b.run;
        says = λ longest n k h₁ h₂. rw (← (p (is_limited longest)), ← q) (b.says longest n k h₁ h₂);
      }

  module _ (s : ℕ) (e : Entry) (ok : allowed t.grammar s e ≡ true) (wide : length e.text ≡ text_width (is_text e.code) e.value)
      {es : List Entry} {x : Bool} where
    pub node : {d : (ℕ → ℕ) → ℕ} → PassesBy t (sorts_below t.grammar s e) es d x
        → PassesBy t (s ∷ []) (e ∷ es) (λ w. w e.code + d w) (listed_at t.grammar s e.value && x)
    node b = entry_passes t s e ok wide b

    -- an entry with nothing deep below it
    pub tip : PassesBy t (sorts_below t.grammar s e) es (λ w. 0) x
        → PassesBy t (s ∷ []) (e ∷ es) (λ w. w e.code) (listed_at t.grammar s e.value && x)
    tip b = deep_as _ (λ limited. omega arith) (omega arith) (node b)

    -- an entry that is no node and no call
    pub plain : {d : (ℕ → ℕ) → ℕ} → t.nodes true e.code ≡ 0 → t.calls e.code ≡ 0
        → PassesBy t (sorts_below t.grammar s e) es d x
        → PassesBy t (s ∷ []) (e ∷ es) d (listed_at t.grammar s e.value && x)
    plain {d} p q b = deep_as d (λ limited. omega (arith, light limited)) (omega arith) (node b)
      where
        light : (limited : Bool) → t.nodes limited e.code ≡ 0
        light true = p
        light false = omega (arith, fewer t e.code, p)

  -- something behind a run in which nothing is deep
  infixr 20 ◌before◌
  pub ◌before◌ : {ss ts : List ℕ} {es fs : List Entry} {g : (ℕ → ℕ) → ℕ} {x y : Bool}
      → PassesBy t ss es (λ w. 0) x → PassesBy t ts fs g y → PassesBy t (ss ++ ts) (es ++ fs) g (x && y)
  ◌before◌ {g = g} a b = deep_as g (λ limited. omega arith) (omega arith) (a then b)
