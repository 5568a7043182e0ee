-- Entries that are passed over: so many, whatever they are, and the items of fields and arrays.
-- Assumes nothing.
use Prim.Native.Nat.{ℕ, suc, ◌+◌, ◌-◌, ◌*◌, ◌≤◌}
use native.Mathlib.Nat.{zero-add, add-zero}
use native.Mathlib.Omega.{arith}
use mathlib.Core.Path.{◌≡◌, refl, sym, ap, ap₂, subst, ◌∙◌}
use mathlib.Core.List.{List, [], ◌∷◌, ◌++◌, append-nil}
use mathlib.Core.Bool.{true, false}
use lib.Dec.{leb, eqb, eqb-suc-zero}
use lib.ListN.{length, length-append}
use borrow.Author.Tests.{le-leb}
use Rattle.format.specs.Entry.{Text, Entry, entry, text_entry, text_of}
use Rattle.format.specs.Ast.{Term, NamedArgs, Terms}
use Rattle.format.specs.Flat.{flat_texts, flat_bool, flat_arith, length_terms, length_fields, flat_term, flat_agg, flat_fields, flat_terms, open_flat}
use Rattle.format.specs.Tape.{is_text, text_width}
use Rattle.format.proofs.All.{all_head}
use Rattle.format.proofs.Behind.{length_texts, terms_count}
use Rattle.tape.specs.declared.layout.Layout.{Layout}
use Rattle.tape.specs.declared.layout.Place.{Place}
use Rattle.tape.proofs.Located.{past, past_append, past_at, Inside, inside_front, inside_back, inside_next, inside_skip}
use Rattle.tape.proofs.Runs.{run_code, run_value}
use Rattle.tape.proofs.Trees.{passes_term}
use Rattle.registry.specs.declared.rows.Row.{Row}
use Rattle.expand_counts.specs.Counting.{passing, few, rest_of_term, over_at, brought_by, passed_at, counted_at, count_from}
use Rattle.expand_counts.specs.declared.Passing.{Passing}

module _ {s : List ℕ} {l : Layout} where
  -- a list has no more items than there are entries behind its count
  pub few_is : {p : Place} (v : ℕ) (e : Entry) (es : List Entry) → Inside s l p (e ∷ es) → v ≤ length es → few v ≡ v
  few_is v e es i h = rw (le-leb v 1024 (omega (arith, i.run.entries_left, i.run.held.entries_most)))

  pub path_is : {p : Place} (code : ℕ) (path : List Text) → Inside s l p (entry code (length path) ∷ flat_texts path)
      → few (length path) ≡ length (flat_texts path)
  path_is code path i = few_is (length path) _ _ i (omega (arith, length_texts path)) ∙ sym (length_texts path)

  -- the rest of a term is what stands behind its first entry
  pub rest_is : {p : Place} (t : Term) (e : Entry) (es : List Entry) → flat_term t ≡ e ∷ es → Inside s l p (e ∷ es) → rest_of_term s l p ≡ length es
  unfolding rest_of_term
  rest_is {p} t e es q i =
      let h : Inside s l p (flat_term t) = rw q i in
      rw (inside_skip h (passes_term t) (omega arith), q) (omega (arith, past_at (e ∷ es) p))

-- ------------------------------------------------------------------ entry by entry

module _ (reg : List ℕ) (d : Layout) (rows : List Row) (s : List ℕ) (l : Layout) where
  -- the counts of n entries from a place on, of which so many and then so many items are passed over
  abbrev pub From : ℕ → Place → (over items : ℕ) → List ℕ → List ℕ
  From n p over items ks = count_from reg d rows s l n p (passing over items) ks

  -- the entry at a place, and the entries behind it
  pub turn : {e : Entry} {es : List Entry} {p : Place} (n : ℕ) (w : Passing) (ks : List ℕ) → Inside s l p (e ∷ es)
      → count_from reg d rows s l (suc n) p w ks
      ≡ count_from reg d rows s l n (past (e ∷ []) p) (passed_at s l p w e.code e.value) (counted_at reg d rows s l p w e.code ks)
  unfolding count_from past text_of
  turn {e} {es} {p} n w ks i =
      let wide : text_width (is_text e.code) e.value ≡ length e.text = sym (all_head i.texted) in
      let fits : leb (p.text + length e.text) l.size ≡ true =
      le-leb (p.text + length e.text) l.size (omega (arith, i.run.text_left, length-append e.text (text_of es))) in
      rw (run_code i.run, run_value i.run, wide, fits)

  -- an entry that is passed over
  passed_over : {e : Entry} {es : List Entry} {p : Place} (n over items : ℕ) (ks : List ℕ) → Inside s l p (e ∷ es)
      → From (suc n) p (suc over) items ks ≡ From n (past (e ∷ []) p) over items ks
  unfolding passed_at counted_at
  passed_over {e} {p = p} n over items ks i =
      let less : suc over - 1 ≡ over = omega arith in
      turn n (passing (suc over) items) ks i ∙ rw (eqb-suc-zero over, less)

  -- one that is not, and is no call
  pub taken : {e : Entry} {es : List Entry} {p : Place} (n items over brought : ℕ) (ks : List ℕ) → Inside s l p (e ∷ es)
      → over_at s l p items e.code e.value ≡ over → brought_by items e.code e.value ≡ brought → eqb e.code 54 ≡ false
      → From (suc n) p 0 items ks ≡ From n (past (e ∷ []) p) over (items - 1 + brought) ks
  unfolding passed_at counted_at
  taken n items over brought ks i o b c = turn n (passing 0 items) ks i ∙ rw (o, b, c)

  pub over_run : (es : List Entry) (n over items : ℕ) {p : Place} (ks : List ℕ) → Inside s l p es
      → From (length es + n) p (length es + over) items ks ≡ From n (past es p) over items ks
  unfolding past
  over_run [] n over items {p} ks i = ap₂ (λ (m o : ℕ). From m p o items ks) (zero-add n) (zero-add over)
  over_run (e ∷ es) n over items {p} ks i =
      let m : length (e ∷ es) + n ≡ suc (length es + n) = omega arith in
      let o : length (e ∷ es) + over ≡ suc (length es + over) = omega arith in
      ap₂ (λ (m o : ℕ). From m p o items ks) m o
      ∙ passed_over (length es + n) (length es + over) items ks i
      ∙ over_run es n over items ks (inside_next e es i)

  -- k items, passed over whatever stands behind them
  pub record Items (es : List Entry) (k : ℕ) : Type 0 where
    pub run : (n items : ℕ) {p : Place} (ks : List ℕ) → Inside s l p es → From (length es + n) p 0 (k + items) ks ≡ From n (past es p) 0 items ks

  pub no_items : Items [] 0
  unfolding past
  no_items = record { run = λ n items {p} ks i. ap₂ (λ (m k : ℕ). From m p 0 k ks) (zero-add n) (zero-add items) }

  pub items_then : {es fs : List Entry} {j k : ℕ} → Items es j → Items fs k → Items (es ++ fs) (j + k)
  items_then {es} {fs} {j} {k} a b =
      record {
        run = λ n items {p} ks i.
            let m : length (es ++ fs) + n ≡ length es + (length fs + n) = omega (arith, length-append es fs) in
            let o : j + k + items ≡ j + (k + items) = omega arith in
            ap₂ (λ (m k : ℕ). From m p 0 k ks) m o
            ∙ a.run (length fs + n) (k + items) ks (inside_front es fs i)
            ∙ b.run n items ks (inside_back es fs i)
            ∙ ap (λ (q : Place). From n q 0 items ks) (sym (past_append es fs p));
      }

  pub as_many : {es : List Entry} (j k : ℕ) → j ≡ k → Items es j → Items es k
  as_many {es} j k e a = subst (Items es) e a

  -- an item whose first entry says that so many entries are passed over, and then so many items
  pub item : (e : Entry) (os : List Entry) {ms : List Entry} {k : ℕ}
      → ((p : Place) (items : ℕ) → Inside s l p (e ∷ (os ++ ms)) → over_at s l p (suc items) e.code e.value ≡ length os)
      → ((p : Place) (items : ℕ) → Inside s l p (e ∷ (os ++ ms)) → brought_by (suc items) e.code e.value ≡ k)
      → eqb e.code 54 ≡ false → Items ms k → Items (e ∷ (os ++ ms)) 1
  unfolding past
  item e os {ms} {k} o b c a =
      record {
        run = λ n items {p} ks i.
            let behind = inside_next e (os ++ ms) i in
            let first : Place = past (e ∷ []) p in
            let m : length (e ∷ (os ++ ms)) + n ≡ suc (length os + (length ms + n)) = omega (arith, length-append os ms) in
            let one : 1 + items ≡ suc items = omega arith in
            let left : suc items - 1 + k ≡ k + items = omega arith in
            ap₂ (λ (m k : ℕ). From m p 0 k ks) m one
            ∙ taken (length os + (length ms + n)) (suc items) (length os) k ks i (o p items i) (b p items i) c
            ∙ ap₂ (λ (v k : ℕ). From (length os + (length ms + n)) first v k ks) (sym (add-zero (length os))) left
            ∙ over_run os (length ms + n) 0 (k + items) ks (inside_front os ms behind)
            ∙ a.run n items ks (inside_back os ms behind)
            ∙ ap (λ (q : Place). From n q 0 items ks) (sym (past_append os ms first));
      }

  -- an item of one entry, of an entry and texts or the like, of an entry and other items
  pub tip : (e : Entry) → ((p : Place) (items : ℕ) → over_at s l p (suc items) e.code e.value ≡ 0)
      → ((items : ℕ) → brought_by (suc items) e.code e.value ≡ 0) → eqb e.code 54 ≡ false → Items (e ∷ []) 1
  tip e o b c = item e [] (λ p items i. o p items) (λ p items i. b items) c no_items

  pub covers : (e : Entry) (os : List Entry)
      → ((p : Place) (items : ℕ) → Inside s l p (e ∷ os) → over_at s l p (suc items) e.code e.value ≡ length os)
      → ((items : ℕ) → brought_by (suc items) e.code e.value ≡ 0) → eqb e.code 54 ≡ false → Items (e ∷ os) 1
  covers e os o b c =
      subst (λ (ms : List Entry). Items (e ∷ ms) 1) (append-nil os)
      (item e os (λ p items i. o p items (subst (λ (ms : List Entry). Inside s l p (e ∷ ms)) (append-nil os) i)) (λ p items i. b items) c no_items)

  pub brings : (e : Entry) {ms : List Entry} {k : ℕ} → ((p : Place) (items : ℕ) → over_at s l p (suc items) e.code e.value ≡ 0)
      → ((p : Place) (items : ℕ) → Inside s l p (e ∷ ms) → brought_by (suc items) e.code e.value ≡ k) → eqb e.code 54 ≡ false → Items ms k
      → Items (e ∷ ms) 1
  brings e o b c a = item e [] (λ p items i. o p items) b c a

  -- ------------------------------------------------------------------ terms and fields

  pub text_item : (t : Text) → Items (text_entry 40 t ∷ []) 1
  unfolding over_at brought_by
  text_item t = tip (text_entry 40 t) (λ p items. refl) (λ items. refl) refl

  mutual
    unfolding open_flat over_at brought_by

    pub item_term : (t : Term) → Items (flat_term t) 1
    item_term (Term.Entity ty id) = covers (entry 20 0) (text_entry 40 ty ∷ text_entry 40 id ∷ []) (λ p items i. refl) (λ items. refl) refl
    item_term (Term.Integer n) = tip (entry 21 n) (λ p items. refl) (λ items. refl) refl
    item_term (Term.Decimal t) = tip (text_entry 22 t) (λ p items. refl) (λ items. refl) refl
    item_term (Term.String t) = tip (text_entry 23 t) (λ p items. refl) (λ items. refl) refl
    item_term (Term.Bool b) = tip (entry 24 (flat_bool b)) (λ p items. refl) (λ items. refl) refl
    item_term (Term.ContextField path) = covers (entry 25 (length path)) (flat_texts path) (λ p items i. path_is 25 path i) (λ items. refl) refl
    item_term (Term.ScopeField path) = covers (entry 26 (length path)) (flat_texts path) (λ p items i. path_is 26 path i) (λ items. refl) refl
    item_term (Term.Var n) = tip (text_entry 27 n) (λ p items. refl) (λ items. refl) refl
    item_term Term.Wildcard = tip (entry 28 0) (λ p items. refl) (λ items. refl) refl
    item_term (Term.Array ts) =
        brings (entry 29 (length_terms ts)) (λ p items. refl) (λ p items i. few_is (length_terms ts) _ _ i (terms_count ts)) refl (item_terms ts)
    item_term (Term.Agg a) = covers (entry 30 0) (flat_agg a) (λ p items i. rw (eqb-suc-zero items) (rest_is (Term.Agg a) (entry 30 0) (flat_agg a) refl i)) (λ items. refl) refl
    item_term (Term.Arith op a b) =
        brings (entry 31 (flat_arith op)) (λ p items. refl) (λ p items i. rw (eqb-suc-zero items)) refl (items_then (item_term a) (item_term b))
    item_term (Term.ParamRef n) = tip (text_entry 32 n) (λ p items. refl) (λ items. refl) refl
    item_term (Term.BinderRef n) = tip (text_entry 33 n) (λ p items. refl) (λ items. refl) refl

    pub item_terms : (ts : Terms) → Items (flat_terms ts) (length_terms ts)
    item_terms Terms.no_terms = no_items
    item_terms (Terms.cons_term t ts) = as_many (1 + length_terms ts) (suc (length_terms ts)) (omega arith) (items_then (item_term t) (item_terms ts))

  -- a name and a term each
  pub item_fields : (fs : NamedArgs) → Items (flat_fields fs) (2 * length_fields fs)
  unfolding open_flat
  item_fields NamedArgs.no_fields = no_items
  item_fields (NamedArgs.cons_field n t fs) =
      as_many (1 + (1 + 2 * length_fields fs)) (2 * suc (length_fields fs)) (omega arith)
      (items_then (text_item n) (items_then (item_term t) (item_fields fs)))

  -- a predicate's namespace, its action and its kind
  pub item_names : (ns : List Text) (a k : Text) → Items ((entry 41 (length ns) ∷ flat_texts ns) ++ (text_entry 40 a ∷ text_entry 40 k ∷ [])) 3
  unfolding over_at brought_by
  item_names ns a k =
      items_then
      (covers (entry 41 (length ns)) (flat_texts ns) (λ p items i. rw (eqb-suc-zero items) (path_is 41 ns i)) (λ items. rw (eqb-suc-zero items)) refl)
      (items_then (text_item a) (text_item k))
