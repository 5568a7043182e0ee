-- Where definitions stand on two tapes, to compare them there is to say whether they agree in everything but spans.
-- Assumes nothing.
use Rattle.std.proofs.Common.{Some, None, Option}
use Prim.Native.Nat.{ℕ, suc, ◌+◌, ◌-◌}
use native.Mathlib.Omega.{arith}
use mathlib.Core.Path.{◌≡◌, refl, sym, ap, ◌∙◌}
use mathlib.Core.List.{List, [], ◌∷◌, ◌++◌}
use mathlib.Core.Bool.{Bool, true, false, ◌&&◌}
use mathlib.Core.Option.{Option as Maybe, none, some}
use lib.Dec.{eqb}
use lib.ListN.{length}
use borrow.Author.Tests.{eq-eqb, eqb-true, eqb-false}
use Rattle.format.specs.Entry.{Text, Entry}
use Rattle.format.specs.Ast.{MacroDef}
use Rattle.format.specs.Flat.{flat_params, flat_body, flat_def}
use Rattle.format.specs.Macro.{is_code}
use Rattle.format.proofs.All.{all_head}
use Rattle.format.proofs.Tests.{from_true}
use Rattle.definition.specs.Text.{eq_text}
use Rattle.definition.specs.Registry.{get}
use Rattle.definition.specs.Merge.{is_spanned, unless_span, erase_span, erase_spans, eq_entries, agrees}
use Rattle.definition.proofs.Texts.{text_equal}
use Rattle.definition.proofs.Order.{eq_refl}
use Rattle.tape.specs.Pick.{pick}
use Rattle.tape.specs.declared.layout.Layout.{Layout}
use Rattle.tape.specs.declared.layout.Place.{Place}
use Rattle.tape.proofs.Located.{past, past_at, Inside, inside_back, inside_next, inside_skip}
use Rattle.tape.proofs.Trees.{passes_definition}
use Rattle.nodes.specs.Node.{named, name_at}
use Rattle.nodes.specs.declared.Name.{Name}
use Rattle.nodes.proofs.Entries.{is_entry, is_spelled}
use Rattle.nodes.proofs.Placed.{heading_entries, parts_def}
use Rattle.registry.specs.Places.{key_of, get_at}
use Rattle.nodes.specs.declared.Definition.{Definition}
use Rattle.registry.specs.declared.rows.Row.{Row}
use Rattle.registry.proofs.Standing.{Indexed, indexed_nil, indexed_cons, Ended, ended_nil, ended_cons, other_key}
use Rattle.merge.specs.Agree.{same_head, text_at, alike_at, on_alike, same_from, agree_at, against_found, compare_at}
use Rattle.merge.specs.declared.agree.Compared.{Compared}
use Rattle.merge.specs.declared.agree.Compared.TheVariants.{New, Known, Differs}

-- ------------------------------------------------------------------ entries

text_is : {s : List ℕ} {l : Layout} {p : Place} {x : Entry} {es : List Entry} → Inside s l p (x ∷ es) → text_at s l p x.code x.value ≡ x.text
unfolding text_at
text_is {s} {l} {p} i = ap (λ (n : ℕ). name_at s l (named p n)) (sym (all_head i.texted)) ∙ is_spelled i

both_false : (b : Bool) {r : Bool} → r ≡ false → (b && r) ≡ false
both_false true h = h
both_false false h = refl

-- runs of other lengths do not agree
lengths_apart : (es fs : List Entry) → (length es ≡ length fs → ⊥) → eq_entries (erase_spans es) (erase_spans fs) ≡ false
unfolding eq_entries erase_spans
lengths_apart [] [] n = absurd (n refl)
lengths_apart [] (y ∷ fs) n = refl
lengths_apart (x ∷ es) [] n = refl
lengths_apart (x ∷ es) (y ∷ fs) n =
    both_false
    (eqb (erase_span x).code (erase_span y).code
    && (eqb (erase_span x).value (erase_span y).value && eq_text (erase_span x).text (erase_span y).text))
    (lengths_apart es fs (λ m. n (ap suc m)))

module _ {s : List ℕ} {d : Layout} {t : List ℕ} {e : Layout} where
  alike_is : {p q : Place} {x y : Entry} {es fs : List Entry} → Inside s d p (x ∷ es) → Inside t e q (y ∷ fs)
      → alike_at s d p t e q
      ≡ pick (same_head x.code x.value y.code y.value)
      (pick (eq_text x.text y.text) (Some (past (x ∷ []) p, past (y ∷ []) q)) None) None
  unfolding alike_at
  alike_is i j = rw (is_entry i, is_entry j, text_is i, text_is j)

  same_is : (es fs : List Entry) {p q : Place} → Inside s d p es → Inside t e q fs → length es ≡ length fs
      → same_from s d t e (length es) p q ≡ eq_entries (erase_spans es) (erase_spans fs)
  unfolding same_from eq_entries erase_spans erase_span same_head
  same_is [] [] i j n = refl
  same_is [] (y ∷ fs) i j n = absurd (omega arith)
  same_is (x ∷ es) [] i j n = absurd (omega arith)
  same_is (x ∷ es) (y ∷ fs) {p} {q} i j n =
      ap (on_alike false (same_from s d t e (length es))) (alike_is i j)
      ∙ go (eqb x.code y.code) (eqb (unless_span (is_spanned x.code) x.value) (unless_span (is_spanned y.code) y.value))
      (eq_text x.text y.text) (same_is es fs (inside_next x es i) (inside_next y fs j) (omega arith))
    where
      go : (a b c : Bool) {r : Bool} → same_from s d t e (length es) (past (x ∷ []) p) (past (y ∷ []) q) ≡ r
          → on_alike false (same_from s d t e (length es)) (pick (a && b) (pick c (Some (past (x ∷ []) p, past (y ∷ []) q)) None) None)
          ≡ ((a && (b && c)) && r)
      go true true true h = h
      go true true false h = refl
      go true false c h = refl
      go false b c h = refl

  runs_agree : (es fs : List Entry) {p q : Place} {n m : ℕ} → Inside s d p es → Inside t e q fs → n ≡ length es → m ≡ length fs
      → pick (eqb n m) (same_from s d t e n p q) false ≡ eq_entries (erase_spans es) (erase_spans fs)
  runs_agree es fs {p} {q} i j a b = rw (a, b) (by_length (eqb (length es) (length fs)) refl)
    where
      by_length : (k : Bool) → eqb (length es) (length fs) ≡ k
          → pick k (same_from s d t e (length es) p q) false ≡ eq_entries (erase_spans es) (erase_spans fs)
      by_length true h = same_is es fs i j (eqb-true (length es) (length fs) h)
      by_length false h = sym (lengths_apart es fs (eqb-false (length es) (length fs) h))

-- ------------------------------------------------------------------ definitions

-- the entries of a definition's head, and those behind it
abbrev head_of : MacroDef → List Entry
head_of d = heading_entries 60 d.span d.name (length d.params)

abbrev behind : MacroDef → List Entry
behind d = flat_params d.params ++ flat_body d.body

-- definitions of one name agree if they have as many parameters, and agree behind their heads
agrees_is : (c x : MacroDef) → c.name ≡ x.name
    → agrees c x ≡ pick (eqb (length c.params) (length x.params)) (eq_entries (erase_spans (behind c)) (erase_spans (behind x))) false
unfolding agrees eq_entries erase_spans erase_span flat_def is_spanned is_code unless_span eq_text
agrees_is c x same =
    rw (same, eq-eqb (length x.name) (length x.name) refl, eq_refl x.name)
    (go (eqb (length c.params) (length x.params)) (eq_entries (erase_spans (behind c)) (erase_spans (behind x))))
  where
    go : (b r : Bool) → ((b && true) && r) ≡ pick b r false
    go true r = refl
    go false r = refl

-- a definition whose head was read: what stands behind it, and where it ends
record Stood (s : List ℕ) (l : Layout) (f : Definition) (d : MacroDef) : Type 0 where
  its_count : f.heading.count ≡ length d.params
  stands : Inside s l f.params (behind d)
  ends : f.end ≡ f.params.at + length (behind d)

data FoundAs (s : List ℕ) (l : Layout) (name : Text) : Option Definition → Maybe MacroDef → Type 0 where
  found_nothing : FoundAs s l name None none
  found_whole : {f : Definition} {d : MacroDef} → Stood s l f d → d.name ≡ name → FoundAs s l name (Some f) (some d)

-- what a name finds, as `Registry::get` does
get_whole : {s : List ℕ} {l : Layout} {rs : List Row} {ds : List MacroDef} → Indexed s l rs ds → Ended s l rs ds → (name : Text)
    → FoundAs s l name (get_at s l rs name) (get ds name)
unfolding get_at get flat_def past
get_whole indexed_nil ended_nil name = found_nothing
get_whole {s} {l} (indexed_cons {r = r} {rs = rs} {d = d} {ds = ds} i k h) (ended_cons e more) name =
    let parts = parts_def d i in
    rw (parts.parts.read, parts.spelled)
    (by_key (eqb r.key (key_of name)) refl (get_whole h more name)
    (record {
      its_count = refl;
      stands = inside_back (head_of d) (behind d) i;
      ends = e ∙ past_at (behind d) (past (head_of d) r.place);
    }))
  where
    go : (b : Bool) → eq_text d.name name ≡ b → {f : Definition} → FoundAs s l name (get_at s l rs name) (get ds name) → Stood s l f d
        → FoundAs s l name (pick b (Some f) (get_at s l rs name)) (elim b [ true ↦ some d | false ↦ get ds name ])
    go true q rest f = found_whole f (text_equal d.name name (from_true q))
    go false q rest f = rest

    by_key : (t : Bool) → eqb r.key (key_of name) ≡ t → {f : Definition} → FoundAs s l name (get_at s l rs name) (get ds name) → Stood s l f d
        → FoundAs s l name (pick t (pick (eq_text d.name name) (Some f) (get_at s l rs name)) (get_at s l rs name))
        (elim (eq_text d.name name) [ true ↦ some d | false ↦ get ds name ])
    by_key true q rest f = go (eq_text d.name name) refl rest f
    by_key false q rest f = rw (other_key r d.name name k q) rest

-- ------------------------------------------------------------------ a definition of the second against the first

abbrev pub compared_with : Maybe MacroDef → MacroDef → Place → Compared
compared_with none x q = New q
compared_with (some c) x q = pick (agrees c x) (Known q) (Differs x.span)

module _ {s : List ℕ} {d : Layout} {t : List ℕ} {e : Layout} where
  agree_is : {g h : Definition} {c x : MacroDef} → Stood s d g c → Stood t e h x → c.name ≡ x.name → agree_at s d g t e h ≡ agrees c x
  unfolding agree_at
  agree_is {g} {h} {c} {x} f k same =
      let n : g.end - g.params.at ≡ length (behind c) = omega (arith, f.ends) in
      let m : h.end - h.params.at ≡ length (behind x) = omega (arith, k.ends) in
      rw (f.its_count, k.its_count)
      (ap (λ (b : Bool). pick (eqb (length c.params) (length x.params)) b false)
      (runs_agree (behind c) (behind x) f.stands k.stands n m)
      ∙ sym (agrees_is c x same))

  pub compare_is : {rows : List Row} {ds : List MacroDef} → Indexed s d rows ds → Ended s d rows ds → (x : MacroDef) {p : Place}
      → Inside t e p (flat_def x) → compare_at s d rows t e p ≡ compared_with (get ds x.name) x (past (flat_def x) p)
  unfolding compare_at flat_def past
  compare_is indexed ended x {p} i =
      let parts = parts_def x i in
      rw (parts.parts.read, inside_skip i (passes_definition x) (omega arith), parts.spelled)
      (go
      (record {
        its_count = refl;
        stands = inside_back (head_of x) (behind x) i;
        ends = past_at (behind x) (past (head_of x) p);
      })
      (get_whole indexed ended x.name))
    where
      go : {name : Name} {params : Place} {f : Option Definition} {o : Maybe MacroDef}
          → Stood t e (record { heading = record { span = x.span; name = name; count = length x.params }; params = params; end = (past (flat_def x) p).at }) x
          → FoundAs s d x.name f o
          → against_found s d t e (record { span = x.span; name = name; count = length x.params }) params (past (flat_def x) p) f
          ≡ compared_with o x (past (flat_def x) p)
      go k found_nothing = refl
      go k (found_whole f same) = ap (λ (b : Bool). pick b (Known (past (flat_def x) p)) (Differs x.span)) (agree_is f k same)
