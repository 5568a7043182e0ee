-- Where a registry stands, its index has the places of its definitions, and a name finds the definition that `Registry::get` finds.
-- Assumes nothing.
use Rattle.std.proofs.Common.{Some, None, Option}
use Prim.Native.Nat.{ℕ, suc, ◌+◌, ◌≤◌}
use native.Mathlib.Nat.{add-zero, zero-add}
use native.Mathlib.Omega.{arith}
use mathlib.Core.Path.{◌≡◌, refl, sym, ap, ◌∙◌}
use mathlib.Core.List.{List, [], ◌∷◌, ◌++◌}
use mathlib.Core.Bool.{Bool, true, false}
use mathlib.Core.Option.{Option as Maybe, none, some}
use lib.Dec.{T, leb, eqb}
use lib.ListN.{length, take, length-append}
use lib.Seq.{take_all}
use borrow.Author.Tests.{le-leb, eqb-false}
use Rattle.format.specs.Entry.{Text, Entry, entry, text_entry, text_of}
use Rattle.format.specs.Ast.{MacroDef}
use Rattle.format.specs.Flat.{flat_params, flat_body, flat_def, flat_defs, flat_registry}
use Rattle.format.specs.Tape.{is_text, text_width, registry_root}
use Rattle.format.proofs.All.{all_nil, all_cons, all_head, all_append}
use Rattle.format.proofs.Tests.{is_true}
use Rattle.format.proofs.Registries.{long_defs}
use Rattle.definition.specs.Text.{eq_text}
use Rattle.definition.specs.Registry.{get}
use Rattle.definition.proofs.Texts.{text_equal}
use Rattle.tape.specs.Pick.{pick}
use Rattle.tape.specs.Layouts.{holds}
use Rattle.nodes.specs.Node.{name_at}
use Rattle.tape.specs.declared.layout.Layout.{Layout}
use Rattle.tape.specs.declared.layout.Place.{Place}
use Rattle.nodes.specs.declared.Heading.{Heading}
use Rattle.tape.proofs.Located.{past, past_at, Inside, inside_next, Alone}
use Rattle.tape.proofs.Runs.{place, run_code, run_value}
use Rattle.nodes.proofs.Entries.{is_spelled}
use Rattle.nodes.proofs.Placed.{parts_def, parts_defs}
use Rattle.registry.specs.Places.{key_of, end_of, cons_if, key_at, rows_from, index_at, get_at}
use Rattle.nodes.specs.declared.Definition.{Definition}
use Rattle.registry.specs.declared.rows.Row.{Row}
use Rattle.tape.proofs.Holding.{holding}
use Rattle.registry.proofs.Codes.{Inner, inner_params, inner_body}

-- ------------------------------------------------------------------ the index

module _ (s : List ℕ) (l : Layout) where
  -- each definition stands at its row's place, and the row has its name's key
  pub data Indexed : List Row → List MacroDef → Type 0 where
    indexed_nil : Indexed [] []
    indexed_cons : {r : Row} {rs : List Row} {d : MacroDef} {ds : List MacroDef} → Inside s l r.place (flat_def d) → r.key ≡ key_of d.name
        → Indexed rs ds → Indexed (r ∷ rs) (d ∷ ds)

  -- each definition ends where the next one begins, and the last one where the entries end
  pub data Ended : List Row → List MacroDef → Type 0 where
    ended_nil : Ended [] []
    ended_cons : {r : Row} {rs : List Row} {d : MacroDef} {ds : List MacroDef} → end_of l rs ≡ (past (flat_def d) r.place).at → Ended rs ds
        → Ended (r ∷ rs) (d ∷ ds)

module _ {s : List ℕ} {l : Layout} where
  pub indexed_snoc : {rs : List Row} {ds : List MacroDef} {r : Row} (d : MacroDef) → Indexed s l rs ds → Inside s l r.place (flat_def d)
      → r.key ≡ key_of d.name → Indexed s l (rs ++ r ∷ []) (ds ++ d ∷ [])
  indexed_snoc d indexed_nil i k = indexed_cons {d = d} i k indexed_nil
  indexed_snoc d (indexed_cons {d = c} j e h) i k = indexed_cons {d = c} j e (indexed_snoc d h i k)

  indexed_length : {rs : List Row} {ds : List MacroDef} → Indexed s l rs ds → length rs ≡ length ds
  indexed_length indexed_nil = refl
  indexed_length (indexed_cons i k h) = ap suc (indexed_length h)

  -- the entry at a place, and the entries behind it
  row_entry : {e : Entry} {es : List Entry} {p : Place} (n : ℕ) → Inside s l p (e ∷ es)
      → rows_from s l (suc n) p ≡ cons_if (eqb e.code 60) (record { place = p; key = key_at s l p }) (rows_from s l n (past (e ∷ []) p))
  unfolding rows_from past text_of
  row_entry {e} {es} {p} n i =
      let wide : text_width (is_text e.code) e.value ≡ length e.text = sym (all_head i.texted) in
      let fits : leb (p.text + length e.text) l.size ≡ true =
      le-leb (p.text + length e.text) l.size (omega (arith, i.run.text_left, length-append e.text (text_of es))) in
      rw (run_code i.run, run_value i.run, wide, fits)

  inner_rows : {es : List Entry} {p : Place} → Inner es → (k : ℕ) → Inside s l p es → rows_from s l (length es + k) p ≡ rows_from s l k (past es p)
  unfolding past
  inner_rows {p = p} all_nil k i = ap (λ (n : ℕ). rows_from s l n p) (zero-add k)
  inner_rows {p = p} (all_cons {a = e} {l = es} h hs) k i =
      let n : length (e ∷ es) + k ≡ suc (length es + k) = omega arith in
      rw (n, row_entry (length es + k) i, h) (inner_rows hs k (inside_next e es i))

  -- the key is that of the name that stands behind the 60
  key_is : (d : MacroDef) {p : Place} → Inside s l p (flat_def d) → key_at s l p ≡ key_of d.name
  unfolding key_at flat_def past
  key_is d {p} i =
      let name = inside_next (entry 60 d.span) _ i in
      ap key_of
      (ap (λ (size : ℕ). name_at s l (record { text = p.text; size = size })) (run_value name.run)
      ∙ ap (λ (text : ℕ). name_at s l (record { text = text; size = length d.name })) (sym (add-zero p.text))
      ∙ is_spelled name)

  def_rows : (d : MacroDef) (k : ℕ) {p : Place} → Inside s l p (flat_def d)
      → rows_from s l (length (flat_def d) + k) p ≡ record { place = p; key = key_of d.name } ∷ rows_from s l k (past (flat_def d) p)
  unfolding flat_def past
  def_rows d k {p} i =
      let rest : List Entry = text_entry 40 d.name ∷ entry 41 (length d.params) ∷ (flat_params d.params ++ flat_body d.body) in
      let n : length (entry 60 d.span ∷ rest) + k ≡ suc (length rest + k) = omega arith in
      let inner : Inner rest = all_cons refl (all_cons refl (all_append (inner_params d.params) (inner_body d.body))) in
      ap (λ (m : ℕ). rows_from s l m p) n
      ∙ row_entry (length rest + k) i
      ∙ ap (λ (rs : List Row). record { place = p; key = key_at s l p } ∷ rs) (inner_rows inner k (inside_next (entry 60 d.span) rest i))
      ∙ ap (λ (key : ℕ). record { place = p; key = key } ∷ rows_from s l k (past (flat_def d) p)) (key_is d i)

  indexed_defs : (ds : List MacroDef) (p : Place) → Inside s l p (flat_defs ds) → Indexed s l (rows_from s l (length (flat_defs ds)) p) ds
  unfolding rows_from flat_defs
  indexed_defs [] p i = indexed_nil
  indexed_defs (d ∷ ds) p i =
      let both = parts_defs (d ∷ ds) i in
      rw (length-append (flat_def d) (flat_defs ds), def_rows d (length (flat_defs ds)) both.first)
      (indexed_cons {d = d} {ds = ds} both.first refl (indexed_defs ds (past (flat_def d) p) both.second))

  -- where the first row of definitions that stand up to the last entry begins
  begins : (ds : List MacroDef) (p : Place) → Inside s l p (flat_defs ds) → (past (flat_defs ds) p).at ≡ l.entries
      → end_of l (rows_from s l (length (flat_defs ds)) p) ≡ p.at
  unfolding rows_from flat_defs end_of past
  begins [] p i e = sym e
  begins (d ∷ ds) p i e = rw (length-append (flat_def d) (flat_defs ds), def_rows d (length (flat_defs ds)) (parts_defs (d ∷ ds) i).first)

  ended_defs : (ds : List MacroDef) (p : Place) → Inside s l p (flat_defs ds) → (past (flat_defs ds) p).at ≡ l.entries
      → Ended s l (rows_from s l (length (flat_defs ds)) p) ds
  unfolding rows_from flat_defs
  ended_defs [] p i e = ended_nil
  ended_defs (d ∷ ds) p i e =
      let both = parts_defs (d ∷ ds) i in
      let q : Place = past (flat_def d) p in
      let last : (past (flat_defs ds) q).at ≡ l.entries = ap (λ (r : Place). r.at) (sym both.ends) ∙ e in
      rw (length-append (flat_def d) (flat_defs ds), def_rows d (length (flat_defs ds)) both.first)
      (ended_cons {d = d} {ds = ds} (begins ds q both.second last) (ended_defs ds q both.second last))

-- ------------------------------------------------------------------ how many definitions a tape has

few_defs : {s : List ℕ} {l : Layout} (ds : List MacroDef) → Inside s l (place 0 0) (flat_registry ds) → length ds ≤ 255
unfolding flat_registry
few_defs ds i = omega (arith, long_defs ds, i.run.entries_left, i.run.held.entries_most)

module _ {s : List ℕ} {l : Layout} (ds : List MacroDef) (h : Alone registry_root s l ds) where
  -- where the definitions of a registry stand
  stand : Inside s l (past (entry 41 (length ds) ∷ []) (place 0 0)) (flat_defs ds)
  unfolding registry_root flat_registry
  stand = inside_next (entry 41 (length ds)) (flat_defs ds) h.inside

  -- a table with room for 255 has a row for each
  whole_index : index_at s l 255 ≡ rows_from s l (length (flat_defs ds)) (past (entry 41 (length ds) ∷ []) (place 0 0))
  unfolding index_at registry_root flat_registry
  whole_index =
      let i = h.inside in
      let p : Place = past (entry 41 (length ds) ∷ []) (place 0 0) in
      let entries : l.entries ≡ suc (length (flat_defs ds)) = h.entries_are in
      let few : length (rows_from s l (length (flat_defs ds)) p) ≤ 255 = omega (arith, indexed_length (indexed_defs ds p stand), few_defs ds i) in
      let held : holds s l ≡ true = is_true (holding s l i.run.held) in
      let found : take 255 (rows_from s l l.entries (place 0 0)) ≡ rows_from s l (length (flat_defs ds)) p =
      ap (λ (n : ℕ). take 255 (rows_from s l n (place 0 0))) entries
      ∙ ap (take 255) (row_entry (length (flat_defs ds)) i)
      ∙ take_all 255 (rows_from s l (length (flat_defs ds)) p) few in
      rw (held, found)

  pub indexed_registry : Indexed s l (index_at s l 255) ds
  indexed_registry = rw whole_index (indexed_defs ds _ stand)

  pub ended_registry : Ended s l (index_at s l 255) ds
  unfolding registry_root flat_registry past
  ended_registry =
      let entries : l.entries ≡ suc (length (flat_defs ds)) = h.entries_are in
      let p : Place = past (entry 41 (length ds) ∷ []) (place 0 0) in
      rw whole_index (ended_defs ds p stand (omega (arith, entries, past_at (flat_defs ds) p)))

-- ------------------------------------------------------------------ the definition of a name

module _ (s : List ℕ) (l : Layout) where
  -- a head that was read is the definition's, and its parameters and its body stand behind it
  pub record Defined (h : Heading) (params : Place) (d : MacroDef) : Type 0 where
    pub its_span : h.span ≡ d.span
    pub spelled : name_at s l h.name ≡ d.name
    pub its_count : h.count ≡ length d.params
    pub params_stand : Inside s l params (flat_params d.params)
    pub body_stands : Inside s l (past (flat_params d.params) params) (flat_body d.body)

  pub data Finds : Option Definition → Maybe MacroDef → Type 0 where
    finds_nothing : Finds None none
    finds : {found : Definition} {d : MacroDef} → Defined found.heading found.params d → Finds (Some found) (some d)

-- names with other keys are other names
pub other_key : (r : Row) (a b : Text) → r.key ≡ key_of a → eqb r.key (key_of b) ≡ false → eq_text a b ≡ false
other_key r a b e f = go (eq_text a b) (text_equal a b)
  where
    go : (t : Bool) → (T t → a ≡ b) → t ≡ false
    go false h = refl
    go true h = absurd (eqb-false r.key (key_of b) f (e ∙ ap key_of (h tt)))

module _ {s : List ℕ} {l : Layout} where
  pub get_finds : {rs : List Row} {ds : List MacroDef} → Indexed s l rs ds → (name : Text) → Finds s l (get_at s l rs name) (get ds name)
  unfolding get_at get
  get_finds indexed_nil name = finds_nothing
  get_finds (indexed_cons {r = r} {rs = rs} {d = d} {ds = ds} i k h) name =
      let parts = parts_def d i in
      rw (parts.parts.read, parts.spelled) (by_key (eqb r.key (key_of name)) refl (get_finds h name) (record {
        its_span = refl;
        spelled = parts.spelled;
        its_count = refl;
        params_stand = parts.parts.runs.first;
        body_stands = parts.parts.runs.second;
      }))
    where
      go : (b : Bool) {head : Heading} {params : Place} → Finds s l (get_at s l rs name) (get ds name) → Defined s l head params d
          → Finds s l (pick b (Some (record { heading = head; params = params; end = end_of l rs })) (get_at s l rs name)) (elim b [ true ↦ some d | false ↦ get ds name ])
      go true rest f = finds f
      go false rest f = rest

      by_key : (t : Bool) → eqb r.key (key_of name) ≡ t → {head : Heading} {params : Place} → Finds s l (get_at s l rs name) (get ds name)
          → Defined s l head params d
          → Finds s l (pick t (pick (eq_text d.name name) (Some (record { heading = head; params = params; end = end_of l rs })) (get_at s l rs name)) (get_at s l rs name))
          (elim (eq_text d.name name) [ true ↦ some d | false ↦ get ds name ])
      by_key true e rest f = go (eq_text d.name name) rest f
      by_key false e rest f = rw (other_key r d.name name k e) rest
