-- Over the places where a registry's definitions stand, the names are judged as `Registry::build` judges the definitions.
-- Assumes nothing.
use Rattle.messages.specs.declared.Refused.{Refused}
use Rattle.std.proofs.Common.{Result, Err, Option}
use Prim.Native.Nat.{ℕ}
use mathlib.Core.Path.{◌≡◌, refl, sym, ap, ◌∙◌}
use mathlib.Core.List.{List, [], ◌∷◌, ◌++◌}
use mathlib.Core.Bool.{Bool, true, false}
use mathlib.Core.Option.{Option as Maybe, none, some}
use native.Mathlib.Omega.{arith}
use lib.ListN.{length}
use Rattle.format.specs.Entry.{Text}
use Rattle.format.specs.Ast.{MacroDef}
use Rattle.format.proofs.Tests.{from_true}
use Rattle.definition.specs.Text.{eq_text}
use Rattle.definition.specs.Outcome.{refusal}
use Rattle.definition.specs.Check as definition
use Rattle.definition.specs.Check.{◌and_then◌, contains}
use Rattle.definition.specs.Messages.{reserved_name}
use Rattle.definition.specs.Registry.{reserved_names, get, check_reserved, check_duplicate, build_from, build}
use Rattle.definition.proofs.Texts.{text_equal}
use Rattle.tape.specs.Pick.{pick}
use Rattle.nodes.specs.Node.{name_at}
use Rattle.tape.specs.declared.layout.Layout.{Layout}
use Rattle.nodes.specs.declared.Heading.{Heading}
use Rattle.nodes.proofs.Placed.{parts_def}
use Rattle.messages.specs.Reason.{refused_at, message_of}
use Rattle.messages.specs.declared.Reason.TheVariants.{Reserved}
use Rattle.definition.proofs.Order.{eq_refl}
use Rattle.answer.specs.Matches.{VerdictMatches}
use Rattle.registry.specs.Places.{duplicate_of, and_then_in, check_at, build_from_at, build_at}
use Rattle.nodes.specs.declared.Definition.{Definition}
use Rattle.registry.specs.declared.rows.Row.{Row}
use Rattle.registry.proofs.Standing.{Indexed, indexed_nil, indexed_cons, indexed_snoc, Finds, finds_nothing, finds, get_finds}

-- ------------------------------------------------------------------ the order of the definitions before

some_none : {A : Type 0} {a : A} → ◌≡◌ {A = Maybe A} (some a) none → ⊥
some_none h = let z : ◌≡◌ {A = ℕ} 0 1 = cc in omega arith

-- a name that no definition has is looked for among those behind
get_behind : (ds : List MacroDef) (d : MacroDef) (name : Text) → get ds name ≡ none → get (ds ++ d ∷ []) name ≡ get (d ∷ []) name
unfolding get
get_behind [] d name e = refl
get_behind (c ∷ ds) d name e = go (eq_text c.name name) (get_behind ds d name) e
  where
    go : (t : Bool) {o : Maybe MacroDef} → (get ds name ≡ none → get (ds ++ d ∷ []) name ≡ o) → ◌≡◌ {A = Maybe MacroDef} (elim t [ true ↦ some c | false ↦ get ds name ]) none
        → ◌≡◌ {A = Maybe MacroDef} (elim t [ true ↦ some c | false ↦ get (ds ++ d ∷ []) name ]) o
    go true f h = absurd (some_none h)
    go false f h = f h

-- a definition with another name changes nothing
get_other : (ds : List MacroDef) (d : MacroDef) (name : Text) → eq_text d.name name ≡ false → get (ds ++ d ∷ []) name ≡ get ds name
unfolding get
get_other [] d name e = rw (get, e)
get_other (c ∷ ds) d name e =
    ap (λ (o : Maybe MacroDef). elim (eq_text c.name name) [ true ↦ some c | false ↦ o ]) (get_other ds d name e)

-- a definition with a new name is found in front of the others as behind them
get_new : (ds : List MacroDef) (d : MacroDef) (name : Text) → get ds d.name ≡ none → get (d ∷ ds) name ≡ get (ds ++ d ∷ []) name
unfolding get
get_new ds d name e = go (eq_text d.name name) refl
  where
    go : (t : Bool) → eq_text d.name name ≡ t → elim t [ true ↦ some d | false ↦ get ds name ] ≡ get (ds ++ d ∷ []) name
    go true h =
        let found : get (ds ++ d ∷ []) d.name ≡ some d = get_behind ds d d.name e ∙ rw (get, eq_refl d.name) in
        rw (← (text_equal d.name name (from_true h))) (sym found)
    go false h = sym (get_other ds d name h)

-- ------------------------------------------------------------------ the verdicts

module _ {s : List ℕ} {l : Layout} where
  -- 10, then 11, then the definitions behind: these go on only where no definition before has the name
  name_matches : (v : Result Unit Refused) (w : definition.Verdict) (d : MacroDef) (b : Bool) (h : Heading) {f : Option Definition} {o : Maybe MacroDef}
      → h.span ≡ d.span → name_at s l h.name ≡ d.name → Finds s l f o → (o ≡ none → VerdictMatches s l v w)
      → VerdictMatches s l (and_then_in (pick b (Err (refused_at h.span (Reserved h.name))) (duplicate_of h f)) v)
      (elim b [ true ↦ some (refusal 10 d.span (reserved_name d.name)) | false ↦ none ] and_then check_duplicate o d and_then w)
  unfolding VerdictMatches ◌and_then◌ check_duplicate message_of
  name_matches v w d true h e n f k = record { its_number = refl; its_span = rw e; its_message = rw n }
  name_matches v w d false h e n finds_nothing k = k refl
  name_matches v w d false h e n (finds first) k = record { its_number = refl; its_span = rw e; its_message = rw (n, first.its_span) }

  -- the code looks from the first definition on, the definition from the last one back
  from_matches : (seen before : List MacroDef) {rs qs : List Row} {ds : List MacroDef} → ((name : Text) → get seen name ≡ get before name)
      → Indexed s l rs before → Indexed s l qs ds → VerdictMatches s l (build_from_at s l rs qs) (build_from seen ds)
  unfolding build_from_at build_from VerdictMatches check_at check_reserved get
  from_matches seen before same h indexed_nil = tt
  from_matches seen before {rs = rs} same h (indexed_cons {r = r} {rs = qs} {d = d} {ds = ds} i k more) =
      let parts = parts_def d i in
      rw (parts.parts.read, parts.spelled, same d.name)
      (name_matches (build_from_at s l (rs ++ r ∷ []) qs) (build_from (d ∷ seen) ds) d (contains reserved_names d.name)
      (record { span = d.span; name = parts.its_name; count = length d.params })
      refl parts.spelled (get_finds h d.name)
      (λ new.
      from_matches (d ∷ seen) (before ++ d ∷ [])
      (λ name.
      ap (λ (o : Maybe MacroDef). elim (eq_text d.name name) [ true ↦ some d | false ↦ o ]) (same name) ∙ get_new before d name new)
      (indexed_snoc d h i k) more))

  pub build_matches : {rs : List Row} {ds : List MacroDef} → Indexed s l rs ds → VerdictMatches s l (build_at s l rs) (build ds)
  unfolding build_at build
  build_matches h = from_matches [] [] (λ name. refl) indexed_nil h
