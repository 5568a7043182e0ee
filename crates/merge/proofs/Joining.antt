-- The registry in the area is the joined one, definition by definition, unless one of the second differs from the first's.
-- Assumes nothing.
use Prim.Native.Nat.{ℕ, ◌+◌, ◌≤◌, ◌<◌, ◌^◌}
use native.Mathlib.Omega.{arith}
use mathlib.Core.Path.{◌≡◌, refl, sym, ap, subst, ◌∙◌}
use mathlib.Core.List.{List, [], ◌∷◌, ◌++◌, append-nil, append_assoc}
use mathlib.Core.Bool.{Bool, true, false}
use mathlib.Core.Option.{Option, none, some}
use lib.ListN.{length, length-append}
use Rattle.format.specs.Entry.{Entry, entry, text_of}
use Rattle.format.specs.Ast.{MacroDef}
use Rattle.format.specs.Flat.{flat_def, flat_defs, flat_registry}
use Rattle.definition.specs.Registry.{get}
use Rattle.definition.specs.Merge.{agrees, new_ones, joined, first_differing}
use Rattle.tape.specs.declared.layout.Layout.{Layout}
use Rattle.tape.specs.declared.layout.Place.{Place}
use Rattle.tape.proofs.Located.{past, Inside, inside_sections, inside_skip}
use Rattle.tape.proofs.Runs.{place}
use Rattle.tape.proofs.Trees.{passes_registry}
use Rattle.nodes.proofs.Placed.{parts_defs, parts_registry}
use Rattle.area.specs.Area.{Area, area_in, fits_area, Wrote}
use Rattle.area.proofs.Room.{fits_decides}
use Rattle.area.proofs.Appends.{out_none, out_append}
use Rattle.area.proofs.Patch.{out_patch}
use Rattle.walk_state.specs.Writing.{Progress, state, going, without_message_at}
use Rattle.walk_state.specs.Walk.{State}
use Rattle.walk_state.specs.Walk as walk
use Rattle.subst_state.specs.Output.{copy_in}
use Rattle.registry.specs.declared.rows.Row.{Row}
use Rattle.registry.proofs.Standing.{Indexed, Ended}
use Rattle.merge.specs.Join.{add_in, first_in, after_compared, join_one_in, join_in, joined_in}
use Rattle.merge.specs.declared.agree.Compared.{Compared}
use Rattle.merge.proofs.Agreeing.{compared_with, compare_is}
use Rattle.merge.proofs.Steps.{join_stays}

-- ------------------------------------------------------------------ a definition more

defs_append : (ds es : List MacroDef) → flat_defs (ds ++ es) ≡ flat_defs ds ++ flat_defs es
unfolding flat_defs
defs_append [] es = refl
defs_append (d ∷ ds) es = ap (λ (fs : List Entry). flat_def d ++ fs) (defs_append ds es) ∙ sym (append_assoc (flat_def d) (flat_defs ds) (flat_defs es))

-- a definition has an entry at the least
no_more : (ds : List MacroDef) → length ds ≤ length (flat_defs ds)
unfolding flat_defs flat_def
no_more [] = omega arith
no_more (d ∷ ds) = omega (arith, no_more ds, length-append (flat_def d) (flat_defs ds))

one_more : (ds : List MacroDef) (d : MacroDef)
    → flat_registry (ds ++ d ∷ []) ≡ entry 41 (length ds + 1) ∷ (flat_defs ds ++ flat_def d)
unfolding flat_registry flat_defs
one_more ds d =
    rw (length-append ds (d ∷ []), defs_append ds (d ∷ []), append-nil (flat_def d))

module _ {s : List ℕ} {l : Layout} {p : Place} {P : Area} where
  copied : {own es : List Entry} → Inside s l p own → Wrote P es → Wrote (copy_in s l p (past own p) P) (es ++ own)
  unfolding copy_in
  copied {own} i o = let parts = inside_sections i in rw (parts.codes, parts.values, parts.text) (out_append own o)

  added : (ds : List MacroDef) (d : MacroDef) → Inside s l p (flat_def d) → Wrote P (flat_registry ds)
      → Wrote (add_in s l p (past (flat_def d) p) P) (flat_registry (ds ++ d ∷ []))
  unfolding add_in flat_registry
  added ds d i o =
      let es : List Entry = flat_defs ds ++ flat_def d in
      let small : fits_area (entry 41 (length ds) ∷ es) ≡ true → (0 ≡ length {A = Entry} []) × (length ds + 1 < 2 ^ 64) =
      λ f.
      let fits = (fits_decides (length (entry 41 (length ds) ∷ es)) (length (text_of (entry 41 (length ds) ∷ es)))).holds f in
      (refl, omega (arith, fits.0, no_more ds, length-append (flat_defs ds) (flat_def d))) in
      rw (one_more ds d) (out_patch [] (entry 41 (length ds)) es 0 1 small (copied i o))

-- all that stands on the first tape
first_written : {s : List ℕ} {l : Layout} (bytes : List ℕ) (ds : List MacroDef) → Inside s l (place 0 0) (flat_registry ds) → 12288 ≤ length bytes
    → Wrote (first_in s l bytes) (flat_registry ds)
unfolding first_in
first_written bytes ds i h = rw (inside_skip i (passes_registry ds) (omega arith)) (copied i (out_none 0 bytes h))

-- ------------------------------------------------------------------ the second's definitions

-- the walk has written the definitions, or it has met the one that differs
pub data JoinsTo (X : Progress) : Option MacroDef → List MacroDef → Type 0 where
  joins : {st : State} {defs : List MacroDef} → X.walk ≡ walk.Going st → Wrote (area_in st.out X.bytes) (flat_registry defs) → JoinsTo X none defs
  differs : {x : MacroDef} {defs : List MacroDef} → X.walk ≡ without_message_at 51 x.span 0 → JoinsTo X (some x) defs

module _ {s : List ℕ} {d : Layout} {t : List ℕ} {e : Layout} {rows : List Row} {ds : List MacroDef} (indexed : Indexed s d rows ds)
    (ended : Ended s d rows ds) where
  join_is : (es before : List MacroDef) {p : Place} {P : Area} → Inside t e p (flat_defs es) → Wrote P (flat_registry before)
      → JoinsTo (join_in s d rows t e (length es) (going p 0 P)) (first_differing ds es) (before ++ new_ones ds es)
  unfolding join_in join_one_in first_differing new_ones
  join_is [] before i o = joins {defs = before ++ []} refl (rw (append-nil before) o)
  join_is (x ∷ xs) before {p} {P} i o =
      let both = parts_defs (x ∷ xs) i in
      subst
      (λ (z : Compared).
      JoinsTo (join_in s d rows t e (length xs) (after_compared t e (state p P.out 0) P.bytes z)) (first_differing ds (x ∷ xs))
      (before ++ new_ones ds (x ∷ xs)))
      (sym (compare_is indexed ended x both.first))
      (by_found (get ds x.name) (join_is xs (before ++ x ∷ []) both.second (added before x both.first o)) (join_is xs before both.second o))
    where
      kept : (b : Bool) → JoinsTo (join_in s d rows t e (length xs) (going (past (flat_def x) p) 0 P)) (first_differing ds xs) (before ++ new_ones ds xs)
          → (c : MacroDef) → agrees c x ≡ b
          → JoinsTo (join_in s d rows t e (length xs) (after_compared t e (state p P.out 0) P.bytes (compared_with (some c) x (past (flat_def x) p)))) (elim b [ true ↦ first_differing ds xs | false ↦ some x ]) (before ++ new_ones ds xs)
      kept true rest c h = rw h rest
      kept false rest c h = rw h (differs (ap (λ (X : Progress). X.walk) (join_stays s d rows t e (length xs) _ 0 P.bytes)))

      by_found : (f : Option MacroDef)
          → JoinsTo (join_in s d rows t e (length xs) (going (past (flat_def x) p) 0 (add_in t e p (past (flat_def x) p) P))) (first_differing ds xs) ((before ++ x ∷ []) ++ new_ones ds xs)
          → JoinsTo (join_in s d rows t e (length xs) (going (past (flat_def x) p) 0 P)) (first_differing ds xs) (before ++ new_ones ds xs)
          → JoinsTo (join_in s d rows t e (length xs) (after_compared t e (state p P.out 0) P.bytes (compared_with f x (past (flat_def x) p))))
          (elim f [ some c ↦ elim (agrees c x) [ true ↦ first_differing ds xs | false ↦ some x ] | none ↦ first_differing ds xs ])
          (before ++ elim f [ some c ↦ new_ones ds xs | none ↦ x ∷ new_ones ds xs ])
      by_found none new rest =
          subst (λ (defs : List MacroDef). JoinsTo (join_in s d rows t e (length xs) (after_compared t e (state p P.out 0) P.bytes (compared_with none x (past (flat_def x) p)))) (first_differing ds xs) defs)
          (append_assoc before (x ∷ []) (new_ones ds xs)) new
      by_found (some c) new rest = kept (agrees c x) rest c refl

  -- the first registry, and then the second
  pub joined_is : (es : List MacroDef) (bytes : List ℕ) → Inside s d (place 0 0) (flat_registry ds) → Inside t e (place 0 0) (flat_registry es)
      → 12288 ≤ length bytes → JoinsTo (joined_in s d rows t e bytes) (first_differing ds es) (joined ds es)
  unfolding joined_in joined
  joined_is es bytes i j h =
      let parts = parts_registry es j in
      rw parts.read (join_is es ds parts.runs.first (first_written bytes ds i h))
