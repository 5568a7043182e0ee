-- The condition's own entries in the output of an expansion: what is kept as it stands, what is kept once a check passed, and the fields
-- of a refinement.
-- Assumes nothing.
use Rattle.messages.specs.declared.Refused.{Refused}
use Rattle.std.proofs.Common.{Result, Ok}
use Prim.Native.Nat.{ℕ, ◌≤◌}
use native.Mathlib.Omega.{arith}
use mathlib.Core.Path.{◌≡◌, refl, ap}
use mathlib.Core.List.{List, [], ◌∷◌, ◌++◌}
use Rattle.format.specs.Entry.{Entry, entry}
use Rattle.format.specs.Ast.{Condition, NamedArgs}
use Rattle.format.specs.Flat.{length_fields, flat_condition, flat_fields}
use Rattle.format.proofs.All.{all_nil, all_cons, all_append}
use Rattle.definition.specs.Outcome.{Outcome, Walk as Walks, proceed}
use Rattle.definition.specs.Substitute.{fold_refine}
use Rattle.nodes.specs.Node.{named}
use Rattle.tape.specs.declared.layout.Place.{Place}
use Rattle.tape.proofs.Located.{past, Inside, inside_skip}
use Rattle.nodes.proofs.Placed.{field_list, parts_list}
use Rattle.tape.proofs.Trees.{passes_fields}
use Rattle.area.specs.Area.{Area, put_in}
use Rattle.area.proofs.Appends.{out_put, fits_front}
use Rattle.area.proofs.Within.{within_put}
use Rattle.walk_state.specs.Writing as one
use Rattle.walk_state.specs.Writing.{state}
use Rattle.subst_places.specs.Parameters.{Tapes, tapes}
use Rattle.subst_call.specs.Front.{origin}
use Rattle.subst_places.proofs.TreesWalk.{Written, rewritten, within_copy, copied_written}
use Rattle.subst_places.proofs.TreesWalk as given
use Rattle.subst_places.proofs.TreesBound.{root_condition}
use Rattle.subst_places.proofs.TreesFold.{fold_matches}
use Rattle.walk_state.specs.Reading.{passed_in}
use Rattle.expand_calls.specs.Output.{Reads, Progress, with, copy_own_in, shape_in, refold_in}
use Rattle.expand_walk.specs.Walkers.{Walkers, own_copied, refold}
use Rattle.expand_stray.proofs.TreesConcrete.{StrayMatches, passes, refuses}
use Rattle.expand_calls.proofs.TreesWalk.{going, Strict, Above, above_within, Ready, WalkMatches, writes, since}
use Rattle.expand_calls.proofs.TreesWalk as exp

-- an entry that is put first
pub put_written : {P : Area} {es : List Entry} (code value : ℕ) → value ≤ 18446744073709551615 → Written P es
    → Written (put_in code value P) (es ++ entry code value ∷ [])
put_written {P} {es} code value small w =
    record {
      out = out_put code value w.out;
      near = rw (within_put code value P).base w.near;
      small = λ f. all_append (w.small (fits_front es (entry code value ∷ []) f)) (all_cons {a = entry code value} (omega arith) all_nil);
    }

module _ (R : Reads) where
  -- the entries stand at a place of the condition
  abbrev pub At : Place → List Entry → Type 0
  At p es = Inside R.condition R.layout p es

  -- what a check of the condition came to
  abbrev pub Checks : ℕ → Result Place Refused → Place → Outcome (Unit {0}) → Type 0
  Checks k x end o = StrayMatches R.registry R.definitions R.condition R.layout k x end o

  module _ {A : Type 0} {Also : List ℕ → A → Type 0} {flat : A → List Entry} {P : Area} {es es' own : List Entry} {p end : Place} {k : ℕ}
      {result : List ℕ} where
    -- the condition's own entries are kept, and then f goes on
    pub copy_own_matches : (f : Progress → Progress) {o : Outcome A} → At p own → Written P es
        → ((Q : Area) → Written Q (es ++ own) → Above P Q → WalkMatches R Also flat Q es' (f (going (past own p) k Q result)) end o)
        → WalkMatches R Also flat P es' (f (own_copied R (state p P.out k) (Ok (past own p)) P.bytes result)) end o
    unfolding copy_own_in
    copy_own_matches f i w next =
        let a = above_within (within_copy i {P = P}) in
        since R a (next _ (copied_written i w) a)

    -- they are kept if a check passes them
    pub check_matches : (f : Progress → Progress) → Strict f → {q : Place} {x : Result Place Refused} {o : Outcome (Unit {0})} (m : Walks A) → At p own
        → q ≡ past own p → Checks k x q o → Written P es
        → ((Q : Area) → Written Q (es ++ own) → Above P Q → WalkMatches R Also flat Q es' (f (going q k Q result)) end (m k))
        → WalkMatches R Also flat P es' (f (own_copied R (state p P.out k) x P.bytes result)) end (proceed o (λ u. m))
    unfolding copy_own_in proceed
    check_matches f s {q} {x} m i e (passes y) w next = rw (y, e) (copy_own_matches f i w (rw e at next))
    check_matches f s m i e (refuses y h) w next = rw y (exp.refuses P.bytes result (s _ _ _ _) h)

  -- the condition's entries that are kept are the last of a tree
  pub own_matches : {A : Type 0} {Also : List ℕ → A → Type 0} {flat : A → List Entry} (a : A) {P : Area} {es es' own : List Entry} {p : Place}
      {k : ℕ} {result : List ℕ} → At p own → Written P es → es ++ own ≡ es' ++ flat a → Ready result → Also result a
      → WalkMatches R Also flat P es' (own_copied R (state p P.out k) (Ok (past own p)) P.bytes result) (past own p) (Outcome.done a k)
  unfolding copy_own_in
  own_matches a {P} {result = result} i w e ready also =
      writes _ result refl (rewritten e (copied_written i w)) (above_within (within_copy i {P = P})) ready also

  -- ------------------------------------------------------------------ refinements

  -- a substitution whose refusals name the same tapes
  abbrev beside : Tapes
  beside =
      tapes R.registry R.condition []
      (record {
        definition = R.definitions;
        call = R.layout;
        params = origin;
        count = 0;
        macro_name = named origin 0;
        call_span = 0;
        limit = R.limit;
        file = R.file;
      })

  -- what it gives, the result buffer as it was
  beside_matches : {A : Type 0} {Also : List ℕ → A → Type 0} {flat : A → List Entry} {P : Area} {es : List Entry} {X : one.Progress} {end : Place}
      {result : List ℕ} {o : Outcome A} → Ready result → ((a : A) (k : ℕ) → o ≡ Outcome.done a k → Also result a)
      → given.WalkMatches beside flat P es X end o → WalkMatches R Also flat P es (with result X) end o
  beside_matches {result = result} ready also (given.writes {a} {k} Q e w v) =
      writes Q result (ap (with result) e) w (above_within v) ready (also a k refl)
  beside_matches {result = result} ready also (given.refuses bytes e h v) =
      exp.refuses bytes result (ap (with result) e) (h R.condition R.layout)

  -- the fields are kept behind the base, and folded into it
  pub refold_matches : {Also : List ℕ → Condition → Type 0} (W : Walkers) (c : Condition) (fs : NamedArgs) (span k : ℕ) (base mid : Place)
      {P Q : Area} {es : List Entry} {result : List ℕ} → shape_in R.condition R.layout result base ≡ root_condition c
      → At mid (field_list fs) → Written P es → Written Q (es ++ flat_condition c) → Ready result
      → ((c' : Condition) (k' : ℕ) → fold_refine c fs span k ≡ Outcome.done c' k' → Also result c')
      → WalkMatches R Also flat_condition Q es (refold R W span P.out.n base (going mid k Q result)) (past (field_list fs) mid)
      (fold_refine c fs span k)
  unfolding refold_in copy_own_in passed_in
  refold_matches W c fs span k base mid {P} {Q} {es} {result} shape h w x ready also =
      let list = parts_list (length_fields fs) (flat_fields fs) h in
      let i = list.runs.first in
      rw (list.read, inside_skip h (passes_fields fs) (omega arith), list.runs.ends)
      (since R (above_within (within_copy i {P = Q}))
      (beside_matches ready also (fold_matches beside c fs span k shape refl w (copied_written i x))))
