-- A call that stands in the work buffer with its expanded arguments: the code makes of it what the definition says, the largest figures
-- and the substitution, whose outcome goes behind what the level holds.
-- Assumes nothing.
use Prim.Native.Nat.{ℕ, ◌+◌, ◌≤◌}
use native.Mathlib.Omega.{arith}
use mathlib.Core.Path.{◌≡◌, refl, sym, ap, ◌∙◌}
use mathlib.Core.List.{List, []}
use mathlib.Core.Bool.{Bool, true, false}
use lib.ListN.{length}
use borrow.Author.Tests.{not-false}
use Rattle.format.specs.Entry.{Text, Entry}
use Rattle.format.specs.Ast.{Call, CallArgs, MacroBody, MacroDef}
use Rattle.format.specs.Flat.{length_args, flat_call, flat_body, flat_def}
use Rattle.format.specs.Limits.{node_weight, call_weight, deep_call, deep_body, fits_all, too_large_call}
use Rattle.definition.specs.Outcome.{Refusal, Outcome, Walk as Walks, proceed, open_outcome}
use Rattle.definition.specs.Substitute.{SubstMaps, maps_of, charge_body, check_limits}
use Rattle.tape.specs.Pick.{pick}
use Rattle.tape.specs.Layouts.{area_layout}
use Rattle.tape.specs.declared.layout.Layout.{Layout}
use Rattle.tape.specs.declared.layout.Place.{Place}
use Rattle.nodes.specs.declared.Heading.{Heading}
use Rattle.nodes.specs.declared.Name.{Name}
use Rattle.tape.proofs.Located.{past, Inside}
use Rattle.tape.proofs.Runs.{place}
use Rattle.format.proofs.Tests.{and_left, is_true, from_true}
use Rattle.tape.proofs.Trees.{passes_call}
use Rattle.area.specs.Area.{Area, area_in, empty_at, fits_area, append_out_in}
use Rattle.area.proofs.Within.{within_append_out}
use Rattle.messages.specs.Reason.{message_of}
use Rattle.messages.specs.declared.Refused.{Refused}
use Rattle.walk_state.specs.Writing as one
use Rattle.walk_state.specs.Writing.{state, without_message_at}
use Rattle.subst_places.specs.Parameters.{Tapes}
use Rattle.subst_call.specs.Front.{refuse_too_large_in, call_in}
use Rattle.subst_call.proofs.TreesFront.{too_large_lem, body_start, called, call_head, first}
use Rattle.subst_places.proofs.TreesWalk as sub
use Rattle.subst_places.proofs.TreesWalk.{Written, written_none, written_inside, AllDone, all_bind}
use Rattle.expand_calls.specs.Output.{Reads, after, with}
use Rattle.expand_calls.specs.Calls.{apply_in, into_in, outcome_in}
use Rattle.expand_calls.proofs.TreesWalk.{going, Above, above_within, above_trans, Ready, RefusalMatchesIn, WalkMatches, writes, refuses, stops, starting}
use Rattle.expand_calls.proofs.TreesLevels.{written_joined}
use Rattle.expand_calls.proofs.TreesBodies.{Kind}

module _ (R : Reads) {A : Type 0} {Also : List ℕ → A → Type 0} {flat : A → List Entry} {body : A → MacroBody}
    {become : A → SubstMaps → Walks A} (K : Kind Also flat body become) where
  -- what a substitution made goes behind what the level holds
  made : {S : Tapes} {P : Area} {es : List Entry} {work result : List ℕ} {X : one.Progress} {end last : Place} {o : Outcome A}
      → ((f : Refused) (r : Refusal) → sub.RefusalMatchesIn S f r → RefusalMatchesIn R f r) → Written (area_in P.out work) es → Above P (area_in P.out work)
      → Ready result → AllDone (λ (a : A). fits_area (flat a) ≡ true) o → sub.WalkMatches S flat (area_in (empty_at 0) result) [] X last o
      → WalkMatches R Also flat P es (into_in P.out end work X) end o
  unfolding into_in AllDone
  made {P = P} {work = work} {end = end} tell w a ready fits (sub.writes {a = tree} Z x v within) =
      let own : Area = area_in P.out work in
      writes (append_out_in Z own) Z.bytes (ap (into_in P.out end work) x) (written_joined fits v w)
      (above_trans a (above_within (within_append_out Z own))) (rw within.kept.size ready) (K.also tree Z within.base fits v)
  made {P = P} {work = work} {end = end} tell w a ready fits (sub.refuses {f} {r} bytes x same _) =
      refuses work bytes (ap (into_in P.out end work) x) (tell f r same)

  module _ (span : ℕ) (name : Text) (limit file : ℕ) (dm : MacroDef) (b : A) where
    -- the charge for the body, and its substitution; before that 3
    abbrev pub substituted : CallArgs → Walks A
    substituted args k =
        proceed (charge_body limit (body b) span k) (λ u. become b (maps_of dm limit file (Call.MacroCall span name args)))

    abbrev pub checked : CallArgs → Walks A
    checked args k = proceed (check_limits (too_large_call (Call.MacroCall span name args)) span k) (λ u. substituted args)

    module _ {d : Place} (h : Inside R.registry R.definitions d (flat_def dm)) (few : length dm.params ≤ 16)
        (stands : Inside R.registry R.definitions (body_start dm h) (flat_body (body b))) (deep : deep_body node_weight (body b) ≤ 64)
        (located : Name) (sized : located.size ≡ length name) (count : ℕ) (same : count ≡ length dm.params) where
      abbrev pub head : Heading
      head = record { span = span; name = located; count = count }

      -- the call that stands in the work buffer
      applied : {P Q : Area} {es : List Entry} {end : Place} (result : List ℕ) (k : ℕ) (args : CallArgs) → length_args args ≡ count
          → too_large_call (Call.MacroCall span name args) ≡ false → Written Q (flat_call (Call.MacroCall span name args))
          → Written (area_in P.out Q.bytes) es → Above P (area_in P.out Q.bytes) → Ready result
          → WalkMatches R Also flat P es
          (into_in P.out end Q.bytes
          (apply_in R.registry R.definitions limit file Q.bytes (called dm h (body b)) head (state end Q.out k) result))
          end (substituted args k)
      unfolding apply_in too_large_call fits_all past
      applied {P} {Q} {es} {end} result k args counts small q w a ready =
          let c : Call = Call.MacroCall span name args in
          let fits : fits_area (flat_call c) ≡ true =
          is_true (and_left (fits_area (flat_call c)) _
          (from_true (not-false (fits_all (flat_call c) (deep_call node_weight c) (deep_call call_weight c)) small))) in
          let area : Layout = area_layout Q.out.base Q.out.n Q.out.t in
          let g : Inside Q.bytes area (place 0 0) (flat_call c) = written_inside q fits (passes_call c).texted in
          let at : Heading → Place → one.Progress =
          λ head first. call_in R.registry R.definitions Q.bytes area limit file (called dm h (body b)) head first k (empty_at 0) result in
          let text : located.size ≡ 0 + 0 + length name + 0 = omega (arith, sized) in
          let one_call : at head (place 3 located.size)
          ≡ at (call_head dm span name args limit file located h g) (first dm span name args limit file located h g) =
          ap (λ (n : ℕ). at (record { span = span; name = located; count = n }) (place 3 located.size)) (sym counts)
          ∙ ap (λ (t : ℕ). at (call_head dm span name args limit file located h g) (place 3 t)) text in
          starting R (ap (into_in P.out end Q.bytes) one_call)
          (made (λ f r same. same R.condition R.layout) w a ready
          (all_bind (λ (a : A). fits_area (flat a) ≡ true) _ (charge_body limit (body b) span k) (λ u k₁. K.fits b (maps_of dm limit file c) k₁))
          (K.substitutes dm span name args limit file located R.registry Q.bytes R.definitions area d (place 0 0) h g (counts ∙ same)
          few b k (area_in (empty_at 0) result) stands deep (written_none 0 result ready (omega arith))))

      -- 3 if it is too large
      pub outcome : {P Q : Area} {es : List Entry} {end : Place} (result : List ℕ) (k : ℕ) (args : CallArgs) → length_args args ≡ count
          → Written Q (flat_call (Call.MacroCall span name args))
          → Written (area_in P.out Q.bytes) es → Above P (area_in P.out Q.bytes) → Ready result
          → WalkMatches R Also flat P es
          (outcome_in R.registry R.definitions limit file (called dm h (body b)) head P.out (going end k Q result)) end (checked args k)
      unfolding outcome_in refuse_too_large_in too_large_call check_limits open_outcome message_of
      outcome {P} {Q} {es} {end} result k args counts q w a ready =
          rw (too_large_lem (passes_call (Call.MacroCall span name args)) (omega arith) q)
          (go (too_large_call (Call.MacroCall span name args)) refl)
        where
          go : (large : Bool) → too_large_call (Call.MacroCall span name args) ≡ large
              → WalkMatches R Also flat P es
              (after
              (λ filled work result.
              into_in P.out filled.place work
              (apply_in R.registry R.definitions limit file work (called dm h (body b)) head filled result))
              (with result (pick large (one.progress (without_message_at 3 span k) Q.bytes) (one.going end k Q))))
              end (proceed (check_limits large span k) (λ u. substituted args))
          go true e = stops R (record { its_number = refl; its_span = refl; its_message = refl })
          go false e = applied result k args counts e q w a ready
