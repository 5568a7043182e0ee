-- What a walk of an expansion gives where a tree stands: the entries of the expanded tree behind those that were written, or the refusal
-- of the tree's definition. A walk writes to its own area and to those above it.
-- Assumes nothing.
use Rattle.std.proofs.Common.{Some, Ok}
use Prim.Native.Nat.{ℕ, ◌+◌, ◌*◌, ◌≤◌}
use native.Mathlib.Omega.{arith}
use mathlib.Core.Path.{◌≡◌, refl, sym, ap, subst, ◌∙◌}
use mathlib.Core.List.{List, ◌++◌}
use lib.ListN.{length, take}
use Rattle.grammar.specs.Grammar as grammar
use Rattle.format.specs.Entry.{Entry}
use Rattle.definition.specs.Outcome.{Refusal, Outcome, Walk as Walks, proceed}
use Rattle.tape.specs.Scan.{skip_at}
use Rattle.tape.specs.declared.layout.Layout.{Layout}
use Rattle.tape.specs.declared.layout.Place.{Place}
use Rattle.area.specs.Area.{Area, Within}
use Rattle.messages.specs.declared.Refused.{Refused}
use Rattle.answer.specs.Matches.{RefusalMatches}
use Rattle.walk_state.specs.Writing.{state, place_of}
use Rattle.walk_state.specs.Walk as walk
use Rattle.walk_state.specs.Reading.{passed_in, behind_in}
use Rattle.subst_places.proofs.TreesWalk.{Written, rewritten}
use Rattle.expand_calls.specs.Output.{Reads, Progress, progress}

-- the walk at a place, with so much charged, what was written, and what the result buffer holds
abbrev pub going : Place → ℕ → Area → List ℕ → Progress
going place charged P result = progress (walk.Going (state place P.out charged)) P.bytes result

-- ------------------------------------------------------------------ refusals are handed on

abbrev pub Strict : (Progress → Progress) → Type 0
Strict f = (r : Refused) (k : ℕ) (work result : List ℕ) → f (progress (walk.Refused r k) work result) ≡ progress (walk.Refused r k) work result

-- ------------------------------------------------------------------ what changed

-- from P to Q the work buffer changed from P's area on
pub record Above (P Q : Area) : Type 0 where
  pub base : Q.out.base ≡ P.out.base
  pub size : length Q.bytes ≡ length P.bytes
  pub front : take P.out.base Q.bytes ≡ take P.out.base P.bytes

pub above_refl : {P : Area} → Above P P
above_refl = record { base = refl; size = refl; front = refl }

pub above_within : {P Q : Area} → Within P Q → Above P Q
above_within w = record { base = w.base; size = w.kept.size; front = w.kept.front }

pub above_trans : {P Q S : Area} → Above P Q → Above Q S → Above P S
above_trans p q =
    record { base = q.base ∙ p.base; size = q.size ∙ p.size; front = (rw p.base at q.front) ∙ p.front }

-- the level has an area for each of `calls` calls in one another
abbrev pub Room : Area → ℕ → Type 0
Room P calls = (P.out.base + 12288 * calls + 12288 ≤ 65536) × (65536 ≤ length P.bytes)

-- room for a part of a tree
pub room_part : (P : Area) (part whole : ℕ) → part ≤ whole → Room P whole → Room P part
room_part P part whole h r = (omega (arith, h, r.0), r.1)

-- and later
pub room_for : {P Q : Area} (part whole : ℕ) → part ≤ whole → Above P Q → Room P whole → Room Q part
room_for part whole h a r = (omega (arith, h, a.base, r.0), omega (arith, a.size, r.1))

-- an area of the result buffer
abbrev pub Ready : List ℕ → Type 0
Ready result = 12288 ≤ length result

-- ------------------------------------------------------------------ what is given

-- nothing more is said of a tree and the result buffer
abbrev pub Nothing : {A : Type 0} → List ℕ → A → Type 0
Nothing result a = Unit {0}

module _ (R : Reads) where
  -- a refusal of the code is the definition's
  abbrev pub RefusalMatchesIn : Refused → Refusal → Type 0
  RefusalMatchesIn f r = RefusalMatches R.registry R.definitions R.condition R.layout f r

  -- from P on, behind es, a tree that ends at a place of the condition; `flat` has its entries, and `Also` says what else holds of it
  -- and of what the result buffer holds then
  pub data WalkMatches {A : Type 0} (Also : List ℕ → A → Type 0) (flat : A → List Entry) (P : Area) (es : List Entry) (X : Progress) (end : Place) : Outcome A → Type 0 where
    writes : {a : A} {k : ℕ} (Q : Area) (result : List ℕ) → X ≡ going end k Q result → Written Q (es ++ flat a) → Above P Q → Ready result
        → Also result a → WalkMatches Also flat P es X end (Outcome.done a k)
    refuses : {f : Refused} {r : Refusal} {k : ℕ} (work result : List ℕ) → X ≡ progress (walk.Refused f k) work result → RefusalMatchesIn f r
        → WalkMatches Also flat P es X end (Outcome.refused r k)

  pub stops : {A : Type 0} {Also : List ℕ → A → Type 0} {flat : A → List Entry} {P : Area} {es : List Entry} {end : Place} {f : Refused}
      {r : Refusal} {k : ℕ} {work result : List ℕ} → RefusalMatchesIn f r
      → WalkMatches Also flat P es (progress (walk.Refused f k) work result) end (Outcome.refused r k)
  stops {work = work} {result} h = refuses work result refl h

  module _ {A : Type 0} {Also : List ℕ → A → Type 0} {flat : A → List Entry} {P : Area} {es : List Entry} where
    pub ending : {X : Progress} {end end' : Place} {o : Outcome A} → end ≡ end' → WalkMatches Also flat P es X end' o → WalkMatches Also flat P es X end o
    ending {X} {o = o} e h = subst (λ (p : Place). WalkMatches Also flat P es X p o) (sym e) h

    pub starting : {X Y : Progress} {end : Place} {o : Outcome A} → X ≡ Y → WalkMatches Also flat P es Y end o → WalkMatches Also flat P es X end o
    starting {end = end} {o} e h = subst (λ (Z : Progress). WalkMatches Also flat P es Z end o) (sym e) h

    pub reaching : {X : Progress} {end : Place} {o o' : Outcome A} → o ≡ o' → WalkMatches Also flat P es X end o → WalkMatches Also flat P es X end o'
    reaching {X} {end} e h = subst (λ (z : Outcome A). WalkMatches Also flat P es X end z) e h

    -- what changed before
    pub since : {Q : Area} {X : Progress} {end : Place} {o : Outcome A} → Above P Q → WalkMatches Also flat Q es X end o → WalkMatches Also flat P es X end o
    since w (writes S result e h v ready also) = writes S result e h (above_trans w v) ready also
    since w (refuses work result e h) = refuses work result e h

    -- what else holds of it
    pub also_matches : {More : List ℕ → A → Type 0} {X : Progress} {end : Place} {o : Outcome A}
        → ((a : A) (k : ℕ) (result : List ℕ) → o ≡ Outcome.done a k → X.result ≡ result → Also result a → More result a)
        → WalkMatches Also flat P es X end o → WalkMatches More flat P es X end o
    also_matches f (writes {a} {k} Q result e h v ready also) = writes Q result e h v ready (f a k result refl (ap (λ (Y : Progress). Y.result) e) also)
    also_matches f (refuses work result e h) = refuses work result e h

    -- the left side of a Since ends where its walk comes and where a skip comes
    pub gives_behind : (s : List ℕ) (l : Layout) (left : Place) {end : Place} {X : Progress} {o : Outcome A} → WalkMatches Also flat P es X end o
        → skip_at s l left grammar.condition ≡ Some end → behind_in s l left (place_of X.walk) ≡ Ok end
    unfolding behind_in passed_in
    gives_behind s l left (writes Q result e h v ready also) skipped = rw e
    gives_behind s l left (refuses work result e h) skipped = rw (e, skipped)

  module _ {A B : Type 0} {Also : List ℕ → A → Type 0} {Also' : List ℕ → B → Type 0} {flat : A → List Entry} {flat' : B → List Entry}
      {P : Area} {es es' : List Entry} where
    -- a walk after a walk
    pub bind_matches : (f : Progress → Progress) → Strict f → {X : Progress} {mid end : Place} {o : Outcome A} (g : A → Walks B)
        → WalkMatches Also flat P es X mid o
        → ((a : A) (k : ℕ) (Q : Area) (result : List ℕ) → o ≡ Outcome.done a k → Written Q (es ++ flat a) → Above P Q → Ready result
        → Also result a → WalkMatches Also' flat' Q es' (f (going mid k Q result)) end (g a k))
        → WalkMatches Also' flat' P es' (f X) end (proceed o g)
    unfolding proceed
    bind_matches f s {end = end} g (writes {a} {k} Q result e h w ready also) next =
        subst (λ (Y : Progress). WalkMatches Also' flat' P es' (f Y) end (g a k)) (sym e) (since w (next a k Q result refl h w ready also))
    bind_matches f s g (refuses work result e h) next = refuses work result (ap f e ∙ s _ _ work result) h

    -- what the walk gave is a part of a larger tree
    pub map_matches : (h : A → B) {X : Progress} {end : Place} {o : Outcome A}
        → ((a : A) (k : ℕ) (result : List ℕ) → o ≡ Outcome.done a k → Also result a
        → (es ++ flat a ≡ es' ++ flat' (h a)) × Also' result (h a))
        → WalkMatches Also flat P es X end o → WalkMatches Also' flat' P es' X end (proceed o (λ a k. Outcome.done (h a) k))
    unfolding proceed
    map_matches h e (writes {a} {k} Q result x v w ready also) =
        let both = e a k result refl also in
        writes Q result x (rewritten both.0 v) w ready both.1
    map_matches h e (refuses work result x v) = refuses work result x v
