-- What a walk gives where a tree stands: the entries of the substituted tree behind those that were written, or the refusal of the
-- tree's definition. Two ways to put walks together: one after another, and as a part of a larger tree.
-- Assumes nothing.
use Rattle.std.proofs.Common.{Some, Ok}
use Prim.Native.Nat.{ℕ, zero, suc, ◌+◌, ◌≤◌}
use native.Mathlib.Omega.{arith}
use mathlib.Core.Path.{◌≡◌, refl, sym, ap, subst, ◌∙◌}
use mathlib.Core.List.{List, [], ◌++◌}
use mathlib.Core.Bool.{true, false}
use lib.ListN.{length}
use Rattle.grammar.specs.Grammar as grammar
use Rattle.format.specs.Entry.{Entry, text_of}
use Rattle.format.proofs.Accepted.{Values64}
use Rattle.format.proofs.All.{all_nil, all_append}
use Rattle.format.proofs.Encodes.{WellTexted}
use Rattle.definition.specs.Outcome.{Refusal, Outcome, Walk as Walks, proceed}
use Rattle.buffer.specs.Buffer.{Kept}
use Rattle.buffer.proofs.Kept.{kept_refl, kept_trans}
use Rattle.format.specs.Stands.{Stands}
use Rattle.tape.specs.Layouts.{Held, area_layout}
use Rattle.tape.specs.Scan.{skip_at}
use Rattle.tape.specs.declared.layout.Layout.{Layout}
use Rattle.tape.specs.declared.layout.Place.{Place}
use Rattle.tape.proofs.Located.{past, Inside, inside_sections}
use Rattle.tape.proofs.Runs.{place, area_is}
use Rattle.area.specs.Area.{Area, area_in, fits_area, Wrote, Within}
use Rattle.area.proofs.Appends.{out_none, out_append, fits_front}
use Rattle.area.proofs.Room.{fits_decides}
use Rattle.area.proofs.Within.{within_trans, within_append}
use Rattle.messages.specs.declared.Refused.{Refused}
use Rattle.answer.specs.Matches.{RefusalMatches}
use Rattle.walk_state.specs.Writing.{Progress, progress, state, going, place_of}
use Rattle.subst_state.specs.Output.{copy_in, copy_own_in}
use Rattle.walk_state.specs.Reading.{passed_in, behind_in}
use Rattle.subst_places.specs.Parameters.{Tapes, items_in}
use Rattle.walk_state.specs.Walk as walk

-- ------------------------------------------------------------------ refusals are handed on

abbrev pub Strict : (Progress → Progress) → Type 0
Strict f = (r : Refused) (k : ℕ) (bytes : List ℕ) → f (progress (walk.Refused r k) bytes) ≡ progress (walk.Refused r k) bytes

pub strict_items : (f : Progress → Progress) (n : ℕ) → Strict (items_in f n)
unfolding items_in
strict_items f zero r k bytes = refl
strict_items f (suc n) r k bytes = refl

-- ------------------------------------------------------------------ what was written

-- es was written into an area of a buffer; where all of it is there, each value can be read back
pub record Written (P : Area) (es : List Entry) : Type 0 where
  pub out : Wrote P es
  pub near : P.out.base ≤ 65536
  pub small : fits_area es ≡ true → Values64 es

pub rewritten : {P : Area} {es fs : List Entry} → es ≡ fs → Written P es → Written P fs
rewritten {P} e w = subst (Written P) e w

-- a run that is copied
module _ {s : List ℕ} {l : Layout} {p : Place} {own : List Entry} (i : Inside s l p own) where
  pub within_copy : {P : Area} → Within P (copy_in s l p (past own p) P)
  unfolding copy_in
  within_copy {P} = within_append _ _ _ P

  pub copied_written : {P : Area} {es : List Entry} → Written P es → Written (copy_in s l p (past own p) P) (es ++ own)
  unfolding copy_in
  copied_written {P} {es} w =
      let parts = inside_sections i in
      let changed = within_copy {P = P} in
      record {
        out = rw (parts.codes, parts.values, parts.text) (out_append own w.out);
        near = rw changed.base w.near;
        small = λ f. all_append (w.small (fits_front es own f)) i.run.small_values;
      }

-- nothing was written to an area
pub written_none : (base : ℕ) (bytes : List ℕ) → base + 12288 ≤ length bytes → base ≤ 65536
    → Written (area_in (record { base = base; n = 0; t = 0; overflowed = false }) bytes) []
written_none base bytes h near = record { out = out_none base bytes h; near = near; small = λ f. all_nil }

-- where all of it is there, it stands in the area as on a tape
module _ {P : Area} {es : List Entry} (w : Written P es) (f : fits_area es ≡ true) where
  abbrev area_of : Layout
  area_of = area_layout P.out.base P.out.n P.out.t

  pub written_held : Held P.bytes area_of
  written_held =
      let held = w.out.holds f in
      let fits = (fits_decides (length es) (length (text_of es))).holds f in
      rw (area_is P.out.base P.out.n P.out.t w.near)
      (record {
        entries_most = omega (arith, held.entries, fits.0);
        codes_held = omega (arith, held.entries, fits.0, w.out.whole);
        values_held = omega (arith, held.entries, fits.0, w.out.whole);
      })

  pub written_stands : Stands P.bytes area_of.codes area_of.values area_of.text 0 0 es
  written_stands = rw (area_is P.out.base P.out.n P.out.t w.near) (w.out.holds f).stands

  pub written_inside : WellTexted es → Inside P.bytes area_of (place 0 0) es
  written_inside texted =
      let held = w.out.holds f in
      let layout = area_is P.out.base P.out.n P.out.t w.near in
      record {
        run =
            record {
              held = written_held;
              stands = written_stands;
              entries_left = rw layout (omega (arith, held.entries));
              text_left = rw layout (omega (arith, held.bytes));
              small_values = w.small f;
            };
        texted = texted;
      }

-- ------------------------------------------------------------------ what is given

module _ (T : Tapes) where
  -- a refusal of the code is the definition's; it names parts of the definition's tape alone, so that any other tape may stand beside it
  abbrev pub RefusalMatchesIn : Refused → Refusal → Type 0
  RefusalMatchesIn f r = (t : List ℕ) (c : Layout) → RefusalMatches T.definition T.maps.definition t c f r

  -- from P on, behind es, a tree that ends at a place of the body; `flat` has its entries
  pub data WalkMatches {A : Type 0} (flat : A → List Entry) (P : Area) (es : List Entry) (X : Progress) (end : Place) : Outcome A → Type 0 where
    writes : {a : A} {k : ℕ} (Q : Area) → X ≡ going end k Q → Written Q (es ++ flat a) → Within P Q
        → WalkMatches flat P es X end (Outcome.done a k)
    refuses : {f : Refused} {r : Refusal} {k : ℕ} (bytes : List ℕ) → X ≡ progress (walk.Refused f k) bytes → RefusalMatchesIn f r
        → Kept P.out.base (P.out.base + 12288) P.bytes bytes → WalkMatches flat P es X end (Outcome.refused r k)

  -- a refusal with what was charged
  pub stops : {A : Type 0} {flat : A → List Entry} {P : Area} {es : List Entry} {end : Place} {f : Refused} {r : Refusal} {k : ℕ}
      → RefusalMatchesIn f r
      → WalkMatches flat P es (progress (walk.Refused f k) P.bytes) end (Outcome.refused r k)
  stops {P = P} h = refuses P.bytes refl h kept_refl

  module _ {A : Type 0} {flat : A → List Entry} {P : Area} {es : List Entry} where
    pub ending : {X : Progress} {end end' : Place} {o : Outcome A} → end ≡ end' → WalkMatches flat P es X end' o → WalkMatches flat P es X end o
    ending {X} {o = o} e h = subst (λ (p : Place). WalkMatches flat P es X p o) (sym e) h

    pub starting : {X Y : Progress} {end : Place} {o : Outcome A} → X ≡ Y → WalkMatches flat P es Y end o → WalkMatches flat P es X end o
    starting {end = end} {o} e h = subst (λ (Z : Progress). WalkMatches flat P es Z end o) (sym e) h

    pub reaching : {X : Progress} {end : Place} {o o' : Outcome A} → o ≡ o' → WalkMatches flat P es X end o → WalkMatches flat P es X end o'
    reaching {X} {end} e h = subst (λ (x : Outcome A). WalkMatches flat P es X end x) e h

    -- what changed before, within the same area
    pub since : {Q : Area} {X : Progress} {end : Place} {o : Outcome A} → Within P Q → WalkMatches flat Q es X end o → WalkMatches flat P es X end o
    since w (writes R e h v) = writes R e h (within_trans w v)
    since w (refuses bytes e h v) = refuses bytes e h (kept_trans w.kept (rw w.base at v))

    -- the bytes outside the area, also after a refusal
    pub gives_kept : {X : Progress} {end : Place} {o : Outcome A} → WalkMatches flat P es X end o
        → Kept P.out.base (P.out.base + 12288) P.bytes X.bytes
    gives_kept (writes Q e h w) = rw e w.kept
    gives_kept (refuses bytes e h w) = rw e w

    -- the left side of a Since ends where its walk comes and where a skip comes
    pub gives_behind : (s : List ℕ) (l : Layout) (left : Place) {end : Place} {X : Progress} {o : Outcome A} → WalkMatches flat P es X end o
        → skip_at s l left grammar.condition ≡ Some end → behind_in s l left (place_of X.walk) ≡ Ok end
    unfolding behind_in passed_in
    gives_behind s l left (writes Q e h w) skipped = rw e
    gives_behind s l left (refuses bytes e h w) skipped = rw (e, skipped)

  module _ {A B : Type 0} {flat : A → List Entry} {flat' : B → List Entry} {P : Area} {es es' : List Entry} where
    -- a walk after a walk
    pub bind_matches : (f : Progress → Progress) → Strict f → {X : Progress} {mid end : Place} {o : Outcome A} (g : A → Walks B)
        → WalkMatches flat P es X mid o
        → ((a : A) (k : ℕ) (Q : Area) → o ≡ Outcome.done a k → Written Q (es ++ flat a)
        → WalkMatches flat' Q es' (f (going mid k Q)) end (g a k))
        → WalkMatches flat' P es' (f X) end (proceed o g)
    unfolding proceed
    bind_matches f s {end = end} g (writes {a} {k} Q e h w) next =
        subst (λ (Y : Progress). WalkMatches flat' P es' (f Y) end (g a k)) (sym e) (since w (next a k Q refl h))
    bind_matches f s g (refuses bytes e h w) next = refuses bytes (ap f e ∙ s _ _ bytes) h w

    -- what the walk gave is a part of a larger tree
    pub map_matches : (h : A → B) {X : Progress} {end : Place} {o : Outcome A}
        → ((a : A) (k : ℕ) → o ≡ Outcome.done a k → es ++ flat a ≡ es' ++ flat' (h a))
        → WalkMatches flat P es X end o → WalkMatches flat' P es' X end (proceed o (λ a k. Outcome.done (h a) k))
    unfolding proceed
    map_matches h e (writes {a} {k} Q x v w) = writes Q x (rewritten (e a k refl) v) w
    map_matches h e (refuses bytes x v w) = refuses bytes x v w

  -- the same tree, with what stands before it
  pub whole_matches : {A : Type 0} {flat flat' : A → List Entry} {P : Area} {es es' : List Entry} {X : Progress} {end : Place} {o : Outcome A}
      → ((a : A) (k : ℕ) → o ≡ Outcome.done a k → es ++ flat a ≡ es' ++ flat' a) → WalkMatches flat P es X end o → WalkMatches flat' P es' X end o
  whole_matches e (writes {a} {k} Q x v w) = writes Q x (rewritten (e a k refl) v) w
  whole_matches e (refuses bytes x v w) = refuses bytes x v w

  -- the body's own entries are kept, and then f goes on
  pub copy_own_matches : {A : Type 0} {flat : A → List Entry} (f : Progress
      → Progress) {P : Area} {es own : List Entry} {p end : Place} {k : ℕ} {o : Outcome A}
      → Inside T.definition T.maps.definition p own → Written P es
      → ((Q : Area) → Written Q (es ++ own) → WalkMatches flat Q es (f (going (past own p) k Q)) end o)
      → WalkMatches flat P es (f (copy_own_in T.definition T.maps (state p P.out k) (past own p) P.bytes)) end o
  unfolding copy_own_in
  copy_own_matches f {P} i w next = since (within_copy i {P = P}) (next _ (copied_written i w))

  -- the body's entries that are kept are the last of a tree
  pub own_matches : {A : Type 0} {flat : A → List Entry} (a : A) {P : Area} {es es' own : List Entry} {p : Place} {k : ℕ}
      → Inside T.definition T.maps.definition p own → Written P es → es ++ own ≡ es' ++ flat a
      → WalkMatches flat P es' (copy_own_in T.definition T.maps (state p P.out k) (past own p) P.bytes) (past own p) (Outcome.done a k)
  unfolding copy_own_in
  own_matches a {P} i w e = writes _ refl (rewritten e (copied_written i w)) (within_copy i {P = P})

pub regrouped : {A B C : Type 0} (o : Outcome A) (f : A → Walks B) (g : B → Walks C)
    → proceed (proceed o f) g ≡ proceed o (λ a k. proceed (f a k) g)
unfolding proceed
regrouped (Outcome.done a k) f g = refl
regrouped (Outcome.refused r k) f g = refl

-- ------------------------------------------------------------------ what holds of a tree, if there is one

unfoldable pub AllDone : {A : Type 0} → (A → Type 0) → Outcome A → Type 0
AllDone Q (Outcome.done a k) = Q a
AllDone Q (Outcome.refused r k) = Unit {0}

pub all_bind : {A B : Type 0} (Q : B → Type 0) (g : A → Walks B) (o : Outcome A) → ((a : A) (k : ℕ) → AllDone Q (g a k))
    → AllDone Q (proceed o g)
unfolding AllDone proceed
all_bind Q g (Outcome.done a k) h = h a k
all_bind Q g (Outcome.refused r k) h = tt

pub all_map : {A B : Type 0} (Q : A → Type 0) (Q' : B → Type 0) (h : A → B) (o : Outcome A) → ((a : A) → Q a → Q' (h a)) → AllDone Q o
    → AllDone Q' (proceed o (λ a k. Outcome.done (h a) k))
unfolding AllDone proceed
all_map Q Q' h (Outcome.done a k) f x = f a x
all_map Q Q' h (Outcome.refused r k) f x = tt

pub all_weaken : {A : Type 0} {Q Q' : A → Type 0} → ((a : A) → Q a → Q' a) → (o : Outcome A) → AllDone Q o → AllDone Q' o
unfolding AllDone
all_weaken f (Outcome.done a k) x = f a x
all_weaken f (Outcome.refused r k) x = tt

pub all_of : {A : Type 0} (Q : A → Type 0) {o : Outcome A} {a : A} {k : ℕ} → AllDone Q o → o ≡ Outcome.done a k → Q a
unfolding AllDone
all_of Q x e = rw e at x
