-- The library check of point 1 (specs/Library.antt): one index is the definition's own check, the list is empty exactly if each
-- definition passes alone, and then demand 3 and `no_residue` hold of all that the registry is used for.
-- Assumes nothing.
use Prim.Native.Nat.{ℕ, zero, suc, ◌+◌, ◌-◌, ◌%◌, ◌≤◌, ◌<◌}
use native.Mathlib.Omega.{arith}
use native.Mathlib.Nat.{suc-ne-zero}
use mathlib.Core.Path.{◌≡◌, refl, sym, ◌∙◌, ap, subst}
use mathlib.Core.Logic.{◌≢◌}
use mathlib.Core.List.{List, [], ◌∷◌}
use mathlib.Core.Bool.{Bool, true, false, ◌&&◌}
use mathlib.Core.Option.{none, some, none-ne-some}
use borrow.Author.Tests.{le-leb, eq-eqb, ne_eqb}
use lib.Dec.{T, leb, le→leb}
use lib.ListN.{length, replicate, get_or}
use Rattle.format.specs.Entry.{le, encode, text_of}
use Rattle.format.specs.Ast.{MacroDef}
use Rattle.format.specs.Flat.{flat_def, flat_registry}
use Rattle.format.specs.Limits.{node_weight, call_weight, fits_sizes, fits_depths}
use Rattle.format.specs.Replace.{replace_def, replace_defs}
use Rattle.format.specs.DeMorgan.{de_morgan}
use Rattle.format.specs.Tape.{Reading, Root, small, definition_root, registry_root, accept, rewritten, fits, rewrite, read}
use Rattle.format.proofs.All.{All, all_nil, all_cons, all_head, all_tail}
use Rattle.format.proofs.Tests.{and_left, and_right, and_both}
use Rattle.format.proofs.Utf8.{Whole, all_whole, whole_all}
use Rattle.format.proofs.Accepted.{Values64, OnTape, accepted_on_tape}
use Rattle.format.proofs.Encodes.{fitting}
use Rattle.format.proofs.Exact.{within_limits, on_tape_accepted, lawful_definition, lawful_registry}
use Rattle.format.proofs.Rewritten.{Rewrites, rewrites_definition, rewrites_registry, rewriting, lighter, read_from}
use Rattle.format.proofs.Registries.{Fits, Alone, alone_read, definitions_alone}
use Rattle.definition.specs.Outcome.{Refusal, Outcome, pure}
use Rattle.definition.specs.Check.{Verdict, check_def}
use Rattle.definition.specs.Registry.{build}
use Rattle.definition.specs.Expand.{unless, expand}
use Rattle.definition.specs.Answers.{Answer, padded, answer, number_alone, reading, verdict, message_alone, message_answer, without_work, result_answer, expand_tapes, expand_answer, check_answer}
use Rattle.definition.specs.Residue.{AllPass}
use Rattle.definition.specs.Library.{Refused, in_front, refused_from, refused_of, refused_bytes, list_bytes, library_tapes, library_answer, definition_at, check_found, check_at_answer, refused_at, ListsEach, Built, CheckedAlone, CheckedAsUploaded, CheckedPastTheEnd, EachPasses, LibraryLists, EmptyAsUploaded, EmptyList, EmptyListCovers}
use Rattle.definition.proofs.Verdicts.{Given, refuses, Numbered, is_body_refusal, none_of, numbered_def, nonzero_build}
use Rattle.definition.proofs.Lookup.{each_def}
use Rattle.definition.proofs.Demand3.{safe_answer, demand3_on_tapes}
use Rattle.definition.proofs.Residue.{free_expand}

-- ------------------------------------------------------------------ one index

pub found_at : {P : MacroDef → Type 0} {defs : List MacroDef} → All P defs → (i : ℕ) (d : MacroDef) → definition_at defs i ≡ some d → P d
unfolding definition_at
found_at all_nil i d e = absurd (none-ne-some d e)
found_at {P} (all_cons {a = x} p h) zero d e = let q : x ≡ d = cc in subst P q p
found_at (all_cons p h) (suc i) d e = found_at h i d e

past_end : (defs : List MacroDef) (i : ℕ) → length defs ≤ i → definition_at defs i ≡ none
unfolding definition_at
past_end [] i h = refl
past_end (d ∷ ds) zero h = absurd (omega arith)
past_end (d ∷ ds) (suc i) h = past_end ds i (omega arith)

pub checked_alone : CheckedAlone
unfolding check_at_answer check_answer reading unless check_found
checked_alone m registry defs b i d e =
    let own = alone_read d (found_at (definitions_alone registry b.is_tape defs b.its_defs) i d e) in
    rw (b.its_defs, b.builds, e, own) refl

pub checked_past_the_end : CheckedPastTheEnd
unfolding check_at_answer message_answer answer reading unless check_found verdict
checked_past_the_end m registry defs b long i h =
    rw (le-leb 2048 m long, b.its_defs, b.builds, past_end defs i h) refl

-- ------------------------------------------------------------------ one index, as it was uploaded

-- what keeps to the figures rewritten keeps to them as it was given
module _ {A : Type 0} (root : Root A) (r : Rewrites root) (a : A) where
  small_given : T (small root (root.flat (rewritten root a)) (rewritten root a)) → T (small root (root.flat a) a)
  unfolding small
  small_given t =
      let law = rewriting root r in
      let new : A = rewritten root a in
      let texts : Bool = root.texts (root.flat new) in
      let depths : Bool = fits_depths (root.deep node_weight new) (root.deep call_weight new) in
      let rest : T (depths && root.few new) = and_right texts _ t in
      and_both (root.texts (root.flat a)) _ (subst T (law.texts a) (and_left texts _ t))
      (and_both (fits_depths (root.deep node_weight a) (root.deep call_weight a)) _
      (lighter root r a (rw (law.nesting a, law.calls a) at (and_left depths _ rest)))
      (subst T (law.params a) (and_right depths _ rest)))

  sizes_given : Fits (root.flat (rewritten root a)) → Fits (root.flat a)
  unfolding fits_sizes
  sizes_given t =
      let law = rewriting root r in
      let n : ℕ = length (root.flat a) in
      let k : ℕ = length (text_of (root.flat a)) in
      let f = fitting (length (root.flat (rewritten root a))) (length (text_of (root.flat (rewritten root a)))) t in
      let e : length (text_of (root.flat (rewritten root a))) ≡ k = ap length (law.text a) in
      and_both (leb n 1024) (leb k 3072) (le→leb n 1024 (omega (arith, f.0, law.entries a))) (le→leb k 3072 (omega (arith, f.1, e)))

-- so that its own tape is read as the rewritten definition
uploaded_read : (d : MacroDef) → Values64 (flat_def d) → All Whole (flat_def d) → Alone (replace_def de_morgan d)
    → read definition_root (encode (flat_def d)) ≡ Reading.accepted (replace_def de_morgan d)
unfolding read rewrite fits definition_root
uploaded_read d values texts a =
    let new : MacroDef = replace_def de_morgan d in
    let given : OnTape definition_root (encode (flat_def d)) d =
    record {
      encoded = refl;
      range =
          record {
            values = values;
            sizes = sizes_given definition_root rewrites_definition d a.on_tape.range.sizes;
            texts = whole_all texts;
          };
      small = small_given definition_root rewrites_definition d a.on_tape.small;
    } in
    let sizes : Bool = fits_sizes (length (flat_def new)) (length (text_of (flat_def new))) in
    rw (on_tape_accepted definition_root lawful_definition given)
    (within_limits (sizes && small definition_root (flat_def new) new) new (and_both sizes _ a.on_tape.range.sizes a.on_tape.small))

rewritten_at : (defs : List MacroDef) (i : ℕ) (d : MacroDef) → definition_at defs i ≡ some d
    → definition_at (replace_defs de_morgan defs) i ≡ some (replace_def de_morgan d)
unfolding definition_at replace_defs
rewritten_at [] i d e = absurd (none-ne-some d e)
rewritten_at (x ∷ xs) zero d e = let q : x ≡ d = cc in ap (λ (y : MacroDef). some (replace_def de_morgan y)) q
rewritten_at (x ∷ xs) (suc i) d e = rewritten_at xs i d e

module _ (registry : List ℕ) (defs uploaded : List MacroDef) (b : Built registry defs)
    (h : accept registry_root registry ≡ Reading.accepted uploaded) where
  uploaded_rewritten : replace_defs de_morgan uploaded ≡ defs
  unfolding registry_root
  uploaded_rewritten =
      let f = read_from registry_root rewrites_registry registry defs b.its_defs in
      let both : Reading.accepted f.given ≡ Reading.accepted uploaded = sym f.was_given ∙ h in
      let same : f.given ≡ uploaded = cc in
      ap (replace_defs de_morgan) (sym same) ∙ f.is_rewritten

  its_place : (i : ℕ) (d : MacroDef) → definition_at uploaded i ≡ some d → definition_at defs i ≡ some (replace_def de_morgan d)
  its_place i d e = ap (λ (x : List MacroDef). definition_at x i) (sym uploaded_rewritten) ∙ rewritten_at uploaded i d e

  its_reading : (i : ℕ) (d : MacroDef) → definition_at uploaded i ≡ some d
      → read definition_root (encode (flat_def d)) ≡ Reading.accepted (replace_def de_morgan d)
  unfolding registry_root flat_registry
  its_reading i d e =
      let t = accepted_on_tape registry_root lawful_registry.spells registry b.is_tape uploaded h in
      let whole = all_whole (flat_registry uploaded) t.range.texts in
      let own = definitions_alone registry b.is_tape defs b.its_defs in
      uploaded_read d (found_at (each_def uploaded (all_tail t.range.values)) i d e)
      (found_at (each_def uploaded (all_tail whole)) i d e)
      (found_at own i (replace_def de_morgan d) (its_place i d e))

pub checked_as_uploaded : CheckedAsUploaded
unfolding check_at_answer check_answer reading unless check_found
checked_as_uploaded m registry defs uploaded b h i d e =
    rw (b.its_defs, b.builds, its_place registry defs uploaded b h i d e, its_reading registry defs uploaded b h i d e) refl

-- ------------------------------------------------------------------ the list

all_pass : (i : ℕ) (defs : List MacroDef) → refused_from i defs ≡ [] → AllPass defs
unfolding refused_from in_front AllPass
all_pass i [] h = tt
all_pass i (d ∷ ds) h = go (check_def d) h (all_pass (suc i) ds)
  where
    go : (v : Verdict) → in_front i v (refused_from (suc i) ds) ≡ [] → (refused_from (suc i) ds ≡ [] → AllPass ds) → (v ≡ none) × AllPass ds
    go none k rest = (refl, rest k)
    go (some r) k rest = absurd (suc-ne-zero _ (ap length k))

none_refused : (i : ℕ) (defs : List MacroDef) → AllPass defs → refused_from i defs ≡ []
unfolding refused_from in_front AllPass
none_refused i [] h = refl
none_refused i (d ∷ ds) h = rw h.0 (none_refused (suc i) ds h.1)

-- an index before the first is not listed
not_before : (k j : ℕ) (defs : List MacroDef) → j < k → refused_at (refused_from k defs) j ≡ none
unfolding refused_from in_front refused_at
not_before k j [] h = refl
not_before k j (d ∷ ds) h = go (check_def d) (not_before (suc k) j ds (omega arith))
  where
    go : (v : Verdict) → refused_at (refused_from (suc k) ds) j ≡ none → refused_at (in_front k v (refused_from (suc k) ds)) j ≡ none
    go none rest = rest
    go (some r) rest = rw (ne_eqb j k (λ e. omega arith), refused_at) rest

lists_from : (k : ℕ) (defs : List MacroDef) (i : ℕ) → refused_at (refused_from k defs) (k + i) ≡ check_found (definition_at defs i)
unfolding refused_from in_front refused_at definition_at check_found
lists_from k [] i = refl
lists_from k (d ∷ ds) zero = go (check_def d) (not_before (suc k) (k + 0) ds (omega arith))
  where
    go : (v : Verdict) → refused_at (refused_from (suc k) ds) (k + 0) ≡ none → refused_at (in_front k v (refused_from (suc k) ds)) (k + 0) ≡ v
    go none rest = rest
    go (some r) rest = rw (eq-eqb (k + 0) k (omega arith), refused_at) refl
lists_from k (d ∷ ds) (suc i) =
    go (check_def d) (ap (refused_at (refused_from (suc k) ds)) same ∙ lists_from (suc k) ds i)
  where
    same : k + suc i ≡ suc k + i
    same = omega arith

    go : (v : Verdict) → refused_at (refused_from (suc k) ds) (k + suc i) ≡ check_found (definition_at ds i)
        → refused_at (in_front k v (refused_from (suc k) ds)) (k + suc i) ≡ check_found (definition_at ds i)
    go none rest = rest
    go (some r) rest = rw (ne_eqb (k + suc i) k (λ e. omega arith), refused_at) rest

pub lists_each : ListsEach
unfolding refused_of
lists_each defs i = let e : i ≡ 0 + i = omega arith in ap (refused_at (refused_from 0 defs)) e ∙ lists_from 0 defs i

-- each number is 20, 21 or 22
abbrev NumberedRow : Refused → Type 0
NumberedRow r = T (is_body_refusal r.why.number)

numbered : (i : ℕ) (defs : List MacroDef) → All NumberedRow (refused_from i defs)
unfolding refused_from in_front
numbered i [] = all_nil
numbered i (d ∷ ds) = go (check_def d) (numbered_def d) (numbered (suc i) ds)
  where
    go : (v : Verdict) → Given Numbered v → All NumberedRow (refused_from (suc i) ds) → All NumberedRow (in_front i v (refused_from (suc i) ds))
    go none g rest = rest
    go (some r) (refuses t) rest = all_cons t rest

zeros_at : (k i : ℕ) → get_or (replicate {A = ℕ} k 0) i 0 ≡ 0
zeros_at zero i = refl
zeros_at (suc k) zero = refl
zeros_at (suc k) (suc i) = zeros_at k i

-- "A number is never 0": a list that leaves the result zero is empty
nothing_listed : (r : ℕ) (rows : List Refused) → All NumberedRow rows → padded r (list_bytes rows) ≡ padded r [] → rows ≡ []
unfolding list_bytes refused_bytes padded le
nothing_listed r [] n h = refl
nothing_listed r (x ∷ rows) n h =
    let k : ℕ = x.why.number in
    let z : k % 256 ≡ 0 = ap (λ (l : List ℕ). get_or l 4 0) h ∙ zeros_at (r - 0) 4 in
    absurd (none_of k (all_head n) (λ e. omega arith) (λ e. omega arith) (λ e. omega arith))

-- ------------------------------------------------------------------ the answers

-- a definition whose check passes, by the answer
passes_alone : (m : ℕ) (d : MacroDef) → 2048 ≤ m → Alone d → check_def d ≡ none → (check_answer m (encode (flat_def d))).number ≡ 0
unfolding check_answer message_answer answer reading verdict
passes_alone m d long own h = rw (le-leb 2048 m long, alone_read d own, h) refl

alone_passes : (d : MacroDef) → Alone d → (check_answer 2048 (encode (flat_def d))).number ≡ 0 → check_def d ≡ none
unfolding check_answer message_answer answer reading verdict
alone_passes d own h = go (check_def d) (numbered_def d) (rw (alone_read d own) at h)
  where
    nothing : Unit {0} → List ℕ
    nothing u = []

    go : (v : Verdict) → Given Numbered v → (answer nothing (message_alone 2048) (verdict v)).number ≡ 0 → v ≡ none
    go none g e = refl
    go (some r) (refuses t) e = absurd (none_of r.number t (λ q. omega arith) (λ q. omega arith) (λ q. omega arith))

each_passes : (defs : List MacroDef) → All Alone defs → AllPass defs → EachPasses defs
unfolding AllPass
each_passes defs a h i d e m long =
    let p = found_at (together defs a h) i d e in
    passes_alone m d long p.0 p.1
  where
    together : (ds : List MacroDef) → All Alone ds → AllPass ds → All (λ (x : MacroDef). Alone x × (check_def x ≡ none)) ds
    together [] all_nil h = all_nil
    together (d ∷ ds) (all_cons p a) h = all_cons (p, h.0) (together ds a h.1)

pass_each : (defs : List MacroDef) → All Alone defs → EachPasses defs → AllPass defs
unfolding AllPass definition_at
pass_each [] a h = tt
pass_each (d ∷ ds) (all_cons p a) h = (alone_passes d p (h 0 d refl 2048 (omega arith)), pass_each ds a (λ i x e. h (suc i) x e))

its_answer : (r m : ℕ) (registry : List ℕ) (defs : List MacroDef) → 12296 ≤ r → 2048 ≤ m → Built registry defs
    → library_answer r m registry ≡ answer list_bytes (without_work r m) (Outcome.done (refused_of defs) 0)
unfolding library_answer library_tapes result_answer reading unless
its_answer r m registry defs large long b = rw (le-leb 12296 r large, le-leb 2048 m long, b.its_defs, b.builds) refl

pub library_lists : LibraryLists
unfolding answer refused_of list_bytes
library_lists r m registry defs large long b =
    let e = its_answer r m registry defs large long b in
    let a = definitions_alone registry b.is_tape defs b.its_defs in
    let same : (library_answer r m registry).result ≡ padded r (list_bytes (refused_of defs)) = ap (λ (x : Answer). x.result) e in
    record {
      gives_0 = ap (λ (x : Answer). x.number) e;
      lists = same;
      empty_exactly = (
        λ h. each_passes defs a (all_pass 0 defs (nothing_listed r (refused_of defs) (numbered 0 defs) (sym same ∙ h))),
        λ h. same ∙ ap (λ (x : List Refused). padded r (list_bytes x)) (none_refused 0 defs (pass_each defs a h)),
      );
    }

-- an index that has a rewritten definition has one that was uploaded
was_at : (defs : List MacroDef) (i : ℕ) (d : MacroDef) → definition_at (replace_defs de_morgan defs) i ≡ some d
    → (x : MacroDef) × (definition_at defs i ≡ some x)
unfolding definition_at replace_defs
was_at [] i d e = absurd (none-ne-some d e)
was_at (x ∷ xs) zero d e = (x, refl)
was_at (x ∷ xs) (suc i) d e = was_at xs i d e

pub empty_as_uploaded : EmptyAsUploaded
empty_as_uploaded r m registry defs uploaded large long b h =
    let l = (library_lists r m registry defs large long b).empty_exactly in
    (λ p. to_uploaded (l.0 p), λ p. l.1 (from_uploaded p))
  where
    -- both are what the registry's own check of that index answers
    same : (n i : ℕ) (d x : MacroDef) → definition_at uploaded i ≡ some d → definition_at defs i ≡ some x
        → check_answer n (encode (flat_def d)) ≡ check_answer n (encode (flat_def x))
    same n i d x e k = sym (checked_as_uploaded n registry defs uploaded b h i d e) ∙ checked_alone n registry defs b i x k

    to_uploaded : EachPasses defs → EachPasses uploaded
    to_uploaded p i d e n q =
        let k = its_place registry defs uploaded b h i d e in
        ap (λ (x : Answer). x.number) (same n i d (replace_def de_morgan d) e k) ∙ p i (replace_def de_morgan d) k n q

    from_uploaded : EachPasses uploaded → EachPasses defs
    from_uploaded p i d e n q =
        let u = was_at uploaded i d (ap (λ (x : List MacroDef). definition_at x i) (uploaded_rewritten registry defs uploaded b h) ∙ e) in
        ap (λ (x : Answer). x.number) (sym (same n i u.0 d u.1 e)) ∙ p i u.0 u.1 n q

-- ------------------------------------------------------------------ a registry whose list is empty

module _ (r m : ℕ) (defs : List MacroDef) where
  abbrev out : Bool → Outcome (List Refused) → Answer
  out long o = answer list_bytes (without_work r m) (elim long [ true ↦ o | false ↦ number_alone 1 ])

  -- it is built, and each definition passes
  told : (long : Bool) (v : Verdict) → Given (λ (x : Refusal). x.number ≢ 0) v
      → (out long (unless v (pure (refused_of defs)) 0)).number ≡ 0
      → (out long (unless v (pure (refused_of defs)) 0)).result ≡ padded r []
      → (v ≡ none) × AllPass defs
  unfolding answer number_alone unless refused_of
  told false v g p q = absurd (omega arith)
  told true (some x) (refuses n) p q = absurd (n p)
  told true none g p q = (refl, all_pass 0 defs (nothing_listed r (refused_of defs) (numbered 0 defs) q))

clean : (registry : List ℕ) (defs : List MacroDef) → read registry_root registry ≡ Reading.accepted defs → EmptyList registry → (build defs ≡ none) × AllPass defs
unfolding library_answer library_tapes result_answer reading
clean registry defs h l =
    let r : ℕ = l.result_length in
    let m : ℕ = l.message_length in
    let long : Bool = leb 12296 r && leb 2048 m in
    let e : library_tapes registry ≡ unless (build defs) (pure (refused_of defs)) 0 = rw h refl in
    told r m defs long (build defs) (nonzero_build defs)
    (subst (λ (o : Outcome (List Refused)). (out r m defs long o).number ≡ 0) e l.gives_0)
    (subst (λ (o : Outcome (List Refused)). (out r m defs long o).result ≡ padded r []) e l.empty)

pub empty_list_covers : EmptyListCovers
unfolding expand_answer expand_tapes reading
empty_list_covers registry defs q h l =
    let c = clean registry defs h l in
    let a : All Alone defs = definitions_alone registry q defs h in
    record {
      substitutions = λ i d e b limit file input call k right.
          let own : Alone d = found_at a i d e in
          let zero_answer : (check_answer 2048 (encode (flat_def d))).number ≡ 0 = each_passes defs a c.1 i d e 2048 (omega arith) in
          demand3_on_tapes b limit file (encode (flat_def d)) input d call (record { its_definition = alone_read d own; its_call = k })
          (record {
            message_length = 2048;
            long_enough = omega arith;
            no_20 = λ z. omega arith;
            no_21 = λ z. omega arith;
            no_22 = λ z. omega arith;
          })
          right;
      expansions = λ b limit file input x k clear. rw (h, k) (safe_answer b (expand limit file defs x) (free_expand limit file defs x c.1 clear));
    }
