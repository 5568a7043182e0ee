-- A registry's tape and its definitions: what an accepted one says of each definition, and which definitions make one that is
-- accepted.
-- Assumes nothing.
use Prim.Native.Nat.{ℕ, max, ◌*◌, ◌^◌, ◌≤◌, ◌<◌}
use native.Mathlib.Omega.{arith}
use mathlib.Core.Path.{◌≡◌, refl}
use mathlib.Core.List.{List, [], ◌∷◌, ◌++◌}
use mathlib.Core.Bool.{Bool, false}
use lib.Dec.{T, leb, leb→le, le→leb}
use lib.ListN.{length, length-append}
use Rattle.format.specs.Entry.{Entry, encode, text_of}
use Rattle.format.specs.Ast.{MacroBody, MacroDef}
use Rattle.format.specs.Flat.{flat_params, flat_body, flat_def, flat_defs, flat_registry}
use Rattle.format.specs.Utf8.{follow, between, well_formed, well_texts}
use Rattle.format.specs.Limits.{node_weight, call_weight, deep_body, deep_bodies, fits_sizes, fits_depths}
use Rattle.format.specs.Macro.{is_code, holds}
use Rattle.format.specs.Tape.{Reading, longest_text, texts_within, short_texts, few_params, few_params_each, small, definition_root, registry_root, read, Bytes}
use Rattle.format.proofs.All.{All, all_nil, all_cons, all_head, all_tail, all_append, all_left, all_right, all_map}
use Rattle.format.proofs.Tests.{and_left, and_right, and_both}
use Rattle.format.proofs.Accepted.{Values64, InRange, OnTape}
use Rattle.format.proofs.Encodes.{fitting}
use Rattle.format.proofs.Stands.{text_append}
use Rattle.format.proofs.Exact.{lawful_definition, lawful_registry}
use Rattle.format.proofs.Utf8.{Whole, all_whole, whole_all}
use Rattle.format.proofs.Becomes.{NoOr}
use Rattle.format.proofs.Rewritten.{rewrites_definition, rewrites_registry, no_holds, on_tape_read, read_no_or, read_on_tape}

-- ------------------------------------------------------------------ an entry of an input

pub record Fair (e : Entry) : Type 0 where
  pub value : e.value < 256 ^ 8
  pub text : Whole e
  pub short : T (leb (length e.text) (longest_text e.code))
  pub no_or : NoOr e

fair_each : (es : List Entry) → Values64 es → All Whole es → All NoOr es → T (short_texts es) → All Fair es
unfolding texts_within
fair_each [] v p o h = all_nil
fair_each (e ∷ es) v p o h =
    let fits : Bool = leb (length e.text) (longest_text e.code) in
    all_cons (record { value = all_head v; text = all_head p; short = and_left fits _ h; no_or = all_head o })
    (fair_each es (all_tail v) (all_tail p) (all_tail o) (and_right fits _ h))

pub fair_entries : {es : List Entry} → InRange es → T (short_texts es) → All NoOr es → All Fair es
fair_entries {es} r h o = fair_each es r.values (all_whole es r.texts) o h

pub fair_values : {es : List Entry} → All Fair es → Values64 es
fair_values h = all_map (λ e f. f.value) h

pub fair_texts : {es : List Entry} → All Fair es → T (well_texts es)
fair_texts h = whole_all (all_map (λ e f. f.text) h)

pub fair_no_or : {es : List Entry} → All Fair es → All NoOr es
fair_no_or h = all_map (λ e f. f.no_or) h

pub fair_short : {es : List Entry} → All Fair es → T (short_texts es)
unfolding texts_within
fair_short all_nil = tt
fair_short (all_cons {a = e} f h) =
    and_both (leb (length e.text) (longest_text e.code)) _ f.short (fair_short h)

abbrev pub Fits : List Entry → Type 0
Fits es = T (fits_sizes (length es) (length (text_of es)))

pub fair_range : {es : List Entry} → All Fair es → Fits es → InRange es
fair_range h k = record { values = fair_values h; sizes = k; texts = fair_texts h }

-- ------------------------------------------------------------------ a definition of a registry

pub record FairDef (d : MacroDef) : Type 0 where
  pub entries : All Fair (flat_def d)
  pub depths : T (fits_depths (deep_body node_weight d.body) (deep_body call_weight d.body))
  pub few : T (few_params d)

fits_within : (n t n' t' : ℕ) → n ≤ n' → t ≤ t' → T (fits_sizes n' t') → T (fits_sizes n t)
unfolding fits_sizes
fits_within n t n' t' h k q =
    let f = fitting n' t' q in
    and_both (leb n 1024) (leb t 3072) (le→leb n 1024 (omega (arith, f.0))) (le→leb t 3072 (omega (arith, f.1)))

abbrev depths_fit : MacroDef → Bool
depths_fit d = fits_depths (deep_body node_weight d.body) (deep_body call_weight d.body)

-- on a tape of its own
pub record Alone (d : MacroDef) : Type 0 where
  pub on_tape : OnTape definition_root (encode (flat_def d)) d
  pub no_or : All NoOr (flat_def d)

pub alone_read : (d : MacroDef) → Alone d → read definition_root (encode (flat_def d)) ≡ Reading.accepted d
unfolding definition_root
alone_read d a = on_tape_read definition_root rewrites_definition lawful_definition a.on_tape a.no_or

fair_alone : (d : MacroDef) → FairDef d → Fits (flat_def d) → Alone d
unfolding definition_root small
fair_alone d f k =
    record {
      on_tape =
          record {
            encoded = refl;
            range = fair_range f.entries k;
            small = and_both (short_texts (flat_def d)) _ (fair_short f.entries) (and_both (depths_fit d) _ f.depths f.few);
          };
      no_or = fair_no_or f.entries;
    }

-- the two parts of a list of entries fit if the whole does
fits_left : (es fs : List Entry) → Fits (es ++ fs) → Fits es
fits_left es fs k =
    fits_within (length es) (length (text_of es)) (length (es ++ fs)) (length (text_of (es ++ fs)))
    (omega (arith, length-append es fs)) (rw (text_append es fs) (omega (arith, length-append (text_of es) (text_of fs)))) k

fits_right : (es fs : List Entry) → Fits (es ++ fs) → Fits fs
fits_right es fs k =
    fits_within (length fs) (length (text_of fs)) (length (es ++ fs)) (length (text_of (es ++ fs)))
    (omega (arith, length-append es fs)) (rw (text_append es fs) (omega (arith, length-append (text_of es) (text_of fs)))) k

-- the deepest is no deeper than allowed exactly if each is
deepest : (n n' c c' : ℕ) → T (fits_depths (max n n') (max c c')) → T (fits_depths n c) × T (fits_depths n' c')
unfolding fits_depths
deepest n n' c c' h =
    let p = leb→le (max n n') 64 (and_left (leb (max n n') 64) _ h) in
    let q = leb→le (max c c') 4 (and_right (leb (max n n') 64) _ h) in (
      and_both (leb n 64) (leb c 4) (le→leb n 64 (omega arith)) (le→leb c 4 (omega arith)),
      and_both (leb n' 64) (leb c' 4) (le→leb n' 64 (omega arith)) (le→leb c' 4 (omega arith)),
    )

no_deeper : (n n' c c' : ℕ) → T (fits_depths n c) → T (fits_depths n' c') → T (fits_depths (max n n') (max c c'))
unfolding fits_depths
no_deeper n n' c c' h k =
    let p = leb→le n 64 (and_left (leb n 64) _ h) in
    let q = leb→le c 4 (and_right (leb n 64) _ h) in
    let p' = leb→le n' 64 (and_left (leb n' 64) _ k) in
    let q' = leb→le c' 4 (and_right (leb n' 64) _ k) in
    and_both (leb (max n n') 64) (leb (max c c') 4) (le→leb (max n n') 64 (omega arith)) (le→leb (max c c') 4 (omega arith))

abbrev EachFits : List MacroDef → Type 0
EachFits ds = T (fits_depths (deep_bodies node_weight ds) (deep_bodies call_weight ds))

fair_defs : (ds : List MacroDef) → All Fair (flat_defs ds) → EachFits ds → T (few_params_each ds) → All FairDef ds
unfolding flat_defs deep_bodies few_params_each
fair_defs [] h k l = all_nil
fair_defs (d ∷ ds) h k l =
    let each = deepest (deep_body node_weight d.body) (deep_bodies node_weight ds) (deep_body call_weight d.body) (deep_bodies call_weight ds) k in
    all_cons (record { entries = all_left (flat_def d) _ h; depths = each.0; few = and_left (few_params d) _ l })
    (fair_defs ds (all_right (flat_def d) h) each.1 (and_right (few_params d) _ l))

fair_definitions : (bytes : List ℕ) (ds : List MacroDef) → OnTape registry_root bytes ds → All NoOr (flat_registry ds) → All FairDef ds
unfolding registry_root flat_registry small
fair_definitions bytes ds t o =
    let texts : Bool = short_texts (flat_registry ds) in
    let depths : Bool = fits_depths (deep_bodies node_weight ds) (deep_bodies call_weight ds) in
    let rest = and_right texts _ t.small in
    fair_defs ds (all_tail (fair_entries t.range (and_left texts _ t.small) o)) (and_left depths _ rest) (and_right depths _ rest)

pub fair_read : (bytes : List ℕ) → Bytes bytes → (ds : List MacroDef) → read registry_root bytes ≡ Reading.accepted ds → All FairDef ds
unfolding registry_root
fair_read bytes q ds h =
    fair_definitions _ ds (read_on_tape registry_root rewrites_registry lawful_registry bytes q ds h)
    (read_no_or registry_root rewrites_registry bytes ds h)

alone_each : (ds : List MacroDef) → All FairDef ds → Fits (flat_defs ds) → All Alone ds
unfolding flat_defs
alone_each [] all_nil k = all_nil
alone_each (d ∷ ds) (all_cons f h) k =
    all_cons (fair_alone d f (fits_left (flat_def d) (flat_defs ds) k)) (alone_each ds h (fits_right (flat_def d) (flat_defs ds) k))

-- each definition of an accepted registry is accepted on a tape of its own
pub definitions_alone : (bytes : List ℕ) → Bytes bytes → (ds : List MacroDef) → read registry_root bytes ≡ Reading.accepted ds → All Alone ds
unfolding registry_root flat_registry
definitions_alone bytes q ds h =
    let t = read_on_tape registry_root rewrites_registry lawful_registry bytes q ds h in
    alone_each ds (fair_read bytes q ds h) (fits_right (_ ∷ []) (flat_defs ds) t.range.sizes)

-- ------------------------------------------------------------------ a registry of such definitions

-- a definition takes four entries at the least
long_body : (b : MacroBody) → 1 ≤ length (flat_body b)
unfolding flat_body
long_body MacroBody.Cedar = omega arith
long_body (MacroBody.TemporalCondition c) = omega arith
long_body (MacroBody.TemporalValue t) = omega arith

pub long_defs : (ds : List MacroDef) → 4 * length ds ≤ length (flat_defs ds)
unfolding flat_defs flat_def
long_defs [] = omega arith
long_defs (d ∷ ds) =
    omega (
      arith,
      long_defs ds,
      length-append (flat_def d) (flat_defs ds),
      length-append (flat_params d.params) (flat_body d.body),
      long_body d.body,
    )

-- so that a registry within the sizes has at most 255
pub few_fit : (ds : List MacroDef) → Fits (flat_registry ds) → length ds ≤ 255
unfolding flat_registry
few_fit ds k = omega (arith, (fitting (length (flat_registry ds)) (length (text_of (flat_registry ds))) k).0, long_defs ds)

fair_flat : {ds : List MacroDef} → All FairDef ds → All Fair (flat_defs ds)
unfolding flat_defs
fair_flat all_nil = all_nil
fair_flat (all_cons f h) = all_append f.entries (fair_flat h)

fair_depths : {ds : List MacroDef} → All FairDef ds → EachFits ds
unfolding deep_bodies fits_depths
fair_depths all_nil = tt
fair_depths (all_cons {a = d} {l = ds} f h) =
    no_deeper (deep_body node_weight d.body) (deep_bodies node_weight ds) (deep_body call_weight d.body) (deep_bodies call_weight ds) f.depths (fair_depths h)

fair_few : {ds : List MacroDef} → All FairDef ds → T (few_params_each ds)
unfolding few_params_each
fair_few all_nil = tt
fair_few (all_cons {a = d} f h) = and_both (few_params d) _ f.few (fair_few h)

pub registry_no_or : {ds : List MacroDef} → All FairDef ds → holds 2 (flat_registry ds) ≡ false
unfolding flat_registry
registry_no_or h = no_holds (all_cons refl (fair_no_or (fair_flat h)))

pub registry_read : (ds : List MacroDef) → All FairDef ds → Fits (flat_registry ds) → read registry_root (encode (flat_registry ds)) ≡ Reading.accepted ds
unfolding registry_root flat_registry small well_formed follow between longest_text is_code
registry_read ds h k =
    let count : length ds < 256 ^ 8 = omega (arith, few_fit ds k) in
    let es : All Fair (flat_registry ds) = all_cons (record { value = count; text = tt; short = tt; no_or = refl }) (fair_flat h) in
    let depths : Bool = fits_depths (deep_bodies node_weight ds) (deep_bodies call_weight ds) in
    on_tape_read registry_root rewrites_registry lawful_registry
    (record {
      encoded = refl;
      range = fair_range es k;
      small = and_both (short_texts (flat_registry ds)) _ (fair_short es) (and_both depths _ (fair_depths h) (fair_few h));
    })
    (fair_no_or es)
