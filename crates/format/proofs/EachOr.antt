-- Document 02, point 12, of the entries of each root (`OnEachRoot`, specs/Rewritten.antt): each Or becomes what the sentence says, and
-- nothing else can be said to become of them (`one_becoming`), since the entries alone tell where the left side of an Or ends.
-- Assumes nothing.
use Prim.Native.Nat.{ℕ}
use native.Mathlib.Omega.{arith}
use mathlib.Core.Path.{◌≡◌, refl, sym, ◌∙◌, ap, ap₂}
use mathlib.Core.List.{List, [], ◌∷◌, ◌++◌, nil≢cons, append_assoc, append-nil}
use mathlib.Core.Bool.{Bool, true, false}
use mathlib.Core.Option.{Option, none, some, none-ne-some, some-injective}
use lib.Dec.{eqb}
use Rattle.format.specs.Entry.{Entry, entry}
use Rattle.format.specs.Ast.{Condition}
use Rattle.format.specs.Flat.{flat_condition}
use Rattle.format.specs.Build.{Item, Stack, give, choose, table, restack, push, push_on, build_on, build}
use Rattle.format.specs.Tape.{Root, condition_root, named_root, definition_root, call_root, registry_root, term_root, tree_root}
use Rattle.format.specs.Rewritten.{EachOr, OnEachRoot}
use Rattle.format.proofs.Becomes.{Becomes, nothing, kept, joined, parted}
use Rattle.format.proofs.Builds.{build_append, builds_condition}
use Rattle.format.proofs.Rewritten.{Rewrites, rewrites_condition, rewrites_named, rewrites_definition, rewrites_call, rewrites_registry, rewrites_tree}
use Rattle.format.proofs.LastYear.{rewrites_term}

-- ------------------------------------------------------------------ where a condition's entries end

-- of two lists that begin alike one is the beginning of the other
data Splits (ws xs bs ys : List Entry) : Type 0 where
  longer : (zs : List Entry) → bs ≡ ws ++ zs → xs ≡ zs ++ ys → Splits ws xs bs ys
  shorter : (zs : List Entry) → ws ≡ bs ++ zs → ys ≡ zs ++ xs → Splits ws xs bs ys

splits : (ws bs : List Entry) {xs ys : List Entry} → ws ++ xs ≡ bs ++ ys → Splits ws xs bs ys
splits [] bs e = longer bs refl e
splits (a ∷ ws) [] e = shorter (a ∷ ws) refl (sym e)
splits (a ∷ ws) (b ∷ bs) {xs} {ys} e =
    let head : a ≡ b = cc in
    let tail : ws ++ xs ≡ bs ++ ys = cc in
    go head (splits ws bs tail)
  where
    go : a ≡ b → Splits ws xs bs ys → Splits (a ∷ ws) xs (b ∷ bs) ys
    go h (longer zs p q) = longer zs (ap₂ ◌∷◌ (sym h) p) q
    go h (shorter zs p q) = shorter zs (ap₂ ◌∷◌ h p) q

-- what is built of entries stands on the stack
never_empty : (es : List Entry) → build es ≡ some [] → es ≡ []
unfolding build build_on push_on push restack
never_empty [] h = refl
never_empty (e ∷ es) h = absurd (go (build es) h)
  where
    kept_none : (o : Option (Item × Stack)) → restack o ≡ some [] → ⊥
    kept_none none k = none-ne-some [] k
    kept_none (some r) k = nil≢cons (sym (some-injective (r.0 ∷ r.1) [] k))

    go : (o : Option Stack) → push_on e o ≡ some [] → ⊥
    go none k = none-ne-some [] k
    go (some st) k = kept_none (choose table (give (Item.leaf e)) e st) k

none_stays : (es : List Entry) → build_on none es ≡ none
unfolding build_on push_on
none_stays [] = refl
none_stays (e ∷ es) = rw (none_stays es) refl

-- no condition's entries are the beginning of another's
none_behind : (c d : Condition) (zs : List Entry) → flat_condition d ≡ flat_condition c ++ zs → zs ≡ []
unfolding build
none_behind c d zs e =
    go (build zs) refl (sym (build_append (some []) (flat_condition c) zs) ∙ (ap build (sym e) ∙ builds_condition d []))
  where
    go : (o : Option Stack) → build zs ≡ o → build_on o (flat_condition c) ≡ some (Item.condition d ∷ []) → zs ≡ []
    go none p q = absurd (none-ne-some (Item.condition d ∷ []) (sym (none_stays (flat_condition c)) ∙ q))
    go (some st) p q =
        let one : (Item.condition c ∷ st) ≡ (Item.condition d ∷ []) =
        some-injective (Item.condition c ∷ st) (Item.condition d ∷ []) (sym (builds_condition c st) ∙ q) in
        let empty : st ≡ [] = cc in
        never_empty zs (p ∙ ap some empty)

record Fronts (ws xs bs ys : List Entry) : Type 0 where
  front : ws ≡ bs
  behind : xs ≡ ys

fronts : (c d : Condition) {xs ys : List Entry} → flat_condition c ++ xs ≡ flat_condition d ++ ys
    → Fronts (flat_condition c) xs (flat_condition d) ys
fronts c d {xs} {ys} e = go (splits (flat_condition c) (flat_condition d) e)
  where
    go : Splits (flat_condition c) xs (flat_condition d) ys → Fronts (flat_condition c) xs (flat_condition d) ys
    go (longer zs p q) =
        let n : zs ≡ [] = none_behind c d zs p in
        record {
          front = sym (p ∙ (ap (◌++◌ (flat_condition c)) n ∙ append-nil (flat_condition c)));
          behind = q ∙ ap (λ (l : List Entry). l ++ ys) n;
        }
    go (shorter zs p q) =
        let n : zs ≡ [] = none_behind d c zs p in
        record {
          front = p ∙ (ap (◌++◌ (flat_condition d)) n ∙ append-nil (flat_condition d));
          behind = sym (q ∙ ap (λ (l : List Entry). l ++ xs) n);
        }

-- ------------------------------------------------------------------ entry by entry

-- the same, from the first entry on
data Goes : List Entry → List Entry → Type 0 where
  ends : Goes [] []
  keeps : {e : Entry} {es fs : List Entry} → eqb e.code 2 ≡ false → Goes es fs → Goes (e ∷ es) (e ∷ fs)
  parts : {s : ℕ} (l r : Condition) {l' r' es fs : List Entry} → Goes (flat_condition l) l' → Goes (flat_condition r) r' → Goes es fs
      → Goes (entry 2 s ∷ (flat_condition l ++ (flat_condition r ++ es)))
      (entry 3 s ∷ entry 1 s ∷ entry 3 s ∷ (l' ++ entry 3 s ∷ (r' ++ fs)))

goes : {es fs gs hs : List Entry} → Becomes es fs → Goes gs hs → Goes (es ++ gs) (fs ++ hs)
goes nothing x = x
goes (kept h b) x = keeps h (goes b x)
goes {gs = gs} {hs = hs} (joined {es} {fs} {es'} {fs'} b b') x = rw (append_assoc es es' gs, append_assoc fs fs' hs) (goes b (goes b' x))
goes {gs = gs} {hs = hs} (parted {s = s} l r {l' = l'} {r' = r'} b b') x =
    rw (append_assoc (flat_condition l) (flat_condition r) gs, append_assoc l' (entry 3 s ∷ r') hs)
    (parts l r
    (rw (append-nil (flat_condition l), append-nil l') at (goes b ends))
    (rw (append-nil (flat_condition r), append-nil r') at (goes b' ends))
    x)

is_or : {e : Entry} {s : ℕ} → e ≡ entry 2 s → eqb e.code 2 ≡ false → ⊥
is_or {e} {s} p h =
    let z : ◌≡◌ {A = Bool} true false = ap (λ (x : Entry). eqb x.code 2) (sym p) ∙ h in
    let y : ◌≡◌ {A = ℕ} 0 1 = cc in
    omega arith

one_way : {es fs es' gs : List Entry} → Goes es fs → Goes es' gs → es ≡ es' → fs ≡ gs
one_way ends ends q = refl
one_way ends (keeps h b) q = absurd (nil≢cons q)
one_way ends (parts l r a b c) q = absurd (nil≢cons q)
one_way (keeps h b) ends q = absurd (nil≢cons (sym q))
one_way (parts l r a b c) ends q = absurd (nil≢cons (sym q))
one_way (keeps {e = e} {es = es} h b) (keeps {e = f} {es = fs} k c) q =
    let head : e ≡ f = cc in let tail : es ≡ fs = cc in ap₂ ◌∷◌ head (one_way b c tail)
one_way (keeps {e = e} h b) (parts {s = s} l r x y z) q = let head : e ≡ entry 2 s = cc in absurd (is_or head h)
one_way (parts {s = s} l r x y z) (keeps {e = e} h b) q = let head : e ≡ entry 2 s = cc in absurd (is_or head h)
one_way
    (parts {s = s} l r {l' = l'} {r' = r'} {es = es} {fs = fs} x y z)
    (parts {s = t} c d {l' = c'} {r' = d'} {es = es'} {fs = fs'} u v w)
    q =
    let head : entry 2 s ≡ entry 2 t = cc in
    let span : s ≡ t = ap (λ (e : Entry). e.value) head in
    let tail : flat_condition l ++ (flat_condition r ++ es) ≡ flat_condition c ++ (flat_condition d ++ es') = cc in
    let one = fronts l c tail in
    let two = fronts r d one.behind in
    let p : l' ≡ c' = one_way x u one.front in
    let o : r' ≡ d' = one_way y v two.front in
    let m : fs ≡ fs' = one_way z w two.behind in
    rw (span, p, o, m) refl

pub one_becoming : {es fs gs : List Entry} → Becomes es fs → Becomes es gs → fs ≡ gs
one_becoming {fs = fs} {gs = gs} b c = sym (append-nil fs) ∙ (one_way (goes b ends) (goes c ends) refl ∙ append-nil gs)

each_or : {A : Type 0} (root : Root A) → Rewrites root → EachOr root
each_or root r = record { becomes = r.becomes; nothing_else = λ a fs b. one_becoming b (r.becomes a) }

pub on_each_root : OnEachRoot
on_each_root =
    record {
      condition = each_or condition_root rewrites_condition;
      named = λ most. each_or (named_root most) (rewrites_named most);
      definition = each_or definition_root rewrites_definition;
      call = each_or call_root rewrites_call;
      registry = each_or registry_root rewrites_registry;
      term = each_or term_root rewrites_term;
      tree = each_or tree_root rewrites_tree;
    }
