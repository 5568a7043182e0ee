-- The answers of substitution, from its outcome: an answer 0 holds a tree, and the bytes of a result tell the size of whatever tree
-- they are a tape of.
-- Assumes nothing.
use Prim.Native.Nat.{ℕ, ◌+◌, ◌-◌, ◌^◌, ◌≤◌, ◌<◌}
use native.Mathlib.Omega.{arith}
use mathlib.Core.Path.{◌≡◌, refl, sym, ◌∙◌, ap, subst}
use mathlib.Core.List.{List, [], ◌∷◌, ◌++◌, append_assoc}
use mathlib.Core.Bool.{Bool, true, false, not, ◌&&◌}
use lib.Dec.{T, eqb}
use lib.ListN.{length, take, drop, replicate}
use lib.Seq.{take_at}
use Rattle.format.specs.Entry.{Entry, le, codes_of, values_of, text_of, encode}
use Rattle.format.specs.Ast.{Tree}
use Rattle.format.specs.Flat.{flat_tree}
use Rattle.format.specs.Limits.{is_node, weigh, node_weight, call_weight, deep_tree, fits_sizes, fits_depths, fits_all, too_large_tree}
use Rattle.format.specs.Tape.{Reading, definition_root, call_root, tree_root, from_le, small, accept, read, Bytes}
use Rattle.format.proofs.Tests.{and_left, not_refused}
use Rattle.format.proofs.Accepted.{length_codes, accepted_on_tape}
use Rattle.format.proofs.Exact.{lawful_tree}
use Rattle.format.proofs.Encodes.{from_le_le, fitting}
use Rattle.definition.specs.Outcome.{Outcome}
use Rattle.definition.specs.Size.{size}
use Rattle.definition.specs.Answers.{Answer, Buffers, padded, answer, number_alone, reading, long_buffers, tree_answer, substitute_tapes, substitute_answer}
use Rattle.definition.specs.ArgumentSize.{Holds, HoldsTree}
use Rattle.definition.proofs.Good.{good_done, good_refused, weaken}
use Rattle.definition.proofs.Readings.{of_reading}
use Rattle.definition.proofs.Spent.{Yields, yields_substitute}

-- ------------------------------------------------------------------ the size of a tape

-- the codes of a tape, zeros behind it or not
coded : List ℕ → List ℕ
coded bytes = take (from_le (take 4 bytes)) (drop 8 bytes)

nodes : List ℕ → ℕ
nodes [] = 0
nodes (c ∷ cs) = weigh (is_node c) + nodes cs

size_nodes : (es : List Entry) → size es ≡ nodes (codes_of es)
unfolding size nodes codes_of
size_nodes [] = refl
size_nodes (e ∷ es) = ap (λ (n : ℕ). weigh (is_node e.code) + n) (size_nodes es)

coded_tape : (n : ℕ) (es : List Entry) → length es ≤ 1024 → coded (padded n (encode es)) ≡ codes_of es
unfolding coded padded encode le
coded_tape n es h =
    let k : length es < 256 ^ 4 = omega arith in
    let zeros : List ℕ = replicate (n - length (encode es)) 0 in
    let rest : List ℕ = values_of es ++ text_of es in
    rw (from_le_le 4 (length es) k, append_assoc (codes_of es) rest zeros) (take_at (codes_of es) (rest ++ zeros) (length es) (length_codes es))

few_entries : (t : Tree) → too_large_tree t ≡ false → length (flat_tree t) ≤ 1024
unfolding too_large_tree fits_all
few_entries t h =
    let es : List Entry = flat_tree t in
    let fits : Bool = fits_sizes (length es) (length (text_of es)) in
    let k = and_left fits _ (not_refused (fits && fits_depths (deep_tree node_weight t) (deep_tree call_weight t)) h) in
    (fitting (length es) (length (text_of es)) k).0

-- all trees that the result holds have one size
pub one_size : {b : Buffers} {a : Answer} {t u : Tree} → Holds b a t → Holds b a u → size (flat_tree t) ≡ size (flat_tree u)
one_size {b} {a} {t} {u} h k =
    size_nodes (flat_tree t)
    ∙ (ap nodes
    (sym (coded_tape b.result_length (flat_tree t) (few_entries t h.fits))
    ∙ (ap coded (sym h.its_tape ∙ k.its_tape)
    ∙ coded_tape b.result_length (flat_tree u) (few_entries u k.fits)))
    ∙ sym (size_nodes (flat_tree u)))

-- ------------------------------------------------------------------ an answer 0

-- the tree and the charge that an answer was made of
pub record Made (b : Buffers) (a : Answer) (P : Tree → ℕ → Type 0) (o : Outcome Tree) : Type 0 where
  pub tree : Tree
  pub charge : ℕ
  pub its_outcome : o ≡ Outcome.done tree charge
  pub known : P tree charge
  pub its_result : a.result ≡ padded b.result_length (encode (flat_tree tree))
  pub its_charge : a.charged ≡ charge

pub made : {P : Tree → ℕ → Type 0} {o : Outcome Tree} (b : Buffers) → Yields P o → (tree_answer b o).number ≡ 0 → Made b (tree_answer b o) P o
unfolding tree_answer answer number_alone
made {P} {o} b y h = go (long_buffers b) h
  where
    tape : Tree → List ℕ
    tape t = encode (flat_tree t)

    at : {p : Outcome Tree} → Yields P p → (answer tape b p).number ≡ 0 → Made b (answer tape b p) P p
    at (good_done {a = t} {n = n} p) e =
        record { tree = t; charge = n; its_outcome = refl; known = p; its_result = refl; its_charge = refl }
    at (good_refused r) e = absurd (subst (λ (k : ℕ). T (not (eqb k 0))) e r)

    go : (long : Bool) → (answer tape b (elim long [ true ↦ o | false ↦ number_alone 1 ])).number ≡ 0
        → Made b (answer tape b (elim long [ true ↦ o | false ↦ number_alone 1 ])) P o
    go true e = at y e
    go false e = absurd (omega arith)

-- a tape that is read
yields_reading : {A B : Type 0} {P : B → ℕ → Type 0} (o : Reading A) (k : A → Outcome B) → ((a : A) → Yields P (k a)) → Yields P (reading o k)
unfolding number_alone
yields_reading {P = P} o k f = of_reading (λ x. Yields P x) o k (good_refused tt) (good_refused tt) λ a e. f a

pub holds_tree : HoldsTree
unfolding substitute_answer substitute_tapes
holds_tree b limit file definition input h =
    let m =
    made {P = λ t n. too_large_tree t ≡ false} b
    (yields_reading (read definition_root definition) _ λ def.
    yields_reading (read call_root input) _ λ call.
    weaken (λ t n a. a.fits) (yields_substitute limit file def call))
    h in
    (m.tree, record { its_tape = m.its_result; fits = m.known })

within : (x y : Bool) → T x → T y → not (x && y) ≡ false
within true true p q = refl
within true false p q = absurd q
within false y p q = absurd p

-- a tree that acceptance reads from the result is such a tree
pub read_holds : (b : Buffers) (a : Answer) (t : Tree) (tape : List ℕ) → Bytes tape → a.result ≡ padded b.result_length tape
    → accept tree_root tape ≡ Reading.accepted t → Holds b a t
unfolding tree_root small too_large_tree fits_all
read_holds b a t tape q h r =
    let on = accepted_on_tape tree_root lawful_tree.spells tape q t r in
    record {
      its_tape = h ∙ ap (padded b.result_length) (sym on.encoded);
      fits =
          within (fits_sizes (length (flat_tree t)) (length (text_of (flat_tree t)))) (fits_depths (deep_tree node_weight t) (deep_tree call_weight t)) on.range.sizes
          (and_left (fits_depths (deep_tree node_weight t) (deep_tree call_weight t)) true on.small);
    }
