-- A preview is the expansion without its result (specs/Preview.antt).
-- Assumes nothing.
use Prim.Native.Nat.{ℕ, zero, suc, ◌-◌, ◌^◌, ◌<◌}
use native.Mathlib.Omega.{arith}
use mathlib.Core.Path.{◌≡◌, refl, sym, ◌∙◌}
use mathlib.Core.List.{List}
use mathlib.Core.Bool.{Bool, true, false, ◌&&◌}
use borrow.Author.Tests.{le-leb}
use lib.Dec.{leb}
use lib.ListN.{length, take, drop, replicate}
use lib.Seq.{take-append_seam}
use Rattle.format.specs.Entry.{Entry, le, text_of, encode}
use Rattle.format.specs.Ast.{Tree}
use Rattle.format.specs.Flat.{flat_tree}
use Rattle.format.specs.Limits.{node_weight, call_weight, deep_tree, fits_sizes, fits_depths, fits_all, too_large_tree}
use Rattle.format.specs.Tape.{from_le, condition_root, registry_root, read}
use Rattle.format.proofs.Tests.{and_left, not_refused}
use Rattle.format.proofs.Encodes.{from_le_le, fitting}
use Rattle.definition.specs.Outcome.{Outcome}
use Rattle.definition.specs.Answers.{Buffers, padded, answer, number_alone, long_buffers, tree_answer, expand_tapes, expand_answer}
use Rattle.definition.specs.Preview.{entries_in, text_in, without_result, preview, preview_answer, sizes_only, PreviewsExpansion, Previewed, PreviewsAnyExpansion}
use Rattle.definition.proofs.Good.{good_done, good_refused}
use Rattle.definition.proofs.Readings.{of_reading}
use Rattle.definition.proofs.Rules.{tabled}
use Rattle.definition.proofs.Borne.{Small, expand_small}

small_tapes : (limit file : ℕ) (registry input : List ℕ) → Small (expand_tapes limit file registry input)
unfolding expand_tapes number_alone
small_tapes limit file registry input =
    of_reading (λ (o : Outcome Tree). Small o) (read registry_root registry) _ (good_refused (tabled tt)) (good_refused (tabled tt)) λ defs h.
    of_reading (λ (o : Outcome Tree). Small o) (read condition_root input) _ (good_refused (tabled tt)) (good_refused (tabled tt)) λ c k.
    expand_small limit file defs c

-- ------------------------------------------------------------------ the sizes that a result begins with

no_number : (k j n : ℕ) → from_le (take k (drop j (replicate {A = ℕ} n 0))) ≡ 0
unfolding from_le
no_number zero j n = refl
no_number (suc k) zero zero = refl
no_number (suc k) zero (suc n) = rw (no_number k zero n) refl
no_number (suc k) (suc j) zero = refl
no_number (suc k) (suc j) (suc n) = no_number (suc k) j n

in_four_bytes : (t : Tree) → too_large_tree t ≡ false → (length (flat_tree t) < 256 ^ 4) × (length (text_of (flat_tree t)) < 256 ^ 4)
unfolding too_large_tree fits_all
in_four_bytes t h =
    let es : List Entry = flat_tree t in
    let fits : Bool = fits_sizes (length es) (length (text_of es)) in
    let f = fitting (length es) (length (text_of es)) (and_left fits _ (not_refused (fits && fits_depths (deep_tree node_weight t) (deep_tree call_weight t)) h)) in
    (omega (arith, f.0), omega (arith, f.1))

same : (r w m : ℕ) (o : Outcome Tree) → Small o
    → preview (without_result w m) o ≡ sizes_only (answer (λ (t : Tree). encode (flat_tree t)) (record { result_length = r; work_length = w; message_length = m }) o)
unfolding preview entries_in text_in sizes_only answer padded encode le
same r w m (Outcome.done t n) (good_done h) =
    let f = in_four_bytes t h in
    rw (from_le_le 4 (length (flat_tree t)) f.0, from_le_le 4 (length (text_of (flat_tree t))) f.1) refl
same r w m (Outcome.refused x n) g = rw (no_number 4 0 (r - 0), no_number 4 4 (r - 0)) refl

pub previews : PreviewsExpansion
unfolding preview_answer expand_answer tree_answer long_buffers number_alone
previews r w m limit file registry input large = rw (le-leb 12296 r large) (go (leb 65536 w && leb 2048 m))
  where
    go : (long : Bool)
        → preview (without_result w m) (elim long [ true ↦ expand_tapes limit file registry input | false ↦ number_alone 1 ])
        ≡ sizes_only (answer (λ (t : Tree). encode (flat_tree t)) (record { result_length = r; work_length = w; message_length = m })
        (elim long [ true ↦ expand_tapes limit file registry input | false ↦ number_alone 1 ]))
    go true = same r w m (expand_tapes limit file registry input) (small_tapes limit file registry input)
    go false = same r w m (number_alone 1) (good_refused (tabled tt))

-- ------------------------------------------------------------------ any buffers

any_buffers : (b : Buffers) (w m : ℕ) (o : Outcome Tree) → Small o
    → Previewed (preview (without_result w m) o) (answer (λ (t : Tree). encode (flat_tree t)) b o)
unfolding preview entries_in text_in answer padded encode le
any_buffers b w m (Outcome.done t n) (good_done h) =
    let f = in_four_bytes t h in
    record {
      same_number = refl;
      same_start = refl;
      same_end = refl;
      same_length = refl;
      same_message = refl;
      same_charged = refl;
      same_entries = sym (from_le_le 4 (length (flat_tree t)) f.0);
      same_text = sym (from_le_le 4 (length (text_of (flat_tree t))) f.1);
      refused = λ z. absurd (z refl);
    }
any_buffers b w m (Outcome.refused x n) g =
    let size : ℕ = length x.message in
    record {
      same_number = refl;
      same_start = refl;
      same_end = refl;
      same_length = refl;
      same_message =
          take-append_seam x.message (replicate (m - size) 0)
          ∙ sym (take-append_seam x.message (replicate (b.message_length - size) 0));
      same_charged = refl;
      same_entries = sym (no_number 4 0 (b.result_length - 0));
      same_text = sym (no_number 4 4 (b.result_length - 0));
      refused = λ z. (refl, refl);
    }

pub previews_any : PreviewsAnyExpansion
unfolding preview_answer expand_answer tree_answer
previews_any b w m limit file registry input long work message =
    rw (long, le-leb 65536 w work, le-leb 2048 m message)
    (any_buffers b w m (expand_tapes limit file registry input) (small_tapes limit file registry input))
