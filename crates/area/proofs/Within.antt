-- What every write into an area leaves alone: the base, the slice outside the area, and a writer that has overflowed already.
-- Assumes nothing.
use Rattle.std.proofs.Common.{ℕ, ◌+◌, List, [], ◌∷◌, length, refl, ◌∙◌, arith}
use lib.Seq.{sets}
use Rattle.format.specs.Entry.{Text, le}
use Rattle.buffer.proofs.Decides.{cases}
use Rattle.buffer.proofs.Kept.{kept_refl, kept_trans, kept_sets}
use Rattle.area.specs.Area.{
  Area,
  code_end,
  value_end,
  text_end,
  overflow_in,
  grow_in,
  append_in,
  put_in,
  put_text_in,
  is_whole,
  codes_in,
  values_in,
  text_in,
  append_out_in,
  Within,
}
use Rattle.area.proofs.Room.{RunRoom, run_fits, run_decides, append_room, append_full}

pub within_refl : {P : Area} → Within P P
within_refl = record { base = refl; kept = kept_refl }

pub within_trans : {P Q R : Area} → Within P Q → Within Q R → Within P R
within_trans p q = record { base = q.base ∙ p.base; kept = kept_trans p.kept (rw p.base at q.kept) }

-- ------------------------------------------------------------------ the writes

within_overflow : (P : Area) → Within P (overflow_in P)
unfolding overflow_in
within_overflow P = record { base = refl; kept = kept_refl }

pub within_grown : (codes values text : List ℕ) (P : Area) → RunRoom codes values text P → Within P (grow_in codes values text P)
unfolding grow_in
within_grown codes values text P room =
    let b = P.out.base in
    let s₁ : List ℕ = sets P.bytes (text_end P.out) text in
    let s₂ : List ℕ = sets s₁ (code_end P.out) codes in
    record {
      base = refl;
      kept =
          kept_trans (kept_sets b (b + 12288) P.bytes (text_end P.out) text (omega arith) (omega arith))
          (kept_trans (kept_sets b (b + 12288) s₁ (code_end P.out) codes (omega arith) (omega arith))
          (kept_sets b (b + 12288) s₂ (value_end P.out) values (omega arith) (omega arith)));
    }

pub within_append : (codes values text : List ℕ) (P : Area) → Within P (append_in codes values text P)
within_append codes values text P =
    let d = run_decides codes values text P in
    cases (run_fits codes values text P)
    (λ e. rw (append_room codes values text P (d.holds e)) (within_grown codes values text P (d.holds e)))
    (λ e. rw (append_full codes values text P (d.fails e)) (within_overflow P))

pub within_put : (code value : ℕ) (P : Area) → Within P (put_in code value P)
unfolding put_in
within_put code value P = within_append (code ∷ []) (le 8 value) [] P

pub within_put_text : (code : ℕ) (text : Text) (P : Area) → Within P (put_text_in code text P)
unfolding put_text_in
within_put_text code text P = within_append (code ∷ []) (le 8 (length text)) text P

pub within_append_out : (Q P : Area) → Within P (append_out_in Q P)
unfolding append_out_in
within_append_out Q P =
    cases (is_whole Q)
    (λ e. rw (e, append_out_in) (within_append (codes_in Q) (values_in Q) (text_in Q) P))
    (λ e. rw (e, append_out_in) (within_overflow P))
