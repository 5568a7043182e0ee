-- One law for each way a function of the crate returns, from what the code learnt to the definition that the contract cites.
-- Assumes nothing.
use Rattle.std.proofs.Common.{Result, Ok, Err}
use Prim.Native.Nat.{ℕ, zero, suc, ◌+◌, ◌≤◌, ◌<◌}
use native.Mathlib.Omega.{arith}
use native.Mathlib.Numerals.{add-one}
use mathlib.Core.Path.{◌≡◌, refl, ap, ◌∙◌}
use mathlib.Core.List.{List, [], ◌∷◌, ◌++◌}
use lib.ListN.{length, drop, get_or, drop_of_length-le}
use Rattle.format.specs.Entry.{le}
use Rattle.buffer.specs.Buffer.{Message, message_in, write_in, zeroed}
use Rattle.buffer.proofs.Messages.{write_append}
use Rattle.tape.specs.declared.layout.Layout.{Layout}
use Rattle.messages.specs.Reason.{number_of}
use Rattle.messages.specs.declared.Refused as code
use Rattle.registry.specs.Places.{index_at, build_at}
use Rattle.registry.specs.declared.rows.Row.{Row}
use Rattle.registry.proofs.Steps.{empty_row, behind}
use Rattle.check_body.specs.Definition.{def_in, verdict_of}
use Rattle.check_library.specs.Rows.{verdict_at, checked_in, row_of, put_in, listing, put_from, listed_in}

-- ------------------------------------------------------------------ the check of a row

module _ (s : List ℕ) (l : Layout) where
  pub row_past : (rs : List Row) (i : ℕ) → length rs ≤ i → (Ok tt) ≡ verdict_at s l rs i
  unfolding verdict_at
  row_past [] i h = refl
  row_past (r ∷ rs) zero h = absurd (omega arith)
  row_past (r ∷ rs) (suc i) h = row_past rs i (omega arith)

  row_found : (rs : List Row) (i : ℕ) → i < length rs → verdict_of (def_in s l (get_or rs i empty_row).place) ≡ verdict_at s l rs i
  unfolding verdict_at
  row_found [] i h = absurd (omega arith)
  row_found (r ∷ rs) zero h = refl
  row_found (r ∷ rs) (suc i) h = row_found rs i (omega arith)

  pub row_checked : (rs : List Row) (i : ℕ) {v : Result Unit code.Refused} → i < length rs → v ≡ verdict_of (def_in s l (get_or rs i empty_row).place)
      → v ≡ verdict_at s l rs i
  row_checked rs i h e = e ∙ row_found rs i h

-- ------------------------------------------------------------------ the list

-- four numbers are one row
pub row_put : (m : Message) (i : ℕ) (f : code.Refused) {m₁ m₂ m₃ m₄ : Message} {number : ℕ} → number ≡ number_of f.reason → m₁ ≡ write_in (le 4 i) m
    → m₂ ≡ write_in (le 4 number) m₁ → m₃ ≡ write_in (le 4 f.span.start) m₂ → m₄ ≡ write_in (le 4 f.span.end) m₃
    → m₄ ≡ write_in (row_of i f) m
unfolding row_of
row_put m i f {number = number} n a b c d =
    let start : List ℕ = le 4 f.span.start in
    let end : List ℕ = le 4 f.span.end in
    let both : write_in end (write_in start (write_in (le 4 number) (write_in (le 4 i) m))) ≡ write_in (le 4 i ++ (le 4 number ++ (start ++ end))) m =
    write_append start end _ ∙ write_append (le 4 number) (start ++ end) _ ∙ write_append (le 4 i) (le 4 number ++ (start ++ end)) m in
    d ∙ ap (write_in end) (c ∙ ap (write_in start) (b ∙ ap (write_in (le 4 number)) a)) ∙ both
    ∙ ap (λ (k : ℕ). write_in (le 4 i ++ (le 4 k ++ (start ++ end))) m) n

module _ (s : List ℕ) (l : Layout) (rs : List Row) (i : ℕ) (first m : Message)
    (inv : put_from s l i (drop i rs) m ≡ put_from s l 0 rs first) where
  -- the row at i, and those behind it
  pub put_turn : {m' : Message} {v : Result Unit code.Refused} → i < length rs → v ≡ verdict_of (def_in s l (get_or rs i empty_row).place) → m' ≡ put_in i v m
      → put_from s l (i + 1) (drop (i + 1) rs) m' ≡ put_from s l 0 rs first
  unfolding put_from
  put_turn h e p = rw (p, e, add-one i) (rw (behind rs i h, add-one i) at inv)

  pub put_end : length rs ≤ i → m ≡ put_from s l 0 rs first
  unfolding put_from
  put_end h = rw (drop_of_length-le rs {i = i} h) at inv

-- ------------------------------------------------------------------ 10 and 11 first

module _ (s : List ℕ) (l : Layout) (room : ℕ) {rs : List Row} (x : rs ≡ index_at s l room) where
  module _ (i : ℕ) where
    pub named_checked : {w : Result Unit code.Refused} → Ok tt ≡ build_at s l rs → w ≡ verdict_at s l rs i → w ≡ checked_in s l room i
    unfolding checked_in
    named_checked e h = rw (← x, ← e) h

    pub named_refused : {f : code.Refused} → Err f ≡ build_at s l rs → Err f ≡ checked_in s l room i
    unfolding checked_in
    named_refused e = rw (← x, ← e)

  module _ (list : List ℕ) where
    pub listed : {start : Message} {end : ℕ} {bytes final : List ℕ} → Ok tt ≡ build_at s l rs → start ≡ message_in list 0
        → message_in bytes end ≡ put_from s l 0 rs start → final ≡ zeroed bytes end → listing (Ok tt) final ≡ listed_in s l room list
    unfolding listed_in
    listed e b h z = rw (← x, ← e, ← b, ← h, z)

    pub not_listed : {f : code.Refused} → Err f ≡ build_at s l rs → listing (Err f) list ≡ listed_in s l room list
    unfolding listed_in
    not_listed e = rw (← x, ← e)
