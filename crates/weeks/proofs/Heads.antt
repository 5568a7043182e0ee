-- The older tape of the entries at a layout: a turn of each loop, and what the writes make.
-- Assumes nothing.
use Rattle.std.proofs.Common.{◌≡◌, ℕ, zero, suc, ◌+◌, ◌-◌, ◌*◌, ◌<◌, ◌≤◌, Bool, true, false, not, ◌&&◌, ◌||◌, eqb, List, [], ◌∷◌, ◌++◌, length, sym, refl, ap, ◌∙◌, arith, length-append, map}
use Rattle.std.specs.List.{list_all, range_with_len}
use lib.Seq.{sets, drop-cons}
use Rattle.format.specs.Entry.{Entry, entry, le, codes_of, values_of}
use Rattle.format.specs.Older.{sevenfold, as_days, older_entry, older_entries, fits_older}
use Rattle.format.specs.Signed.{is_signed64}
use Rattle.format.specs.Stands.{part}
use Rattle.format.proofs.Accepted.{length_codes}
use Rattle.format.proofs.Encodes.{length_le, length_values}
use Rattle.format.proofs.Older.{older_length}
use Rattle.buffer.specs.Buffer.{zeroed}
use Rattle.buffer.proofs.Sets.{sets_append, sets_behind}
use Rattle.tape.specs.Layouts.{Held, code_at, value_at}
use Rattle.tape.specs.declared.layout.Layout.{Layout}
use Rattle.weeks.specs.Heads.{heads_at, heads_in, older_heads, older_tape_in, filled}

-- ------------------------------------------------------------------ one entry

older_code : (c v : ℕ) → (older_entry (entry c v)).code ≡ (older_entry (entry c 0)).code
unfolding older_entry as_days
older_code c v = go (eqb c 64)
  where
    go : (b : Bool) → (as_days b (entry c v)).code ≡ (as_days b (entry c 0)).code
    go true = refl
    go false = refl

-- ------------------------------------------------------------------ the entries from one on

module _ (s : List ℕ) (l : Layout) (i n : ℕ) where
  abbrev pub head : Entry
  head = entry (code_at s l i) (value_at s l i)

  abbrev pub rest : List Entry
  rest = heads_at s l (i + 1) (n - (i + 1))

  heads_step : i < n → heads_at s l i (n - i) ≡ head ∷ rest
  unfolding heads_at
  heads_step h = let e : n - i ≡ suc (n - (i + 1)) = omega arith in rw e refl

  heads_none : n ≤ i → heads_at s l i (n - i) ≡ []
  unfolding heads_at
  heads_none h = let e : n - i ≡ 0 = omega arith in rw e refl

  -- the test of one entry
  abbrev pub fine : Bool
  fine = not (eqb (code_at s l i) 64) || is_signed64 (sevenfold (value_at s l i))

  pub fits_turn : i < n → fits_older (heads_at s l i (n - i)) ≡ (fine && fits_older rest)
  unfolding fits_older
  fits_turn h = rw (heads_step h) refl

  -- one value more
  pub values_turn : (m : List ℕ) → i < n
      → sets (sets m (8 + n + 8 * i) (le 8 (older_entry head).value)) (8 + n + 8 * (i + 1)) (values_of (older_entries rest))
      ≡ sets m (8 + n + 8 * i) (values_of (older_entries (heads_at s l i (n - i))))
  unfolding values_of older_entries
  values_turn m h =
      let v = (older_entry head).value in
      let k : 8 + n + 8 * (i + 1) ≡ 8 + n + 8 * i + length (le 8 v) = omega (arith, length_le 8 v) in
      rw (heads_step h, k) (sym (sets_append m (8 + n + 8 * i) (le 8 v) (values_of (older_entries rest))))

  pub values_end : (m : List ℕ) (k : ℕ) → n ≤ i → sets m k (values_of (older_entries (heads_at s l i (n - i)))) ≡ m
  unfolding values_of older_entries
  values_end m k h = rw (heads_none h) refl

-- ------------------------------------------------------------------ all of them

length_heads : (s : List ℕ) (l : Layout) (i n : ℕ) → length (heads_at s l i n) ≡ n
unfolding heads_at
length_heads s l i zero = refl
length_heads s l i (suc n) = ap suc (length_heads s l (i + 1) n)

-- the test of one entry, over the indices of n entries
pub all_fine : (s : List ℕ) (l : Layout) (i n : ℕ) → list_all (λ (j : ℕ). fine s l j 0) (range_with_len i n) ≡ fits_older (heads_at s l i n)
unfolding heads_at fits_older
all_fine s l i zero = refl
all_fine s l i (suc n) = ap (λ (b : Bool). fine s l i 0 && b) (all_fine s l (i + 1) n)

-- the code that the older tape has for one
abbrev pub becomes : ℕ → ℕ
becomes c = (older_entry (entry c 0)).code

-- the codes that it has for those of the slice
codes_from : (s : List ℕ) (l : Layout) (i n : ℕ) → l.codes + i + n ≤ length s
    → map becomes (part s (l.codes + i) n) ≡ codes_of (older_entries (heads_at s l i n))
unfolding heads_at codes_of older_entries
codes_from s l i zero h = refl
codes_from s l i (suc n) h =
    let k : suc (l.codes + i) ≡ l.codes + (i + 1) = omega arith in
    let rest = codes_from s l (i + 1) n (omega arith) in
    rw (drop-cons s (l.codes + i) 0 (omega arith), k, rest, older_code (code_at s l i) (value_at s l i)) refl

pub codes_become : {s : List ℕ} {l : Layout} → Held s l → map becomes (part s l.codes l.entries) ≡ codes_of (older_entries (heads_in s l))
codes_become {s} {l} h =
    let k : l.codes ≡ l.codes + 0 = omega arith in
    ap (λ (j : ℕ). map becomes (part s j l.entries)) k ∙ codes_from s l 0 l.entries (omega (arith, h.codes_held))

module _ (s : List ℕ) (l : Layout) where
  abbrev pub codes : List ℕ
  codes = codes_of (older_entries (heads_in s l))

  abbrev pub values : List ℕ
  values = values_of (older_entries (heads_in s l))

  length_older_codes : length codes ≡ l.entries
  length_older_codes = length_codes (older_entries (heads_in s l)) ∙ older_length (heads_in s l) ∙ length_heads s l 0 l.entries

  length_older_values : length values ≡ 8 * l.entries
  length_older_values =
      length_values (older_entries (heads_in s l)) ∙ ap (λ (n : ℕ). 8 * n) (older_length (heads_in s l) ∙ length_heads s l 0 l.entries)

  length_sizes : length (le 4 l.entries ++ le 4 l.size) ≡ 8
  length_sizes = omega (arith, length-append (le 4 l.entries) (le 4 l.size), length_le 4 l.entries, length_le 4 l.size)

  pub length_older_heads : length (older_heads s l) ≡ 8 + 9 * l.entries
  unfolding older_heads
  length_older_heads =
      let sizes : List ℕ = le 4 l.entries ++ le 4 l.size in
      omega (
        arith,
        length-append (sizes ++ codes) values,
        length-append sizes codes,
        length_sizes,
        length_older_codes,
        length_older_values,
      )

  pub heads_written : (m : List ℕ)
      → sets (sets (sets (sets m 0 (le 4 l.entries)) 4 (le 4 l.size)) 8 codes) (8 + l.entries) values ≡ sets m 0 (older_heads s l)
  unfolding older_heads
  heads_written m =
      let ns : List ℕ = le 4 l.entries in
      let ts : List ℕ = le 4 l.size in
      let k : 8 + l.entries ≡ length ((ns ++ ts) ++ codes) =
      omega (arith, length-append (ns ++ ts) codes, length_sizes, length_older_codes) in
      rw (
        sets_behind m ns ts 4 (sym (length_le 4 l.entries)),
        sets_behind m (ns ++ ts) codes 8 (sym length_sizes),
        sets_behind m ((ns ++ ts) ++ codes) values (8 + l.entries) k,
      )
      refl

  pub tape_written : (m : List ℕ)
      → zeroed (sets (sets m 0 (older_heads s l)) (8 + 9 * l.entries) (part s l.text l.size)) (8 + 9 * l.entries + length (part s l.text l.size))
      ≡ filled m (older_tape_in s l)
  unfolding older_tape_in filled
  tape_written m =
      let text : List ℕ = part s l.text l.size in
      let k : 8 + 9 * l.entries + length text ≡ length (older_heads s l ++ text) =
      omega (arith, length-append (older_heads s l) text, length_older_heads) in
      rw (sets_behind m (older_heads s l) text (8 + 9 * l.entries) (sym length_older_heads), k) refl
