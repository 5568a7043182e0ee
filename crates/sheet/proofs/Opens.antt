-- Opening and stepping meet their promises (specs/Opens.antt), and whatever meets them answers and goes on as they do. That two functions
-- which meet them do alike says nothing of the definition.
-- Assumes nothing.
use Prim.Native.Nat.{ℕ, zero, suc, ◌+◌, ◌-◌, ◌≤◌, ◌<◌}
use mathlib.Core.Path.{◌≡◌, refl, sym, ap, subst, ◌∙◌}
use mathlib.Core.Logic.{◌≢◌, ◌⊎◌, inl, inr}
use mathlib.Core.List.{List, [], ◌∷◌, ◌++◌}
use mathlib.Core.Bool.{Bool, true, false, ◌&&◌}
use native.Mathlib.Omega.{arith}
use native.Mathlib.Nat.{sub-zero}
use borrow.Author.Tests.{le-leb, leb-true, leb-false, eqb-true, eqb-false, ne_eqb}
use lib.Dec.{leb, eqb}
use lib.ListN.{length, replicate, take, drop, length-append, length-take, length-drop, take-append-drop}
use lib.Seq.{take_all, take_at, drop_at, drop-drop}
use Rattle.format.specs.Tape.{from_le}
use Rattle.format.proofs.Tests.{and_left, and_right, from_true, is_true}
use Rattle.definition.specs.Answers.{Answer, Buffers, message_alone, number_alone, long_buffers, registry_answer}
use Rattle.definition.specs.Returned.{Gives, RefusesAlone, ShortBuffers, LongBuffers}
use Rattle.definition.proofs.Returned.{gives_one, refuses_one, refuses_alone, zero_gives, are_long, are_short, short_or_long}
use Rattle.definition.proofs.RegistryPasses.{registry_passes}
use Rattle.answer.specs.Matches.{ended}
use Rattle.sheet.specs.declared.Progress.{Progress}
use Rattle.sheet.specs.Sheet.{size_of, begins_with_one, first_of, width_of, filled_by, sheet_number, sheet_open_answer, conditions_left, sheet_open_progress, limit_of, file_of, next_condition, expansion_answer, expansion_counts, sheet_next_answer, behind_next, sheet_next_progress, sheet_next_counts}
use Rattle.sheet.specs.Opens.{Begins, Conditions, Filled, Exceeds, Within, Opening, our_opening, at_the_start, Opens, Stepping, our_stepping, expanded, Steps, run}
use Rattle.sheet.specs.Promises.{answers_of, progress_after, counts_after}
use Rattle.sheet.proofs.Front.{tells_one, one_stands, first_one, first_none, width_one}
use Rattle.sheet.proofs.Opening.{check_long, check_few, check_many, check_filled, check_not_filled, number_passed, number_fault, open_registry_refused, open_passes, open_sheet_refused, all_left}
use Rattle.sheet.proofs.Stepping.{done_short, done_long, done_answer, done_progress, done_counts, next_is_expansion, next_moves, next_hands_on}

-- ------------------------------------------------------------------ a number at the front

module _ (s : List ℕ) (n : ℕ) (behind : List ℕ) (h : Begins s n behind) where
  begins_size : n ≡ size_of s
  unfolding size_of
  begins_size =
      sym (ap (λ (x : List ℕ). from_le (take 4 x)) h.spelled ∙ ap from_le (take_at h.bytes behind 4 h.four) ∙ h.number)

  begins_length : length s ≡ 4 + length behind
  begins_length = ap length h.spelled ∙ omega (arith, length-append h.bytes behind, h.four)

  begins_behind : drop 4 s ≡ behind
  begins_behind = ap (drop 4) h.spelled ∙ drop_at h.bytes behind 4 h.four

has_number : (s : List ℕ) → 4 ≤ length s → Begins s (size_of s) (drop 4 s)
unfolding size_of
has_number s h =
    record { bytes = take 4 s; four = omega (arith, length-take 4 s); number = refl; spelled = sym (take-append-drop 4 s) }

-- ------------------------------------------------------------------ a condition behind its length

module _ (s c rest : List ℕ) (h : Begins s (length c) (c ++ rest)) where
  one_begins : begins_with_one s ≡ true
  one_begins =
      sym (tells_one s (size_of s) (omega (arith, begins_length s (length c) (c ++ rest) h)) refl)
      ∙ le-leb (size_of s) (length s - 4)
      (omega (arith, begins_size s (length c) (c ++ rest) h, begins_length s (length c) (c ++ rest) h, length-append c rest))

  one_first : first_of s ≡ c
  one_first =
      sym (first_one s (length c) one_begins (begins_size s (length c) (c ++ rest) h))
      ∙ ap (take (length c)) (begins_behind s (length c) (c ++ rest) h)
      ∙ take_at c rest (length c) refl

  one_width : width_of s ≡ 4 + length c
  one_width = sym (width_one s (length c) one_begins (begins_size s (length c) (c ++ rest) h))

  one_rest : drop (width_of s) s ≡ rest
  one_rest =
      ap (λ (n : ℕ). drop n s) one_width
      ∙ sym (drop-drop (length c) 4 s)
      ∙ ap (drop (length c)) (begins_behind s (length c) (c ++ rest) h)
      ∙ drop_at c rest (length c) refl

stands_one : (s : List ℕ) → begins_with_one s ≡ true → Begins s (length (first_of s)) (first_of s ++ drop (width_of s) s)
unfolding size_of
stands_one s e =
    let n = size_of s in
    let stands : 4 + n ≤ length s = one_stands s e in
    let first : take n (drop 4 s) ≡ first_of s = first_one s n e refl in
    let long : length (first_of s) ≡ n = sym (ap length first) ∙ omega (arith, length-take n (drop 4 s), length-drop 4 s) in
    let behind : drop n (drop 4 s) ≡ drop (width_of s) s = drop-drop n 4 s ∙ ap (λ (k : ℕ). drop k s) (width_one s n e refl) in
    record {
      bytes = take 4 s;
      four = omega (arith, length-take 4 s);
      number = sym long;
      spelled =
          sym (take-append-drop 4 s)
          ∙ ap (λ (x : List ℕ). take 4 s ++ x) (sym (take-append-drop n (drop 4 s)))
          ∙ ap (λ (x : List ℕ). take 4 s ++ (x ++ drop n (drop 4 s))) first
          ∙ ap (λ (x : List ℕ). take 4 s ++ (first_of s ++ x)) behind;
    }

-- ------------------------------------------------------------------ conditions, and nothing behind them

conditions_fill : {cs : List (List ℕ)} {s : List ℕ} → Conditions cs s → filled_by (length cs) s ≡ true
unfolding filled_by
conditions_fill Conditions.none_left = refl
conditions_fill (Conditions.one {c = c} {s = s} {rest = rest} h cs) =
    rw (one_begins s c rest h, one_rest s c rest h) (conditions_fill cs)

record Filling (n : ℕ) (s : List ℕ) : Type 0 where
  conditions : List (List ℕ)
  lengths : Conditions conditions s
  as_many : length conditions ≡ n

no_bytes : (s : List ℕ) → length s ≡ 0 → s ≡ []
no_bytes [] e = refl
no_bytes (b ∷ s) e = absurd (omega arith)

filling : (n : ℕ) (s : List ℕ) → filled_by n s ≡ true → Filling n s
unfolding filled_by
filling zero s e =
    record {
      conditions = [];
      lengths = subst (Conditions []) (sym (no_bytes s (eqb-true (length s) 0 e))) Conditions.none_left;
      as_many = refl;
    }
filling (suc n) s e =
    let begins : begins_with_one s ≡ true = is_true (and_left (begins_with_one s) (filled_by n (drop (width_of s) s)) (from_true e)) in
    let f = filling n (drop (width_of s) s) (is_true (and_right (begins_with_one s) (filled_by n (drop (width_of s) s)) (from_true e))) in
    record { conditions = first_of s ∷ f.conditions; lengths = Conditions.one (stands_one s begins) f.lengths; as_many = ap suc f.as_many }

-- ------------------------------------------------------------------ a sheet

-- every sheet exceeds the figures or keeps within them
exceeds_or_not : (s : List ℕ) → Exceeds s ⊎ Within s
exceeds_or_not s = go (leb 65537 (length s)) (leb 4 (length s)) (leb 33 (size_of s)) refl refl refl
  where
    go : (long counted many : Bool) → leb 65537 (length s) ≡ long → leb 4 (length s) ≡ counted → leb 33 (size_of s) ≡ many
        → Exceeds s ⊎ Within s
    go true counted many d e f = inl (Exceeds.longer (leb-true 65537 (length s) d))
    go false true true d e f = inl (Exceeds.count_above_32 (has_number s (leb-true 4 (length s) e)) (leb-true 33 (size_of s) f))
    go false true false d e f =
        inr
        (record {
          few = λ n behind h. omega (arith, begins_size s n behind h, leb-false 33 (size_of s) f);
          short = omega (arith, leb-false 65537 (length s) d);
        })
    go false false many d e f =
        inr
        (record {
          few = λ n behind h. absurd (omega (arith, begins_length s n behind h, leb-false 4 (length s) e));
          short = omega (arith, leb-false 65537 (length s) d);
        })

record Read (s : List ℕ) : Type 0 where
  conditions : List (List ℕ)
  fills : Filled s conditions

-- and is filled by its count and lengths or not
filled_or_not : (s : List ℕ) → Read s ⊎ ((cs : List (List ℕ)) → Filled s cs → ⊥)
filled_or_not s = go (leb 4 (length s)) (filled_by (size_of s) (drop 4 s)) refl refl
  where
    go : (counted all : Bool) → leb 4 (length s) ≡ counted → filled_by (size_of s) (drop 4 s) ≡ all
        → Read s ⊎ ((cs : List (List ℕ)) → Filled s cs → ⊥)
    go true true d e =
        let f = filling (size_of s) (drop 4 s) e in
        inl
        (record {
          conditions = f.conditions;
          fills =
              record {
                behind = drop 4 s;
                count = subst (λ (n : ℕ). Begins s n (drop 4 s)) (sym f.as_many) (has_number s (leb-true 4 (length s) d));
                lengths = f.lengths;
              };
        })
    go true false d e =
        inr λ cs f.
        let k : filled_by (size_of s) (drop 4 s) ≡ true =
        ap (λ (n : ℕ). filled_by n (drop 4 s)) (sym (begins_size s (length cs) f.behind f.count))
        ∙ ap (filled_by (length cs)) (begins_behind s (length cs) f.behind f.count)
        ∙ conditions_fill f.lengths in
        from_true (sym e ∙ k)
    go false all d e = inr λ cs f. absurd (omega (arith, begins_length s (length cs) f.behind f.count, leb-false 4 (length s) d))

-- ------------------------------------------------------------------ its number

exceeds_number : (s : List ℕ) → Exceeds s → sheet_number s ≡ 57
exceeds_number s (Exceeds.longer h) = sym (number_fault s (check_long s h))
exceeds_number s (Exceeds.count_above_32 {n} {behind} b h) = go (leb 65537 (length s)) refl
  where
    go : (t : Bool) → leb 65537 (length s) ≡ t → sheet_number s ≡ 57
    go true e = sym (number_fault s (check_long s (leb-true 65537 (length s) e)))
    go false e =
        sym
        (number_fault s
        (check_many s (omega (arith, leb-false 65537 (length s) e)) (omega (arith, begins_length s n behind b))
        (omega (arith, begins_size s n behind b))))

module _ (s : List ℕ) (w : Within s) where
  whole : take (length s - 4) (drop 4 s) ≡ drop 4 s
  whole = take_all (length s - 4) (drop 4 s) (omega (arith, length-drop 4 s))

  filled_number : (cs : List (List ℕ)) → Filled s cs → sheet_number s ≡ 0
  filled_number cs f =
      let size : length cs ≡ size_of s = begins_size s (length cs) f.behind f.count in
      number_passed s
      (check_filled s w.short (omega (arith, begins_length s (length cs) f.behind f.count))
      (omega (arith, size, w.few (length cs) f.behind f.count)) refl
      (ap (filled_by (size_of s)) (whole ∙ begins_behind s (length cs) f.behind f.count)
      ∙ ap (λ (n : ℕ). filled_by n f.behind) (sym size)
      ∙ conditions_fill f.lengths))

  not_filled_number : ((cs : List (List ℕ)) → Filled s cs → ⊥) → sheet_number s ≡ 2
  not_filled_number h = go (leb 4 (length s)) (filled_by (size_of s) (drop 4 s)) refl refl
    where
      go : (counted all : Bool) → leb 4 (length s) ≡ counted → filled_by (size_of s) (drop 4 s) ≡ all → sheet_number s ≡ 2
      go false all d e = sym (number_fault s (check_few s w.short (leb-false 4 (length s) d)))
      go true true d e =
          let f = filling (size_of s) (drop 4 s) e in
          absurd
          (h f.conditions
          (record {
            behind = drop 4 s;
            count = subst (λ (n : ℕ). Begins s n (drop 4 s)) (sym f.as_many) (has_number s (leb-true 4 (length s) d));
            lengths = f.lengths;
          }))
      go true false d e =
          let counted : 4 ≤ length s = leb-true 4 (length s) d in
          sym
          (number_fault s
          (check_not_filled s w.short counted (w.few (size_of s) (drop 4 s) (has_number s counted)) refl
          (ap (filled_by (size_of s)) whole ∙ e)))

-- ------------------------------------------------------------------ opening meets its promises

module _ (m : ℕ) (registry sheet : List ℕ) where
  module _ (built : (registry_answer m registry).number ≡ 0) where
    refused_by_sheet : (why : ℕ) → why ≢ 0 → sheet_number sheet ≡ why
        → RefusesAlone (message_alone m) why (sheet_open_answer m registry sheet)
    unfolding ended
    refused_by_sheet why h e =
        subst (RefusesAlone (message_alone m) why) (open_sheet_refused m registry sheet refl built (sym e) h refl)
        (refuses_alone (λ (u : Unit {0}). []) (message_alone m) why)

    opened_answer : sheet_number sheet ≡ 0 → Gives (message_alone m) [] 0 (sheet_open_answer m registry sheet)
    opened_answer e =
        subst (Gives (message_alone m) [] 0) (open_passes m registry sheet refl built e) (registry_passes m registry built)

  module _ (budget file : ℕ) where
    starts : (sheet_open_answer m registry sheet).number ≡ 0 → (cs : List (List ℕ)) → length cs ≡ size_of sheet
        → sheet_open_progress m registry sheet budget file ≡ at_the_start (length cs) budget file
    unfolding sheet_open_progress
    starts e cs q =
        ap (λ (n : ℕ). at_the_start n budget file) (sym (all_left (sheet_open_answer m registry sheet).number sheet e q))

    none_start : (sheet_open_answer m registry sheet).number ≢ 0
        → sheet_open_progress m registry sheet budget file ≡ at_the_start 0 budget file
    unfolding sheet_open_progress conditions_left
    none_start h =
        ap (λ (n : ℕ). at_the_start n budget file) (rw (conditions_left, ne_eqb (sheet_open_answer m registry sheet).number 0 h) refl)

pub opens : Opens our_opening
opens =
    record {
      registry_refused = λ m registry sheet budget file h. sym (open_registry_refused m registry sheet refl h);
      exceeds = λ m registry sheet budget file built h.
          refused_by_sheet m registry sheet built 57 (λ e. omega arith) (exceeds_number sheet h);
      not_filled = λ m registry sheet budget file built w h.
          refused_by_sheet m registry sheet built 2 (λ e. omega arith) (not_filled_number sheet w h);
      opened = λ m registry sheet budget file cs built w f. opened_answer m registry sheet built (filled_number sheet w cs f);
      start = λ m registry sheet budget file cs built w f.
          starts m registry sheet budget file (opened_answer m registry sheet built (filled_number sheet w cs f)).number cs
          (begins_size sheet (length cs) f.behind f.count);
      no_start = λ m registry sheet budget file h. none_start m registry sheet budget file h;
    }

-- ------------------------------------------------------------------ and whatever meets them opens alike

module _ (g h : Opening) (p : Opens g) (q : Opens h) (m : ℕ) (registry sheet : List ℕ) (budget file : ℕ) where
  abbrev left : Answer × Progress
  left = g m registry sheet budget file

  abbrev right : Answer × Progress
  right = h m registry sheet budget file

  both : left.0 ≡ right.0 → left.1 ≡ right.1 → left ≡ right
  both e f = rw (e, f) refl

  -- two answers that are one refusal
  none_starts : left.0 ≡ right.0 → left.0.number ≢ 0 → left ≡ right
  none_starts e n =
      both e
      (p.no_start m registry sheet budget file n
      ∙ sym (q.no_start m registry sheet budget file (λ z. n (ap (λ (a : Answer). a.number) e ∙ z))))

  module _ (built : (registry_answer m registry).number ≡ 0) where
    alike_exceeds : Exceeds sheet → left ≡ right
    alike_exceeds x =
        let one = p.exceeds m registry sheet budget file built x in
        none_starts (refuses_one one (q.exceeds m registry sheet budget file built x)) (λ z. omega (arith, one.number))

    module _ (w : Within sheet) where
      alike_not_filled : ((cs : List (List ℕ)) → Filled sheet cs → ⊥) → left ≡ right
      alike_not_filled x =
          let one = p.not_filled m registry sheet budget file built w x in
          none_starts (refuses_one one (q.not_filled m registry sheet budget file built w x)) (λ z. omega (arith, one.number))

      alike_filled : (cs : List (List ℕ)) → Filled sheet cs → left ≡ right
      alike_filled cs f =
          both
          (gives_one (p.opened m registry sheet budget file cs built w f) (q.opened m registry sheet budget file cs built w f))
          (p.start m registry sheet budget file cs built w f ∙ sym (q.start m registry sheet budget file cs built w f))

      alike_within : Read sheet ⊎ ((cs : List (List ℕ)) → Filled sheet cs → ⊥) → left ≡ right
      alike_within (inl r) = alike_filled r.conditions r.fills
      alike_within (inr x) = alike_not_filled x

    alike_built : Exceeds sheet ⊎ Within sheet → left ≡ right
    alike_built (inl x) = alike_exceeds x
    alike_built (inr w) = alike_within w (filled_or_not sheet)

  alike_opening : (t : Bool) → eqb (registry_answer m registry).number 0 ≡ t → left ≡ right
  alike_opening true e = alike_built (eqb-true (registry_answer m registry).number 0 e) (exceeds_or_not sheet)
  alike_opening false e =
      let n = eqb-false (registry_answer m registry).number 0 e in
      let one = p.registry_refused m registry sheet budget file n in
      none_starts (one ∙ sym (q.registry_refused m registry sheet budget file n)) (λ z. n (sym (ap (λ (a : Answer). a.number) one) ∙ z))

pub determined : (g : Opening) → Opens g → (m : ℕ) (registry sheet : List ℕ) (budget file : ℕ)
    → g m registry sheet budget file ≡ (sheet_open_answer m registry sheet, sheet_open_progress m registry sheet budget file)
determined g p m registry sheet budget file =
    alike_opening g our_opening p opens m registry sheet budget file (eqb (registry_answer m registry).number 0) refl

-- ------------------------------------------------------------------ stepping meets its promises

module _ (b : Buffers) (registry sheet : List ℕ) (p : Progress) (counts : List ℕ) where
  abbrev ours : Answer × (Progress × List ℕ)
  ours = our_stepping b registry sheet p counts

  three : (a a' : Answer) (s s' : Progress) (k k' : List ℕ) → a ≡ a' → s ≡ s' → k ≡ k'
      → ◌≡◌ {A = Answer × (Progress × List ℕ)} (a, (s, k)) (a', (s', k'))
  three a a' s s' k k' e f g = rw (e, f, g) refl

  module _ (some : p.left ≡ 0 → ⊥) where
    -- the next condition, and how many bytes it takes
    expands : (c : List ℕ) (width : ℕ) → first_of (drop p.at sheet) ≡ c → width_of (drop p.at sheet) ≡ width
        → ours ≡ expanded b registry p counts c width
    unfolding expansion_answer expansion_counts next_condition limit_of file_of behind_next
    expands c width e f =
        three _ _ _ _ _ _ (next_is_expansion b registry sheet p some) (next_moves b registry sheet p some)
        (next_hands_on b registry sheet p some counts)
        ∙ rw (e, f) refl

    nothing_stands : (t : Bool) → begins_with_one (drop p.at sheet) ≡ t
        → ((c rest : List ℕ) → Begins (drop p.at sheet) (length c) (c ++ rest) → ⊥) → ours ≡ expanded b registry p counts [] 0
    unfolding width_of
    nothing_stands true e h =
        absurd (h (first_of (drop p.at sheet)) (drop (width_of (drop p.at sheet)) (drop p.at sheet)) (stands_one (drop p.at sheet) e))
    nothing_stands false e h = expands [] 0 (sym (first_none (drop p.at sheet) e)) (rw (width_of, e) refl)

  module _ (none : p.left ≡ 0) where
    done_long_gives : LongBuffers b → Gives b [] 0 (sheet_next_answer b registry sheet p)
    unfolding ended number_alone
    done_long_gives l =
        subst (Gives b [] 0) (done_answer b registry sheet p none (done_long b (are_long b l) refl))
        (zero_gives (refuses_alone (λ (u : Unit {0}). []) b 0))

    done_short_refuses : ShortBuffers b → RefusesAlone b 1 (sheet_next_answer b registry sheet p)
    unfolding ended number_alone
    done_short_refuses s =
        subst (RefusesAlone b 1) (done_answer b registry sheet p none (done_short b (are_short b s) refl))
        (refuses_alone (λ (u : Unit {0}). []) b 1)

pub steps : Steps our_stepping
steps =
    record {
      next = λ b registry sheet p counts c rest some h.
          expands b registry sheet p counts (λ z. omega arith) c (4 + length c) (one_first (drop p.at sheet) c rest h)
          (one_width (drop p.at sheet) c rest h);
      done = λ b registry sheet p counts none l. done_long_gives b registry sheet p counts none l;
      done_short = λ b registry sheet p counts none s. done_short_refuses b registry sheet p counts none s;
      done_stays = λ b registry sheet p counts none.
          let e = sym (done_progress b registry sheet p none) in
          let f = sym (done_counts b registry sheet p none counts) in
          rw (e, f) refl;
      nowhere = λ b registry sheet p counts some h.
          nothing_stands b registry sheet p counts (λ z. omega arith) (begins_with_one (drop p.at sheet)) refl h;
    }

-- ------------------------------------------------------------------ and whatever meets them steps alike

module _ (g h : Stepping) (p : Steps g) (q : Steps h) (b : Buffers) (registry sheet : List ℕ) (at : Progress) (counts : List ℕ) where
  abbrev one_step : Answer × (Progress × List ℕ)
  one_step = g b registry sheet at counts

  abbrev other_step : Answer × (Progress × List ℕ)
  other_step = h b registry sheet at counts

  alike_stands : 0 < at.left → (t : Bool) → begins_with_one (drop at.at sheet) ≡ t → one_step ≡ other_step
  alike_stands some true e =
      let s = drop at.at sheet in
      p.next b registry sheet at counts (first_of s) (drop (width_of s) s) some (stands_one s e)
      ∙ sym (q.next b registry sheet at counts (first_of s) (drop (width_of s) s) some (stands_one s e))
  alike_stands some false e =
      p.nowhere b registry sheet at counts some (λ c rest x. from_true (sym e ∙ one_begins (drop at.at sheet) c rest x))
      ∙ sym (q.nowhere b registry sheet at counts some (λ c rest x. from_true (sym e ∙ one_begins (drop at.at sheet) c rest x)))

  alike_done : at.left ≡ 0 → ShortBuffers b ⊎ LongBuffers b → one_step.0 ≡ other_step.0
  alike_done none (inl s) = refuses_one (p.done_short b registry sheet at counts none s) (q.done_short b registry sheet at counts none s)
  alike_done none (inr l) = gives_one (p.done b registry sheet at counts none l) (q.done b registry sheet at counts none l)

  alike_step : (t : Bool) → eqb at.left 0 ≡ t → one_step ≡ other_step
  alike_step true e =
      let none = eqb-true at.left 0 e in
      let answers = alike_done none (short_or_long b) in
      let states : one_step.1 ≡ other_step.1 =
      p.done_stays b registry sheet at counts none ∙ sym (q.done_stays b registry sheet at counts none) in
      rw (answers, states) refl
  alike_step false e =
      let some = eqb-false at.left 0 e in
      alike_stands (omega arith) (begins_with_one (drop at.at sheet)) refl

pub steps_determined : (g : Stepping) → Steps g → (b : Buffers) (registry sheet : List ℕ) (p : Progress) (counts : List ℕ)
    → g b registry sheet p counts
    ≡ (sheet_next_answer b registry sheet p, (sheet_next_progress b registry sheet p, sheet_next_counts b registry sheet p counts))
steps_determined g s b registry sheet p counts = alike_step g our_stepping s steps b registry sheet p counts (eqb p.left 0) refl

-- ------------------------------------------------------------------ from a sheet's start on

run_is : (g : Stepping) → Steps g → (registry sheet : List ℕ) (bs : List Buffers) (p : Progress) (counts : List ℕ)
    → run g registry sheet bs p counts
    ≡ (answers_of registry sheet bs p, (progress_after registry sheet bs p, counts_after registry sheet bs p counts))
unfolding run answers_of progress_after counts_after
run_is g s registry sheet [] p counts = refl
run_is g s registry sheet (b ∷ bs) p counts =
    let rest = run_is g s registry sheet bs (sheet_next_progress b registry sheet p) (sheet_next_counts b registry sheet p counts) in
    rw (steps_determined g s b registry sheet p counts, rest) refl

pub runs_determined : (g : Opening) (h : Stepping) → Opens g → Steps h
    → (m : ℕ) (registry sheet : List ℕ) (budget file : ℕ) (bs : List Buffers) (counts : List ℕ) →
    let start = sheet_open_progress m registry sheet budget file in
    run h registry sheet bs (g m registry sheet budget file).1 counts
    ≡ (answers_of registry sheet bs start, (progress_after registry sheet bs start, counts_after registry sheet bs start counts))
runs_determined g h p q m registry sheet budget file bs counts =
    ap (λ (x : Answer × Progress). run h registry sheet bs x.1 counts) (determined g p m registry sheet budget file)
    ∙ run_is h q registry sheet bs (sheet_open_progress m registry sheet budget file) counts
