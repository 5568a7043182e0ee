-- Expansion and substitution in files above 0 are told by file 0 (specs/Files.antt): both meet what is said there, and no other
-- function does.
-- Assumes nothing.
use Prim.Native.Nat.{ℕ, zero, suc, ◌+◌, ◌≤◌, ◌<◌}
use native.Mathlib.Omega.{arith}
use mathlib.Core.Path.{◌≡◌, refl, sym, ◌∙◌, ap, ap₂, subst}
use mathlib.Core.Logic.{◌⊎◌, inl, inr}
use mathlib.Core.List.Memᴰ
use mathlib.Core.List.{List, [], ◌∷◌, ◌++◌, append_assoc}
use mathlib.Core.Bool.{true, false}
use Rattle.std.proofs.lemmas.List.{append_cancel_right, length-replicate}
use lib.Dec.{T, leb}
use lib.ListN.{length, length-append, replicate}
use Rattle.format.specs.Entry.{Text, Entry, text_entry, text_of, encode}
use Rattle.format.specs.Ast.{Condition, Call, Tree, MacroDef}
use Rattle.format.specs.Flat.{flat_condition, flat_args, flat_call, flat_tree, flat_def, flat_registry}
use Rattle.format.specs.Macro.{is_code}
use Rattle.format.specs.Names.{◌∈◌, is_name, names_in}
use Rattle.format.specs.Tape.{Reading, Root, condition_root, call_root, definition_root, registry_root, read}
use Rattle.format.proofs.All.{All, all_cons, all_map}
use Rattle.definition.specs.Text.{utf8, utf8_char, decimal}
use Rattle.definition.specs.Outcome.{Refusal, Outcome, span_start}
use Rattle.definition.specs.Substitute.{start_name, in_file, generated, substitute}
use Rattle.definition.specs.Expand.{expand}
use Rattle.definition.specs.Agree.{protected_names, Generated}
use Rattle.definition.specs.Answers.{Answer, Buffers, answer, number_alone, reading, tree_answer, expand_tapes, expand_answer, substitute_tapes, substitute_answer}
use Rattle.definition.specs.Lengthened.{OneByOne, given_names, GeneratedHere}
use Rattle.definition.specs.Returned.{Gives, Refuses, RefusesAlone, Unread, ShortBuffers, LongBuffers}
use Rattle.definition.specs.Files.{name_of, name_in_file, NameCode, AsLong, Mark, Marked, Written, SameFigures, MarkedFirst, InFiles, Expands, Substitutes}
use Rattle.definition.proofs.Names.{names_apart}
use Rattle.definition.proofs.Generated.{all_in, name_in, names_generated, substitute_names}
use Rattle.definition.proofs.Returned.{gives_one, refuses_one, gives, refuses, refuses_alone, are_long, are_short, short_or_long}
use Rattle.definition.proofs.Twins.{TwinTree, Loose, equal, longer, Rows, rows_tree}
use Rattle.definition.proofs.MarkedBinders.{mark_def, mark_defs, marks_def, marks_registry, marked_def, marked_registry}
use Rattle.definition.proofs.MarkedSubstitute.{Both, both, both_refused, MadeName, made, twin_substitute}
use Rattle.definition.proofs.MarkedExpand.{twin_expand}

-- ------------------------------------------------------------------ names

name_in_0 : (binder : Text) (start : ℕ) → generated binder start 0 ≡ name_of binder start
unfolding generated in_file start_name
name_in_0 binder start = refl

name_above : (binder : Text) (start file : ℕ) → 0 < file → generated binder start file ≡ name_in_file binder start file
unfolding generated in_file start_name
name_above binder start zero k = absurd (omega arith)
name_above binder start (suc f) k = simp append_assoc

-- ------------------------------------------------------------------ sizes

as_long_names : (file : ℕ) (mark binder : Text) (start : ℕ) → AsLong file mark
    → length (name_of (binder ++ mark) start) ≡ length (name_in_file binder start file)
as_long_names file mark binder start e =
    omega (
      arith,
      e,
      length-append (binder ++ mark) (utf8 "$" ++ decimal start),
      length-append binder mark,
      length-append (utf8 "$") (decimal start),
      length-append binder (utf8 "$" ++ (decimal start ++ (utf8 "#" ++ decimal file))),
      length-append (utf8 "$") (decimal start ++ (utf8 "#" ++ decimal file)),
      length-append (decimal start) (utf8 "#" ++ decimal file),
    )

pub same_figures : SameFigures
unfolding text_of
same_figures file mark es es' e OneByOne.none_left = record { same_entries = refl; same_text = refl }
same_figures file mark es es' e (OneByOne.and_then {es = fs} {es' = fs'} (Written.lengthened {code = code} c binder start) p) =
    let q = same_figures file mark fs fs' e p in
    record {
      same_entries = omega (arith, q.same_entries);
      same_text =
          omega (
            arith,
            q.same_text,
            as_long_names file mark binder start e,
            length-append (name_of (binder ++ mark) start) (text_of fs),
            length-append (name_in_file binder start file) (text_of fs'),
          );
    }
same_figures file mark es es' e (OneByOne.and_then {es = fs} {es' = fs'} (Written.as_it_is {e = f} h) p) =
    let q = same_figures file mark fs fs' e p in
    record {
      same_entries = omega (arith, q.same_entries);
      same_text = omega (arith, q.same_text, length-append f.text (text_of fs), length-append f.text (text_of fs'));
    }

-- ------------------------------------------------------------------ what is written is one list

module _ (file : ℕ) (mark : Text) where
  data View (e f : Entry) : Type 0 where
    is_long : (code : ℕ) (binder : Text) (start : ℕ) → NameCode code → e ≡ text_entry code (name_of (binder ++ mark) start)
        → f ≡ text_entry code (name_in_file binder start file) → View e f
    is_same : ((code : ℕ) (binder : Text) (start : ℕ) → NameCode code → e ≡ text_entry code (name_of (binder ++ mark) start) → ⊥) → f ≡ e
        → View e f

  view : {e f : Entry} → Written file mark e f → View e f
  view (Written.lengthened {code = code} c binder start) = is_long code binder start c refl refl
  view (Written.as_it_is h) = is_same h refl

  one_name : (binder binder' : Text) (start start' : ℕ) → name_of (binder ++ mark) start ≡ name_of (binder' ++ mark) start'
      → name_in_file binder start file ≡ name_in_file binder' start' file
  unfolding generated in_file start_name
  one_name binder binder' start start' e =
      let same = names_apart (binder ++ mark) (binder' ++ mark) start start' 0 0 e in
      rw (append_cancel_right binder binder' mark same.same_binder, same.same_start) refl

  one_view : {e f g : Entry} → View e f → View e g → f ≡ g
  one_view (is_same h p) (is_same k q) = p ∙ sym q
  one_view (is_same h p) (is_long code binder start c q i) = absurd (h code binder start c q)
  one_view (is_long code binder start c q i) (is_same h p) = absurd (h code binder start c q)
  one_view (is_long code binder start c q i) (is_long code' binder' start' c' q' i') =
      let same_code : code ≡ code' = ap (λ (x : Entry). x.code) (sym q ∙ q') in
      let same_name = one_name binder binder' start start' (ap (λ (x : Entry). x.text) (sym q ∙ q')) in
      i ∙ (ap₂ text_entry same_code same_name ∙ sym i')

  one_written : {es fs gs : List Entry} → OneByOne (Written file mark) es fs → OneByOne (Written file mark) es gs → fs ≡ gs
  one_written OneByOne.none_left OneByOne.none_left = refl
  one_written (OneByOne.and_then r p) (OneByOne.and_then s q) = ap₂ ◌∷◌ (one_view (view r) (view s)) (one_written p q)

-- ------------------------------------------------------------------ the trees of the two walks

-- a name of the inputs, or a generated one
data Known (names : List Text) (file : ℕ) (name : Text) : Type 0 where
  given : name ∈ names → Known names file name
  made_here : (binder : Text) (start : ℕ) → name ≡ generated binder start file → Known names file name

is_a_name : (code : ℕ) → NameCode code → T (is_name code)
unfolding is_name is_code
is_a_name code NameCode.var = tt
is_a_name code NameCode.slot_name = tt

module _ (file : ℕ) (above : 0 < file) (names : List Text) (mark : Text) (new : Mark file names mark) where
  abbrev KnownEntry : Entry → Type 0
  KnownEntry e = T (is_name e.code) → Known names file e.text

  unmade : (binder : Text) (start : ℕ) (name : Text) → Known names file name → name ≡ name_of (binder ++ mark) start → ⊥
  unfolding generated in_file start_name
  unmade binder start name (given m) e = new.is_new binder start (subst (λ (x : Text). x ∈ names) e m)
  unmade binder start name (made_here binder' start' g) e =
      let same = names_apart binder' (binder ++ mark) start' start file 0 (sym g ∙ e) in
      omega (arith, same.same_file)

  written_entry : {e f : Entry} → Loose (MadeName mark file) e f → KnownEntry f → Written file mark e f
  written_entry (equal {e = e}) k =
      Written.as_it_is λ code binder start c h.
      unmade binder start e.text (k (subst (λ (x : Entry). T (is_name x.code)) (sym h) (is_a_name code c))) (ap (λ (x : Entry). x.text) h)
  written_entry (longer {code = code} c (made binder start)) k =
      subst (λ (x : Text). Written file mark (text_entry code x) (text_entry code (generated binder start file)))
      (sym (name_in_0 (binder ++ mark) start))
      (subst (λ (x : Text). Written file mark (text_entry code (name_of (binder ++ mark) start)) (text_entry code x))
      (sym (name_above binder start file above))
      (Written.lengthened c binder start))

  written_rows : {es fs : List Entry} → Rows (MadeName mark file) es fs → All KnownEntry fs → OneByOne (Written file mark) es fs
  written_rows OneByOne.none_left h = OneByOne.none_left
  written_rows (OneByOne.and_then r p) (all_cons k h) = OneByOne.and_then (written_entry r k) (written_rows p h)

  written_tree : {t t' : Tree} → TwinTree (MadeName mark file) t t'
      → ((name : Text) → name ∈ names_in (flat_tree t') → Known names file name)
      → OneByOne (Written file mark) (flat_tree t) (flat_tree t')
  written_tree {t' = t'} p h = written_rows (rows_tree p) (all_map (λ e m i. h e.text (name_in m i)) (all_in (flat_tree t')))

-- ------------------------------------------------------------------ a mark for any inputs

total : List ℕ → ℕ
total [] = 0
total (n ∷ ns) = n + total ns

total_append : (ms ns : List ℕ) → total (ms ++ ns) ≡ total ms + total ns
unfolding total
total_append [] ns = omega arith
total_append (m ∷ ms) ns = omega (arith, total_append ms ns)

totals : List Text → ℕ
totals [] = 0
totals (t ∷ ts) = total t + totals ts

no_more : {name : Text} {names : List Text} → name ∈ names → total name ≤ totals names
unfolding totals
no_more {name} (Memᴰ.head {x = x} {xs = xs} e) = omega (arith, ap total e)
no_more (Memᴰ.tail {x = x} {xs = xs} m) = omega (arith, no_more m)

-- its first number is larger than any in a name
a_mark : (file : ℕ) (names : List Text) → Text
a_mark file names = suc (totals names) ∷ replicate (length (decimal file)) 0

is_mark : (file : ℕ) (names : List Text) → Mark file names (a_mark file names)
unfolding a_mark utf8 utf8_char total
is_mark file names =
    record {
      as_long = rw (length-replicate {A = ℕ} (length (decimal file)) 0) refl;
      is_new = λ binder start m.
          omega (
            arith,
            no_more m,
            total_append (binder ++ a_mark file names) (utf8 "$" ++ decimal start),
            total_append binder (a_mark file names),
          );
    }

-- ------------------------------------------------------------------ buffers

abbrev pub tape : Tree → List ℕ
tape t = encode (flat_tree t)

pub answer_short : (b : Buffers) (o : Outcome Tree) → ShortBuffers b → tree_answer b o ≡ answer tape b (number_alone 1)
unfolding tree_answer
answer_short b o h = rw (are_short b h) refl

pub answer_long : (b : Buffers) (o : Outcome Tree) → LongBuffers b → tree_answer b o ≡ answer tape b o
unfolding tree_answer
answer_long b o h = rw (are_long b h) refl

abbrev pub Tells : ℕ → ℕ → Type 0
Tells k n = ((leb k n ≡ true) × (k ≤ n)) ⊎ ((leb k n ≡ false) × (n < k))

-- ------------------------------------------------------------------ any operation with a file number

pub unread : {A B : Type 0} {x : Reading A} {why : ℕ} (k : A → Outcome B) → Unread x why → reading x k ≡ number_alone why
unfolding reading
unread k Unread.malformed = refl
unread k Unread.too_large = refl

pub next : {A B : Type 0} (a : A) (x : Reading A) (k : A → Outcome B) → x ≡ Reading.accepted a → reading x k ≡ k a
unfolding reading
next a x k e = rw e refl

-- what a reading is
pub data Seen {A : Type 0} (x : Reading A) : Type 0 where
  no_tape : (why : ℕ) → Unread x why → Seen x
  seen : (a : A) → x ≡ Reading.accepted a → Seen x

pub see : {A : Type 0} (x : Reading A) → Seen x
see Reading.malformed = no_tape 2 Unread.malformed
see Reading.too_large = no_tape 3 Unread.too_large
see (Reading.accepted a) = seen a refl

-- the other walk's outcome
data Beside {A B : Type 0} (R : A → B → Type 0) (a : A) (n : ℕ) (o : Outcome B) : Type 0 where
  beside : (b : B) → o ≡ Outcome.done b n → R a b → Beside R a n o

other_done : {A B : Type 0} {R : A → B → Type 0} {a : A} {n : ℕ} {o : Outcome B} → Both R (Outcome.done a n) o → Beside R a n o
other_done (both {b = b} r) = beside b refl r

other_refused : {A B : Type 0} {R : A → B → Type 0} {r : Refusal} {n : ℕ} {o : Outcome B} → Both R (Outcome.refused r n) o
    → o ≡ Outcome.refused r n
other_refused both_refused = refl

-- An operation: how it reads, what it does with the trees, and what is known of its walks.
module _ {A B : Type 0} (first : Root A) (second : Root B) (walk : (limit file : ℕ) → A → B → Outcome Tree) (mark_it : Text → A → A)
    (marks : (mark : Text) (a : A) → OneByOne (Marked mark) (first.flat a) (first.flat (mark_it mark a)))
    (one_marked : (mark : Text) (a m : A) → OneByOne (Marked mark) (first.flat a) (first.flat m) → m ≡ mark_it mark a)
    (twin : (mark : Text) (file : ℕ) → 0 < file → AsLong file mark → (limit : ℕ) (a : A) (c : B)
    → Both (TwinTree (MadeName mark file)) (walk limit 0 (mark_it mark a) c) (walk limit file a c))
    (named : (limit file : ℕ) (a : A) (c : B) (t : Tree) (n : ℕ) → walk limit file a c ≡ Outcome.done t n
    → (name : Text) → name ∈ names_in (flat_tree t) → Known (names_in (second.flat c) ++ names_in (first.flat a)) file name) where
  ours : Buffers → (limit file : ℕ) → List ℕ → List ℕ → Answer
  ours b limit file x y = tree_answer b (reading (read first x) λ a. reading (read second y) λ c. walk limit file a c)

  abbrev Files : (Buffers → (limit file : ℕ) → List ℕ → List ℕ → Answer) → Type 0
  Files = InFiles first second (λ limit a c. walk limit 0 a c) (λ b limit x y. ours b limit 0 x y)

  module _ (b : Buffers) (limit file : ℕ) (x y : List ℕ) where
    is_alone : (why : ℕ) → ours b limit file x y ≡ answer tape b (number_alone why) → RefusesAlone b why (ours b limit file x y)
    is_alone why e = subst (λ (z : Answer). RefusesAlone b why z) (sym e) (refuses_alone tape b why)

    ours_read : (a : A) (c : B) → LongBuffers b → read first x ≡ Reading.accepted a → read second y ≡ Reading.accepted c
        → ours b limit file x y ≡ answer tape b (walk limit file a c)
    unfolding ours reading
    ours_read a c long p q = answer_long b _ long ∙ rw (p, q) refl

    -- in a file above 0, beside the walk with the binders marked
    module _ (a : A) (c : B) (mark : Text) (marked : A) (above : 0 < file) (h : MarkedFirst first second file mark a c marked) where
      both_walks : Both (TwinTree (MadeName mark file)) (walk limit 0 marked c) (walk limit file a c)
      both_walks =
          subst (λ (m : A). Both (TwinTree (MadeName mark file)) (walk limit 0 m c) (walk limit file a c))
          (sym (one_marked mark a marked h.entries))
          (twin mark file above h.its_mark.as_long limit a c)

      walk_refused : (r : Refusal) (n : ℕ) → walk limit 0 marked c ≡ Outcome.refused r n → walk limit file a c ≡ Outcome.refused r n
      walk_refused r n e =
          other_refused (subst (λ (o : Outcome Tree). Both (TwinTree (MadeName mark file)) o (walk limit file a c)) e both_walks)

      walk_done : (t : Tree) (n : ℕ) → walk limit 0 marked c ≡ Outcome.done t n
          → Beside (λ (t t' : Tree). OneByOne (Written file mark) (flat_tree t) (flat_tree t')) t n (walk limit file a c)
      walk_done t n e =
          go (other_done (subst (λ (o : Outcome Tree). Both (TwinTree (MadeName mark file)) o (walk limit file a c)) e both_walks))
        where
          go : Beside (TwinTree (MadeName mark file)) t n (walk limit file a c)
              → Beside (λ (t t' : Tree). OneByOne (Written file mark) (flat_tree t) (flat_tree t')) t n (walk limit file a c)
          go (beside t' f p) =
              beside t' f
              (written_tree file above (names_in (second.flat c) ++ names_in (first.flat a)) mark h.its_mark p
              (named limit file a c t' n f))

  meets : Files ours
  unfolding ours
  meets =
      record {
        in_file_0 = λ b limit x y. refl;
        short = λ b limit file x y h. is_alone b limit file x y 1 (answer_short b _ h);
        first_unread = λ b limit file x y why h u.
            is_alone b limit file x y why (answer_long b _ h ∙ ap (λ (o : Outcome Tree). answer tape b o) (unread _ u));
        second_unread = λ b limit file x y why a h p u.
            is_alone b limit file x y why
            (answer_long b _ h ∙ ap (λ (o : Outcome Tree). answer tape b o) (next a (read first x) _ p ∙ unread _ u));
        refused = λ b limit file x y a c mark marked r n above h p q m e.
            subst (λ (z : Answer). Refuses b r.number r.span r.message n z)
            (sym
            (ours_read b limit file x y a c h p q
            ∙ ap (λ (o : Outcome Tree). answer tape b o) (walk_refused b limit file x y a c mark marked above m r n e)))
            (refuses tape b r n);
        done = λ b limit file x y a c mark marked t n es above h p q m e w.
            told b limit file x y n t es (ours_read b limit file x y a c h p q)
            (walk_done b limit file x y a c mark marked above m t n e) w;
      }
    where
      told : {mark : Text} (b : Buffers) (limit file : ℕ) (x y : List ℕ) (n : ℕ) (t : Tree) (es : List Entry) {o : Outcome Tree}
          → ours b limit file x y ≡ answer tape b o
          → Beside (λ (t t' : Tree). OneByOne (Written file mark) (flat_tree t) (flat_tree t')) t n o
          → OneByOne (Written file mark) (flat_tree t) es → Gives b (encode es) n (ours b limit file x y)
      told {mark = mark} b limit file x y n t es e (beside t' f v) w =
          subst (λ (z : Answer). Gives b (encode es) n z) (sym (e ∙ ap (λ (o : Outcome Tree). answer tape b o) f))
          (subst (λ (l : List Entry). Gives b (encode l) n (answer tape b (Outcome.done t' n))) (one_written file mark v w)
          (gives tape b t' n))

  -- whatever function is so answers as ours does
  only : (g : Buffers → (limit file : ℕ) → List ℕ → List ℕ → Answer) → Files g → (b : Buffers) (limit file : ℕ) (x y : List ℕ)
      → g b limit file x y ≡ ours b limit file x y
  only g h b limit zero x y = h.in_file_0 b limit x y
  only g h b limit (suc f) x y = go (short_or_long b)
    where
      file : ℕ
      file = suc f

      above : 0 < file
      above = omega arith

      -- with both tapes read
      walked : LongBuffers b → (a : A) (c : B) → read first x ≡ Reading.accepted a → read second y ≡ Reading.accepted c
          → g b limit file x y ≡ ours b limit file x y
      walked long a c p q = walk_of (walk limit 0 (mark_it mark a) c) refl
        where
          names : List Text
          names = names_in (second.flat c) ++ names_in (first.flat a)

          mark : Text
          mark = a_mark file names

          m : MarkedFirst first second file mark a c (mark_it mark a)
          m = record { its_mark = is_mark file names; entries = marks mark a }

          walk_of : (o : Outcome Tree) → walk limit 0 (mark_it mark a) c ≡ o → g b limit file x y ≡ ours b limit file x y
          walk_of (Outcome.refused r n) e =
              refuses_one (h.refused b limit file x y a c mark (mark_it mark a) r n above long p q m e)
              (meets.refused b limit file x y a c mark (mark_it mark a) r n above long p q m e)
          walk_of (Outcome.done t n) e = done_of (walk_done b limit file x y a c mark (mark_it mark a) above m t n e)
            where
              done_of : Beside (λ (t t' : Tree). OneByOne (Written file mark) (flat_tree t) (flat_tree t')) t n (walk limit file a c)
                  → g b limit file x y ≡ ours b limit file x y
              done_of (beside t' f w) =
                  gives_one (h.done b limit file x y a c mark (mark_it mark a) t n (flat_tree t') above long p q m e w)
                  (meets.done b limit file x y a c mark (mark_it mark a) t n (flat_tree t') above long p q m e w)

      second_read : LongBuffers b → (a : A) → read first x ≡ Reading.accepted a → Seen (read second y)
          → g b limit file x y ≡ ours b limit file x y
      second_read long a p (no_tape why u) =
          refuses_one (h.second_unread b limit file x y why a long p u) (meets.second_unread b limit file x y why a long p u)
      second_read long a p (seen c q) = walked long a c p q

      first_read : LongBuffers b → Seen (read first x) → g b limit file x y ≡ ours b limit file x y
      first_read long (no_tape why u) =
          refuses_one (h.first_unread b limit file x y why long u) (meets.first_unread b limit file x y why long u)
      first_read long (seen a p) = second_read long a p (see (read second y))

      go : ShortBuffers b ⊎ LongBuffers b → g b limit file x y ≡ ours b limit file x y
      go (inl s) = refuses_one (h.short b limit file x y s) (meets.short b limit file x y s)
      go (inr long) = first_read long (see (read first x))

-- ------------------------------------------------------------------ expansion

expand_named : (limit file : ℕ) (defs : List MacroDef) (c : Condition) (t : Tree) (n : ℕ) → expand limit file defs c ≡ Outcome.done t n
    → (name : Text) → name ∈ names_in (flat_tree t) → Known (names_in (flat_condition c) ++ names_in (flat_registry defs)) file name
unfolding protected_names
expand_named limit file defs c t n e name m = go (names_generated limit file defs c t n e name m)
  where
    go : (name ∈ protected_names defs c) ⊎ Generated file defs c name
        → Known (names_in (flat_condition c) ++ names_in (flat_registry defs)) file name
    go (inl k) = given k
    go (inr k) = made_here k.binder (span_start k.span) k.its_name

pub expands : Expands expand_answer
unfolding expand_answer expand_tapes ours condition_root registry_root
expands =
    meets registry_root condition_root (λ limit file defs c. expand limit file defs c) (λ mark defs. mark_defs mark defs)
    (λ mark defs. marks_registry mark defs) (λ mark defs m. marked_registry mark defs m)
    (λ mark file above e limit defs c. twin_expand mark file above e limit defs c) expand_named

pub determined : (g : Buffers → (limit file : ℕ) → List ℕ → List ℕ → Answer) → Expands g
    → (b : Buffers) (limit file : ℕ) (registry input : List ℕ) → g b limit file registry input ≡ expand_answer b limit file registry input
unfolding expand_answer expand_tapes ours condition_root registry_root
determined =
    only registry_root condition_root (λ limit file defs c. expand limit file defs c) (λ mark defs. mark_defs mark defs)
    (λ mark defs. marks_registry mark defs) (λ mark defs m. marked_registry mark defs m)
    (λ mark file above e limit defs c. twin_expand mark file above e limit defs c) expand_named

-- ------------------------------------------------------------------ substitution

substitute_named : (limit file : ℕ) (def : MacroDef) (call : Call) (t : Tree) (n : ℕ) → substitute limit file def call ≡ Outcome.done t n
    → (name : Text) → name ∈ names_in (flat_tree t) → Known (names_in (flat_call call) ++ names_in (flat_def def)) file name
unfolding given_names flat_call names_in is_name is_code
substitute_named limit file def (Call.MacroCall span macro args) t n e name m =
    go (substitute_names limit file def span macro args t n e name m)
  where
    turned : (l k : List Text) → name ∈ l ⊎ name ∈ k → name ∈ (k ++ l)
    turned l k (inl i) = Memᴰ.append_right k i
    turned l k (inr i) = Memᴰ.append_left l i

    go : (name ∈ given_names def args) ⊎ GeneratedHere file def span name
        → Known (names_in (flat_call (Call.MacroCall span macro args)) ++ names_in (flat_def def)) file name
    go (inl k) = given (turned (names_in (flat_def def)) (names_in (flat_args args)) (Memᴰ.append_cases (names_in (flat_def def)) k))
    go (inr k) = made_here k.binder (span_start span) k.its_name

pub substitutes : Substitutes substitute_answer
unfolding substitute_answer substitute_tapes ours call_root definition_root
substitutes =
    meets definition_root call_root (λ limit file def call. substitute limit file def call) (λ mark def. mark_def mark def)
    (λ mark def. marks_def mark def) (λ mark def m. marked_def mark def m)
    (λ mark file above e limit def call. twin_substitute mark file above e limit def call) substitute_named

pub determined_substitute : (g : Buffers → (limit file : ℕ) → List ℕ → List ℕ → Answer) → Substitutes g
    → (b : Buffers) (limit file : ℕ) (definition input : List ℕ)
    → g b limit file definition input ≡ substitute_answer b limit file definition input
unfolding substitute_answer substitute_tapes ours call_root definition_root
determined_substitute =
    only definition_root call_root (λ limit file def call. substitute limit file def call) (λ mark def. mark_def mark def)
    (λ mark def. marks_def mark def) (λ mark def m. marked_def mark def m)
    (λ mark file above e limit def call. twin_substitute mark file above e limit def call) substitute_named
