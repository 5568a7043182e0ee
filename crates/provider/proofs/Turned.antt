-- The tape of an argument with other codes is that of its term, and back; and where no such code is, there is no such term or argument.
-- Assumes nothing.
use Prim.Native.Nat.{ℕ, suc, ◌+◌}
use mathlib.Core.Path.{◌≡◌, refl, sym, ap, ◌∙◌}
use mathlib.Core.List.{List, [], ◌∷◌, ◌++◌, map, append_assoc}
use mathlib.Core.Bool.{Bool, true, false, not, ◌||◌, or_assoc}
use mathlib.Core.Option.{Option as Maybe, none, some}
use Rattle.std.proofs.Common.{Some, None}
use Rattle.std.specs.Option.{is_none as is_lost}
use native.Mathlib.Omega.{arith}
use lib.Dec.{eqb}
use lib.ListN.{length, take, length-append, length-map}
use lib.Seq.{sets, sets-eq, take_at, drop_at}
use Rattle.format.specs.Ast.{Term, Terms}
use Rattle.format.specs.Entry.{Text, Entry, le, codes_of, values_of, text_of, encode}
use Rattle.format.specs.Flat.{flat_term, flat_terms}
use Rattle.format.specs.Macro.{is_code}
use Rattle.format.specs.Provider.{Arg, Args, flat_argument, flat_arguments}
use Rattle.format.specs.Stands.{part}
use Rattle.format.proofs.Accepted.{length_codes}
use Rattle.format.proofs.Encodes.{length_le}
use Rattle.definition.specs.Provider.{argument_to_term, term_to_argument, turn}
use Rattle.definition.specs.ProviderPromises.{is_none, any_code, is_field, is_foreign}
use Rattle.definition.proofs.Provider.{Becomes, string, integer, decimal, bool, set, BecomeAll, no_more, one_more, becomes, became, fields_only, foreign_only}
use Rattle.definition.proofs.ProviderTapes.{become_length}
use Rattle.tape.specs.Pick.{pick}
use Rattle.tape.specs.declared.layout.Layout.{Layout}
use Rattle.provider.specs.Turned.{term_code, argument_code, turned_or_0, any_lost, codes_in, turned_in}
use Rattle.provider.specs.declared.Way.{Way}
use Rattle.provider.specs.declared.Way.TheVariants.{ToTerm, ToArgument}

-- ------------------------------------------------------------------ entries with other codes

abbrev turned_entry : Way → Entry → Entry
turned_entry way e = record { code = turned_or_0 way e.code; value = e.value; text = e.text }

abbrev turned_entries : Way → List Entry → List Entry
turned_entries way [] = []
turned_entries way (e ∷ es) = turned_entry way e ∷ turned_entries way es

module _ (way : Way) where
  turned_append : (es fs : List Entry) → turned_entries way (es ++ fs) ≡ turned_entries way es ++ turned_entries way fs
  turned_append [] fs = refl
  turned_append (e ∷ es) fs = ap (λ (l : List Entry). turned_entry way e ∷ l) (turned_append es fs)

  turned_length : (es : List Entry) → length (turned_entries way es) ≡ length es
  turned_length [] = refl
  turned_length (e ∷ es) = ap suc (turned_length es)

  turned_codes : (es : List Entry) → codes_of (turned_entries way es) ≡ map (turned_or_0 way) (codes_of es)
  unfolding codes_of
  turned_codes [] = refl
  turned_codes (e ∷ es) = ap (λ (l : List ℕ). turned_or_0 way e.code ∷ l) (turned_codes es)

  turned_values : (es : List Entry) → values_of (turned_entries way es) ≡ values_of es
  unfolding values_of
  turned_values [] = refl
  turned_values (e ∷ es) = ap (λ (l : List ℕ). le 8 e.value ++ l) (turned_values es)

  turned_text : (es : List Entry) → text_of (turned_entries way es) ≡ text_of es
  unfolding text_of
  turned_text [] = refl
  turned_text (e ∷ es) = ap (λ (l : Text). e.text ++ l) (turned_text es)

-- ------------------------------------------------------------------ on a tape

module _ (es : List Entry) where
  abbrev sizes : List ℕ
  sizes = le 4 (length es) ++ le 4 (length (text_of es))

  abbrev behind : List ℕ
  behind = values_of es ++ text_of es

  encoded_parts : encode es ≡ sizes ++ (codes_of es ++ behind)
  unfolding encode
  encoded_parts = sym (append_assoc (le 4 (length es)) (le 4 (length (text_of es))) (codes_of es ++ behind))

  length_sizes : length sizes ≡ 8
  length_sizes =
      omega (arith, length-append (le 4 (length es)) (le 4 (length (text_of es))), length_le 4 (length es), length_le 4 (length (text_of es)))

  pub codes_stand : part (encode es) 8 (length es) ≡ codes_of es
  codes_stand =
      ap (λ (l : List ℕ). part l 8 (length es)) encoded_parts
      ∙ ap (take (length es)) (drop_at sizes (codes_of es ++ behind) 8 length_sizes)
      ∙ take_at (codes_of es) behind (length es) (length_codes es)

  -- other codes in the place of its own
  over_codes : (cs : List ℕ) → length cs ≡ length es → sets (encode es) 8 cs ≡ sizes ++ (cs ++ behind)
  over_codes cs n =
      let k : length (sizes ++ codes_of es) ≡ 8 + length cs = omega (arith, length-append sizes (codes_of es), length_sizes, length_codes es, n) in
      let p : length (sizes ++ (codes_of es ++ behind)) ≡ 8 + length cs + length behind =
      omega (arith, length-append sizes (codes_of es ++ behind), length-append (codes_of es) behind, length_sizes, length_codes es, n) in
      rw encoded_parts
      (sets-eq cs (sizes ++ (codes_of es ++ behind)) 8 (omega (arith, p))
      ∙ rw (take_at sizes (codes_of es ++ behind) 8 length_sizes, ← (append_assoc sizes (codes_of es) behind), drop_at (sizes ++ codes_of es) behind (8 + length cs) k)
      (append_assoc sizes cs behind))

  pub tape_turned : (way : Way) → sets (encode es) 8 (map (turned_or_0 way) (codes_of es)) ≡ encode (turned_entries way es)
  unfolding encode
  tape_turned way =
      over_codes (map (turned_or_0 way) (codes_of es)) (length-map (codes_of es) (turned_or_0 way) ∙ length_codes es)
      ∙ rw (turned_length way es, turned_codes way es, turned_values way es, turned_text way es)
      (append_assoc (le 4 (length es)) (le 4 (length (text_of es))) (map (turned_or_0 way) (codes_of es) ++ behind))

-- ------------------------------------------------------------------ an argument and its term

mutual
  unfolding flat_argument flat_term

  term_entries : {a : Arg} {t : Term} → Becomes a t → turned_entries ToTerm (flat_argument a) ≡ flat_term t
  term_entries string = refl
  term_entries integer = refl
  term_entries decimal = refl
  term_entries bool = refl
  term_entries (set h) = rw (become_length h, terms_entries h) refl

  terms_entries : {items : Args} {ts : Terms} → BecomeAll items ts → turned_entries ToTerm (flat_arguments items) ≡ flat_terms ts
  terms_entries no_more = refl
  terms_entries (one_more {a = a} {items = items} h k) =
      turned_append ToTerm (flat_argument a) (flat_arguments items) ∙ rw (term_entries h, terms_entries k) refl

mutual
  unfolding flat_argument flat_term

  argument_entries : {a : Arg} {t : Term} → Becomes a t → turned_entries ToArgument (flat_term t) ≡ flat_argument a
  argument_entries string = refl
  argument_entries integer = refl
  argument_entries decimal = refl
  argument_entries bool = refl
  argument_entries (set h) = rw (become_length h, arguments_entries h) refl

  arguments_entries : {items : Args} {ts : Terms} → BecomeAll items ts → turned_entries ToArgument (flat_terms ts) ≡ flat_arguments items
  arguments_entries no_more = refl
  arguments_entries (one_more {t = t} {ts = ts} h k) =
      turned_append ToArgument (flat_term t) (flat_terms ts) ∙ rw (argument_entries h, arguments_entries k) refl

-- ------------------------------------------------------------------ codes that become none

-- no argument becomes what argument_code has no code for
lost_code : (c : ℕ) → is_lost (argument_code c) ≡ is_foreign c
unfolding is_foreign is_code
lost_code c = go (eqb c 21) (eqb c 22) (eqb c 23) (eqb c 24) (eqb c 29)
  where
    go : (v w x y z : Bool) → is_lost {T = ℕ} (pick v (Some 73) (pick w (Some 74) (pick x (Some 72) (pick y (Some 75) (pick z (Some 76) None))))) ≡ not (v || (w || (x || (y || (z || false)))))
    go true w x y z = refl
    go false true x y z = refl
    go false false true y z = refl
    go false false false true z = refl
    go false false false false true = refl
    go false false false false false = refl

lost_foreign : (es : List Entry) → any_lost ToArgument (codes_of es) ≡ any_code is_foreign es
unfolding codes_of any_code
lost_foreign [] = refl
lost_foreign (e ∷ es) = rw (lost_code e.code, lost_foreign es) refl

lost_append : (es fs : List Entry) → any_lost ToTerm (codes_of (es ++ fs)) ≡ (any_lost ToTerm (codes_of es) || any_lost ToTerm (codes_of fs))
unfolding codes_of
lost_append [] fs = refl
lost_append (e ∷ es) fs =
    let b = is_lost (term_code e.code) in
    ap (λ (x : Bool). b || x) (lost_append es fs) ∙ sym (or_assoc b (any_lost ToTerm (codes_of es)) (any_lost ToTerm (codes_of fs)))

field_append : (es fs : List Entry) → any_code is_field (es ++ fs) ≡ (any_code is_field es || any_code is_field fs)
unfolding any_code
field_append [] fs = refl
field_append (e ∷ es) fs =
    ap (λ (x : Bool). is_field e.code || x) (field_append es fs) ∙ sym (or_assoc (is_field e.code) (any_code is_field es) (any_code is_field fs))

mutual
  unfolding flat_argument codes_of any_code is_field is_code

  lost_fields : (a : Arg) → any_lost ToTerm (codes_of (flat_argument a)) ≡ any_code is_field (flat_argument a)
  lost_fields (Arg.Field path) = refl
  lost_fields (Arg.String t) = refl
  lost_fields (Arg.Integer n) = refl
  lost_fields (Arg.Decimal t) = refl
  lost_fields (Arg.Bool b) = refl
  lost_fields (Arg.Set items) = lost_all items

  lost_all : (items : Args) → any_lost ToTerm (codes_of (flat_arguments items)) ≡ any_code is_field (flat_arguments items)
  lost_all Args.no_args = refl
  lost_all (Args.cons_arg a rest) =
      lost_append (flat_argument a) (flat_arguments rest)
      ∙ rw (lost_fields a, lost_all rest) (sym (field_append (flat_argument a) (flat_arguments rest)))

-- ------------------------------------------------------------------ a tape turned is the tape of what its tree is turned into

module _ {A B : Type 0} (way : Way) (from : A → List Entry) (into : B → List Entry) (f : A → Maybe B)
    (lost : (a : A) → any_lost way (codes_of (from a)) ≡ is_none (f a))
    (same : (a : A) (b : B) → f a ≡ some b → turned_entries way (from a) ≡ into b) where
  turned_tree : (a : A) (l : Layout) → l.codes ≡ 8 → l.entries ≡ length (from a)
      → turned_in way (encode (from a)) l ≡ turn (λ (b : B). encode (into b)) (f a)
  unfolding turn is_none
  turned_tree a l at count =
      let c : codes_in (encode (from a)) l ≡ codes_of (from a) = rw (at, count) (codes_stand (from a)) in
      rw (c, lost a) (go (f a) refl)
    where
      go : (o : Maybe B) → f a ≡ o
          → pick (is_none o) none (some (sets (encode (from a)) 8 (map (turned_or_0 way) (codes_of (from a))))) ≡ turn (λ (b : B). encode (into b)) o
      go none e = refl
      go (some b) e = ap some (tape_turned (from a) way ∙ ap encode (same a b e))

pub argument_turned : (a : Arg) (l : Layout) → l.codes ≡ 8 → l.entries ≡ length (flat_argument a)
    → turned_in ToTerm (encode (flat_argument a)) l ≡ turn (λ (t : Term). encode (flat_term t)) (argument_to_term a)
argument_turned =
    turned_tree ToTerm flat_argument flat_term argument_to_term (λ a. lost_fields a ∙ sym (fields_only a)) (λ a t e. term_entries (becomes a t e))

pub term_turned : (t : Term) (l : Layout) → l.codes ≡ 8 → l.entries ≡ length (flat_term t)
    → turned_in ToArgument (encode (flat_term t)) l ≡ turn (λ (a : Arg). encode (flat_argument a)) (term_to_argument t)
term_turned =
    turned_tree ToArgument flat_term flat_argument term_to_argument (λ t. lost_foreign (flat_term t) ∙ sym (foreign_only t)) (λ t a e. argument_entries (became a t e))
