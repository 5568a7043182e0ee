-- What a stack was built from is what it spells: `build es ≡ some st → flat_stack st ≡ es`.
-- Assumes nothing.
use Prim.Native.Nat.{ℕ, zero, suc}
use mathlib.Core.Path.{◌≡◌, refl, sym, ◌∙◌, ap, subst}
use mathlib.Core.List.{List, [], ◌∷◌, ◌++◌, append_assoc, append-nil}
use mathlib.Core.Bool.{Bool, true, false}
use mathlib.Core.Option.{Option, none, some}
use lib.Dec.{T, eqb, eqb→eq}
use lib.ListN.{length}
use Rattle.format.specs.Entry.{Text, Entry, entry, text_entry}
use Rattle.format.specs.Ast.{Interval, WithinSpec, BinderSlot, BinderType, TypedBinder, Sigil, CmpOp, ArithOp, Condition, Term, CallArgs, NamedArgs, Terms, MacroParam}
use Rattle.format.specs.Flat.{flat_texts, flat_unit, flat_interval, flat_within, flat_slot, flat_type, flat_binder, flat_binders, flat_sigil, flat_cmp, flat_arith, flat_bool, length_terms, length_fields, length_args, flat_condition, flat_term, flat_agg, flat_call, flat_arg, flat_args, flat_fields, flat_terms, flat_tree, flat_params, flat_body, flat_def, flat_defs, flat_registry}
use Rattle.format.specs.Provider.{Arg, Args, length_arguments, flat_argument, flat_arguments, flat_method_call, flat_provider}
use Rattle.format.specs.Build.{Item, Stack, Pop, give, fail, onward, ◌>>=◌, only, pop, as_leaf, as_condition, as_term, as_agg, as_call, as_definition, as_tree, as_argument, as_provider, pop_condition, pop_term, number, no_value, guard, texted, Row, row, map_rows, choose, pop_row, many, list_of, pop_text, pop_texts, pop_span, interval, interval_rows, pop_interval, within_rows, pop_within, slot_rows, pop_slot, type_rows, pop_type, pop_binder, sigil_rows, pop_sigil, nth, cmp_ops, arith_ops, pop_cmp, pop_field, cons_named, pop_fields, pop_binders, arg_rows, pop_args, pop_param, pop_params, body_rows, pop_body, condition_rows, term_rows, agg_rows, call_rows, definition_rows, pop_argument, argument_rows, pop_arguments, method_call_rows, table, restack, push, push_on, build_on, build}

unfoldable pub flat_item : Item → List Entry
flat_item (Item.leaf e) = e ∷ []
flat_item (Item.condition c) = flat_condition c
flat_item (Item.term t) = flat_term t
flat_item (Item.agg a) = flat_agg a
flat_item (Item.call c) = flat_call c
flat_item (Item.definition d) = flat_def d
flat_item (Item.argument a) = flat_argument a
flat_item (Item.method_call c) = flat_method_call c

unfoldable pub flat_stack : Stack → List Entry
flat_stack [] = []
flat_stack (i ∷ st) = flat_item i ++ flat_stack st

-- ------------------------------------------------------------------ parts taken from a stack

-- what was taken, and the rest, spell the whole
data Spelled {A : Type 0} (f : A → List Entry) (whole : List Entry) : Option (A × Stack) → Type 0 where
  spelled_none : Spelled f whole none
  spelled_some : {r : A × Stack} → f r.0 ++ flat_stack r.1 ≡ whole → Spelled f whole (some r)

-- what p takes, spelled by f, is `front` and then some of the stack
pub record Spells {A : Type 0} (f : A → List Entry) (front : List Entry) (p : Pop A) : Type 0 where
  run : (st : Stack) → Spelled f (front ++ flat_stack st) (p st)

s_fail : {A : Type 0} {f : A → List Entry} {front : List Entry} → Spells f front fail
unfolding fail
s_fail = record { run = λ st. spelled_none }

s_give : {A : Type 0} {f : A → List Entry} {front : List Entry} (a : A) → f a ≡ front → Spells f front (give a)
unfolding give
s_give a e = record { run = λ st. spelled_some (ap (λ (es : List Entry). es ++ flat_stack st) e) }

-- p turns the front into what it took, and k goes on from there
s_then : {A B : Type 0} {f : A → List Entry} {g : B → List Entry} {front : List Entry} {p : Pop A} {k : A → Pop B}
    → Spells f front p → ((a : A) → Spells g (f a) (k a)) → Spells g front (p >>= k)
unfolding ◌>>=◌ onward
s_then {A} {B} {f} {g} {front} {p} {k} s h = record { run = λ st. go st (p st) (s.run st) }
  where
    go : (st : Stack) (o : Option (A × Stack)) → Spelled f (front ++ flat_stack st) o → Spelled g (front ++ flat_stack st) (onward o k)
    go st none spelled_none = spelled_none
    go st (some r) (spelled_some e) = subst (λ (whole : List Entry). Spelled g whole (k r.0 r.1)) e ((h r.0).run r.1)

-- a front that p does not look at
s_behind : {A : Type 0} {f : A → List Entry} {p : Pop A} (front : List Entry) → Spells f [] p → Spells (λ (a : A). front ++ f a) front p
s_behind {A} {f} {p} front s = record { run = λ st. go st (p st) (s.run st) }
  where
    go : (st : Stack) (o : Option (A × Stack)) → Spelled f (flat_stack st) o → Spelled (λ (a : A). front ++ f a) (front ++ flat_stack st) o
    go st none spelled_none = spelled_none
    go st (some r) (spelled_some e) =
        spelled_some (append_assoc front (f r.0) (flat_stack r.1) ∙ ap (λ (es : List Entry). front ++ es) e)

s_bind : {A B : Type 0} {f : A → List Entry} {g : B → List Entry} {front : List Entry} {p : Pop A} {k : A → Pop B}
    → Spells f [] p → ((a : A) → Spells g (front ++ f a) (k a)) → Spells g front (p >>= k)
s_bind {front = front} s h = s_then (s_behind front s) h

s_map : {A B : Type 0} {f : A → List Entry} {g : B → List Entry} {front : List Entry} {p : Pop A} (h : A → B)
    → Spells f front p → ((a : A) → g (h a) ≡ f a) → Spells g front (p >>= λ a. give (h a))
s_map h s e = s_then s λ a. s_give (h a) (e a)

-- ------------------------------------------------------------------ one item

data Sorted {A : Type 0} (f : A → List Entry) (i : Item) : Option A → Type 0 where
  other : Sorted f i none
  sorted : {a : A} → f a ≡ flat_item i → Sorted f i (some a)

s_pop : {A : Type 0} {f : A → List Entry} {sort : Item → Option A} → ((i : Item) → Sorted f i (sort i)) → Spells f [] (pop sort)
unfolding pop only flat_stack
s_pop {A} {f} {sort} h = record { run = run }
  where
    go : (i : Item) (st : Stack) (o : Option A) → Sorted f i o → Spelled f (flat_item i ++ flat_stack st) (only o st)
    go i st none other = spelled_none
    go i st (some a) (sorted e) = spelled_some (ap (λ (es : List Entry). es ++ flat_stack st) e)

    run : (st : Stack) → Spelled f (flat_stack st) (pop sort st)
    run [] = spelled_none
    run (i ∷ st) = go i st (sort i) (h i)

abbrev one : Entry → List Entry
one e = e ∷ []

sorted_leaf : (i : Item) → Sorted one i (as_leaf i)
unfolding as_leaf flat_item
sorted_leaf (Item.leaf e) = sorted refl
sorted_leaf (Item.condition c) = other
sorted_leaf (Item.term t) = other
sorted_leaf (Item.agg a) = other
sorted_leaf (Item.call c) = other
sorted_leaf (Item.definition d) = other
sorted_leaf (Item.argument a) = other
sorted_leaf (Item.method_call c) = other

sorted_condition : (i : Item) → Sorted flat_condition i (as_condition i)
unfolding as_condition flat_item
sorted_condition (Item.leaf e) = other
sorted_condition (Item.condition c) = sorted refl
sorted_condition (Item.term t) = other
sorted_condition (Item.agg a) = other
sorted_condition (Item.call c) = other
sorted_condition (Item.definition d) = other
sorted_condition (Item.argument a) = other
sorted_condition (Item.method_call c) = other

sorted_term : (i : Item) → Sorted flat_term i (as_term i)
unfolding as_term flat_item
sorted_term (Item.leaf e) = other
sorted_term (Item.condition c) = other
sorted_term (Item.term t) = sorted refl
sorted_term (Item.agg a) = other
sorted_term (Item.call c) = other
sorted_term (Item.definition d) = other
sorted_term (Item.argument a) = other
sorted_term (Item.method_call c) = other

sorted_agg : (i : Item) → Sorted flat_agg i (as_agg i)
unfolding as_agg flat_item
sorted_agg (Item.leaf e) = other
sorted_agg (Item.condition c) = other
sorted_agg (Item.term t) = other
sorted_agg (Item.agg a) = sorted refl
sorted_agg (Item.call c) = other
sorted_agg (Item.definition d) = other
sorted_agg (Item.argument a) = other
sorted_agg (Item.method_call c) = other

sorted_call : (i : Item) → Sorted flat_call i (as_call i)
unfolding as_call flat_item
sorted_call (Item.leaf e) = other
sorted_call (Item.condition c) = other
sorted_call (Item.term t) = other
sorted_call (Item.agg a) = other
sorted_call (Item.call c) = sorted refl
sorted_call (Item.definition d) = other
sorted_call (Item.argument a) = other
sorted_call (Item.method_call c) = other

sorted_definition : (i : Item) → Sorted flat_def i (as_definition i)
unfolding as_definition flat_item
sorted_definition (Item.leaf e) = other
sorted_definition (Item.condition c) = other
sorted_definition (Item.term t) = other
sorted_definition (Item.agg a) = other
sorted_definition (Item.call c) = other
sorted_definition (Item.definition d) = sorted refl
sorted_definition (Item.argument a) = other
sorted_definition (Item.method_call c) = other

sorted_argument : (i : Item) → Sorted flat_argument i (as_argument i)
unfolding as_argument flat_item
sorted_argument (Item.leaf e) = other
sorted_argument (Item.condition c) = other
sorted_argument (Item.term t) = other
sorted_argument (Item.agg a) = other
sorted_argument (Item.call c) = other
sorted_argument (Item.definition d) = other
sorted_argument (Item.argument a) = sorted refl
sorted_argument (Item.method_call c) = other

s_leaf : Spells one [] (pop as_leaf)
s_leaf = s_pop sorted_leaf

s_condition : Spells flat_condition [] pop_condition
unfolding pop_condition
s_condition = s_pop sorted_condition

pub s_term : Spells flat_term [] pop_term
unfolding pop_term
s_term = s_pop sorted_term

s_agg : Spells flat_agg [] (pop as_agg)
s_agg = s_pop sorted_agg

pub s_call : Spells flat_call [] (pop as_call)
s_call = s_pop sorted_call

pub s_definition : Spells flat_def [] (pop as_definition)
s_definition = s_pop sorted_definition

-- ------------------------------------------------------------------ rows

abbrev pub RowSpells : {A : Type 0} → (A → List Entry) → Row A → Type 0
RowSpells f r = (v : ℕ) (t : Text) → Spells f (record { code = r.code; value = v; text = t } ∷ []) (r.reader v t)

s_number : {A : Type 0} {f : A → List Entry} (c : ℕ) (k : ℕ → Pop A)
    → ((v : ℕ) → Spells f (entry c v ∷ []) (k v)) → RowSpells f (row c (number k))
unfolding number
s_number c k h v [] = h v
s_number c k h v (b ∷ t) = s_fail

s_no_value : {A : Type 0} {f : A → List Entry} (c : ℕ) (p : Pop A) → Spells f (entry c 0 ∷ []) p → RowSpells f (row c (no_value p))
unfolding no_value
s_no_value c p h zero [] = h
s_no_value c p h zero (b ∷ t) = s_fail
s_no_value c p h (suc v) t = s_fail

s_texted : {A : Type 0} {f : A → List Entry} (c : ℕ) (k : Text → Pop A)
    → ((t : Text) → Spells f (text_entry c t ∷ []) (k t)) → RowSpells f (row c (texted k))
unfolding texted guard
s_texted {A} {f} c k h v t = go (eqb v (length t)) (λ q. sym (eqb→eq v (length t) q))
  where
    go : (b : Bool) → (T b → length t ≡ v) → Spells f (record { code = c; value = v; text = t } ∷ []) (guard b (k t))
    go true q = subst (λ (n : ℕ). Spells f (record { code = c; value = n; text = t } ∷ []) (k t)) (q tt) (h t)
    go false q = s_fail

pub data RowsSpell {A : Type 0} (f : A → List Entry) : List (Row A) → Type 0 where
  s_end : RowsSpell f []
  s_row : {r : Row A} {rs : List (Row A)} → RowSpells f r → RowsSpell f rs → RowsSpell f (r ∷ rs)

s_choose : {A : Type 0} {f : A → List Entry} {rs : List (Row A)} {p : Pop A} (e : Entry)
    → RowsSpell f rs → Spells f (e ∷ []) p → Spells f (e ∷ []) (choose rs p e)
unfolding choose
s_choose e s_end q = q
s_choose {A} {f} {p = p} e (s_row {r = r} {rs = rs} h hs) q = go (eqb e.code r.code) (eqb→eq e.code r.code) (s_choose e hs q)
  where
    go : (b : Bool) → (T b → e.code ≡ r.code) → Spells f (e ∷ []) (choose rs p e)
        → Spells f (e ∷ []) (elim b [ true ↦ r.reader e.value e.text | false ↦ choose rs p e ])
    go true c n =
        subst (λ (k : ℕ). Spells f (record { code = k; value = e.value; text = e.text } ∷ []) (r.reader e.value e.text))
        (sym (c tt)) (h e.value e.text)
    go false c n = n

s_pop_row : {A : Type 0} {f : A → List Entry} {rs : List (Row A)} → RowsSpell f rs → Spells f [] (pop_row rs)
unfolding pop_row
s_pop_row h = s_bind s_leaf λ e. s_choose e h s_fail

s_map_rows : {A B : Type 0} {f : A → List Entry} {g : B → List Entry} {rs : List (Row A)} (h : A → B)
    → RowsSpell f rs → ((a : A) → g (h a) ≡ f a) → RowsSpell g (map_rows h rs)
unfolding map_rows
s_map_rows h s_end e = s_end
s_map_rows h (s_row q qs) e = s_row (λ v t. s_map h (q v t) e) (s_map_rows h qs e)

s_append : {A : Type 0} {f : A → List Entry} {rs qs : List (Row A)} → RowsSpell f rs → RowsSpell f qs → RowsSpell f (rs ++ qs)
s_append s_end q = q
s_append (s_row h hs) q = s_row h (s_append hs q)

-- ------------------------------------------------------------------ lists

-- how a sort of list is spelled
record Listing {A L : Type 0} (f : A → List Entry) (nil : L) (cons : A → L → L) (count : L → ℕ) (g : L → List Entry) : Type 0 where
  g_nil : g nil ≡ []
  g_cons : (a : A) (l : L) → g (cons a l) ≡ f a ++ g l
  count_nil : count nil ≡ 0
  count_cons : (a : A) (l : L) → count (cons a l) ≡ suc (count l)

-- n parts behind an entry that has n for its value: `w` is the entry
s_many : {A L : Type 0} {f : A → List Entry} {nil : L} {cons : A → L → L} {count : L → ℕ} {g : L → List Entry} {p : Pop A}
    → Listing f nil cons count g → Spells f [] p → (w : ℕ → List Entry) (n : ℕ)
    → Spells (λ (l : L). w (count l) ++ g l) (w n) (many nil cons p n)
unfolding many
s_many {nil = nil} {g = g} q s w zero = s_give nil (rw (q.count_nil, q.g_nil) (append-nil (w 0)))
s_many {f = f} {cons = cons} {count = count} {g = g} q s w (suc n) =
    s_bind s λ a.
    s_map (cons a) (s_many q s (λ k. w (suc k) ++ f a) n)
    (λ l. rw (q.count_cons a l, q.g_cons a l) (sym (append_assoc (w (suc (count l))) (f a) (g l))))

-- n parts behind the entry of a row
s_counted : {A L B : Type 0} {f : A → List Entry} {nil : L} {cons : A → L → L} {count : L → ℕ} {g : L → List Entry} {p : Pop A}
    {fb : B → List Entry} (c : ℕ) (h : L → B)
    → Listing f nil cons count g → Spells f [] p → ((l : L) → fb (h l) ≡ entry c (count l) ∷ g l)
    → RowSpells fb (row c (number λ n. many nil cons p n >>= λ l. give (h l)))
s_counted c h q s e = s_number c _ λ n. s_map h (s_many q s (λ k. entry c k ∷ []) n) e

s_list_of : {A L : Type 0} {f : A → List Entry} {nil : L} {cons : A → L → L} {count : L → ℕ} {g : L → List Entry} {p : Pop A}
    → Listing f nil cons count g → Spells f [] p → Spells (λ (l : L). entry 41 (count l) ∷ g l) [] (list_of nil cons p)
unfolding list_of
s_list_of q s = s_pop_row (s_row (s_number 41 _ (s_many q s (λ k. entry 41 k ∷ []))) s_end)

-- ------------------------------------------------------------------ the parts

abbrev as_text : Text → List Entry
as_text t = text_entry 40 t ∷ []

s_text : Spells as_text [] pop_text
unfolding pop_text
s_text = s_pop_row (s_row (s_texted 40 _ λ t. s_give t refl) s_end)

texts : Listing as_text [] ◌∷◌ length flat_texts
unfolding flat_texts
texts = record { g_nil = refl; g_cons = λ a l. refl; count_nil = refl; count_cons = λ a l. refl }

s_span : Spells (λ (s : ℕ). entry 42 s ∷ []) [] pop_span
unfolding pop_span
s_span = s_pop_row (s_row (s_number 42 _ λ s. s_give s refl) s_end)

abbrev flat_interval_list : Interval → List Entry
flat_interval_list i = flat_interval i ∷ []

s_intervals : RowsSpell flat_interval_list interval_rows
unfolding interval_rows interval flat_interval flat_unit
s_intervals =
    s_row (s_number 48 _ λ n. s_give _ refl)
    (s_row (s_number 49 _ λ n. s_give _ refl)
    (s_row (s_number 50 _ λ n. s_give _ refl)
    (s_row (s_number 51 _ λ n. s_give _ refl)
    (s_row (s_number 64 _ λ n. s_give _ refl) s_end))))

s_interval : Spells flat_interval_list [] pop_interval
unfolding pop_interval
s_interval = s_pop_row s_intervals

abbrev pub flat_within_list : WithinSpec → List Entry
flat_within_list w = flat_within w ∷ []

s_within : Spells flat_within_list [] pop_within
unfolding pop_within within_rows flat_within
s_within = s_pop_row (s_row (s_texted 52 _ λ t. s_give _ refl) (s_map_rows WithinSpec.Concrete s_intervals (λ i. refl)))

abbrev pub flat_slot_list : BinderSlot → List Entry
flat_slot_list v = flat_slot v ∷ []

s_slot : Spells flat_slot_list [] pop_slot
unfolding pop_slot slot_rows flat_slot
s_slot =
    s_pop_row
    (s_row (s_texted 43 _ λ t. s_give _ refl)
    (s_row (s_texted 44 _ λ t. s_give _ refl)
    (s_row (s_texted 45 _ λ t. s_give _ refl) s_end)))

s_type : Spells flat_type [] pop_type
unfolding pop_type type_rows pop_texts flat_type
s_type =
    s_pop_row
    (s_row (s_no_value 46 _ (s_give _ refl))
    (s_row (s_counted 47 BinderType.Named texts s_text λ ts. refl) s_end))

s_binder : Spells flat_binder [] pop_binder
unfolding pop_binder flat_binder
s_binder = s_bind s_slot λ v. s_bind s_type λ t. s_give _ refl

binders : Listing flat_binder [] ◌∷◌ length flat_binders
unfolding flat_binders
binders = record { g_nil = refl; g_cons = λ a l. refl; count_nil = refl; count_cons = λ a l. refl }

s_binders : Spells (λ (bs : List TypedBinder). entry 41 (length bs) ∷ flat_binders bs) [] pop_binders
unfolding pop_binders
s_binders = s_list_of binders s_binder

abbrev flat_sigil_text : Sigil × Text → List Entry
flat_sigil_text g = text_entry (flat_sigil g.0) g.1 ∷ []

s_sigil : Spells flat_sigil_text [] pop_sigil
unfolding pop_sigil sigil_rows flat_sigil
s_sigil = s_pop_row (s_row (s_texted 58 _ λ t. s_give _ refl) (s_row (s_texted 59 _ λ t. s_give _ refl) s_end))

-- things by their place: `w` is the entry that has the place for its value
s_cmps : (w : ℕ → List Entry) (n : ℕ) → Spells (λ (op : CmpOp). w (flat_cmp op)) (w n) (nth cmp_ops n)
unfolding nth cmp_ops flat_cmp
s_cmps w zero = s_give _ refl
s_cmps w (suc zero) = s_give _ refl
s_cmps w (suc (suc zero)) = s_give _ refl
s_cmps w (suc (suc (suc zero))) = s_give _ refl
s_cmps w (suc (suc (suc (suc zero)))) = s_give _ refl
s_cmps w (suc (suc (suc (suc (suc zero))))) = s_give _ refl
s_cmps w (suc (suc (suc (suc (suc (suc n)))))) = s_fail

s_ariths : (w : ℕ → List Entry) (n : ℕ) → Spells (λ (op : ArithOp). w (flat_arith op)) (w n) (nth arith_ops n)
unfolding nth arith_ops flat_arith
s_ariths w zero = s_give _ refl
s_ariths w (suc zero) = s_give _ refl
s_ariths w (suc (suc zero)) = s_give _ refl
s_ariths w (suc (suc (suc n))) = s_fail

s_bools : (w : ℕ → List Entry) (n : ℕ) → Spells (λ (b : Bool). w (flat_bool b)) (w n) (nth (false ∷ true ∷ []) n)
unfolding nth flat_bool
s_bools w zero = s_give _ refl
s_bools w (suc zero) = s_give _ refl
s_bools w (suc (suc n)) = s_fail

s_cmp : Spells (λ (op : CmpOp). entry 53 (flat_cmp op) ∷ []) [] pop_cmp
unfolding pop_cmp
s_cmp = s_pop_row (s_row (s_number 53 _ (s_cmps (λ k. entry 53 k ∷ []))) s_end)

abbrev flat_field : Text × Term → List Entry
flat_field f = text_entry 40 f.0 ∷ flat_term f.1

s_field : Spells flat_field [] pop_field
unfolding pop_field
s_field = s_bind s_text λ n. s_bind s_term λ t. s_give _ refl

fields : Listing flat_field NamedArgs.no_fields cons_named length_fields flat_fields
unfolding flat_fields length_fields
fields = record { g_nil = refl; g_cons = λ a l. refl; count_nil = refl; count_cons = λ a l. refl }

s_fields : Spells (λ (fs : NamedArgs). entry 41 (length_fields fs) ∷ flat_fields fs) [] pop_fields
unfolding pop_fields
s_fields = s_list_of fields s_field

terms : Listing flat_term Terms.no_terms Terms.cons_term length_terms flat_terms
unfolding flat_terms length_terms
terms = record { g_nil = refl; g_cons = λ a l. refl; count_nil = refl; count_cons = λ a l. refl }

s_arg : Spells flat_arg [] (pop_row arg_rows)
unfolding arg_rows flat_arg
s_arg =
    s_pop_row
    (s_row (s_no_value 55 _ (s_bind s_condition λ c. s_give _ refl))
    (s_row (s_no_value 56 _ (s_bind s_term λ t. s_give _ refl))
    (s_row (s_no_value 57 _ (s_bind s_interval λ i. s_give _ refl)) s_end)))

args : Listing flat_arg CallArgs.no_args CallArgs.cons_arg length_args flat_args
unfolding flat_args length_args
args = record { g_nil = refl; g_cons = λ a l. refl; count_nil = refl; count_cons = λ a l. refl }

s_args : Spells (λ (as' : CallArgs). entry 41 (length_args as') ∷ flat_args as') [] pop_args
unfolding pop_args
s_args = s_list_of args s_arg

abbrev flat_param : MacroParam → List Entry
flat_param p = entry 42 p.span ∷ text_entry 40 p.name ∷ []

s_param : Spells flat_param [] pop_param
unfolding pop_param
s_param = s_bind s_span λ s. s_bind s_text λ n. s_give _ refl

params : Listing flat_param [] ◌∷◌ length flat_params
unfolding flat_params
params = record { g_nil = refl; g_cons = λ a l. refl; count_nil = refl; count_cons = λ a l. refl }

s_params : Spells (λ (ps : List MacroParam). entry 41 (length ps) ∷ flat_params ps) [] pop_params
unfolding pop_params
s_params = s_list_of params s_param

s_body : Spells flat_body [] pop_body
unfolding pop_body body_rows flat_body
s_body =
    s_pop_row
    (s_row (s_no_value 61 _ (s_give _ refl))
    (s_row (s_no_value 62 _ (s_bind s_condition λ c. s_give _ refl))
    (s_row (s_no_value 63 _ (s_bind s_term λ t. s_give _ refl)) s_end)))

-- ------------------------------------------------------------------ the trees

s_conditions : RowsSpell flat_condition condition_rows
unfolding condition_rows flat_condition
s_conditions =
    s_row (s_number 1 _ λ s. s_bind s_condition λ l. s_bind s_condition λ r. s_give _ refl)
    (s_row (s_number 2 _ λ s. s_bind s_condition λ l. s_bind s_condition λ r. s_give _ refl)
    (s_row (s_number 3 _ λ s. s_bind s_condition λ c. s_give _ refl)
    (s_row (s_number 4 _ λ s. s_bind s_within λ w. s_bind s_condition λ c. s_give _ refl)
    (s_row (s_number 5 _ λ s. s_bind s_within λ w. s_bind s_condition λ c. s_give _ refl)
    (s_row (s_number 6 _ λ s. s_bind s_condition λ l. s_bind s_within λ w. s_bind s_condition λ r.
    s_give (Condition.Since s l w r) (simp append_assoc))
    (s_row
    (s_number 7 _ λ s.
    s_bind s_span λ o.
    s_bind (s_list_of texts s_text) λ ns.
    s_bind s_text λ a.
    s_bind s_text λ k.
    s_bind s_fields λ fs.
    s_give (Condition.Predicate s o ns a k fs) (simp append_assoc))
    (s_row (s_number 8 _ λ s. s_bind s_cmp λ op. s_bind s_term λ l. s_bind s_term λ r. s_give _ refl)
    (s_row (s_number 9 _ λ s. s_bind s_binder λ b. s_bind s_condition λ c. s_give _ refl)
    (s_row (s_number 10 _ λ s. s_bind s_slot λ v. s_give _ refl)
    (s_row (s_number 11 _ λ s. s_bind s_call λ c. s_give _ refl)
    (s_row (s_number 12 _ λ s. s_bind s_sigil λ g. s_give _ refl)
    (s_row
    (s_number 13 _ λ s. s_bind s_span λ o. s_bind s_condition λ c. s_bind s_fields λ fs. s_give _ refl)
    s_end))))))))))))

s_terms : RowsSpell flat_term term_rows
unfolding term_rows pop_texts flat_term
s_terms =
    s_row (s_no_value 20 _ (s_bind s_text λ ty. s_bind s_text λ id. s_give _ refl))
    (s_row (s_number 21 _ λ n. s_give _ refl)
    (s_row (s_texted 22 _ λ t. s_give _ refl)
    (s_row (s_texted 23 _ λ t. s_give _ refl)
    (s_row (s_number 24 _ λ n. s_then (s_bools (λ k. entry 24 k ∷ []) n) λ b. s_give _ refl)
    (s_row (s_counted 25 Term.ContextField texts s_text λ ts. refl)
    (s_row (s_counted 26 Term.ScopeField texts s_text λ ts. refl)
    (s_row (s_texted 27 _ λ t. s_give _ refl)
    (s_row (s_no_value 28 _ (s_give _ refl))
    (s_row (s_counted 29 Term.Array terms s_term λ ts. refl)
    (s_row (s_no_value 30 _ (s_bind s_agg λ a. s_give _ refl))
    (s_row
    (s_number 31 _ λ n. s_then (s_ariths (λ k. entry 31 k ∷ []) n) λ op. s_bind s_term λ l. s_bind s_term λ r. s_give _ refl)
    (s_row (s_texted 32 _ λ t. s_give _ refl)
    (s_row (s_texted 33 _ λ t. s_give _ refl)
    s_end)))))))))))))

s_aggs : RowsSpell flat_agg agg_rows
unfolding agg_rows flat_agg
s_aggs =
    s_row (s_number 34 _ λ s. s_bind s_slot λ v. s_bind s_binders λ bs. s_bind s_condition λ c. s_give _ refl)
    (s_row (s_number 35 _ λ s. s_bind s_binders λ bs. s_bind s_condition λ c. s_give _ refl)
    (s_row (s_number 36 _ λ s. s_bind s_call λ c. s_give _ refl) s_end))

s_calls : RowsSpell flat_call call_rows
unfolding call_rows flat_call
s_calls = s_row (s_number 54 _ λ s. s_bind s_text λ n. s_bind s_args λ as'. s_give _ refl) s_end

s_definitions : RowsSpell flat_def definition_rows
unfolding definition_rows flat_def
s_definitions =
    s_row
    (s_number 60 _ λ s. s_bind s_text λ n. s_bind s_params λ ps. s_bind s_body λ b. s_give _ refl)
    s_end

s_argument : Spells flat_argument [] pop_argument
unfolding pop_argument
s_argument = s_pop sorted_argument

arguments : Listing flat_argument Args.no_args Args.cons_arg length_arguments flat_arguments
unfolding flat_arguments length_arguments
arguments = record { g_nil = refl; g_cons = λ a l. refl; count_nil = refl; count_cons = λ a l. refl }

s_arguments : RowsSpell flat_argument argument_rows
unfolding argument_rows pop_texts flat_argument
s_arguments =
    s_row (s_counted 71 Arg.Field texts s_text λ ts. refl)
    (s_row (s_texted 72 _ λ t. s_give _ refl)
    (s_row (s_number 73 _ λ n. s_give _ refl)
    (s_row (s_texted 74 _ λ t. s_give _ refl)
    (s_row (s_number 75 _ λ n. s_then (s_bools (λ k. entry 75 k ∷ []) n) λ b. s_give _ refl)
    (s_row (s_counted 76 Arg.Set arguments s_argument λ items. refl) s_end)))))

s_method_calls : RowsSpell flat_method_call method_call_rows
unfolding method_call_rows pop_arguments flat_method_call
s_method_calls =
    s_row (s_number 70 _ λ s. s_bind s_text λ n. s_bind (s_list_of arguments s_argument) λ items. s_give _ refl) s_end

s_table : RowsSpell flat_item table
unfolding table flat_item
s_table =
    s_append (s_map_rows Item.condition s_conditions λ c. refl)
    (s_append (s_map_rows Item.term s_terms λ t. refl)
    (s_append (s_map_rows Item.agg s_aggs λ a. refl)
    (s_append (s_map_rows Item.call s_calls λ c. refl)
    (s_append (s_map_rows Item.definition s_definitions λ d. refl)
    (s_append (s_map_rows Item.argument s_arguments λ a. refl) (s_map_rows Item.method_call s_method_calls λ c. refl))))))

-- ------------------------------------------------------------------ stacks

data Stacked (es : List Entry) : Option Stack → Type 0 where
  stacked_none : Stacked es none
  stacked : {st : Stack} → flat_stack st ≡ es → Stacked es (some st)

push_spells : (e : Entry) (st : Stack) → Stacked (e ∷ flat_stack st) (push e st)
unfolding push restack flat_stack flat_item
push_spells e st = go (choose table (give (Item.leaf e)) e st) ((s_choose e s_table (s_give _ refl)).run st)
  where
    go : (o : Option (Item × Stack)) → Spelled flat_item (e ∷ flat_stack st) o → Stacked (e ∷ flat_stack st) (restack o)
    go none spelled_none = stacked_none
    go (some r) (spelled_some q) = stacked q

build_stacked : (es : List Entry) → Stacked es (build es)
unfolding build build_on push_on flat_stack
build_stacked [] = stacked refl
build_stacked (e ∷ es) = go (build_on (some []) es) (build_stacked es)
  where
    go : (o : Option Stack) → Stacked es o → Stacked (e ∷ es) (push_on e o)
    go none stacked_none = stacked_none
    go (some st) (stacked q) = subst (λ (fs : List Entry). Stacked (e ∷ fs) (push e st)) q (push_spells e st)

-- what was built spells what it was built from
pub build_spells : (es : List Entry) (st : Stack) → build es ≡ some st → flat_stack st ≡ es
build_spells es st h = go (subst (Stacked es) h (build_stacked es))
  where
    go : Stacked es (some st) → flat_stack st ≡ es
    go (stacked q) = q

-- ------------------------------------------------------------------ roots

-- what is taken from a stack and leaves nothing spells the stack
pub s_at_root : {A : Type 0} {f : A → List Entry} {p : Pop A} → Spells f [] p → (st : Stack) (a : A) → p st ≡ some (a, []) → f a ≡ flat_stack st
unfolding flat_stack
s_at_root {A} {f} {p} s st a h = go (subst (Spelled f (flat_stack st)) h (s.run st))
  where
    go : Spelled f (flat_stack st) (some (a, [])) → f a ≡ flat_stack st
    go (spelled_some e) = sym (append-nil (f a)) ∙ e

pub s_condition_root : Spells flat_condition [] (pop as_condition)
s_condition_root = s_pop sorted_condition

defs : Listing flat_def [] ◌∷◌ length flat_defs
unfolding flat_defs
defs = record { g_nil = refl; g_cons = λ a l. refl; count_nil = refl; count_cons = λ a l. refl }

pub s_registry_root : Spells flat_registry [] (list_of [] ◌∷◌ (pop as_definition))
unfolding flat_registry
s_registry_root = s_list_of defs s_definition

sorted_tree : (i : Item) → Sorted flat_tree i (as_tree i)
unfolding as_tree flat_item flat_tree
sorted_tree (Item.leaf e) = other
sorted_tree (Item.condition c) = sorted refl
sorted_tree (Item.term t) = sorted refl
sorted_tree (Item.agg a) = other
sorted_tree (Item.call c) = other
sorted_tree (Item.definition d) = other
sorted_tree (Item.argument a) = other
sorted_tree (Item.method_call c) = other

pub s_tree_root : Spells flat_tree [] (pop as_tree)
s_tree_root = s_pop sorted_tree

pub s_term_root : Spells flat_term [] (pop as_term)
s_term_root = s_pop sorted_term

pub s_argument_root : Spells flat_argument [] (pop as_argument)
s_argument_root = s_pop sorted_argument

sorted_provider : (i : Item) → Sorted flat_provider i (as_provider i)
unfolding as_provider flat_item flat_provider
sorted_provider (Item.leaf e) = other
sorted_provider (Item.condition c) = other
sorted_provider (Item.term t) = other
sorted_provider (Item.agg a) = other
sorted_provider (Item.call c) = other
sorted_provider (Item.definition d) = other
sorted_provider (Item.argument a) = sorted refl
sorted_provider (Item.method_call c) = sorted refl

pub s_provider_root : Spells flat_provider [] (pop as_provider)
s_provider_root = s_pop sorted_provider
