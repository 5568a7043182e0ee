-- What the node reads find at a place of a tape or of a work area: document 01's table of codes, a row a code.
-- Assumes nothing.
use Rattle.nodes.specs.declared.ArgNode.{ArgNode}
use Rattle.nodes.specs.declared.WithinNode.{WithinNode}
use Rattle.nodes.specs.declared.SlotNode.{SlotNode}
use Rattle.nodes.specs.declared.AggNode.{AggNode}
use Rattle.nodes.specs.declared.TermNode.{TermNode}
use Rattle.nodes.specs.declared.ConditionNode.{ConditionNode}
use Rattle.std.specs.Prelude.{ℕ, zero, suc, ◌+◌, ◌*◌, ◌/◌, ◌%◌, List, [], ◌∷◌, Bool, ◌&&◌, ltb, leb, eqb, length, Option, Some, None, Result, Ok, Err}
use Rattle.format.specs.Stands.{part}
use Rattle.tape.specs.Pick.{pick}
use Rattle.tape.specs.Layouts.{code_at, value_at, width_at, onward}
use Rattle.tape.specs.declared.layout.Layout.{Layout}
use Rattle.tape.specs.declared.layout.Place.{Place}
use Rattle.nodes.specs.declared.Span.{Span}
use Rattle.nodes.specs.declared.Refusal.{Refusal}
use Rattle.nodes.specs.declared.Name.{Name}
use Rattle.nodes.specs.declared.Sigil.TheVariants.{Param, Binder}
use Rattle.nodes.specs.declared.ConditionNode.TheVariants as condition
use Rattle.nodes.specs.declared.TermNode.TheVariants as term
use Rattle.nodes.specs.declared.AggNode.TheVariants as agg
use Rattle.nodes.specs.declared.SlotNode.TheVariants as slot
use Rattle.nodes.specs.declared.WithinNode.TheVariants as within
use Rattle.nodes.specs.declared.Heading.{Heading}
use Rattle.nodes.specs.declared.ArgNode.TheVariants as argument
use Rattle.nodes.specs.declared.BodyNode.{BodyNode}
use Rattle.nodes.specs.declared.BodyNode.TheVariants as body

-- ------------------------------------------------------------------ refusals

-- a span is start + 2^32 × end
unfoldable pub span_of : ℕ → Span
span_of v = record { start = v % 4294967296; end = v / 4294967296 }

unfoldable pub refusal_of : ℕ → ℕ → Refusal
refusal_of number span = record { number = number; span = span_of span }

-- no node of the sort that was asked for
abbrev pub malformed : Refusal
malformed = refusal_of 2 0

-- ------------------------------------------------------------------ cases

-- the row of a code, or else `other`
abbrev pub by_code : {A : Type 0} → List (ℕ × A) → A → ℕ → A
by_code [] other code = other
by_code (r ∷ rows) other code = pick (eqb code r.0) r.1 (by_code rows other code)

-- what was read, or else `none`
abbrev pub on_entry : {A : Type 0} → A → (ℕ → ℕ → Place → A) → Option (ℕ × ℕ × Place) → A
on_entry none f None = none
on_entry none f (Some (code, value, next)) = f code value next

abbrev pub on_value : {A : Type 0} → A → (ℕ → Place → A) → Option (ℕ × Place) → A
on_value none f None = none
on_value none f (Some (value, next)) = f value next

abbrev pub on_place : {A : Type 0} → A → (Place → A) → Option Place → A
on_place none f None = none
on_place none f (Some next) = f next

abbrev pub on_heading : {A : Type 0} → A → (Heading → Place → A) → Result (Heading × Place) Refusal → A
on_heading none f (Ok (heading, next)) = f heading next
on_heading none f (Err r) = none

abbrev pub on_body : {A : Type 0} → A → (BodyNode → Place → A) → Result (BodyNode × Place) Refusal → A
on_body none f (Ok (kind, next)) = f kind next
on_body none f (Err r) = none

-- ------------------------------------------------------------------ entries

-- whether a slice of `len` bytes holds the code and the value of entry `at`
unfoldable pub has_entry : ℕ → Layout → ℕ → Bool
has_entry len l at = ltb (l.codes + at) len && leb (l.values + 8 * at + 8) len

-- whether it holds a text of `size` bytes at a place
unfoldable pub has_text : ℕ → Layout → Place → ℕ → Bool
has_text len l p size = leb (l.text + p.text + size) len

-- the entry at a place, with the next place, if the slice holds its code, its value and its text
unfoldable pub entry_at : List ℕ → Layout → Place → Option (ℕ × ℕ × Place)
entry_at s l p =
    let width = width_at s l p.at in
    pick (has_entry (length s) l p.at && has_text (length s) l p width)
    (Some (code_at s l p.at, value_at s l p.at, onward p width))
    None

-- the value of the entry at a place, if the entry has the code
unfoldable pub expect_at : List ℕ → Layout → Place → ℕ → Option (ℕ × Place)
expect_at s l p code = on_entry None (λ found value next. pick (eqb found code) (Some (value, next)) None) (entry_at s l p)

-- ------------------------------------------------------------------ the way past entries

-- the place behind an entry with the code
abbrev pub past_entry_at : List ℕ → Layout → ℕ → Place → Option Place
past_entry_at s l code p = on_value None (λ v next. Some next) (expect_at s l p code)

-- the place behind n items, f being the way past one
unfoldable pub past_items : (Place → Option Place) → ℕ → Place → Option Place
past_items f zero p = Some p
past_items f (suc n) p = on_place None (past_items f n) (f p)

-- n texts
unfoldable pub past_texts_at : List ℕ → Layout → Place → ℕ → Option Place
past_texts_at s l p n = past_items (past_entry_at s l 40) n p

-- a parameter is 42 and 40
abbrev pub past_param_at : List ℕ → Layout → Place → Option Place
past_param_at s l p = on_place None (past_entry_at s l 40) (past_entry_at s l 42 p)

unfoldable pub past_params_at : List ℕ → Layout → Place → ℕ → Option Place
past_params_at s l p n = past_items (past_param_at s l) n p

-- a predicate's own span, its namespace, action and kind
unfoldable pub past_heading_at : List ℕ → Layout → Place → Option Place
past_heading_at s l p =
    on_value None
    (λ own list.
    on_value None
    (λ count texts. on_place None (λ action. past_texts_at s l action 2) (past_texts_at s l texts count))
    (expect_at s l list 41))
    (expect_at s l p 42)

-- a binder's type
abbrev pub type_rows : List ℕ → Layout → ℕ → Place → List (ℕ × (Option Place))
type_rows s l value next = (46, Some next) ∷ (47, past_texts_at s l next value) ∷ []

unfoldable pub past_type_at : List ℕ → Layout → Place → Option Place
past_type_at s l p = on_entry None (λ code value next. by_code (type_rows s l value next) None code) (entry_at s l p)

-- ------------------------------------------------------------------ nodes

-- the name of the entry with text at a place
abbrev pub named : Place → ℕ → Name
named p size = record { text = p.text; size = size }

abbrev pub no_condition : Result (ConditionNode × Place) Refusal
no_condition = Err malformed

unfoldable pub predicate_at : List ℕ → Layout → Place → ℕ → Result (ConditionNode × Place) Refusal
predicate_at s l p span =
    on_place no_condition (λ next. Ok (condition.Predicate span, next)) (past_heading_at s l p)

unfoldable pub comparison_at : List ℕ → Layout → Place → ℕ → Result (ConditionNode × Place) Refusal
comparison_at s l p span =
    on_value no_condition (λ op next. Ok (condition.Comparison span, next)) (expect_at s l p 53)

unfoldable pub refine_at : List ℕ → Layout → Place → ℕ → Result (ConditionNode × Place) Refusal
refine_at s l p span =
    on_value no_condition (λ own next. Ok (condition.Refine span own, next)) (expect_at s l p 42)

abbrev pub sigil_rows : ℕ → Name → Place → List (ℕ × (Result (ConditionNode × Place) Refusal))
sigil_rows span name next =
    (58, Ok (condition.SigilRef span Param name, next)) ∷ (59, Ok (condition.SigilRef span Binder name, next)) ∷ []

unfoldable pub sigil_at : List ℕ → Layout → Place → ℕ → Result (ConditionNode × Place) Refusal
sigil_at s l p span =
    on_entry no_condition (λ code value next. by_code (sigil_rows span (named p value) next) no_condition code) (entry_at s l p)

abbrev pub condition_rows : List ℕ → Layout → ℕ → Place → List (ℕ × (Result (ConditionNode × Place) Refusal))
condition_rows s l value next =
    (1, Ok (condition.And value, next))
    ∷ (2, Ok (condition.Or value, next))
    ∷ (3, Ok (condition.Not value, next))
    ∷ (4, Ok (condition.Formerly value, next))
    ∷ (5, Ok (condition.Previous value, next))
    ∷ (6, Ok (condition.Since value, next))
    ∷ (7, predicate_at s l next value)
    ∷ (8, comparison_at s l next value)
    ∷ (9, Ok (condition.Exists value, next))
    ∷ (10, Ok (condition.Tp value, next))
    ∷ (11, Ok (condition.Call value, next))
    ∷ (12, sigil_at s l next value)
    ∷ (13, refine_at s l next value)
    ∷ []

unfoldable pub condition_at : List ℕ → Layout → Place → Result (ConditionNode × Place) Refusal
condition_at s l p =
    on_entry no_condition (λ code value next. by_code (condition_rows s l value next) no_condition code) (entry_at s l p)

abbrev pub no_term : Result (TermNode × Place) Refusal
no_term = Err malformed

-- a term of n texts
unfoldable pub path_at : List ℕ → Layout → Place → ℕ → Result (TermNode × Place) Refusal
path_at s l p n = on_place no_term (λ next. Ok (term.Plain, next)) (past_texts_at s l p n)

abbrev pub term_rows : List ℕ → Layout → Place → ℕ → Place → List (ℕ × (Result (TermNode × Place) Refusal))
term_rows s l p value next =
    (20, path_at s l next 2)
    ∷ (21, Ok (term.Plain, next))
    ∷ (22, Ok (term.Plain, next))
    ∷ (23, Ok (term.Plain, next))
    ∷ (24, Ok (term.Plain, next))
    ∷ (25, path_at s l next value)
    ∷ (26, path_at s l next value)
    ∷ (27, Ok (term.Var (named p value), next))
    ∷ (28, Ok (term.Plain, next))
    ∷ (29, Ok (term.Array value, next))
    ∷ (30, Ok (term.Agg, next))
    ∷ (31, Ok (term.Arith, next))
    ∷ (32, Ok (term.ParamRef (named p value), next))
    ∷ (33, Ok (term.BinderRef (named p value), next))
    ∷ []

unfoldable pub term_at : List ℕ → Layout → Place → Result (TermNode × Place) Refusal
term_at s l p = on_entry no_term (λ code value next. by_code (term_rows s l p value next) no_term code) (entry_at s l p)

abbrev pub no_agg : Result (AggNode × Place) Refusal
no_agg = Err malformed

abbrev pub agg_rows : ℕ → Place → List (ℕ × (Result (AggNode × Place) Refusal))
agg_rows value next =
    (34, Ok (agg.Sum value, next))
    ∷ (35, Ok (agg.Count value, next))
    ∷ (36, Ok (agg.Call value, next))
    ∷ []

unfoldable pub agg_at : List ℕ → Layout → Place → Result (AggNode × Place) Refusal
agg_at s l p = on_entry no_agg (λ code value next. by_code (agg_rows value next) no_agg code) (entry_at s l p)

abbrev pub no_slot : Result (SlotNode × Place) Refusal
no_slot = Err malformed

abbrev pub slot_rows : Name → Place → List (ℕ × (Result (SlotNode × Place) Refusal))
slot_rows name next =
    (43, Ok (slot.Name name, next))
    ∷ (44, Ok (slot.ParamRef name, next))
    ∷ (45, Ok (slot.BinderRef name, next))
    ∷ []

unfoldable pub slot_at : List ℕ → Layout → Place → Result (SlotNode × Place) Refusal
slot_at s l p = on_entry no_slot (λ code value next. by_code (slot_rows (named p value) next) no_slot code) (entry_at s l p)

abbrev pub no_within : Result (WithinNode × Place) Refusal
no_within = Err malformed

abbrev pub within_rows : Name → Place → List (ℕ × (Result (WithinNode × Place) Refusal))
within_rows name next =
    (48, Ok (within.Concrete, next))
    ∷ (49, Ok (within.Concrete, next))
    ∷ (50, Ok (within.Concrete, next))
    ∷ (51, Ok (within.Concrete, next))
    ∷ (52, Ok (within.ParamRef name, next))
    ∷ (64, Ok (within.Concrete, next))
    ∷ []

unfoldable pub within_at : List ℕ → Layout → Place → Result (WithinNode × Place) Refusal
within_at s l p = on_entry no_within (λ code value next. by_code (within_rows (named p value) next) no_within code) (entry_at s l p)

abbrev pub no_heading : Result (Heading × Place) Refusal
no_heading = Err malformed

-- a call (54) or a definition (60): its span, its name, and how many arguments or parameters follow
unfoldable pub heading_at : List ℕ → Layout → Place → ℕ → Result (Heading × Place) Refusal
heading_at s l p code =
    on_value no_heading
    (λ span name.
    on_value no_heading
    (λ size list.
    on_value no_heading
    (λ count next. Ok (record { span = span; name = named name size; count = count }, next))
    (expect_at s l list 41))
    (expect_at s l name 40))
    (expect_at s l p code)

-- the parameter at a place: its span (42) and its name (40)
unfoldable pub param_at : List ℕ → Layout → Place → Option (Name × Place)
param_at s l p =
    on_value None (λ span at. on_value None (λ size next. Some (named at size, next)) (expect_at s l at 40))
    (expect_at s l p 42)

abbrev pub no_argument : Result (ArgNode × Place) Refusal
no_argument = Err malformed

abbrev pub argument_rows : Place → List (ℕ × (Result (ArgNode × Place) Refusal))
argument_rows next =
    (55, Ok (argument.Condition, next))
    ∷ (56, Ok (argument.Term, next))
    ∷ (57, Ok (argument.Within, next))
    ∷ []

unfoldable pub argument_at : List ℕ → Layout → Place → Result (ArgNode × Place) Refusal
argument_at s l p = on_entry no_argument (λ code value next. by_code (argument_rows next) no_argument code) (entry_at s l p)

abbrev pub no_body : Result (BodyNode × Place) Refusal
no_body = Err malformed

abbrev pub body_rows : Place → List (ℕ × (Result (BodyNode × Place) Refusal))
body_rows next =
    (61, Ok (body.Cedar, next)) ∷ (62, Ok (body.Condition, next)) ∷ (63, Ok (body.Value, next)) ∷ []

unfoldable pub body_at : List ℕ → Layout → Place → Result (BodyNode × Place) Refusal
body_at s l p = on_entry no_body (λ code value next. by_code (body_rows next) no_body code) (entry_at s l p)

-- ------------------------------------------------------------------ names

-- the text that spells a name, or nothing where it runs past the slice's end
unfoldable pub name_at : List ℕ → Layout → Name → List ℕ
name_at s l n = pick (leb (l.text + n.text + n.size) (length s)) (part s (l.text + n.text) n.size) []
