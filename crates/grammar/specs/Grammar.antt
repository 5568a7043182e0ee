-- Document 01's table "Codes on the tape": what may stand at a place (its sort), and the sorts of what follows.
-- Assumes nothing.
use Rattle.std.specs.Prelude.{ℕ, List, [], ◌∷◌, Bool, true, false, replicate}

-- the sorts
abbrev pub condition : ℕ
condition = 1

abbrev pub term : ℕ
term = 2

abbrev pub aggregate : ℕ
aggregate = 3

abbrev pub text : ℕ
text = 4

abbrev pub span : ℕ
span = 5

abbrev pub slot : ℕ
slot = 6

abbrev pub type : ℕ
type = 7

abbrev pub within : ℕ
within = 8

abbrev pub interval : ℕ
interval = 9

abbrev pub operator : ℕ
operator = 10

abbrev pub call : ℕ
call = 11

abbrev pub argument : ℕ
argument = 12

abbrev pub sigil : ℕ
sigil = 13

abbrev pub definition : ℕ
definition = 14

abbrev pub body : ℕ
body = 15

-- from here on what follows is said by the sort: a field is 40 and a term, a parameter 42 and 40, a binding a slot and a type
abbrev pub field : ℕ
field = 16

abbrev pub parameter : ℕ
parameter = 17

abbrev pub binding : ℕ
binding = 18

-- lists: 41 and its items
abbrev pub texts : ℕ
texts = 19

abbrev pub fields : ℕ
fields = 20

abbrev pub bindings : ℕ
bindings = 21

abbrev pub arguments : ℕ
arguments = 22

abbrev pub parameters : ℕ
parameters = 23

-- the root of a registry, which stands in no row
abbrev pub definitions : ℕ
definitions = 24

-- what follows an entry: one of each sort, or as many of one sort as its value says
pub data Follows : Type 0 where
  once : (ss : List ℕ) → Follows
  each : (s : ℕ) → Follows

abbrev pub sorts_of : Follows → ℕ → List ℕ
sorts_of (once ss) v = ss
sorts_of (each s) v = replicate v s

-- the codes from low to high
pub record Range : Type 0 where
  pub low : ℕ
  pub high : ℕ

abbrev pub range : ℕ → ℕ → Range
range low high = record { low = low; high = high }

-- A sort: the codes that may stand at a place of it, two ranges at the most, the lower first; what follows there, where the sort says it
-- and not the code; and whether it is a list of at most 16.
pub record Sort : Type 0 where
  pub ranges : List Range
  pub own : Follows
  pub few : Bool

-- the codes say what follows
abbrev pub codes : ℕ → ℕ → Sort
codes low high = record { ranges = range low high ∷ []; own = once []; few = false }

-- the same with a code more, above them
abbrev pub codes_and : ℕ → ℕ → ℕ → Sort
codes_and low high one = record { ranges = range low high ∷ range one one ∷ []; own = once []; few = false }

-- the sort says it
abbrev pub codes_with : ℕ → ℕ → Follows → Sort
codes_with low high own = record { ranges = range low high ∷ []; own = own; few = false }

-- a list, 41 and its items; and one of at most 16
abbrev pub list_of : ℕ → Sort
list_of s = codes_with 41 41 (each s)

abbrev pub short_list_of : ℕ → Sort
short_list_of s = record { ranges = range 41 41 ∷ []; own = each s; few = true }

-- no code is of this sort
abbrev pub no_sort : Sort
no_sort = record { ranges = []; own = once []; few = false }

-- the sorts by their numbers; 0 is none
abbrev pub sorts : List Sort
sorts =
    no_sort
    ∷ codes 1 13  -- condition
    ∷ codes 20 33  -- term
    ∷ codes 34 36  -- aggregate
    ∷ codes 40 40  -- text
    ∷ codes 42 42  -- span
    ∷ codes 43 45  -- slot
    ∷ codes 46 47  -- type
    ∷ codes_and 48 52 64  -- within
    ∷ codes_and 48 51 64  -- interval
    ∷ codes 53 53  -- operator
    ∷ codes 54 54  -- call
    ∷ codes 55 57  -- argument
    ∷ codes 58 59  -- sigil
    ∷ codes 60 60  -- definition
    ∷ codes 61 63  -- body
    ∷ codes_with 40 40 (once (term ∷ []))  -- field
    ∷ codes_with 42 42 (once (text ∷ []))  -- parameter
    ∷ codes_with 43 45 (once (type ∷ []))  -- binding
    ∷ list_of text
    ∷ list_of field
    ∷ list_of binding
    ∷ list_of argument
    ∷ short_list_of parameter
    ∷ list_of definition
    ∷ []

-- what a scan asks of a code: whether its value is a text's length, of up to 255 bytes, or of a name's; whether it counts in nesting,
-- and for two more in an input; and whether it is a call
pub data Mark : Type 0 where
  is_text : Mark
  is_long : Mark
  is_name : Mark
  is_node : Mark
  is_two_more : Mark
  is_call : Mark

-- how many values an entry may have, from 0 on, or `any`; what follows it; and its marks
pub record Row : Type 0 where
  pub values : ℕ
  pub follows : Follows
  pub marks : List Mark

-- any value: a span, a text's length, a count, an integer or an amount
abbrev pub any : ℕ
any = 0

abbrev pub row : ℕ → List ℕ → Row
row values ss = record { values = values; follows = once ss; marks = [] }

abbrev pub counts : ℕ → Row
counts s = record { values = any; follows = each s; marks = [] }

-- a text's length
abbrev pub spelled : Row
spelled = record { values = any; follows = once []; marks = Mark.is_text ∷ [] }

-- the same with a mark more
abbrev pub marked : Mark → Row → Row
marked m r = record { values = r.values; follows = r.follows; marks = m ∷ r.marks }

abbrev pub node : Row → Row
node r = marked Mark.is_node r

abbrev pub long : Row → Row
long r = marked Mark.is_long r

abbrev pub name : Row → Row
name r = marked Mark.is_name r

-- no such code
abbrev pub unused : Row
unused = row 1 []

-- the codes from 0 on
abbrev pub rows : List Row
rows =
    unused
    ∷ node (row any (condition ∷ condition ∷ []))  -- 1 And
    ∷ marked Mark.is_two_more (node (row any (condition ∷ condition ∷ [])))  -- 2 Or: a negation, a conjunction, a negation
    ∷ node (row any (condition ∷ []))  -- 3 Not
    ∷ node (row any (within ∷ condition ∷ []))  -- 4 Formerly
    ∷ node (row any (within ∷ condition ∷ []))  -- 5 Previous
    ∷ node (row any (condition ∷ within ∷ condition ∷ []))  -- 6 Since
    ∷ node (row any (span ∷ texts ∷ text ∷ text ∷ fields ∷ []))  -- 7 Predicate
    ∷ node (row any (operator ∷ term ∷ term ∷ []))  -- 8 Comparison
    ∷ node (row any (slot ∷ type ∷ condition ∷ []))  -- 9 Exists
    ∷ node (row any (slot ∷ []))  -- 10 Tp
    ∷ node (row any (call ∷ []))  -- 11 Call
    ∷ node (row any (sigil ∷ []))  -- 12 SigilRef
    ∷ node (row any (span ∷ condition ∷ fields ∷ []))  -- 13 Refine
    ∷ unused
    ∷ unused
    ∷ unused
    ∷ unused
    ∷ unused
    ∷ unused
    ∷ node (row 1 (text ∷ text ∷ []))  -- 20 Entity
    ∷ node (row any [])  -- 21 Integer
    ∷ node (long spelled)  -- 22 Decimal
    ∷ node (long spelled)  -- 23 String
    ∷ node (row 2 [])  -- 24 Bool
    ∷ node (counts text)  -- 25 ContextField
    ∷ node (counts text)  -- 26 ScopeField
    ∷ node (name spelled)  -- 27 Var
    ∷ node (row 1 [])  -- 28 Wildcard
    ∷ node (counts term)  -- 29 Array
    ∷ node (row 1 (aggregate ∷ []))  -- 30 Agg
    ∷ node (row 3 (term ∷ term ∷ []))  -- 31 Arith
    ∷ node spelled  -- 32 ParamRef
    ∷ node spelled  -- 33 BinderRef
    ∷ node (row any (slot ∷ bindings ∷ condition ∷ []))  -- 34 Sum
    ∷ node (row any (bindings ∷ condition ∷ []))  -- 35 Count
    ∷ node (row any (call ∷ []))  -- 36 aggregate Call
    ∷ unused
    ∷ unused
    ∷ unused
    ∷ spelled  -- 40 text
    ∷ row any []  -- 41 list: what follows is the sort's
    ∷ row any []  -- 42 span
    ∷ name spelled  -- 43 slot Name
    ∷ spelled  -- 44 slot ParamRef
    ∷ spelled  -- 45 slot BinderRef
    ∷ row 1 []  -- 46 type Timepoint
    ∷ counts text  -- 47 type Named
    ∷ row any []  -- 48 seconds
    ∷ row any []  -- 49 minutes
    ∷ row any []  -- 50 hours
    ∷ row any []  -- 51 days
    ∷ spelled  -- 52 within ParamRef
    ∷ row 6 []  -- 53 operator
    ∷ marked Mark.is_call (row any (text ∷ arguments ∷ []))  -- 54 call
    ∷ row 1 (condition ∷ [])  -- 55 argument: condition
    ∷ row 1 (term ∷ [])  -- 56 argument: term
    ∷ row 1 (interval ∷ [])  -- 57 argument: interval
    ∷ spelled  -- 58 sigil `?`
    ∷ spelled  -- 59 sigil `$`
    ∷ row any (text ∷ parameters ∷ body ∷ [])  -- 60 definition
    ∷ row 1 []  -- 61 body: Cedar
    ∷ row 1 (condition ∷ [])  -- 62 body: condition
    ∷ row 1 (term ∷ [])  -- 63 body: term
    ∷ row any []  -- 64 weeks
    ∷ unused
    ∷ unused
    ∷ unused
    ∷ unused
    ∷ unused
    ∷ unused
    ∷ unused
    ∷ long spelled  -- 72 a provider's string, which no sort has here: its value is a text's length on every tape
    ∷ unused
    ∷ long spelled  -- 74 a provider's decimal
    ∷ unused
    ∷ unused  -- 76
    ∷ []
