-- A few expansions with m(x) `P{f: ?x, g: $t}`, called at 7..9, in file 0 and in file 3 (document 02, point 6): a name of the input that
-- is spelled like a generated one, a result of more than 20 entries, and results that are too large for their longer names alone. They
-- are expansions of trees: two of the strings are longer than a text of a tape may be.
-- Assumes nothing.
use Rattle.std.specs.Prelude.{ℕ, zero, suc, ◌+◌, ◌*◌, ◌^◌, List, [], ◌∷◌, replicate}
use Prim.Native.String.{String}
use Rattle.format.specs.Ast.{Condition, Term, Call, CallArg, CallArgs, NamedArgs, Tree}
use Rattle.definition.specs.Text.{utf8}
use Rattle.definition.specs.Outcome.{refusal, Outcome}
use Rattle.definition.specs.Expand.{expand}
use Rattle.definition.specs.Cases.{macro_m}

span : ℕ
span = 7 + 2 ^ 32 * 9

P : NamedArgs → Condition
P fs = Condition.Predicate 0 0 [] (utf8 "P") [] fs

-- `P{f: t, g: u}`
two : Term → Term → Condition
two t u = P (NamedArgs.cons_field (utf8 "f") t (NamedArgs.cons_field (utf8 "g") u NamedArgs.no_fields))

m : Term → Condition
m t = Condition.ConditionCall 0 (Call.MacroCall span (utf8 "m") (CallArgs.cons_arg (CallArg.TermArg t) CallArgs.no_args))

negated : ℕ → Condition → Condition
negated zero c = c
negated (suc n) c = Condition.Not 0 (negated n c)

var : String → Term
var n = Term.Var (utf8 n)

-- a string of n bytes
long : ℕ → Term
long n = Term.String (replicate n 97)

unfoldable pub expanded : (file : ℕ) → Condition → Outcome Tree
expanded file c = expand 100 file (macro_m ∷ []) c

unfoldable pub inputs : List Condition
unfolding span P two m negated var long
inputs =
    -- m(t$7)
    m (var "t$7")
    -- `P{}` negated sixteen times: 22 entries
    ∷ negated 16 (P NamedArgs.no_fields)
    -- 3,072 bytes of text with t$7, and 3,074 with t$7#3
    ∷ m (long 3066)
    -- twice 1,536, and twice 1,538
    ∷ Condition.And 0 (m (long 1530)) (m (long 1530))
    ∷ []

tree : Condition → ℕ → Outcome Tree
tree c charged = Outcome.done (Tree.condition c) charged

unfoldable pub in_file_0 : List (Outcome Tree)
unfolding P two negated var long tree
in_file_0 =
    tree (two (var "t$7") (var "t$7")) 4
    ∷ tree (negated 16 (P NamedArgs.no_fields)) 0
    ∷ tree (two (long 3066) (var "t$7")) 4
    ∷ tree (Condition.And 0 (two (long 1530) (var "t$7")) (two (long 1530) (var "t$7"))) 8
    ∷ []

unfoldable pub in_file_3 : List (Outcome Tree)
unfolding span P two negated var tree
in_file_3 =
    tree (two (var "t$7") (var "t$7#3")) 4
    ∷ tree (negated 16 (P NamedArgs.no_fields)) 0
    -- 3 with the call's span, and 3 with 0..0
    ∷ Outcome.refused (refusal 3 span []) 4
    ∷ Outcome.refused (refusal 3 0 []) 8
    ∷ []
