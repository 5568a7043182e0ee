-- Provider tapes (document 02, point 11): what a scan by their table passes over, and the trees of its sorts, from entries back.
-- Assumes nothing.
use Prim.Native.Nat.{ℕ}
use mathlib.Core.Path.{refl}
use mathlib.Core.Bool.{true}
use mathlib.Core.List.{List, [], ◌∷◌}
use lib.Dec.{eqb}
use lib.ListN.{length, replicate}
use Rattle.format.specs.Entry.{Text, Entry, entry, text_entry}
use Rattle.format.specs.Flat.{flat_texts, flat_bool}
use Rattle.format.specs.Limits.{weigh}
use Rattle.format.specs.Macro.{is_code}
use Rattle.format.specs.Provider.{Arg, Args, Provider, length_arguments, flat_argument, flat_arguments, flat_method_call, flat_provider, deep_argument, deep_arguments, deep_provider}
use Rattle.format.specs.Tape.{is_text, text_width}
use Rattle.grammar.specs.Pick.{pick}
use Rattle.grammar.specs.Provider as sort
use Rattle.grammar.specs.Words.{provider_grammar, follows_of}
use Rattle.grammar.proofs.ProviderMarks.{is_argument, provider}
use Rattle.tape.proofs.Found.{Language}
use Rattle.tape.proofs.Passing.{PassesBy, none, ◌then◌, ◌before◌, node, tip, plain}
use Rattle.tape.proofs.Shapes.{Shape, shape, no_shape, Typed, flat_at, All, joined_all, valued_as, spanned, spelt, Listed, listed, counting, bool, Each, end, ◌by◌&◌, Built, Cases, built}
use Rattle.tape.proofs.Trees.{bool_valued}

-- ------------------------------------------------------------------ what a scan passes over

abbrev pub Passes : List ℕ → List Entry → ((ℕ → ℕ) → ℕ) → Type 0
Passes ss es d = PassesBy provider ss es d true

-- to unfold this is to unfold what decides an entry of a known code
decides : Unit {0}
unfolding is_argument weigh is_text is_code text_width provider_grammar follows_of
decides = tt

-- format weighs an argument as the term of its kind; this is the argument's code, of the term's
abbrev pub code_of : ℕ → ℕ
code_of c = pick (eqb c 25) 71 (pick (eqb c 23) 72 (pick (eqb c 21) 73 (pick (eqb c 22) 74 (pick (eqb c 24) 75 76))))

abbrev pub weighed : (ℕ → ℕ) → ℕ → ℕ
weighed w c = w (code_of c)

passes_text : (t : Text) → Passes (sort.text ∷ []) (text_entry 40 t ∷ []) (λ w. 0)
unfolding decides
passes_text t = plain sort.text (text_entry 40 t) refl refl refl refl none

each_text : (ts : List Text) → Passes (replicate (length ts) sort.text) (flat_texts ts) (λ w. 0)
unfolding flat_texts
each_text [] = none
each_text (t ∷ ts) = passes_text t before each_text ts

mutual
  unfolding decides flat_argument length_arguments deep_argument

  pub passes_argument : (a : Arg) → Passes (sort.argument ∷ []) (flat_argument a) (λ w. deep_argument (weighed w) a)
  passes_argument (Arg.Field path) = tip sort.argument (entry 71 (length path)) refl refl (each_text path)
  passes_argument (Arg.String t) = tip sort.argument (text_entry 72 t) refl refl none
  passes_argument (Arg.Integer n) = tip sort.argument (entry 73 n) refl refl none
  passes_argument (Arg.Decimal t) = tip sort.argument (text_entry 74 t) refl refl none
  passes_argument (Arg.Bool b) = tip sort.argument (entry 75 (flat_bool b)) (bool_valued b) refl none
  passes_argument (Arg.Set items) = node sort.argument (entry 76 (length_arguments items)) refl refl (each_argument items)

  each_argument : (items : Args)
      → Passes (replicate (length_arguments items) sort.argument) (flat_arguments items) (λ w. deep_arguments (weighed w) items)
  each_argument Args.no_args = none
  each_argument (Args.cons_arg a rest) = passes_argument a then each_argument rest

list_arguments : (items : Args)
    → Passes (sort.arguments ∷ []) (entry 41 (length_arguments items) ∷ flat_arguments items) (λ w. deep_arguments (weighed w) items)
unfolding decides
list_arguments items = plain sort.arguments (entry 41 (length_arguments items)) refl refl refl refl (each_argument items)

-- the same at a root
pub passes_provider : (p : Provider) → Passes (sort.root ∷ []) (flat_provider p) (λ w. deep_provider (weighed w) p)
unfolding decides flat_provider flat_method_call flat_argument deep_provider deep_argument
passes_provider (Provider.call c) =
    plain sort.root (entry 70 c.span) refl refl refl refl (passes_text c.name before list_arguments c.args)
passes_provider (Provider.argument (Arg.Field path)) = tip sort.root (entry 71 (length path)) refl refl (each_text path)
passes_provider (Provider.argument (Arg.String t)) = tip sort.root (text_entry 72 t) refl refl none
passes_provider (Provider.argument (Arg.Integer n)) = tip sort.root (entry 73 n) refl refl none
passes_provider (Provider.argument (Arg.Decimal t)) = tip sort.root (text_entry 74 t) refl refl none
passes_provider (Provider.argument (Arg.Bool b)) = tip sort.root (entry 75 (flat_bool b)) (bool_valued b) refl none
passes_provider (Provider.argument (Arg.Set items)) = node sort.root (entry 76 (length_arguments items)) refl refl (each_argument items)

-- ------------------------------------------------------------------ from entries back to trees

abbrev pub shapes : List Shape
shapes =
    no_shape
    ∷ shape Provider flat_provider
    ∷ shape Arg flat_argument
    ∷ shape Text (λ t. text_entry 40 t ∷ [])
    ∷ shape Args (λ items. entry 41 (length_arguments items) ∷ flat_arguments items)
    ∷ []

texts : (n : ℕ) (xs : All shapes (replicate n sort.text)) → Listed shapes (List Text) length flat_texts sort.text n xs
unfolding flat_texts
texts = listed shapes length flat_texts sort.text [] (λ x l. x ∷ l) refl refl (λ x l. refl) (λ x l. refl)

items : (n : ℕ) (xs : All shapes (replicate n sort.argument)) → Listed shapes Args length_arguments flat_arguments sort.argument n xs
unfolding flat_arguments length_arguments
items = listed shapes length_arguments flat_arguments sort.argument Args.no_args Args.cons_arg refl refl (λ x l. refl) (λ x l. refl)

-- to unfold this is to unfold what a case computes with
cases : Unit {0}
unfolding flat_provider flat_method_call flat_argument is_text is_code text_width provider_grammar follows_of
cases = tt

arguments_of : Each (Built shapes provider_grammar sort.argument) 71 6
unfolding cases
arguments_of =
    71 by (λ v t ok h xs. let l = texts v xs in (Arg.Field l.list, counting shapes 71 v t l h)) &
    72 by (λ v t ok h xs. (Arg.String t, spelt shapes 72 v t h [] xs)) &
    73 by (λ v t ok h xs. (Arg.Integer v, spanned shapes 73 v t h [] xs)) &
    74 by (λ v t ok h xs. (Arg.Decimal t, spelt shapes 74 v t h [] xs)) &
    75 by (λ v t ok h xs. let o = bool v ok in (Arg.Bool o.0, valued_as 75 v _ t o.1 h (joined_all shapes [] xs))) &
    76 by (λ v t ok h xs. let l = items v xs in (Arg.Set l.list, counting shapes 76 v t l h)) &
    end

roots : Each (Built shapes provider_grammar sort.root) 70 7
unfolding cases
roots =
    70 by (λ v t ok h xs. (
      Provider.call (record { span = v; name = xs.0; args = xs.1.0 }),
      spanned shapes 70 v t h (sort.text ∷ sort.arguments ∷ []) xs,
    )) &
    71 by (λ v t ok h xs. let l = texts v xs in (Provider.argument (Arg.Field l.list), counting shapes 71 v t l h)) &
    72 by (λ v t ok h xs. (Provider.argument (Arg.String t), spelt shapes 72 v t h [] xs)) &
    73 by (λ v t ok h xs. (Provider.argument (Arg.Integer v), spanned shapes 73 v t h [] xs)) &
    74 by (λ v t ok h xs. (Provider.argument (Arg.Decimal t), spelt shapes 74 v t h [] xs)) &
    75 by (λ v t ok h xs. let o = bool v ok in
    (Provider.argument (Arg.Bool o.0), valued_as 75 v _ t o.1 h (joined_all shapes [] xs))) &
    76 by (λ v t ok h xs. let l = items v xs in (Provider.argument (Arg.Set l.list), counting shapes 76 v t l h)) &
    end

text : Each (Built shapes provider_grammar sort.text) 40 1
unfolding cases
text =
    40 by (λ v t ok h xs. (t, spelt shapes 40 v t h [] xs)) &
    end

list : Each (Built shapes provider_grammar sort.arguments) 41 1
unfolding cases
list =
    41 by (λ v t ok h xs. let l = items v xs in (l.list, counting shapes 41 v t l h)) &
    end

pub all_cases : Cases shapes provider_grammar
unfolding provider_grammar
all_cases =
    0 by (end, end) & 1 by (roots, end) & 2 by (arguments_of, end) & 3 by (text, end) & 4 by (list, end) & 5 by (end, end) &
    6 by (end, end) & 7 by (end, end) & 8 by (end, end) & 9 by (end, end) & 10 by (end, end) & 11 by (end, end) &
    12 by (end, end) & 13 by (end, end) & 14 by (end, end) & 15 by (end, end) & 16 by (end, end) & 17 by (end, end) &
    18 by (end, end) & 19 by (end, end) & 20 by (end, end) & 21 by (end, end) & 22 by (end, end) & 23 by (end, end) &
    24 by (end, end) & 25 by (end, end) & 26 by (end, end) & 27 by (end, end) & 28 by (end, end) & 29 by (end, end) &
    30 by (end, end) & 31 by (end, end) & end

abbrev pub provider_trees : Language provider
provider_trees = record { Tree = Typed shapes; spell = flat_at shapes; built = built shapes provider_grammar all_cases }
