-- A tape with other codes: what an argument's become as a term's, and back. Values and text stay as they are.
-- Assumes nothing.
use Rattle.std.specs.Prelude.{ℕ, ◌+◌, ◌≤◌, ◌≡◌, List, map, Bool, eqb, length, Option, Some, None}
use Rattle.std.specs.List.{list_any}
use Rattle.std.specs.Option.{is_none, unwrap_or}
use Rattle.std.proofs.Math.Option.{Option as Maybe, none, some}
use Rattle.std.proofs.lemmas.List.Edits.{sets}
use Rattle.format.specs.Stands.{part}
use Rattle.definition.specs.Answers.{Answer, answer}
use Rattle.definition.specs.Older.{result_alone}
use Rattle.definition.specs.Provider.{turned}
use Rattle.buffer.specs.Buffer.{zeroed}
use Rattle.tape.specs.Pick.{pick}
use Rattle.tape.specs.declared.layout.Layout.{Layout}
use Rattle.provider.specs.declared.Way.{Way}
use Rattle.provider.specs.declared.Way.TheVariants.{ToTerm, ToArgument}

-- the code of the term that an argument of a code becomes
abbrev pub term_code : ℕ → Option ℕ
term_code c =
    pick (eqb c 72) (Some 23) (pick (eqb c 73) (Some 21) (pick (eqb c 74) (Some 22) (pick (eqb c 75) (Some 24) (pick (eqb c 76) (Some 29) None))))

-- and back
abbrev pub argument_code : ℕ → Option ℕ
argument_code c =
    pick (eqb c 21) (Some 73) (pick (eqb c 22) (Some 74) (pick (eqb c 23) (Some 72) (pick (eqb c 24) (Some 75) (pick (eqb c 29) (Some 76) None))))

abbrev pub turned_code : Way → ℕ → Option ℕ
turned_code ToTerm c = term_code c
turned_code ToArgument c = argument_code c

-- 0, which is no code, for one that becomes none
abbrev pub turned_or_0 : Way → ℕ → ℕ
turned_or_0 way c = unwrap_or (turned_code way c) 0

-- one of the codes becomes none
abbrev pub any_lost : Way → List ℕ → Bool
any_lost way = list_any (λ c. is_none (turned_code way c))

-- the number of the answer then: a field, or no argument
abbrev pub lost_number : Way → ℕ
lost_number ToTerm = 56
lost_number ToArgument = 58

-- a buffer with a tape in it, other codes in the place of its own, and zeros behind it
abbrev pub turned_on : List ℕ → List ℕ → List ℕ → List ℕ
turned_on m tape codes = sets (zeroed (sets m 0 tape) (length tape)) 8 codes

-- the codes of a layout
abbrev pub codes_in : List ℕ → Layout → List ℕ
codes_in s l = part s l.codes l.entries

-- the tape with its codes turned, if each becomes one
abbrev pub turned_in : Way → List ℕ → Layout → Maybe (List ℕ)
turned_in way s l = pick (any_lost way (codes_in s l)) none (some (sets s 8 (map (turned_or_0 way) (codes_in s l))))

-- a is the answer of the tape turned, or of the number where a code becomes none, in a result buffer of n bytes that has room for it
unfoldable pub AnswersTurned : Way → List ℕ → Layout → ℕ → Answer → Type 0
AnswersTurned way s l n a =
    8 + l.entries ≤ length s → length s ≤ n → a ≡ answer (λ (t : List ℕ). t) (result_alone n) (turned (lost_number way) (turned_in way s l))
