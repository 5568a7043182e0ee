-- Opening a sheet and its next condition end in a result or in a refusal of their own table (specs/Ends.antt).
-- Assumes nothing.
use Prim.Native.Nat.{ℕ}
use mathlib.Core.Path.{◌≡◌, refl}
use mathlib.Core.Logic.{inl, inr}
use mathlib.Core.List.{List, [], ◌∷◌}
use mathlib.Core.Bool.{Bool, true, false}
use lib.Dec.{leb, eqb}
use Rattle.std.specs.Prelude.{Result, Ok, Err}
use Rattle.definition.specs.Answers.{Answer, Buffers, message_alone, number_alone, tree_answer, message_answer, registry_answer}
use Rattle.definition.specs.Ends.{Nothing, TreeTape, Ends, expansion_numbers, registry_numbers}
use Rattle.definition.proofs.Ends.{more_ends, other_results, message_ends, nothing_ends, expand_ends, registry_ends}
use Rattle.sheet.specs.declared.Progress.{Progress}
use Rattle.sheet.specs.declared.SheetFault.{SheetFault}
use Rattle.sheet.specs.declared.SheetFault.TheVariants.{TooLarge, Malformed}
use Rattle.sheet.specs.Sheet.{checked, fault_number, checked_number, sheet_number, sheet_open_answer, expansion_answer, sheet_next_answer}
use Rattle.sheet.specs.Ends.{sheet_numbers, SheetOpenEnds, NextTape, SheetNextEnds}

pub sheet_open_ends : SheetOpenEnds
unfolding sheet_open_answer sheet_number
sheet_open_ends m registry sheet = go (eqb (registry_answer m registry).number 0) (checked sheet)
  where
    as_registry : Ends sheet_numbers Nothing (message_alone m) (registry_answer m registry)
    as_registry = more_ends {few = registry_numbers} tt (registry_ends m registry)

    go : (x : Bool) (r : Result Unit SheetFault)
        → Ends sheet_numbers Nothing (message_alone m) (elim x [
          | true ↦ elim (eqb (checked_number r) 0) [ true ↦ registry_answer m registry | false ↦ message_answer m (number_alone (checked_number r)) ]
          | false ↦ registry_answer m registry
        ])
    go false r = as_registry
    go true (Ok tt) = as_registry
    go true (Err TooLarge) = message_ends {numbers = sheet_numbers} tt tt 57 tt m
    go true (Err Malformed) = message_ends {numbers = sheet_numbers} tt tt 2 tt m

pub sheet_next_ends : SheetNextEnds
unfolding sheet_next_answer expansion_answer
sheet_next_ends b registry sheet p = go (eqb p.left 0)
  where
    go : (x : Bool) → Ends expansion_numbers NextTape b (elim x [ true ↦ tree_answer b (number_alone 0) | false ↦ expansion_answer b registry sheet p ])
    go true = nothing_ends (inr refl) b
    go false = other_results (λ bytes t. inl t) (expand_ends b _ _ _ _)
