-- The result of an expansion beside a supplied tape, the others as they were given or rewritten. Where they are accepted, this is the
-- comparison of the trees on them (proofs/Compared.antt).
-- Assumes nothing.
use Rattle.std.specs.Prelude.{ℕ, List, Bool, ◌&&◌, leb, eqb, replicate}
use Rattle.format.specs.Stands.{part}
use Rattle.format.specs.Tape.{from_le}
use Rattle.tape.specs.Layouts.{tape_layout}
use Rattle.tape.specs.Ors.{ors_in}
use Rattle.tape.specs.Pick.{pick}
use Rattle.tape.specs.declared.layout.Layout.{Layout}
use Rattle.de_morgan.specs.Rewritten.{rewritten_in, rewritten_layout}
use Rattle.judge_names.specs.Entries.{same_in}

-- where a tape stands at the front of a buffer, by the sizes that it begins with
unfoldable pub result_layout : List ℕ → Layout
result_layout s = pick (leb (from_le (part s 0 4)) 1024) (tape_layout (from_le (part s 0 4)) (from_le (part s 4 4))) (tape_layout 0 0)

module _ (reg : List ℕ) (d : Layout) (cond : List ℕ) (c : Layout) (sup : List ℕ) (m : Layout) where
  -- tapes without Or
  unfoldable pub equal_on : List ℕ → Bool
  equal_on result = same_in result (result_layout result) sup m reg d cond c

  abbrev pub none_has_or : Bool
  none_has_or = (eqb (ors_in reg d) 0 && eqb (ors_in cond c) 0) && eqb (ors_in sup m) 0

-- any tapes, those with an Or rewritten
unfoldable pub equal_in : List ℕ → Layout → List ℕ → Layout → List ℕ → Layout → List ℕ → Bool
equal_in reg d cond c sup m result =
    pick (none_has_or reg d cond c sup m) (equal_on reg d cond c sup m result)
    (equal_on (rewritten_in reg d (replicate 12296 0)) (rewritten_layout reg d) (rewritten_in cond c (replicate 12296 0)) (rewritten_layout cond c)
    (rewritten_in sup m (replicate 12296 0)) (rewritten_layout sup m) result)
