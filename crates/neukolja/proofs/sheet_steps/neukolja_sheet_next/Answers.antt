-- `neukolja::sheet_steps::neukolja_sheet_next` meets its contract. The laws want functions as arguments, the answer and the progress that
-- are the definition's, which `search` does not build.
use mathlib.Core.Path.{ap, ◌∙◌}
use Rattle.sheet.specs.Sheet.{sheet_next_answer, sheet_next_progress}
use Rattle.neukolja.specs.Words.{progress_in}
use Rattle.neukolja.proofs.WordsWith.{words_with_lem, counts_with}
use Rattle.neukolja.proofs.sheet_steps.neukolja_sheet_next.Goals as goal

pub returns : goal.returns
returns c = let e = c.next-step.ensures in
    let given = c.progress_of-p.ensures in (
      words_with_lem _ _ _ _ _ c.write_words.ensures (e.0 ∙ ap (sheet_next_answer _ _ _) given),
      ap progress_in c.write_progress.ensures ∙ e.1 ∙ ap (sheet_next_progress _ _ _) given,
      e.2 ∙ counts_with _ _ _ _ given,
    )
