-- `expansion::expand_lent` meets its contract: `search` stops at one of its limits with the fitting law cited.
use mathlib.Core.Path.{refl, sym, ◌∙◌}
use Rattle.definition.specs.Answers.{number_alone}
use Rattle.format.proofs.Accepted.{bytes_all}
use Rattle.expand_counts.proofs.Adding.{all_bounded}
use Rattle.expansion.proofs.Operation.{short, refused, expanded, expanded_rewritten}
use Rattle.expansion.proofs.expand_lent.Goals as goal

-- a buffer is too short
pub returns-then-not-long_buffers : goal.returns-then-not-long_buffers
unfolding number_alone
returns-then-not-long_buffers c =
    short _ _ _ _ _ _ _ (bytes_all _ (λ i. (c.type_inv.reg i).fits)) (bytes_all _ (λ i. (c.type_inv.input i).fits)) _
    (sym c.long_buffers.ensures ∙ c.if-not-long_buffers.true) c.number_alone.ensures

-- no tape has an Or
pub returns-then-without_or : goal.returns-then-without_or
returns-then-without_or c =
    expanded _ _ _ _ _ _ _ (bytes_all _ (λ i. (c.type_inv.reg i).fits)) (bytes_all _ (λ i. (c.type_inv.input i).fits)) _
    c.ranges.limit.fits (all_bounded _ (λ i. (c.slice_known-4-1.given i).fits)) (sym c.long_buffers.ensures ∙ c.if-not-long_buffers.false)
    (sym c.accept_two.ensures ∙ c.in-Ok.is) _ _ refl refl (sym c.without_or.ensures ∙ c.if-without_or.true) c.expand_in.ensures

-- one has
pub returns-else-without_or : goal.returns-else-without_or
returns-else-without_or c =
    expanded_rewritten _ _ _ _ _ _ _ (bytes_all _ (λ i. (c.type_inv.reg i).fits)) (bytes_all _ (λ i. (c.type_inv.input i).fits)) _
    c.ranges.limit.fits (all_bounded _ (λ i. (c.slice_known-4-1.given i).fits)) (sym c.long_buffers.ensures ∙ c.if-not-long_buffers.false)
    (sym c.accept_two.ensures ∙ c.in-Ok.is) _ _ refl refl c.expand_rewritten.ensures

-- a tape is refused
pub returns-in-Err : goal.returns-in-Err
unfolding number_alone
returns-in-Err c =
    refused _ _ _ _ _ _ _ (bytes_all _ (λ i. (c.type_inv.reg i).fits)) (bytes_all _ (λ i. (c.type_inv.input i).fits)) _
    (sym c.long_buffers.ensures ∙ c.if-not-long_buffers.false) (sym c.accept_two.ensures ∙ c.in-Err.is)
    (rw c.number.ensures at c.number_alone-in-Err.ensures)
