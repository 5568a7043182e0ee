-- `judge::judge` meets its contract: `search` does not build the function by which each byte is one.
use mathlib.Core.Path.{sym, ◌∙◌}
use Rattle.definition.specs.Answers.{number_alone}
use Rattle.format.proofs.Accepted.{bytes_all}
use Rattle.judge.proofs.Operation.{as_opened, third_refused, answers_refused, answers_equal, answers_other, same_buffers}
use Rattle.judge.proofs.judge.Goals as goal

-- the third tape is refused
pub returns-in-Err-accept_named : goal.returns-in-Err-accept_named
unfolding number_alone
returns-in-Err-accept_named c =
    third_refused _ _ _ _ _ _ _ _ (bytes_all _ (λ i. (c.type_inv.registry i).fits)) (bytes_all _ (λ i. (c.type_inv.input i).fits)) (bytes_all _ (λ i. (c.type_inv.supplied i).fits))
    (sym c.long_buffers.ensures ∙ c.if-not-long_buffers.false) (sym c.accept_two.ensures ∙ c.in-Ok.is)
    (as_opened _ _ c.longest_name.ensures c.accept_named.ensures c.in-Err-accept_named.is)
    (rw c.number-in-Err-accept_named.ensures at c.number_alone-in-Err-accept_named.ensures)

-- the expansion is refused
pub returns-then-answer-ne-OK : goal.returns-then-answer-ne-OK
returns-then-answer-ne-OK c =
    answers_refused _ _ _ _ _ _ _ _ (bytes_all _ (λ i. (c.type_inv.registry i).fits)) (bytes_all _ (λ i. (c.type_inv.input i).fits)) (bytes_all _ (λ i. (c.type_inv.supplied i).fits))
    (sym c.long_buffers.ensures ∙ c.if-not-long_buffers.false) (sym c.accept_two.ensures ∙ c.in-Ok.is)
    (as_opened _ _ c.longest_name.ensures c.accept_named.ensures c.in-Ok-accept_named.is) c.expand_lent-answer.ensures.0 c.if-answer-ne-OK.true

pub returns-then-is_ours : goal.returns-then-is_ours
returns-then-is_ours c =
    answers_equal _ _ _ _ _ _ _ _ (bytes_all _ (λ i. (c.type_inv.registry i).fits)) (bytes_all _ (λ i. (c.type_inv.input i).fits)) (bytes_all _ (λ i. (c.type_inv.supplied i).fits))
    (sym c.long_buffers.ensures ∙ c.if-not-long_buffers.false) (sym c.accept_two.ensures ∙ c.in-Ok.is)
    (as_opened _ _ c.longest_name.ensures c.accept_named.ensures c.in-Ok-accept_named.is) c.ranges.limit.fits c.ranges.file.fits c.expand_lent-answer.ensures.0 (λ i. (c.slice_known-4-1.given i).fits)
    c.if-answer-ne-OK.false c.is_ours.ensures c.if-is_ours.true

pub returns : goal.returns
returns c =
    let x = c.expand_lent-answer in
    answers_other _ _ _ _ _ _ _ _ (bytes_all _ (λ i. (c.type_inv.registry i).fits)) (bytes_all _ (λ i. (c.type_inv.input i).fits)) (bytes_all _ (λ i. (c.type_inv.supplied i).fits))
    (sym c.long_buffers.ensures ∙ c.if-not-long_buffers.false) (sym c.accept_two.ensures ∙ c.in-Ok.is)
    (as_opened _ _ c.longest_name.ensures c.accept_named.ensures c.in-Ok-accept_named.is) c.ranges.limit.fits c.ranges.file.fits x.ensures.0 (λ i. (c.slice_known-4-1.given i).fits)
    c.if-answer-ne-OK.false c.is_ours.ensures c.if-is_ours.false (same_buffers x.auto.res x.auto.work x.auto.message) c.number_alone-2.ensures
