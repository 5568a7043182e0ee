-- By hand, since the laws want the two parts as functions of the pair.
use native.Mathlib.Omega.{arith}
use Rattle.sheet.specs.Sheet.{size_of}
use Rattle.sheet.proofs.Front.{split_none, split_behind}
use Rattle.sheet.proofs.split_condition.Goals as goal

pub returns-in_err-behind : goal.returns-in_err-behind
returns-in_err-behind c = split_none _ (λ p. p.0.now) (λ p. p.1.now) _ c.from_residual.ensures (omega (arith, c.in_err-behind.ensures.cases))

pub returns : goal.returns
unfolding size_of
returns c = split_behind _ (λ p. p.0.now) (λ p. p.1.now) _ c.in_ok-behind.ensures.cases.0 c.in_ok-behind.ensures.cases.2 c.read_size.ensures c.split_at_checked-2.ensures.cases
