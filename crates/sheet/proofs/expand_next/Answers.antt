-- By hand, since the three clauses follow from one call: `search` takes each apart from the others.
use Rattle.format.proofs.Accepted.{bytes_all}
use Rattle.sheet.proofs.Stepping.{expanded_next}
use Rattle.sheet.proofs.expand_next.Goals as goal

pub returns : goal.returns
returns c = let registry = bytes_all _ (λ i. (c.shared_slice_known-1.given i).fits) in
    let sheet = bytes_all _ (λ i. (c.shared_slice_known-2-1.given i).fits) in
    expanded_next _ _ _ _ _ registry sheet c.limit_of.ensures c.file_of.ensures c.condition_at-condition.ensures c.expand_lent.ensures
