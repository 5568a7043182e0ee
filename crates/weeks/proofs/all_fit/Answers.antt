-- `weeks::all_fit` meets its contract: the test of each index of the range is that of the entry there.
use Rattle.std.proofs.Common.{rules, ap, ◌∙◌, ℕ}
use native.Mathlib.Nat.{sub-zero}
use borrow.Author.Tests.{tests}
use Rattle.std.proofs.lemmas.Iterator.{YieldsList-from_range}
use Rattle.std.proofs.lemmas.Iterator.Search.{all_from_yields_List}
use Rattle.format.specs.Older.{fits_older}
use Rattle.weeks.specs.Heads.{heads_at}
use Rattle.weeks.proofs.Heads.{fine, all_fine}
use Rattle.weeks.proofs.all_fit.Goals as goal

pub returns : goal.returns
returns c =
    let t = c.args.held.now.tape in
    let n = c.entries.result in
    all_from_yields_List (λ (j : ℕ). fine t.bytes.now t.layout j 0) _ _ _ c.all.ensures.ran (YieldsList-from_range 0 n n (cc) (sub-zero n)) (λ x b q k. search (rules, tests))
    ∙ all_fine t.bytes.now t.layout 0 n
    ∙ ap (λ (m : ℕ). fits_older (heads_at t.bytes.now t.layout 0 m)) c.entries.ensures
