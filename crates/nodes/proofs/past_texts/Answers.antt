-- `nodes::past_texts` meets its contract: each call of the fold is the way past one text. That is a function, which `search` does not build.
use Rattle.std.proofs.Common.{rules, refl}
use native.Mathlib.Nat.{sub-zero}
use Rattle.std.proofs.lemmas.Iterator.{YieldsList-from_range}
use Rattle.nodes.specs.Node.{past_texts_at, past_entry_at}
use Rattle.nodes.proofs.Items.{items_passed}
use Rattle.nodes.proofs.past_texts.Goals as goal

pub returns : goal.returns
unfolding past_texts_at
returns c =
    let t = c.args.tape.now in
    let n = c.args.count in
    items_passed _ _ _ (past_entry_at t.bytes.now t.layout 40) _ (λ p i x k q. search rules) n (YieldsList-from_range 0 n n refl (sub-zero n)) c.try_fold.ensures.ran
