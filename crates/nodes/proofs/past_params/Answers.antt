-- `nodes::past_params` meets its contract: each call of the fold is the way past one parameter. That is a function, which `search` does not build.
use Rattle.std.proofs.Common.{rules, refl}
use native.Mathlib.Nat.{sub-zero}
use Rattle.std.proofs.lemmas.Iterator.{YieldsList-from_range}
use Rattle.nodes.specs.Node.{past_params_at, past_param_at}
use Rattle.nodes.proofs.Items.{items_passed}
use Rattle.nodes.proofs.past_params.Goals as goal

pub returns : goal.returns
unfolding past_params_at
returns c =
    let t = c.args.tape.now in
    let n = c.args.count in
    items_passed _ _ _ (past_param_at t.bytes.now t.layout) _ (λ p i x k q. search rules) n (YieldsList-from_range 0 n n refl (sub-zero n)) c.try_fold.ensures.ran
