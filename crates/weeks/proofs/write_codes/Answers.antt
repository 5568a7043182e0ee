-- `weeks::write_codes` meets its contract: what the calls make of a code is the code that the older tape has for it. That is a function,
-- which `search` does not build.
use Rattle.std.proofs.Common.{rules, ap, ◌∙◌, List, ℕ, map}
use lib.Seq.{sets}
use Rattle.buffer.specs.Buffer.{WritesEach}
use Rattle.weeks.proofs.Heads.{becomes, codes_become}
use Rattle.weeks.proofs.write_codes.Goals as goal

pub returns : goal.returns
unfolding WritesEach
returns c =
    c.write_each.ensures becomes (λ b x e. search rules)
    ∙ ap (λ (codes : List ℕ). sets c.args.res.now 8 codes) (ap (map becomes) c.codes.ensures ∙ codes_become c.args.held.now.held)
