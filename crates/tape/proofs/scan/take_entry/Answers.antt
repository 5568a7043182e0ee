-- `tape::scan::take_entry`: the laws of a turn speak of the head that was read, which their conclusions do not name, so `search` is told
-- it.
use Rattle.std.proofs.Common.{rules}
use Rattle.grammar.specs.Waits.{longest_in}
use Rattle.grammar.specs.Words.{rules as rules_of}
use Rattle.tape.proofs.Turns.{turn_refused, turn_unwritten, turn_taken}
use Rattle.tape.proofs.scan.take_entry.Goals as goal

-- src/scan.rt:69:9
pub returns-then-not-accepts-clause-turned : goal.returns-then-not-accepts-clause-turned
returns-then-not-accepts-clause-turned g c = turn_refused (rules_of c.args.grammar) (longest_in c.args.longest) c.args.tape.now.bytes.now c.args.tape.now.layout c.args.stack.now.items c.args.at c.args.text c.args.cell (search rules) c.head_at-e.result (search rules) (search rules)

-- src/scan.rt:72:9
pub returns-then-not-text_passes-clause-turned : goal.returns-then-not-text_passes-clause-turned
returns-then-not-text_passes-clause-turned g c = turn_unwritten (rules_of c.args.grammar) (longest_in c.args.longest) c.args.tape.now.bytes.now c.args.tape.now.layout c.args.stack.now.items c.args.at c.args.text c.args.cell (search rules) c.head_at-e.result (search rules) (search rules)

-- src/scan.rt:53:1
pub returns-clause-turned : goal.returns-clause-turned
returns-clause-turned g c = turn_taken (rules_of c.args.grammar) (longest_in c.args.longest) c.args.tape.now.bytes.now c.args.tape.now.layout c.args.stack.now.items c.args.at c.args.text c.args.cell (search rules) c.head_at-e.result (search rules) (search rules) (search rules) c.exceeds-over.result (search rules) c.advance.new.stack.items (search rules)
