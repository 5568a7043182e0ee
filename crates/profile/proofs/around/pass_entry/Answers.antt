-- `profile::around::pass_entry` meets its contract: `search` stops at one of its limits with the fitting law cited.
use Rattle.profile.proofs.Lists.{passed_condition}
use Rattle.profile.proofs.around.pass_entry.Goals as goal

pub returns-then-is_condition : goal.returns-then-is_condition
returns-then-is_condition g c =
    passed_condition _ _ c.is_condition.ensures c.if-is_condition.true c.take_item.ensures c.items_of.ensures c.add_items.ensures
