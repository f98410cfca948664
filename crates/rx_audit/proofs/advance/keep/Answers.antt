use Rattle.rx_audit.proofs.Common.{sym, ◌∙◌}
use Rattle.rx_audit.proofs.MarksAfterItem.{item_of}
use Rattle.rx_audit.proofs.advance.keep.Goals as goal

pub keep_item-requires-clause-reached : goal.keep_item-requires-clause-reached
keep_item-requires-clause-reached c = let made = item_of _ _ (sym c.leaf_of.ensures ∙ c.in-Some.is) in c.requires.climbed _ made.0 made.1
