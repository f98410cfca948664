use Rattle.rx_audit.proofs.DueLists.{marks_noted}
use Rattle.rx_audit.proofs.EndsDue.{other_untouched}
use Rattle.rx_audit.proofs.advance.keep_other.Goals as goal

pub remark-requires-clause-no_item : goal.remark-requires-clause-no_item
remark-requires-clause-no_item c = other_untouched c.args.past.now c.args.event c.requires.other

pub note_touched-requires-clause-no_item : goal.note_touched-requires-clause-no_item
note_touched-requires-clause-no_item c = other_untouched c.args.past.now c.args.event c.requires.other

pub note_touched-requires-clause-covered : goal.note_touched-requires-clause-covered
note_touched-requires-clause-covered c = marks_noted c.args.past.now c.args.nodes.now.due.items c.requires.followed.covered
