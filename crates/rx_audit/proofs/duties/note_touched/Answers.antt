use Rattle.rx_audit.proofs.Common.{sym}
use Rattle.rx_audit.proofs.DueListCovers.{covered_more, covered_same}
use Rattle.rx_audit.proofs.DueLists.{keeps_more}
use Rattle.rx_audit.proofs.duties.note_touched.Goals as goal

pub returns-in_ok-push-clause-covered : goal.returns-in_ok-push-clause-covered
returns-in_ok-push-clause-covered c = rw c.in_ok-push.ensures.items (covered_more _ _ _ c.requires.lawful c.requires.next c.requires.no_item (sym
    c.in-Some.ensures) c.requires.covered)

pub returns-in_ok-push-clause-keeps : goal.returns-in_ok-push-clause-keeps
returns-in_ok-push-clause-keeps c = rw c.in_ok-push.ensures.items (keeps_more c.args.due.now.items c.in-Some.p)

pub returns-in_default-clause-covered : goal.returns-in_default-clause-covered
returns-in_default-clause-covered c = covered_same c.args.past.now c.args.event c.args.due.now.items c.requires.lawful c.requires.next
    c.requires.no_item (sym c.in_default.ensures) c.requires.covered
