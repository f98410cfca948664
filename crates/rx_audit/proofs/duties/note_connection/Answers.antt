use Rattle.rx_audit.proofs.DueLists.{keeps_more, lost_one, lost_none}
use Rattle.rx_audit.proofs.duties.note_connection.Goals as goal
use Rattle.std.proofs.Common.{rules}

pub returns-in_ok-push-clause-keeps : goal.returns-in_ok-push-clause-keeps
returns-in_ok-push-clause-keeps c = rw c.in_ok-push.ensures.items (keeps_more c.args.due.now.items c.in-Some.c)

pub returns-in_ok-push-clause-lost : goal.returns-in_ok-push-clause-lost
returns-in_ok-push-clause-lost c = search (rules, lost_one)

pub returns-in_default-clause-lost : goal.returns-in_default-clause-lost
returns-in_default-clause-lost c = search (rules, lost_none)
