use Rattle.rx_audit.proofs.Marking.{source_changes, notifier_changes, inner_changes, decline_changes, end_changes, children_few, inner_owes, decline_owes}
use Rattle.rx_audit.proofs.Marking.{end_counted}
use Rattle.rx_audit.proofs.nodes.changed.Goals as goal
use Rattle.std.proofs.Common.{rules}

pub open_source-requires : goal.open_source-requires
open_source-requires c = search (rules, children_few)

pub open_notifier-requires : goal.open_notifier-requires
open_notifier-requires c = search (rules, children_few)

pub open_inner-requires-clause-room : goal.open_inner-requires-clause-room
open_inner-requires-clause-room c = search (rules, children_few)

pub open_inner-requires-clause-owes : goal.open_inner-requires-clause-owes
open_inner-requires-clause-owes c = search (rules, inner_owes)

pub decline-requires : goal.decline-requires
decline-requires c = search (rules, decline_owes)

pub end_child-requires : goal.end_child-requires
end_child-requires c = search (rules, end_counted)

pub returns-in-Source : goal.returns-in-Source
returns-in-Source c = search (rules, source_changes)

pub returns-in-Notifier : goal.returns-in-Notifier
returns-in-Notifier c = search (rules, notifier_changes)

pub returns-in-Inner : goal.returns-in-Inner
returns-in-Inner c = search (rules, inner_changes)

pub returns-in-Decline : goal.returns-in-Decline
returns-in-Decline c = search (rules, decline_changes)

pub returns-in-End : goal.returns-in-End
returns-in-End c = search (rules, end_changes)
