use Rattle.rx_audit.proofs.Common.{arith}
use Rattle.rx_audit.proofs.OpenListed.{hub_older, open_listed_after, nested_listed_after}
use Rattle.rx_audit.proofs.advance.relink.Goals as goal
use Rattle.std.proofs.Common.{rules}

pub let_go-requires : goal.let_go-requires
let_go-requires c = rw c.requires.linked.listed_size c.requires.linked

pub list_new-requires-clause-linked : goal.list_new-requires-clause-linked
list_new-requires-clause-linked c = rw c.let_go.ensures.linked.listed_size c.let_go.ensures.linked

pub list_new-requires-clause-room : goal.list_new-requires-clause-room
list_new-requires-clause-room c = search rules

pub list_new-requires-clause-hubbed : goal.list_new-requires-clause-hubbed
list_new-requires-clause-hubbed c = search (rules, hub_older)

pub let_go-requires-2 : goal.let_go-requires-2
let_go-requires-2 c = rw c.requires.nested_linked.listed_size c.requires.nested_linked

pub list_nested-requires-clause-linked : goal.list_nested-requires-clause-linked
list_nested-requires-clause-linked c = rw c.let_go-2.ensures.linked.listed_size c.let_go-2.ensures.linked

pub list_nested-requires-clause-room : goal.list_nested-requires-clause-room
list_nested-requires-clause-room c = search rules

pub list_nested-requires-clause-hubbed : goal.list_nested-requires-clause-hubbed
list_nested-requires-clause-hubbed c = search (rules, hub_older)

pub note_hubs-requires-clause-known : goal.note_hubs-requires-clause-known
note_hubs-requires-clause-known c = rw c.requires.hubs.connection_size c.requires.hubs

pub note_hubs-requires-clause-room : goal.note_hubs-requires-clause-room
note_hubs-requires-clause-room c = let s = c.requires.hubs.connection_size in let r = c.requires.room in omega arith

pub returns-clause-linked : goal.returns-clause-linked
returns-clause-linked c = search rules

pub returns-clause-listed : goal.returns-clause-listed
returns-clause-listed c = search (rules, open_listed_after)

pub returns-clause-nested_linked : goal.returns-clause-nested_linked
returns-clause-nested_linked c = search rules

pub returns-clause-nested_listed : goal.returns-clause-nested_listed
returns-clause-nested_listed c = search (rules, nested_listed_after)

pub returns-clause-hubs : goal.returns-clause-hubs
returns-clause-hubs c = search rules
