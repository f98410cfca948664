use Rattle.rx_book.proofs.Common.{refl, not-false, no_cause}
use Rattle.rx_book.proofs.CallWithoutCause.{one_ready, held_asked, owned_asked}
use Rattle.rx_book.proofs.Openings.{node_space}
use Rattle.rx_book.proofs.ShownKeys.{has_key_is, has_lease_key_is}
use Rattle.rx_book.proofs.call.write.Goals as goal
use Rattle.std.proofs.Common.{rules}

pub write_use-requires-clause-ready : goal.write_use-requires-clause-ready
write_use-requires-clause-ready g c κs within = search (rules, one_ready)

pub write_use-requires-clause-held : goal.write_use-requires-clause-held
write_use-requires-clause-held g c κs within = search (rules, held_asked)

pub returns-in-Apply-clause-written : goal.returns-in-Apply-clause-written
returns-in-Apply-clause-written g c = rw c.in-Apply.is c.write_use.ensures.wrote

pub write_lease-requires-clause-ready : goal.write_lease-requires-clause-ready
write_lease-requires-clause-ready g c κs within = search (rules, one_ready)

pub write_lease-requires-clause-owned : goal.write_lease-requires-clause-owned
write_lease-requires-clause-owned g c κs within = search (rules, owned_asked, not-false, no_cause)

pub write_lease-requires-clause-room : goal.write_lease-requires-clause-room
write_lease-requires-clause-room g c κs within = let a = rw c.in-Lease.is at c.requires.admitted in a.room.leases

pub returns-in-Lease-clause-written : goal.returns-in-Lease-clause-written
returns-in-Lease-clause-written g c = rw c.in-Lease.is c.write_lease.ensures.wrote

pub returns-in-Lease-clause-gives : goal.returns-in-Lease-clause-gives
returns-in-Lease-clause-gives g c = search (rules, has_lease_key_is)

pub write_hub-requires-clause-ready : goal.write_hub-requires-clause-ready
write_hub-requires-clause-ready g c κs within = let a = rw c.in-Hub.is at c.requires.admitted in one_ready g.R.Resource _ _ a.let_in _ refl

pub write_hub-requires-clause-room : goal.write_hub-requires-clause-room
write_hub-requires-clause-room g c κs within = let a = rw c.in-Hub.is at c.requires.admitted in a.room.hubs

pub returns-in-Hub-clause-written : goal.returns-in-Hub-clause-written
returns-in-Hub-clause-written g c = rw c.in-Hub.is c.write_hub.ensures.wrote

pub write_connect-requires-clause-ready : goal.write_connect-requires-clause-ready
write_connect-requires-clause-ready g c κs within = let a = rw c.in-Connect.is at c.requires.admitted in one_ready g.R.Resource _ _ a.let_in _ refl

pub write_connect-requires-clause-room : goal.write_connect-requires-clause-room
write_connect-requires-clause-room g c κs within = let a = rw c.in-Connect.is at c.requires.admitted in a.room.nodes

pub write_connect-requires-clause-space : goal.write_connect-requires-clause-space
write_connect-requires-clause-space g c κs within = search (rules, node_space)

pub returns-in-Connect-clause-written : goal.returns-in-Connect-clause-written
returns-in-Connect-clause-written g c = rw c.in-Connect.is c.write_connect.ensures.wrote

pub returns-in-Connect-clause-gives : goal.returns-in-Connect-clause-gives
returns-in-Connect-clause-gives g c = search (rules, has_key_is)
