use Rattle.rx_book.proofs.ShownLeases.{open_lease_is, lease_known}
use Rattle.rx_book.proofs.book.Book.open_lease.Goals as goal
use Rattle.std.proofs.Common.{rules}

pub returns-clause-least : goal.returns-clause-least
returns-clause-least g c = let b = c.self.inside.ground in rw (← c.self.view_is) (open_lease_is b.register.history b.tree.resources b.leases
    c.self.invariant.leased c.first_lease.result c.first_lease.ensures.some c.first_lease.ensures.none)

pub returns-clause-key : goal.returns-clause-key
returns-clause-key g c = search (rules, lease_known)
