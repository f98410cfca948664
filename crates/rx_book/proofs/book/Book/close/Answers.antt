use Rattle.rx_book.proofs.Common.{◌≡◌, []}
use Rattle.rx_book.proofs.Closings.{closed_book, closed_released, takes_accepted, shut_let_go, shut_none_out}
use Rattle.rx_book.proofs.book.Book.close.Given as given
use Rattle.rx_book.proofs.book.Book.close.Goals as goal
use Rattle.rx_book.proofs.book.Book.close.Goals.{After-promise-3}
use Rattle.std.proofs.Common.{rules}

closed : (g : given.Over) (c : After-promise-3 g) →
    (c.release_waiting-closed.new.self.keys ≡ []) × (c.release_waiting-closed.new.self.held ≡ []) × (c.release_waiting-closed.new.self.lease_keys ≡ [])
closed g c = search (rules, closed_book, shut_let_go, shut_none_out)

pub returns-clause-none_open : goal.returns-clause-none_open
returns-clause-none_open g c = (closed g (goal.at.returns-clause-none_open g c).After-promise-3).0

pub returns-clause-none_held : goal.returns-clause-none_held
returns-clause-none_held g c = (closed g (goal.at.returns-clause-none_held g c).After-promise-3).1

pub returns-clause-none_out : goal.returns-clause-none_out
returns-clause-none_out g c = (closed g (goal.at.returns-clause-none_out g c).After-promise-3).2

pub returns-clause-accepted : goal.returns-clause-accepted
returns-clause-accepted g c = search (rules, takes_accepted)

pub returns-clause-released : goal.returns-clause-released
returns-clause-released g c =
    let held = (closed g (goal.at.returns-clause-released g c).After-promise-3).1 in
    let d = c.release_waiting-closed.ensures in
    closed_released c.shut.new.self c.promise.ensures c.promise-3.ensures c.shut.ensures.accepted c.shut.ensures.taken
    (record { base = d.continues.base; takes = d.drains.takes; none_waits = d.none_waits; taken = d.released }) held
