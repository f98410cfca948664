use Rattle.rx_book.proofs.ShownPromise.{state_promised}
use Rattle.rx_book.proofs.book.Book.promise.Goals as goal

pub returns : goal.returns
returns g c = rw (← c.self.view_is) (state_promised g.R.Resource _ c.promise.ensures.register c.promise.ensures.tree c.promise.ensures.leases
    c.self.invariant)
