use Rattle.rx_listing.proofs.Common.{length, connection_by}
use Rattle.rx_listing.proofs.Objects.{is_connected}
use Rattle.rx_listing.proofs.list.sight_of.Goals as goal

pub returns : goal.returns
returns g c = λ placed.
    let book = c.args.book.now in
    record {
      uses = c.in_ok-seen.ensures.uses;
      connected = is_connected c.in_ok-seen.seen.connections (connection_by book c.args.known.now.past.now (length book.history))
          c.promise.ensures c.in_ok-seen.ensures.connections;
      subscribers = c.in_ok-subscribers.ensures placed;
    }
