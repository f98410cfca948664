use Rattle.rx_book.proofs.CallWithoutCause.{live_fresh, unused_fresh}
use Rattle.rx_book.proofs.HoldingWritten.{holding_there, holding_ready, holding_standing, holding_accepted, held_key}
use Rattle.rx_book.proofs.opening_holding.write_holding.Goals as goal
use Rattle.std.proofs.Common.{rules}

pub write_accept-requires-clause-ready : goal.write_accept-requires-clause-ready
write_accept-requires-clause-ready g c κs within = search (rules, holding_ready)

pub write_accept-requires-clause-open : goal.write_accept-requires-clause-open
write_accept-requires-clause-open g c κs within = search (rules, holding_there)

pub write_accept-requires-clause-live : goal.write_accept-requires-clause-live
write_accept-requires-clause-live g c κs within = live_fresh g.R.Resource c.args.resource c.requires.fresh

pub write_accept-requires-clause-unused : goal.write_accept-requires-clause-unused
write_accept-requires-clause-unused g c κs within = unused_fresh g.R.Resource c.args.resource c.requires.fresh

pub returns-clause-standing : goal.returns-clause-standing
returns-clause-standing g c = search (rules, holding_standing)

pub returns-clause-accepted : goal.returns-clause-accepted
returns-clause-accepted g c =
    let q = c.requires in
    holding_accepted g.R.Resource c.args.ground.now c.args.node c.args.resource q.standing c.promise.ensures.register q.known q.fresh q.events
    c.write_accept.new.self c.write_accept.ensures.wrote

pub returns-clause-closed : goal.returns-clause-closed
returns-clause-closed g c = c.write_accept.ensures.wrote.closed

pub returns-clause-history : goal.returns-clause-history
returns-clause-history g c = c.write_accept.ensures.wrote.written.history

pub returns-clause-res : goal.returns-clause-res
returns-clause-res g c = search (rules, held_key)
