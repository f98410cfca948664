use Rattle.rx_book.proofs.CallWithoutCause.{pays}
use Rattle.rx_book.proofs.Openings.{opening_room, opening_space}
use Rattle.rx_book.proofs.OpeningWritten.{opening_ready, opening_placed, opening_accepted, opened_key, opened_connection, opening_spares}
use Rattle.rx_book.proofs.opening.write_opening.Goals as goal
use Rattle.std.proofs.Common.{rules}

pub write_open-key-requires-clause-ready : goal.write_open-key-requires-clause-ready
write_open-key-requires-clause-ready g c κs within = search (rules, opening_ready)

pub write_open-key-requires-clause-placed : goal.write_open-key-requires-clause-placed
write_open-key-requires-clause-placed g c κs within = rw (c.spot_of-spot.ensures.place, c.spot_of-spot.ensures.above) (opening_placed g.R.Resource _ _
    _ c.requires.admitted)

pub write_open-key-requires-clause-space : goal.write_open-key-requires-clause-space
write_open-key-requires-clause-space g c κs within = search (rules, opening_space)

pub settle-requires-clause-paid : goal.settle-requires-clause-paid
settle-requires-clause-paid g c κs within = let w = rw c.spot_of-spot.ensures.place at c.write_open-key.ensures.wrote.written in pays g.R.Resource _ _
    c.requires.admitted.let_in _ w

pub settle-requires-clause-room : goal.settle-requires-clause-room
settle-requires-clause-room g c κs within =
    let o = c.write_open-key.ensures in
    let a = c.requires.admitted in
    let next = (opening_ready g.R.Resource c.args.ground.now c.args.at c.args.kind a).next in
    opening_room a.let_in.may.lawful a.let_in.may.settled next (rw c.spot_of-spot.ensures.place at o.wrote.written) a.room.nodes a.room.space o.left o.wrote.memory
    a.let_in.begun

pub returns-clause-accepted : goal.returns-clause-accepted
returns-clause-accepted g c = search (rules, opening_accepted)

pub returns-clause-opened : goal.returns-clause-opened
returns-clause-opened g c =
    let R = g.R.Resource in
    let b = c.args.ground.now in
    let mid = c.write_open-key.new.self in
    let new = c.settle.new.self in
    let a = c.requires.admitted in
    let o = c.write_open-key.ensures in
    let w = rw c.spot_of-spot.ensures.place at o.wrote in
    let of = c.connection_of.ensures in
    record {
      key = opened_key R b _ _ a mid new w c.settle.ensures _ o.frame.is_new;
      connection = opened_connection R b _ _ a mid new w c.settle.ensures _ c.requires.found.connects of.forced of.quiet;
      connected = of.known;
    }

pub returns-clause-spare : goal.returns-clause-spare
returns-clause-spare g c = let s = c.settle.ensures in opening_spares g.R.Resource _ _ _ c.requires.admitted _ _
    (rw c.spot_of-spot.ensures.place at c.write_open-key.ensures.wrote) s s.memory
