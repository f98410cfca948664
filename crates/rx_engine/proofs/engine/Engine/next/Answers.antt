use Rattle.std.proofs.Common.{pos, subst, Ok}
use Rattle.rx_resource.specs.contracts.token.TokenResource.TheImpl.{ghosts}
use Rattle.rx_book.specs.Requests.{next_request}
use Rattle.rx_engine.specs.States.{State}
use Rattle.rx_engine.specs.Commands.{IsCostlyMade}
use Rattle.rx_engine.specs.Ties.{state_of}
use Rattle.rx_engine.proofs.RoomGotten.{ready_roomier}
use Rattle.rx_engine.proofs.ItemsEmitted.{emitted_ready, emitted_leave, emitted_tied}
use Rattle.rx_engine.proofs.LanesServed.{settles_roomier}
use Rattle.rx_engine.proofs.engine.Engine.next.Goals as goal

pub settle-requires : goal.settle-requires
settle-requires c = record {
  ready = emitted_ready (state_of c.self.inside) c.args.leaf c.emit.new.book c.emit.new.parts c.promise.ensures c.self.invariant c.in-Ok.ensures.accepted
      c.emit.ensures.roomier c.in-Ok.ensures.ready;
  hubs = emitted_leave (state_of c.self.inside) c.args.leaf c.emit.new.book c.emit.new.parts c.promise.ensures c.self.invariant c.in-Ok.ensures.accepted
      c.emit.ensures.roomier;
}

pub invariant_of-self : goal.invariant_of-self
invariant_of-self c =
    emitted_tied (state_of c.self.inside) c.args.leaf c.emit.new.book c.emit.new.parts c.promise.ensures c.self.invariant c.in-Ok.ensures.accepted
    c.emit.ensures.roomier ghosts c.args.by c.args.value (record { book = c.settle.new.book; parts = c.settle.new.parts; wishes = c.settle.new.wishes })
    (ready_roomier c.self.inside.parts c.emit.new.parts c.self.invariant.ready c.emit.ensures.roomier) c.settle.ensures.settles c.settle.ensures.closes
    c.settle.ensures.ready

pub returns-in-Ok : goal.returns-in-Ok
returns-in-Ok c =
    subst (λ (s : State). IsCostlyMade ghosts (λ (x : State). next_request x.book c.args.leaf (pos 0)) c.args.by c.args.value s
    (record { book = c.settle.new.book; parts = c.settle.new.parts; wishes = c.settle.new.wishes }) (Ok tt))
    c.self.view_is
    (record {
      done = record {
        mid = c.emit.new.book;
        accepts = c.in-Ok.ensures.accepted;
        settles = settles_roomier ghosts c.args.by c.args.value c.emit.new.book c.self.inside.parts c.emit.new.parts c.settle.new.book c.settle.new.parts
            c.emit.ensures.roomier
            c.settle.ensures.settles;
        closes = c.settle.ensures.closes;
      };
      refused = tt;
      kept = tt;
    })
