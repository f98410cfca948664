use Rattle.std.proofs.Common.{refl}
use Rattle.rx_resource.specs.contracts.token.TokenResource.TheImpl.{ghosts}
use Rattle.rx_engine.specs.Plain.{gives_back}
use Rattle.rx_engine.specs.Ties.{state_of}
use Rattle.rx_engine.proofs.PlainCommands.{ready_for, leave_for, tied_behind}
use Rattle.rx_engine.proofs.engine.Engine.give_back.Goals as goal

pub settle-requires : goal.settle-requires
settle-requires c = record {
  ready = ready_for (state_of c.self.inside) _ c.give_back.new.self (gives_back c.args.lease) refl c.promise.ensures c.self.invariant c.in-Ok.ensures.accepted;
  hubs = leave_for (state_of c.self.inside) _ c.give_back.new.self (gives_back c.args.lease) c.promise.ensures c.self.invariant c.in-Ok.ensures.accepted;
}

pub invariant_of-self : goal.invariant_of-self
invariant_of-self c =
    tied_behind ghosts (state_of c.self.inside) (record { book = c.settle.new.book; parts = c.settle.new.parts; wishes = c.settle.new.wishes }) _
    c.give_back.new.self c.args.by 0 (gives_back c.args.lease) c.promise.ensures c.self.invariant
    c.in-Ok.ensures.accepted c.settle.ensures.settles c.settle.ensures.closes c.settle.ensures.ready
