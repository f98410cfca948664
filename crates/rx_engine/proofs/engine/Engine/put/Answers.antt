use Rattle.std.proofs.Common.{◌≡◌, Some, Ok, IsSome, refl, sym, ap, arith, subst}
use Rattle.rx_lanes.specs.State.{lane}
use Rattle.rx_engine.specs.Homes.{lane_of}
use Rattle.rx_engine.specs.Puttings.{IsPutMade}
use Rattle.rx_engine.specs.States.{State}
use Rattle.rx_engine.specs.Ties.{state_of}
use Rattle.rx_engine.proofs.RoomGotten.{ready_with, still_open}
use Rattle.rx_engine.proofs.TiedAfterPutting.{puts_from, tied_put}
use Rattle.rx_engine.proofs.engine.Engine.put.Goals as goal

pub put_own-requires : goal.put_own-requires
put_own-requires c = record {
  there = still_open c.self.inside.parts c.reserve.new.self c.reserve.ensures.same c.in-Some.name
      (subst (λ (s : State). IsSome (lane s.parts.lanes c.in-Some.name)) (sym c.self.view_is) c.in-Some.ensures.found);
  spare = let has = c.reserve.ensures.room c.if-not-reserve.false in let spare = has.spare in omega (arith, spare);
}

pub invariant_of-self-2 : goal.invariant_of-self-2
invariant_of-self-2 c =
    tied_put (state_of c.self.inside) c.reserve.new.self c.put_own.new.self c.close_none.new.self c.in-Some.name c.args.user c.args.value c.args.by
    c.self.invariant c.reserve.ensures.same
    (ready_with 1 c.self.inside.parts c.reserve.new.self c.self.invariant.ready c.reserve.ensures.same (c.reserve.ensures.room c.if-not-reserve.false))
    c.put_own.ensures.puts c.put_own.ensures.effects c.put_own.ensures.spare (ap (λ x. x.list) c.close_none.ensures.roles)

pub returns : goal.returns
returns c =
    subst (λ (s : State). IsPutMade c.args.to c.args.user c.args.value c.args.by s
    (record { book = c.self.inside.book; parts = c.put_own.new.self; wishes = c.close_none.new.self }) (Ok tt))
    c.self.view_is
    (record {
      done = record {
        name = c.in-Some.name;
        lane_is = subst (λ (s : State). lane_of s c.args.to ≡ Some c.in-Some.name) (sym c.self.view_is) (sym c.in-Some.ensures.lane);
        puts = puts_from c.self.inside.parts c.reserve.new.self c.put_own.new.self c.in-Some.name c.args.user c.args.value c.args.by c.reserve.ensures.same
            c.put_own.ensures.puts;
        book = refl;
        wishes = ap (λ x. x.list) c.close_none.ensures.roles;
        closings = c.close_none.ensures.closings;
      };
      refused = tt;
      kept = tt;
    })
