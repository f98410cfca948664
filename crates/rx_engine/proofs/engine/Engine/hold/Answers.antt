use Rattle.std.proofs.Common.{◌≡◌, List, length, Ok, Some, IsSome, sym, arith, subst, refl}
use Rattle.rx_resource.specs.contracts.token.TokenResource.TheImpl.{ghosts}
use Rattle.rx_resource.specs.declared.token.Token.{Token}
use Rattle.rx_book.specs.Answers.{Accepts}
use Rattle.rx_book.specs.Requests.{hold_request}
use Rattle.rx_lanes.specs.State.{lane}
use Rattle.rx_roles.specs.declared.roles.Role.{Role}
use Rattle.rx_roles.specs.Roles.{AreBelow}
use Rattle.rx_engine.specs.States.{State}
use Rattle.rx_engine.specs.Ties.{state_of}
use Rattle.rx_engine.specs.declared.homes.LaneOf.TheVariants.{Node}
use Rattle.rx_engine.specs.Homes.{lane_of}
use Rattle.rx_engine.specs.Holdings.{IsHoldMade}
use Rattle.rx_engine.proofs.LanesJoined.{many_few}
use Rattle.rx_engine.proofs.RoomGotten.{ready_roomier, still_open}
use Rattle.rx_engine.proofs.TiedAfterHolding.{IsKeeping, ready_held, none_leave, keeps_first, none_kept_beyond, tied_held}
use Rattle.rx_engine.proofs.SharesChosen.{tied_seen}
use Rattle.rx_engine.proofs.engine.Engine.hold.Goals as goal

pub keep-requires : goal.keep-requires
keep-requires c =
    let same = c.make_room_to_hold.ensures.same in
    let many = (ready_roomier c.self.inside.parts c.make_room_to_hold.new.self c.self.invariant.ready same).many in
    let has = c.make_room_to_hold.ensures.room c.if-not-make_room_to_hold.false in
    let few = has.few in
    record {
      room = c.make_room_to_hold.ensures.holds c.if-not-make_room_to_hold.false;
      below = subst (AreBelow c.make_room_to_hold.new.self.holds.list) (sym c.in-Ok.ensures.ok.number)
          (subst (λ (rs : List Role). AreBelow rs (length c.self.inside.book.history)) (sym same.holds)
          (none_kept_beyond c.self.inside.book.history c.self.inside.parts.holds.list c.self.invariant.holds));
      there = still_open c.self.inside.parts c.make_room_to_hold.new.self same c.in-Some.name
          (subst (λ (s : State). IsSome (lane s.parts.lanes c.in-Some.name)) (sym c.self.view_is) c.in-Some.ensures.found);
      few = λ l is. (let some = many_few c.make_room_to_hold.new.self c.in-Some.name many l is in omega (arith, some, few));
    }

pub settle-requires : goal.settle-requires
settle-requires c =
    let keeping : IsKeeping (state_of c.self.inside) c.args.node c.args.tag c.in-Some.name c.make_room_to_hold.new.self c.keep.new.self c.in-Ok.res.number
    c.hold.new.self =
    record {
      tied = c.self.invariant;
      holds = record {
        lawful = c.promise.ensures.lawful;
        settled = c.promise.ensures.settled;
        accepts = subst (λ (x : Token). Accepts c.self.inside.book (hold_request ghosts c.self.inside.book c.args.node x) c.hold.new.self) c.new.ensures
            c.in-Ok.ensures.accepted;
      };
      roomier = c.make_room_to_hold.ensures.same;
      room = c.make_room_to_hold.ensures.room c.if-not-make_room_to_hold.false;
      number_is = c.in-Ok.ensures.ok.number;
      keeps = c.keep.ensures.keeps;
      effects = c.keep.ensures.effects;
      spare = c.keep.ensures.spare;
    } in
    record { ready = ready_held keeping; hubs = none_leave keeping }

pub invariant_of-self-in-Ok : goal.invariant_of-self-in-Ok
invariant_of-self-in-Ok c =
    let keeping : IsKeeping (state_of c.self.inside) c.args.node c.args.tag c.in-Some.name c.make_room_to_hold.new.self c.keep.new.self c.in-Ok.res.number
    c.hold.new.self =
    record {
      tied = c.self.invariant;
      holds = record {
        lawful = c.promise.ensures.lawful;
        settled = c.promise.ensures.settled;
        accepts = subst (λ (x : Token). Accepts c.self.inside.book (hold_request ghosts c.self.inside.book c.args.node x) c.hold.new.self) c.new.ensures
            c.in-Ok.ensures.accepted;
      };
      roomier = c.make_room_to_hold.ensures.same;
      room = c.make_room_to_hold.ensures.room c.if-not-make_room_to_hold.false;
      number_is = c.in-Ok.ensures.ok.number;
      keeps = c.keep.ensures.keeps;
      effects = c.keep.ensures.effects;
      spare = c.keep.ensures.spare;
    } in
    tied_held (state_of c.self.inside) (record { book = c.settle.new.book; parts = c.settle.new.parts; wishes = c.settle.new.wishes }) c.args.node c.args.tag
    c.in-Some.name c.hold.new.self
    c.keep.new.self c.args.by c.self.invariant keeping.holds (keeps_first keeping) c.settle.ensures.settles c.settle.ensures.closes c.settle.ensures.ready

pub returns-in-Ok : goal.returns-in-Ok
returns-in-Ok c =
    let keeping : IsKeeping (state_of c.self.inside) c.args.node c.args.tag c.in-Some.name c.make_room_to_hold.new.self c.keep.new.self c.in-Ok.res.number
    c.hold.new.self =
    record {
      tied = c.self.invariant;
      holds = record {
        lawful = c.promise.ensures.lawful;
        settled = c.promise.ensures.settled;
        accepts = subst (λ (x : Token). Accepts c.self.inside.book (hold_request ghosts c.self.inside.book c.args.node x) c.hold.new.self) c.new.ensures
            c.in-Ok.ensures.accepted;
      };
      roomier = c.make_room_to_hold.ensures.same;
      room = c.make_room_to_hold.ensures.room c.if-not-make_room_to_hold.false;
      number_is = c.in-Ok.ensures.ok.number;
      keeps = c.keep.ensures.keeps;
      effects = c.keep.ensures.effects;
      spare = c.keep.ensures.spare;
    } in
    subst (λ (s : State). IsHoldMade ghosts c.args.node c.args.tag c.args.by s
    (record { book = c.settle.new.book; parts = c.settle.new.parts; wishes = c.settle.new.wishes }) (Ok c.in-Ok.res))
    c.self.view_is
    (record {
      ok = record { number = keeping.number_is; listed = c.settle.ensures.keys.res_keys c.in-Ok.res c.in-Ok.ensures.ok.listed };
      done = record {
        mid = c.hold.new.self;
        accepts = keeping.holds.accepts;
        name = c.in-Some.name;
        lane_is = subst (λ (s : State). lane_of s (Node c.args.node) ≡ Some c.in-Some.name) (sym c.self.view_is) (sym c.in-Some.ensures.lane);
        entered = c.keep.new.self;
        keeps = keeps_first keeping;
        settles = c.settle.ensures.settles;
        closes = c.settle.ensures.closes;
      };
      refused = tt;
      kept = tt;
    })

pub invariant_of-self : goal.invariant_of-self
invariant_of-self c =
    let i = c.self.inside in
    tied_seen (state_of i) (record { book = i.book; parts = c.make_room_to_hold.new.self; wishes = i.wishes }) c.self.invariant
    (record { book = refl; parts = c.make_room_to_hold.ensures.same; wishes = refl; closings = refl })
