use Rattle.std.proofs.Common.{◌≡◌, List, length, Some, None, Ok, Err, inr, if◌then◌else◌, sym, ◌∙◌, subst, refl}
use Rattle.rx_resource.specs.contracts.token.TokenResource.TheImpl.{ghosts}
use Rattle.rx_event.specs.declared.event.Event.TheVariants.{Open}
use Rattle.rx_event.specs.Events.{is_root, is_merging}
use Rattle.rx_book.specs.Answers.{IsCauseOrWant}
use Rattle.rx_book.specs.Requests.{Request, place_of}
use Rattle.rx_roles.specs.declared.roles.Role.{Role}
use Rattle.rx_roles.specs.Roles.{AreBelow}
use Rattle.rx_engine.specs.declared.homes.Home.{Home}
use Rattle.rx_engine.specs.States.{State}
use Rattle.rx_engine.specs.Closings.{with_wish, Closes}
use Rattle.rx_engine.specs.Homes.{whose, is_housed, home_of}
use Rattle.rx_engine.specs.Ties.{state_of}
use Rattle.rx_engine.specs.Openings.{Enters, IsOpenMade}
use Rattle.rx_engine.proofs.HomesFound.{housed_home, asked_same}
use Rattle.rx_engine.proofs.LanesGiven.{IsOpenAt}
use Rattle.rx_engine.proofs.RoomGotten.{ready_roomier, still_at}
use Rattle.rx_engine.proofs.TiedAfterOpening.{is_opening, IsEntering, ready_opened, leave_opened, enters_first, none_beyond, none_housed_beyond, tied_opened}
use Rattle.rx_engine.proofs.WishesKept.{none_wished_beyond}
use Rattle.rx_engine.proofs.SharesChosen.{tied_seen}
use Rattle.rx_engine.proofs.engine.Engine.open.Goals as goal

pub enter-lane-requires : goal.enter-lane-requires
enter-lane-requires c =
    let same = c.make_room.ensures.same in
    let below = λ (rs : List Role) (is : AreBelow rs (length c.self.inside.book.history)). subst (AreBelow rs) (sym c.in-Ok.ensures.ok.key.number) is in
    let room = c.make_room.ensures.room c.if-not-make_room.false in
    record {
      room = c.make_room.ensures.node c.if-not-make_room.false;
      homes = below c.make_room.new.self.homes.list
          (subst (λ (rs : List Role). AreBelow rs (length c.self.inside.book.history)) (sym same.homes)
          (none_housed_beyond c.self.inside.book.history c.self.inside.parts.homes.list c.self.invariant.homes));
      hears = below c.make_room.new.self.hears.list
          (subst (λ (rs : List Role). AreBelow rs (length c.self.inside.book.history)) (sym same.hears)
          (none_beyond is_root c.self.inside.book.history c.self.inside.parts.hears.list c.self.invariant.hears));
      merges = below c.make_room.new.self.merges.list
          (subst (λ (rs : List Role). AreBelow rs (length c.self.inside.book.history)) (sym same.merges)
          (none_beyond is_merging c.self.inside.book.history c.self.inside.parts.merges.list c.self.invariant.merges));
      there = still_at c.self.inside.parts c.make_room.new.self same c.in-Some.home.lane
          (subst (λ (s : State). IsOpenAt s.parts.lanes c.in-Some.home.lane) (sym c.self.view_is) c.in-Some.ensures.found);
      many = (ready_roomier c.self.inside.parts c.make_room.new.self c.self.invariant.ready same).many;
      few = room.few;
    }

pub wish-requires-clause-below : goal.wish-requires-clause-below
wish-requires-clause-below c =
    subst (AreBelow c.make_room-2.new.self.roles.list) (sym c.in-Ok.ensures.ok.key.number)
    (subst (λ (rs : List Role). AreBelow rs (length c.self.inside.book.history)) (sym c.make_room-2.ensures.roles)
    (none_wished_beyond c.self.invariant.wishes))

pub settle-requires : goal.settle-requires
settle-requires c =
    let entering : IsEntering (state_of c.self.inside) c.args.at c.args.kind c.args.user.word c.in-Some.home c.enter-lane.result c.make_room.new.self
    c.enter-lane.new.self
    c.in-Ok.opened.key.number c.open.new.self =
    record {
      tied = c.self.invariant;
      opens = is_opening c.self.inside.book c.args.at c.args.kind c.open.new.self _ c.promise.ensures c.in-Ok.ensures.accepted c.in-Ok.ensures.accepted.closed;
      alone = c.requires.alone;
      roomier = c.make_room.ensures.same;
      room = c.make_room.ensures.room c.if-not-make_room.false;
      number_is = c.in-Ok.ensures.ok.key.number;
      enters = c.enter-lane.ensures.entered;
      effects = c.enter-lane.ensures.effects;
      spare = c.enter-lane.ensures.spare;
    } in
    record { ready = ready_opened entering; hubs = leave_opened entering }

pub invariant_of-self-in-Ok : goal.invariant_of-self-in-Ok
invariant_of-self-in-Ok c =
    let entering : IsEntering (state_of c.self.inside) c.args.at c.args.kind c.args.user.word c.in-Some.home c.enter-lane.result c.make_room.new.self
    c.enter-lane.new.self
    c.in-Ok.opened.key.number c.open.new.self =
    record {
      tied = c.self.invariant;
      opens = is_opening c.self.inside.book c.args.at c.args.kind c.open.new.self _ c.promise.ensures c.in-Ok.ensures.accepted c.in-Ok.ensures.accepted.closed;
      alone = c.requires.alone;
      roomier = c.make_room.ensures.same;
      room = c.make_room.ensures.room c.if-not-make_room.false;
      number_is = c.in-Ok.ensures.ok.key.number;
      enters = c.enter-lane.ensures.entered;
      effects = c.enter-lane.ensures.effects;
      spare = c.enter-lane.ensures.spare;
    } in
    let ws : c.wish.new.self.roles.list ≡ with_wish c.self.inside.wishes.roles.list (length c.self.inside.book.history) c.args.user =
    c.wish.ensures.roles ∙ (λ i. with_wish (c.make_room-2.ensures.roles i) (entering.number_is i) c.args.user) in
    let closes = subst (λ (rs : List Role). Closes c.open.new.self rs c.settle.new.wishes) ws c.settle.ensures.closes in
    tied_opened ghosts (state_of c.self.inside) (record { book = c.settle.new.book; parts = c.settle.new.parts; wishes = c.settle.new.wishes }) c.args.at c.args.kind c.args.user
    c.in-Some.home c.enter-lane.result c.open.new.self c.enter-lane.new.self c.args.by c.self.invariant entering.opens entering.alone (enters_first entering) c.settle.ensures.settles closes
    c.settle.ensures.ready

pub returns-in-Ok : goal.returns-in-Ok
returns-in-Ok c =
    let entering : IsEntering (state_of c.self.inside) c.args.at c.args.kind c.args.user.word c.in-Some.home c.enter-lane.result c.make_room.new.self
    c.enter-lane.new.self
    c.in-Ok.opened.key.number c.open.new.self =
    record {
      tied = c.self.invariant;
      opens = is_opening c.self.inside.book c.args.at c.args.kind c.open.new.self _ c.promise.ensures c.in-Ok.ensures.accepted c.in-Ok.ensures.accepted.closed;
      alone = c.requires.alone;
      roomier = c.make_room.ensures.same;
      room = c.make_room.ensures.room c.if-not-make_room.false;
      number_is = c.in-Ok.ensures.ok.key.number;
      enters = c.enter-lane.ensures.entered;
      effects = c.enter-lane.ensures.effects;
      spare = c.enter-lane.ensures.spare;
    } in
    let housed = housed_home (is_housed c.self.inside.book (whose c.args.at c.args.user.lane)) c.in-Some.home
    (home_of (state_of c.self.inside) c.args.at c.args.user.lane)
    (subst (λ (s : State). Some c.in-Some.home ≡ (if is_housed s.book (whose c.args.at c.args.user.lane) then Some (home_of s c.args.at c.args.user.lane) else
    None))
    (sym c.self.view_is) c.in-Some.ensures.home) in
    let ws : c.wish.new.self.roles.list ≡ with_wish c.self.inside.wishes.roles.list (length c.self.inside.book.history) c.args.user =
    c.wish.ensures.roles ∙ (λ i. with_wish (c.make_room-2.ensures.roles i) (entering.number_is i) c.args.user) in
    let closes = subst (λ (rs : List Role). Closes c.open.new.self rs c.settle.new.wishes) ws c.settle.ensures.closes in
    subst (λ (s : State). IsOpenMade ghosts c.args.at c.args.kind c.args.user c.args.by s
    (record { book = c.settle.new.book; parts = c.settle.new.parts; wishes = c.settle.new.wishes }) (Ok c.in-Ok.opened.key))
    c.self.view_is
    (record {
      ok = record { number = entering.number_is; listed = c.settle.ensures.keys.keys c.in-Ok.opened.key c.in-Ok.ensures.ok.key.listed };
      done = record {
        mid = c.open.new.self;
        accepts = c.in-Ok.ensures.accepted;
        housed = housed.0;
        name = c.enter-lane.result;
        entered = c.enter-lane.new.self;
        enters = subst (λ (h : Home). Enters c.self.inside.parts (length c.self.inside.book.history) (is_root (Open (place_of c.args.at) c.args.kind))
            (is_merging (Open (place_of c.args.at) c.args.kind)) c.args.user.word h c.enter-lane.result c.enter-lane.new.self) housed.1 (enters_first entering);
        settles = c.settle.ensures.settles;
        closes = closes;
      };
      refused = tt;
      kept = tt;
    })

pub returns-in-Err : goal.returns-in-Err
returns-in-Err c =
    let housed = housed_home (is_housed c.self.inside.book (whose c.args.at c.args.user.lane)) c.in-Some.home
    (home_of (state_of c.self.inside) c.args.at c.args.user.lane)
    (subst (λ (s : State). Some c.in-Some.home ≡ (if is_housed s.book (whose c.args.at c.args.user.lane) then Some (home_of s c.args.at c.args.user.lane) else
    None))
    (sym c.self.view_is) c.in-Some.ensures.home) in
    subst (λ (s : State). IsOpenMade ghosts c.args.at c.args.kind c.args.user c.args.by s
    (record { book = c.open.new.self; parts = c.make_room.new.self; wishes = c.make_room-2.new.self }) (Err c.in-Err.why)) c.self.view_is
    (record {
      ok = tt;
      done = tt;
      refused = inr (subst (λ (r : Request). IsCauseOrWant c.self.inside.book r c.in-Err.why)
          (sym (asked_same c.self.inside.book c.args.at c.args.kind c.args.user.lane housed.0)) c.in-Err.ensures.refused);
      kept = record {
        book = c.in-Err.ensures.kept;
        parts = c.make_room.ensures.same;
        wishes = c.make_room-2.ensures.roles;
        closings = c.make_room-2.ensures.closings;
      };
    })

pub invariant_of-self : goal.invariant_of-self
invariant_of-self c =
    let i = c.self.inside in
    tied_seen (state_of i) (record { book = i.book; parts = c.make_room.new.self; wishes = i.wishes }) c.self.invariant
    (record { book = refl; parts = c.make_room.ensures.same; wishes = refl; closings = refl })

pub invariant_of-self-then-not-make_room-2 : goal.invariant_of-self-then-not-make_room-2
invariant_of-self-then-not-make_room-2 c =
    let i = c.self.inside in
    tied_seen (state_of i) (record { book = i.book; parts = c.make_room.new.self; wishes = c.make_room-2.new.self }) c.self.invariant
    (record { book = refl; parts = c.make_room.ensures.same; wishes = c.make_room-2.ensures.roles; closings = c.make_room-2.ensures.closings })
