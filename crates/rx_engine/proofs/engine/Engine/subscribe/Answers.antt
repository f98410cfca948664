use Rattle.std.proofs.Common.{◌≡◌, List, length, Some, None, Ok, Err, option_map, if◌then◌else◌, refl, sym, ap, ◌∙◌, subst}
use Rattle.rx_resource.specs.contracts.token.TokenResource.TheImpl.{ghosts}
use Rattle.rx_event.specs.declared.event.Event.TheVariants.{Open}
use Rattle.rx_event.specs.declared.event.Kind.TheVariants.{Sub}
use Rattle.rx_event.specs.declared.refusal.Refusal.TheVariants.{NoMemory}
use Rattle.rx_event.specs.Events.{is_root}
use Rattle.rx_slots.specs.declared.Key.{Key}
use Rattle.rx_book.specs.Requests.{open_request, place_of}
use Rattle.rx_book.specs.Answers.{connection_made}
use Rattle.rx_pool.specs.Choice.{choice}
use Rattle.rx_roles.specs.declared.roles.Role.{Role}
use Rattle.rx_roles.specs.Roles.{AreBelow}
use Rattle.rx_engine.specs.declared.homes.Home.{Home}
use Rattle.rx_engine.specs.States.{State}
use Rattle.rx_engine.specs.Closings.{with_wish, Closes}
use Rattle.rx_engine.specs.Homes.{whose, is_housed, home_of}
use Rattle.rx_engine.specs.Sharings.{Subscribes, IsChosen, limit_for, is_gone, none_chosen, is_wanting, is_refused, IsSubscribeMade}
use Rattle.rx_engine.specs.Ties.{state_of}
use Rattle.rx_engine.proofs.HomesFound.{housed_home, not_housed}
use Rattle.rx_engine.proofs.LanesGiven.{IsOpenAt}
use Rattle.rx_engine.proofs.SharesChosen.{seen_itself, chosen_there, IsReserved, may_share, tied_seen}
use Rattle.rx_engine.proofs.TiedAfterOpening.{is_opening}
use Rattle.rx_engine.proofs.TiedAfterSharing.{IsSubscribing, leave_subscribed, ready_subscribed, subscribes_first, tied_subscribed}
use Rattle.rx_engine.proofs.KeysKept.{second_listed}
use Rattle.rx_engine.proofs.WishesKept.{none_wished_beyond}
use Rattle.rx_engine.proofs.engine.Engine.subscribe.Goals as goal

pub returns-in_default : goal.returns-in_default
returns-in_default c = record {
  key = tt;
  connection = tt;
  done = tt;
  refused = is_gone (not_housed (is_housed c.args.self.now.book (whose c.args.at c.args.user.lane)) (home_of c.args.self.now c.args.at c.args.user.lane) c.in_default.ensures.home);
  kept = seen_itself c.args.self.now;
}

pub returns-in-Err : goal.returns-in-Err
returns-in-Err c =
    let housed = housed_home (is_housed c.args.self.now.book (whose c.args.at c.args.user.lane)) c.in-Some.home (home_of c.args.self.now c.args.at c.args.user.lane) c.in-Some.ensures.home in
    record {
      key = tt;
      connection = tt;
      done = tt;
      refused = none_chosen housed.0
          (ap (λ (h : Home). choice c.args.self.now.parts.shares.hubs c.args.share h.limit) (sym housed.1) ∙
          ap (λ (s : State). choice s.parts.shares.hubs c.args.share c.in-Some.home.limit) (sym c.self.view_is) ∙ sym c.in-Err.ensures);
      kept = seen_itself c.args.self.now;
    }

pub returns-in_default-hub_at : goal.returns-in_default-hub_at
returns-in_default-hub_at c = absurd (chosen_there c.self.inside.parts.shares.hubs c.args.share c.in-Some.home.limit c.in-Ok.place c.promise-2.ensures (sym c.in-Ok.ensures)
    (sym c.in_default-hub_at.ensures))

pub returns-then-not-make_room_to_share : goal.returns-then-not-make_room_to_share
returns-then-not-make_room_to_share c =
    let housed = housed_home (is_housed c.self.inside.book (whose c.args.at c.args.user.lane)) c.in-Some.home (home_of (state_of c.self.inside) c.args.at c.args.user.lane)
    (subst (λ (s : State). Some c.in-Some.home ≡ (if is_housed s.book (whose c.args.at c.args.user.lane) then Some (home_of s c.args.at c.args.user.lane) else None))
    (sym c.self.view_is) c.in-Some.ensures.home) in
    let chosen : IsChosen (state_of c.self.inside) c.args.share (limit_for (state_of c.self.inside) c.args.at c.args.user.lane) c.in-Ok.place =
    record {
      chosen = ap (λ (h : Home). choice c.self.inside.parts.shares.hubs c.args.share h.limit) (sym housed.1) ∙ sym c.in-Ok.ensures;
      hub = c.in-Some-hub_at.hub;
      there = sym c.in-Some-hub_at.ensures;
    } in
    subst (λ (s : State). IsSubscribeMade ghosts c.args.at c.args.share c.args.user c.args.by s
    (record { book = c.self.inside.book; parts = c.make_room_to_share.new.self; wishes = c.self.inside.wishes }) (Err NoMemory)) c.self.view_is
    (record {
      key = tt;
      connection = tt;
      done = tt;
      refused = is_wanting housed.0 chosen;
      kept = record { book = refl; parts = c.make_room_to_share.ensures.same; wishes = refl; closings = refl };
    })

pub returns-then-not-make_room : goal.returns-then-not-make_room
returns-then-not-make_room c =
    let housed = housed_home (is_housed c.self.inside.book (whose c.args.at c.args.user.lane)) c.in-Some.home (home_of (state_of c.self.inside) c.args.at c.args.user.lane)
    (subst (λ (s : State). Some c.in-Some.home ≡ (if is_housed s.book (whose c.args.at c.args.user.lane) then Some (home_of s c.args.at c.args.user.lane) else None))
    (sym c.self.view_is) c.in-Some.ensures.home) in
    let chosen : IsChosen (state_of c.self.inside) c.args.share (limit_for (state_of c.self.inside) c.args.at c.args.user.lane) c.in-Ok.place =
    record {
      chosen = ap (λ (h : Home). choice c.self.inside.parts.shares.hubs c.args.share h.limit) (sym housed.1) ∙ sym c.in-Ok.ensures;
      hub = c.in-Some-hub_at.hub;
      there = sym c.in-Some-hub_at.ensures;
    } in
    subst (λ (s : State). IsSubscribeMade ghosts c.args.at c.args.share c.args.user c.args.by s
    (record { book = c.self.inside.book; parts = c.make_room_to_share.new.self; wishes = c.make_room.new.self }) (Err NoMemory)) c.self.view_is
    (record {
      key = tt;
      connection = tt;
      done = tt;
      refused = is_wanting housed.0 chosen;
      kept = record { book = refl; parts = c.make_room_to_share.ensures.same; wishes = c.make_room.ensures.roles; closings = c.make_room.ensures.closings };
    })

pub enter_subscriber-requires : goal.enter_subscriber-requires
enter_subscriber-requires c =
    let hub = c.in-Some-hub_at.hub in
    let reserved : IsReserved (state_of c.self.inside) (open_request c.self.inside.book c.args.at (Sub hub.number)) (Open (place_of c.args.at) (Sub hub.number)) c.open.new.self
    c.args.share c.in-Some.home.limit c.in-Ok.place c.make_room_to_share.new.self =
    record {
      tied = c.self.invariant;
      plain = c.promise-2.ensures;
      chosen = sym c.in-Ok.ensures;
      call = is_opening c.self.inside.book c.args.at (Sub hub.number) c.open.new.self _ c.promise.ensures c.in-Ok-open.ensures.accepted c.in-Ok-open.ensures.accepted.closed;
      roomier = c.make_room_to_share.ensures.same;
      room = c.make_room_to_share.ensures.room c.if-not-make_room_to_share.false;
      shares = c.make_room_to_share.ensures.share c.if-not-make_room_to_share.false;
    } in
    may_share reserved c.in-Ok-open.opened.key.number _ c.in-Some.home
    (subst (λ (s : State). IsOpenAt s.parts.lanes c.in-Some.home.lane) (sym c.self.view_is) c.in-Some.ensures.found)
    c.in-Ok-open.ensures.ok.key.number c.in-Ok-open.ensures.ok.connection

pub wish-requires-clause-below : goal.wish-requires-clause-below
wish-requires-clause-below c =
    subst (AreBelow c.make_room.new.self.roles.list) (sym c.in-Ok-open.ensures.ok.key.number)
    (subst (λ (rs : List Role). AreBelow rs (length c.self.inside.book.history)) (sym c.make_room.ensures.roles)
    (none_wished_beyond c.self.invariant.wishes))

pub settle-requires : goal.settle-requires
settle-requires c =
    let hub = c.in-Some-hub_at.hub in
    let subscribing : IsSubscribing (state_of c.self.inside) c.args.at c.args.user.word c.in-Some.home c.in-Ok.place c.args.share.word c.make_room_to_share.new.self
    c.enter_subscriber.new.self c.in-Ok-open.opened.key.number (option_map (λ (k : Key). k.number) c.in-Ok-open.opened.connected) hub c.open.new.self =
    record {
      tied = c.self.invariant;
      plain = c.promise-2.ensures;
      there = sym c.in-Some-hub_at.ensures;
      opens = is_opening c.self.inside.book c.args.at (Sub hub.number) c.open.new.self _ c.promise.ensures c.in-Ok-open.ensures.accepted c.in-Ok-open.ensures.accepted.closed;
      roomier = c.make_room_to_share.ensures.same;
      room = c.make_room_to_share.ensures.room c.if-not-make_room_to_share.false;
      number_is = c.in-Ok-open.ensures.ok.key.number;
      second_made = c.in-Ok-open.ensures.ok.connection;
      subscribes = c.enter_subscriber.ensures.subscribes;
      effects = c.enter_subscriber.ensures.effects;
      spare = c.enter_subscriber.ensures.spare;
    } in
    record { ready = ready_subscribed subscribing; hubs = leave_subscribed subscribing }

pub invariant_of-self-in-Ok-open : goal.invariant_of-self-in-Ok-open
invariant_of-self-in-Ok-open c =
    let hub = c.in-Some-hub_at.hub in
    let subscribing : IsSubscribing (state_of c.self.inside) c.args.at c.args.user.word c.in-Some.home c.in-Ok.place c.args.share.word c.make_room_to_share.new.self
    c.enter_subscriber.new.self c.in-Ok-open.opened.key.number (option_map (λ (k : Key). k.number) c.in-Ok-open.opened.connected) hub c.open.new.self =
    record {
      tied = c.self.invariant;
      plain = c.promise-2.ensures;
      there = sym c.in-Some-hub_at.ensures;
      opens = is_opening c.self.inside.book c.args.at (Sub hub.number) c.open.new.self _ c.promise.ensures c.in-Ok-open.ensures.accepted c.in-Ok-open.ensures.accepted.closed;
      roomier = c.make_room_to_share.ensures.same;
      room = c.make_room_to_share.ensures.room c.if-not-make_room_to_share.false;
      number_is = c.in-Ok-open.ensures.ok.key.number;
      second_made = c.in-Ok-open.ensures.ok.connection;
      subscribes = c.enter_subscriber.ensures.subscribes;
      effects = c.enter_subscriber.ensures.effects;
      spare = c.enter_subscriber.ensures.spare;
    } in
    let ws : c.wish.new.self.roles.list ≡ with_wish c.self.inside.wishes.roles.list (length c.self.inside.book.history) c.args.user =
    c.wish.ensures.roles ∙ (λ i. with_wish (c.make_room.ensures.roles i) (subscribing.number_is i) c.args.user) in
    let closes = subst (λ (rs : List Role). Closes c.open.new.self rs c.settle.new.wishes) ws c.settle.ensures.closes in
    tied_subscribed subscribing ghosts (record { book = c.settle.new.book; parts = c.settle.new.parts; wishes = c.settle.new.wishes }) c.args.user c.args.by
    c.settle.ensures.settles closes c.settle.ensures.ready

pub returns-in-Ok-open : goal.returns-in-Ok-open
returns-in-Ok-open c =
    let hub = c.in-Some-hub_at.hub in
    let subscribing : IsSubscribing (state_of c.self.inside) c.args.at c.args.user.word c.in-Some.home c.in-Ok.place c.args.share.word c.make_room_to_share.new.self
    c.enter_subscriber.new.self c.in-Ok-open.opened.key.number (option_map (λ (k : Key). k.number) c.in-Ok-open.opened.connected) hub c.open.new.self =
    record {
      tied = c.self.invariant;
      plain = c.promise-2.ensures;
      there = sym c.in-Some-hub_at.ensures;
      opens = is_opening c.self.inside.book c.args.at (Sub hub.number) c.open.new.self _ c.promise.ensures c.in-Ok-open.ensures.accepted c.in-Ok-open.ensures.accepted.closed;
      roomier = c.make_room_to_share.ensures.same;
      room = c.make_room_to_share.ensures.room c.if-not-make_room_to_share.false;
      number_is = c.in-Ok-open.ensures.ok.key.number;
      second_made = c.in-Ok-open.ensures.ok.connection;
      subscribes = c.enter_subscriber.ensures.subscribes;
      effects = c.enter_subscriber.ensures.effects;
      spare = c.enter_subscriber.ensures.spare;
    } in
    let housed = housed_home (is_housed c.self.inside.book (whose c.args.at c.args.user.lane)) c.in-Some.home (home_of (state_of c.self.inside) c.args.at c.args.user.lane)
    (subst (λ (s : State). Some c.in-Some.home ≡ (if is_housed s.book (whose c.args.at c.args.user.lane) then Some (home_of s c.args.at c.args.user.lane) else None))
    (sym c.self.view_is) c.in-Some.ensures.home) in
    let chosen : IsChosen (state_of c.self.inside) c.args.share (limit_for (state_of c.self.inside) c.args.at c.args.user.lane) c.in-Ok.place =
    record {
      chosen = ap (λ (h : Home). choice c.self.inside.parts.shares.hubs c.args.share h.limit) (sym housed.1) ∙ sym c.in-Ok.ensures;
      hub = hub;
      there = sym c.in-Some-hub_at.ensures;
    } in
    let ws : c.wish.new.self.roles.list ≡ with_wish c.self.inside.wishes.roles.list (length c.self.inside.book.history) c.args.user =
    c.wish.ensures.roles ∙ (λ i. with_wish (c.make_room.ensures.roles i) (subscribing.number_is i) c.args.user) in
    let closes = subst (λ (rs : List Role). Closes c.open.new.self rs c.settle.new.wishes) ws c.settle.ensures.closes in
    subst (λ (s : State). IsSubscribeMade ghosts c.args.at c.args.share c.args.user c.args.by s (record { book = c.settle.new.book; parts = c.settle.new.parts; wishes = c.settle.new.wishes })
    (Ok (record { key = c.in-Ok-open.opened.key; connection = c.in-Ok-open.opened.connected; place = c.in-Ok.place })))
    c.self.view_is
    (record {
      key = record { number = subscribing.number_is; listed = c.settle.ensures.keys.keys c.in-Ok-open.opened.key c.in-Ok-open.ensures.ok.key.listed };
      connection = second_listed c.open.new.self c.settle.new.book c.settle.ensures.keys c.in-Ok-open.opened.connected c.in-Ok-open.ensures.ok.connected;
      done = (
        record {
          housed = housed.0;
          chosen = chosen;
          mid = c.open.new.self;
          accepts = c.in-Ok-open.ensures.accepted;
          entered = c.enter_subscriber.new.self;
          subscribes = subst (λ (h : Home). Subscribes c.self.inside.parts (length c.self.inside.book.history) (is_root (Open (place_of c.args.at) (Sub hub.number))) c.args.user.word h
              c.in-Ok.place c.args.share.word (connection_made c.self.inside.book.history c.open.new.self.history) c.enter_subscriber.new.self) housed.1 (subscribes_first subscribing);
          settles = c.settle.ensures.settles;
          closes = closes;
        },
        subscribing.second_made,
      );
      refused = tt;
      kept = tt;
    })

pub returns-in-Err-open : goal.returns-in-Err-open
returns-in-Err-open c =
    let housed = housed_home (is_housed c.self.inside.book (whose c.args.at c.args.user.lane)) c.in-Some.home (home_of (state_of c.self.inside) c.args.at c.args.user.lane)
    (subst (λ (s : State). Some c.in-Some.home ≡ (if is_housed s.book (whose c.args.at c.args.user.lane) then Some (home_of s c.args.at c.args.user.lane) else None))
    (sym c.self.view_is) c.in-Some.ensures.home) in
    let chosen : IsChosen (state_of c.self.inside) c.args.share (limit_for (state_of c.self.inside) c.args.at c.args.user.lane) c.in-Ok.place =
    record {
      chosen = ap (λ (h : Home). choice c.self.inside.parts.shares.hubs c.args.share h.limit) (sym housed.1) ∙ sym c.in-Ok.ensures;
      hub = c.in-Some-hub_at.hub;
      there = sym c.in-Some-hub_at.ensures;
    } in
    subst (λ (s : State). IsSubscribeMade ghosts c.args.at c.args.share c.args.user c.args.by s
    (record { book = c.open.new.self; parts = c.make_room_to_share.new.self; wishes = c.make_room.new.self }) (Err c.in-Err-open.why)) c.self.view_is
    (record {
      key = tt;
      connection = tt;
      done = tt;
      refused = is_refused housed.0 chosen c.in-Err-open.ensures.refused;
      kept = record {
        book = c.in-Err-open.ensures.kept;
        parts = c.make_room_to_share.ensures.same;
        wishes = c.make_room.ensures.roles;
        closings = c.make_room.ensures.closings;
      };
    })

pub invariant_of-self : goal.invariant_of-self
invariant_of-self c =
    let i = c.self.inside in
    tied_seen (state_of i) (record { book = i.book; parts = c.make_room_to_share.new.self; wishes = i.wishes }) c.self.invariant
    (record { book = refl; parts = c.make_room_to_share.ensures.same; wishes = refl; closings = refl })

pub invariant_of-self-then-not-make_room : goal.invariant_of-self-then-not-make_room
invariant_of-self-then-not-make_room c =
    let i = c.self.inside in
    tied_seen (state_of i) (record { book = i.book; parts = c.make_room_to_share.new.self; wishes = c.make_room.new.self }) c.self.invariant
    (record { book = refl; parts = c.make_room_to_share.ensures.same; wishes = c.make_room.ensures.roles; closings = c.make_room.ensures.closings })
