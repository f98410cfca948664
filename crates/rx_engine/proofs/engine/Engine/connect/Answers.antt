use Rattle.std.proofs.Common.{◌≡◌, List, length, Ok, Err, refl, sym, ◌∙◌, subst}
use Rattle.rx_resource.specs.contracts.token.TokenResource.TheImpl.{ghosts}
use Rattle.rx_event.specs.declared.event.Event.TheVariants.{Connect}
use Rattle.rx_event.specs.declared.refusal.Refusal.TheVariants.{NoMemory}
use Rattle.rx_book.specs.Requests.{connect_request}
use Rattle.rx_pool.specs.Choice.{choice}
use Rattle.rx_roles.specs.declared.roles.Role.{Role}
use Rattle.rx_roles.specs.Roles.{AreBelow}
use Rattle.rx_engine.specs.States.{State}
use Rattle.rx_engine.specs.Closings.{with_wish, Closes}
use Rattle.rx_engine.specs.Homes.{no_limit}
use Rattle.rx_engine.specs.Sharings.{IsChosen, none_chosen, is_wanting, is_refused, IsConnectMade}
use Rattle.rx_engine.specs.Ties.{state_of}
use Rattle.rx_engine.proofs.SharesChosen.{seen_itself, tied_seen, chosen_there, IsReserved, may_connect}
use Rattle.rx_engine.proofs.TiedAfterOpening.{is_connecting}
use Rattle.rx_engine.proofs.TiedAfterSharing.{IsConnecting, leave_connected, ready_connected, connects_first, tied_connected}
use Rattle.rx_engine.proofs.WishesKept.{none_wished_beyond}
use Rattle.rx_engine.proofs.engine.Engine.connect.Goals as goal

pub returns-in-Err : goal.returns-in-Err
returns-in-Err c = record {
  key = tt;
  done = tt;
  refused = none_chosen refl (subst (λ (s : State). choice s.parts.shares.hubs c.args.share no_limit ≡ Err c.in-Err.why) c.self.view_is (sym c.in-Err.ensures));
  kept = seen_itself c.args.self.now;
}

pub returns-in_default : goal.returns-in_default
returns-in_default c = absurd (chosen_there c.self.inside.parts.shares.hubs c.args.share no_limit c.in-Ok.place c.promise-2.ensures (sym c.in-Ok.ensures) (sym c.in_default.ensures))

pub returns-then-not-make_room_to_share : goal.returns-then-not-make_room_to_share
returns-then-not-make_room_to_share c =
    let chosen : IsChosen (state_of c.self.inside) c.args.share no_limit c.in-Ok.place =
    record { chosen = sym c.in-Ok.ensures; hub = c.in-Some.hub; there = sym c.in-Some.ensures } in
    subst (λ (s : State). IsConnectMade ghosts c.args.share c.args.user c.args.by s
    (record { book = c.self.inside.book; parts = c.make_room_to_share.new.self; wishes = c.self.inside.wishes }) (Err NoMemory)) c.self.view_is
    (record {
      key = tt;
      done = tt;
      refused = is_wanting refl chosen;
      kept = record { book = refl; parts = c.make_room_to_share.ensures.same; wishes = refl; closings = refl };
    })

pub returns-then-not-make_room : goal.returns-then-not-make_room
returns-then-not-make_room c =
    let chosen : IsChosen (state_of c.self.inside) c.args.share no_limit c.in-Ok.place =
    record { chosen = sym c.in-Ok.ensures; hub = c.in-Some.hub; there = sym c.in-Some.ensures } in
    subst (λ (s : State). IsConnectMade ghosts c.args.share c.args.user c.args.by s
    (record { book = c.self.inside.book; parts = c.make_room_to_share.new.self; wishes = c.make_room.new.self }) (Err NoMemory)) c.self.view_is
    (record {
      key = tt;
      done = tt;
      refused = is_wanting refl chosen;
      kept = record { book = refl; parts = c.make_room_to_share.ensures.same; wishes = c.make_room.ensures.roles; closings = c.make_room.ensures.closings };
    })

pub enter_connection-requires : goal.enter_connection-requires
enter_connection-requires c =
    let reserved : IsReserved (state_of c.self.inside) (connect_request c.in-Some.hub.number) (Connect c.in-Some.hub.number) c.connect.new.self c.args.share no_limit c.in-Ok.place
    c.make_room_to_share.new.self =
    record {
      tied = c.self.invariant;
      plain = c.promise-2.ensures;
      chosen = sym c.in-Ok.ensures;
      call = is_connecting c.self.inside.book c.in-Some.hub.number c.connect.new.self _ c.promise.ensures c.in-Ok-connect.ensures.accepted c.in-Ok-connect.ensures.accepted.closed;
      roomier = c.make_room_to_share.ensures.same;
      room = c.make_room_to_share.ensures.room c.if-not-make_room_to_share.false;
      shares = c.make_room_to_share.ensures.share c.if-not-make_room_to_share.false;
    } in
    may_connect reserved c.in-Ok-connect.key.number c.in-Ok-connect.ensures.ok.number

pub wish-requires-clause-below : goal.wish-requires-clause-below
wish-requires-clause-below c =
    subst (AreBelow c.make_room.new.self.roles.list) (sym c.in-Ok-connect.ensures.ok.number)
    (subst (λ (rs : List Role). AreBelow rs (length c.self.inside.book.history)) (sym c.make_room.ensures.roles)
    (none_wished_beyond c.self.invariant.wishes))

pub settle-requires : goal.settle-requires
settle-requires c =
    let connecting : IsConnecting (state_of c.self.inside) c.in-Ok.place c.args.share.word c.make_room_to_share.new.self c.enter_connection.new.self c.in-Ok-connect.key.number c.in-Some.hub
    c.connect.new.self =
    record {
      tied = c.self.invariant;
      plain = c.promise-2.ensures;
      there = sym c.in-Some.ensures;
      call = is_connecting c.self.inside.book c.in-Some.hub.number c.connect.new.self _ c.promise.ensures c.in-Ok-connect.ensures.accepted c.in-Ok-connect.ensures.accepted.closed;
      roomier = c.make_room_to_share.ensures.same;
      room = c.make_room_to_share.ensures.room c.if-not-make_room_to_share.false;
      number_is = c.in-Ok-connect.ensures.ok.number;
      connects = c.enter_connection.ensures.connects;
      effects = c.enter_connection.ensures.effects;
      spare = c.enter_connection.ensures.spare;
    } in
    record { ready = ready_connected connecting; hubs = leave_connected connecting }

pub invariant_of-self-in-Ok-connect : goal.invariant_of-self-in-Ok-connect
invariant_of-self-in-Ok-connect c =
    let connecting : IsConnecting (state_of c.self.inside) c.in-Ok.place c.args.share.word c.make_room_to_share.new.self c.enter_connection.new.self c.in-Ok-connect.key.number c.in-Some.hub
    c.connect.new.self =
    record {
      tied = c.self.invariant;
      plain = c.promise-2.ensures;
      there = sym c.in-Some.ensures;
      call = is_connecting c.self.inside.book c.in-Some.hub.number c.connect.new.self _ c.promise.ensures c.in-Ok-connect.ensures.accepted c.in-Ok-connect.ensures.accepted.closed;
      roomier = c.make_room_to_share.ensures.same;
      room = c.make_room_to_share.ensures.room c.if-not-make_room_to_share.false;
      number_is = c.in-Ok-connect.ensures.ok.number;
      connects = c.enter_connection.ensures.connects;
      effects = c.enter_connection.ensures.effects;
      spare = c.enter_connection.ensures.spare;
    } in
    let ws : c.wish.new.self.roles.list ≡ with_wish c.self.inside.wishes.roles.list (length c.self.inside.book.history) c.args.user =
    c.wish.ensures.roles ∙ (λ i. with_wish (c.make_room.ensures.roles i) (connecting.number_is i) c.args.user) in
    let closes = subst (λ (rs : List Role). Closes c.connect.new.self rs c.settle.new.wishes) ws c.settle.ensures.closes in
    tied_connected connecting ghosts (record { book = c.settle.new.book; parts = c.settle.new.parts; wishes = c.settle.new.wishes }) c.args.user c.args.by
    c.settle.ensures.settles closes c.settle.ensures.ready

pub returns-in-Ok-connect : goal.returns-in-Ok-connect
returns-in-Ok-connect c =
    let connecting : IsConnecting (state_of c.self.inside) c.in-Ok.place c.args.share.word c.make_room_to_share.new.self c.enter_connection.new.self c.in-Ok-connect.key.number c.in-Some.hub
    c.connect.new.self =
    record {
      tied = c.self.invariant;
      plain = c.promise-2.ensures;
      there = sym c.in-Some.ensures;
      call = is_connecting c.self.inside.book c.in-Some.hub.number c.connect.new.self _ c.promise.ensures c.in-Ok-connect.ensures.accepted c.in-Ok-connect.ensures.accepted.closed;
      roomier = c.make_room_to_share.ensures.same;
      room = c.make_room_to_share.ensures.room c.if-not-make_room_to_share.false;
      number_is = c.in-Ok-connect.ensures.ok.number;
      connects = c.enter_connection.ensures.connects;
      effects = c.enter_connection.ensures.effects;
      spare = c.enter_connection.ensures.spare;
    } in
    let chosen : IsChosen (state_of c.self.inside) c.args.share no_limit c.in-Ok.place =
    record { chosen = sym c.in-Ok.ensures; hub = c.in-Some.hub; there = sym c.in-Some.ensures } in
    let ws : c.wish.new.self.roles.list ≡ with_wish c.self.inside.wishes.roles.list (length c.self.inside.book.history) c.args.user =
    c.wish.ensures.roles ∙ (λ i. with_wish (c.make_room.ensures.roles i) (connecting.number_is i) c.args.user) in
    let closes = subst (λ (rs : List Role). Closes c.connect.new.self rs c.settle.new.wishes) ws c.settle.ensures.closes in
    subst (λ (s : State). IsConnectMade ghosts c.args.share c.args.user c.args.by s (record { book = c.settle.new.book; parts = c.settle.new.parts; wishes = c.settle.new.wishes })
    (Ok (record { key = c.in-Ok-connect.key; place = c.in-Ok.place })))
    c.self.view_is
    (record {
      key = record { number = connecting.number_is; listed = c.settle.ensures.keys.keys c.in-Ok-connect.key c.in-Ok-connect.ensures.ok.listed };
      done = record {
        chosen = chosen;
        mid = c.connect.new.self;
        accepts = c.in-Ok-connect.ensures.accepted;
        entered = c.enter_connection.new.self;
        connects = connects_first connecting;
        settles = c.settle.ensures.settles;
        closes = closes;
      };
      refused = tt;
      kept = tt;
    })

pub returns-in-Err-connect : goal.returns-in-Err-connect
returns-in-Err-connect c =
    let chosen : IsChosen (state_of c.self.inside) c.args.share no_limit c.in-Ok.place =
    record { chosen = sym c.in-Ok.ensures; hub = c.in-Some.hub; there = sym c.in-Some.ensures } in
    subst (λ (s : State). IsConnectMade ghosts c.args.share c.args.user c.args.by s
    (record { book = c.connect.new.self; parts = c.make_room_to_share.new.self; wishes = c.make_room.new.self }) (Err c.in-Err-connect.why)) c.self.view_is
    (record {
      key = tt;
      done = tt;
      refused = is_refused refl chosen c.in-Err-connect.ensures.refused;
      kept = record {
        book = c.in-Err-connect.ensures.kept;
        parts = c.make_room_to_share.ensures.same;
        wishes = c.make_room.ensures.roles;
        closings = c.make_room.ensures.closings;
      };
    })

pub invariant_of-self-in-Err-connect : goal.invariant_of-self-in-Err-connect
invariant_of-self-in-Err-connect c =
    tied_seen (state_of c.self.inside) (record { book = c.connect.new.self; parts = c.make_room_to_share.new.self; wishes = c.make_room.new.self }) c.self.invariant
    (record {
      book = c.in-Err-connect.ensures.kept;
      parts = c.make_room_to_share.ensures.same;
      wishes = c.make_room.ensures.roles;
      closings = c.make_room.ensures.closings;
    })

pub invariant_of-self : goal.invariant_of-self
invariant_of-self c =
    let i = c.self.inside in
    tied_seen (state_of i) (record { book = i.book; parts = c.make_room_to_share.new.self; wishes = i.wishes }) c.self.invariant
    (record { book = refl; parts = c.make_room_to_share.ensures.same; wishes = refl; closings = refl })

pub invariant_of-self-then-not-make_room : goal.invariant_of-self-then-not-make_room
invariant_of-self-then-not-make_room c =
    let i = c.self.inside in
    tied_seen (state_of i) (record { book = i.book; parts = c.make_room_to_share.new.self; wishes = c.make_room.new.self }) c.self.invariant
    (record { book = refl; parts = c.make_room_to_share.ensures.same; wishes = c.make_room.ensures.roles; closings = c.make_room.ensures.closings })
