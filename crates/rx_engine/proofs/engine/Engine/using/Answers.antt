use Rattle.std.proofs.Common.{◌≡◌, ◌<◌, Bool, List, [], length, Some, None, Ok, Err, inr, if◌then◌else◌, refl, sym, ◌∙◌, arith, subst}
use Rattle.rx_resource.specs.contracts.token.TokenResource.TheImpl.{ghosts}
use Rattle.rx_resource.specs.declared.Life.TheVariants.{Live}
use Rattle.rx_resource.specs.declared.token.Token.{Token}
use Rattle.rx_event.specs.declared.event.Event.TheVariants.{Open}
use Rattle.rx_event.specs.declared.refusal.Refusal.{Refusal}
use Rattle.rx_event.specs.Events.{is_root, is_merging}
use Rattle.rx_event.specs.Refusals.{IsRefusal}
use Rattle.rx_book.specs.State.{State as BookState}
use Rattle.rx_book.specs.Answers.{Accepts}
use Rattle.rx_book.specs.Requests.{hold_request, place_of, is_fresh_in}
use Rattle.rx_book.specs.OpensHolding.{stands_holding}
use Rattle.rx_roles.specs.declared.roles.Role.{Role}
use Rattle.rx_roles.specs.Roles.{Table, AreBelow}
use Rattle.rx_engine.specs.declared.homes.Home.{Home}
use Rattle.rx_engine.specs.States.{State}
use Rattle.rx_engine.specs.Closings.{with_wish, Closes}
use Rattle.rx_engine.specs.Homes.{whose, is_housed, home_of}
use Rattle.rx_engine.specs.Openings.{Enters}
use Rattle.rx_engine.specs.Usings.{IsUsingMade}
use Rattle.rx_engine.specs.Ties.{state_of}
use Rattle.rx_engine.proofs.HomesFound.{housed_home, stands_same}
use Rattle.rx_engine.proofs.LanesJoined.{many_few}
use Rattle.rx_engine.proofs.LanesGiven.{IsOpenAt, enters_many, entered_names, entered_lane}
use Rattle.rx_engine.proofs.RoomGotten.{ready_roomier, still_at}
use Rattle.rx_engine.proofs.TiedAfterUsing.{IsUsing, longer, IsUsed, ready_used, leave_used, used_enters, used_keeps, tied_used}
use Rattle.rx_engine.proofs.TiedAfterOpening.{none_beyond, none_housed_beyond}
use Rattle.rx_engine.proofs.TiedAfterHolding.{none_kept_beyond}
use Rattle.rx_engine.proofs.WishesKept.{none_wished_beyond}
use Rattle.rx_engine.proofs.SharesChosen.{tied_seen}
use Rattle.rx_engine.proofs.engine.Engine.using.Goals as goal

pub enter-name-requires : goal.enter-name-requires
enter-name-requires c =
    let same = c.make_room_to_use.ensures.same in
    let below = λ (rs : List Role) (is : AreBelow rs (length c.self.inside.book.history)). subst (AreBelow rs) (sym c.in-Ok.ensures.ok.opened.key.number) is in
    let has = c.make_room_to_use.ensures.room c.if-not-make_room_to_use.false in
    let few = has.few in
    record {
      room = c.make_room_to_use.ensures.node c.if-not-make_room_to_use.false;
      homes = below c.make_room_to_use.new.self.homes.list
          (subst (λ (rs : List Role). AreBelow rs (length c.self.inside.book.history)) (sym same.homes)
          (none_housed_beyond c.self.inside.book.history c.self.inside.parts.homes.list c.self.invariant.homes));
      hears = below c.make_room_to_use.new.self.hears.list
          (subst (λ (rs : List Role). AreBelow rs (length c.self.inside.book.history)) (sym same.hears)
          (none_beyond is_root c.self.inside.book.history c.self.inside.parts.hears.list c.self.invariant.hears));
      merges = below c.make_room_to_use.new.self.merges.list
          (subst (λ (rs : List Role). AreBelow rs (length c.self.inside.book.history)) (sym same.merges)
          (none_beyond is_merging c.self.inside.book.history c.self.inside.parts.merges.list c.self.invariant.merges));
      there = still_at c.self.inside.parts c.make_room_to_use.new.self same c.in-Some.home.lane
          (subst (λ (s : State). IsOpenAt s.parts.lanes c.in-Some.home.lane) (sym c.self.view_is) c.in-Some.ensures.found);
      many = (ready_roomier c.self.inside.parts c.make_room_to_use.new.self c.self.invariant.ready same).many;
      few = omega (arith, few);
    }

pub keep-requires : goal.keep-requires
keep-requires c =
    let b : BookState = c.self.inside.book in
    let o = c.in-Ok.ensures.ok in
    let node = c.in-Ok.used.opened.key in
    let uses : IsUsing b c.args.at c.args.kind node c.args.tag o.middle c.open_holding.new.self =
    record {
      promised = c.promise.ensures;
      alone = c.requires.alone;
      opens = o.opens;
      holds = subst (λ (x : Token). Accepts o.middle (hold_request ghosts o.middle node x) (record c.open_holding.new.self { closed = [] })) c.new.ensures o.holds;
      gone = o.closed;
    } in
    let same = c.make_room_to_use.ensures.same in
    let many = (ready_roomier c.self.inside.parts c.make_room_to_use.new.self c.self.invariant.ready same).many in
    let has = c.make_room_to_use.ensures.room c.if-not-make_room_to_use.false in
    let e = c.enter-name.ensures.entered in
    let more = entered_names e in
    let few = has.few in
    record {
      room = subst (λ (x : Table). 0 < x.room) (sym c.enter-name.ensures.holds) (c.make_room_to_use.ensures.holds c.if-not-make_room_to_use.false);
      below = subst (AreBelow c.enter-name.new.self.holds.list) (sym o.res.number)
          (subst (λ (rs : List Role). AreBelow rs (length o.middle.history)) (sym (e.holds ∙ same.holds))
          (λ n l. none_kept_beyond b.history c.self.inside.parts.holds.list c.self.invariant.holds n (let far = longer uses in omega (arith, far, l))));
      there = entered_lane e;
      few = λ l is.
          (let some = many_few c.enter-name.new.self c.enter-name.result
          (enters_many c.make_room_to_use.new.self c.enter-name.new.self node.number _ _ c.args.user.word c.in-Some.home c.enter-name.result many e) l is in
          omega (arith, some, more, few));
    }

pub wish-requires-clause-below : goal.wish-requires-clause-below
wish-requires-clause-below c =
    subst (AreBelow c.make_room.new.self.roles.list) (sym c.in-Ok.ensures.ok.opened.key.number)
    (subst (λ (rs : List Role). AreBelow rs (length c.self.inside.book.history)) (sym c.make_room.ensures.roles)
    (none_wished_beyond c.self.invariant.wishes))

pub settle-requires : goal.settle-requires
settle-requires c =
    let b : BookState = c.self.inside.book in
    let o = c.in-Ok.ensures.ok in
    let node = c.in-Ok.used.opened.key in
    let uses : IsUsing b c.args.at c.args.kind node c.args.tag o.middle c.open_holding.new.self =
    record {
      promised = c.promise.ensures;
      alone = c.requires.alone;
      opens = o.opens;
      holds = subst (λ (x : Token). Accepts o.middle (hold_request ghosts o.middle node x) (record c.open_holding.new.self { closed = [] })) c.new.ensures o.holds;
      gone = o.closed;
    } in
    let used : IsUsed (state_of c.self.inside) c.args.at c.args.kind c.args.user.word c.in-Some.home node c.args.tag c.enter-name.result c.make_room_to_use.new.self c.enter-name.new.self
    c.keep.new.self c.in-Ok.used.res.number o.middle c.open_holding.new.self =
    record {
      tied = c.self.invariant;
      uses = uses;
      roomier = c.make_room_to_use.ensures.same;
      room = c.make_room_to_use.ensures.room c.if-not-make_room_to_use.false;
      number_is = o.opened.key.number;
      enters = c.enter-name.ensures.entered;
      entered = c.enter-name.ensures.effects;
      entered_spare = c.enter-name.ensures.spare;
      res_is = o.res.number;
      keeps = c.keep.ensures.keeps;
      kept = c.keep.ensures.effects;
      kept_spare = c.keep.ensures.spare;
    } in
    record { ready = ready_used used; hubs = leave_used used }

pub invariant_of-self-in-Ok : goal.invariant_of-self-in-Ok
invariant_of-self-in-Ok c =
    let b : BookState = c.self.inside.book in
    let o = c.in-Ok.ensures.ok in
    let node = c.in-Ok.used.opened.key in
    let uses : IsUsing b c.args.at c.args.kind node c.args.tag o.middle c.open_holding.new.self =
    record {
      promised = c.promise.ensures;
      alone = c.requires.alone;
      opens = o.opens;
      holds = subst (λ (x : Token). Accepts o.middle (hold_request ghosts o.middle node x) (record c.open_holding.new.self { closed = [] })) c.new.ensures o.holds;
      gone = o.closed;
    } in
    let used : IsUsed (state_of c.self.inside) c.args.at c.args.kind c.args.user.word c.in-Some.home node c.args.tag c.enter-name.result c.make_room_to_use.new.self c.enter-name.new.self
    c.keep.new.self c.in-Ok.used.res.number o.middle c.open_holding.new.self =
    record {
      tied = c.self.invariant;
      uses = uses;
      roomier = c.make_room_to_use.ensures.same;
      room = c.make_room_to_use.ensures.room c.if-not-make_room_to_use.false;
      number_is = o.opened.key.number;
      enters = c.enter-name.ensures.entered;
      entered = c.enter-name.ensures.effects;
      entered_spare = c.enter-name.ensures.spare;
      res_is = o.res.number;
      keeps = c.keep.ensures.keeps;
      kept = c.keep.ensures.effects;
      kept_spare = c.keep.ensures.spare;
    } in
    let ws : c.wish.new.self.roles.list ≡ with_wish c.self.inside.wishes.roles.list (length b.history) c.args.user =
    c.wish.ensures.roles ∙ (λ i. with_wish (c.make_room.ensures.roles i) (used.number_is i) c.args.user) in
    let closes = subst (λ (rs : List Role). Closes c.open_holding.new.self rs c.settle.new.wishes) ws c.settle.ensures.closes in
    tied_used (state_of c.self.inside) (record { book = c.settle.new.book; parts = c.settle.new.parts; wishes = c.settle.new.wishes }) c.args.at c.args.kind c.args.user c.in-Some.home node
    c.args.tag c.enter-name.result o.middle c.open_holding.new.self c.enter-name.new.self c.keep.new.self c.args.by c.self.invariant uses (used_enters used) (used_keeps used)
    c.settle.ensures.settles closes c.settle.ensures.ready

pub returns-in-Ok : goal.returns-in-Ok
returns-in-Ok c =
    let b : BookState = c.self.inside.book in
    let o = c.in-Ok.ensures.ok in
    let node = c.in-Ok.used.opened.key in
    let uses : IsUsing b c.args.at c.args.kind node c.args.tag o.middle c.open_holding.new.self =
    record {
      promised = c.promise.ensures;
      alone = c.requires.alone;
      opens = o.opens;
      holds = subst (λ (x : Token). Accepts o.middle (hold_request ghosts o.middle node x) (record c.open_holding.new.self { closed = [] })) c.new.ensures o.holds;
      gone = o.closed;
    } in
    let used : IsUsed (state_of c.self.inside) c.args.at c.args.kind c.args.user.word c.in-Some.home node c.args.tag c.enter-name.result c.make_room_to_use.new.self c.enter-name.new.self
    c.keep.new.self c.in-Ok.used.res.number o.middle c.open_holding.new.self =
    record {
      tied = c.self.invariant;
      uses = uses;
      roomier = c.make_room_to_use.ensures.same;
      room = c.make_room_to_use.ensures.room c.if-not-make_room_to_use.false;
      number_is = o.opened.key.number;
      enters = c.enter-name.ensures.entered;
      entered = c.enter-name.ensures.effects;
      entered_spare = c.enter-name.ensures.spare;
      res_is = o.res.number;
      keeps = c.keep.ensures.keeps;
      kept = c.keep.ensures.effects;
      kept_spare = c.keep.ensures.spare;
    } in
    let housed = housed_home (is_housed c.self.inside.book (whose c.args.at c.args.user.lane)) c.in-Some.home
    (home_of (state_of c.self.inside) c.args.at c.args.user.lane)
    (subst (λ (s : State). Some c.in-Some.home ≡ (if is_housed s.book (whose c.args.at c.args.user.lane) then Some (home_of s c.args.at c.args.user.lane) else
    None))
    (sym c.self.view_is) c.in-Some.ensures.home) in
    let ws : c.wish.new.self.roles.list ≡ with_wish c.self.inside.wishes.roles.list (length b.history) c.args.user =
    c.wish.ensures.roles ∙ (λ i. with_wish (c.make_room.ensures.roles i) (used.number_is i) c.args.user) in
    let closes = subst (λ (rs : List Role). Closes c.open_holding.new.self rs c.settle.new.wishes) ws c.settle.ensures.closes in
    subst (λ (s : State). IsUsingMade ghosts c.args.at c.args.kind c.args.user c.args.tag c.args.by s
    (record { book = c.settle.new.book; parts = c.settle.new.parts; wishes = c.settle.new.wishes }) (Ok (record { key = node; res = c.in-Ok.used.res })))
    c.self.view_is
    (record {
      key = record { number = used.number_is; listed = c.settle.ensures.keys.keys node o.opened.key.listed };
      done = (
        record {
          middle = o.middle;
          opens = o.opens;
          housed = housed.0;
          node = node;
          number = used.number_is;
          mid = c.open_holding.new.self;
          holds = uses.holds;
          closed = uses.gone;
          name = c.enter-name.result;
          entered = c.enter-name.new.self;
          enters = subst (λ (h : Home). Enters c.self.inside.parts (length b.history) (is_root (Open (place_of c.args.at) c.args.kind))
              (is_merging (Open (place_of c.args.at) c.args.kind))
              c.args.user.word h c.enter-name.result c.enter-name.new.self) housed.1 (used_enters used);
          with_tag = c.keep.new.self;
          keeps = used_keeps used;
          settles = c.settle.ensures.settles;
          closes = closes;
        },
        refl,
        record { number = used.res_is; listed = c.settle.ensures.keys.res_keys c.in-Ok.used.res o.res.listed },
      );
      refused = tt;
      kept = tt;
    })

pub returns-in-Err : goal.returns-in-Err
returns-in-Err c =
    let housed = housed_home (is_housed c.self.inside.book (whose c.args.at c.args.user.lane)) c.in-Some.home
    (home_of (state_of c.self.inside) c.args.at c.args.user.lane)
    (subst (λ (s : State). Some c.in-Some.home ≡ (if is_housed s.book (whose c.args.at c.args.user.lane) then Some (home_of s c.args.at c.args.user.lane) else
    None))
    (sym c.self.view_is) c.in-Some.ensures.home) in
    subst (λ (s : State). IsUsingMade ghosts c.args.at c.args.kind c.args.user c.args.tag c.args.by s
    (record { book = c.open_holding.new.self; parts = c.make_room_to_use.new.self; wishes = c.make_room.new.self }) (Err c.in-Err.refused.why)) c.self.view_is
    (record {
      key = tt;
      done = tt;
      refused = inr
          (subst (λ (stand : Refusal → Bool). IsRefusal stand c.in-Err.refused.why)
          (sym (stands_same c.self.inside.book c.args.at c.args.kind c.args.user.lane (is_fresh_in ghosts (record { tag = c.args.tag; life = Live; uses = 0 }))
          housed.0))
          (subst (λ (x : Token). IsRefusal (stands_holding c.self.inside.book c.args.at c.args.kind (is_fresh_in ghosts x)) c.in-Err.refused.why) c.new.ensures
          c.in-Err.ensures.refused));
      kept = record {
        book = c.in-Err.ensures.kept;
        parts = c.make_room_to_use.ensures.same;
        wishes = c.make_room.ensures.roles;
        closings = c.make_room.ensures.closings;
      };
    })

pub invariant_of-self : goal.invariant_of-self
invariant_of-self c =
    let i = c.self.inside in
    tied_seen (state_of i) (record { book = i.book; parts = c.make_room_to_use.new.self; wishes = i.wishes }) c.self.invariant
    (record { book = refl; parts = c.make_room_to_use.ensures.same; wishes = refl; closings = refl })

pub invariant_of-self-then-not-make_room : goal.invariant_of-self-then-not-make_room
invariant_of-self-then-not-make_room c =
    let i = c.self.inside in
    tied_seen (state_of i) (record { book = i.book; parts = c.make_room_to_use.new.self; wishes = c.make_room.new.self }) c.self.invariant
    (record { book = refl; parts = c.make_room_to_use.ensures.same; wishes = c.make_room.ensures.roles; closings = c.make_room.ensures.closings })
