-- What an engine promises holds behind a subscription to a share, and behind a connection of one.
use Rattle.std.proofs.Common.{◌≡◌, ℕ, ◌+◌, Bool, false, List, length, Option, Some, None, refl, sym, ap, ◌∙◌, subst, if◌then◌else◌}
use Rattle.rx_resource.specs.declared.Resource.{Ghosts}
use Rattle.rx_resource.specs.declared.token.Token.{Token}
use Rattle.rx_event.specs.declared.event.Event.{Event}
use Rattle.rx_event.specs.declared.event.Event.TheVariants.{Open, Connect}
use Rattle.rx_event.specs.declared.event.Kind.TheVariants.{Sub}
use Rattle.rx_event.specs.Events.{is_connect}
use Rattle.rx_event.proofs.Laws.Common.{at, is_open, is_root, is_merging, option_map_or}
use Rattle.rx_event.proofs.Laws.Common.{slice_get}
use Rattle.rx_book.specs.declared.answer.At.{At}
use Rattle.rx_book.specs.State.{State as BookState, is_kept}
use Rattle.rx_book.specs.Requests.{Request, place_of, open_request, connect_request}
use Rattle.rx_book.specs.Answers.{makes_connection, connection_made}
use Rattle.rx_pool.specs.declared.search.PooledHub.{PooledHub}
use Rattle.rx_pool.specs.Moves.{left_all, MayLeaveAll}
use Rattle.rx_pool.specs.Ties.{IsPlain}
use Rattle.rx_roles.specs.declared.roles.Role.{Role}
use Rattle.rx_roles.specs.Roles.{without_all, AreRolesOf}
use Rattle.rx_roles.specs.Effects.{after_all, items_in}
use Rattle.rx_pool.specs.Places.{places_left, AreShared, hub_named}
use Rattle.rx_pool.proofs.Laws.SharesAfterStep.{JoinsOwn, joined_list, shares_joined, joins_own, shared_after, may_leave}
use Rattle.rx_roles.proofs.Laws.FirstSubscriberConnects.{second_just}
use Rattle.rx_engine.specs.declared.parts.Parts.{Parts}
use Rattle.rx_engine.specs.declared.parts.User.{User}
use Rattle.rx_engine.specs.declared.homes.Home.{Home}
use Rattle.rx_engine.specs.States.{State, IsTied, hears_in, merges_in}
use Rattle.rx_engine.specs.Closings.{with_wish, AreWishes, Closes}
use Rattle.rx_engine.specs.Rooms.{IsReady, HasRoomFor, IsRoomier}
use Rattle.rx_engine.specs.Settlements.{mail_left, closed_of, Settles}
use Rattle.rx_engine.specs.Sharings.{Connects, Subscribes}
use Rattle.rx_engine.proofs.RoomGotten.{ready_with}
use Rattle.rx_engine.proofs.SharesGiven.{IsGiven, connects_given, subscribes_given, ready_given, subscribes_from, connects_from}
use Rattle.rx_engine.proofs.TiedAfterCall.{IsBehind, tied_settled}
use Rattle.rx_engine.proofs.TiedAfterOpening.{IsMakingCall, IsOpening, making, none_left, table_mid, homes_both, holds_mid, wishes_mid}

-- the connection that comes second
connects_same : (o : Option Event) → option_map_or makes_connection o false ≡ option_map_or is_connect o false
connects_same (Some (Connect g)) = refl
connects_same _ = refl

pub second_is : (h k : List Event) → connection_made h k ≡ (if at is_connect k (length h + 1) then Some (length h + 1) else None)
second_is h k = ap (λ (b : Bool). if b then Some (length h + 1) else None) (connects_same (slice_get k (length h + 1)))

-- a call made a node of a hub of the pool
pub record IsNaming (s : State) (asked : Request) (e : Event) (mid : BookState) (place : ℕ) : Type 0 where
  pub tied : IsTied s
  pub plain : IsPlain s.parts.shares.hubs
  pub hub : PooledHub
  pub there : slice_get s.parts.shares.hubs place ≡ Some hub
  pub names : hub_named e ≡ Some hub.number
  pub call : IsMakingCall s.book asked e mid (closed_of mid)

module _ {s : State} {asked : Request} {e : Event} {mid : BookState} {place : ℕ} (c : IsNaming s asked e mid place) where
  abbrev connected : Bool
  connected = at is_connect mid.history (length s.book.history + 1)

  joins : JoinsOwn (making c.call) s.parts.shares.list s.parts.shares.hubs place
  joins = record { shared = c.tied.shared; plain = c.plain; hub = c.hub; there = c.there; names = c.names }

  module _ {q : Parts} {word : ℕ} (given : IsGiven s.parts q (length s.book.history) (is_root e) (is_merging e) place word connected) where
    pub leave_named : MayLeaveAll (places_left q.shares.list (closed_of mid)) q.shares.hubs
    leave_named =
        subst (λ (rs : List Role). MayLeaveAll (places_left rs (closed_of mid)) q.shares.hubs) (sym given.shares)
        (subst (λ (hs : List PooledHub). MayLeaveAll (places_left (joined_list joins) (closed_of mid)) hs) (joins_own joins word ∙ sym given.hubs) (may_leave (shares_joined joins c.call.gone) word))

    shared_named : AreShared mid.history (without_all q.shares.list (closed_of mid)) (left_all (places_left q.shares.list (closed_of mid)) q.shares.hubs)
    shared_named =
        subst (λ (rs : List Role). AreShared mid.history (without_all rs (closed_of mid)) (left_all (places_left rs (closed_of mid)) q.shares.hubs)) (sym given.shares)
        (subst (λ (hs : List PooledHub). AreShared mid.history (without_all (joined_list joins) (closed_of mid)) (left_all (places_left (joined_list joins) (closed_of mid)) hs))
        (joins_own joins word ∙ sym given.hubs) (shared_after (shares_joined joins c.call.gone) word))

    pub behind_named : {ws : List Role} → AreWishes mid.history (without_all ws (closed_of mid)) → IsBehind mid q ws
    behind_named {ws} wishes = record {
      homes = subst (λ (rs : List Role). AreRolesOf (is_open mid.history) (without_all rs (closed_of mid))) (sym given.homes)
          (homes_both c.call s.parts.homes.list given.home given.other given.home_is given.other_is c.tied.homes);
      hears = subst (λ (rs : List Role). AreRolesOf (hears_in mid.history) (without_all rs (closed_of mid)))
          (sym ((λ i. after_all q.hears.list (none_left c.call c.tied.given i)) ∙ given.hears_are))
          (table_mid c.call is_root (λ g. refl) s.parts.hears.list given.ear given.ear_is c.tied.hears);
      merges = subst (λ (rs : List Role). AreRolesOf (merges_in mid.history) (without_all rs (closed_of mid))) (sym given.merges_are)
          (table_mid c.call is_merging (λ g. refl) s.parts.merges.list given.merge given.merge_is c.tied.merges);
      holds = subst (AreRolesOf (is_kept mid.history)) (sym given.holds) (holds_mid c.call c.tied.holds);
      shared = shared_named;
      wishes = wishes;
    }

-- one command that subscribes: the state, the parts with room, with what the node and its connection have, and the book behind the opening
pub record IsSubscribing (s : State) (place_at : At) (user : ℕ) (home : Home) (place word : ℕ) (p q : Parts) (number : ℕ) (second : Option ℕ) (hub : PooledHub)
    (mid : BookState) : Type 0 where
  pub tied : IsTied s
  pub plain : IsPlain s.parts.shares.hubs
  pub there : slice_get s.parts.shares.hubs place ≡ Some hub
  pub opens : IsOpening s.book place_at (Sub hub.number) mid (closed_of mid)
  pub roomier : IsRoomier s.parts p
  pub room : HasRoomFor 4 p
  pub number_is : number ≡ length s.book.history
  pub second_made : second ≡ connection_made s.book.history mid.history
  pub subscribes : Subscribes p number (is_root (Open (place_of place_at) (Sub hub.number))) user home place word second q
  pub effects : q.effects ≡ p.effects
  pub spare : q.lanes.spare ≡ p.lanes.spare

module _ {s : State} {place_at : At} {user : ℕ} {home : Home} {place word : ℕ} {p q : Parts} {number : ℕ} {second : Option ℕ} {hub : PooledHub} {mid : BookState}
    (c : IsSubscribing s place_at user home place word p q number second hub mid) where
  abbrev subscription : Event
  subscription = Open (place_of place_at) (Sub hub.number)

  abbrev now_connected : Bool
  now_connected = at is_connect mid.history (length s.book.history + 1)

  pub subscribes_first : Subscribes s.parts (length s.book.history) (is_root subscription) user home place word (connection_made s.book.history mid.history) q
  subscribes_first = subscribes_from s.parts p q (length s.book.history) number (is_root subscription) user home place word _ second c.roomier c.number_is c.second_made c.subscribes

  given_first : IsGiven s.parts q (length s.book.history) (is_root subscription) false place word now_connected
  given_first = subscribes_given s.parts q (length s.book.history) (is_root subscription) user home place word now_connected
      (subst (λ (o : Option ℕ). Subscribes s.parts (length s.book.history) (is_root subscription) user home place word o q) (second_is s.book.history mid.history) subscribes_first)

  naming : IsNaming s (open_request s.book place_at (Sub hub.number)) subscription mid place
  naming = record { tied = c.tied; plain = c.plain; hub = hub; there = c.there; names = refl; call = c.opens }

  pub leave_subscribed : MayLeaveAll (places_left q.shares.list (closed_of mid)) q.shares.hubs
  leave_subscribed = leave_named naming given_first

  pub ready_subscribed : IsReady (items_in (mail_left mid)) q
  ready_subscribed = subst (λ (n : ℕ). IsReady n q) (sym (ap items_in (none_left c.opens c.tied.given)))
      (ready_given p q (length s.book.history) (is_root subscription) false place word now_connected (ready_with 4 s.parts p c.tied.ready c.roomier c.room)
      (subscribes_given p q (length s.book.history) (is_root subscription) user home place word now_connected
      (subst (λ (o : Option ℕ). Subscribes p (length s.book.history) (is_root subscription) user home place word o q) (c.second_made ∙ second_is s.book.history mid.history)
      (subst (λ (n : ℕ). Subscribes p n (is_root subscription) user home place word second q) c.number_is c.subscribes))) c.effects c.spare)

  pub tied_subscribed : (g : Ghosts Token) (t : State) (wisher : User) (by : ℕ) → Settles g by 0 mid q t.book t.parts →
      Closes mid (with_wish s.wishes.roles.list (length s.book.history) wisher) t.wishes → IsReady 0 t.parts → IsTied t
  tied_subscribed g t wisher by settles closes ready =
      tied_settled g mid q (with_wish s.wishes.roles.list (length s.book.history) wisher) t by 0
      (behind_named naming given_first (wishes_mid c.opens wisher c.tied.wishes)) settles closes ready

-- one command that connects
pub record IsConnecting (s : State) (place word : ℕ) (p q : Parts) (number : ℕ) (hub : PooledHub) (mid : BookState) : Type 0 where
  pub tied : IsTied s
  pub plain : IsPlain s.parts.shares.hubs
  pub there : slice_get s.parts.shares.hubs place ≡ Some hub
  pub call : IsMakingCall s.book (connect_request hub.number) (Connect hub.number) mid (closed_of mid)
  pub roomier : IsRoomier s.parts p
  pub room : HasRoomFor 4 p
  pub number_is : number ≡ length s.book.history
  pub connects : Connects p number place word q
  pub effects : q.effects ≡ p.effects
  pub spare : q.lanes.spare ≡ p.lanes.spare

module _ {s : State} {place word : ℕ} {p q : Parts} {number : ℕ} {hub : PooledHub} {mid : BookState} (c : IsConnecting s place word p q number hub mid) where
  pub connects_first : Connects s.parts (length s.book.history) place word q
  connects_first = connects_from s.parts p q (length s.book.history) number place word c.roomier c.number_is c.connects

  given_connection : IsGiven s.parts q (length s.book.history) false false place word (at is_connect mid.history (length s.book.history + 1))
  given_connection = subst (λ (b : Bool). IsGiven s.parts q (length s.book.history) false false place word b) (sym (second_just (making c.call)))
      (connects_given s.parts q (length s.book.history) place word connects_first)

  naming_connection : IsNaming s (connect_request hub.number) (Connect hub.number) mid place
  naming_connection = record { tied = c.tied; plain = c.plain; hub = hub; there = c.there; names = refl; call = c.call }

  pub leave_connected : MayLeaveAll (places_left q.shares.list (closed_of mid)) q.shares.hubs
  leave_connected = leave_named naming_connection given_connection

  pub ready_connected : IsReady (items_in (mail_left mid)) q
  ready_connected = subst (λ (n : ℕ). IsReady n q) (sym (ap items_in (none_left c.call c.tied.given)))
      (ready_given p q number false false place word false (ready_with 4 s.parts p c.tied.ready c.roomier c.room)
      (connects_given p q number place word c.connects) c.effects c.spare)

  pub tied_connected : (g : Ghosts Token) (t : State) (wisher : User) (by : ℕ) → Settles g by 0 mid q t.book t.parts →
      Closes mid (with_wish s.wishes.roles.list (length s.book.history) wisher) t.wishes → IsReady 0 t.parts → IsTied t
  tied_connected g t wisher by settles closes ready =
      tied_settled g mid q (with_wish s.wishes.roles.list (length s.book.history) wisher) t by 0
      (behind_named naming_connection given_connection (wishes_mid c.call wisher c.tied.wishes)) settles closes ready
