-- A call, from where nothing stands against it: its events may be written, what they force is paid for, and it is accepted.
use Rattle.rx_book.proofs.Common.{◌≡◌, ◌==◌, ℕ, ◌+◌, ◌≤◌, Bool, true, List, [], ◌∷◌, ◌++◌, length, Option, None, is_some, refl, sym, ap, subst, ◌∙◌}
use Rattle.rx_book.proofs.Common.{arith, length-append, append_assoc, append-nil, not, list_all, option_map_or, and_parts, false≢true, not-false, eqb-true}
use Rattle.rx_book.proofs.Common.{Kept, Ghosts, Mail, Event, Accept, hub_subscribed, IsConnected, MayWait, none_waits, one_waits, IsSettled, notes, mail_of}
use Rattle.rx_book.proofs.Common.{debt, Call, outside_of, MayFollow, IsLawful, IsForcedOn, stays, more, forced, allowed, opened_with, Full, NotFresh, Live}
use Rattle.rx_book.proofs.Common.{first_cause, notes-push, IsLawful-push, settled_connected, waits_after, forced_connected, kept_unsubscribed, Fits}
use Rattle.rx_book.proofs.Common.{Writes, causes, added_by, by_key_of, is_over, IsPaid, HasRoomFor, notes_added, no_cause, call_room, call_mail_room}
use Rattle.rx_book.proofs.Common.{paid_room, within_limit, call_follows, call_fits, called_paid, Ground, adds_forced, gathers_on, Closes, closes_on, IsStanding, IsRoomier, find}
use Rattle.rx_book.proofs.Common.{IsReady, HasRoomToConnect, KeepsKeys, keeps_on}
use Rattle.rx_book.proofs.Common.{keeps_settled, has_key, has_res_key, has_lease_key, Request, stands, is_live, Slots}
use Rattle.rx_book.proofs.Common.{is_fresh_in, Accepts, IsLetIn, IsWritten, lease_key, is_out_at, is_held_at, is_owned_at, is_owned, owned_there, Key, ResKey}
use Rattle.rx_book.proofs.Common.{LeaseKey, keys_of, res_keys_of, lease_keys_of, state_of}
use Rattle.rx_resource.specs.declared.Life.{Life}
use Rattle.rx_ground.specs.Settling.{Settles}
use Rattle.rx_register.specs.State.{State as Register, IsPromised}
use Rattle.rx_register.specs.Claims.{MayFollowInTurn, IsReady as IsReadyFor}
use Rattle.rx_ground.proofs.Laws.GoneStaysGone.{further_written}
use Rattle.rx_book.proofs.ShownKeys.{key_finds, finding_key, res_key_finds, finding_res_key, has_key_is, has_res_key_is, lease_key_finds, finding_lease_key}
use Rattle.rx_book.proofs.ShownKeys.{has_lease_key_is}
use Rattle.rx_book.proofs.CausesByKey.{unstood}
use Rattle.rx_book.proofs.ListOfClosed.{just_gone, gone_in_order, gone_keys}
use Rattle.std.proofs.Common.{rules}

-- histories ---------------------------------------------------------------------------------------

lawful_in_turn : (base : Kept) → (h es : List Event) → IsLawful base h → MayFollowInTurn base h es → IsLawful base (h ++ es)
lawful_in_turn base h [] law next = subst (IsLawful base) (sym (append-nil h)) law
lawful_in_turn base h (e ∷ es) law next =
    subst (IsLawful base) (append_assoc h (e ∷ []) es) (lawful_in_turn base (h ++ e ∷ []) es (IsLawful-push base h e law next.0) next.1)

pub lawful_forced : (base : Kept) → {h k : List Event} → IsLawful base h → IsForcedOn base h k → IsLawful base k
lawful_forced base law stays = law
lawful_forced base law (more {k = k} {e = e} on f) = IsLawful-push base k e (lawful_forced base law on) (forced f)

-- the event opens no subscriber of a hub
abbrev pub subscribes_none : Event → Bool
subscribes_none e = not (is_some (hub_subscribed e))

unsubscribed : (o : Option ℕ) → not (is_some o) ≡ true → o ≡ None
unsubscribed x0 plain = search (rules, false≢true)

none_of : {h : List Event} (most : ℕ) → most ≡ 0 → MayWait h most → IsConnected h
none_of most is (none_waits none) = none
none_of most is (one_waits only) = absurd (omega arith)

-- after it no hub waits for its connection, where none did before
connected_on : (base : Kept) → (h : List Event) (e : Event) → IsLawful base h → IsConnected h → MayFollow base h e → subscribes_none e ≡ true →
    IsConnected (h ++ e ∷ [])
connected_on base h e law none (forced f) plain = forced_connected base h e 0 (none_waits none) f
connected_on base h e law none (allowed settled a) plain =
    none_of _ (ap (λ (o : Option ℕ). option_map_or (λ g. 1) o 0) (unsubscribed (hub_subscribed e) plain)) (waits_after base h e law none a)
connected_on base h e law none (opened_with {n = n} {tag = tag} opened next alive) plain = kept_unsubscribed base h (Accept n tag) law none refl refl

connected_in_turn : (base : Kept) → (h es : List Event) → IsLawful base h → IsConnected h → MayFollowInTurn base h es → list_all subscribes_none es ≡ true →
    IsConnected (h ++ es)
connected_in_turn base h [] law none next plain = subst IsConnected (sym (append-nil h)) none
connected_in_turn base h (e ∷ es) law none next plain =
    let parts = and_parts (subscribes_none e) (list_all subscribes_none es) plain in
    subst IsConnected (append_assoc h (e ∷ []) es)
    (connected_in_turn base (h ++ e ∷ []) es (IsLawful-push base h e law next.0) (connected_on base h e law none next.0 parts.0) next.1 parts.1)

-- calls -------------------------------------------------------------------------------------------

-- what a call was counted to add is within the limit, where nothing stands against it
pub within_full : (base : Kept) → (call : Call) (known fresh : Bool) (h : List Event) (limit : ℕ) →
    causes base h limit fresh call Full ≡ is_over base h limit (added_by h call) →
    first_cause (by_key_of call known (causes base h limit fresh call)) ≡ None → length h + debt base h + added_by h call ≤ base.at_length + limit
within_full base call known fresh h limit counted none =
    let over = no_cause (causes base h limit fresh call) (unstood call known (causes base h limit fresh call) none).1 Full in
    let within = within_limit base h limit (added_by h call) (sym counted ∙ over) in omega arith

module _ {T : Type 0} (g : Ghosts T) (b : Ground T) (asked : Request) where
  abbrev h : List Event
  h = b.register.history

  abbrev outside : List Event
  outside = outside_of b.register.history asked.call

  pub let_in : IsStanding g b → IsPromised b.register → first_cause (stands (state_of g b) asked) ≡ None → IsReadyFor h asked.call →
      HasRoomFor b.register asked.call → b.closed ≡ [] → IsLetIn g b asked
  let_in standing promised none ready has begun = search (rules, standing, no_cause, unstood)

  -- a call that takes no memory
  pub let_in_free : IsStanding g b → IsPromised b.register → first_cause (stands (state_of g b) asked) ≡ None → IsReadyFor h asked.call →
      added_by h asked.call ≡ 0 → notes_added h asked.call ≡ 0 → b.closed ≡ [] → IsLetIn g b asked
  let_in_free standing promised none ready added noted begun = search (rules, let_in, standing, paid_room)

  module _ (l : IsLetIn g b asked) where
    -- its key is known
    pub known : asked.is_known ≡ true
    known = (unstood asked.call asked.is_known _ l.none).0

    follows : (es : List Event) → outside ≡ es → MayFollowInTurn b.register.base h es
    follows es writes = subst (λ (xs : List Event). MayFollowInTurn b.register.base h xs) writes
        (call_follows b.register.base h b.register.limit asked.is_fresh asked.call l.may)

    fits : (es : List Event) → outside ≡ es → Fits b.register.base h (h ++ es) (added_by h asked.call) (notes_added h asked.call)
    fits es writes = subst (λ (xs : List Event). Fits b.register.base h (h ++ xs) (added_by h asked.call) (notes_added h asked.call)) writes
        (call_fits b.register.base h b.register.limit asked.is_fresh asked.call l.may)

    room : (es : List Event) → outside ≡ es → length es ≤ b.register.room
    room es writes = call_room b.register asked.call es l.has (fits es writes)

    -- its only event may be written
    pub one_ready : (e : Event) → outside ≡ e ∷ [] → IsReady b.register e
    one_ready e writes =
        let m = call_mail_room b.register asked.call (e ∷ []) l.has (fits (e ∷ []) writes) in
        let n = ap (length {A = Mail}) (notes-push h e) in
        record {
          next = (follows (e ∷ []) writes).0;
          room = let r = room (e ∷ []) writes in omega arith;
          notes = omega (arith, length-append (notes h) (mail_of h e));
          pending = l.standing.paid.pending;
        }

    -- and so may the first of two that tell nothing, and the second after it
    pub first_ready : (e f : Event) → outside ≡ e ∷ f ∷ [] → mail_of h e ≡ [] → IsReady b.register e
    first_ready e f writes silent = record {
      next = (follows (e ∷ f ∷ []) writes).0;
      room = let r = room (e ∷ f ∷ []) writes in omega arith;
      notes = let n = ap (length {A = Mail}) silent in omega arith;
      pending = l.standing.paid.pending;
    }

    pub second_ready : (e f : Event) (mid : Register) → outside ≡ e ∷ f ∷ [] → Writes b.register (e ∷ []) mid → mail_of mid.history f ≡ [] → IsReady mid f
    second_ready e f mid writes w silent = record {
      next = subst (λ (c : Kept). MayFollow c mid.history f) (sym w.base)
          (subst (λ (k : List Event). MayFollow b.register.base k f) (sym w.history) (follows (e ∷ f ∷ []) writes).1.0);
      room = let r = room (e ∷ f ∷ []) writes in let left = w.room in omega arith;
      notes = let n = ap (length {A = Mail}) silent in omega arith;
      pending = w.pending;
    }

    -- after its events what they force is paid for
    pub pays : (new : Register) → Writes b.register outside new → IsPaid new
    pays new w = called_paid b.register new b.register.limit asked.is_fresh asked.call l.may l.has w

    -- where they open no subscriber of a hub, none waits for its connection
    pub connects_none : (new : Register) → Writes b.register outside new → list_all subscribes_none outside ≡ true → {room space : ℕ} →
        HasRoomToConnect new.history room space
    connects_none new w plain = λ n waits. absurd (subst IsConnected (sym w.history) connected n waits) where
      connected : IsConnected (h ++ outside)
      connected = connected_in_turn b.register.base h outside l.may.lawful (settled_connected b.register.base h l.may.settled) (follows outside refl) plain

    -- and after what they force it is accepted
    pub accepts : (mid : Ground T) {new : Ground T} → IsWritten g b asked.call mid → Settles g mid new → Accepts (state_of g b) asked (state_of g new)
    accepts mid {new} x s = record {
      no_cause = l.none;
      base = based;
      step = record { forced = goes_on; lawful = lawful; settled = subst (λ (c : Kept). IsSettled c new.register.history) based s.standing.settled };
      limit = s.limit ∙ w.limit;
      given = s.given ∙ w.given;
      keys = λ k c older. finding_key b.tree k (all.nodes k (key_finds new.tree k c) older);
      res_keys = λ k c older. finding_res_key b.tree k (all.held k (res_key_finds new.tree k c) older);
      lease_keys = λ k c older. finding_lease_key b.leases k (x.leases.from (lease_key k)
          (ap (λ (ls : Slots ResKey). is_some (find ls (lease_key k))) (sym s.leases) ∙ lease_key_finds new.leases k c) older);
      closed = just_gone l.begun closes.gathers;
      closed_keys = gone_keys l.begun closes;
      closed_order = gone_in_order l.begun closes.gathers;
    }
      where
        w : Writes b.register outside mid.register
        w = x.written

        kept : KeepsKeys b.tree mid.tree (length h)
        kept = record { nodes = x.nodes; held = x.held.from }

        based : new.register.base ≡ b.register.base
        based = s.base ∙ w.base

        goes_on : IsForcedOn b.register.base (h ++ outside) new.register.history
        goes_on = subst (λ (c : Kept). IsForcedOn c (h ++ outside) new.register.history) w.base
            (subst (λ (k : List Event). IsForcedOn mid.register.base k new.register.history) w.history s.forced)

        lawful_mid : IsLawful b.register.base (h ++ outside)
        lawful_mid = lawful_in_turn b.register.base h outside l.may.lawful (follows outside refl)

        lawful_then : IsLawful mid.register.base mid.register.history
        lawful_then = subst (λ (c : Kept). IsLawful c mid.register.history) (sym w.base) (subst (IsLawful b.register.base) (sym w.history) lawful_mid)

        lawful : IsLawful b.register.base new.register.history
        lawful = lawful_forced b.register.base lawful_mid goes_on

        longer : length mid.register.history ≡ length h + length outside
        longer = ap (λ (k : List Event). length k) w.history ∙ length-append h outside

        closes : Closes b new
        closes =
            let added = adds_forced mid.register.base s.forced in
            closes_on (let l = longer in omega arith) x.nodes x.closed s.closed
            (gathers_on (further_written outside w) added.0 added.1 x.closed.gathers s.closed.gathers)

        all : KeepsKeys b.tree new.tree (length h)
        all = keeps_on b.tree mid.tree new.tree (length h) (length mid.register.history) (let l = longer in omega arith) kept
            (keeps_settled mid.register.history new.register.history mid.tree new.tree lawful_then x.between.tied.of_tree s.nodes s.resources)

-- room --------------------------------------------------------------------------------------------

-- with more room it is the same state
pub state_roomier : {T : Type 0} (g : Ghosts T) (old new : Ground T) → IsRoomier old new → state_of g new ≡ state_of g old
state_roomier g old new r = λ i. state_of g (record {
  register = r.register i;
  tree = record { nodes = r.nodes i; resources = r.resources i; chain = old.tree.chain };
  hubs = r.hubs i;
  leases = r.leases i;
  closed = r.closed i;
  space = old.space;
})

-- a resource by whose key a call is made is held
pub held_asked : {T : Type 0} (g : Ghosts T) (b : Ground T) (asked : Request) → IsLetIn g b asked → (res : ResKey) →
    asked.is_known ≡ has_res_key (res_keys_of b.tree) res → is_held_at b.tree res ≡ true
held_asked g b asked l res is = sym (has_res_key_is b.tree res) ∙ sym is ∙ known g b asked l

-- a resource by whose key a call is made, and that the history leaves owned, is owned in the tree
pub owned_asked : {T : Type 0} (g : Ghosts T) (b : Ground T) (asked : Request) → IsLetIn g b asked → (res : ResKey) →
    asked.is_known ≡ has_res_key (res_keys_of b.tree) res → is_owned b.register.history res.number ≡ true → is_owned_at b.tree res ≡ true
owned_asked g b asked l res is owned = search (rules, owned_there, held_asked)

-- a lease by whose key a call is made is out
pub out_asked : {T : Type 0} (g : Ghosts T) (b : Ground T) (asked : Request) → IsLetIn g b asked → (lease : LeaseKey) →
    asked.is_known ≡ has_lease_key (lease_keys_of b.leases) lease → is_out_at b.leases lease ≡ true
out_asked g b asked l lease is = sym (has_lease_key_is b.leases lease) ∙ sym is ∙ known g b asked l

-- a node by whose key a call is made is open
pub open_asked : {T : Type 0} (g : Ghosts T) (b : Ground T) (asked : Request) → IsLetIn g b asked → (key : Key) →
    asked.is_known ≡ has_key (keys_of b.tree) key → is_some (find b.tree.nodes key) ≡ true
open_asked g b asked l key is = sym (has_key_is b.tree key) ∙ sym is ∙ known g b asked l

-- a resource with which a call is made is fresh
pub fresh_asked : {T : Type 0} (g : Ghosts T) (b : Ground T) (asked : Request) → IsLetIn g b asked →
    causes b.register.base b.register.history b.register.limit asked.is_fresh asked.call NotFresh ≡ not asked.is_fresh → asked.is_fresh ≡ true
fresh_asked g b asked l is = search (rules, not-false, no_cause)

live_is : (life : Life) → is_live life ≡ true → life ≡ Live
live_is x0 is = search (rules, false≢true)

module _ {T : Type 0} (g : Ghosts T) (x : T) (fresh : is_fresh_in g x ≡ true) where
  abbrev parts : (is_live (g.life_of x) ≡ true) × ((g.uses_of x == 0) ≡ true)
  parts = and_parts (is_live (g.life_of x)) (g.uses_of x == 0) fresh

  pub live_fresh : g.life_of x ≡ Live
  live_fresh = live_is (g.life_of x) parts.0

  pub unused_fresh : g.uses_of x ≡ 0
  unused_fresh = eqb-true (g.uses_of x) 0 parts.1
