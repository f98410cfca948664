-- What may follow a refused command may follow the state before it, and the other way round.
use Rattle.std.proofs.Common.{◌≡◌, ℕ, Bool, true, false, List, [], ◌∷◌, ◌++◌, length, slice_get, Option, Some, None, refl, sym, ap, ◌∙◌, arith, subst, if◌then◌else◌}
use Rattle.std.specs.Option.{option_and_then}
use Rattle.rx_resource.specs.declared.Resource.{Ghosts}
use Rattle.rx_resource.specs.declared.token.Token.{Token}
use Rattle.rx_event.specs.declared.event.Event.TheVariants.{Open}
use Rattle.rx_event.specs.declared.event.Kind.TheVariants.{Sub}
use Rattle.rx_event.specs.Events.{is_root}
use Rattle.rx_event.specs.Gone.{goes, AreJust}
use Rattle.rx_book.specs.declared.answer.At.{At}
use Rattle.rx_book.specs.declared.answer.At.TheVariants.{Root, Source, Inner, Notifier}
use Rattle.rx_book.specs.Answers.{Accepts, connection_made}
use Rattle.rx_book.specs.Checkpoints.{Checkpoints}
use Rattle.rx_event.specs.declared.event.Mode.{Mode}
use Rattle.rx_book.specs.Requests.{place_of, open_request, connect_request, hub_request}
use Rattle.rx_book.specs.State.{State as BookState, has_key}
use Rattle.rx_lanes.specs.declared.names.LaneName.{LaneName}
use Rattle.rx_lanes.specs.Lane.{Lane}
use Rattle.rx_lanes.specs.State.{State as LanesState, lane, touched, fresh_with, Gets, Turns, Opens, KeepsLanes}
use Rattle.rx_pool.specs.declared.search.PooledHub.{PooledHub}
use Rattle.rx_pool.specs.declared.search.Share.{Share}
use Rattle.rx_pool.specs.Choice.{choice}
use Rattle.rx_pool.specs.Moves.{left_all}
use Rattle.rx_roles.specs.declared.roles.Role.{Role}
use Rattle.rx_roles.specs.declared.effect.Effect.{Effect}
use Rattle.rx_roles.specs.Roles.{without_all}
use Rattle.rx_roles.specs.Effects.{all_told, all_last, after_all}
use Rattle.rx_pool.specs.Places.{places_left}
use Rattle.rx_engine.specs.declared.homes.Home.{Home}
use Rattle.rx_engine.specs.declared.homes.LaneOf.{LaneOf}
use Rattle.rx_engine.specs.declared.homes.LaneOf.TheVariants.{Node, Projections}
use Rattle.rx_engine.specs.declared.parts.Parts.{Parts}
use Rattle.rx_engine.specs.declared.parts.User.{User}
use Rattle.rx_engine.specs.Closings.{WishState, with_wish, Closes}
use Rattle.rx_engine.specs.Deliveries.{Joins, Delivers, none_delivered, one_delivered, Leaves, none_left, one_left}
use Rattle.rx_engine.specs.Holdings.{held_request, Keeps}
use Rattle.rx_engine.specs.Homes.{no_limit, lane_in, lane_of, whose, is_housed, limit_in, limit_at, home_of}
use Rattle.rx_pool.specs.Pool.{new_hub}
use Rattle.rx_engine.specs.Hubs.{mode_at, IsHubDone, MakesHubs, none_made, one_made, room_gotten}
use Rattle.rx_engine.specs.Openings.{IsLaneFor, Gives, Enters}
use Rattle.rx_engine.specs.Plain.{IsPlain}
use Rattle.rx_engine.specs.Puttings.{PutsOwn}
use Rattle.rx_engine.specs.Rooms.{role_if}
use Rattle.rx_engine.specs.Servings.{IsTake, IsGiveUp}
use Rattle.rx_engine.specs.Settlements.{mail_left, all_given, closed_of, taken_out, Releases, Settles}
use Rattle.rx_engine.specs.Sharings.{Connects, Subscribes, IsChosen, limit_for}
use Rattle.rx_engine.specs.States.{State, IsSeenAs, IsLanesOnly}
use Rattle.rx_courses.specs.Courses.{IsCommand, is_refused, has_done, has_held, has_used, has_opened, has_put, has_subscribed, has_connected, has_made_hubs, has_checkpointed, effects_of}
use Rattle.rx_courses.specs.Refused.{ArePartsAlike, AreStatesAlike, FollowsAlike, RefusedIsUnchanged}
use Rattle.rx_courses.proofs.CallsAreCommands.{seen_same}

some_none : {A : Type 0} {x : A} → None ≡ Some x → ⊥
some_none is = cc

-- lanes ----------------------------------------------------------------------------------------------

keeps_then : {s t u : LanesState Effect} → KeepsLanes s t → KeepsLanes t u → KeepsLanes s u
keeps_then k l = record {
  lanes = λ n. l.lanes n ∙ k.lanes n;
  fresh_is = l.fresh_is ∙ k.fresh_is;
  next_turn = l.next_turn ∙ k.next_turn;
  due = l.due ∙ k.due;
}

module _ {s t u : LanesState Effect} (k : KeepsLanes s t) where
  turns_from : (name : LaneName) (o : Option (Lane Effect)) → Turns t u name o → Turns s u name o
  turns_from name o b = record {
    found = b.found;
    others = λ n d. b.others n d ∙ k.lanes n;
    fresh_is = b.fresh_is ∙ ap (fresh_with name.place o) k.fresh_is;
    next_turn = b.next_turn ∙ k.next_turn;
    due = b.due ∙ k.due;
  }

  gets_from : (name : LaneName) (l : Lane Effect) → Gets t u name l → Gets s u name l
  gets_from name l b = record {
    found = b.found;
    others = λ n d. b.others n d ∙ k.lanes n;
    fresh_is = b.fresh_is ∙ ap (touched name.place) k.fresh_is;
    next_turn = b.next_turn ∙ k.next_turn;
    due = b.due ∙ k.due;
  }

  opens_from : (name : LaneName) → Opens t u name → Opens s u name
  opens_from name o = record {
    turn = o.turn ∙ k.next_turn;
    was_free = sym (k.lanes name) ∙ o.was_free;
    found = o.found;
    others = λ n d. o.others n d ∙ k.lanes n;
    fresh_is = o.fresh_is ∙ k.fresh_is;
    next_turn = (let next = o.next_turn in let same = k.next_turn in omega (arith, next, same));
    due = o.due ∙ k.due;
  }

  joins_from : (name : LaneName) → Joins t u name → Joins s u name
  joins_from name j = record { before = j.before; found = sym (k.lanes name) ∙ j.found; joins = turns_from name _ j.joins }

lane_from : {s t : LanesState Effect} → KeepsLanes s t → (at : Option LaneName) (u : LanesState Effect) (name : LaneName) → IsLaneFor at t u name →
    IsLaneFor at s u name
lane_from k None u name opens = opens_from k name opens
lane_from k (Some given) u name joins = (joins.0, joins_from k name joins.1)

leaves_from : {s t : LanesState Effect} → KeepsLanes s t → (rs : List Role) (u : LanesState Effect) → Leaves t rs u → Leaves s rs u
leaves_from k rs u (none_left l) = none_left (keeps_then k l)
leaves_from k rs u (one_left {t = m} role l found turns rest) = one_left role l (sym (k.lanes role.lane) ∙ found) (turns_from k role.lane _ turns) rest

delivers_from : {s t : LanesState Effect} → KeepsLanes s t → (by : ℕ) (es : List Effect) (u : LanesState Effect) → Delivers by t es u → Delivers by s es u
delivers_from k by es u (none_delivered l) = none_delivered (keeps_then k l)
delivers_from k by es u (one_delivered {t = m} e l found a rest) =
    one_delivered e l (sym (k.lanes e.lane) ∙ found) (record { between = a.between; gets = gets_from k e.lane _ a.gets; parts = a.parts }) rest

-- parts ----------------------------------------------------------------------------------------------

module _ {p p' : Parts} (r : ArePartsAlike p p') where
  settles_from : (g : Ghosts Token) (by value : ℕ) (mid : BookState) (t : BookState) (q : Parts) → Settles g by value mid p' t q → Settles g by value mid p t q
  settles_from g by value mid t q d = record {
    homes = d.homes ∙ ap (λ (rs : List Role). without_all rs (closed_of mid)) r.homes;
    left = d.left;
    leaves = subst (λ (rs : List Role). Leaves p.lanes (taken_out rs (closed_of mid)) d.left) r.homes (leaves_from r.lanes _ d.left d.leaves);
    shares = d.shares ∙ ap (λ (rs : List Role). without_all rs (closed_of mid)) r.shares;
    hubs = d.hubs ∙ (λ i. left_all (places_left (r.shares i) (closed_of mid)) (r.hubs i));
    hears = d.hears ∙ ap (λ (rs : List Role). without_all (after_all rs (mail_left mid)) (closed_of mid)) r.hears;
    merges = d.merges ∙ ap (λ (rs : List Role). without_all rs (closed_of mid)) r.merges;
    effects = d.effects;
    releases = subst (λ (hs : List Role). Releases g by (all_given mid) hs (told p.hears.list p.merges.list) t q.holds.list d.effects) r.holds
        (subst (λ (ms : List Role). Releases g by (all_given mid) p'.holds.list (told p.hears.list ms) t q.holds.list d.effects) r.merges
        (subst (λ (hs : List Role). Releases g by (all_given mid) p'.holds.list (told hs p'.merges.list) t q.holds.list d.effects) r.hears d.releases));
    put = d.put;
    delivers = d.delivers;
    lanes = d.lanes;
    copies = d.copies;
    none_waits = d.none_waits;
    base = d.base;
    limit = d.limit;
  } where
    told : List Role → List Role → List Effect
    told hears merges = all_told by value hears merges (mail_left mid) ++ all_last by (after_all hears (mail_left mid)) merges (closed_of mid)

  keeps_from : (number tag : ℕ) (name : LaneName) (q : Parts) → Keeps p' number tag name q → Keeps p number tag name q
  keeps_from number tag name q c = record {
    holds_is = c.holds_is ∙ ap (λ (rs : List Role). rs ++ (record { number = number; word = tag; lane = name }) ∷ []) r.holds;
    hears = c.hears ∙ r.hears;
    merges = c.merges ∙ r.merges;
    homes = c.homes ∙ r.homes;
    shares = c.shares ∙ r.shares;
    hubs = c.hubs ∙ r.hubs;
    joins = joins_from r.lanes name c.joins;
  }

  gives_from : (is : Bool) (number word : ℕ) (at : Option LaneName) (xs ys zs : List Role) (s t : LanesState Effect) → xs ≡ ys →
      Gives is number word at xs zs s t → Gives is number word at ys zs s t
  gives_from is number word at xs ys zs s t same c = record {
    name = c.name;
    list = c.list ∙ ap (λ (rs : List Role). rs ++ role_if is (record { number = number; word = word; lane = c.name })) same;
    lanes = c.lanes;
  }

  enters_from : (number : ℕ) (hears merges : Bool) (word : ℕ) (home : Home) (name : LaneName) (q : Parts) → Enters p' number hears merges word home name q →
      Enters p number hears merges word home name q
  enters_from number hears merges word home name q c = record {
    housed = c.housed;
    between = c.between;
    lane_is = lane_from r.lanes home.lane c.housed name c.lane_is;
    homes_is = c.homes_is ∙ ap (λ (rs : List Role). rs ++ (record { number = number; word = home.limit; lane = name }) ∷ []) r.homes;
    hears_is = gives_from hears number word (Some name) p'.hears.list p.hears.list q.hears.list c.housed c.between r.hears c.hears_is;
    merges_is = gives_from merges number word None p'.merges.list p.merges.list q.merges.list c.between q.lanes r.merges c.merges_is;
    holds = c.holds ∙ r.holds;
    shares = c.shares ∙ r.shares;
    hubs = c.hubs ∙ r.hubs;
  }

  connects_from : (number place word : ℕ) (q : Parts) → Connects p' number place word q → Connects p number place word q
  connects_from number place word q c = record {
    name = c.name;
    housed = c.housed;
    houses = enters_from number false false 0 _ c.name c.housed c.houses;
    names = c.names;
  }

  subscribes_from : (number : ℕ) (hears : Bool) (user : ℕ) (home : Home) (place word : ℕ) (second : Option ℕ) (q : Parts) →
      Subscribes p' number hears user home place word second q → Subscribes p number hears user home place word second q
  subscribes_from number hears user home place word second q c = record {
    name = c.name;
    entered = c.entered;
    enters = enters_from number hears false user home c.name c.entered c.enters;
    named = c.named;
    names = c.names;
    connects = c.connects;
  }

  puts_from : (name : LaneName) (user value by : ℕ) (q : Parts) → PutsOwn name user value by p' q → PutsOwn name user value by p q
  puts_from name user value by q c = record {
    put = c.put;
    delivers = delivers_from r.lanes by _ c.put c.delivers;
    lanes = c.lanes;
    copies = c.copies;
    homes = c.homes ∙ r.homes;
    hears = c.hears ∙ r.hears;
    merges = c.merges ∙ r.merges;
    holds = c.holds ∙ r.holds;
    shares = c.shares ∙ r.shares;
    hubs = c.hubs ∙ r.hubs;
  }

-- states ---------------------------------------------------------------------------------------------

keeps_back : {s t : LanesState Effect} → KeepsLanes s t → KeepsLanes t s
keeps_back k = record { lanes = λ n. sym (k.lanes n); fresh_is = sym k.fresh_is; next_turn = sym k.next_turn; due = sym k.due }

parts_then : {p q r : Parts} → ArePartsAlike p q → ArePartsAlike q r → ArePartsAlike p r
parts_then x y = record {
  homes = y.homes ∙ x.homes;
  hears = y.hears ∙ x.hears;
  merges = y.merges ∙ x.merges;
  holds = y.holds ∙ x.holds;
  effects = y.effects ∙ x.effects;
  shares = y.shares ∙ x.shares;
  hubs = y.hubs ∙ x.hubs;
  lanes = keeps_then x.lanes y.lanes;
  copies = y.copies ∙ x.copies;
}

parts_back : {p q : Parts} → ArePartsAlike p q → ArePartsAlike q p
parts_back x = record {
  homes = sym x.homes;
  hears = sym x.hears;
  merges = sym x.merges;
  holds = sym x.holds;
  effects = sym x.effects;
  shares = sym x.shares;
  hubs = sym x.hubs;
  lanes = keeps_back x.lanes;
  copies = sym x.copies;
}

alike_then : {s t u : State} → AreStatesAlike s t → AreStatesAlike t u → AreStatesAlike s u
alike_then x y = record {
  book = y.book ∙ x.book;
  parts = parts_then x.parts y.parts;
  wishes = y.wishes ∙ x.wishes;
  closings = y.closings ∙ x.closings;
}

alike_back : {s t : State} → AreStatesAlike s t → AreStatesAlike t s
alike_back x = record { book = sym x.book; parts = parts_back x.parts; wishes = sym x.wishes; closings = sym x.closings }

alike_of : {s t : State} → IsSeenAs s t → AreStatesAlike s t
alike_of seen = record {
  book = seen.book;
  parts = record {
    homes = seen.parts.homes;
    hears = seen.parts.hears;
    merges = seen.parts.merges;
    holds = seen.parts.holds;
    effects = seen.parts.effects;
    shares = seen.parts.shares;
    hubs = seen.parts.hubs;
    lanes = seen.parts.lanes;
    copies = seen.parts.copies;
  };
  wishes = seen.wishes;
  closings = seen.closings;
}

alike_same : (s : State) → AreStatesAlike s s
alike_same s = alike_of (seen_same s)

-- a hub that is made
module _ {s t : State} (seen : AreStatesAlike s t) where
  hub_from : (g : Ghosts Token) (mode : Mode) (by : ℕ) (u : State) → IsHubDone g mode by t u → IsHubDone g mode by s u
  hub_from g mode by u d = record {
    mid = d.mid;
    accepts = subst (λ (b : BookState). Accepts b (hub_request mode) d.mid) seen.book d.accepts;
    added = added;
    adds = record {
      list = d.adds.list ∙ seen.parts.shares;
      hubs = d.adds.hubs ∙ (λ i. seen.parts.hubs i ++ (new_hub (length (seen.book i).history) mode) ∷ []);
      only = refl;
    };
    settles = settles_from alike g by 0 d.mid u.book u.parts d.settles;
    closes = subst (λ (rs : List Role). Closes d.mid rs u.wishes) seen.wishes d.closes;
  } where
    added : Parts
    added = record s.parts { shares = d.added.shares }

    alike : ArePartsAlike added d.added
    alike = record {
      homes = ap (λ (p : Parts). p.homes.list) d.adds.only ∙ seen.parts.homes;
      hears = ap (λ (p : Parts). p.hears.list) d.adds.only ∙ seen.parts.hears;
      merges = ap (λ (p : Parts). p.merges.list) d.adds.only ∙ seen.parts.merges;
      holds = ap (λ (p : Parts). p.holds.list) d.adds.only ∙ seen.parts.holds;
      effects = ap (λ (p : Parts). p.effects.list) d.adds.only ∙ seen.parts.effects;
      shares = refl;
      hubs = refl;
      lanes = subst (λ (p : Parts). KeepsLanes s.parts.lanes p.lanes) (sym d.adds.only) seen.parts.lanes;
      copies = ap (λ (p : Parts). p.copies) d.adds.only ∙ seen.parts.copies;
    }

module _ {s t : State} (seen : AreStatesAlike s t) where
  lane_of_same : (to : LaneOf) → lane_of t to ≡ lane_of s to
  lane_of_same (Node k) = λ i. if has_key (seen.book i).keys k then lane_in (seen.parts.homes i) k.number else None
  lane_of_same (Projections k) = λ i. if has_key (seen.book i).keys k then lane_in (seen.parts.merges i) k.number else None

  limit_same : (at : At) → limit_at t.parts at ≡ limit_at s.parts at
  limit_same Root = refl
  limit_same (Source k) = ap (λ (rs : List Role). limit_in rs k.number) seen.parts.homes
  limit_same (Inner k) = ap (λ (rs : List Role). limit_in rs k.number) seen.parts.homes
  limit_same (Notifier k) = ap (λ (rs : List Role). limit_in rs k.number) seen.parts.homes

  lane_found_same : (o : Option LaneOf) → option_and_then (lane_of t) o ≡ option_and_then (lane_of s) o
  lane_found_same None = refl
  lane_found_same (Some to) = lane_of_same to

  home_same : (at : At) (asked : Option LaneOf) → home_of t at asked ≡ home_of s at asked
  home_same at asked = λ i. record { lane = lane_found_same (whose at asked) i; limit = limit_same at i }

  number_same : length t.book.history ≡ length s.book.history
  number_same = ap (λ (b : BookState). length b.history) seen.book

  opened_from : (hears merges : Bool) (word : ℕ) (at : At) (asked : Option LaneOf) (name : LaneName) (q : Parts) →
      Enters t.parts (length t.book.history) hears merges word (home_of t at asked) name q →
      Enters s.parts (length s.book.history) hears merges word (home_of s at asked) name q
  opened_from hears merges word at asked name q c =
      subst (λ (n : ℕ). Enters s.parts n hears merges word (home_of s at asked) name q) number_same
      (subst (λ (h : Home). Enters s.parts (length t.book.history) hears merges word h name q) (home_same at asked)
      (enters_from seen.parts (length t.book.history) hears merges word (home_of t at asked) name q c))

  wished_from : (mid : BookState) (user : User) (u : State) → Closes mid (with_wish t.wishes.roles.list (length t.book.history) user) u.wishes →
      Closes mid (with_wish s.wishes.roles.list (length s.book.history) user) u.wishes
  wished_from mid user u c =
      subst (λ (n : ℕ). Closes mid (with_wish s.wishes.roles.list n user) u.wishes) number_same
      (subst (λ (rs : List Role). Closes mid (with_wish rs (length t.book.history) user) u.wishes) seen.wishes c)

  housed_from : (o : Option LaneOf) → is_housed t.book o ≡ true → is_housed s.book o ≡ true
  housed_from o is = sym (ap (λ (b : BookState). is_housed b o) seen.book) ∙ is

  chosen_from : (share : Share) (limit place : ℕ) (limit' : ℕ) → limit' ≡ limit → IsChosen t share limit' place → IsChosen s share limit place
  chosen_from share limit place limit' same c = record {
    chosen = sym (λ i. choice (seen.parts.hubs i) share (same i)) ∙ c.chosen;
    hub = c.hub;
    there = sym (ap (λ (hs : List PooledHub). slice_get hs place) seen.parts.hubs) ∙ c.there;
  }

  hubs_from : (g : Ghosts Token) (by : ℕ) (u : State) → MakesHubs g by t u → (v : State) × MakesHubs g by s v × AreStatesAlike v u
  hubs_from g by u none_made = (s, none_made, seen)
  hubs_from g by u (one_made {t = m} before d) =
      let made = hubs_from g by m before in (
        u,
        one_made made.1 (subst (λ (n : ℕ). IsHubDone g (mode_at n) by made.0 u) (ap (λ (hs : List PooledHub). length hs) made.2.parts.hubs)
            (hub_from made.2 g (mode_at (length m.parts.shares.hubs)) by u d)),
        alike_same u,
      )
  hubs_from g by u (room_gotten {t = m} before more) = let made = hubs_from g by m before in (made.0, made.1, alike_then made.2 (alike_of more))

  command_from : (g : Ghosts Token) (u : State) (c : IsCommand g t u) → (v : State) × (d : IsCommand g s v) × AreStatesAlike v u × (effects_of d ≡ effects_of c)
  unfolding settles_from chosen_from
  command_from g u (is_refused more) = (s, is_refused (seen_same s), alike_then seen (alike_of more), refl)
  command_from g u (has_done {asked = asked} by value plain d) = (
    u,
    has_done by value (subst (λ (b : BookState). IsPlain b asked) seen.book plain)
        (record {
          mid = d.mid;
          accepts = subst (λ (b : BookState). Accepts b asked d.mid) seen.book d.accepts;
          settles = settles_from seen.parts g by value d.mid u.book u.parts d.settles;
          closes = subst (λ (rs : List Role). Closes d.mid rs u.wishes) seen.wishes d.closes;
        }),
    alike_same u,
    refl,
  )
  command_from g u (has_held node tag by d) = (
    u,
    has_held node tag by
        (record {
          mid = d.mid;
          accepts = subst (λ (b : BookState). Accepts b (held_request g b node tag) d.mid) seen.book d.accepts;
          name = d.name;
          lane_is = sym (lane_of_same (Node node)) ∙ d.lane_is;
          entered = d.entered;
          keeps = subst (λ (n : ℕ). Keeps s.parts n tag d.name d.entered) number_same
              (keeps_from seen.parts (length t.book.history) tag d.name d.entered d.keeps);
          settles = d.settles;
          closes = subst (λ (rs : List Role). Closes d.mid rs u.wishes) seen.wishes d.closes;
        }),
    alike_same u,
    refl,
  )
  command_from g u (has_used at kind user tag by alone d) = (
    u,
    has_used at kind user tag by alone
        (record {
          middle = d.middle;
          opens = subst (λ (b : BookState). Accepts b (open_request b at kind) d.middle) seen.book d.opens;
          housed = housed_from (whose at user.lane) d.housed;
          node = d.node;
          number = d.number ∙ number_same;
          mid = d.mid;
          holds = d.holds;
          closed = subst (λ (b : BookState). AreJust (goes b.history d.mid.history) (closed_of d.mid)) seen.book d.closed;
          name = d.name;
          entered = d.entered;
          enters = opened_from _ _ user.word at user.lane d.name d.entered d.enters;
          with_tag = d.with_tag;
          keeps = d.keeps;
          settles = d.settles;
          closes = wished_from d.mid user u d.closes;
        }),
    alike_same u,
    refl,
  )
  command_from g u (has_opened at kind user by alone d) = (
    u,
    has_opened at kind user by alone
        (record {
          mid = d.mid;
          accepts = subst (λ (b : BookState). Accepts b (open_request b at kind) d.mid) seen.book d.accepts;
          housed = housed_from (whose at user.lane) d.housed;
          name = d.name;
          entered = d.entered;
          enters = opened_from _ _ user.word at user.lane d.name d.entered d.enters;
          settles = d.settles;
          closes = wished_from d.mid user u d.closes;
        }),
    alike_same u,
    refl,
  )
  command_from g u (has_put to user value by d) = (
    u,
    has_put to user value by
        (record {
          name = d.name;
          lane_is = sym (lane_of_same to) ∙ d.lane_is;
          puts = puts_from seen.parts d.name user value by u.parts d.puts;
          book = d.book ∙ seen.book;
          wishes = d.wishes ∙ seen.wishes;
          closings = d.closings;
        }),
    alike_same u,
    refl,
  )
  command_from g u (has_subscribed at share user by place d) = (
    u,
    has_subscribed at share user by place
        (record {
          housed = housed_from (whose at user.lane) d.housed;
          chosen = chosen_from share (limit_for s at user.lane) place (limit_for t at user.lane) (ap (λ (h : Home). h.limit) (home_same at user.lane)) d.chosen;
          mid = d.mid;
          accepts = subst (λ (b : BookState). Accepts b (open_request b at (Sub (d.chosen.hub).number)) d.mid) seen.book d.accepts;
          entered = d.entered;
          subscribes = subst (λ (b : BookState). Subscribes s.parts (length b.history) (is_root (Open (place_of at) (Sub (d.chosen.hub).number))) user.word
              (home_of s at user.lane) place share.word (connection_made b.history d.mid.history) d.entered) seen.book
              (subst (λ (h : Home). Subscribes s.parts (length t.book.history) (is_root (Open (place_of at) (Sub (d.chosen.hub).number))) user.word h place
              share.word (connection_made t.book.history d.mid.history) d.entered) (home_same at user.lane)
              (subscribes_from seen.parts (length t.book.history) _ user.word (home_of t at user.lane) place share.word _ d.entered d.subscribes));
          settles = d.settles;
          closes = wished_from d.mid user u d.closes;
        }),
    alike_same u,
    refl,
  )
  command_from g u (has_connected share user by place d) = (
    u,
    has_connected share user by place
        (record {
          chosen = chosen_from share no_limit place no_limit refl d.chosen;
          mid = d.mid;
          accepts = subst (λ (b : BookState). Accepts b (connect_request (d.chosen.hub).number) d.mid) seen.book d.accepts;
          entered = d.entered;
          connects = subst (λ (n : ℕ). Connects s.parts n place share.word d.entered) number_same
              (connects_from seen.parts (length t.book.history) place share.word d.entered d.connects);
          settles = d.settles;
          closes = wished_from d.mid user u d.closes;
        }),
    alike_same u,
    refl,
  )
  command_from g u (has_made_hubs by makes) = let made = hubs_from g by u makes in (made.0, has_made_hubs by made.1, made.2, refl)
  command_from g u (has_checkpointed c) = (
    record u { parts = s.parts; wishes = s.wishes },
    has_checkpointed (record { book = subst (λ (b : BookState). Checkpoints b u.book) seen.book c.book; parts = refl; wishes = refl }),
    record {
      book = refl;
      parts = subst (λ (p : Parts). ArePartsAlike s.parts p) (sym c.parts) seen.parts;
      wishes = ap (λ (w : WishState). w.roles.list) c.wishes ∙ seen.wishes;
      closings = ap (λ (w : WishState). w.closings) c.wishes ∙ seen.closings;
    },
    refl,
  )

  -- who serves ---------------------------------------------------------------------------------------

  -- with the lanes of u
  abbrev with_lanes : State → State
  with_lanes u = record s { parts = record s.parts { lanes = u.parts.lanes } }

  lanes_seen : (u : State) → IsLanesOnly t u → AreStatesAlike (with_lanes u) u
  lanes_seen u same = subst (λ (x : State). AreStatesAlike (with_lanes u) x) (sym same)
      (record {
        book = seen.book;
        parts = record {
          homes = seen.parts.homes;
          hears = seen.parts.hears;
          merges = seen.parts.merges;
          holds = seen.parts.holds;
          effects = seen.parts.effects;
          shares = seen.parts.shares;
          hubs = seen.parts.hubs;
          lanes = record { lanes = λ n. refl; fresh_is = refl; next_turn = refl; due = refl };
          copies = seen.parts.copies;
        };
        wishes = seen.wishes;
        closings = seen.closings;
      })

  found_there : (name : LaneName) (o : Option (Lane Effect)) → lane s.parts.lanes name ≡ o → lane t.parts.lanes name ≡ o
  found_there name o is = seen.parts.lanes.lanes name ∙ is

  take_from : (name : LaneName) (inside : Bool) (by : ℕ) (u : State) (answer : Option Effect) → IsTake name inside by t u answer →
      (v : State) × IsTake name inside by s v answer × AreStatesAlike v u
  take_from name inside by u answer take = by_lane (lane s.parts.lanes name) refl where
    by_lane : (o : Option (Lane Effect)) → lane s.parts.lanes name ≡ o → (v : State) × IsTake name inside by s v answer × AreStatesAlike v u
    by_lane None is = (
      s,
      record {
        result = λ l found. absurd (some_none (sym is ∙ found));
        takes = λ l found. absurd (some_none (sym is ∙ found));
        absent = λ none. take.absent (found_there name None none);
        gone = λ none. refl;
        same = refl;
      },
      subst (λ (x : State). AreStatesAlike s x) (sym (take.gone (found_there name None is))) seen,
    )
    by_lane (Some l) is = (
      with_lanes u,
      record {
        result = λ l' found. take.result l' (found_there name (Some l') found);
        takes = λ l' found. turns_from seen.parts.lanes name _ (take.takes l' (found_there name (Some l') found));
        absent = λ none. absurd (some_none (sym none ∙ is));
        gone = λ none. absurd (some_none (sym none ∙ is));
        same = refl;
      },
      lanes_seen u take.same,
    )

  give_up_from : (name : LaneName) (by : ℕ) (undone : Option Effect) (u : State) (answer : Option Bool) → IsGiveUp name by undone t u answer →
      (v : State) × IsGiveUp name by undone s v answer × AreStatesAlike v u
  give_up_from name by undone u answer give = by_lane (lane s.parts.lanes name) refl where
    by_lane : (o : Option (Lane Effect)) → lane s.parts.lanes name ≡ o → (v : State) × IsGiveUp name by undone s v answer × AreStatesAlike v u
    by_lane None is = (
      s,
      record {
        result = λ l found. absurd (some_none (sym is ∙ found));
        gives_up = λ l found. absurd (some_none (sym is ∙ found));
        absent = λ none. give.absent (found_there name None none);
        gone = λ none. refl;
        same = refl;
      },
      subst (λ (x : State). AreStatesAlike s x) (sym (give.gone (found_there name None is))) seen,
    )
    by_lane (Some l) is = (
      with_lanes u,
      record {
        result = λ l' found. give.result l' (found_there name (Some l') found);
        gives_up = λ l' found. turns_from seen.parts.lanes name _ (give.gives_up l' (found_there name (Some l') found));
        absent = λ none. absurd (some_none (sym none ∙ is));
        gone = λ none. absurd (some_none (sym none ∙ is));
        same = refl;
      },
      lanes_seen u give.same,
    )

follows : (g : Ghosts Token) (s t : State) → AreStatesAlike s t → FollowsAlike g s t
follows g s t seen = record {
  commands = λ u c. command_from seen g u c;
  takes = λ name inside by u answer take. take_from seen name inside by u answer take;
  gives_up = λ name by undone u answer give. give_up_from seen name by undone u answer give;
}

pub refused_is_unchanged : (g : Ghosts Token) → RefusedIsUnchanged g
refused_is_unchanged g s t seen = (follows g s t (alike_of seen), follows g t s (alike_back (alike_of seen)))
