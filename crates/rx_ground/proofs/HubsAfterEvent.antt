-- The hubs of a history, before and after an event that is written.
use Rattle.rx_ground.proofs.Common.{◌≡◌, ℕ, ◌+◌, ◌<◌, Bool, true, false, List, [], ◌∷◌, ◌++◌, map, length, Option, Some, None, ◌≢◌, is_some, nat_lt, IsTrue}
use Rattle.rx_ground.proofs.Common.{IsSome, IfSome, IfNone, option_map, slice_get, refl, sym, ap, subst, ◌∙◌, inl, inr, ◌⊎◌, arith, option_map_or, AllPairs}
use Rattle.rx_ground.proofs.Common.{option_to_list, AllByRecursion, Contains, false≢true, lt-ltb, ltb-true, ltb_from_iff, length-map, length-filter, Kept, at}
use Rattle.rx_ground.proofs.Common.{slice_get_within, slice_get-get_or, get_or_from_slice_get, Ghosts, Mode, Event, Connect, Marks, makes_hub, is_auto_hub}
use Rattle.rx_ground.proofs.Common.{MayFollow, IsLawful, places, shuts_none, at_within, Key, Slots, find, Node, Tree, LastEnd, Published, joins_hubs, Hub}
use Rattle.rx_ground.proofs.Common.{hubs_after, without_gone, Hubs, find_hub, at_hub, connected, new_hub, IsHubOf, AreHubsOf, hubs_follow, hubs_stay}
use Rattle.rx_ground.proofs.Common.{pushed_from, closes_none, hubs_published, hubs_connected, found_hub, has_connection, State, Writes, IsHubTold, IsTied}
use Rattle.rx_ground.proofs.Common.{AreTied, AreJoined, KeepsNodes, Remarks, not, ◌&&◌, same_Some, Sub}
use Rattle.std.specs.Prelude.{is_none}
use Rattle.rx_event.specs.declared.event.Event.TheVariants.{Hub as Publish}
use Rattle.rx_event.specs.Allowed.{most_hubs}
use Rattle.rx_event.specs.Tree.{hubs as hubs_in}
use Rattle.rx_hub.specs.Hubs.{IsPromised, StandsAt, published_of}
use Rattle.rx_hub.proofs.Laws.Walks.{hub_at}
use Rattle.rx_ground.specs.Told.{IsFound}
use Rattle.rx_ground.proofs.HubsBesideTree.{joined_without, joined_still, joined_found, joined_connected, found_named}
use Rattle.rx_ground.proofs.StaysTied.{IsOpenedIn, found_still, still_there}
use Rattle.rx_ground.proofs.Laws.Members.{Contains-map, Contains-from_map, All-members, AllPairs-map}
use Rattle.rx_ground.proofs.Laws.Numbers.{ListsJust, just_counted}
use Rattle.std.proofs.Common.{rules}

-- numbers -----------------------------------------------------------------------------------------

-- its number is the greatest
pub hub_is_older : (h : List Event) (hubs : List Hub) → AreHubsOf h hubs → (i : ℕ) (hub : Hub) → slice_get hubs i ≡ Some hub → hub.number < length h
hub_is_older h hubs of i hub at_i = slice_get_within h hub.number (Publish hub.mode) (of.each i hub at_i).made

-- a hub is found just where one was made ----------------------------------------------------------

pub found_made : (h : List Event) (hubs : List Hub) → AreHubsOf h hubs → (g : ℕ) → is_some (find_hub hubs g) ≡ at makes_hub h g
found_made h hubs of g = search (rules, false≢true, is_some, found_named, found_hub, option_map_or)

-- what is kept of it ------------------------------------------------------------------------------

-- a connection is kept just where one is open
pub connection_kept : (h : List Event) (hub : Hub) → IsHubOf h hub → is_some hub.connection ≡ has_connection h hub.number
connection_kept h hub is = search (rules, nat_lt, length, is_some, option_to_list)

hub_told : (h : List Event) (hub : Hub) → IsHubOf h hub → (g : ℕ) → hub.number ≡ g → IsHubTold h g (published_of hub)
hub_told h hub is g same = search (rules, connection_kept)

-- what is found of a hub is so, and where none is found none was made
pub hub_known : (h : List Event) (hubs : List Hub) → AreHubsOf h hubs → (g : ℕ) (o : Option Published) → o ≡ option_map published_of (find_hub hubs g) →
    IfSome o (IsHubTold h g) × IfNone o (at makes_hub h g ≡ false)
hub_known h hubs of g o is =
    subst (λ (o : Option Published). IfSome o (IsHubTold h g) × IfNone o (at makes_hub h g ≡ false)) (sym is) (by_hub (find_hub hubs g) refl)
  where
    by_hub : (x : Option Hub) → find_hub hubs g ≡ x →
        IfSome (option_map published_of x) (IsHubTold h g) × IfNone (option_map published_of x) (at makes_hub h g ≡ false)
    by_hub None none = (tt, sym (found_made h hubs of g) ∙ ap is_some none)
    by_hub (Some hub) found = let at_i = found_hub hubs g hub found in (hub_told h hub (of.each at_i.0 hub at_i.1.0) g at_i.1.1, tt)

pub no_auto_hub : (h : List Event) (g : ℕ) → at makes_hub h g ≡ false → at is_auto_hub h g ≡ false
no_auto_hub h g none = search (rules, slice_get, false≢true, option_map_or)

-- and so is what an opening finds of the hub that its node subscribes to
pub found_none : (h : List Event) (hubs : List Hub) → AreHubsOf h hubs → (g : ℕ) → find_hub hubs g ≡ None →
    IsFound h hubs (Sub g) (record { index = 0; is_missing = true; connects = false })
found_none h hubs of g none = let unmade : at makes_hub h g ≡ false = sym (found_made h hubs of g) ∙ ap is_some none in record {
  missing = sym (ap not unmade);
  connects = sym (ap (λ b. b && not (has_connection h g)) (no_auto_hub h g unmade));
  stands = λ n same some. search (rules, none, same, some);
}

pub found_there : (h : List Event) (hubs : List Hub) → AreHubsOf h hubs → (g i : ℕ) (p : Published) (b : Bool) → StandsAt hubs i g →
    Some p ≡ option_map published_of (slice_get hubs i) → b ≡ (is_auto_hub (Publish p.mode) && is_none p.connection) →
    IsFound h hubs (Sub g) (record { index = i; is_missing = false; connects = b })
found_there h hubs of g i p b stands got is =
    let own = hub_at hubs i g stands in
    let p_is : p ≡ published_of own.0 = same_Some p (published_of own.0) (got ∙ ap (option_map published_of) own.1.0) in
    let told = hub_told h own.0 (of.each i own.0 own.1.0) g own.1.1 in
    let made = sym (ap (λ o. option_map_or makes_hub o false) told.made) in
    let auto = ap (λ o. option_map_or is_auto_hub o false) told.made in
    let linked = told.connection in
    record {
      missing = ap not made;
      connects = search (rules, p_is, is, auto, linked);
      stands = λ n same some. search (rules, stands, same);
    }

-- there are as many as were made ------------------------------------------------------------------

pub hubs_counted : (h : List Event) (s : Hubs) → IsPromised s → AreHubsOf h s.hubs → length s.hubs ≡ length (hubs_in h)
hubs_counted h s promised of = sym (length-map s.hubs number) ∙ just_counted (at makes_hub h) (map number s.hubs) (length h) just (at_within makes_hub h) ∙
    sym (length-filter (at makes_hub h) (places h))
  where
    number : Hub → ℕ
    number hub = hub.number

    made : (hub : Hub) → Contains s.hubs hub → at makes_hub h (number hub) ≡ true
    made hub c =
        let at_i = slice_get-get_or s.hubs c.0 hub c.1 ∙ ap (λ (x : Hub). Some x) c.2 in
        ap (λ o. option_map_or makes_hub o false) (of.each c.0 hub at_i).made

    each : (n : ℕ) → Contains (map number s.hubs) n → at makes_hub h n ≡ true
    each n c = let m = Contains-from_map number s.hubs n c in ap (at makes_hub h) (sym m.2) ∙ made m.0 m.1

    every : (n : ℕ) → at makes_hub h n ≡ true → Contains (map number s.hubs) n
    every n is =
        let has = of.every n is in
        let there : Contains s.hubs has.hub =
        (has.index, slice_get_within s.hubs has.index has.hub has.there, get_or_from_slice_get s.hubs has.index has.hub has.hub has.there) in
        subst (Contains (map number s.hubs)) has.numbered (Contains-map number s.hubs has.hub there)

    apart : AllPairs (λ a b. number a ≢ number b) s.hubs
    apart i j d before within same =
        let at_i = slice_get-get_or s.hubs i d (omega arith) in
        let at_j = slice_get-get_or s.hubs j d within in
        absurd (let l = promised.rising i j _ _ at_i at_j before in omega arith)

    just : ListsJust (at makes_hub h) (map number s.hubs)
    just = record {
      each = All-members (λ n. IsTrue (at makes_hub h n)) (map number s.hubs) each;
      every = every;
      once = AllPairs-map number (λ m n. m ≢ n) s.hubs apart;
    }

most_is : most_hubs ≡ 1023 + 1
unfolding most_hubs
most_is = omega arith

one_more : (most less count n : ℕ) → most ≡ less + 1 → count ≡ n → nat_lt less count ≡ nat_lt most (n + 1)
one_more most less count n limit same = search (rules, ltb_from_iff, ltb-true, lt-ltb)

-- beside 1,023 others there may be one more
pub too_many : (h : List Event) (s : Hubs) → IsPromised s → AreHubsOf h s.hubs → (count : ℕ) → count ≡ length s.hubs →
    nat_lt 1023 count ≡ nat_lt most_hubs (length (hubs_in h) + 1)
too_many h s promised of count is = one_more most_hubs 1023 count (length (hubs_in h)) most_is (is ∙ hubs_counted h s promised of)

-- ties --------------------------------------------------------------------------------------------

-- the hubs after a connection of one of them
pub connected_after : (h : List Event) (n : ℕ) (key : Key) (hubs : List Hub) → AreHubsOf h hubs → key.number ≡ length h →
    hubs_after h (Connect n) key.slot hubs ≡ at_hub n (connected key) hubs
connected_after h n key hubs of numbered = search (rules, hubs_connected)

module _ {T : Type 0} (g : Ghosts T) where
  -- over the register on which the events were written
  pub tied_written : {es : List Event} {old new : State} {tree : Tree T} {hubs : Hubs} → Writes old es new →
      AreTied old.base g (old.history ++ es) tree hubs → AreTied new.base g new.history tree hubs
  tied_written {old = old} {new} {tree = tree} {hubs = hubs} w tied = subst (λ (b : Kept). AreTied b g new.history tree hubs) (sym w.base)
      (subst (λ (k : List Event). AreTied old.base g k tree hubs) (sym w.history) tied)

  -- another tree of the same history with the same nodes, beside the same hubs
  pub tied_beside : (base : Kept) → {h : List Event} {old new : Tree T} {hubs later : Hubs} → later.hubs ≡ hubs.hubs →
      ((key : Key) → IsSome (find old.nodes key) → IsSome (find new.nodes key)) → AreTied base g h old hubs → IsTied base g h new → AreTied base g h new later
  tied_beside base {h = h} {old = old} {new = new} {hubs = hubs} {later = later} same still was tied = search (rules, joined_still)

  module _ {base : Kept} {h : List Event} {old : Tree T} {hubs : Hubs} {e : Event} (law : IsLawful base h) (next : MayFollow base h e)
      (was : AreTied base g h old hubs) where
    -- a tree after one more event, which closes no node and makes none, and no hub
    pub tied_on : {new : Tree T} → joins_hubs e ≡ false → shuts_none e ≡ true → ((key : Key) → IsSome (find old.nodes key) → IsSome (find new.nodes key)) →
        IsTied base g (h ++ e ∷ []) new → AreTied base g (h ++ e ∷ []) new hubs
    tied_on {new} joins shuts still tied =
        let of = hubs_stay h e hubs.hubs law next was.published joins (closes_none h e shuts) in
        record {
          of_tree = tied;
          published = of;
          joined = joined_still (h ++ e ∷ []) old.nodes new.nodes hubs.hubs of (λ key some alive. still key some) was.joined;
        }

    -- with the nodes as they were
    pub tied_on_same : {new : Tree T} → joins_hubs e ≡ false → shuts_none e ≡ true → new.nodes ≡ old.nodes → IsTied base g (h ++ e ∷ []) new →
        AreTied base g (h ++ e ∷ []) new hubs
    tied_on_same joins shuts same tied = tied_on joins shuts (λ key some. ap (λ (nodes : Slots Node). is_some (find nodes key)) same ∙ some) tied

    -- and with the marks of one changed
    pub tied_on_marked : {new : Tree T} → joins_hubs e ≡ false → shuts_none e ≡ true → {u : Key} {change : Marks → Marks} → Remarks old new u change →
        IsTied base g (h ++ e ∷ []) new → AreTied base g (h ++ e ∷ []) new hubs
    tied_on_marked joins shuts {u} marked tied = tied_on joins shuts (λ key some. still_there u marked.nodes key some) tied

    -- after one that closes nodes, which leave the hubs, and their connections ended so
    pub tied_closed : {new : Tree T} {later : Hubs} (gone : Key → Bool) (ended : Option LastEnd) →
        hubs_after h e 0 hubs.hubs ≡ map (without_gone gone ended) hubs.hubs → later.hubs ≡ map (without_gone gone ended) hubs.hubs →
        KeepsNodes (h ++ e ∷ []) old.nodes new.nodes → IsTied base g (h ++ e ∷ []) new → AreTied base g (h ++ e ∷ []) new later
    tied_closed {new} {later} gone ended after left kept tied =
        let of = subst (AreHubsOf (h ++ e ∷ [])) (after ∙ sym left) (hubs_follow base h e 0 hubs.hubs law next was.published) in
        record {
          of_tree = tied;
          published = of;
          joined = joined_still (h ++ e ∷ []) old.nodes new.nodes later.hubs of kept.still
              (subst (AreJoined old.nodes) (sym left) (joined_without old.nodes gone ended hubs.hubs was.joined));
        }

  -- after one that makes a connection, which its hub has from then on
  pub tied_connected : {base : Kept} {h : List Event} {old new : Tree T} {hubs later : Hubs} {n : ℕ} {key : Key} → IsLawful base h →
      MayFollow base h (Connect n) → AreTied base g h old hubs → IsOpenedIn h (Connect n) None old new key →
      later.hubs ≡ at_hub n (connected key) hubs.hubs → IsTied base g (h ++ Connect n ∷ []) new → AreTied base g (h ++ Connect n ∷ []) new later
  tied_connected {base} {h} {old} {new} {hubs} {n = n} {key} law next was opened made tied = record {
    of_tree = tied;
    published = subst (AreHubsOf (h ++ Connect n ∷ [])) (connected_after h n key hubs.hubs was.published opened.numbered ∙ sym made)
        (hubs_follow base h (Connect n) key.slot hubs.hubs law next was.published);
    joined = subst (AreJoined new.nodes) (sym made) (joined_connected new.nodes key n hubs.hubs (ap is_some opened.found)
        (joined_found old.nodes new.nodes hubs.hubs still was.joined));
  }
    where
      still : (k : Key) → IsSome (find old.nodes k) → IsSome (find new.nodes k)
      still k some = ap is_some (found_still base g h law old old new was.of_tree key (Connect n) None opened k some) ∙ some

  -- and after one that makes this hub
  pub tied_published : (base : Kept) → {h : List Event} {old : Tree T} {hubs new : Hubs} (mode : Mode) → IsLawful base h → MayFollow base h (Publish mode) →
      AreTied base g h old hubs →
      IsTied base g (h ++ Publish mode ∷ []) old → new.hubs ≡ hubs.hubs ++ new_hub (length h) mode ∷ [] → AreTied base g (h ++ Publish mode ∷ []) old new
  tied_published base {h = h} {old = old} {hubs = hubs} {new = new} mode law next was tied added = record {
    of_tree = tied;
    published = subst (AreHubsOf (h ++ Publish mode ∷ [])) (hubs_published h mode 0 hubs.hubs was.published ∙ sym added)
        (hubs_follow base h (Publish mode) 0 hubs.hubs law next was.published);
    joined = record {
      subscribers =
          λ i hub at_i. by_place i hub (pushed_from hubs.hubs (new_hub (length h) mode) hub i (ap (λ (hs : List Hub). slice_get hs i) (sym added) ∙ at_i));
      connection = λ i hub at_i. by_place_too i hub
          (pushed_from hubs.hubs (new_hub (length h) mode) hub i (ap (λ (hs : List Hub). slice_get hs i) (sym added) ∙ at_i));
    };
  }
    where
      by_place : (i : ℕ) (hub : Hub) → (slice_get hubs.hubs i ≡ Some hub) ⊎ (new_hub (length h) mode ≡ hub) →
          AllByRecursion (λ key. IsSome (find old.nodes key)) hub.subscribers
      by_place i hub (inl before) = was.joined.subscribers i hub before
      by_place i hub (inr same) = subst (λ (x : Hub). AllByRecursion (λ key. IsSome (find old.nodes key)) x.subscribers) same tt

      by_place_too : (i : ℕ) (hub : Hub) → (slice_get hubs.hubs i ≡ Some hub) ⊎ (new_hub (length h) mode ≡ hub) →
          IfSome hub.connection (λ key. IsSome (find old.nodes key))
      by_place_too i hub (inl before) = was.joined.connection i hub before
      by_place_too i hub (inr same) = subst (λ (x : Hub). IfSome x.connection (λ key. IsSome (find old.nodes key))) same tt
