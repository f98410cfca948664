-- Before an event that may follow, the hubs are ready for the call that writes it.
use Rattle.rx_hub.proofs.Common.{◌≡◌, ℕ, zero, suc, ◌<◌, ◌==◌, Bool, true, false, cond, List, [], ◌∷◌, map, length, slice_get, filter, Option, Some, None, ap}
use Rattle.rx_hub.proofs.Common.{refl, ◌∙◌, AllByRecursion, option_map_or, not, and_parts, eq-eqb, same_Some, none-some, Kept, Place, slice_get_within, Sub}
use Rattle.rx_hub.proofs.Common.{Event, Open, Connect, MayFollow, may_connect, Key, may_connect_hub, may_subscribe, is_open_within, LastEnd, remaining}
use Rattle.rx_hub.proofs.Common.{without_gone, Hub, find_hub, disconnected, AreBelow, IsHubOf, HasHub, AreHubsOf}
use Rattle.rx_hub.proofs.Laws.AfterCases.{IsOpenAt, subscribers_open}
use Rattle.rx_hub.proofs.Laws.Walks.{found_hub}
use Rattle.std.proofs.Common.{rules}

-- all hubs are older than the next event
pub hubs_older : (h : List Event) (hubs : List Hub) → AreHubsOf h hubs → (i : ℕ) (hub : Hub) → slice_get hubs i ≡ Some hub → hub.number < length h
hubs_older h hubs are i hub at_i = slice_get_within h hub.number _ (are.each i hub at_i).made

-- and so are its subscribers
below_next : (h : List Event) (g : ℕ) (keys : List Key) → AllByRecursion (λ (key : Key). IsOpenAt h g key.number) keys → AreBelow (length h) keys
below_next h g [] all = tt
below_next h g (key ∷ keys) all = search (rules, is_open_within, and_parts, below_next h g keys all.1)

hub_found : (hubs : List Hub) (g i : ℕ) (hub : Hub) → slice_get hubs i ≡ Some hub → hub.number ≡ g → (x : Hub) × (find_hub hubs g ≡ Some x)
hub_found [] g i hub got named = absurd (none-some hub got)
hub_found (x ∷ hubs) g zero hub got named =
    let same : x.number ≡ g = ap (λ (y : Hub). y.number) (same_Some x hub got) ∙ named in
    (x, ap (λ b. cond b (Some x) (find_hub hubs g)) (eq-eqb x.number g same))
hub_found (x ∷ hubs) g (suc i) hub got named = by_test (x.number == g) (hub_found hubs g i hub got named) where
  by_test : (b : Bool) → (y : Hub) × (find_hub hubs g ≡ Some y) → (y : Hub) × (cond b (Some x) (find_hub hubs g) ≡ Some y)
  by_test true rest = (x, refl)
  by_test false rest = rest

-- a hub that is there is found by its number
there_found : (h : List Event) (hubs : List Hub) (g : ℕ) → AreHubsOf h hubs → HasHub hubs g →
    (hub : Hub) × (find_hub hubs g ≡ Some hub) × IsHubOf h hub × (hub.number ≡ g)
there_found h hubs g are has =
    let some = hub_found hubs g has.index has.hub has.there has.numbered in
    let own = found_hub hubs g some.0 some.1 in (some.0, some.1, are.each own.0 some.0 own.1.0, own.1.1)

pub ready_to_subscribe : (base : Kept) → (h : List Event) (place : Place) (g : ℕ) (hubs : List Hub) → MayFollow base h (Open place (Sub g)) → AreHubsOf h hubs →
    (hub : Hub) × (find_hub hubs g ≡ Some hub) × AreBelow (length h) hub.subscribers
ready_to_subscribe base h place g hubs next are =
    let own = there_found h hubs g are (are.every g (may_subscribe base next).0) in
    (own.0, own.1, below_next h own.0.number own.0.subscribers (subscribers_open h own.0 own.2))

pub ready_to_connect : (base : Kept) → (h : List Event) (g : ℕ) (hubs : List Hub) → MayFollow base h (Connect g) → AreHubsOf h hubs →
    (hub : Hub) × (find_hub hubs g ≡ Some hub) × (hub.connection ≡ None)
ready_to_connect base h g hubs next are = search (rules, there_found, may_connect_hub, may_connect)

-- after others have gone --------------------------------------------------------------------------

without_number : (gone : Key → Bool) (ended : Option LastEnd) (hub : Hub) → (without_gone gone ended hub).number ≡ hub.number
without_number gone ended hub = search rules

find_mapped : (f : Hub → Hub) → ((hub : Hub) → (f hub).number ≡ hub.number) → (hubs : List Hub) (g : ℕ) (hub : Hub) → find_hub hubs g ≡ Some hub →
    find_hub (map f hubs) g ≡ Some (f hub)
find_mapped f same [] g hub found = absurd (none-some hub found)
find_mapped f same (x ∷ hubs) g hub found = search (rules, same_Some, find_mapped f same hubs g hub)

below_filtered : (n : ℕ) (p : Key → Bool) (keys : List Key) → AreBelow n keys → AreBelow n (filter p keys)
below_filtered n p [] all = tt
below_filtered n p (key ∷ keys) all = search (rules, below_filtered n p keys all.1)

-- where an exchange closes nodes first, the hub is still there
pub ready_to_exchange : {base : Kept} → (h : List Event) (place : Place) (g : ℕ) (hubs : List Hub) (gone : Key → Bool) (ended : Option LastEnd) →
    MayFollow base h (Open place (Sub g)) → AreHubsOf h hubs →
    (hub : Hub) × (find_hub (map (without_gone gone ended) hubs) g ≡ Some hub) × AreBelow (length h) hub.subscribers
ready_to_exchange {base} h place g hubs gone ended next are =
    let own = ready_to_subscribe base h place g hubs next are in
    let found = find_mapped (without_gone gone ended) (without_number gone ended) hubs g own.0 own.1 in
    (without_gone gone ended own.0, found, by_test own.0 own.2 (option_map_or gone own.0.connection false)) where
      by_test : (hub : Hub) → AreBelow (length h) hub.subscribers → (b : Bool) →
          AreBelow (length h) (cond b (disconnected ended (remaining gone hub)) (remaining gone hub)).subscribers
      by_test hub below true = below_filtered (length h) (λ key. not (gone key)) hub.subscribers below
      by_test hub below false = below_filtered (length h) (λ key. not (gone key)) hub.subscribers below
