-- The order of hubs: what stands inside a connection subscribes to earlier hubs.
use Rattle.rx_hub.proofs.Common.{◌≡◌, ℕ, ◌<◌, true, List, [], ◌∷◌, slice_get, Some, AllByRecursion, false≢true, and_parts, or_cases, eqb-true, Kept, Event}
use Rattle.rx_hub.proofs.Common.{is_subscriber_of, IsLawful, at, is_open, at_connect, hubs_in_order, Key, is_on, Hub, AreHubsOf, SubscribesInside}
use Rattle.rx_hub.proofs.Laws.AfterLeft.{own_connection}
use Rattle.rx_hub.proofs.Laws.AfterCases.{IsOpenAt, subscribers_open}
use Rattle.std.proofs.Common.{rules}

-- in a history ------------------------------------------------------------------------------------

all_on : (P : ℕ → Type 0) (key : Key) (keys : List Key) → AllByRecursion (λ (k : Key). P k.number) keys → is_on key keys ≡ true → P key.number
all_on P key [] all on = absurd (false≢true on)
all_on P key (k ∷ keys) all on = search (rules, or_cases, eqb-true, and_parts, all_on P key keys all.1)

-- a subscriber inside a connection is of an earlier hub than that, so that no item goes round in a circle
pub subscribers_earlier : {base : Kept} {h : List Event} {hubs : List Hub} → IsLawful base h → AreHubsOf h hubs → (i j : ℕ) {outer inner : Hub} →
    slice_get hubs i ≡ Some outer → slice_get hubs j ≡ Some inner → SubscribesInside h outer inner → inner.number < outer.number
subscribers_earlier {h = h} law are i j {outer} {inner} at_i at_j x =
    let c = x.connection in
    let s = x.subscriber in
    let connects = at_connect h outer.number c.number (own_connection h outer (are.each i outer at_i) c x.connects).0 in
    let both = all_on (IsOpenAt h inner.number) s inner.subscribers (subscribers_open h inner (are.each j inner at_j)) x.subscribes in
    let subscribes = (and_parts (at (is_subscriber_of inner.number) h s.number) (is_open h s.number) both).0 in
    hubs_in_order law inner.number s.number c.number subscribes x.inside connects
