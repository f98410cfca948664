-- What is promised of hubs.
use Rattle.rx_event.specs.Claims.Imports.{ℕ, List, [], length, IsTrue, Event, Kept, is_auto_hub, at, open_subscribers, open_connections, IsSettled}
use Rattle.rx_event.specs.Claims.Imports.{IsLawful}
use Rattle.std.specs.Prelude.{◌≢◌, ◌≡◌, ◌≤◌}

-- a hub has at most one open connection (Publish: all subscribers share one subscription)
pub record ConnectsOnce (base : Kept) : Type 0 where
  pub at_most : (h : List Event) → IsLawful base h → (g : ℕ) → length (open_connections h g) ≤ 1
  -- RefCount, once nothing is forced: one where it has an open subscriber, and none otherwise
  pub subscribed : (h : List Event) → IsLawful base h → IsSettled base h → (g : ℕ) → IsTrue (at is_auto_hub h g) →
      open_subscribers h g ≢ [] → length (open_connections h g) ≡ 1
  pub unsubscribed : (h : List Event) → IsLawful base h → IsSettled base h → (g : ℕ) → IsTrue (at is_auto_hub h g) →
      open_subscribers h g ≡ [] → open_connections h g ≡ []
