-- What is promised of what is forced.
use Rattle.std.specs.Prelude.{◌≡◌, ◌+◌, ◌≤◌, ◌∷◌, ◌++◌}
use Rattle.rx_event.specs.Claims.Imports.{ℕ, false, List, [], option_map_or, Event, Accept, Kept, is_connect, hub_subscribed}
use Rattle.rx_event.specs.Claims.Imports.{open_count, connect_count, IsForced, IsSettled, IsConnected, MayWait, IsAllowed, IsForcedOn, IsLawful}

-- one step connects one hub at most, and first; each other forced event closes a node
pub record StepsConnectOnce (base : Kept) : Type 0 where
  -- in a settled history no hub waits; after a caller's event that of the new subscriber at most
  pub settled : (h : List Event) → IsSettled base h → IsConnected h
  pub allowed : (h : List Event) (e : Event) → IsLawful base h → IsConnected h → IsAllowed base h e →
      MayWait (h ++ e ∷ []) (option_map_or (λ g. 1) (hub_subscribed e) 0)
  -- the acceptance of the resource that a node was opened with (Using) makes none wait
  pub accepted : (h : List Event) (n tag : ℕ) → IsLawful base h → IsConnected h → IsConnected (h ++ Accept n tag ∷ [])
  -- where one may wait, none waits after the first forced event
  pub forced : (h : List Event) (e : Event) (most : ℕ) → MayWait h most → IsForced base h e → IsConnected (h ++ e ∷ [])
  -- so all that is forced connects as many as may wait at most
  pub connects : (h k : List Event) (most : ℕ) → MayWait h most → IsForcedOn base h k →
      connect_count k ≤ connect_count h + most
  pub closes : (h : List Event) (e : Event) → IsForced base h e → is_connect e ≡ false →
      open_count (h ++ e ∷ []) + 1 ≤ open_count h
