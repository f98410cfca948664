-- Hubs as those of a history.
use Rattle.std.specs.Prelude.{◌≡◌, ℕ, ◌≤◌, List, map, Option, Some, None, slice_get, IsTrue, IfSome}
use Rattle.std.specs.Option.{option_to_list}
use Rattle.rx_note.specs.declared.note.Terminal.{Terminal}
use Rattle.rx_event.specs.declared.event.Event.{Event}
use Rattle.rx_event.specs.declared.event.Event.TheVariants.{Hub as Publish, Connect, End}
use Rattle.rx_event.specs.Events.{makes_hub, is_subscriber_of}
use Rattle.rx_event.specs.Tree.{at, open_subscribers, open_connections}
use Rattle.rx_slots.specs.declared.Key.{Key}
use Rattle.rx_hub.specs.declared.hub.LastEnd.{LastEnd}
use Rattle.rx_hub.specs.Hubs.{Hub}

abbrev pub numbers : List Key → List ℕ
numbers keys = map (λ (key : Key). key.number) keys

-- a connection of hub g ended at this place in this way
pub record EndsConnection (h : List Event) (g : ℕ) (end : LastEnd) : Type 0 where
  pub connection : ℕ
  pub connects : slice_get h connection ≡ Some (Connect g)
  pub ended : slice_get h end.place ≡ Some (End connection end.terminal)

-- the last end is that of this place, or a later one
abbrev pub IsUpTo : ℕ → Option LastEnd → Type 0
IsUpTo place None = ⊥
IsUpTo place (Some end) = place ≤ end.place

-- a hub of the history: its mode, its open subscribers by rising number, its open connection, and the last End of one
pub record IsHubOf (h : List Event) (hub : Hub) : Type 0 where
  pub made : slice_get h hub.number ≡ Some (Publish hub.mode)
  pub subscribers : numbers hub.subscribers ≡ open_subscribers h hub.number
  pub connection : numbers (option_to_list hub.connection) ≡ open_connections h hub.number
  pub ended : IfSome hub.last_end (EndsConnection h hub.number)
  pub latest : (c place : ℕ) (t : Terminal) → slice_get h c ≡ Some (Connect hub.number) → slice_get h place ≡ Some (End c t) → IsUpTo place hub.last_end

-- some hub has this number
pub record HasHub (hubs : List Hub) (number : ℕ) : Type 0 where
  pub index : ℕ
  pub hub : Hub
  pub there : slice_get hubs index ≡ Some hub
  pub numbered : hub.number ≡ number

-- the hubs are those of the history: each that was made, and also each that a subscriber names
pub record AreHubsOf (h : List Event) (hubs : List Hub) : Type 0 where
  pub each : (i : ℕ) (hub : Hub) → slice_get hubs i ≡ Some hub → IsHubOf h hub
  pub every : (g : ℕ) → IsTrue (at makes_hub h g) → HasHub hubs g
  pub subscribed : (g s : ℕ) → IsTrue (at (is_subscriber_of g) h s) → HasHub hubs g
