-- What a closing takes away from hubs: of the nodes that it moved out of a tree, those that subscribed to a hub leave its
-- subscribers, and those that connected one are its connection no more (Publish, RefCount).
use Rattle.std.specs.Prelude.{◌≡◌, ◌≢◌, ℕ, Bool, cond, false, List, Option, Some, IsSome, slice_get}
use Rattle.std.specs.List.{filter, list_any, AllPairs}
use Rattle.std.specs.Option.{option_map_or}
use Rattle.std.proofs.Math.Bool.{not}
use Rattle.rx_event.specs.Events.{hub_connected, hub_subscribed, is_connect_of, is_subscriber_of}
use Rattle.rx_slots.specs.declared.Key.{Key}
use Rattle.rx_tree.specs.Closing.{Closed}
use Rattle.rx_tree.specs.Tree.{is_key, is_on}
use Rattle.rx_hub.specs.declared.hub.LastEnd.{LastEnd}
use Rattle.rx_hub.specs.Hubs.{Hub, find_hub, disconnected}

-- the key is one of a closed node
abbrev pub is_closed : List Closed → Key → Bool
is_closed closed key = list_any (λ (c : Closed). is_key c.key key) closed

-- the subscribers stay, in order, whose keys are not gone
abbrev pub remaining : (Key → Bool) → Hub → Hub
remaining gone hub = record hub { subscribers = filter (λ key. not (gone key)) hub.subscribers }

-- and so does the connection; where it is gone, the end that it had is kept
abbrev pub without_gone : (Key → Bool) → Option LastEnd → Hub → Hub
without_gone gone ended hub = cond (option_map_or gone hub.connection false) (disconnected ended (remaining gone hub)) (remaining gone hub)

-- a hub after a closing of these nodes, whose connection ended so if it ended by itself
abbrev pub after_closing : List Closed → Option LastEnd → Hub → Hub
after_closing closed ended hub = without_gone (is_closed closed) ended hub

-- the hubs know a node as what its event made it: a subscriber or the connection of the hub that it names, and of no other
pub record IsKnown (hubs : List Hub) (c : Closed) : Type 0 where
  pub subscribed : (g : ℕ) → hub_subscribed c.node.made ≡ Some g → IsSome (find_hub hubs g)
  pub connected : (g : ℕ) → hub_connected c.node.made ≡ Some g → IsSome (find_hub hubs g)
  pub subscribes : (i : ℕ) (hub : Hub) → slice_get hubs i ≡ Some hub → is_on c.key hub.subscribers ≡ is_subscriber_of hub.number c.node.made
  pub connects : (i : ℕ) (hub : Hub) → slice_get hubs i ≡ Some hub → option_map_or (is_key c.key) hub.connection false ≡ is_connect_of hub.number c.node.made

-- closed nodes of these hubs, no two of one key
pub record AreClosing (hubs : List Hub) (closed : List Closed) : Type 0 where
  pub known : (i : ℕ) (c : Closed) → slice_get closed i ≡ Some c → IsKnown hubs c
  pub once : AllPairs (λ a b. a.key ≢ b.key) closed
