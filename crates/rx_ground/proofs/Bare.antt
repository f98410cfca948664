-- Where an item goes is told by what stands at the slots of a tree, whatever room there is.
use Rattle.rx_ground.proofs.Common.{◌≡◌, ℕ, zero, suc, ◌++◌, List, [], ◌∷◌, Option, refl, filter_map, option_and_then, Event, Key, Slots, Node, stop_made, Hub}
use Rattle.rx_ground.proofs.Common.{stop_of, onward_over, visited_over, arrival, arrival_at, stops_over, nodes_at}
use Rattle.std.proofs.Common.{rules}

module _ (nodes : Slots Node) (hubs : List Hub) where
  stop_made_bare : (key : Key) (above : Option Key) (made : Event) → stop_made (nodes_at nodes.entries) key above made ≡ stop_made nodes key above made
  stop_made_bare key x1 x2 = search rules

  stop_bare : (key : Key) → stop_of (nodes_at nodes.entries) key ≡ stop_of nodes key
  stop_bare key = search (rules, option_and_then, stop_made_bare)

  onward_bare : (key : Key) → onward_over (nodes_at nodes.entries) hubs key ≡ onward_over nodes hubs key
  onward_bare key = search (rules, stop_bare)

  visited_bare : (left : ℕ) (keys : List Key) → visited_over left (nodes_at nodes.entries) hubs keys ≡ visited_over left nodes hubs keys
  visited_bare zero keys = refl
  visited_bare (suc left) [] = refl
  visited_bare (suc left) (key ∷ keys) = search (rules, onward_bare, visited_bare left (onward_over nodes hubs key ++ keys))

  arrivals_bare : (keys : List Key) → filter_map (arrival_at (nodes_at nodes.entries)) keys ≡ filter_map (arrival_at nodes) keys
  arrivals_bare keys = λ i. filter_map (λ (key : Key). option_and_then arrival (stop_bare key i)) keys

  pub stops_bare : (key : Key) → stops_over (nodes_at nodes.entries) hubs key ≡ stops_over nodes hubs key
  stops_bare key = search (rules, filter_map, visited_bare, arrivals_bare)
