-- Where an item goes over all hubs: up from a node, and from a connection on to each subscriber of its hub, the first one's climb
-- before the second's (Observable Contract; FlatMap, Switch, TakeUntil; Publish).
use Rattle.std.specs.Prelude.{◌≡◌, ℕ, zero, suc, ◌++◌, List, [], ◌∷◌, Option, Some, None, IsSome}
use Rattle.std.specs.List.{AllByRecursion, filter_map}
use Rattle.std.specs.Option.{option_and_then, option_map_or, option_to_list}
use Rattle.rx_event.specs.Kept.{Kept}
use Rattle.rx_event.specs.declared.event.Event.{Event}
use Rattle.rx_event.specs.Events.{hub_connected}
use Rattle.rx_event.specs.Climb.{most_visits}
use Rattle.rx_slots.specs.declared.Key.{Key}
use Rattle.rx_slots.specs.Slots.{Slots, find}
use Rattle.rx_tree.specs.declared.node.Node.{Node}
use Rattle.rx_tree.specs.Tree.{IsSound}
use Rattle.rx_hub.specs.declared.stop.Stop.{Stop}
use Rattle.rx_hub.specs.declared.stop.Stop.TheVariants.{Delivery, Projection, Firing, Connection}
use Rattle.rx_hub.specs.TreeRecords.{AreRecordsOf}
use Rattle.rx_hub.specs.Way.{made_of, above_of, stop_of}
use Rattle.rx_hub.specs.Hubs.{Hub, find_hub}
use Rattle.rx_hub.specs.Records.{AreHubsOf}

-- the subscribers of the hub that the event connects
abbrev pub subscribers_of : List Hub → Option Event → List Key
subscribers_of hubs made = option_map_or (λ (hub : Hub). hub.subscribers) (option_and_then (find_hub hubs) (option_and_then hub_connected made)) []

-- where it goes on from a stop: from a connection to the subscribers
abbrev pub beyond : Slots Node → List Hub → Stop → List Key
beyond nodes hubs (Connection c) = subscribers_of hubs (made_of nodes c)
beyond nodes hubs (Delivery c) = []
beyond nodes hubs (Projection c) = []
beyond nodes hubs (Firing c) = []

abbrev pub onward_by : Slots Node → List Hub → Key → Option Stop → List Key
onward_by nodes hubs key None = option_to_list (above_of nodes key)
onward_by nodes hubs key (Some stop) = beyond nodes hubs stop

abbrev pub onward_over : Slots Node → List Hub → Key → List Key
onward_over nodes hubs key = onward_by nodes hubs key (stop_of nodes key)

-- the nodes that are visited from these in turn, each as often as it is reached, up to so many
abbrev pub visited_over : ℕ → Slots Node → List Hub → List Key → List Key
visited_over zero nodes hubs todo = []
visited_over (suc left) nodes hubs [] = []
visited_over (suc left) nodes hubs (key ∷ todo) = key ∷ visited_over left nodes hubs (onward_over nodes hubs key ++ todo)

-- all visits of an item of this node, up to one more than it may make
abbrev pub climb_over : Slots Node → List Hub → Key → List Key
climb_over nodes hubs key = visited_over (suc most_visits) nodes hubs (key ∷ [])

-- a stop where an item arrives: a connection is none
abbrev pub arrival : Stop → Option Stop
arrival (Connection c) = None
arrival (Delivery c) = Some (Delivery c)
arrival (Projection c) = Some (Projection c)
arrival (Firing c) = Some (Firing c)

abbrev pub arrival_at : Slots Node → Key → Option Stop
arrival_at nodes key = option_and_then arrival (stop_of nodes key)

-- the stops of an item, in order, as often as they are reached
abbrev pub stops_over : Slots Node → List Hub → Key → List Stop
stops_over nodes hubs key = filter_map (arrival_at nodes) (climb_over nodes hubs key)

-- a tree and hubs of one history, whose subscribers the tree has
pub record IsWalk (base : Kept) (h : List Event) (nodes : Slots Node) (hubs : List Hub) : Type 0 where
  pub sound : IsSound nodes
  pub records : AreRecordsOf base h nodes
  pub published : AreHubsOf h hubs
  pub found : (g : ℕ) (hub : Hub) → find_hub hubs g ≡ Some hub → AllByRecursion (λ key. IsSome (find nodes key)) hub.subscribers
