-- Where an item goes inside one tree: up from a node, each operator passing on what reaches it (Observable Contract; FlatMap,
-- Switch, TakeUntil; Publish).
use Rattle.std.specs.Prelude.{ℕ, zero, suc, false, is_some, if◌then◌else◌, Option, Some, None, List, [], ◌∷◌, option_map}
use Rattle.std.specs.Option.{option_and_then, option_map_or}
use Rattle.rx_event.specs.declared.event.Place.TheVariants.{Root, Source, Notifier}
use Rattle.rx_event.specs.declared.event.Event.{Event}
use Rattle.rx_event.specs.declared.event.Event.TheVariants.{Open, Connect}
use Rattle.rx_event.specs.Events.{is_merging, hub_connected}
use Rattle.rx_event.specs.Climb.{most_visits}
use Rattle.rx_event.specs.Marks.{first_some}
use Rattle.rx_slots.specs.declared.Key.{Key}
use Rattle.rx_slots.specs.Slots.{Slots, find}
use Rattle.rx_tree.specs.declared.node.Node.{Node}
use Rattle.rx_hub.specs.declared.stop.Stop.{Stop}
use Rattle.rx_hub.specs.declared.stop.Stop.TheVariants.{Delivery, Projection, Firing, Connection}

abbrev pub made_of : Slots Node → Key → Option Event
made_of nodes key = option_map (λ node. node.made) (find nodes key)

-- the key of the node above
abbrev pub above_of : Slots Node → Key → Option Key
above_of nodes key = option_and_then (λ node. node.above) (find nodes key)

-- the key, where its node is a FlatMap or a Switch
abbrev pub if_merging : Slots Node → Key → Option Key
if_merging nodes key = if option_map_or is_merging (made_of nodes key) false then Some key else None

-- where an item stops that reaches this node, which the event made below the other
abbrev pub stop_made : Slots Node → Key → Option Key → Event → Option Stop
stop_made nodes key above (Open Root kind) = Some (Delivery key)
stop_made nodes key above (Open (Source f) kind) = option_map (λ k. Projection k) (option_and_then (if_merging nodes) above)
stop_made nodes key above (Open (Notifier u) kind) = option_map (λ k. Firing k) above
stop_made nodes key above (Connect g) = Some (Connection key)
stop_made nodes key above _ = None

abbrev pub stop_of : Slots Node → Key → Option Stop
stop_of nodes key = option_and_then (stop_made nodes key (above_of nodes key)) (made_of nodes key)

-- where it goes on from a node at which it does not stop
abbrev pub onward_of : Slots Node → Key → Option Key
onward_of nodes key = if is_some (stop_of nodes key) then None else above_of nodes key

-- the nodes that it visits from this one on, up to so many
abbrev pub way_within : ℕ → Slots Node → Key → List Key
way_within zero nodes key = []
way_within (suc left) nodes key = key ∷ option_map_or (way_within left nodes) (onward_of nodes key) []

-- all of them, up to one more than an item may visit
abbrev pub way : Slots Node → Key → List Key
way nodes key = way_within (suc most_visits) nodes key

-- where it stops: at the last of them
abbrev pub end_of : Slots Node → List Key → Option Stop
end_of nodes keys = first_some (stop_of nodes) keys

-- the hub from whose connection it goes on in other trees; none where it stops elsewhere
abbrev pub hub_of : Slots Node → Option Stop → Option ℕ
hub_of nodes (Some (Connection key)) = option_and_then hub_connected (made_of nodes key)
hub_of nodes (Some (Delivery key)) = None
hub_of nodes (Some (Projection key)) = None
hub_of nodes (Some (Firing key)) = None
hub_of nodes None = None
