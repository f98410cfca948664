-- What an item of a leaf wants, and the one stop that it may make.
use Rattle.std.specs.Prelude.{◌≡◌, ℤ, ◌+◌, ◌≤◌, List, [], ◌∷◌, length, count_by, Option, IsSome, IfSome}
use Rattle.rx_event.specs.declared.event.Event.{Event}
use Rattle.rx_event.specs.declared.event.Event.TheVariants.{Item}
use Rattle.rx_event.specs.Climb.{stops}
use Rattle.rx_event.specs.Moments.{is_projection}
use Rattle.rx_event.specs.Notes.{mail_of}
use Rattle.rx_slots.specs.declared.Key.{Key}
use Rattle.rx_slots.specs.Slots.{Slots, find}
use Rattle.rx_tree.specs.declared.node.Node.{Node}
use Rattle.rx_hub.specs.declared.stop.Stop.{Stop}
use Rattle.rx_hub.specs.Hubs.{Hub}
use Rattle.rx_hub.specs.Walk.{stops_over}
use Rattle.rx_ground.specs.declared.route.Reach.{Reach}

-- an item of this open leaf wants so much: its own event with what FlatMaps and Switches then owe, and the notes that it tells
pub record IsReach (h : List Event) (nodes : Slots Node) (leaf : Key) (reach : Reach) : Type 0 where
  pub there : IsSome (find nodes leaf)
  pub events : reach.events ≡ 1 + count_by is_projection (stops h leaf.number)
  pub notes : (value : ℤ) → length (mail_of h (Item leaf.number value)) ≡ reach.notes
  pub few : reach.notes ≤ 1048577

-- where a stop is told, an item of this leaf makes it and no other
abbrev pub MakesOnly : Slots Node → List Hub → Key → Option Stop → Type 0
MakesOnly nodes hubs leaf only = IfSome only (λ stop. stops_over nodes hubs leaf ≡ stop ∷ [])
