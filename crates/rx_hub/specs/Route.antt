-- Where an item's way over a tree and its hubs stands that is gone stop by stop: the node to climb from next, and for each hub on
-- the way the oldest of its subscribers from which it goes on after that (Publish: a connection passes on to every subscriber).
use Rattle.std.specs.Prelude.{◌≡◌, ℕ, suc, ◌+◌, ◌-◌, ◌<◌, ◌≤◌, ◌++◌, cond, List, [], ◌∷◌, length, Option, Some, IsSome, IsTrue, IfSome, IfNone}
use Rattle.std.specs.List.{AllByRecursion, filter_map, cons_option}
use Rattle.std.specs.Option.{option_and_then, option_map_or, option_to_list}
use Rattle.rx_event.specs.declared.event.Event.TheVariants.{Connect}
use Rattle.rx_event.specs.Climb.{most_visits}
use Rattle.rx_slots.specs.declared.Key.{Key}
use Rattle.rx_slots.specs.Slots.{Slots, find}
use Rattle.rx_tree.specs.declared.node.Node.{Node}
use Rattle.rx_tree.specs.Tree.{is_key, is_on}
use Rattle.rx_hub.specs.declared.stop.Stop.{Stop}
use Rattle.rx_hub.specs.declared.stop.Stop.TheVariants.{Connection}
use Rattle.rx_hub.specs.Way.{made_of, way, end_of}
use Rattle.rx_hub.specs.declared.route.Frame.{Frame}
use Rattle.rx_hub.specs.Hubs.{Hub, find_hub}
use Rattle.rx_hub.specs.Walk.{visited_over, beyond, arrival_at}

-- the node to climb from next; the frames, the innermost first; how many visits were made; for how many frames there is memory
pub record Route : Type 0 where
  pub at : Option Key
  pub frames : List Frame
  pub visits : ℕ
  pub room : ℕ

-- a key, and what follows it
abbrev pub keys_from : Key → List Key → List Key
keys_from key [] = []
keys_from key (k ∷ ks) = cond (is_key key k) (k ∷ ks) (keys_from key ks)

-- the subscribers of a frame's hub, from the frame's own on
abbrev pub frame_keys : List Hub → Frame → List Key
frame_keys hubs frame = option_map_or (λ (hub : Hub). keys_from frame.key hub.subscribers) (find_hub hubs frame.hub) []

-- what comes after, from the innermost hub out
abbrev pub after_frames : List Hub → List Frame → List Key
after_frames hubs [] = []
after_frames hubs (frame ∷ frames) = frame_keys hubs frame ++ after_frames hubs frames

-- the nodes that are still to be climbed from
abbrev pub todo : List Hub → Route → List Key
todo hubs route = option_to_list route.at ++ after_frames hubs route.frames

-- how many visits are left, with the one that cuts a way off
abbrev pub visits_left : Route → ℕ
visits_left route = suc most_visits - route.visits

-- the visits that are still to be made
abbrev pub visited_next : Slots Node → List Hub → Route → List Key
visited_next nodes hubs route = visited_over (visits_left route) nodes hubs (todo hubs route)

-- the stops that are still to come, and the visits of the whole way
abbrev pub stops_left : Slots Node → List Hub → Route → List Stop
stops_left nodes hubs route = filter_map (arrival_at nodes) (visited_next nodes hubs route)

abbrev pub all_visits : Slots Node → List Hub → Route → ℕ
all_visits nodes hubs route = route.visits + length (visited_next nodes hubs route)

-- at the beginning of the way of this node's item
abbrev pub started : Key → Route → Route
started node route = record route { at = Some node; frames = []; visits = 0 }

-- the key of a subscriber of a hub that is there
pub record IsFrame (hubs : List Hub) (frame : Frame) : Type 0 where
  pub hub : Hub
  pub there : find_hub hubs frame.hub ≡ Some hub
  pub subscribes : IsTrue (is_on frame.key hub.subscribers)

-- the frames, by falling numbers of hubs, are all of hubs before this one
abbrev pub IsBehind : ℕ → List Frame → Type 0
IsBehind hub [] = Unit {0}
IsBehind hub (frame ∷ frames) = frame.hub < hub

-- each frame is of a later hub than that before it on the way
abbrev pub AreFrames : List Hub → List Frame → Type 0
AreFrames hubs [] = Unit {0}
AreFrames hubs (frame ∷ frames) = IsFrame hubs frame × IsBehind frame.hub frames × AreFrames hubs frames

-- an item of this node reaches no connection of a hub before this one
abbrev pub ReachesFrom : Slots Node → ℕ → Key → Type 0
ReachesFrom nodes hub key = (c : Key) (g : ℕ) → end_of nodes (way nodes key) ≡ Some (Connection c) →
    made_of nodes c ≡ Some (Connect g) → hub ≤ g

-- each subscriber is in the tree, and reaches connections of later hubs alone: no item goes round in a circle
pub record IsOrdered (nodes : Slots Node) (hubs : List Hub) : Type 0 where
  pub found : (g : ℕ) (hub : Hub) → find_hub hubs g ≡ Some hub →
      AllByRecursion (λ key. IsSome (find nodes key)) hub.subscribers
  pub later : (g : ℕ) (hub : Hub) → find_hub hubs g ≡ Some hub → AllByRecursion (ReachesFrom nodes (suc g)) hub.subscribers

-- a way over this tree and these hubs, that has memory for a frame of each
pub record IsUnderWay (nodes : Slots Node) (hubs : List Hub) (route : Route) : Type 0 where
  pub room : length hubs ≤ route.room
  pub frames : AreFrames hubs route.frames
  pub there : IfSome route.at (λ key. IsSome (find nodes key))
  -- what it reaches from where it stands is of this hub or a later one, and the frames are of earlier ones
  pub hub : ℕ
  pub reaches : IfSome route.at (ReachesFrom nodes hub)
  pub behind : IsBehind hub route.frames
  pub ended : IfNone route.at (route.frames ≡ [])
  pub visits : route.visits ≤ suc most_visits

-- it goes on to the next stop, and to the end of its way where there is none
pub record Arrives (nodes : Slots Node) (hubs : List Hub) (old new : Route) (stop : Option Stop) : Type 0 where
  pub stops : stops_left nodes hubs old ≡ cons_option stop (stops_left nodes hubs new)
  pub ended : IfNone stop (stops_left nodes hubs new ≡ [])
  pub visits : all_visits nodes hubs new ≡ all_visits nodes hubs old
  pub counted : IfNone stop (new.visits ≡ all_visits nodes hubs old)
  pub under_way : IsUnderWay nodes hubs new
  pub room : new.room ≡ old.room

-- steps of a way, which no public clause cites -------------------------------------------------------

-- it is a subscriber's turn, and the frames are of its hub and of those before
pub record IsTurn (hubs : List Hub) (frames : List Frame) (key : Key) : Type 0 where
  pub hub : ℕ
  pub frame : IsFrame hubs (record { hub = hub; key = key })
  pub behind : IsBehind (suc hub) frames

-- where it goes on from the end of a climb
abbrev pub beyond_end : Slots Node → List Hub → Option Stop → List Key
beyond_end nodes hubs stop = option_map_or (beyond nodes hubs) stop []

-- and from the hub behind it
abbrev pub hub_keys : List Hub → Option ℕ → List Key
hub_keys hubs hub = option_map_or (λ (h : Hub). h.subscribers) (option_and_then (find_hub hubs) hub) []

abbrev pub first_keys : List Hub → Option Frame → List Key
first_keys hubs first = option_map_or (frame_keys hubs) first []

-- it goes on from the first, if there is one, and then from what comes after these frames
pub record GoesOn (hubs : List Hub) (old new : List Frame) (first : Option Frame) (at : Option Key) : Type 0 where
  pub turn : IfSome at (IsTurn hubs new)
  pub frames : AreFrames hubs new
  pub todo : option_to_list at ++ after_frames hubs new ≡ first_keys hubs first ++ after_frames hubs old
  pub ended : IfNone at (new ≡ [])

-- it goes on to the next stop or to another tree, one climb further
pub record Climbs (nodes : Slots Node) (hubs : List Hub) (old new : Route) (stop : Option Stop) : Type 0 where
  pub stops : stops_left nodes hubs old ≡ cons_option stop (stops_left nodes hubs new)
  pub visits : all_visits nodes hubs new ≡ all_visits nodes hubs old
  pub under_way : IsUnderWay nodes hubs new
  pub fewer : visits_left new < visits_left old
  pub room : new.room ≡ old.room
