-- Where an item goes: up from its leaf, each operator passing on what reaches it (Observable Contract; FlatMap, Switch,
-- TakeUntil; Publish: a connection passes on to every subscriber).
use Rattle.std.specs.Prelude.{◌∷◌, ◌++◌, if◌then◌else◌}
use Rattle.rx_event.specs.Imports.{ℕ, zero, suc, Option, Some, None, List, [], length, slice_get, filter_map, option_and_then}
use Rattle.rx_event.specs.Imports.{option_map_or, Root, Source, Notifier, Event, Open, Connect}
use Rattle.std.specs.Option.{option_to_list}
use Rattle.rx_event.specs.Events.{is_merging}
use Rattle.rx_event.specs.Tree.{at, parent, open_subscribers}

-- where an item arrives: at a root, at a FlatMap or Switch that projects it, or at a TakeUntil that it fires
pub data Stop : Type 0 where
  Delivery : ℕ → Stop
  Projection : ℕ → Stop
  Firing : ℕ → Stop

-- the stop at node n, which the event made
abbrev pub stop_made : List Event → ℕ → Event → Option Stop
stop_made h n (Open Root kind) = Some (Delivery n)
stop_made h n (Open (Source f) kind) = if at is_merging h f then Some (Projection f) else None
stop_made h n (Open (Notifier u) kind) = Some (Firing u)
stop_made h n _ = None

abbrev pub stop_at : List Event → ℕ → Option Stop
stop_at h n = option_and_then (stop_made h n) (slice_get h n)

-- where the climb goes on from a node that is no stop: from a connection to the open subscribers of its hub, else to the parent
abbrev pub onward_from : List Event → ℕ → Event → List ℕ
onward_from h n (Connect g) = open_subscribers h g
onward_from h n _ = option_to_list (parent h n)

abbrev pub onward_unless : Option Stop → List ℕ → List ℕ
onward_unless (Some stop) next = []
onward_unless None next = next

abbrev pub onward : List Event → ℕ → List ℕ
onward h n = onward_unless (stop_at h n) (option_map_or (onward_from h n) (slice_get h n) [])

-- the nodes that are visited from these in turn, the first one's climb before the second's, each as often as it is
-- reached, up to so many
abbrev pub visited : ℕ → List Event → List ℕ → List ℕ
visited zero h todo = []
visited (suc left) h [] = []
visited (suc left) h (n ∷ todo) = n ∷ visited left h (onward h n ++ todo)

-- how many visits one item may make (this project's own limit)
unfoldable pub most_visits : ℕ
most_visits = 1048576

-- the nodes that the climb from n visits, in order. It ends after one more than it may
unfoldable pub climb : List Event → ℕ → List ℕ
climb h n = visited (suc most_visits) h (n ∷ [])

-- the stops of an item of leaf n, in order, as often as they are reached
unfoldable pub stops : List Event → ℕ → List Stop
stops h n = filter_map (stop_at h) (climb h n)

unfoldable pub visits : List Event → ℕ → ℕ
visits h n = length (climb h n)
