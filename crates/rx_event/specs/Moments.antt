-- What each event did in the history before it.
use Rattle.std.specs.Prelude.{◌+◌, ◌-◌, ◌==◌, ◌∷◌, ◌++◌}
use Rattle.rx_event.specs.Imports.{ℕ, Bool, true, false, List, [], count_by, sum_by, list_any, option_map_or, Event, Item}
use Rattle.rx_event.specs.Kept.{Kept, node_kept, shown}
use Rattle.rx_event.specs.Events.{pays}
use Rattle.rx_event.specs.Climb.{Stop, Delivery, Projection, Firing, stops}

-- an event with the history before it
pub record Moment : Type 0 where
  pub before : List Event
  pub event : Event

abbrev pub moments_after : List Event → List Event → List Moment
moments_after before [] = []
moments_after before (e ∷ rest) = (record { before = before; event = e }) ∷ moments_after (before ++ e ∷ []) rest

-- each event with the history before it, in order
unfoldable pub moments : List Event → List Moment
moments h = moments_after [] h

abbrev pub is_projection : Stop → Bool
is_projection (Projection f) = true
is_projection (Delivery n) = false
is_projection (Firing u) = false

abbrev pub is_projection_to : ℕ → Stop → Bool
is_projection_to f (Projection g) = g == f
is_projection_to f (Delivery n) = false
is_projection_to f (Firing u) = false

abbrev pub is_firing_of : ℕ → Stop → Bool
is_firing_of u (Firing v) = v == u
is_firing_of u (Delivery n) = false
is_firing_of u (Projection f) = false

-- the stops of the item, none of another event
abbrev pub stops_of : List Event → Event → List Stop
stops_of before (Item leaf value) = stops before leaf
stops_of before _ = []

-- how many items were projected to f
unfoldable pub projections : List Event → ℕ → ℕ
projections h f = sum_by (λ m. count_by (is_projection_to f) (stops_of m.before m.event)) (moments h)

-- an item reached the notifier's place of u (TakeUntil)
unfoldable pub is_fired : List Event → ℕ → Bool
is_fired h u = list_any (λ m. list_any (is_firing_of u) (stops_of m.before m.event)) (moments h)

-- the projected items of f whose inner observable was neither opened nor declined (this project's own: a caller projects by hand)
abbrev pub projected_by : Kept → List Event → ℕ → ℕ
projected_by b h f = option_map_or (λ k. k.owed + count_by (pays f) (shown b) + projections h f) (node_kept b f) (projections h f)

unfoldable pub owed : Kept → List Event → ℕ → ℕ
owed b h f = projected_by b h f - count_by (pays f) h
