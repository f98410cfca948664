-- The definitions at worked examples: Publish, Connect and RefCount.
use Rattle.rx_event.proofs.Laws.Common.{◌≡◌, List, [], ◌∷◌, ◌++◌, refl, arith, Error, Root, Source, Leaf, Sub, Auto, Manual, Event, Open, Hub, Connect, End}
use Rattle.rx_event.proofs.Laws.Common.{Close, nothing_kept, shown, parent, ancestors, is_shut, is_open, open_nodes, is_owned, is_out, leases_of, is_held}
use Rattle.rx_event.proofs.Laws.Common.{is_taken, is_waiting, Delivery, most_visits, climb, stops, projections, owed, moments, mirrored, cut, left, IsDue, debt}

-- two hubs, one subscribed to inside a connection of the other: the last subscriber's leaving takes both connections down
abbrev nested : List Event
nested = Hub Auto ∷ Hub Auto ∷ Open Root (Sub 1) ∷ Connect 1 ∷ Open (Source 3) (Sub 0) ∷ Connect 0 ∷ []

nested_open : (open_nodes nested ≡ 2 ∷ 3 ∷ 4 ∷ 5 ∷ []) × (IsDue nothing_kept (nested ++ Close 2 ∷ []) (Close 3)) ×
    (IsDue nothing_kept (nested ++ Close 2 ∷ Close 3 ∷ []) (Close 5)) × (open_nodes (nested ++ Close 2 ∷ Close 3 ∷ Close 5 ∷ []) ≡ [])
unfolding is_open is_shut ancestors parent shown
nested_open = (refl, left {g = 1} refl refl refl refl, left {g = 0} refl refl refl refl, refl)

-- a hub stays connected while it has a subscriber, ends with its source, and is connected anew
abbrev counted : List Event
counted = Hub Auto ∷ Open Root (Sub 0) ∷ Connect 0 ∷ Open Root (Sub 0) ∷ Open (Source 2) Leaf ∷ Close 1 ∷ []

counted_open : (open_nodes counted ≡ 2 ∷ 3 ∷ 4 ∷ []) × (IsDue nothing_kept (counted ++ End 4 (Error 3) ∷ []) (End 2 (Error 3))) ×
    (IsDue nothing_kept (counted ++ End 4 (Error 3) ∷ End 2 (Error 3) ∷ []) (End 3 (Error 3))) ×
    (open_nodes (counted ++ End 4 (Error 3) ∷ End 2 (Error 3) ∷ End 3 (Error 3) ∷ Open Root (Sub 0) ∷ Connect 0 ∷ []) ≡ 9 ∷ 10 ∷ [])
unfolding is_open is_shut ancestors parent shown
counted_open = (
  refl,
  mirrored refl refl (record { child = 4; below = refl; ended = record { place = 6; found = refl } }),
  cut refl (record { hub = 0; connection = 2; place = 7; subscribes = refl; connects = refl; later = omega arith; ended = refl }),
  refl,
)

-- a subscriber that comes after its hub's connection ended stays, and receives once the hub is connected again
abbrev late : List Event
late = Hub Manual ∷ Open Root (Sub 0) ∷ Connect 0 ∷ Open (Source 2) Leaf ∷ End 3 (Error 1) ∷ End 2 (Error 1) ∷ End 1 (Error 1) ∷ Open Root (Sub 0) ∷ Connect 0
    ∷ Open (Source 8) Leaf ∷ []

late_is : (open_nodes late ≡ 7 ∷ 8 ∷ 9 ∷ []) × (stops late 9 ≡ Delivery 7 ∷ [])
unfolding is_open is_shut ancestors parent shown stops climb most_visits
late_is = (refl, refl)

-- an opening that forces a connection: two events, and room for two closings, which is five in all. The disposal uses it up
abbrev connected_by_opening : List Event
connected_by_opening = Hub Auto ∷ Open Root (Sub 0) ∷ Connect 0 ∷ []

opening_debt : (debt nothing_kept connected_by_opening ≡ 2) × (debt nothing_kept (connected_by_opening ++ Close 1 ∷ Close 2 ∷ []) ≡ 0) ×
    (IsDue nothing_kept (connected_by_opening ++ Close 1 ∷ []) (Close 2))
unfolding debt owed projections moments stops climb most_visits is_held is_owned is_out leases_of is_taken is_waiting is_open is_shut ancestors parent shown
opening_debt = (refl, refl, left {g = 0} refl refl refl refl)
