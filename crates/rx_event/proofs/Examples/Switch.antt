-- The definitions at worked examples: Switch.
use Rattle.rx_event.proofs.Laws.Common.{◌≡◌, List, [], ◌∷◌, ◌++◌, refl, pos, Root, Source, Inner, Leaf, Pass, Switch, Sub, Auto, Event, Open, Hub, Connect}
use Rattle.rx_event.proofs.Laws.Common.{Accept, Item, Close, nothing_kept, shown, parent, ancestors, is_shut, is_open, open_nodes, open_connections}
use Rattle.rx_event.proofs.Laws.Common.{open_subscribers, is_owned, is_out, leases_of, is_held, is_taken, is_waiting, waiting_resources, opened_with}
use Rattle.rx_event.proofs.Laws.Common.{MayFollow, held_resources}

-- the opening of the second inner closes the first, whose resource waits
abbrev exchanged : List Event
exchanged =
    Open Root Switch ∷ Open (Source 0) Leaf ∷ Item 1 (pos 1) ∷ Open (Inner 0) Pass ∷ Accept 3 31 ∷ Item 1 (pos 2) ∷ Open (Inner 0) Pass ∷ Accept 6 32 ∷ []

exchanged_is : (open_nodes exchanged ≡ 0 ∷ 1 ∷ 6 ∷ []) × (waiting_resources exchanged ≡ 4 ∷ []) × (held_resources exchanged ≡ 7 ∷ [])
unfolding is_open is_shut ancestors parent shown is_waiting is_taken is_held is_owned is_out leases_of
exchanged_is = (refl, refl, refl)

-- both inners subscribe to one hub: the exchange leaves its connection up
abbrev shared : List Event
shared =
    Hub Auto ∷ Open Root Switch ∷ Open (Source 1) Leaf ∷ Item 2 (pos 1) ∷ Open (Inner 1) (Sub 0) ∷ Connect 0 ∷ Item 2 (pos 2) ∷ Open (Inner 1) (Sub 0) ∷ []

shared_is : (open_nodes shared ≡ 1 ∷ 2 ∷ 5 ∷ 7 ∷ []) × (open_subscribers shared 0 ≡ 7 ∷ []) × (open_connections shared 0 ≡ 5 ∷ [])
unfolding is_open is_shut ancestors parent shown
shared_is = (refl, refl, refl)

-- an inner with a resource takes the place of the hub's last subscriber: the acceptance may come before the connection closes
abbrev left_alone : List Event
left_alone =
    Hub Auto ∷ Open Root Switch ∷ Open (Source 1) Leaf ∷ Item 2 (pos 1) ∷ Open (Inner 1) (Sub 0) ∷ Connect 0 ∷ Item 2 (pos 2) ∷ Open (Inner 1) Pass ∷ []

accepted_first : (MayFollow nothing_kept left_alone (Accept 7 0)) × (open_nodes (left_alone ++ Accept 7 0 ∷ Close 5 ∷ []) ≡ 1 ∷ 2 ∷ 7 ∷ []) ×
    (held_resources (left_alone ++ Accept 7 0 ∷ Close 5 ∷ []) ≡ 8 ∷ [])
unfolding is_open is_shut ancestors parent shown is_held is_owned is_out leases_of
accepted_first = (opened_with refl refl refl, refl, refl)
