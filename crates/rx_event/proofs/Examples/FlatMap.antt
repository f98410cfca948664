-- The definitions at worked examples: FlatMap.
use Rattle.rx_event.proofs.Laws.Common.{◌≡◌, List, [], ◌∷◌, ◌++◌, refl, pos, Completed, Error, Root, Source, Inner, Leaf, Pass, Flat, Sub, Auto, Event, Open}
use Rattle.rx_event.proofs.Laws.Common.{Hub, Connect, Accept, Item, Decline, End, nothing_kept, shown, parent, ancestors, is_shut, is_open, open_nodes}
use Rattle.rx_event.proofs.Laws.Common.{is_owned, is_out, leases_of, is_held, is_taken, is_waiting, waiting_resources, most_visits, climb, stops, Delivery}
use Rattle.rx_event.proofs.Laws.Common.{Projection, moments, projections, owed, notes, failed, IsDue, Next}
use Rattle.rx_note.specs.declared.note.Note.TheVariants.{Project, End as Ended}

-- an item of the source is projected, and while its inner is owed the completion of the source ends nothing
abbrev projected : List Event
projected = Open Root Flat ∷ Open (Source 0) Leaf ∷ Item 1 (pos 5) ∷ End 1 Completed ∷ []

projected_is :
    (notes projected ≡ (record { place = 2; to = 0; note = Project (pos 5) }) ∷ []) × (owed nothing_kept projected 0 ≡ 1) × (open_nodes projected ≡ 0 ∷ [])
unfolding notes moments stops climb most_visits is_open is_shut ancestors parent shown owed projections
projected_is = (refl, refl, refl)

-- the inner pays it, and so does declining
paid_by_is : (owed nothing_kept (projected ++ Open (Inner 0) Leaf ∷ []) 0 ≡ 0) × (owed nothing_kept (projected ++ Decline 0 ∷ []) 0 ≡ 0)
unfolding owed projections moments stops climb most_visits is_open is_shut ancestors parent shown
paid_by_is = (refl, refl)

-- an inner that fails ends the FlatMap at once, and the resources of all three inners wait
abbrev failed_inner : List Event
failed_inner =
    Open Root Flat ∷ Open (Source 0) Leaf ∷ Item 1 (pos 1) ∷ Item 1 (pos 2) ∷ Item 1 (pos 3) ∷ Open (Inner 0) Pass ∷ Accept 5 21 ∷ Open (Inner 0) Pass
    ∷ Accept 7 22 ∷ Open (Inner 0) Pass ∷ Accept 9 23 ∷ End 7 (Error 9) ∷ []

failure_is : (IsDue nothing_kept failed_inner (End 0 (Error 9))) × (waiting_resources (failed_inner ++ End 0 (Error 9) ∷ []) ≡ 6 ∷ 8 ∷ 10 ∷ []) ×
    (notes (failed_inner ++ End 0 (Error 9) ∷ []) ≡
    (record { place = 2; to = 0; note = Project (pos 1) }) ∷ (record { place = 3; to = 0; note = Project (pos 2) })
    ∷ (record { place = 4; to = 0; note = Project (pos 3) }) ∷ (record { place = 12; to = 0; note = Ended (Error 9) }) ∷ [])
unfolding is_open is_shut ancestors parent shown is_waiting is_taken is_held is_owned is_out leases_of notes moments stops climb most_visits
failure_is = (failed refl refl (record { child = 7; below = refl; ended = record { place = 11; found = refl } }), refl, refl)

-- A climb finishes with one subscriber before it goes to the next: the Source of the FlatMap is a subscriber of hub k, in whose
-- connection stands a subscriber of hub g, and an inner of the FlatMap subscribes to g too.
abbrev two_ways : List Event
two_ways = Hub Auto ∷ Hub Auto ∷ Open Root Flat ∷ Open (Source 2) (Sub 1) ∷ Connect 1 ∷ Open (Source 4) (Sub 0) ∷ Connect 0 ∷ Open (Source 6) Leaf
    ∷ Item 7 (pos 1) ∷ Open (Inner 2) (Sub 0) ∷ []

two_ways_is : (stops two_ways 7 ≡ Projection 2 ∷ Delivery 2 ∷ []) × (notes (two_ways ++ Item 7 (pos 2) ∷ []) ≡
    (record { place = 8; to = 2; note = Project (pos 1) }) ∷ (record { place = 10; to = 2; note = Project (pos 2) })
    ∷ (record { place = 10; to = 2; note = Next (pos 2) }) ∷ [])
unfolding stops climb most_visits is_open is_shut ancestors parent shown notes moments
two_ways_is = (refl, refl)
