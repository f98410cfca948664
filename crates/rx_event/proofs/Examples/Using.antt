-- The definitions at worked examples: Using and mirroring nodes.
use Rattle.rx_event.proofs.Laws.Common.{◌≡◌, List, [], ◌∷◌, ◌++◌, refl, pos, Completed, Root, Source, Leaf, Pass, Event, Open, Accept, Item, End, Close, Take}
use Rattle.rx_event.proofs.Laws.Common.{nothing_kept, shown, parent, ancestors, is_shut, is_open, is_owned, is_out, leases_of, is_held, is_taken, is_waiting}
use Rattle.rx_event.proofs.Laws.Common.{waiting_resources, most_visits, climb, stops, moments, projections, owed, notes, mirrored, IsDue, Next}
use Rattle.rx_event.proofs.Laws.Common.{held_resources, debt}
use Rattle.rx_note.specs.declared.note.Note.TheVariants.{End as Ended}

-- a Using subscription with one resource, disposed of
abbrev using : List Event
using = Open Root Pass ∷ Accept 0 7 ∷ []

using_held : (held_resources using ≡ 1 ∷ []) × (debt nothing_kept using ≡ 3) × (waiting_resources (using ++ Close 0 ∷ []) ≡ 1 ∷ []) ×
    (held_resources (using ++ Close 0 ∷ []) ≡ []) × (waiting_resources (using ++ Close 0 ∷ Take 1 ∷ []) ≡ [])
unfolding is_held is_owned is_out leases_of is_open is_shut ancestors parent shown debt owed projections moments stops climb most_visits is_taken is_waiting
using_held = (refl, refl, refl, refl, refl)

-- the completion of a source goes through the mirroring node above it, whose resource then waits
abbrev completed : List Event
completed = Open Root Pass ∷ Open (Source 0) Leaf ∷ Accept 0 4 ∷ Item 1 (pos 5) ∷ End 1 Completed ∷ []

completion_is : (IsDue nothing_kept completed (End 0 Completed)) × (notes (completed ++ End 0 Completed ∷ []) ≡
    (record { place = 3; to = 0; note = Next (pos 5) }) ∷ (record { place = 5; to = 0; note = Ended Completed }) ∷ []) ×
    (waiting_resources (completed ++ End 0 Completed ∷ []) ≡ 2 ∷ [])
unfolding is_open is_shut ancestors parent shown notes moments stops climb most_visits is_waiting is_taken is_held is_owned is_out leases_of
completion_is = (mirrored refl refl (record { child = 1; below = refl; ended = record { place = 4; found = refl } }), refl, refl)
