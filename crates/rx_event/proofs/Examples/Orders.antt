-- The definitions at a worked example: two orders of what is forced, of which one is longer.
use Rattle.rx_event.proofs.Laws.Common.{◌≡◌, ◌+◌, Some, None, List, [], ◌∷◌, ◌++◌, length, refl, arith, Completed, Root, Source, Notifier, Leaf, Sub, Until}
use Rattle.rx_event.proofs.Laws.Common.{Auto, Event, Open, Hub, Connect, End, nothing_kept, shown, parent, ancestors, is_shut, is_open, open_nodes}
use Rattle.rx_event.proofs.Laws.Common.{most_visits, climb, stops, projections, owed, is_fired, moments, mirrored, cut, due, IsDue, IsSettled, child_terminal}
use Rattle.rx_event.proofs.Laws.Common.{source_completed, open_children, stays, more, IsForcedOn, first_forced}
use Rattle.rx_event.specs.Canonical.{source_end}
use Rattle.rx_event.proofs.Laws.InOrder.{none_connecting, settled_by_order}

-- source and notifier of a TakeUntil subscribe to one hub, and the source of its connection completes
abbrev ended : List Event
ended = Hub Auto ∷ Open Root Until ∷ Open (Source 1) (Sub 0) ∷ Connect 0 ∷ Open (Notifier 1) (Sub 0) ∷ Open (Source 3) Leaf ∷ End 5 Completed ∷ []

connection_due : IsDue nothing_kept ended (End 3 Completed)
unfolding is_open is_shut ancestors parent
connection_due = mirrored refl refl (record { child = 5; below = refl; ended = record { place = 6; found = refl } })

source_due : IsDue nothing_kept (ended ++ End 3 Completed ∷ []) (End 2 Completed)
unfolding is_open is_shut ancestors parent
source_due = cut refl (record { hub = 0; connection = 3; place = 7; subscribes = refl; connects = refl; later = omega arith; ended = refl })

-- now the TakeUntil is due, and its notifier too
abbrev halfway : List Event
halfway = ended ++ End 3 Completed ∷ End 2 Completed ∷ []

until_due : IsDue nothing_kept halfway (End 1 Completed)
unfolding is_open is_shut ancestors parent
until_due = mirrored refl refl (record { child = 2; below = refl; ended = record { place = 8; found = refl } })

notifier_due : IsDue nothing_kept halfway (End 4 Completed)
unfolding is_open is_shut ancestors parent
notifier_due = cut refl (record { hub = 0; connection = 3; place = 7; subscribes = refl; connects = refl; later = omega arith; ended = refl })

until_due_later : IsDue nothing_kept (halfway ++ End 4 Completed ∷ []) (End 1 Completed)
unfolding is_open is_shut ancestors parent
until_due_later = mirrored refl refl (record { child = 2; below = refl; ended = record { place = 8; found = refl } })

-- the TakeUntil first, which takes its notifier along; and the notifier first
abbrev short : List Event
short = halfway ++ End 1 Completed ∷ []

abbrev long : List Event
long = halfway ++ End 4 Completed ∷ End 1 Completed ∷ []

short_course : IsForcedOn nothing_kept ended short
unfolding first_forced source_end is_open is_shut ancestors parent shown
short_course = more (more (more stays (due (none_connecting nothing_kept ended refl) connection_due))
    (due (none_connecting nothing_kept (ended ++ End 3 Completed ∷ []) refl) source_due)) (due (none_connecting nothing_kept halfway refl) until_due)

long_course : IsForcedOn nothing_kept ended long
unfolding first_forced source_end is_open is_shut ancestors parent shown
long_course = more (more (more (more stays (due (none_connecting nothing_kept ended refl) connection_due))
    (due (none_connecting nothing_kept (ended ++ End 3 Completed ∷ []) refl) source_due)) (due (none_connecting nothing_kept halfway refl) notifier_due))
    (due (none_connecting nothing_kept (halfway ++ End 4 Completed ∷ []) refl) until_due_later)

short_over : first_forced nothing_kept short ≡ None
unfolding first_forced source_end child_terminal source_completed open_children is_fired owed projections moments stops climb most_visits is_open is_shut
    ancestors parent shown
short_over = refl

long_over : first_forced nothing_kept long ≡ None
unfolding first_forced source_end child_terminal source_completed open_children is_fired owed projections moments stops climb most_visits is_open is_shut
    ancestors parent shown
long_over = refl

-- both are finished, and one is longer
short_settled : (IsSettled nothing_kept short) × (IsSettled nothing_kept long) × (length long ≡ length short + 1) × (open_nodes short ≡ open_nodes long)
unfolding is_open is_shut ancestors parent
short_settled = (settled_by_order nothing_kept short short_over, settled_by_order nothing_kept long long_over, refl, refl)

-- the one order is the short one: a mirroring node before a subscriber
until_first : first_forced nothing_kept halfway ≡ Some (End 1 Completed)
unfolding first_forced source_end child_terminal source_completed open_children is_fired owed projections moments stops climb most_visits is_open is_shut
    ancestors parent shown
until_first = refl
