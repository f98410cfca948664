-- The definitions at a worked example: a scenario whose courses are of two lengths, so that a node has one number in the one and
-- another in the other. A report of numbers would show which it was. Nothing cites `no_number_is_shown` and
-- `no_length_is_shown`, which say so.
use Rattle.rx_script.proofs.Common.{◌≡◌, ℕ, ◌+◌, true, List, [], ◌∷◌, ◌++◌, Some, None, length, map, get_or, refl, ap, arith, nothing_kept, Completed, Root}
use Rattle.rx_script.proofs.Common.{Leaf, Auto, Event, Open, End, parent, ancestors, is_shut, is_open, most_visits, climb, stops, projections, owed, is_fired}
use Rattle.rx_script.proofs.Common.{moments, most_nodes, most_hubs, child_terminal, source_completed, open_children, stays, more, IsForcedOn, Opening, Ending}
use Rattle.rx_script.proofs.Common.{IsStepOf, source_end, first_forced, first_is_forced, Accepted, bound, Name, root, source, notifier, leaf, until, sub}
use Rattle.rx_script.proofs.Common.{make_hub, open_node, end, Step, Script, Ware, Stage, limited, HasNoFull, Course, IsCourseOf, begin, not_begun}
use Rattle.rx_event.specs.Forced.{cut, due, IsDue}
use Rattle.rx_event.proofs.Laws.InOrder.{none_connecting}
use Rattle.rx_script.proofs.CoursesInOrder.{course_in_order}
use Rattle.rx_script.proofs.Examples.StepsThatForceNothing.{doing, turn_of, step_to, plain_step, Led, led_on}
use Rattle.rx_script.proofs.Examples.HubBelowUntil.{h, u, s, c, n, l, from_leaf, from_notifier, from_source, from_until, steps, leaf_made, to_hub, to_until}
use Rattle.rx_script.proofs.Examples.HubBelowUntil.{to_source, to_notifier, to_leaf, stage}

-- a scenario: source and notifier of a TakeUntil subscribe to one hub, the source of its connection completes, and one more is opened --

abbrev x : Name
x = 120 ∷ []

abbrev last_one : List Step
last_one = doing (open_node x root leaf) ∷ []

abbrev from_end : List Step
from_end = doing (end l Completed) ∷ last_one

abbrev script : ℕ → Script
script events = record { steps = steps from_end; events = events; until = 0 }

-- its histories ----------------------------------------------------------------------------------------------------------------------

-- now the TakeUntil is due, and its notifier too
abbrev halfway : List Event
halfway = leaf_made ++ End 5 Completed ∷ End 3 Completed ∷ End 2 Completed ∷ []

-- the TakeUntil first, which takes its notifier along; and the notifier first
abbrev short : List Event
short = halfway ++ End 1 Completed ∷ []

abbrev long : List Event
long = halfway ++ End 4 Completed ∷ End 1 Completed ∷ []

to_halfway : IsForcedOn nothing_kept (leaf_made ++ End 5 Completed ∷ []) halfway
unfolding first_forced source_end child_terminal source_completed open_children is_fired owed projections moments stops climb most_visits most_nodes is_open
    is_shut ancestors parent
to_halfway = more (more stays (first_is_forced nothing_kept (leaf_made ++ End 5 Completed ∷ []) (End 3 Completed) refl))
    (first_is_forced nothing_kept (leaf_made ++ End 5 Completed ∷ End 3 Completed ∷ []) (End 2 Completed) refl)

to_short : IsStepOf nothing_kept leaf_made (Ending 5 Completed) short
unfolding first_forced source_end child_terminal source_completed open_children is_fired owed projections moments stops climb most_visits most_nodes is_open
    is_shut ancestors parent
to_short = step_to true (Ending 5 Completed) to_leaf.step.lawful to_leaf.step.settled tt refl
    (more to_halfway (first_is_forced nothing_kept halfway (End 1 Completed) refl)) refl

notifier_due : IsDue nothing_kept halfway (End 4 Completed)
unfolding is_open is_shut ancestors parent
notifier_due = cut refl (record { hub = 0; connection = 3; place = 7; subscribes = refl; connects = refl; later = omega arith; ended = refl })

to_long : IsStepOf nothing_kept leaf_made (Ending 5 Completed) long
unfolding first_forced source_end child_terminal source_completed open_children is_fired owed projections moments stops climb most_visits most_nodes is_open
    is_shut ancestors parent
to_long = step_to true (Ending 5 Completed) to_leaf.step.lawful to_leaf.step.settled tt refl
    (more (more to_halfway (due (none_connecting nothing_kept halfway refl) notifier_due))
    (first_is_forced nothing_kept (halfway ++ End 4 Completed ∷ []) (End 1 Completed) refl)) refl

short_on : IsStepOf nothing_kept short (Opening Root Leaf) (short ++ Open Root Leaf ∷ [])
unfolding first_forced source_end child_terminal source_completed open_children is_fired owed projections moments stops climb most_visits most_nodes is_open
    is_shut ancestors parent
short_on = plain_step short true (Opening Root Leaf) to_short.lawful to_short.settled tt refl refl

long_on : IsStepOf nothing_kept long (Opening Root Leaf) (long ++ Open Root Leaf ∷ [])
unfolding first_forced source_end child_terminal source_completed open_children is_fired owed projections moments stops climb most_visits most_nodes is_open
    is_shut ancestors parent
long_on = plain_step long true (Opening Root Leaf) to_long.lawful to_long.settled tt refl refl

-- its courses ------------------------------------------------------------------------------------------------------------------------

led_to_leaf : Led [] (steps from_end) (Accepted ∷ Accepted ∷ Accepted ∷ Accepted ∷ Accepted ∷ [])
    (record { stage = stage leaf_made; agenda = turn_of from_end })
unfolding bound is_open is_shut ancestors parent most_nodes most_hubs owed projections moments stops climb most_visits
led_to_leaf =
    let begun : Led [] (steps from_end) [] (begin [] (steps from_end)) = record { least = 0; leads = λ limit room. not_begun } in
    let first = led_on (make_hub h Auto) (turn_of (from_until from_end)) refl refl refl refl to_hub.step begun in
    let second = led_on (open_node u root until) (turn_of (from_source from_end)) refl refl refl refl to_until.step first in
    let third = led_on (open_node s (source u) (sub h (Some c))) (turn_of (from_notifier from_end)) refl refl refl refl to_source.step second in
    let fourth = led_on (open_node n (notifier u) (sub h None)) (turn_of (from_leaf from_end)) refl refl refl refl to_notifier.step third in
    led_on (open_node l (source c) leaf) (turn_of from_end) refl refl refl refl to_leaf.step fourth

abbrev last_stage : List Event → ℕ → Stage
last_stage k number = record (stage k) { nodes = (stage k).nodes ++ record { name = x; number = number } ∷ [] }

abbrev course : List Event → ℕ → Course
course k number = record { answers = Accepted ∷ Accepted ∷ Accepted ∷ Accepted ∷ Accepted ∷ Accepted ∷ Accepted ∷ []; last = last_stage k number }

led_short : Led [] (steps from_end) (course (short ++ Open Root Leaf ∷ []) 10).answers
    (record { stage = last_stage (short ++ Open Root Leaf ∷ []) 10; agenda = turn_of [] })
unfolding first_forced source_end child_terminal source_completed open_children is_fired owed projections moments stops climb most_visits most_nodes is_open
    is_shut ancestors parent bound
led_short =
    let ended = led_on (end l Completed) (turn_of last_one) refl refl refl refl to_short led_to_leaf in
    led_on (open_node x root leaf) (turn_of []) refl refl refl refl short_on ended

led_long : Led [] (steps from_end) (course (long ++ Open Root Leaf ∷ []) 11).answers
    (record { stage = last_stage (long ++ Open Root Leaf ∷ []) 11; agenda = turn_of [] })
unfolding first_forced source_end child_terminal source_completed open_children is_fired owed projections moments stops climb most_visits most_nodes is_open
    is_shut ancestors parent bound
led_long =
    let ended = led_on (end l Completed) (turn_of last_one) refl refl refl refl to_long led_to_leaf in
    led_on (open_node x root leaf) (turn_of []) refl refl refl refl long_on ended

room : ℕ
room = led_short.least + led_long.least

short_course : IsCourseOf (script room) [] (course (short ++ Open Root Leaf ∷ []) 10)
unfolding room
short_course = course_in_order (limited room) (script room) [] _ (last_stage (short ++ Open Root Leaf ∷ []) 10)
    (record { left = turn_of []; leads = led_short.leads room (omega arith); over = refl })

long_course : IsCourseOf (script room) [] (course (long ++ Open Root Leaf ∷ []) 11)
unfolding room
long_course = course_in_order (limited room) (script room) [] _ (last_stage (long ++ Open Root Leaf ∷ []) 11)
    (record { left = turn_of []; leads = led_long.leads room (omega arith); over = refl })

-- what nodes the names stand for, which a report must not show: nothing that shows it is the same for all courses of a scenario
abbrev numbers : Course → List ℕ
numbers d = map (λ b. b.number) d.last.nodes

pub no_number_is_shown : ((script : Script) (wares : List Ware) (c d : Course) → IsCourseOf script wares c → HasNoFull c.answers → IsCourseOf script wares d
    → HasNoFull d.answers → numbers c ≡ numbers d) → ⊥
no_number_is_shown same =
    let one = same (script room) [] (course (short ++ Open Root Leaf ∷ []) 10) (course (long ++ Open Root Leaf ∷ []) 11) short_course refl long_course refl in
    let at_x : ◌≡◌ {A = ℕ} 10 11 = ap (λ (ns : List ℕ). get_or ns 5 0) one in absurd (omega arith)

-- nor how long the history is
pub no_length_is_shown : ((script : Script) (wares : List Ware) (c d : Course) → IsCourseOf script wares c → HasNoFull c.answers → IsCourseOf script wares d
    → HasNoFull d.answers → length c.last.history ≡ length d.last.history) → ⊥
no_length_is_shown same =
    let one : ◌≡◌ {A = ℕ} 11 12 = same (script room) [] (course (short ++ Open Root Leaf ∷ []) 10)
    (course (long ++ Open Root Leaf ∷ []) 11) short_course refl long_course refl in absurd (omega arith)
