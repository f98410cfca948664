-- Worked canonical courses: source and notifier of a TakeUntil subscribe to one hub, and the source of its connection gives an item, or
-- completes. Where it completes the definitions leave open which of several nodes ends first; the report shows none of it.
-- Nothing cites the courses and reports: they are what is shown.
use Rattle.rx_script.proofs.Common.{◌≡◌, ℕ, List, [], ◌∷◌, ◌++◌, Some, None, true, refl, codes, pos, nothing_kept, shown, Completed, Root, Source, Notifier}
use Rattle.rx_script.proofs.Common.{Leaf, Sub, Until, Auto, Event, Open, Hub, Connect, Item, End, Close, notes, is_owned, is_held, is_waiting, digits, parent}
use Rattle.rx_script.proofs.Common.{ancestors, is_shut, is_open, most_visits, visits, climb, stops, projections, owed, is_fired, moments, most_nodes, most_hubs}
use Rattle.rx_script.proofs.Common.{child_terminal, source_completed, open_children, Opening, Emitting, Ending, Publishing, source_end, first_forced}
use Rattle.rx_script.proofs.Common.{IsFirstStep, nothing_yet, first_next, Accepted, bound, Name, root, source, notifier, leaf, until, sub, Command, make_hub}
use Rattle.rx_script.proofs.Common.{open_node, next, end, Step, Script, Stage, in_one_order, Course, IsCanonicalCourseOf, refused_line, node_line, note_in_line}
use Rattle.rx_script.proofs.Common.{totals_line, closed_line, report, unclosed_report, start}
use Rattle.rx_script.proofs.CoursesInOrder.{course_in_order}
use Rattle.rx_script.proofs.Examples.StepsThatForceNothing.{doing, turn_of}
use Rattle.rx_script.proofs.Examples.InOneOrder.{Ordered, nothing_stands, ordered_to, stands_after, first_of_all, ordered_on}

abbrev pub h : Name
h = codes "h"

abbrev pub u : Name
u = codes "u"

abbrev pub s : Name
s = codes "s"

abbrev pub c : Name
c = codes "c"

abbrev pub n : Name
n = codes "n"

abbrev pub l : Name
l = codes "l"

-- the steps, before what is to come
abbrev pub from_leaf : List Step → List Step
from_leaf rest = doing (open_node l (source c) leaf) ∷ rest

abbrev pub from_notifier : List Step → List Step
from_notifier rest = doing (open_node n (notifier u) (sub h None)) ∷ from_leaf rest

abbrev pub from_source : List Step → List Step
from_source rest = doing (open_node s (source u) (sub h (Some c))) ∷ from_notifier rest

abbrev pub from_until : List Step → List Step
from_until rest = doing (open_node u root until) ∷ from_source rest

abbrev pub steps : List Step → List Step
steps rest = doing (make_hub h Auto) ∷ from_until rest

abbrev script : Command → ℕ → Script
script last events = record { steps = steps (doing last ∷ []); events = events; until = 0 }

-- their histories ------------------------------------------------------------------------------------------------------------------------

abbrev pub hub_made : List Event
hub_made = Hub Auto ∷ []

abbrev pub until_made : List Event
until_made = hub_made ++ Open Root Until ∷ []

abbrev pub source_made : List Event
source_made = until_made ++ Open (Source 1) (Sub 0) ∷ Connect 0 ∷ []

abbrev pub notifier_made : List Event
notifier_made = source_made ++ Open (Notifier 1) (Sub 0) ∷ []

abbrev pub leaf_made : List Event
leaf_made = notifier_made ++ Open (Source 3) Leaf ∷ []

-- the notifier takes the item, which fires the TakeUntil; with it both its subscribers close, and the hub has none left
abbrev fired : List Event
fired = leaf_made ++ Item 5 (pos 9) ∷ End 1 Completed ∷ Close 3 ∷ []

-- the connection ends with its source; then the subscriber of the least number, and the TakeUntil, which takes its notifier along
abbrev ended : List Event
ended = leaf_made ++ End 5 Completed ∷ End 3 Completed ∷ End 2 Completed ∷ End 1 Completed ∷ []

pub to_hub : IsFirstStep nothing_kept [] (Hub Auto ∷ []) hub_made
unfolding first_forced source_end child_terminal source_completed open_children is_fired owed projections moments stops climb most_visits most_nodes is_open
    is_shut ancestors parent most_hubs
to_hub = ordered_to true (Publishing Auto) hub_made nothing_stands tt refl nothing_yet refl

pub to_until : IsFirstStep nothing_kept hub_made (Open Root Until ∷ []) until_made
unfolding first_forced source_end child_terminal source_completed open_children is_fired owed projections moments stops climb most_visits most_nodes is_open
    is_shut ancestors parent
to_until = ordered_to true (Opening Root Until) until_made (stands_after (Publishing Auto) to_hub) tt refl nothing_yet refl

pub to_source : IsFirstStep nothing_kept until_made (Open (Source 1) (Sub 0) ∷ []) source_made
unfolding first_forced source_end child_terminal source_completed open_children is_fired owed projections moments stops climb most_visits most_nodes is_open
    is_shut ancestors parent
to_source = ordered_to true (Opening (Source 1) (Sub 0)) source_made (stands_after (Opening Root Until) to_until) tt refl (first_next nothing_yet refl) refl

pub to_notifier : IsFirstStep nothing_kept source_made (Open (Notifier 1) (Sub 0) ∷ []) notifier_made
unfolding first_forced source_end child_terminal source_completed open_children is_fired owed projections moments stops climb most_visits most_nodes is_open
    is_shut ancestors parent
to_notifier = ordered_to true (Opening (Notifier 1) (Sub 0)) notifier_made (stands_after (Opening (Source 1) (Sub 0)) to_source) tt refl nothing_yet refl

pub to_leaf : IsFirstStep nothing_kept notifier_made (Open (Source 3) Leaf ∷ []) leaf_made
unfolding first_forced source_end child_terminal source_completed open_children is_fired owed projections moments stops climb most_visits most_nodes is_open
    is_shut ancestors parent
to_leaf = ordered_to true (Opening (Source 3) Leaf) leaf_made (stands_after (Opening (Notifier 1) (Sub 0)) to_notifier) tt refl nothing_yet refl

to_item : IsFirstStep nothing_kept leaf_made (Item 5 (pos 9) ∷ []) fired
unfolding first_forced source_end child_terminal source_completed open_children is_fired owed projections moments stops climb most_visits visits most_nodes
    is_open is_shut ancestors parent
to_item = ordered_to true (Emitting 5 (pos 9)) fired (stands_after (Opening (Source 3) Leaf) to_leaf) tt refl
    (first_next (first_next nothing_yet refl) refl) refl

to_end : IsFirstStep nothing_kept leaf_made (End 5 Completed ∷ []) ended
unfolding first_forced source_end child_terminal source_completed open_children is_fired owed projections moments stops climb most_visits most_nodes is_open
    is_shut ancestors parent
to_end = ordered_to true (Ending 5 Completed) ended (stands_after (Opening (Source 3) Leaf) to_leaf) tt refl
    (first_next (first_next (first_next nothing_yet refl) refl) refl) refl

-- their courses ----------------------------------------------------------------------------------------------------------------------

abbrev pub stage : List Event → Stage
stage k = record (start []) {
  history = k;
  nodes = record { name = u; number = 1 } ∷ record { name = s; number = 2 } ∷ record { name = c; number = 3 } ∷ record { name = n; number = 4 }
      ∷ record { name = l; number = 5 } ∷ [];
  hubs = record { name = h; number = 0 } ∷ [];
}

abbrev course : List Event → Course
course k = record { answers = Accepted ∷ Accepted ∷ Accepted ∷ Accepted ∷ Accepted ∷ Accepted ∷ []; last = stage k }

to_last : (last : Command) → Ordered [] (steps (doing last ∷ [])) 0 (Accepted ∷ Accepted ∷ Accepted ∷ Accepted ∷ Accepted ∷ [])
    (record { stage = stage leaf_made; agenda = turn_of (doing last ∷ []) })
unfolding bound is_open is_shut ancestors parent most_nodes most_hubs owed projections moments stops climb most_visits
to_last last =
    let none = first_of_all [] (steps (doing last ∷ [])) 0 in
    let first = ordered_on none (make_hub h Auto) (Publishing Auto) refl refl refl refl to_hub in
    let second = ordered_on first (open_node u root until) (Opening Root Until) refl refl refl refl to_until in
    let third = ordered_on second (open_node s (source u) (sub h (Some c))) (Opening (Source 1) (Sub 0)) refl refl refl refl to_source in
    let fourth = ordered_on third (open_node n (notifier u) (sub h None)) (Opening (Notifier 1) (Sub 0)) refl refl refl refl to_notifier in
    ordered_on fourth (open_node l (source c) leaf) (Opening (Source 3) Leaf) refl refl refl refl to_leaf

-- each is the one, whatever number of events the scenario allows
pub item_course : (events : ℕ) → IsCanonicalCourseOf (script (next l (pos 9)) events) [] (course fired)
unfolding bound is_open is_shut ancestors parent most_nodes most_hubs owed projections moments stops climb most_visits visits
item_course events =
    let last = ordered_on (to_last (next l (pos 9))) (next l (pos 9)) (Emitting 5 (pos 9)) refl refl refl refl to_item in
    course_in_order in_one_order (script (next l (pos 9)) events) [] (course fired).answers
    (stage fired) (record { left = turn_of []; leads = last; over = refl })

pub end_course : (events : ℕ) → IsCanonicalCourseOf (script (end l Completed) events) [] (course ended)
unfolding bound is_open is_shut ancestors parent most_nodes most_hubs owed projections moments stops climb most_visits visits
end_course events =
    let last = ordered_on (to_last (end l Completed)) (end l Completed) (Ending 5 Completed) refl refl refl refl to_end in
    course_in_order in_one_order (script (end l Completed) events) [] (course ended).answers
    (stage ended) (record { left = turn_of []; leads = last; over = refl })

-- and this is its report
pub item_report : report (course fired) 0
    ≡ codes "node u closed: next=9 completed\ntotals nodes=5 open=0 accepted=0 held=0 waiting=0 taken=0\nclosed 0 faults 0\n"
unfolding report unclosed_report refused_line node_line note_in_line totals_line closed_line notes shown digits is_owned is_held is_waiting is_open is_shut
    ancestors parent stops climb most_visits moments projections owed
item_report = refl

pub end_report : report (course ended) 0 ≡ codes "node u closed: completed\ntotals nodes=5 open=0 accepted=0 held=0 waiting=0 taken=0\nclosed 0 faults 0\n"
unfolding report unclosed_report refused_line node_line note_in_line totals_line closed_line notes shown digits is_owned is_held is_waiting is_open is_shut
    ancestors parent stops climb most_visits moments projections owed
end_report = refl
