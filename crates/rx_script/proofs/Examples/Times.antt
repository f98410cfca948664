-- A worked canonical course in virtual time: a step that follows another after a delay, and two of one moment, of which the first closes
-- what the second would call. Nothing cites `time_course` and `time_report`, which show it.
use Rattle.rx_script.proofs.Common.{◌≡◌, ℕ, List, [], ◌∷◌, ◌++◌, Some, None, true, refl, codes, pos, nothing_kept, shown, Root, Source, Leaf, Sub, Auto, Event}
use Rattle.rx_script.proofs.Common.{Open, Connect, Item, Close, Gone, notes, is_owned, is_held, is_waiting, digits, parent, ancestors, is_shut, is_open}
use Rattle.rx_script.proofs.Common.{most_visits, visits, climb, stops, projections, owed, is_fired, moments, most_nodes, most_hubs, child_terminal}
use Rattle.rx_script.proofs.Common.{source_completed, open_children, Opening, Emitting, Disposing, Publishing, source_end, first_forced, IsFirstStep}
use Rattle.rx_script.proofs.Common.{nothing_yet, first_next, Accepted, Refused, Book, bound, root, source, leaf, sub, Command, make_hub, open_node, next}
use Rattle.rx_script.proofs.Common.{dispose, command, no_steps, Step, steps_of, Script, Stage, in_one_order, Course, IsCanonicalCourseOf, refused_line}
use Rattle.rx_script.proofs.Common.{node_line, note_in_line, totals_line, closed_line, report, unclosed_report, start}
use Rattle.std.specs.Prelude.{negsuc}
use Rattle.rx_script.proofs.CoursesInOrder.{course_in_order}
use Rattle.rx_script.proofs.Examples.InOneOrder.{ordered_to, stands_after, first_of_all, ordered_on, refused_on}
use Rattle.rx_script.proofs.Examples.HubBelowUntil.{h, s, c, l, hub_made, to_hub}

abbrev at : ℕ → Command → List Step → Step
at moment does followers = record { label = None; delay = Some moment; action = command does; followers = steps_of followers }

-- what follows the opening: at once, and two later
abbrev followers : List Step
followers = record { label = None; delay = None; action = command (open_node l (source c) leaf); followers = no_steps } ∷ at 2 (next l (negsuc 0)) [] ∷ []

abbrev steps : List Step
steps = at 10 (dispose s) [] ∷ at 5 (make_hub h Auto) [] ∷ at 5 (open_node s root (sub h (Some c))) followers ∷ at 10 (next l (pos 8)) [] ∷ []

abbrev script : ℕ → Script
script events = record { steps = steps; events = events; until = 1000000000000000 }

-- its history ------------------------------------------------------------------------------------------------------------------------

abbrev subscribed : List Event
subscribed = hub_made ++ Open Root (Sub 0) ∷ Connect 0 ∷ []

abbrev leaf_made : List Event
leaf_made = subscribed ++ Open (Source 2) Leaf ∷ []

abbrev told : List Event
told = leaf_made ++ Item 3 (negsuc 0) ∷ []

abbrev disposed : List Event
disposed = told ++ Close 1 ∷ Close 2 ∷ []

to_subscriber : IsFirstStep nothing_kept hub_made (Open Root (Sub 0) ∷ []) subscribed
unfolding first_forced source_end child_terminal source_completed open_children is_fired owed projections moments stops climb most_visits most_nodes is_open
    is_shut ancestors parent
to_subscriber = ordered_to true (Opening Root (Sub 0)) subscribed (stands_after (Publishing Auto) to_hub) tt refl (first_next nothing_yet refl) refl

to_leaf : IsFirstStep nothing_kept subscribed (Open (Source 2) Leaf ∷ []) leaf_made
unfolding first_forced source_end child_terminal source_completed open_children is_fired owed projections moments stops climb most_visits most_nodes is_open
    is_shut ancestors parent
to_leaf = ordered_to true (Opening (Source 2) Leaf) leaf_made (stands_after (Opening Root (Sub 0)) to_subscriber) tt refl nothing_yet refl

to_item : IsFirstStep nothing_kept leaf_made (Item 3 (negsuc 0) ∷ []) told
unfolding first_forced source_end child_terminal source_completed open_children is_fired owed projections moments stops climb most_visits visits most_nodes
    is_open is_shut ancestors parent
to_item = ordered_to true (Emitting 3 (negsuc 0)) told (stands_after (Opening (Source 2) Leaf) to_leaf) tt refl nothing_yet refl

to_disposal : IsFirstStep nothing_kept told (Close 1 ∷ []) disposed
unfolding first_forced source_end child_terminal source_completed open_children is_fired owed projections moments stops climb most_visits most_nodes is_open
    is_shut ancestors parent
to_disposal = ordered_to true (Disposing 1) disposed (stands_after (Emitting 3 (negsuc 0)) to_item) tt refl (first_next nothing_yet refl) refl

-- its course -------------------------------------------------------------------------------------------------------------------------

abbrev last_stage : Stage
last_stage = record (start []) {
  history = disposed;
  nodes = record { name = s; number = 1 } ∷ record { name = c; number = 2 } ∷ record { name = l; number = 3 } ∷ [];
  hubs = record { name = h; number = 0 } ∷ [];
}

abbrev course : Course
course = record { answers = Accepted ∷ Accepted ∷ Accepted ∷ Accepted ∷ Accepted ∷ Refused (Book Gone) ∷ []; last = last_stage }

pub time_course : (events : ℕ) → IsCanonicalCourseOf (script events) [] course
unfolding bound is_open is_shut ancestors parent most_nodes most_hubs owed projections moments stops climb most_visits visits
time_course events =
    let none = first_of_all [] steps 1000000000000000 in
    let first = ordered_on none (make_hub h Auto) (Publishing Auto) refl refl refl refl to_hub in
    let second = ordered_on first (open_node s root (sub h (Some c))) (Opening Root (Sub 0)) refl refl refl refl to_subscriber in
    let third = ordered_on second (open_node l (source c) leaf) (Opening (Source 2) Leaf) refl refl refl refl to_leaf in
    let fourth = ordered_on third (next l (negsuc 0)) (Emitting 3 (negsuc 0)) refl refl refl refl to_item in
    let fifth = ordered_on fourth (dispose s) (Disposing 1) refl refl refl refl to_disposal in
    let last = refused_on fifth (next l (pos 8)) (Emitting 3 (pos 8)) Gone refl refl refl refl in
    course_in_order in_one_order (script events) [] course.answers last_stage (record { left = _; leads = last; over = refl })

pub time_report : report course 0
    ≡ codes "refused 5 Gone\nnode s closed: next=-1\ntotals nodes=3 open=0 accepted=0 held=0 waiting=0 taken=0\nclosed 0 faults 0\n"
unfolding report unclosed_report refused_line node_line note_in_line totals_line closed_line notes shown digits is_owned is_held is_waiting is_open is_shut
    ancestors parent stops climb most_visits moments projections owed
time_report = refl
