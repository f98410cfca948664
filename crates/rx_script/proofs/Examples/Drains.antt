-- The definitions at a worked example: a scenario that drains two resources, which may be taken in two orders. Its dumps may differ,
-- and a report of that order would. Nothing cites `no_order_is_shown`, which says so.
use Rattle.rx_script.proofs.Common.{◌≡◌, ℕ, ◌≤◌, true, List, [], ◌∷◌, ◌++◌, slice_get, get_or, refl, ap, arith, flat_map, option_and_then, nothing_kept, Root}
use Rattle.rx_script.proofs.Common.{Pass, Event, Open, Accept, Close, Take, parent, ancestors, is_shut, is_open, is_owned, leases_of, is_held, is_taken}
use Rattle.rx_script.proofs.Common.{is_waiting, most_visits, climb, stops, projections, owed, is_fired, moments, most_nodes, child_terminal, source_completed}
use Rattle.rx_script.proofs.Common.{open_children, OpeningUsing, Disposing, Taking, IsStepOf, source_end, first_forced, IsLawful_nothing, settled_empty, Drains}
use Rattle.rx_script.proofs.Common.{none_taken, next_taken, accepted_tag, Accepted, bound, Name, root, using, dispose, drain, Step, Script, Ware, Stage}
use Rattle.rx_script.proofs.Common.{limited, drained, HasNoFull, Course, IsCourseOf, begin, executes, not_begun, advanced, start}
use Rattle.std.specs.Option.{option_to_list}
use Rattle.rx_script.proofs.CoursesInOrder.{course_in_order}
use Rattle.rx_script.proofs.Examples.StepsThatForceNothing.{doing, turn_of, plain_step, Led, led_on}

-- a scenario -------------------------------------------------------------------------------------------------------------------------

abbrev a : Name
a = 97 ∷ []

abbrev b : Name
b = 98 ∷ []

abbrev steps : List Step
steps = doing (using a root a) ∷ doing (using b root b) ∷ doing (dispose a) ∷ doing (dispose b) ∷ doing drain ∷ []

abbrev script : ℕ → Script
script events = record { steps = steps; events = events; until = 0 }

abbrev stock : List Ware
stock = record { tag = 5; is_fresh = true } ∷ record { tag = 6; is_fresh = true } ∷ []

-- its histories ----------------------------------------------------------------------------------------------------------------------

abbrev one : List Event
one = Open Root Pass ∷ Accept 0 5 ∷ []

abbrev two : List Event
two = one ++ Open Root Pass ∷ Accept 2 6 ∷ []

abbrev three : List Event
three = two ++ Close 0 ∷ []

abbrev four : List Event
four = three ++ Close 2 ∷ []

to_one : IsStepOf nothing_kept [] (OpeningUsing Root 5) one
unfolding first_forced source_end child_terminal source_completed open_children is_fired owed projections moments stops climb most_visits most_nodes is_open
    is_shut ancestors parent
to_one = plain_step [] true (OpeningUsing Root 5) IsLawful_nothing (settled_empty nothing_kept) tt refl refl

to_two : IsStepOf nothing_kept one (OpeningUsing Root 6) two
unfolding first_forced source_end child_terminal source_completed open_children is_fired owed projections moments stops climb most_visits most_nodes is_open
    is_shut ancestors parent
to_two = plain_step one true (OpeningUsing Root 6) to_one.lawful to_one.settled tt refl refl

to_three : IsStepOf nothing_kept two (Disposing 0) three
unfolding first_forced source_end child_terminal source_completed open_children is_fired owed projections moments stops climb most_visits is_open is_shut
    ancestors parent
to_three = plain_step two true (Disposing 0) to_two.lawful to_two.settled tt refl refl

to_four : IsStepOf nothing_kept three (Disposing 2) four
unfolding first_forced source_end child_terminal source_completed open_children is_fired owed projections moments stops climb most_visits is_open is_shut
    ancestors parent
to_four = plain_step three true (Disposing 2) to_three.lawful to_three.settled tt refl refl

-- by rising number, and by falling
rising : Drains nothing_kept four (four ++ Take 1 ∷ Take 3 ∷ [])
unfolding first_forced source_end child_terminal source_completed open_children is_fired owed projections moments stops climb most_visits is_owned leases_of
    is_held is_taken is_waiting is_open is_shut ancestors parent
rising =
    let first : IsStepOf nothing_kept four (Taking 1) (four ++ Take 1 ∷ []) = plain_step four true (Taking 1) to_four.lawful to_four.settled refl refl refl in
    let second : IsStepOf nothing_kept (four ++ Take 1 ∷ []) (Taking 3) (four ++ Take 1 ∷ Take 3 ∷ []) = plain_step (four ++ Take 1 ∷ []) true
    (Taking 3) first.lawful first.settled refl refl refl in
    record { takes = next_taken (next_taken none_taken first) second; none_waits = refl }

falling : Drains nothing_kept four (four ++ Take 3 ∷ Take 1 ∷ [])
unfolding first_forced source_end child_terminal source_completed open_children is_fired owed projections moments stops climb most_visits is_owned leases_of
    is_held is_taken is_waiting is_open is_shut ancestors parent
falling =
    let first : IsStepOf nothing_kept four (Taking 3) (four ++ Take 3 ∷ []) = plain_step four true (Taking 3) to_four.lawful to_four.settled refl refl refl in
    let second : IsStepOf nothing_kept (four ++ Take 3 ∷ []) (Taking 1) (four ++ Take 3 ∷ Take 1 ∷ []) = plain_step (four ++ Take 3 ∷ []) true
    (Taking 1) first.lawful first.settled refl refl refl in
    record { takes = next_taken (next_taken none_taken first) second; none_waits = refl }

-- its courses ------------------------------------------------------------------------------------------------------------------------

abbrev at_four : Stage
at_four = record (start []) {
  history = four;
  nodes = record { name = a; number = 0 } ∷ record { name = b; number = 2 } ∷ [];
  resources = record { name = a; number = 1 } ∷ record { name = b; number = 3 } ∷ [];
}

pub led_to_four : Led stock steps (Accepted ∷ Accepted ∷ Accepted ∷ Accepted ∷ []) (record { stage = at_four; agenda = turn_of (doing drain ∷ []) })
unfolding bound is_open is_shut ancestors parent most_nodes
led_to_four =
    let begun : Led stock steps [] (begin stock steps) = record { least = 0; leads = λ limit room. not_begun } in
    let first = led_on (using a root a) (turn_of (doing (using b root b) ∷ doing (dispose a) ∷ doing (dispose b) ∷ doing drain ∷ []))
    refl refl refl refl to_one begun in
    let second = led_on (using b root b) (turn_of (doing (dispose a) ∷ doing (dispose b) ∷ doing drain ∷ [])) refl refl refl refl to_two first in
    let third = led_on (dispose a) (turn_of (doing (dispose b) ∷ doing drain ∷ [])) refl refl refl refl to_three second in
    led_on (dispose b) (turn_of (doing drain ∷ [])) refl refl refl refl to_four third

abbrev course : List Event → Course
course k = record { answers = Accepted ∷ Accepted ∷ Accepted ∷ Accepted ∷ Accepted ∷ []; last = record at_four { history = k } }

-- a drain in whatever order ends a course
is_course : (k : List Event) → Drains nothing_kept four k → (limit : ℕ) → led_to_four.least ≤ limit → IsCourseOf (script limit) stock (course k)
is_course k drains limit room = course_in_order (limited limit) (script limit) stock (course k).answers (course k).last (record {
  left = turn_of [];
  leads = advanced (led_to_four.leads limit room) (record {
    step = doing drain;
    rest = turn_of [];
    comes = refl;
    done = record { stage = record at_four { history = k }; agenda = turn_of [] };
    performs = executes (drained drains);
    stage = refl;
    follows = refl;
  });
  over = refl;
})

-- So the scenario has these two
pub two_courses : IsCourseOf (script led_to_four.least) stock (course (four ++ Take 1 ∷ Take 3 ∷ []))
    × IsCourseOf (script led_to_four.least) stock (course (four ++ Take 3 ∷ Take 1 ∷ []))
two_courses = (is_course _ rising led_to_four.least (omega arith), is_course _ falling led_to_four.least (omega arith))

-- their histories, and so their dumps, are not the same, nor are the tags of what was taken in the order of the takings
abbrev taken_tags : List Event → Event → List ℕ
taken_tags h (Take q) = option_to_list (option_and_then accepted_tag (slice_get h q))
taken_tags h _ = []

abbrev tags_in_order : Course → List ℕ
tags_in_order c = flat_map (taken_tags c.last.history) c.last.history

orders_differ : (tags_in_order (course (four ++ Take 1 ∷ Take 3 ∷ [])) ≡ 5 ∷ 6 ∷ []) × (tags_in_order (course (four ++ Take 3 ∷ Take 1 ∷ [])) ≡ 6 ∷ 5 ∷ [])
orders_differ = (refl, refl)

-- so nothing that shows that order is the same for all courses of a scenario
pub no_order_is_shown : ((script : Script) (wares : List Ware) (c d : Course) → IsCourseOf script wares c → HasNoFull c.answers → IsCourseOf script wares d
    → HasNoFull d.answers → tags_in_order c ≡ tags_in_order d) → ⊥
no_order_is_shown same =
    let one : ◌≡◌ {A = List ℕ} (5 ∷ 6 ∷ []) (6 ∷ 5 ∷ []) = same (script led_to_four.least) stock _ _ two_courses.0 refl two_courses.1 refl in
    let heads : ◌≡◌ {A = ℕ} 5 6 = ap (λ (l : List ℕ). get_or l 0 0) one in absurd (omega arith)
