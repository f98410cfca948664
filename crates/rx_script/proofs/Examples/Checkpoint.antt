-- The definitions at a worked example: a scenario of six events at most, of which the second word for a resource is refused, since the
-- history is full, and is taken behind a checkpoint. Nothing cites `full_before`, which shows it.
use Rattle.rx_script.proofs.Common.{◌≡◌, ℕ, true, List, [], ◌∷◌, ◌++◌, Some, refl, nothing_kept, Root, Pass, Event, Open, Accept, Use, Full, parent, ancestors}
use Rattle.rx_script.proofs.Common.{is_shut, is_open, is_owned, is_out, leases_of, is_held, is_taken, is_waiting, most_visits, climb, stops, projections, owed}
use Rattle.rx_script.proofs.Common.{is_fired, moments, most_nodes, child_terminal, source_completed, open_children, debt, OpeningUsing, Applying, IsStepOf}
use Rattle.rx_script.proofs.Common.{source_end, first_forced, IsLawful_nothing, settled_empty, Answer, Accepted, Refused, Book, Agenda, followed_by, next_step}
use Rattle.rx_script.proofs.Common.{bound, Name, root, Command, using, apply, checkpoint, Step, Script, Ware, Stage, limited, Executes, refused_by_book}
use Rattle.rx_script.proofs.Common.{accepted, checkpointed, Course, IsCourseOf, Progress, begin, executes, LeadsBySteps, not_begun, advanced, start}
use Rattle.rx_script.proofs.CoursesInOrder.{course_in_order}
use Rattle.rx_script.proofs.Examples.StepsThatForceNothing.{doing, turn_of, plain_step}

-- a scenario -------------------------------------------------------------------------------------------------------------------------

abbrev a : Name
a = 97 ∷ []

abbrev steps : List Step
steps = doing (using a root a) ∷ doing (apply a 7) ∷ doing (apply a 8) ∷ doing checkpoint ∷ doing (apply a 9) ∷ []

abbrev script : Script
script = record { steps = steps; events = 6; until = 0 }

abbrev stock : List Ware
stock = record { tag = 5; is_fresh = true } ∷ []

-- its history ------------------------------------------------------------------------------------------------------------------------

abbrev one : List Event
one = Open Root Pass ∷ Accept 0 5 ∷ []

abbrev two : List Event
two = one ++ Use 1 ∷ []

abbrev three : List Event
three = two ++ Use 1 ∷ []

to_one : IsStepOf nothing_kept [] (OpeningUsing Root 5) one
unfolding first_forced source_end child_terminal source_completed open_children is_fired owed projections moments stops climb most_visits most_nodes is_open
    is_shut ancestors parent
to_one = plain_step [] true (OpeningUsing Root 5) IsLawful_nothing (settled_empty nothing_kept) tt refl refl

to_two : IsStepOf nothing_kept one (Applying 1) two
unfolding first_forced source_end child_terminal source_completed open_children is_fired owed projections moments stops climb most_visits is_owned leases_of
    is_held is_taken is_waiting is_open is_shut ancestors parent
to_two = plain_step one true (Applying 1) to_one.lawful to_one.settled tt refl refl

to_three : IsStepOf nothing_kept two (Applying 1) three
unfolding first_forced source_end child_terminal source_completed open_children is_fired owed projections moments stops climb most_visits is_owned leases_of
    is_held is_taken is_waiting is_open is_shut ancestors parent
to_three = plain_step two true (Applying 1) to_two.lawful to_two.settled tt refl refl

-- its course -------------------------------------------------------------------------------------------------------------------------

-- where so many events came before the last checkpoint
abbrev at : List Event → ℕ → Stage
at h checked = record (start []) {
  history = h;
  checked = checked;
  nodes = record { name = a; number = 0 } ∷ [];
  resources = record { name = a; number = 1 } ∷ [];
}

abbrev Led : List Answer → Progress → Type 0
Led answers p = LeadsBySteps (limited 6) 0 (begin stock steps) answers p

-- one more step, which none follows
led_on : {answers : List Answer} {p : Progress} (c : Command) (rest : Agenda) (answer : Answer) (last : Stage) → next_step 0 p.agenda ≡ Some (doing c, rest)
    → rest ≡ followed_by answer [] rest → Executes (limited 6) p.stage c answer last → Led answers p
    → Led (answers ++ answer ∷ []) (record { stage = last; agenda = rest })
led_on c rest answer last comes follows done before = advanced before (record {
  step = doing c;
  rest = rest;
  comes = comes;
  done = record { stage = last; agenda = rest };
  performs = executes done;
  stage = refl;
  follows = follows;
})

abbrev course : Course
course = record { answers = Accepted ∷ Accepted ∷ Refused (Book Full) ∷ Accepted ∷ Accepted ∷ []; last = at three 3 }

-- So the same call is refused before the checkpoint and accepted behind it
pub full_before : IsCourseOf script stock course
unfolding bound debt is_out owed projections moments stops climb most_visits most_nodes is_owned leases_of is_held is_taken is_waiting is_open is_shut ancestors
    parent
full_before =
    let first = led_on (using a root a) (turn_of (doing (apply a 7) ∷ doing (apply a 8) ∷ doing checkpoint ∷ doing (apply a 9) ∷ []))
    Accepted (at one 0) refl refl (accepted one refl refl refl to_one) not_begun in
    let second = led_on (apply a 7) (turn_of (doing (apply a 8) ∷ doing checkpoint ∷ doing (apply a 9) ∷ []))
    Accepted (at two 0) refl refl (accepted two refl refl refl to_two) first in
    let third = led_on (apply a 8) (turn_of (doing checkpoint ∷ doing (apply a 9) ∷ []))
    (Refused (Book Full)) (at two 0) refl refl (refused_by_book refl refl refl) second in
    let fourth = led_on checkpoint (turn_of (doing (apply a 9) ∷ [])) Accepted (at two 3) refl refl checkpointed third in
    let fifth = led_on (apply a 9) (turn_of []) Accepted (at three 3) refl refl (accepted three refl refl refl to_three) fourth in
    course_in_order (limited 6) script stock course.answers course.last (record { left = turn_of []; leads = fifth; over = refl })
