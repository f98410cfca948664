-- The courses that a scenario may take: its executed steps with their answers, in their order, and what they make of a history.
use Rattle.std.specs.Prelude.{◌≡◌, ℕ, ◌+◌, ◌≤◌, Bool, true, false, Option, Some, None, List, [], ◌∷◌, ◌++◌, map, slice_get}
use Rattle.std.specs.List.{list_any}
use Rattle.rx_event.specs.Kept.{nothing_kept}
use Rattle.rx_event.specs.declared.event.Event.{Event}
use Rattle.rx_event.specs.declared.refusal.Refusal.{Refusal}
use Rattle.rx_event.specs.declared.refusal.Refusal.TheVariants.{Full}
use Rattle.rx_event.specs.Resources.{waiting_resources}
use Rattle.rx_event.specs.Calls.{Call, Taking, outside_of, IsStepOf}
use Rattle.rx_event.specs.Canonical.{IsFirstStep}
use Rattle.rx_event.specs.Refusals.{first_cause}
use Rattle.rx_event.specs.Causes.{causes, unlimited}
use Rattle.rx_book.specs.Drains.{Drains}
use Rattle.rx_agenda.specs.declared.answer.Answer.{Answer}
use Rattle.rx_agenda.specs.declared.answer.Answer.TheVariants.{Accepted, Refused}
use Rattle.rx_agenda.specs.declared.answer.Cause.{Cause}
use Rattle.rx_agenda.specs.declared.answer.Cause.TheVariants.{Book}
use Rattle.rx_scenario.specs.Scenario.{Name, Command, drain, checkpoint, Action, command, cancel, Step, Script}
use Rattle.rx_script.specs.Stage.{Ware, Stage, start, own_cause, call_of, front_is_fresh, after}
use Rattle.rx_agenda.specs.Order.{Executed, IsInOrder, AreCancelsAnswered, done_in}

-- how a course is taken: with so many events at most from one checkpoint to the next, and what is forced or drained in any order; or
-- with no limit, and all of it in the one order
pub data Manner : Type 0 where
  limited : ℕ → Manner
  in_one_order : Manner

-- the first cause of a book's with so many events at most since the last checkpoint that stands against a step's call
abbrev pub book_cause : ℕ → Stage → Call → Option Refusal
book_cause limit s call = first_cause (causes nothing_kept s.history (s.checked + limit) (front_is_fresh s) call)

-- the first that stands; with no limit no history is full, whatever the number that the causes are given
abbrev pub cause_in : Manner → Stage → Call → Option Refusal
cause_in (limited limit) s call = book_cause limit s call
cause_in in_one_order s call = first_cause (unlimited (causes nothing_kept s.history 0 (front_is_fresh s) call))

-- the call takes h to k
abbrev pub StepsIn : Manner → List Event → Call → List Event → Type 0
StepsIn (limited limit) h call k = IsStepOf nothing_kept h call k
StepsIn in_one_order h call k = IsFirstStep nothing_kept h (outside_of h call) k

-- from h the waiting resource of the least number is taken, as long as one waits
pub data DrainsInOrder : List Event → List Event → Type 0 where
  nothing_left : {h : List Event} → waiting_resources h ≡ [] → DrainsInOrder h h
  least_taken : {h m k : List Event} {r : ℕ} → slice_get (waiting_resources h) 0 ≡ Some r → StepsIn in_one_order h (Taking r) m
      → DrainsInOrder m k → DrainsInOrder h k

-- all that waits is taken, from h to k
abbrev pub DrainsIn : Manner → List Event → List Event → Type 0
DrainsIn (limited limit) h k = Drains nothing_kept h k
DrainsIn in_one_order h k = DrainsInOrder h k

-- a step, its answer, and what follows
pub data Executes (m : Manner) (s : Stage) : Command → Answer → Stage → Type 0 where
  refused : {step : Command} {why : Cause} → own_cause s step ≡ Some why → Executes m s step (Refused why) s
  refused_by_book : {step : Command} {call : Call} {why : Refusal}
      → own_cause s step ≡ None → call_of s step ≡ Some call → cause_in m s call ≡ Some why → Executes m s step (Refused (Book why)) s
  accepted : {step : Command} {call : Call} (k : List Event)
      → own_cause s step ≡ None → call_of s step ≡ Some call → cause_in m s call ≡ None → StepsIn m s.history call k
      → Executes m s step Accepted (after s step k)
  drained : {k : List Event} → DrainsIn m s.history k → Executes m s drain Accepted (after s drain k)
  -- nothing happens, and the limit counts from here
  checkpointed : Executes m s checkpoint Accepted (after s checkpoint s.history)

-- what a step does to the stage: a command what it does, and a cancel nothing
pub data Does (m : Manner) (s : Stage) : Action → Answer → Stage → Type 0 where
  does : {c : Command} {answer : Answer} {t : Stage} → Executes m s c answer t → Does m s (command c) answer t
  leaves : {label : Name} {answer : Answer} → Does m s (cancel label) answer s

-- these steps with these answers lead from one stage to another
pub data Plays (m : Manner) (first : Stage) : List (Step × Answer) → Stage → Type 0 where
  none_played : Plays m first [] first
  one_played : {done : List (Step × Answer)} (s : Step) {answer : Answer} {p q : Stage}
      → Plays m first done p → Does m p s.action answer q → Plays m first (done ++ (s, answer) ∷ []) q

-- the answers of the executed steps, in order, and where the scenario is at its end
pub record Course : Type 0 where
  pub answers : List Answer
  pub last : Stage

-- the step was refused because the history was full
abbrev pub is_full : Answer → Bool
is_full (Refused (Book Full)) = true
is_full _ = false

-- no step was
abbrev pub HasNoFull : List Answer → Type 0
HasNoFull answers = list_any is_full answers ≡ false

-- a course of this scenario with this stock, taken in this manner: its executed steps stand in the order of the comparison and are just
-- those that are due, cancels are answered by what waits, and commands by what they do
pub record IsCourseIn (m : Manner) (script : Script) (stock : List Ware) (c : Course) : Type 0 where
  pub executed : List Executed
  pub answers : map (λ (e : Executed). e.answer) executed ≡ c.answers
  pub in_order : IsInOrder script.steps script.until executed
  pub answered : AreCancelsAnswered script.steps executed
  pub plays : Plays m (start stock) (map done_in executed) c.last

-- one with at most so many events as the scenario allows
abbrev pub IsCourseOf : Script → List Ware → Course → Type 0
IsCourseOf script stock c = IsCourseIn (limited script.events) script stock c

-- the one that has no limit of events and takes all in the one order
abbrev pub IsCanonicalCourseOf : Script → List Ware → Course → Type 0
IsCanonicalCourseOf script stock c = IsCourseIn in_one_order script stock c

-- there is just one such course
pub record HasOneCourse (script : Script) (stock : List Ware) : Type 0 where
  pub course : Course
  pub canonical : IsCanonicalCourseOf script stock course
  pub only : (other : Course) → IsCanonicalCourseOf script stock other → other ≡ course

-- whatever the scenario and the stock
abbrev pub EachHasOneCourse : Type 0
EachHasOneCourse = (script : Script) (stock : List Ware) → HasOneCourse script stock

-- and it is a course of the scenario wherever the limit leaves it room
abbrev pub CanonicalCoursesArePossible : Type 0
CanonicalCoursesArePossible =
    (script : Script) (stock : List Ware) (c : Course) → IsCanonicalCourseOf script stock c
    → (least : ℕ) × ((events : ℕ) → least ≤ events → IsCourseOf (record script { events = events }) stock c)
