-- The steps that are to come: those that wait in virtual time, and those of the turn that has begun.
use Rattle.std.specs.Prelude.{◌≡◌, ℕ, ◌+◌, List, [], ◌∷◌, ◌++◌, Option, Some, None, option_map, option_and_then, if◌then◌else◌}
use Rattle.rx_time.specs.declared.work.Work.{Work}
use Rattle.rx_time.specs.Schedule.{Schedule, schedule, with_work, next_due, item_of, without}
use Rattle.rx_scenario.specs.Scenario.{Name, Step}
use Rattle.rx_agenda.specs.declared.answer.Answer.{Answer}
use Rattle.rx_agenda.specs.declared.answer.Answer.TheVariants.{Accepted, Refused}
use Rattle.rx_agenda.specs.declared.answer.Cause.TheVariants.{NoStep}
use Rattle.rx_agenda.specs.Bindings.{Binding, bound, is_bound, with_binding}

-- the steps that wait, the next ones of this turn, and the ticket that each label stands for
pub record Agenda : Type 0 where
  pub timeline : Schedule Step
  pub turn : List Step
  pub labels : List Binding

-- at time 0 with nothing to come
abbrev pub empty_agenda : Agenda
empty_agenda = record { timeline = schedule 0 0 []; turn = []; labels = [] }

-- a label stands for the ticket of the first step that waits under it; in a scenario no other step has it
abbrev pub with_label : Option Name → ℕ → List Binding → List Binding
with_label None ticket labels = labels
with_label (Some label) ticket labels = if is_bound labels label then labels else with_binding labels label ticket

-- a step that has a delay waits so long from now; one that has none comes last in this turn
abbrev pub with_step_after : Option ℕ → Step → Agenda → Agenda
with_step_after None s a = record { timeline = a.timeline; turn = a.turn ++ s ∷ []; labels = a.labels }
with_step_after (Some delay) s a =
    record { timeline = with_work (a.timeline.clock + delay) s a.timeline; turn = a.turn; labels = with_label s.label a.timeline.tickets a.labels }

abbrev pub with_step : Step → Agenda → Agenda
with_step s a = with_step_after s.delay s a

-- one after the other
abbrev pub with_steps : List Step → Agenda → Agenda
with_steps [] a = a
with_steps (s ∷ ss) a = with_steps ss (with_step s a)

-- the steps that follow an accepted step join; those that would follow a refused one are dropped
abbrev pub followed_by : Answer → List Step → Agenda → Agenda
followed_by Accepted ss a = with_steps ss a
followed_by (Refused why) ss a = a

-- a waiting step begins a new turn: its time is now
abbrev pub first_of_turn : Agenda → ℕ × Work Step → Step × Agenda
first_of_turn a e =
    let rest : Schedule Step = schedule e.1.due a.timeline.tickets (without e.0 a.timeline.work) in
    (e.1.item, record { timeline = rest; turn = []; labels = a.labels })

abbrev pub next_of_turn : ℕ → Agenda → List Step → Option (Step × Agenda)
next_of_turn until a (s ∷ turn) = Some (s, record { timeline = a.timeline; turn = turn; labels = a.labels })
next_of_turn until a [] = option_map (first_of_turn a) (next_due until a.timeline.work)

-- the step that comes next, and what is to come after it: the next one of this turn, and where the turn is over, of the steps that are
-- due before time ends the one that is due first, and of several the one that was scheduled first
abbrev pub next_step : ℕ → Agenda → Option (Step × Agenda)
next_step until a = next_of_turn until a a.turn

-- the waiting step that has the label
abbrev pub waiting_step : Agenda → Name → Option Step
waiting_step a label = option_and_then (λ ticket. item_of ticket a.timeline.work) (bound a.labels label)

abbrev pub without_ticket : ℕ → Agenda → Agenda
without_ticket ticket a =
    record { timeline = schedule a.timeline.clock a.timeline.tickets (without ticket a.timeline.work); turn = a.turn; labels = a.labels }

-- it is taken off the timeline by its label, with all that would follow it
pub data Cancels (a : Agenda) (label : Name) : Answer → Agenda → Type 0 where
  taken_off : {ticket : ℕ} {s : Step} → bound a.labels label ≡ Some ticket → item_of ticket a.timeline.work ≡ Some s
      → Cancels a label Accepted (without_ticket ticket a)
  none_waits : waiting_step a label ≡ None → Cancels a label (Refused NoStep) a
