-- What is to come, seen as the definitions see it.
use Rattle.rx_agenda.proofs.Common.{◌≡◌, ◌+◌, ℕ, List, [], ◌∷◌, ◌++◌, true, false, map, option_map, string_bytes, String, Global, refl, ap, subst, ◌∙◌, arith}
use Rattle.rx_agenda.proofs.Common.{Some, None, is_some, sum_by, map-append, sum_by-cons, Work, Schedule, next_due, item_of, without, entry_seen}
use Rattle.rx_agenda.proofs.Common.{next_due-seen, without-seen, item_of-seen, Name, Step, step_of, Accepted, Refused, NoStep, Named, key_named, bound, Agenda}
use Rattle.rx_agenda.proofs.Common.{with_label, with_step, with_steps, next_step, without_ticket, Cancels, taken_off, none_waits, number_binding, agenda_of}
use Rattle.rx_agenda.proofs.Common.{steps_to_come}
use Rattle.std.specs.Prelude.{Result, OnOk, IfSome}
use Rattle.std.specs.List.Sorted.{IsPermutation}
use Rattle.std.proofs.lemmas.List.Sorted.{sum_by-IsPermutation}
use Rattle.rx_time.specs.Schedule.{scheduled_items}
use Rattle.rx_scenario.specs.declared.scenario.Step.{Step as StepInCode}
use Rattle.rx_agenda.specs.declared.agenda.Agenda.{Agenda as AgendaInCode}
use Rattle.rx_agenda.specs.Agenda.{first_of_turn}
use Rattle.rx_agenda.proofs.Laws.{bound-numbers}
use Rattle.std.proofs.Common.{rules}

pub OnOk-map : {T E A B : Type 0} (r : Result T E) → (A → B) → OnOk r A → OnOk r B
OnOk-map x0 f here = search rules

-- labels -------------------------------------------------------------------------------------------

pub with_label-bound : (names : List (Named ℕ)) (label : Name) (ticket : ℕ) → is_some (key_named names label) ≡ true
    → map number_binding names ≡ with_label (Some label) ticket (map number_binding names)
with_label-bound names label ticket there = rw (bound-numbers names label, there) refl

pub with_label-free : (names new : List (Named ℕ)) (label : String Global) (ticket : ℕ) → is_some (key_named names (string_bytes label)) ≡ false
    → new ≡ names ++ record { name = label; key = ticket } ∷ []
    → map number_binding new ≡ with_label (Some (string_bytes label)) ticket (map number_binding names)
with_label-free names new label ticket free pushed = rw (bound-numbers names (string_bytes label), free, pushed) (map-append number_binding names _)

-- steps that are to come ---------------------------------------------------------------------------

pub with_steps-push : (ss : List Step) (s : Step) (a : Agenda) → with_steps (ss ++ s ∷ []) a ≡ with_step s (with_steps ss a)
with_steps-push [] s a = refl
with_steps-push (x ∷ xs) s a = with_steps-push xs s (with_step x a)

-- the step that comes next -------------------------------------------------------------------------

-- what a timeline gives of an entry
abbrev pub given_of : ℕ × Work StepInCode → ℕ × StepInCode
given_of e = (e.1.due, e.1.item)

module _ (a : AgendaInCode) (until : ℕ) (turn : List StepInCode) (timeline : Schedule StepInCode) (over : a.turn ≡ []) (still : turn ≡ []) where
  -- the timeline where an entry was taken out
  abbrev TakesOut : ℕ × Work StepInCode → Type 0
  TakesOut e = timeline ≡ record { clock = e.1.due; tickets = a.timeline.tickets; work = without e.0 a.timeline.work }

  next_step-over : next_step until (agenda_of a) ≡ option_map (first_of_turn (agenda_of a)) (option_map (entry_seen step_of) (next_due until a.timeline.work))
  next_step-over = rw (over, next_due-seen step_of until a.timeline.work) refl

  pub next_step-some : (due : ℕ) (step : StepInCode) → option_map given_of (next_due until a.timeline.work) ≡ Some (due, step)
      → IfSome (next_due until a.timeline.work) TakesOut
      → next_step until (agenda_of a) ≡ Some (step_of step, agenda_of (record { timeline = timeline; turn = turn; labels = a.labels }))
  next_step-some due step came taken = search (rules, next_step-over, next_due, option_map, entry_seen, without-seen)

  pub next_step-none : option_map given_of (next_due until a.timeline.work) ≡ None → next_step until (agenda_of a) ≡ None
  next_step-none came = search (rules, next_step-over, next_due, option_map, entry_seen)

pub size_left-taken : (old new : Schedule StepInCode) (step : StepInCode) → IsPermutation (scheduled_items old.work) (step ∷ scheduled_items new.work)
    → sum_by steps_to_come (scheduled_items new.work) + steps_to_come step ≡ sum_by steps_to_come (scheduled_items old.work)
size_left-taken old new step same =
    let sums : sum_by steps_to_come (step ∷ scheduled_items new.work) ≡ sum_by steps_to_come (scheduled_items old.work) =
    sum_by-IsPermutation steps_to_come (scheduled_items old.work) (step ∷ scheduled_items new.work) same in
    let parts : sum_by steps_to_come (step ∷ scheduled_items new.work) ≡ steps_to_come step + sum_by steps_to_come (scheduled_items new.work) =
    sum_by-cons steps_to_come step (scheduled_items new.work) in
    omega arith

-- a step that is cancelled -------------------------------------------------------------------------

module _ (a : AgendaInCode) (label : Name) where
  pub cancel-unbound : key_named a.labels label ≡ None → Cancels (agenda_of a) label (Refused NoStep) (agenda_of a)
  cancel-unbound free = none_waits (rw (bound-numbers a.labels label, free) refl)

  pub cancel-gone : (ticket : ℕ) (timeline : Schedule StepInCode) → key_named a.labels label ≡ Some ticket → item_of ticket a.timeline.work ≡ None
      → timeline ≡ a.timeline → Cancels (agenda_of a) label (Refused NoStep) (agenda_of (record { timeline = timeline; turn = a.turn; labels = a.labels }))
  cancel-gone ticket timeline known gone same =
      search (rules, none_waits, bound-numbers, item_of-seen)

  pub cancel-taken : (ticket : ℕ) (step : StepInCode) (timeline : Schedule StepInCode) → key_named a.labels label ≡ Some ticket
      → item_of ticket a.timeline.work ≡ Some step
      → timeline ≡ record { clock = a.timeline.clock; tickets = a.timeline.tickets; work = without ticket a.timeline.work }
      → Cancels (agenda_of a) label Accepted (agenda_of (record { timeline = timeline; turn = a.turn; labels = a.labels }))
  cancel-taken ticket step timeline known waits taken =
      let there : bound (map number_binding a.labels) label ≡ Some ticket = bound-numbers a.labels label ∙ known in
      let found : item_of ticket (map (entry_seen step_of) a.timeline.work) ≡ Some (step_of step) = item_of-seen step_of ticket a.timeline.work
      ∙ ap (option_map step_of) waits in
      let left : without_ticket ticket (agenda_of a) ≡ agenda_of (record { timeline = timeline; turn = a.turn; labels = a.labels }) =
      rw (taken, without-seen step_of ticket a.timeline.work) refl in
      subst (Cancels (agenda_of a) label Accepted) left (taken_off there found)
