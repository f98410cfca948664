-- The steps so far are to come.
use Rattle.rx_agenda.proofs.Common.{◌≡◌, ◌+◌, map, sum_by, step_of, with_steps, agenda_of, steps_to_come, size_left}
use Rattle.rx_agenda.proofs.agenda.add_each.Given as goal

abbrev pub invariant-loop-step : goal.invariant-loop-step
invariant-loop-step l = record {
  added : agenda_of l.agenda ≡ with_steps (map step_of l.yielded) (agenda_of l.initial.agenda);
  size : size_left l.agenda ≡ size_left l.initial.agenda + sum_by steps_to_come l.yielded;
  clock : l.agenda.timeline.clock ≡ l.initial.agenda.timeline.clock;
}
