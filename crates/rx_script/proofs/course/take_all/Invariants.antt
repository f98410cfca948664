-- The steps so far lead here.
use Rattle.rx_script.proofs.Common.{◌≡◌, ◌≤◌, IsSound, size_left}
use Rattle.rx_script.proofs.OneMoreStep.{HasLed}
use Rattle.rx_script.proofs.course.take_all.Given as goal

abbrev pub invariant-loop-step : goal.invariant-loop-step
invariant-loop-step g l = record {
  leads : HasLed l.initial.engine.book.limit l.until l.initial.engine l.initial.agenda l.answers.items l.engine l.agenda;
  sound : IsSound l.engine;
  limit : l.engine.book.limit ≡ l.initial.engine.book.limit;
  clock : l.agenda.timeline.clock ≤ l.until;
}

abbrev pub decreases-loop-step : goal.decreases-loop-step
decreases-loop-step g l = size_left l.agenda
