use Rattle.rx_event.proofs.Laws.ReadDue.{forced_read, settled_read}
use Rattle.rx_event.proofs.Laws.ReadWhole.{same_start, same_event_on, courses_same}
use Rattle.rx_event.proofs.Laws.ReadAllowed.{allowed_read}
use Rattle.rx_event.proofs.Laws.ReadSteps.{steps_same}
use Rattle.rx_event.proofs.theorems.determined.numbers_do_not_matter.Goals as goal

pub returns : goal.returns
returns c = λ base. record {
  start = same_start base;
  forced = λ a f. forced_read a.numbers f;
  settled = λ a settled. settled_read a.numbers settled;
  allowed = λ a settled also allow. allowed_read base _ _ _ _ a allow;
  event = λ a next other. same_event_on base a _ next other;
  courses = courses_same;
  steps = steps_same;
}
