use Rattle.rx_script.proofs.Common.{Err, ap}
use Rattle.rx_script.proofs.RunsFound.{run_of_input}
use Rattle.rx_script.proofs.running.run_strictly.Goals as goal

pub returns-in-Ok-clause-ok : goal.returns-in-Ok-clause-ok
returns-in-Ok-clause-ok g c = run_of_input c.in_ok-value.ensures.ok (rw c.new.ensures at c.in-Ok.ensures.ok)

pub returns-in-Err-Shape-clause-shape : goal.returns-in-Err-Shape-clause-shape
returns-in-Err-Shape-clause-shape g c = λ is. record {
  value = _;
  json = c.in_ok-value.ensures.ok;
  none = rw c.new.ensures at (c.in-Err-Shape.ensures.shape (ap Err c.in-Err-Shape.field-0-is));
}
