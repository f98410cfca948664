use Rattle.rx_script.proofs.OneMoreStep.{followed}
use Rattle.rx_script.proofs.course.take_step.Goals as goal
use Rattle.std.proofs.Common.{rules}

pub returns : goal.returns
returns g c = search (rules, followed)
