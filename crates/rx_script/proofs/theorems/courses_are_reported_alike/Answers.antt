use Rattle.rx_script.proofs.WholeReport.{reported_alike}
use Rattle.rx_script.proofs.theorems.courses_are_reported_alike.Goals as goal

pub returns : goal.returns
returns c = reported_alike
