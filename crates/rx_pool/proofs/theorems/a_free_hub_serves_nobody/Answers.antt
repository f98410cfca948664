use Rattle.rx_pool.proofs.Laws.CountsAfterStep.{free_serves_nobody}
use Rattle.rx_pool.proofs.theorems.a_free_hub_serves_nobody.Goals as goal

pub returns : goal.returns
returns c = free_serves_nobody
