use Rattle.rx_pool.proofs.Laws.CountsAfterStep.{stays_the_pool}
use Rattle.rx_pool.proofs.theorems.it_stays_the_pool_of_the_history.Goals as goal

pub returns : goal.returns
returns c = stays_the_pool
