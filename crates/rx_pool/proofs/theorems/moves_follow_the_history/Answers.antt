use Rattle.rx_pool.proofs.Laws.MovesOfStep.{moves_follow}
use Rattle.rx_pool.proofs.theorems.moves_follow_the_history.Goals as goal

pub returns : goal.returns
returns c = moves_follow
