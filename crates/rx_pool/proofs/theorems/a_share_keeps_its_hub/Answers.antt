use Rattle.rx_pool.proofs.Laws.Choices.{keeps_its_hub}
use Rattle.rx_pool.proofs.theorems.a_share_keeps_its_hub.Goals as goal

pub returns : goal.returns
returns c = keeps_its_hub
