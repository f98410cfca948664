use Rattle.rx_live.proofs.ReleasedToTheEnd.{kept_to_the_end}
use Rattle.rx_live.proofs.theorems.names_are_released_to_the_end.Goals as goal

pub returns : goal.returns
returns c = kept_to_the_end
