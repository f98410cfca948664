use Rattle.rx_live.proofs.Acts.{session_kept}
use Rattle.rx_live.proofs.theorems.names_are_released_once.Goals as goal

pub returns : goal.returns
returns c = session_kept
