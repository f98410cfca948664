use Rattle.rx_engine.proofs.SpreadOut.{settles_of}
use Rattle.rx_engine.proofs.settling.settle.Goals as goal

pub returns-clause-settles : goal.returns-clause-settles
returns-clause-settles c = settles_of c.gather.ensures.gathers c.spread.ensures.spreads
