use Rattle.rx_script.proofs.Common.{◌≤◌, ◌+◌, arith}
use Rattle.rx_script.proofs.EngineCarriesOut.{drained_to}
use Rattle.rx_script.proofs.engine.drain.Goals as goal

pub returns : goal.returns
returns g c = let few = c.release_waiting-closed.ensures.faults in let sum = c.saturating_add-engine.ensures in let faults :
    c.saturating_add-engine.result ≤ c.args.engine.now.faults + c.release_waiting-closed.result.released = omega arith in drained_to _ _ _ c.requires
    c.release_waiting-closed.ensures.drains c.release_waiting-closed.ensures.continues _ c.promise.ensures c.release_waiting-closed.ensures.released faults
