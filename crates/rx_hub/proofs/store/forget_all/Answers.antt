use Rattle.rx_hub.proofs.Common.{None, arith, rules, Auto, ended_never}
use Rattle.rx_hub.proofs.HubsForgetEnds.{next_changed}
use Rattle.rx_hub.proofs.store.forget_all.Goals as goal

pub loop-hub-preserved : goal.loop-hub-preserved
loop-hub-preserved c = next_changed ended_never c.deref_mut-hub-items.result.now c.loop-hub.hub-items c.loop-hub.hub-index
    (record { number = 0; mode = Auto; connection = None; last_end = None }) c.loop-hub.invariant (search (rules, arith))
