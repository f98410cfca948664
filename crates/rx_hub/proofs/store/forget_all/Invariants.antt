use Rattle.rx_hub.proofs.Common.{◌≡◌, ◌++◌, map, take, drop, ended_never}
use Rattle.rx_hub.proofs.store.forget_all.Given as goal

abbrev pub invariant-loop-hub : goal.invariant-loop-hub
invariant-loop-hub l = l.hub-items ≡ map ended_never (take l.hub-index l.initial.hub-items) ++ drop l.hub-index l.initial.hub-items
