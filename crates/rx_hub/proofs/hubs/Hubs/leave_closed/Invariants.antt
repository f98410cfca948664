use Rattle.rx_hub.proofs.Common.{◌≡◌, map, take, after_closing}
use Rattle.rx_hub.proofs.hubs.Hubs.leave_closed.Given as goal

abbrev pub invariant-loop-one : goal.invariant-loop-one
invariant-loop-one l = l.self ≡ record l.initial.self { hubs = map (after_closing (take l.one-index l.closed) l.ended) l.initial.self.hubs }
