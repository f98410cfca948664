use Rattle.std.proofs.Common.{arith}
use Rattle.rx_lanes.proofs.DueNamed.{fresh_fits}
use Rattle.rx_lanes.proofs.lanes.Lanes.settle_fresh.Goals as goal

pub fill_due-requires-clause-fits : goal.fill_due-requires-clause-fits
fill_due-requires-clause-fits g c = let fits = fresh_fits c.self.invariant c.promise.ensures in omega (arith, fits, c.clear.ensures.capacity)
