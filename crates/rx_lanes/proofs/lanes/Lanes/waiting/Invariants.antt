use Rattle.std.proofs.Common.{◌≡◌, sum_by, take}
use Rattle.rx_lanes.specs.Reports.{at_most_all, length_of}
use Rattle.rx_lanes.proofs.lanes.Lanes.waiting.Given as goal

abbrev pub invariant-loop-place : goal.invariant-loop-place
invariant-loop-place g l = l.many ≡ at_most_all (sum_by length_of (take l.place l.self.places))
