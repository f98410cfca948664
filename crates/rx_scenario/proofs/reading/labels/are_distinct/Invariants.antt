-- Some labels were seen, the others are left.
use Rattle.std.proofs.Common.{drop}
use Rattle.rx_scenario.specs.Scenario.{labels_meant}
use Rattle.rx_scenario.proofs.Labels.{IsHalfway}
use Rattle.rx_scenario.proofs.reading.labels.are_distinct.Given as goal

abbrev pub invariant-loop-label : goal.invariant-loop-label
invariant-loop-label l = IsHalfway l.seen (labels_meant l.labels) (labels_meant (drop l.label-index l.labels))
