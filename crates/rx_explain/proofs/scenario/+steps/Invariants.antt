use Rattle.std.proofs.Common.{◌+◌, ◌*◌}
use Rattle.rx_explain.proofs.scenario.+steps.Given as goal

abbrev pub decreases-step_fault : goal.decreases-step_fault
decreases-step_fault l = 2 * l.depth

abbrev pub decreases-list_fault : goal.decreases-list_fault
decreases-list_fault l = 2 * l.depth + 1
