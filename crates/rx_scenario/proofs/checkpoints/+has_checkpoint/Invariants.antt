-- The steps before this one make no checkpoint.
use Rattle.std.proofs.Common.{◌≡◌, drop, map}
use Rattle.rx_scenario.specs.Scenario.{step_of, steps_of}
use Rattle.rx_scenario.specs.Checkpoints.{has_checkpoint}
use Rattle.rx_scenario.proofs.checkpoints.+has_checkpoint.Given as goal

abbrev pub invariant-loop-step : goal.invariant-loop-step
invariant-loop-step l = has_checkpoint (steps_of (map step_of l.steps)) ≡ has_checkpoint (steps_of (map step_of (drop l.step-index l.steps)))
