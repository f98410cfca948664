use Rattle.std.proofs.Common.{◌≡◌, ◌++◌, ◌+◌, ◌*◌, drop, map}
use Rattle.json.specs.Value.{items_view}
use Rattle.rx_device.specs.Part.{items_data}
use Rattle.rx_scenario.specs.Scenario.{step_of, steps_of, labels_in, labels_meant}
use Rattle.rx_scenario.specs.Reading.{step_in, each_step}
use Rattle.rx_scenario.proofs.Steps.{with_front}
use Rattle.rx_scenario.proofs.reading.steps.+steps.Given as goal

abbrev pub invariant-each_step-loop-value : goal.invariant-each_step-loop-value
invariant-each_step-loop-value l = record {
  steps : each_step (step_in l.follows l.depth) (items_data (items_view l.values.items)) ≡ with_front (map step_of l.steps.items)
      (each_step (step_in l.follows l.depth) (items_data (items_view (drop l.value-index l.values.items))));
  noted : labels_meant l.labels.items ≡ labels_meant l.initial.labels.items ++ labels_in (steps_of (map step_of l.steps.items));
}

abbrev pub decreases-step_in : goal.decreases-step_in
decreases-step_in l = 3 * l.depth + 1

abbrev pub decreases-then_in : goal.decreases-then_in
decreases-then_in l = 3 * l.depth

abbrev pub decreases-each_step : goal.decreases-each_step
decreases-each_step l = 3 * l.depth + 2
