use Rattle.std.proofs.Common.{rules}
use Rattle.rx_scenario.specs.declared.scenario.Step.{the_lemmas}
use Rattle.rx_scenario.specs.Reading.{head_in}
use Rattle.rx_scenario.proofs.reading.steps.head_in.Goals as goal

pub returns : goal.returns
unfolding head_in
returns c = rw (c.in_ok-delay.ensures, c.in_ok-label.ensures, c.in_ok-action.ensures) (search (rules, the_lemmas))
