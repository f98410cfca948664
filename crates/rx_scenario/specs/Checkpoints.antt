-- Which scenarios make checkpoints. It does not matter whether the step that makes one is ever executed.
use Rattle.std.specs.Prelude.{◌||◌, Bool, true, false}
use Rattle.rx_scenario.specs.Scenario.{checkpoint, Action, command, StepList, no_steps, one_more, Step}

-- what makes one
abbrev pub is_checkpoint_command : Action → Bool
is_checkpoint_command (command checkpoint) = true
is_checkpoint_command _ = false

-- one of these steps, or one that follows one of them at whatever depth, makes one
abbrev pub has_checkpoint : StepList → Bool
has_checkpoint no_steps = false
has_checkpoint (one_more label delay action followers others) = is_checkpoint_command action || has_checkpoint followers || has_checkpoint others

-- this step, or one that follows it at whatever depth
abbrev pub makes_checkpoint : Step → Bool
makes_checkpoint s = is_checkpoint_command s.action || has_checkpoint s.followers
