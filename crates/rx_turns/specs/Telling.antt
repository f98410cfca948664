-- How what is to be done now is told.
use Rattle.std.specs.Prelude.{Bool, false, Option, Some, None, if◌then◌else◌}
use Rattle.rx_cellar.specs.declared.shapes.Answer.{Answer}
use Rattle.rx_cellar.specs.Crossings.{no_answer}
use Rattle.rx_turns.specs.declared.agenda.Task.{Task}

-- what is to be done now, and whether it is the item of the command; or that nothing is
abbrev pub handed_told : Option Task → (is_own : Bool) → Answer → Answer
handed_told None is_own a = record a { handed = 0; own = 0; spare = 0 }
handed_told (Some h) is_own a = record a { handed = 1; own = if is_own then 1 else 0; ticket = h.ticket; spare = 0; effect = h.effect }

-- nothing was done, and nothing is to be done: all counts are 0, and the rest stays as it was
abbrev pub no_step : Answer → Answer
no_step a = handed_told None false (no_answer a)
