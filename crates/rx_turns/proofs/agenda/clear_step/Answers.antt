use Rattle.std.proofs.Common.{None, false, ap, ◌∙◌}
use Rattle.rx_turns.specs.Telling.{handed_told}
use Rattle.rx_turns.proofs.agenda.clear_step.Goals as goal

pub returns : goal.returns
returns c = c.tell_none.ensures ∙ ap (handed_told None false) c.clear.ensures
