use Rattle.rx_turns.specs.Calls.{none_astray}
use Rattle.rx_turns.specs.Finding.{found_none}
use Rattle.rx_turns.proofs.turns.Turns.pick_up.Goals as goal

pub returns-in-None : goal.returns-in-None
returns-in-None c = found_none (none_astray c.in-None.is)
