use Rattle.rx_pool.proofs.Laws.Choices.{chooses_admissible}
use Rattle.rx_pool.proofs.theorems.chosen_hubs_are_admissible.Goals as goal

pub returns : goal.returns
returns c = chooses_admissible
