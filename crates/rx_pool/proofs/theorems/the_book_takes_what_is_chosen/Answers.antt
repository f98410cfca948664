use Rattle.rx_pool.proofs.Laws.Choices.{takes_what_is_chosen}
use Rattle.rx_pool.proofs.theorems.the_book_takes_what_is_chosen.Goals as goal

pub returns : goal.returns
returns c = takes_what_is_chosen
