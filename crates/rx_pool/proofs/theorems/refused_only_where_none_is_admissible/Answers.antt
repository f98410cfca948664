use Rattle.rx_pool.proofs.Laws.Choices.{refuses_where_none}
use Rattle.rx_pool.proofs.theorems.refused_only_where_none_is_admissible.Goals as goal

pub returns : goal.returns
returns c = refuses_where_none
