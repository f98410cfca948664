use Rattle.rx_tree.proofs.Common.{resources_of}
use Rattle.rx_tree.proofs.InPlace.{number_at-project, there_project, key_of_number}
use Rattle.rx_tree.proofs.store.Store.resource_key.Goals as goal
use Rattle.std.proofs.Common.{rules}

pub number_of-requires : goal.number_of-requires
number_of-requires g c = search (rules, there_project)

pub returns : goal.returns
returns g c = search (rules, key_of_number, resources_of, number_at-project)
