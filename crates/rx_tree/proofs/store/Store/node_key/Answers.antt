use Rattle.rx_tree.proofs.Common.{nodes_of}
use Rattle.rx_tree.proofs.InPlace.{number_at-project, there_project, key_of_number}
use Rattle.rx_tree.proofs.store.Store.node_key.Goals as goal
use Rattle.std.proofs.Common.{rules}

pub number_of-requires : goal.number_of-requires
number_of-requires g c = record { there = there_project (λ l. l.node) c.args.self.now.nodes c.args.slot c.requires.there }

pub returns : goal.returns
returns g c = search (rules, key_of_number, nodes_of, number_at-project)
