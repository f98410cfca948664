use Rattle.rx_tree.proofs.InPlace.{there_project}
use Rattle.rx_tree.proofs.store.Store.last_sibling.Goals as goal
use Rattle.std.proofs.Common.{rules}

pub at-requires : goal.at-requires
at-requires g c = record { there = there_project (λ l. l.node) c.args.self.now.nodes c.in-Children.slot (rw c.in-Children.is at c.requires.there) }

pub returns-in-Children : goal.returns-in-Children
returns-in-Children g c = search rules
