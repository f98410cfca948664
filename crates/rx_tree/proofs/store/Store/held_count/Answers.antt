use Rattle.rx_tree.proofs.InPlace.{there_project}
use Rattle.rx_tree.proofs.store.Store.held_count.Goals as goal
use Rattle.std.proofs.Common.{rules}

pub at-requires : goal.at-requires
at-requires g c = record { there = there_project (λ l. l.node) c.args.self.now.nodes c.args.slot c.requires.there }

pub returns : goal.returns
returns g c = search rules
