use Rattle.std.proofs.Common.{◌∙◌}
use Rattle.rx_tree.proofs.InPlace.{number_at-project, there_project}
use Rattle.rx_tree.proofs.tree.Tree.number_of.Goals as goal

pub number_of-requires : goal.number_of-requires
number_of-requires g c = record { there = there_project (λ l. l.node) c.self.inside.store.nodes c.args.slot (rw (← c.self.view_is) at c.requires.there) }

pub returns : goal.returns
returns g c = rw (← c.self.view_is) (number_at-project (λ l. l.node) c.self.inside.store.nodes c.args.slot ∙ c.number_of.ensures)
