use Rattle.rx_tree.proofs.InPlace.{there_project, seen_at}
use Rattle.rx_tree.proofs.LinkWrites.{writes-Held}
use Rattle.rx_tree.proofs.store.Store.set_held.Goals as goal

pub at_mut-requires : goal.at_mut-requires
at_mut-requires g c = record { there = there_project (λ l. l.node) c.args.self.now.nodes c.args.slot c.requires.there }

pub returns-clause-linked : goal.returns-clause-linked
returns-clause-linked g c = rw c.set.ensures ((writes-Held c.args.self.now c.args.slot c.args.link _
    (seen_at c.at_mut.ensures.value c.behind-self.view_is)).linked)

pub returns-clause-rest : goal.returns-clause-rest
returns-clause-rest g c = rw c.set.ensures ((writes-Held c.args.self.now c.args.slot c.args.link _ (seen_at c.at_mut.ensures.value c.behind-self.view_is)).rest)
