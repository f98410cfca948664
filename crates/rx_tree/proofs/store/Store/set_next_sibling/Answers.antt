use Rattle.rx_tree.proofs.InPlace.{there_project, seen_at}
use Rattle.rx_tree.proofs.LinkWrites.{next-written, previous-kept, writes-Children, writes-Sibling}
use Rattle.rx_tree.proofs.store.Store.set_next_sibling.Goals as goal

pub at_mut-requires : goal.at_mut-requires
at_mut-requires g c =
    record { there = there_project (λ l. l.node) c.args.self.now.nodes c.in-Children.slot (rw c.in-Children.is at c.requires.there) }

pub returns-in-Children-clause-next : goal.returns-in-Children-clause-next
returns-in-Children-clause-next g c = rw c.in-Children.is (next-written (writes-Children c.args.self.now c.in-Children.slot _ _
    (seen_at c.at_mut.ensures.value c.behind-self.view_is)))

pub returns-in-Children-clause-previous : goal.returns-in-Children-clause-previous
returns-in-Children-clause-previous g c = previous-kept (writes-Children c.args.self.now c.in-Children.slot _ _
    (seen_at c.at_mut.ensures.value c.behind-self.view_is))

pub returns-in-Children-clause-rest : goal.returns-in-Children-clause-rest
returns-in-Children-clause-rest g c = (writes-Children c.args.self.now c.in-Children.slot _ _ (seen_at c.at_mut.ensures.value c.behind-self.view_is)).rest

pub at_mut-requires-in-Sibling : goal.at_mut-requires-in-Sibling
at_mut-requires-in-Sibling g c =
    record { there = there_project (λ l. l.node) c.args.self.now.nodes c.in-Sibling.slot (rw c.in-Sibling.is at c.requires.there) }

pub returns-in-Sibling-clause-next : goal.returns-in-Sibling-clause-next
returns-in-Sibling-clause-next g c = rw c.in-Sibling.is (next-written (writes-Sibling c.args.self.now c.in-Sibling.slot _ _
    (seen_at c.at_mut-in-Sibling.ensures.value c.behind-self-in-Sibling.view_is)))

pub returns-in-Sibling-clause-previous : goal.returns-in-Sibling-clause-previous
returns-in-Sibling-clause-previous g c = previous-kept (writes-Sibling c.args.self.now c.in-Sibling.slot _ _
    (seen_at c.at_mut-in-Sibling.ensures.value c.behind-self-in-Sibling.view_is))

pub returns-in-Sibling-clause-rest : goal.returns-in-Sibling-clause-rest
returns-in-Sibling-clause-rest g c = (writes-Sibling c.args.self.now c.in-Sibling.slot _ _
    (seen_at c.at_mut-in-Sibling.ensures.value c.behind-self-in-Sibling.view_is)).rest
