use Rattle.rx_tree.proofs.InPlace.{there_project, seen_at}
use Rattle.rx_tree.proofs.LinkWrites.{previous-written, next-kept, writes-Children, writes-Held, writes-Sibling, writes-Noted, writes-Stored}
use Rattle.rx_tree.proofs.store.Store.set_previous.Goals as goal

pub at_mut-requires : goal.at_mut-requires
at_mut-requires g c =
    record { there = there_project (λ l. l.node) c.args.self.now.nodes c.in-Children.slot (rw c.in-Children.is at c.requires.there) }

pub returns-in-Children-clause-previous : goal.returns-in-Children-clause-previous
returns-in-Children-clause-previous g c = rw c.in-Children.is (previous-written (writes-Children c.args.self.now c.in-Children.slot _ _
    (seen_at c.at_mut.ensures.value c.behind-self.view_is)))

pub returns-in-Children-clause-next : goal.returns-in-Children-clause-next
returns-in-Children-clause-next g c = next-kept (writes-Children c.args.self.now c.in-Children.slot _ _ (seen_at c.at_mut.ensures.value c.behind-self.view_is))

pub returns-in-Children-clause-rest : goal.returns-in-Children-clause-rest
returns-in-Children-clause-rest g c = (writes-Children c.args.self.now c.in-Children.slot _ _ (seen_at c.at_mut.ensures.value c.behind-self.view_is)).rest

pub at_mut-requires-in-Held : goal.at_mut-requires-in-Held
at_mut-requires-in-Held g c =
    record { there = there_project (λ l. l.node) c.args.self.now.nodes c.in-Held.slot (rw c.in-Held.is at c.requires.there) }

pub returns-in-Held-clause-previous : goal.returns-in-Held-clause-previous
returns-in-Held-clause-previous g c = rw c.in-Held.is (previous-written (writes-Held c.args.self.now c.in-Held.slot _ _
    (seen_at c.at_mut-in-Held.ensures.value c.behind-self-in-Held.view_is)))

pub returns-in-Held-clause-next : goal.returns-in-Held-clause-next
returns-in-Held-clause-next g c = next-kept (writes-Held c.args.self.now c.in-Held.slot _ _
    (seen_at c.at_mut-in-Held.ensures.value c.behind-self-in-Held.view_is))

pub returns-in-Held-clause-rest : goal.returns-in-Held-clause-rest
returns-in-Held-clause-rest g c = (writes-Held c.args.self.now c.in-Held.slot _ _ (seen_at c.at_mut-in-Held.ensures.value c.behind-self-in-Held.view_is)).rest

pub at_mut-requires-in-Sibling : goal.at_mut-requires-in-Sibling
at_mut-requires-in-Sibling g c =
    record { there = there_project (λ l. l.node) c.args.self.now.nodes c.in-Sibling.slot (rw c.in-Sibling.is at c.requires.there) }

pub returns-in-Sibling-clause-previous : goal.returns-in-Sibling-clause-previous
returns-in-Sibling-clause-previous g c = rw c.in-Sibling.is (previous-written (writes-Sibling c.args.self.now c.in-Sibling.slot _ _
    (seen_at c.at_mut-in-Sibling.ensures.value c.behind-self-in-Sibling.view_is)))

pub returns-in-Sibling-clause-next : goal.returns-in-Sibling-clause-next
returns-in-Sibling-clause-next g c = next-kept (writes-Sibling c.args.self.now c.in-Sibling.slot _ _
    (seen_at c.at_mut-in-Sibling.ensures.value c.behind-self-in-Sibling.view_is))

pub returns-in-Sibling-clause-rest : goal.returns-in-Sibling-clause-rest
returns-in-Sibling-clause-rest g c = (writes-Sibling c.args.self.now c.in-Sibling.slot _ _
    (seen_at c.at_mut-in-Sibling.ensures.value c.behind-self-in-Sibling.view_is)).rest

pub at_mut-requires-in-Noted : goal.at_mut-requires-in-Noted
at_mut-requires-in-Noted g c =
    record { there = there_project (λ l. l.node) c.args.self.now.nodes c.in-Noted.slot (rw c.in-Noted.is at c.requires.there) }

pub returns-in-Noted-clause-previous : goal.returns-in-Noted-clause-previous
returns-in-Noted-clause-previous g c = rw c.in-Noted.is (previous-written (writes-Noted c.args.self.now c.in-Noted.slot _ _
    (seen_at c.at_mut-in-Noted.ensures.value c.behind-self-in-Noted.view_is)))

pub returns-in-Noted-clause-next : goal.returns-in-Noted-clause-next
returns-in-Noted-clause-next g c = next-kept (writes-Noted c.args.self.now c.in-Noted.slot _ _
    (seen_at c.at_mut-in-Noted.ensures.value c.behind-self-in-Noted.view_is))

pub returns-in-Noted-clause-rest : goal.returns-in-Noted-clause-rest
returns-in-Noted-clause-rest g c = (writes-Noted c.args.self.now c.in-Noted.slot _ _
    (seen_at c.at_mut-in-Noted.ensures.value c.behind-self-in-Noted.view_is)).rest

pub at_mut-requires-in-Stored : goal.at_mut-requires-in-Stored
at_mut-requires-in-Stored g c =
    record { there = there_project (λ r. r.stowed) c.args.self.now.resources c.in-Stored.slot (rw c.in-Stored.is at c.requires.there) }

pub returns-in-Stored-clause-previous : goal.returns-in-Stored-clause-previous
returns-in-Stored-clause-previous g c = rw c.in-Stored.is (previous-written
    (writes-Stored c.args.self.now c.in-Stored.slot _ _ c.at_mut-in-Stored.ensures.value))

pub returns-in-Stored-clause-next : goal.returns-in-Stored-clause-next
returns-in-Stored-clause-next g c = next-kept (writes-Stored c.args.self.now c.in-Stored.slot _ _ c.at_mut-in-Stored.ensures.value)

pub returns-in-Stored-clause-rest : goal.returns-in-Stored-clause-rest
returns-in-Stored-clause-rest g c = (writes-Stored c.args.self.now c.in-Stored.slot _ _ c.at_mut-in-Stored.ensures.value).rest
