use Rattle.rx_tree.proofs.InPlace.{there_project, seen_at}
use Rattle.rx_tree.proofs.LinkWrites.{writes-Children, writes-Noted, writes-Stored}
use Rattle.rx_tree.proofs.store.Store.set_link.Goals as goal

pub at_mut-requires : goal.at_mut-requires
at_mut-requires g c =
    record { there = there_project (λ l. l.node) c.args.self.now.nodes c.in-Children.slot (rw c.in-Children.is at c.requires.there) }

pub returns-in-Children-clause-linked : goal.returns-in-Children-clause-linked
returns-in-Children-clause-linked g c = rw (c.in-Children.is, c.set-in-Children.ensures) ((writes-Children c.args.self.now c.in-Children.slot c.args.link _
    (seen_at c.at_mut.ensures.value c.behind-self.view_is)).linked)

pub returns-in-Children-clause-rest : goal.returns-in-Children-clause-rest
returns-in-Children-clause-rest g c = rw c.set-in-Children.ensures ((writes-Children c.args.self.now c.in-Children.slot c.args.link _
    (seen_at c.at_mut.ensures.value c.behind-self.view_is)).rest)

pub at_mut-requires-in-Noted : goal.at_mut-requires-in-Noted
at_mut-requires-in-Noted g c =
    record { there = there_project (λ l. l.node) c.args.self.now.nodes c.in-Noted.slot (rw c.in-Noted.is at c.requires.there) }

pub returns-in-Noted-clause-linked : goal.returns-in-Noted-clause-linked
returns-in-Noted-clause-linked g c = rw (c.in-Noted.is, c.set-in-Noted.ensures) ((writes-Noted c.args.self.now c.in-Noted.slot c.args.link _
    (seen_at c.at_mut-in-Noted.ensures.value c.behind-self-in-Noted.view_is)).linked)

pub returns-in-Noted-clause-rest : goal.returns-in-Noted-clause-rest
returns-in-Noted-clause-rest g c = rw c.set-in-Noted.ensures ((writes-Noted c.args.self.now c.in-Noted.slot c.args.link _
    (seen_at c.at_mut-in-Noted.ensures.value c.behind-self-in-Noted.view_is)).rest)

pub at_mut-requires-in-Stored : goal.at_mut-requires-in-Stored
at_mut-requires-in-Stored g c =
    record { there = there_project (λ r. r.stowed) c.args.self.now.resources c.in-Stored.slot (rw c.in-Stored.is at c.requires.there) }

pub returns-in-Stored-clause-linked : goal.returns-in-Stored-clause-linked
returns-in-Stored-clause-linked g c = rw (c.in-Stored.is, c.set-in-Stored.ensures)
    ((writes-Stored c.args.self.now c.in-Stored.slot c.args.link _ c.at_mut-in-Stored.ensures.value).linked)

pub returns-in-Stored-clause-rest : goal.returns-in-Stored-clause-rest
returns-in-Stored-clause-rest g c = rw c.set-in-Stored.ensures
    ((writes-Stored c.args.self.now c.in-Stored.slot c.args.link _ c.at_mut-in-Stored.ensures.value).rest)

pub set_held-requires : goal.set_held-requires
set_held-requires g c = record { there = rw c.in-Held.is at c.requires.there }

pub set_sibling-requires : goal.set_sibling-requires
set_sibling-requires g c = record { there = rw c.in-Sibling.is at c.requires.there }
