use Rattle.rx_tree.proofs.InPlace.{there_project}
use Rattle.rx_tree.proofs.store.Store.link.Goals as goal
use Rattle.std.proofs.Common.{rules}

pub at-requires : goal.at-requires
at-requires g c = record { there = there_project (λ l. l.node) c.args.self.now.nodes c.in-Children.slot (rw c.in-Children.is at c.requires.there) }

pub returns-in-Children : goal.returns-in-Children
returns-in-Children g c = search rules

pub at-requires-in-Held : goal.at-requires-in-Held
at-requires-in-Held g c = record { there = there_project (λ l. l.node) c.args.self.now.nodes c.in-Held.slot (rw c.in-Held.is at c.requires.there) }

pub returns-in-Held : goal.returns-in-Held
returns-in-Held g c = search rules

pub at-requires-in-Sibling : goal.at-requires-in-Sibling
at-requires-in-Sibling g c =
    record { there = there_project (λ l. l.node) c.args.self.now.nodes c.in-Sibling.slot (rw c.in-Sibling.is at c.requires.there) }

pub returns-in-Sibling : goal.returns-in-Sibling
returns-in-Sibling g c = search rules

pub at-requires-in-Noted : goal.at-requires-in-Noted
at-requires-in-Noted g c = record { there = there_project (λ l. l.node) c.args.self.now.nodes c.in-Noted.slot (rw c.in-Noted.is at c.requires.there) }

pub returns-in-Noted : goal.returns-in-Noted
returns-in-Noted g c = search rules

pub at-requires-in-Stored : goal.at-requires-in-Stored
at-requires-in-Stored g c =
    record { there = there_project (λ r. r.stowed) c.args.self.now.resources c.in-Stored.slot (rw c.in-Stored.is at c.requires.there) }

pub returns-in-Stored : goal.returns-in-Stored
returns-in-Stored g c = search rules
