use Rattle.rx_agenda.proofs.agenda.add_all.Goals as goal

pub add_each-requires : goal.add_each-requires
add_each-requires c = rw c.reserve.ensures c.requires

pub returns-clause-ok : goal.returns-clause-ok
returns-clause-ok c = rw c.reserve.ensures at c.add_each.ensures.ok

pub returns-clause-size : goal.returns-clause-size
returns-clause-size c = rw c.reserve.ensures at c.add_each.ensures.size

pub returns-clause-clock : goal.returns-clause-clock
returns-clause-clock c = rw c.reserve.ensures at c.add_each.ensures.clock
