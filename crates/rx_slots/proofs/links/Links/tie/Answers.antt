use Rattle.rx_slots.proofs.TieLemmas.{tied_next, tied_previous, relinks_both}
use Rattle.rx_slots.proofs.links.Links.tie.Goals as goal
use Rattle.std.proofs.Common.{rules}

pub returns-clause-next : goal.returns-clause-next
returns-clause-next c = search (rules, tied_next)

pub returns-clause-previous : goal.returns-clause-previous
returns-clause-previous c = search (rules, tied_previous)

pub returns-clause-rest : goal.returns-clause-rest
returns-clause-rest c = relinks_both _ _ _ c.set_link.ensures.rest c.set_link-2.ensures.rest
