use Rattle.rx_slots.proofs.Laws.JoinsLeavesMerges.{joins_of}
use Rattle.rx_slots.proofs.TieLemmas.{relinks_both}
use Rattle.rx_slots.proofs.links.Links.join.Goals as goal
use Rattle.std.proofs.Common.{rules}

pub returns-clause-joins : goal.returns-clause-joins
returns-clause-joins c = search (rules, joins_of)

pub returns-clause-rest : goal.returns-clause-rest
returns-clause-rest c = relinks_both _ _ _ c.tie.ensures.rest c.tie-2.ensures.rest
