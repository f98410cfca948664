use Rattle.rx_slots.proofs.Common.{set_step}
use Rattle.rx_slots.proofs.Laws.JoinsLeavesMerges.{leaves_of}
use Rattle.rx_slots.proofs.TieLemmas.{relinks_both}
use Rattle.rx_slots.proofs.links.Links.leave.Goals as goal
use Rattle.std.proofs.Common.{rules}

pub returns-clause-leaves : goal.returns-clause-leaves
returns-clause-leaves c =
    search (rules, leaves_of, set_step)

pub returns-clause-rest : goal.returns-clause-rest
returns-clause-rest c = relinks_both _ _ _ c.tie.ensures.rest c.tie-2.ensures.rest
