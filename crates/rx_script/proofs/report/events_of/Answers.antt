use Rattle.rx_script.proofs.Common.{take, vec_len, rules}
use Rattle.rx_script.proofs.TakenUp.{front_next, front_all, event_within, from_start}
use Rattle.rx_script.proofs.report.events_of.Goals as goal

pub loop-event-smaller : goal.loop-event-smaller
loop-event-smaller g c = search (rules, event_within)

pub loop-event-preserved : goal.loop-event-preserved
loop-event-preserved g c = search (rules, vec_len, front_next, from_start, take)

pub returns : goal.returns
returns g c = search (rules, front_all, vec_len, from_start)
