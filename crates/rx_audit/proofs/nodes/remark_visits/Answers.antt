use Rattle.rx_audit.proofs.Common.{◌<◌, length, get_or, arith, Visit}
use Rattle.std.proofs.lemmas.List.{get_or_default}
use Rattle.rx_audit.proofs.VisitsChangeMarks.{visited_none, visited_more}
use Rattle.rx_audit.proofs.nodes.remark_visits.Goals as goal

pub loop-visit-init : goal.loop-visit-init
loop-visit-init c = visited_none c.args.past.now c.args.marks.now.items c.args.due.now.items

pub loop-visit-preserved : goal.loop-visit-preserved
loop-visit-preserved c = let h = c.args.past.now in let log = c.args.log.now in let i = c.loop-visit.visit-index in let d : Visit = record {
  node = 0;
  count = 0;
} in let v : Visit = get_or log i d in let l : i < length log = omega arith in rw (
  c.in_ok-owe.ensures,
  c.in_ok-fire.ensures.marks,
  c.in_ok-fire.ensures.due,
  c.fired_at.ensures,
  c.projected_at.ensures,
) (visited_more log i v _ _ l (get_or_default log i d v l) c.loop-visit.invariant)
