use Rattle.rx_audit.proofs.Common.{◌∙◌, arith}
use Rattle.rx_audit.proofs.VisitLogEntries.{taken_few, times_more}
use Rattle.rx_audit.proofs.reach.spread.Goals as goal
use Rattle.std.proofs.Common.{rules}

pub reach-requires-clause-few : goal.reach-requires-clause-few
reach-requires-clause-few c = search (rules, taken_few)

pub loop-m-preserved : goal.loop-m-preserved
loop-m-preserved c = record {
  kept = c.in_ok-reach.ensures.kept ∙ c.loop-m.invariant.kept;
  more = λ number. (let a = c.in_ok-reach.ensures.more number in let b = c.loop-m.invariant.more number in
      let t = times_more c.args.count c.args.next.now c.loop-m.m-index 0 number (omega arith) in omega arith);
  often = c.in_ok-reach.ensures.often;
  grows = let a = c.in_ok-reach.ensures.grows in let b = c.loop-m.invariant.grows in omega arith;
}
