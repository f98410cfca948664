use Rattle.rx_picture.proofs.Common.{was_shut}
use Rattle.rx_picture.proofs.WhereTestsTurnTrue.{turns_none}
use Rattle.rx_picture.proofs.NodeShutByEvent.{never_shut, inners_none, shut_step, inners_step}
use Rattle.rx_picture.proofs.shut.shuttings.Goals as goal
use Rattle.std.proofs.Common.{rules}

pub loop-place-init : goal.loop-place-init
loop-place-init c = record {
  shut = rw c.in_ok-table.ensures (turns_none c.args.events.now was_shut never_shut);
  inner = rw c.in_ok-inner.ensures (inners_none c.args.events.now);
}

pub loop-place-preserved : goal.loop-place-preserved
loop-place-preserved c = search (rules, shut_step, inners_step)
