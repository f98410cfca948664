use Rattle.std.proofs.Common.{◌<◌}
use Rattle.rx_time.proofs.TwoLists.{All-back}
use Rattle.rx_time.proofs.timeline.put_last.Goals as goal

pub insert-requires : goal.insert-requires
insert-requires g c = All-back (λ e. e.0 < c.args.number) c.args.in_order.now c.args.others.now c.requires
