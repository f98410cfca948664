use Rattle.rx_picture.proofs.Ranges.{count_next}
use Rattle.rx_picture.proofs.choice.count_leads.Goals as goal
use Rattle.std.proofs.Common.{rules}

pub loop-n-preserved : goal.loop-n-preserved
loop-n-preserved c = search (rules, count_next)
