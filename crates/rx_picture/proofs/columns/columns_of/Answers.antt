use Rattle.rx_picture.proofs.Ranges.{count_next}
use Rattle.rx_picture.proofs.MarksStandForTests.{columns_more}
use Rattle.rx_picture.proofs.columns.columns_of.Goals as goal
use Rattle.std.proofs.Common.{rules}

pub loop-n-preserved : goal.loop-n-preserved
loop-n-preserved c =
    search (rules, count_next, columns_more)
