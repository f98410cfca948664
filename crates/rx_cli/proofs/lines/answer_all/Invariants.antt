use Rattle.rx_cli.proofs.lines.answer_all.Given as goal
use Rattle.std.proofs.Common.{length}

abbrev pub decreases-loop-length : goal.decreases-loop-length
decreases-loop-length g l = length l.left
