use Rattle.rx_picture.proofs.Common.{AreLevels}
use Rattle.rx_picture.proofs.levels.levels_of.Given as goal

abbrev pub invariant-loop-n : goal.invariant-loop-n
invariant-loop-n l = AreLevels l.events l.n l.levels.items
