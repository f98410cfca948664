use Rattle.rx_cellar.proofs.WordsFilled.{Fills}
use Rattle.rx_cellar.proofs.rest.fill_closings.Given as goal

abbrev pub invariant-loop-n : goal.invariant-loop-n
invariant-loop-n l = Fills l.engine.wishes.closings l.from l.n l.count l.initial.words l.words
