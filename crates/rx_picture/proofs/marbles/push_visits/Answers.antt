use Rattle.rx_picture.proofs.MarblesOfPrefixes.{visits_whole}
use Rattle.rx_picture.proofs.marbles.push_visits.Goals as goal
use Rattle.std.proofs.Common.{rules}

pub returns : goal.returns
returns c =
    search (rules, visits_whole)
