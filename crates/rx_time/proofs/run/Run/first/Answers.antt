use Rattle.std.proofs.Common.{length, rules}
use Rattle.std.proofs.lemmas.Bool.{cases_lt, false≢true}
use Rattle.rx_time.proofs.SlotsInOrder.{PointsAt-front, nothing_next}
use Rattle.rx_time.proofs.run.Run.first.Goals as goal

pub returns-in-Some : goal.returns-in-Some
returns-in-Some g c =
    search (rules, PointsAt-front)

pub returns-in-None : goal.returns-in-None
returns-in-None g c =
    search (rules, length, cases_lt, false≢true, nothing_next)
