use Rattle.rx_agenda.proofs.Common.{map, sum_by, map-append, sum_by-cons}
use Rattle.std.proofs.lemmas.List.Sums.{sum_by-append}
use Rattle.rx_agenda.proofs.NextStepAndCancel.{with_steps-push}
use Rattle.rx_agenda.proofs.agenda.add_each.Goals as goal
use Rattle.std.proofs.Common.{rules}

pub loop-step-preserved : goal.loop-step-preserved
loop-step-preserved c =
    search (rules, sum_by, sum_by-append, sum_by-cons, with_steps-push, map, map-append)
