use Rattle.rx_picture.proofs.Common.{length}
use Rattle.rx_picture.proofs.Ranges.{count_next}
use Rattle.rx_picture.proofs.FewAreChosen.{marks_more, few_chosen}
use Rattle.rx_picture.proofs.choice.choose.Goals as goal
use Rattle.std.proofs.Common.{rules}

pub loop-n-preserved : goal.loop-n-preserved
loop-n-preserved c =
    search (rules, count_next, marks_more, length)

pub returns-in_err-push-clause-few : goal.returns-in_err-push-clause-few
returns-in_err-push-clause-few c = search (rules, few_chosen, length)

pub returns-clause-few : goal.returns-clause-few
returns-clause-few c = search (rules, few_chosen, length)
