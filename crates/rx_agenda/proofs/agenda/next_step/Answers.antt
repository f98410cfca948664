use Rattle.rx_agenda.proofs.Common.{◌∙◌, sym}
use Rattle.rx_agenda.proofs.NextStepAndCancel.{next_step-some, next_step-none, size_left-taken}
use Rattle.rx_agenda.proofs.agenda.next_step.Goals as goal
use Rattle.std.proofs.Common.{rules}

pub returns-in-Some-next_until-clause-some : goal.returns-in-Some-next_until-clause-some
returns-in-Some-next_until-clause-some c =
    next_step-some c.args.agenda.now c.args.until c.next.new.self c.next_until.new.self c.in-None.ensures.none.0 c.in-None.ensures.none.1
    c.in-Some-next_until._due c.in-Some-next_until.step
    (sym c.next_until.ensures.value ∙ c.in-Some-next_until.is) c.next_until.ensures.some

pub returns-in-Some-next_until-clause-size : goal.returns-in-Some-next_until-clause-size
returns-in-Some-next_until-clause-size c =
    search (rules, size_left-taken)

pub returns-in-None-next_until-clause-none : goal.returns-in-None-next_until-clause-none
returns-in-None-next_until-clause-none c =
    search (rules, next_step-none)
