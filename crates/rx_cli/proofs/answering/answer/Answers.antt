use Rattle.rx_cli.proofs.Common.{ap, Err}
use Rattle.rx_cli.proofs.OutcomesOfAnswers.{not_said}
use Rattle.rx_cli.proofs.answering.answer.Goals as goal

pub returns-in-Err-clause-answered : goal.returns-in-Err-clause-answered
returns-in-Err-clause-answered g c =
    not_said g.I.Read.remaining _ _ c.args.input.now c.say_of_left.new.input g.O.Write.contents c.args.output.now
    c.in-Err.error c.in-Err.ensures.never (λ e. c.in-Err.ensures.read (ap Err e)) (λ e. c.in-Err.ensures.syntax (ap Err e))
    (λ e. c.in-Err.ensures.shape (ap Err e))
