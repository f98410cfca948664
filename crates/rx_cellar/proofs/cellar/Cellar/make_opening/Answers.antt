use Rattle.std.proofs.Common.{sym, ◌∙◌}
use Rattle.rx_resource.specs.contracts.token.TokenResource.TheImpl.{ghosts}
use Rattle.rx_cellar.specs.Asking.{asked_of}
use Rattle.rx_cellar.specs.Crossings.{no_answer}
use Rattle.rx_cellar.proofs.FrequentAsked.{none_opened}
use Rattle.rx_cellar.proofs.AnswersTold.{unknown_once}
use Rattle.rx_cellar.proofs.cellar.Cellar.make_opening.Goals as goal

pub returns-in-None : goal.returns-in-None
returns-in-None c =
    unknown_once ghosts (asked_of c.args.command.now) c.args.by c.args.self.now (no_answer c.args.answer.now) c.refuse_unknown.new.answer
    c.refuse_unknown.result (none_opened c.args.command.now c.requires (sym c.opened_as.ensures ∙ c.in-None.is)) c.refuse_unknown.ensures.answer
    c.refuse_unknown.ensures.status
