use Rattle.rx_resource.specs.contracts.token.TokenResource.TheImpl.{ghosts}
use Rattle.rx_cellar.specs.Asking.{asked_of, asked_as}
use Rattle.rx_cellar.specs.Crossings.{no_answer}
use Rattle.rx_cellar.proofs.Tries.{behind, not_behind}
use Rattle.rx_cellar.proofs.cellar.Cellar.make_again.Goals as goal

pub returns-in-Ok : goal.returns-in-Ok
returns-in-Ok c =
    behind ghosts (asked_as c.args.waits (asked_of c.args.command.now)) c.args.by c.args.self.now c.checkpoint.new.self c.make_once.new.self
    c.checkpoint.result _ (no_answer c.args.answer.now) c.make_once.new.answer c.make_once.new.given c.make_once.result c.in-Ok.is c.checkpoint.ensures
    c.make_once.ensures

pub returns-in-Err : goal.returns-in-Err
returns-in-Err c =
    not_behind ghosts (asked_as c.args.waits (asked_of c.args.command.now)) c.args.by c.args.self.now c.checkpoint.new.self c.checkpoint.result
    c.in-Err.why (no_answer c.args.answer.now) c.refuse.new.answer c.args.given.now c.refuse.result c.in-Err.is c.checkpoint.ensures
    c.refuse.ensures.answer c.requires c.refuse.ensures.status
