use Rattle.std.proofs.Common.{sym, ap, ◌∙◌, refl}
use Rattle.rx_resource.specs.contracts.token.TokenResource.TheImpl.{ghosts}
use Rattle.rx_cellar.specs.Asking.{asked_of}
use Rattle.rx_cellar.specs.Crossings.{no_answer}
use Rattle.rx_cellar.specs.Frequent.{rests}
use Rattle.rx_cellar.proofs.AnswersTold.{answered_once, unknown_once, made_told, refusal_told}
use Rattle.rx_cellar.proofs.cellar.Cellar.make_rest.Goals as goal

pub perform-requires : goal.perform-requires
perform-requires c = ap rests (sym c.in-Some.is ∙ c.asked_of.ensures) ∙ c.requires.rest

pub returns-in-Ok : goal.returns-in-Ok
returns-in-Ok c =
    let a = no_answer c.args.answer.now in
    let e = c.perform.new.engine in
    answered_once ghosts (asked_of c.args.command.now) c.in-Some.asked c.args.by c.args.self.now e c.perform.result a c.tell.new.answer 0
    (sym c.asked_of.ensures ∙ c.in-Some.is) c.requires.plain c.perform.ensures
    (made_told c.perform.result c.in-Ok.made e a c.tell.new.answer 0 c.in-Ok.is c.tell.ensures refl)

pub returns-in-Err : goal.returns-in-Err
returns-in-Err c =
    let a = no_answer c.args.answer.now in
    let e = c.perform.new.engine in
    answered_once ghosts (asked_of c.args.command.now) c.in-Some.asked c.args.by c.args.self.now e c.perform.result a
    c.refuse.new.answer c.refuse.result (sym c.asked_of.ensures ∙ c.in-Some.is) c.requires.plain c.perform.ensures
    (refusal_told c.perform.result c.in-Err.why e a c.refuse.new.answer c.refuse.result c.in-Err.is c.refuse.ensures.answer c.refuse.ensures.status)

pub returns-in_default : goal.returns-in_default
returns-in_default c =
    unknown_once ghosts (asked_of c.args.command.now) c.args.by c.args.self.now (no_answer c.args.answer.now) c.refuse_unknown.new.answer
    c.refuse_unknown.result (sym c.asked_of.ensures ∙ c.in_default.is) c.refuse_unknown.ensures.answer c.refuse_unknown.ensures.status
