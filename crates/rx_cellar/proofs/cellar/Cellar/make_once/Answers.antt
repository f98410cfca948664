use Rattle.std.proofs.Common.{true, false, None, sym, ap, ◌∙◌, subst}
use Rattle.std.proofs.Math.Bool.{not}
use Rattle.rx_resource.specs.contracts.token.TokenResource.TheImpl.{ghosts}
use Rattle.rx_cellar.specs.Asking.{asked_of, asked_as, asked_for, queued_for}
use Rattle.rx_cellar.specs.Crossings.{no_answer}
use Rattle.rx_cellar.specs.Frequent.{item_in}
use Rattle.rx_cellar.specs.Attempts.{IsTriedOnce}
use Rattle.rx_cellar.proofs.Laws.ItemsAsked.{item_as, other_as, other_asks}
use Rattle.rx_cellar.proofs.Tries.{known_once}
use Rattle.rx_cellar.proofs.cellar.Cellar.make_once.Goals as goal

pub returns-then-not-waits : goal.returns-then-not-waits
returns-then-not-waits c =
    let item = item_in c.args.command.now in
    let is = item_as c.args.waits true c.args.command.now (sym c.is_emission.ensures ∙ c.if-is_emission.true) (ap not c.if-not-waits.true) in
    known_once ghosts (asked_as c.args.waits (asked_of c.args.command.now)) (asked_for item) c.args.by c.args.self.now c.emit.new.self
    (no_answer c.args.answer.now) c.emit.new.answer c.emit.new.given c.emit.result is c.emit.ensures

pub returns-then-is_emission : goal.returns-then-is_emission
returns-then-is_emission c =
    let item = item_in c.args.command.now in
    let is = item_as c.args.waits false c.args.command.now (sym c.is_emission.ensures ∙ c.if-is_emission.true) (ap not c.if-not-waits.false) in
    subst (λ o. IsTriedOnce ghosts (asked_as c.args.waits (asked_of c.args.command.now)) c.args.by c.args.self.now c.emit_behind.new.self c.args.answer.now
    c.emit_behind.new.answer o c.emit_behind.result) (sym c.requires)
    (known_once ghosts (asked_as c.args.waits (asked_of c.args.command.now)) (queued_for item) c.args.by c.args.self.now c.emit_behind.new.self
    (no_answer c.args.answer.now) c.emit_behind.new.answer None c.emit_behind.result is c.emit_behind.ensures)

pub returns : goal.returns
returns c =
    let plain = sym c.is_emission.ensures ∙ c.if-is_emission.false in
    subst (λ given. IsTriedOnce ghosts (asked_as c.args.waits (asked_of c.args.command.now)) c.args.by c.args.self.now c.make_plain.new.self c.args.answer.now
    c.make_plain.new.answer given c.make_plain.result) (sym c.requires)
    (subst (λ o. IsTriedOnce ghosts o c.args.by c.args.self.now c.make_plain.new.self c.args.answer.now c.make_plain.new.answer None c.make_plain.result)
    (other_as c.args.waits (asked_of c.args.command.now) (other_asks c.args.command.now plain)) c.make_plain.ensures)
