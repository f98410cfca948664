use Rattle.std.proofs.Common.{rules, ◌≡◌, ◌≢◌}
use Rattle.rx_resource.specs.contracts.token.TokenResource.TheImpl.{ghosts}
use Rattle.rx_cellar.specs.Asking.{asked_of, asked_as}
use Rattle.rx_cellar.specs.Crossings.{no_answer}
use Rattle.rx_cellar.proofs.Laws.ItemsAsked.{tidy_as}
use Rattle.rx_cellar.proofs.Tries.{made_first, made_again, none_given}
use Rattle.rx_cellar.proofs.cellar.Cellar.make.Goals as goal

pub returns-then-status-status_of : goal.returns-then-status-status_of
returns-then-status-status_of c =
    let h = c.if-status-status_of.true in
    let f = c.status_of.ensures in
    let other : c.make_once-status.result ≢ 16 = search rules in
    let asked = asked_of c.args.command.now in
    made_first ghosts (asked_as c.args.waits asked) c.args.by c.args.self.now c.tidy.new.self c.make_once-status.new.self
    (no_answer c.args.answer.now) c.make_once-status.new.answer c.make_once-status.new.given c.make_once-status.result
    (tidy_as c.args.waits asked c.args.self.now c.tidy.new.self c.tidy.ensures) c.make_once-status.ensures other

pub returns : goal.returns
returns c =
    let h = c.if-status-status_of.false in
    let f = c.status_of.ensures in
    let full : c.make_once-status.result ≡ 16 = search rules in
    let asked = asked_of c.args.command.now in
    made_again ghosts (asked_as c.args.waits asked) c.args.by c.args.self.now c.tidy.new.self c.make_once-status.new.self c.make_again.new.self
    c.args.answer.now c.make_once-status.new.answer c.make_again.new.answer c.make_once-status.new.given c.make_again.new.given
    c.make_once-status.result c.make_again.result (tidy_as c.args.waits asked c.args.self.now c.tidy.new.self c.tidy.ensures)
    c.make_once-status.ensures full c.make_again.ensures

pub make_again-requires : goal.make_again-requires
make_again-requires c =
    let h = c.if-status-status_of.false in
    let f = c.status_of.ensures in
    let full : c.make_once-status.result ≡ 16 = search rules in
    none_given ghosts (asked_as c.args.waits (asked_of c.args.command.now)) c.args.by c.tidy.new.self c.make_once-status.new.self
    (no_answer c.args.answer.now) c.make_once-status.new.answer c.make_once-status.new.given c.make_once-status.result c.make_once-status.ensures full
