use Rattle.std.proofs.Common.{rules, ◌≡◌, false, true, Result, subst}
use Rattle.rx_resource.specs.contracts.token.TokenResource.TheImpl.{ghosts}
use Rattle.rx_event.specs.declared.refusal.Refusal.{Refusal}
use Rattle.rx_engine.specs.Hubs.{AreHubsMade}
use Rattle.rx_cellar.specs.declared.making.Made.{Made}
use Rattle.rx_cellar.specs.Makings.{IsSubscribed, found_one, made_none, made_all}
use Rattle.rx_cellar.proofs.making.subscribe.Goals as goal

pub returns-then-not-wants_hubs : goal.returns-then-not-wants_hubs
returns-then-not-wants_hubs c =
    let h = c.if-not-wants_hubs.true in
    let no : c.wants_hubs.result ≡ false = search rules in
    found_one (c.wants_hubs.ensures.some no) c.subscribe_once-first.ensures

pub returns-in-Ok : goal.returns-in-Ok
returns-in-Ok c =
    let h = c.if-not-wants_hubs.false in
    let yes : c.wants_hubs.result ≡ true = search rules in
    made_all c.subscribe_once-first.new.engine c.make_hubs.new.self c.in-Ok.field-0
    (subst (λ (r : Result Made Refusal). IsSubscribed ghosts c.args.at c.args.share c.args.user c.args.by c.args.engine.now c.subscribe_once-first.new.engine r) (c.wants_hubs.ensures.none yes) c.subscribe_once-first.ensures)
    c.promise.ensures
    (subst (λ (r : Result Unit Refusal). AreHubsMade ghosts c.args.by c.subscribe_once-first.new.engine c.make_hubs.new.self r) c.in-Ok.is c.make_hubs.ensures)
    c.promise-in-Ok.ensures
    c.subscribe_once.ensures

pub returns-in-Err : goal.returns-in-Err
returns-in-Err c =
    let h = c.if-not-wants_hubs.false in
    let yes : c.wants_hubs.result ≡ true = search rules in
    made_none c.subscribe_once-first.new.engine
    (subst (λ (r : Result Made Refusal). IsSubscribed ghosts c.args.at c.args.share c.args.user c.args.by c.args.engine.now c.subscribe_once-first.new.engine r) (c.wants_hubs.ensures.none yes) c.subscribe_once-first.ensures)
    c.promise.ensures
    (subst (λ (r : Result Unit Refusal). AreHubsMade ghosts c.args.by c.subscribe_once-first.new.engine c.make_hubs.new.self r) c.in-Err.is c.make_hubs.ensures)
