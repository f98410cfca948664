use Rattle.std.proofs.Common.{refl, sym, subst}
use Rattle.rx_resource.specs.contracts.token.TokenResource.TheImpl.{ghosts}
use Rattle.rx_book.specs.Requests.{give_back_request, dispose_request, disconnect_request}
use Rattle.rx_engine.specs.Commands.{IsFreeMade}
use Rattle.rx_engine.specs.LettingGo.{IsClosingMade, IsNothingLeft}
use Rattle.rx_engine.specs.States.{State}
use Rattle.rx_engine.proofs.NothingLeft.{nothing_left, lease_let_go, root_let_go, hub_let_go}
use Rattle.rx_engine.proofs.engine.Engine.close_next.Goals as goal

pub returns-in-Some : goal.returns-in-Some
returns-in-Some c =
    let made = subst (λ (s : State). IsFreeMade ghosts (λ x. give_back_request x.book c.in-Some.lease) c.args.by 0 s c.give_back.new.self c.give_back.result)
    (sym c.self.view_is) c.give_back.ensures in
    subst (λ (s : State). IsClosingMade ghosts c.args.by s c.give_back.new.self c.give_back.result) c.self.view_is
    (lease_let_go c.in-Some.lease c.give_back.result c.in-Some.ensures.least c.in-Some.ensures.key made)

pub returns-in-Some-open_root : goal.returns-in-Some-open_root
returns-in-Some-open_root c =
    let made = subst (λ (s : State). IsFreeMade ghosts (λ x. dispose_request x.book c.in-Some-open_root.root) c.args.by 0 s c.dispose.new.self c.dispose.result)
    (sym c.self.view_is) c.dispose.ensures in
    subst (λ (s : State). IsClosingMade ghosts c.args.by s c.dispose.new.self c.dispose.result) c.self.view_is
    (root_let_go c.in-Some-open_root.root c.dispose.result c.in-None.ensures.least c.in-Some-open_root.ensures.least c.in-Some-open_root.ensures.key made)

pub returns-in-Some-open_manual : goal.returns-in-Some-open_manual
returns-in-Some-open_manual c =
    let made = subst (λ (s : State). IsFreeMade ghosts (λ x. disconnect_request c.in-Some-open_manual.hub) c.args.by 0 s c.disconnect.new.self c.disconnect.result)
    (sym c.self.view_is) c.disconnect.ensures in
    subst (λ (s : State). IsClosingMade ghosts c.args.by s c.disconnect.new.self c.disconnect.result) c.self.view_is
    (hub_let_go c.in-Some-open_manual.hub c.disconnect.result c.in-None.ensures.least c.in-None-open_root.ensures.least c.in-Some-open_manual.ensures made)

pub returns-in-None-open_manual : goal.returns-in-None-open_manual
returns-in-None-open_manual c =
    let none = nothing_left c.self.inside.book c.promise.ensures c.in-None.ensures.least c.in-None-open_root.ensures.least c.in-None-open_manual.ensures in
    record { done = tt; refused = (refl, subst (λ (s : State). IsNothingLeft s.book) c.self.view_is none); kept = refl }
