use Rattle.std.proofs.Common.{◌≡◌, None, Some, sym, ◌∙◌}
use Rattle.rx_live.proofs.AcceptedBindsNames.{same_open}
use Rattle.rx_live.proofs.ClosedNamesForgotten.{spot_at, left_nameless, left_open, forgot_one, left_forgotten}
use Rattle.rx_live.proofs.renewing.forget_closed.Goals as goal
use Rattle.std.proofs.Common.{rules}

pub returns-in_default-clause-same : goal.returns-in_default-clause-same
returns-in_default-clause-same c = same_open None c.args.book.now c.args.nodes.now

pub returns-in_default-clause-left : goal.returns-in_default-clause-left
returns-in_default-clause-left c = search (rules, left_nameless)

pub returns-then-is_open-clause-same : goal.returns-then-is_open-clause-same
returns-then-is_open-clause-same c = same_open None c.args.book.now c.args.nodes.now

pub returns-then-is_open-clause-left : goal.returns-then-is_open-clause-left
returns-then-is_open-clause-left c = search (rules, spot_at, left_open)

pub returns-clause-same : goal.returns-clause-same
returns-clause-same c =
    let found : spot_at c.args.nodes.now c.args.number ≡ Some c.in-Some.spot = sym c.spot_at.ensures ∙ c.in-Some.is in
    (forgot_one c.args.number c.in-Some.spot c.forget-name.result c.requires found
    (sym c.is_open.ensures ∙ c.if-is_open.false) c.forget-name.ensures.value c.forget-name.ensures.some).0

pub returns-clause-left : goal.returns-clause-left
returns-clause-left c = search (rules, spot_at, left_forgotten, forgot_one)
