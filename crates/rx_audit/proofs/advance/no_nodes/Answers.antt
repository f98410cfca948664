use Rattle.rx_audit.proofs.Common.{sym, ◌∙◌}
use Rattle.rx_audit.proofs.KnownNodesAndHubs.{followed_nothing}
use Rattle.rx_audit.proofs.advance.no_nodes.Goals as goal

pub returns : goal.returns
returns c = followed_nothing c.args.size _ c.in_ok-no_children.ensures c.in_ok-no_subscribers.ensures c.in_ok-no_subscribers-2.ensures c.in_ok-no_hubs.ensures
    (sym c.in_ok-vec.field-0.ok.0 ∙ c.in_ok-vec.ensures.len)
