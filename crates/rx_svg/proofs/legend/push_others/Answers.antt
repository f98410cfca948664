use Rattle.rx_svg.specs.Page.{others_legend}
use Rattle.rx_svg.proofs.Legends.{one_more}
use Rattle.rx_svg.proofs.legend.push_others.Goals as goal

pub returns : goal.returns
unfolding others_legend
returns c =
    one_more _ _ _ _ _
    (one_more _ _ _ _ _ c.in_ok-push_key.ensures c.in_ok-push_key-2.ensures)
    c.in_ok-push_key-3.ensures
