use Rattle.rx_svg.specs.Page.{items_legend}
use Rattle.rx_svg.proofs.Legends.{one_more}
use Rattle.rx_svg.proofs.legend.push_items.Goals as goal

pub returns : goal.returns
unfolding items_legend
returns c =
    one_more _ _ _ _ _
    (one_more _ _ _ _ _ c.in_ok-push_key.ensures c.in_ok-push_key-2.ensures)
    c.in_ok-push_key-3.ensures
