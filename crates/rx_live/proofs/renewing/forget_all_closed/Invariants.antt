use Rattle.rx_live.proofs.Common.{None, length, IsPaired, AreOpenSame}
use Rattle.rx_live.proofs.ClosedNamesForgotten.{AreLeft}
use Rattle.rx_live.proofs.renewing.forget_all_closed.Given as goal

abbrev pub invariant-numbers : goal.invariant-numbers
invariant-numbers l = record {
  same : AreOpenSame None l.book l.fn.nodes l.nodes;
  paired : IsPaired l.nodes;
  left : AreLeft l.book l.nodes l.numbers.items;
}

abbrev pub decreases-numbers : goal.decreases-numbers
decreases-numbers l = length l.numbers.items
