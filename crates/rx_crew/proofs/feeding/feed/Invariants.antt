use Rattle.rx_crew.proofs.Common.{◌≡◌, IsTrue, length, ends_once}
use Rattle.rx_crew.proofs.Pulls.{SoFar}
use Rattle.rx_crew.proofs.feeding.feed.Given as goal

abbrev pub invariant-loop-turn : goal.invariant-loop-turn
invariant-loop-turn g l = record {
  counted : length l.receipts.items ≡ l._turn;
  far : SoFar l.leaf.number (g.S.Source.pulls l.initial.source) (g.S.Source.pulls l.source) l.initial.seat l.seat l.receipts.items;
  course : IsTrue (ends_once (g.S.Source.pulls l.source));
}
