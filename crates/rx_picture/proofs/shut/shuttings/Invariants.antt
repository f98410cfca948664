use Rattle.rx_picture.proofs.Common.{AreTurns, AreInners, was_shut}
use Rattle.rx_picture.proofs.shut.shuttings.Given as goal

abbrev pub invariant-loop-place : goal.invariant-loop-place
invariant-loop-place l = record {
  shut : AreTurns l.events was_shut l.place l.table.items;
  inner : AreInners l.events l.place l.inner.items;
}
