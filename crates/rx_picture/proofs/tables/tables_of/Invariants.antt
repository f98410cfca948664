use Rattle.rx_picture.proofs.Common.{AreTurns, has_removed, has_returned, has_taken}
use Rattle.rx_picture.proofs.tables.tables_of.Given as goal

abbrev pub invariant-loop-place : goal.invariant-loop-place
invariant-loop-place l = record {
  removed : AreTurns l.events has_removed l.place l.removed.items;
  returned : AreTurns l.events has_returned l.place l.returned.items;
  taken : AreTurns l.events has_taken l.place l.taken.items;
}
