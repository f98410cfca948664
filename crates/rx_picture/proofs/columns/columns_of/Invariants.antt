use Rattle.rx_picture.proofs.Common.{◌≡◌, ◌≤◌, count_below, marked}
use Rattle.rx_picture.proofs.MarksStandForTests.{ColumnsUpTo}
use Rattle.rx_picture.proofs.columns.columns_of.Given as goal

abbrev pub invariant-loop-n : goal.invariant-loop-n
invariant-loop-n l = record {
  tied : ColumnsUpTo (marked l.shown) l.n l.columns.items;
  is : l.before ≡ count_below (marked l.shown) l.n;
  few : l.before ≤ l.n;
}
