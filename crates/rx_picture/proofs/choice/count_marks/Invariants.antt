use Rattle.rx_picture.proofs.Common.{◌≡◌, ◌≤◌, count_below, marked}
use Rattle.rx_picture.proofs.choice.count_marks.Given as goal

abbrev pub invariant-loop-n : goal.invariant-loop-n
invariant-loop-n l = record {
  is : l.count ≡ count_below (marked l.marks) l.n;
  few : l.count ≤ l.n;
}
