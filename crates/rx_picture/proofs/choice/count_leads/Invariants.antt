use Rattle.rx_picture.proofs.Common.{◌≡◌, ◌≤◌, count_below, leads, marked}
use Rattle.rx_picture.proofs.choice.count_leads.Given as goal

abbrev pub invariant-loop-n : goal.invariant-loop-n
invariant-loop-n l = record {
  is : l.count ≡ count_below (leads (marked l.first) (marked l.among)) l.n;
  few : l.count ≤ l.n;
}
