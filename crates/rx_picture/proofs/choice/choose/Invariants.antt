use Rattle.rx_picture.proofs.Common.{◌≡◌, ◌≤◌, length, count_below, leads, follows, is_chosen, marked, AreMarksByTest}
use Rattle.rx_picture.proofs.choice.choose.Given as goal

abbrev pub invariant-loop-n : goal.invariant-loop-n
invariant-loop-n l = record {
  leading : l.before ≡ count_below (leads (marked l.first) (marked l.among)) l.n;
  following : l.others ≡ count_below (follows (marked l.first) (marked l.among)) l.n;
  few_leading : l.before ≤ l.n;
  few_following : l.others ≤ l.n;
  marks : AreMarksByTest l.chosen.items l.n (is_chosen (marked l.first) (marked l.among) l.limit (length l.among));
}
