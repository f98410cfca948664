use Rattle.rx_audit.proofs.Common.{◌≡◌, ℕ, ◌+◌, ◌*◌, ◌≤◌, take, drop, length, sum_by, times, IsOften}
use Rattle.rx_audit.proofs.reach.spread.Given as goal

abbrev pub invariant-loop-m : goal.invariant-loop-m
invariant-loop-m l = record {
  kept : take (l.followed + 1) l.log.items ≡ take (l.followed + 1) l.initial.log.items;
  more : (number : ℕ → ℕ) → sum_by (times number) (drop (l.followed + 1) l.log.items) ≡ sum_by (times number)
      (drop (l.followed + 1) l.initial.log.items) + l.count * sum_by number (take l.m-index l.next);
  often : IsOften l.log.items;
  grows : length l.initial.log.items ≤ length l.log.items;
}
