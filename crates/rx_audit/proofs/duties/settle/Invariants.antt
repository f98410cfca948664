use Rattle.rx_audit.proofs.Common.{◌≡◌, ℕ, ◌≤◌, true, take, length, acts, IsNoted, IsKnown}
use Rattle.rx_audit.proofs.duties.settle.Given as goal

abbrev pub invariant-loop-left : goal.invariant-loop-left
invariant-loop-left l = record {
  known : IsKnown l.past l.live l.nodes;
  within : l.left ≤ length l.nodes.due.items;
  covered : (n : ℕ) → acts l.past n ≡ true → IsNoted 0 (take l.left l.nodes.due.items) n;
}

abbrev pub decreases-loop-left : goal.decreases-loop-left
decreases-loop-left l = l.left
