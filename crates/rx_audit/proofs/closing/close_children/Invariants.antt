use Rattle.rx_audit.proofs.Common.{◌≡◌, ◌-◌, ◌<◌, ◌≤◌, Some, length, parent, IsClosingBelow}
use Rattle.rx_audit.proofs.closing.close_children.Given as goal

abbrev pub invariant-loop-next : goal.invariant-loop-next
invariant-loop-next l = record {
  closing : IsClosingBelow l.past l.p l.next l.initial.marks l.marks l.initial.todo.items l.todo.items;
  here : 0 < l.next → parent l.past (l.next - 1) ≡ Some l.p;
  within : l.next ≤ length l.past;
}

abbrev pub decreases-loop-next : goal.decreases-loop-next
decreases-loop-next l = l.next
