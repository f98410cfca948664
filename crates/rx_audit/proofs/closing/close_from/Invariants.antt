use Rattle.rx_audit.proofs.Common.{◌≡◌, ℕ, ◌+◌, ◌-◌, true, false, length, get_or, is_open, IsNoted, mark_count}
use Rattle.rx_audit.proofs.ClosingBelow.{IsPassing}
use Rattle.rx_audit.proofs.closing.close_from.Given as goal

abbrev pub invariant-loop-i : goal.invariant-loop-i
invariant-loop-i l = record {
  passing : IsPassing l.past l.fn.event l.i l.marks l.todo.items;
  noted : (n : ℕ) → is_open l.past n ≡ true → get_or l.marks n false ≡ false → IsNoted 0 l.todo.items n;
  balance : mark_count l.marks + length l.todo.items ≡ mark_count l.initial.marks + 1;
}

abbrev pub decreases-loop-i : goal.decreases-loop-i
decreases-loop-i l = mark_count l.marks + length l.todo.items - l.i
