use Rattle.rx_audit.proofs.Common.{◌≡◌, ℕ, suc, ◌≤◌, true, Keeps, IsNoted, on_list}
use Rattle.rx_audit.proofs.duties.note_subscribers.Given as goal

abbrev pub invariant-loop-next : goal.invariant-loop-next
invariant-loop-next l = record {
  keeps : Keeps l.initial.due.items l.due.items;
  all : (k : ℕ) → on_list l.past l.subs.listed.items l.g k ≡ true → l.next ≤ k → IsNoted 0 l.due.items k;
  here : (k : ℕ) → l.next ≡ suc k → on_list l.past l.subs.listed.items l.g k ≡ true;
}

abbrev pub decreases-loop-next : goal.decreases-loop-next
decreases-loop-next l = l.next
