use Rattle.rx_audit.proofs.Common.{◌≡◌, ℕ, suc, ◌+◌, true, length, sum_by, falling, on_list}
use Rattle.rx_audit.proofs.subscribers.subscribers_of.Given as goal

abbrev pub invariant-loop-next : goal.invariant-loop-next
invariant-loop-next l = record {
  rest : (number : ℕ → ℕ) → sum_by number l.found.items + sum_by number (falling (on_list l.past l.subs.listed.items l.g) l.next)
      ≡ sum_by number (falling (on_list l.past l.subs.listed.items l.g) (length l.past));
  here : (s : ℕ) → l.next ≡ suc s → on_list l.past l.subs.listed.items l.g s ≡ true;
}

abbrev pub decreases-loop-next : goal.decreases-loop-next
decreases-loop-next l = l.next
