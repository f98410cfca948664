use Rattle.rx_slots.proofs.Common.{◌≡◌, ℕ, ◌<◌, ◌≤◌, None, entry_at}
use Rattle.rx_slots.proofs.Slots.next_key.Given as goal

-- nothing stands at the slots that were looked at
abbrev pub invariant-loop-slot : goal.invariant-loop-slot
invariant-loop-slot g l = (slot : ℕ) → l.from ≤ slot → slot < l.slot → entry_at l.self slot ≡ None
