use Rattle.rx_audit.proofs.Common.{ℕ, ◌<◌, get_or, Keeps, IsLostNoted}
use Rattle.rx_audit.proofs.duties.note_left.Given as goal

abbrev pub invariant-loop-s : goal.invariant-loop-s
invariant-loop-s l = record {
  keeps : Keeps l.initial.due.items l.due.items;
  lost : (k : ℕ) → k < l.s-index → IsLostNoted l.past (get_or l.closed k 0) l.hubs.connection.items l.due.items;
}
