-- A front of the history is copied, where no checkpoint was made.
use Rattle.rx_script.proofs.Common.{◌≡◌, ◌-◌, length, take, vec_len, nothing_kept}
use Rattle.rx_script.proofs.report.events_of.Given as goal

abbrev pub invariant-loop-event : goal.invariant-loop-event
invariant-loop-event g l = l.book.base ≡ nothing_kept → l.events.items ≡ take (vec_len l.events) l.book.history

abbrev pub decreases-loop-event : goal.decreases-loop-event
decreases-loop-event g l = length l.book.history - vec_len l.events
