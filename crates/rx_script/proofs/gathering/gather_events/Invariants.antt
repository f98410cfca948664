-- The whole history is counted up to a place.
use Rattle.rx_script.proofs.Common.{◌≡◌, ◌-◌, List, length, Event, nothing_kept, IsLawful, AreCountsOf, GoesOnFromFront}
use Rattle.rx_script.proofs.TakenUp.{Counted}
use Rattle.rx_script.proofs.gathering.gather_events.Given as goal

abbrev pub invariant-loop-event : goal.invariant-loop-event
invariant-loop-event g l = record {
  counts : (front h : List Event) → AreCountsOf front l.initial.tallies → GoesOnFromFront front h l.book → IsLawful nothing_kept h → Counted front h l.tallies;
  notes : l.tallies.notes ≡ l.initial.tallies.notes;
}

abbrev pub decreases-loop-event : goal.decreases-loop-event
decreases-loop-event g l = length l.book.history - l.tallies.events
