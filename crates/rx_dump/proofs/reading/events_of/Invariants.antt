-- The events that were read, before those that are left.
use Rattle.std.proofs.Common.{length}
use Rattle.rx_dump.proofs.EventsRead.{AreEventsBefore}
use Rattle.rx_dump.proofs.reading.events_of.Given as goal

abbrev pub invariant-events : goal.invariant-events
invariant-events l = AreEventsBefore l.initial.reader l.reader l.history.items

abbrev pub decreases-events : goal.decreases-events
decreases-events l = length l.reader
